use Rattle.std.proofs.Common.{◌≡◌, ◌∙◌, ℕ, Bool, sym, ap, subst, length, List, map}
use Rattle.std.proofs.lemmas.Result.{err_from_is_err_and}
use Rattle.morsel_meaning.specs.declared.value.ColType.{ColType}
use Rattle.morsel_meaning.specs.declared.fault.Fault.{Fault}
use Rattle.morsel_grammar.specs.Dialect.{Dialect}
use Rattle.morsel_meaning.specs.Values.{Row, kinds_of}
use Rattle.morsel_frame.specs.Columns.{Values}
use Rattle.morsel_frame.specs.Frames.{rows_of, Fit}
use Rattle.morsel_grammar.specs.Reading.{Read, reading, read_of, chosen}
use Rattle.morsel_grammar.specs.Results.{IsRefused}
use Rattle.morsel_text.specs.Pushes.{column_kinds}
use Rattle.morsel_text.specs.Steps.{AreHigh}
use Rattle.morsel_text.proofs.StepLemmas.{kinds-empty, length-empty, high-empty, same_width, fit-chosen}
use Rattle.morsel_text.proofs.read.read_columns.Goals as goal

pub read_all-requires-clause-used : goal.read_all-requires-clause-used
read_all-requires-clause-used c = c.requires.used ∙ sym (ap length c.in_ok-columns.ensures.ok ∙ length-empty c.args.reader.now.schema.now)

pub read_all-requires-clause-empty : goal.read_all-requires-clause-empty
read_all-requires-clause-empty c =
    subst (λ (cs : List Values). AreHigh 0 (chosen c.args.reader.now.used.now cs)) (sym c.in_ok-columns.ensures.ok) (high-empty c.args.reader.now.used.now c.args.reader.now.schema.now)

pub chosen_columns-requires : goal.chosen_columns-requires
chosen_columns-requires c =
    c.requires.used ∙ sym (same_width c.in_ok-columns.columns.items c.read_all.new.columns.items c.in_ok-height.ensures.4
    ∙ ap length c.in_ok-columns.ensures.ok ∙ length-empty c.args.reader.now.schema.now)

pub returns : goal.returns
returns c =
    let kinds : column_kinds c.in_ok-columns.columns.items ≡ kinds_of c.args.reader.now.schema.now = ap column_kinds c.in_ok-columns.ensures.ok ∙ kinds-empty c.args.reader.now.schema.now in
    let used = c.args.reader.now.used.now in
    let kept = c.in_ok-kept.kept.items in
    let height = c.in_ok-height.height in
    let all = c.in_ok-height.ensures in
    let same : kept ≡ chosen used c.read_all.new.columns.items = c.in_ok-kept.ensures.ok in
    let types : column_kinds c.read_all.new.columns.items ≡ kinds_of c.args.reader.now.schema.now = all.4 ∙ kinds in
    let read : List ColType → Read = λ ks. read_of used (reading c.args.reader.now.options.now ks c.args.head c.args.at c.args.bytes.now) in (
      ap (λ (ks : List ColType). (read ks).refusal) (sym kinds) ∙ all.0,
      ap (rows_of height) same ∙ sym all.1 ∙ ap (λ (ks : List ColType). map (λ (r : ℕ × Row). r.1) (read ks).rows) kinds,
      sym all.2 ∙ ap (λ (ks : List ColType). (read ks).head) kinds,
      subst (λ (cs : List Values). Fit (chosen used c.args.reader.now.schema.now) height cs) (sym same)
          (fit-chosen height used c.args.reader.now.schema.now c.read_all.new.columns.items types all.3),
    )

-- a fault under the types of the columns is one under those of the schema
same_refused : (file : ℕ) (o : Dialect) (used : List Bool) (head : Bool) (at : ℕ) (bytes : List ℕ) (fault : Fault) (ks kinds : List ColType) → ks ≡ kinds
    → IsRefused file (read_of used (reading o ks head at bytes)).refusal fault → IsRefused file (read_of used (reading o kinds head at bytes)).refusal fault
same_refused file o used head at bytes fault ks kinds same refused =
    subst (λ (types : List ColType). IsRefused file (read_of used (reading o types head at bytes)).refusal fault) same refused

pub returns-in_err-height : goal.returns-in_err-height
returns-in_err-height c =
    let kinds : column_kinds c.in_ok-columns.columns.items ≡ kinds_of c.args.reader.now.schema.now = ap column_kinds c.in_ok-columns.ensures.ok ∙ kinds-empty c.args.reader.now.schema.now in
    let p = err_from_is_err_and c.from_residual-in_err-height.result c.from_residual-in_err-height.ensures.1 in
    rw (p.1, p.2) (same_refused c.args.reader.now.file c.args.reader.now.options.now c.args.reader.now.used.now c.args.head c.args.at c.args.bytes.now _ _ _ kinds c.in_err-height.ensures)
