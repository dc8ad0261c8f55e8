use Rattle.std.proofs.Common.{rules, arith, ◌≡◌, ◌∙◌, ◌++◌, ◌+◌, refl, ap, sym}
use Rattle.std.proofs.lemmas.List.{append-nil}
use Rattle.morsel_frame.specs.Frames.{rows_of}
use Rattle.morsel_frame.proofs.RowLemmas.{level-tall, framed-level, framed-nothing, framed-below, range-framed}
use Rattle.morsel_frame.proofs.frame.put_below.Goals as goal

pub returns-then-more-eq0-clause-rows : goal.returns-then-more-eq0-clause-rows
returns-then-more-eq0-clause-rows c =
    let nothing = framed-nothing c.args.schema.now c.args.more c.args.others.now (search rules) c.requires.others_framed in
    let same : c.args.height + c.args.more ≡ c.args.height = omega arith in
    ap (λ n. rows_of n c.args.columns.now.items) same
    ∙ sym (append-nil (rows_of c.args.height c.args.columns.now.items))
    ∙ ap (λ rows. rows_of c.args.height c.args.columns.now.items ++ rows) (sym nothing)

pub range_of_each-requires-clause-within : goal.range_of_each-requires-clause-within
range_of_each-requires-clause-within c =
    level-tall c.args.more c.args.more c.args.others.now (omega arith) (framed-level c.args.schema.now c.args.more c.args.others.now c.requires.others_framed)

pub returns-then-height-eq0-clause-framed : goal.returns-then-height-eq0-clause-framed
returns-then-height-eq0-clause-framed c =
    let same : c.args.height + c.args.more ≡ c.args.more = omega arith in
    rw (c.in_ok-columns.ensures.ok, range-framed c.args.schema.now c.args.more c.args.others.now c.requires.others_framed, same) c.requires.others_framed

pub returns-then-height-eq0-clause-rows : goal.returns-then-height-eq0-clause-rows
returns-then-height-eq0-clause-rows c =
    let same : c.args.height + c.args.more ≡ c.args.more = omega arith in
    rw (
      c.in_ok-columns.ensures.ok,
      range-framed c.args.schema.now c.args.more c.args.others.now c.requires.others_framed,
      same,
      framed-nothing c.args.schema.now c.args.height c.args.columns.now.items (omega arith) c.requires.framed,
    ) refl

pub stack-requires-clause-alike : goal.stack-requires-clause-alike
stack-requires-clause-alike c =
    (framed-below c.args.schema.now c.args.height c.args.more c.args.columns.now.items c.args.others.now (omega arith) (omega arith) c.requires.framed c.requires.others_framed).0

pub stack-requires-clause-level : goal.stack-requires-clause-level
stack-requires-clause-level c =
    framed-level c.args.schema.now c.args.height c.args.columns.now.items c.requires.framed

pub returns-clause-framed : goal.returns-clause-framed
returns-clause-framed c =
    rw c.in_ok-stack.ensures.ok
    (framed-below c.args.schema.now c.args.height c.args.more c.args.columns.now.items c.args.others.now (omega arith) (omega arith) c.requires.framed c.requires.others_framed).1

pub returns-clause-rows : goal.returns-clause-rows
returns-clause-rows c =
    rw c.in_ok-stack.ensures.ok
    (framed-below c.args.schema.now c.args.height c.args.more c.args.columns.now.items c.args.others.now (omega arith) (omega arith) c.requires.framed c.requires.others_framed).2
