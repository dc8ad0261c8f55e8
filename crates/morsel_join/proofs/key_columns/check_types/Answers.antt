use Rattle.std.proofs.Common.{◌∙◌, sym, ap, if◌then◌else◌, Some, drop, ◌+◌, get_or, []}
use Rattle.morsel_meaning.specs.declared.value.ColType.TheVariants as types
use Rattle.morsel_meaning.specs.declared.fault.Fault.TheVariants.{SchemaMismatch}
use Rattle.morsel_join.specs.Payloads.{type_fault}
use Rattle.morsel_join.proofs.key_columns.check_types.Goals as goal
use Rattle.morsel_join.proofs.KeyLemmas.{type-step}

pub loop-at-preserved : goal.loop-at-preserved
loop-at-preserved c =
    c.loop-at.invariant
    ∙ type-step c.args.keys.now c.args.kinds.now c.args.others.now c.loop-at.at [] types.Int types.Int c.loop-at-test.true c.requires.kinds c.requires.others
    ∙ ap (λ t. if t then type_fault (drop (c.loop-at.at + 1) c.args.keys.now) (drop (c.loop-at.at + 1) c.args.kinds.now) (drop (c.loop-at.at + 1) c.args.others.now) else Some (SchemaMismatch (get_or c.args.keys.now c.loop-at.at []))) (sym c.is_same_kind.ensures ∙ c.if-not-is_same_kind.false)
