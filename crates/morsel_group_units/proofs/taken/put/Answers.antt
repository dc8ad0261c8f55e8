use Rattle.std.proofs.Common.{rules, ◌≡◌, ◌++◌, ◌∷◌, [], Option, sym, subst}
use Rattle.morsel_meaning.specs.declared.fault.Fault.{Fault}
use Rattle.morsel_group_units.specs.LocalTakings.{HoldAllLoads, HoldsLoads}
use Rattle.morsel_group_units.proofs.TakingLemmas.{all_behind, all_fault, all_put, all_short}
use Rattle.morsel_group_units.proofs.taken.put.Goals as goal
use Rattle.morsel_group_units.proofs.taken.put.Goals.{in-Ok, in-Err+in-Some+in-ColumnNotFound-1, in-Err+in-Some+in-SchemaMismatch-1, in-Err+in-Some+in-Duplicate-1, in-Err+in-Some+in-OutOfMemory-1, in-Err+in-None-1}

pub returns-then-is_some : goal.returns-then-is_some
returns-then-is_some c = record { holds = λ wanted rows before more hold own. all_behind wanted c.args.locals.now.items before more c.args.held.now (search rules) hold }

pub returns-in-Some : goal.returns-in-Some
returns-in-Some c = record { holds = λ wanted rows before more hold own. all_fault wanted c.args.locals.now.items c.args.local rows before more c.in-Some.fault (subst (λ (h : Option Fault). HoldsLoads wanted c.args.local rows h more) c.in-Some.is own) }

pub returns-after-push : goal.returns-after-push
returns-after-push c = record {
  holds = λ wanted rows before more hold own.
      let all = before ++ more in
      elim c.match-push.branch [
        | in-Ok w ↦
            let pushed : c.push.new.self.items ≡ c.args.locals.now.items ++ c.args.local ∷ [] = w.in-Ok.ensures.items in
            subst (λ (h : Option Fault). HoldAllLoads wanted c.push.new.self.items h all) (sym w.held-is) (all_put wanted c.args.locals.now.items c.push.new.self.items c.args.local rows before more c.args.held.now c.args.fault (search rules) c.in-None.is pushed hold own)
        | in-Err+in-Some+in-ColumnNotFound-1 w ↦ all_short wanted c.push.new.self.items c.match-push.held all w.held-is
        | in-Err+in-Some+in-SchemaMismatch-1 w ↦ all_short wanted c.push.new.self.items c.match-push.held all w.held-is
        | in-Err+in-Some+in-Duplicate-1 w ↦ all_short wanted c.push.new.self.items c.match-push.held all w.held-is
        | in-Err+in-Some+in-OutOfMemory-1 w ↦ all_short wanted c.push.new.self.items c.match-push.held all w.held-is
        | in-Err+in-None-1 w ↦ all_short wanted c.push.new.self.items c.match-push.held all w.held-is
      ];
}
