use Rattle.std.proofs.Common.{◌≡◌, ◌+◌, true, false, List, Option, None, Ok, IfSome, refl, ap, subst, sym, ◌∙◌, inr, rules}
use Rattle.morsel_local.specs.Sweeps.{LocalSeen, output_at}
use Rattle.morsel_local.specs.declared.local_task.LocalTask.{LocalTask}
use Rattle.morsel_stage.specs.Unjoined.{unjoined}
use Rattle.morsel_prims.specs.declared.lane.Ended.TheVariants.{Whole}
use Rattle.morsel_stage.proofs.JoinLemmas.{if_none, joined_more, joined_none, others_more}
use Rattle.morsel_stage.proofs.UnjoinedLemmas.{owed_others, owed_task, unjoined_none}
use Rattle.morsel_stage.proofs.join.join_ended.Given.{Over}
use Rattle.morsel_stage.proofs.join.join_ended.Goals.{in-Ok-Whole, in-Ok-Cut, in-Ok-Cut-2}
use Rattle.morsel_stage.proofs.join.join_ended.Goals as goal

true_is_false : true ≡ false → ⊥
true_is_false e = cc

module _ (g : Over) where
  abbrev Seen : Type 0
  Seen = LocalSeen g.row.S-Task.Denot g.row.B.Denot g.row.S-Task-Out.Denot

  abbrev Tasks : Type 0
  Tasks = List (LocalTask g.row.S-Task.Denot g.row.S-Task-Out.Denot)

pub tasks-init : goal.tasks-init
tasks-init g c = record {
  owed = c.requires.owed;
  stays = λ begun was. was;
  same_faults = λ fault may. may;
  same_cx = refl;
  same_home = refl;
  same_capacity = refl;
  joined = λ going. joined_none (λ out. g.S.Stage.tells out (Ok Whole)) c.args.local.now.tasks;
  others = λ n less. refl;
}

pub tasks-preserved-in_default : goal.tasks-preserved-in_default
tasks-preserved-in_default g c =
    let none : None ≡ output_at c.tasks.local.tasks (c.tasks.number + 1) = search rules in
    record {
      owed = subst (λ (ts : Tasks g). g.S.Stage.owes c.tasks.stage (unjoined ts)) (sym (ap (λ (local : Seen g). local.tasks) c.take_out.ensures.taken))
          (subst (g.S.Stage.owes c.tasks.stage) (sym (unjoined_none (c.tasks.number + 1) c.tasks.local.tasks none)) c.tasks.invariant.owed);
      stays = c.tasks.invariant.stays;
      same_faults = c.tasks.invariant.same_faults;
      same_cx = ap (λ (local : Seen g). local.cx) c.take_out.ensures.taken ∙ c.tasks.invariant.same_cx;
      same_home = ap (λ (local : Seen g). local.home) c.take_out.ensures.taken ∙ c.tasks.invariant.same_home;
      same_capacity = ap (λ (local : Seen g). local.capacity) c.take_out.ensures.taken ∙ c.tasks.invariant.same_capacity;
      joined = λ going. joined_more (λ out. g.S.Stage.tells out (Ok Whole)) c.tasks.number _ c.tasks.local.tasks c.take_out.new.self.tasks (ap (λ (local : Seen g). local.tasks) c.take_out.ensures.taken) c.tasks.invariant.others
          (if_none (λ out. g.S.Stage.tells out (Ok Whole)) (output_at c.tasks.local.tasks (c.tasks.number + 1)) (sym none)) (c.tasks.invariant.joined going);
      others = others_more c.tasks.number _ c.tasks.local.tasks c.take_out.new.self.tasks (ap (λ (local : Seen g). local.tasks) c.take_out.ensures.taken) c.tasks.invariant.others;
    }

pub give_back-requires : goal.give_back-requires
give_back-requires g c = record {
  owed = owed_task g.S.Task.Task.gives (g.S.Stage.owes c.tasks.stage) (g.S.Stage.owes c.tasks.stage) c.tasks.local.tasks c.take_out.new.self.tasks (c.tasks.number + 1) c.in-Some.out c.in-Some.ensures.value c.in-Some.ensures.gives c.tasks.invariant.owed;
}

pub returns-in-Err : goal.returns-in-Err
returns-in-Err g c = record {
  whole = tt;
  owed = owed_others g.S.Task.Task.gives (g.S.Stage.owes c.tasks.stage) (g.S.Stage.owes c.give_back.new.self) c.tasks.local.tasks c.take_out.new.self.tasks (c.tasks.number + 1) c.in-Some.out c.in-Some.ensures.value c.in-Some.ensures.gives
      (ap (λ (local : Seen g). local.tasks) c.take_out.ensures.taken) c.tasks.invariant.owed c.give_back.ensures.owed;
  fault = inr (c.tasks.invariant.same_faults c.in-Err.fault c.in-Err.ensures.fault);
  stays = λ begun was. c.give_back.ensures.stays begun (c.tasks.invariant.stays begun was);
  same_faults = λ fault may. c.tasks.invariant.same_faults fault (c.give_back.ensures.same_faults fault may);
  same_cx = ap (λ (local : Seen g). local.cx) c.take_out.ensures.taken ∙ c.tasks.invariant.same_cx;
  same_home = ap (λ (local : Seen g). local.home) c.take_out.ensures.taken ∙ c.tasks.invariant.same_home;
  same_capacity = ap (λ (local : Seen g). local.capacity) c.take_out.ensures.taken ∙ c.tasks.invariant.same_capacity;
}

pub tasks-preserved : goal.tasks-preserved
tasks-preserved g c = record {
  owed = owed_others g.S.Task.Task.gives (g.S.Stage.owes c.tasks.stage) (g.S.Stage.owes c.give_back.new.self) c.tasks.local.tasks c.take_out.new.self.tasks (c.tasks.number + 1) c.in-Some.out c.in-Some.ensures.value c.in-Some.ensures.gives
      (ap (λ (local : Seen g). local.tasks) c.take_out.ensures.taken) c.tasks.invariant.owed c.give_back.ensures.owed;
  stays = λ begun was. c.give_back.ensures.stays begun (c.tasks.invariant.stays begun was);
  same_faults = λ fault may. c.tasks.invariant.same_faults fault (c.give_back.ensures.same_faults fault may);
  same_cx = ap (λ (local : Seen g). local.cx) c.take_out.ensures.taken ∙ c.tasks.invariant.same_cx;
  same_home = ap (λ (local : Seen g). local.home) c.take_out.ensures.taken ∙ c.tasks.invariant.same_home;
  same_capacity = ap (λ (local : Seen g). local.capacity) c.take_out.ensures.taken ∙ c.tasks.invariant.same_capacity;
  joined = λ going.
      elim c.match-give_back.branch [
        | in-Ok-Whole w ↦
            joined_more (λ out. g.S.Stage.tells out (Ok Whole)) c.tasks.number _ c.tasks.local.tasks c.take_out.new.self.tasks (ap (λ (local : Seen g). local.tasks) c.take_out.ensures.taken) c.tasks.invariant.others
            (subst (λ (out : Option g.row.S-Task-Out.Denot). IfSome out (λ o. g.S.Stage.tells o (Ok Whole))) c.in-Some.ensures.value (subst (g.S.Stage.tells c.in-Some.out) (w.in-Ok-Whole.is ∙ ap Ok w.in-Ok-Whole.field-0-is) c.give_back.ensures.told)) (c.tasks.invariant.joined (sym w.stopped-is ∙ going))
        | in-Ok-Cut w ↦ absurd (true_is_false (sym w.stopped-is ∙ going))
        | in-Ok-Cut-2 w ↦ absurd (true_is_false (sym w.stopped-is ∙ going))
      ];
  others = others_more c.tasks.number _ c.tasks.local.tasks c.take_out.new.self.tasks (ap (λ (local : Seen g). local.tasks) c.take_out.ensures.taken) c.tasks.invariant.others;
}
