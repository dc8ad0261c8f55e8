use Rattle.std.proofs.Common.{arith, inr, false, true, [], ◌∷◌}
use Rattle.morsel_outside.specs.Actions.{Writing}
use Rattle.morsel_drive.proofs.TransferLemmas.{stays}
use Rattle.morsel_drive.proofs.TurnLemmas.{wrote_nothing, wrote_more, wrote_all, write_stopped}
use Rattle.morsel_drive.proofs.caller.write_on.Goals as goal

pub parts-init : goal.parts-init
parts-init g c = record { made = c.requires.made; stays = λ begun was. was; told = λ job is. is; rows = c.requires.rows; joined = λ is. is; within = λ size given next. next; more = omega arith; small = λ few. few; stands = wrote_nothing _ _ _ _ }

pub parts-preserved : goal.parts-preserved
parts-preserved g c =
    let w = c.in_default.ensures.writes in
    let same = stays _ _ (Writing c.in-Part.part.bytes ∷ []) (inr tt, tt) w.3 in record {
      made = let some = c.parts.invariant.made in let sinks = same.sinks in omega (arith, some, sinks);
      stays = λ begun was. c.in-Part.ensures.stays begun (c.parts.invariant.stays begun was);
      told = λ job is. c.parts.invariant.told job (c.in-Part.ensures.told job is);
      rows = c.in_default.ensures.rows;
      joined = λ is. c.in-Part.ensures.joined (c.parts.invariant.joined is);
      within = λ size given next. c.in_default.ensures.within size given (c.parts.invariant.within size given next);
      more = let one = c.parts.invariant.more in let two = c.in_default.ensures.more in omega (arith, one, two);
      small = λ few. c.in_default.ensures.small (c.parts.invariant.small few);
      stands = wrote_more _ _ _ _ _ _ _ _ _ _ c.in-Part.part c.parts.invariant.stands (λ job serving. c.in-Part.ensures.serves job serving)
          (λ job serving. c.in-Part.ensures.suits job serving) w;
    }

pub returns-in-Empty-clause-writes : goal.returns-in-Empty-clause-writes
returns-in-Empty-clause-writes g c = wrote_all _ _ _ _ _ _ _ _ false c.parts.invariant.stands (λ job serving. c.in-Empty.ensures.serves job serving)

pub returns-in-Whole-clause-writes : goal.returns-in-Whole-clause-writes
returns-in-Whole-clause-writes g c = wrote_all _ _ _ _ _ _ _ _ true c.parts.invariant.stands (λ job serving. c.in-Whole.ensures.serves job serving)

pub returns-in-Err-clause-writes : goal.returns-in-Err-clause-writes
returns-in-Err-clause-writes g c = write_stopped _ _ _ (g.L.Line.serves c.take.new.self) _ _ _ _ _ _ c.in-Part.part c.in-Err.fault c.parts.invariant.stands (λ job serving. c.in-Part.ensures.suits job serving) c.in-Err.ensures.writes

pub returns-clause-writes : goal.returns-clause-writes
returns-clause-writes g c = wrote_all _ _ _ _ _ _ _ _ false c.parts.invariant.stands (λ job serving. serving)
