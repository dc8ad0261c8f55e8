use Rattle.std.proofs.Common.{arith}
use Rattle.morsel_drive.proofs.TurnLemmas.{in_need}
use Rattle.morsel_drive.proofs.caller.read_on.Goals as goal

pub returns-in-Err-clause-reads : goal.returns-in-Err-clause-reads
returns-in-Err-clause-reads g c = let r = c.in-Err.ensures.reads in record {
  reads = r.reads;
  does = r.does;
  are = r.are;
  did_them = r.did_them;
  sought_them = λ job reads ends.
      (in_need _ c.args.bound _ _ c.args.written.now.next _ _ ends (omega (arith, c.given.ensures, c.saturating_sub.ensures)) (r.sought_them job reads).0, tt);
}

pub returns-in-Ok-None-clause-reads : goal.returns-in-Ok-None-clause-reads
returns-in-Ok-None-clause-reads g c = let r = c.in-Ok-None.ensures.reads in record {
  reads = r.reads;
  does = r.does;
  are = r.are;
  did_them = r.did_them;
  sought_them = λ job reads ends. let s = r.sought_them job reads in
      (in_need _ c.args.bound _ _ c.args.written.now.next _ _ ends (omega (arith, c.given.ensures, c.saturating_sub.ensures)) s.0, s.1);
}

pub returns-in-Ok-Some-clause-reads : goal.returns-in-Ok-Some-clause-reads
returns-in-Ok-Some-clause-reads g c = let r = c.in-Ok-Some.ensures.reads in record {
  reads = r.reads;
  does = r.does;
  are = r.are;
  did_them = r.did_them;
  sought_them = λ job reads ends. let s = r.sought_them job reads in
      (in_need _ c.args.bound _ _ c.args.written.now.next _ _ ends (omega (arith, c.given.ensures, c.saturating_sub.ensures)) s.0, s.1);
}
