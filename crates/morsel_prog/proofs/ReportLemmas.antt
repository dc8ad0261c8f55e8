-- What a report changes.
use Rattle.std.specs.Prelude.{◌≡◌, ℕ, ◌≤◌, Result, Ok, Err, List, [], ◌∷◌}
use Rattle.std.proofs.Common.{sym, ap, subst, ◌∙◌, arith, inl, inr}
use Rattle.morsel_meaning.specs.declared.fault.Fault.{Fault}
use Rattle.morsel_meaning.specs.declared.fault.Fault.TheVariants as faults
use Rattle.morsel_meaning.specs.Faults.{fault_line, fault_status}
use Rattle.morsel_outside.specs.Outside.{Outside, with_last}
use Rattle.morsel_outside.specs.Actions.{Printing, FailedPrinting, Rises, Does}
use Rattle.morsel_outside.proofs.ActionLemmas.{with_more-nil, rises_since, rises_by-no_lower}
use Rattle.morsel_outside.proofs.DoesLemmas.{printing-change, failed_printing-change}
use Rattle.morsel_prog.specs.CommandRuns.{OnlyPrints}
use Rattle.morsel_prog.specs.Program.{ReportsFault, Reports, TellsFault}

-- what was printed, and the counts
abbrev pub printed_on : Outside → Outside → Outside
printed_on ran new = record ran { printed = new.printed; write_faults = new.write_faults; print_faults = new.print_faults }

reported_nothing : (ran new : Outside) → new ≡ ran → OnlyPrints ran new
reported_nothing ran new same = record {
  no_lower = let e = ap (λ (o : Outside). o.write_faults) same in omega arith;
  after = same ∙ ap (λ (o : Outside). record ran { printed = o.printed; write_faults = o.write_faults; print_faults = o.print_faults }) (sym same);
}

reported_line : (ran new : Outside) (line : List ℕ) → Does ran (Printing line ∷ []) new → OnlyPrints ran new
reported_line ran new line does = record { no_lower = rises_by-no_lower 0 _ _ does.write_faults; after = printing-change ran new line does }

reported_failure : (ran new : Outside) → Does ran (FailedPrinting ∷ []) new → OnlyPrints ran new
reported_failure ran new does = record { no_lower = rises_by-no_lower 1 _ _ does.write_faults; after = failed_printing-change ran new does }

reported_both : (ran between new : Outside) → OnlyPrints ran between → OnlyPrints between new → OnlyPrints ran new
reported_both ran between new first second = record {
  no_lower = let m = first.no_lower in let n = second.no_lower in omega arith;
  after = second.after ∙ ap (λ (o : Outside). record o { printed = new.printed; write_faults = new.write_faults; print_faults = new.print_faults }) first.after;
}

reported_fault : (ran new : Outside) (fault : Fault) (status : ℕ) → ReportsFault ran fault status new → OnlyPrints ran new
reported_fault ran new fault status (inl h) = reported_line ran new _ h.1
reported_fault ran new fault status (inr (inl h)) = reported_failure ran new h.1
reported_fault ran new fault status (inr (inr h)) = reported_nothing ran new h.1

pub reported : (ran new : Outside) (answer : Result ℕ Fault) (status : ℕ) → Reports ran answer status new → OnlyPrints ran new
reported ran new (Err fault) status h = reported_fault ran new fault status h
reported ran new (Ok count) status (inl h) = reported_line ran new _ h.1
reported ran new (Ok count) status (inr (inl h)) = reported_both ran h.0 new (reported_failure ran h.0 h.1) (reported_fault h.0 new faults.WriteFault status h.2)
reported ran new (Ok count) status (inr (inr h)) = reported_fault ran new faults.OutOfMemory status h

-- the status of a fault is not 0
pub not_zero : (ran new : Outside) (fault : Fault) (status : ℕ) → ReportsFault ran fault status new → status ≡ 0 → ⊥
not_zero ran new fault status (inl h) z = let e = h.0 in omega arith
not_zero ran new fault status (inr (inl h)) z = let e = h.0 in omega arith
not_zero ran new fault status (inr (inr h)) z = let e = h.0 in omega arith

-- what a report says of a fault, since an earlier moment
pub tells_fault : (old ran new : Outside) (fault : Fault) (status : ℕ) → ran.printed ≡ old.printed → old.write_faults ≤ ran.write_faults → ReportsFault ran fault status new → TellsFault old fault status new
tells_fault old ran new fault status same low (inl h) = inl (h.0, h.1.printed ∙ ap (λ p. with_last p (fault_line fault)) same)
tells_fault old ran new fault status same low (inr (inl h)) =
    inr (inl (h.0, h.1.printed ∙ with_more-nil ran.printed ∙ same, rises_since _ _ _ low h.1.write_faults))
tells_fault old ran new fault status same low (inr (inr h)) = inr (inr (h.0, ap (λ (o : Outside). o.printed) h.1 ∙ same))

-- the count of faults of writing rose before a report, and so after it
pub rises_reported : (old ran new : Outside) (fault : Fault) (status : ℕ) → Rises old.write_faults ran.write_faults → ReportsFault ran fault status new → Rises old.write_faults new.write_faults
rises_reported old ran new fault status r (inl h) = subst (Rises old.write_faults) (sym h.1.write_faults) r
rises_reported old ran new fault status r (inr (inl h)) = rises_since _ _ _ r.no_lower h.1.write_faults
rises_reported old ran new fault status r (inr (inr h)) = subst (λ (o : Outside). Rises old.write_faults o.write_faults) (sym h.1) r

-- however out of memory is told, the status is its own
pub memory_status : (ran new : Outside) (status : ℕ) → ReportsFault ran faults.OutOfMemory status new → status ≡ fault_status faults.OutOfMemory
memory_status ran new status (inl h) = h.0
memory_status ran new status (inr (inl h)) = h.0
memory_status ran new status (inr (inr h)) = h.0
