-- Keys that are refused.
use Rattle.std.proofs.Common.{◌≡◌, ◌≢◌, ◌≤◌, List, ℕ, length, refl, arith, ◌∙◌, Bool, true, false, if◌then◌else◌}
use Rattle.std.specs.Prelude.{Result, Ok, Err, nat_lt}
use Rattle.morsel_meaning.specs.declared.fault.Fault.{Fault}
use Rattle.morsel_meaning.specs.declared.fault.Fault.TheVariants as faults
use Rattle.morsel_meaning.specs.declared.fault.ComputeKind.TheVariants as kinds
use Rattle.morsel_keys.specs.Slots.{IsNewKey, RefusesKey, no_number}
use Rattle.morsel_row_keys.specs.Chains.{refusal_of}

-- a refusal that is not of memory
pub refused_new : {K : Type 0} (keys : List K) (key : K) (fault : Fault) → RefusesKey keys key (Err fault) → fault ≢ faults.OutOfMemory → (fault ≡ faults.ComputeError kinds.TooManyGroups 4294967295 0) × IsNewKey key keys
refused_new keys key faults.OutOfMemory refused other = absurd (other refl)
refused_new keys key (faults.ReadFault file) refused other = (refused.0, refused.1)
refused_new keys key faults.WriteFault refused other = (refused.0, refused.1)
refused_new keys key (faults.InvalidQuery why) refused other = (refused.0, refused.1)
refused_new keys key (faults.Malformed file at) refused other = (refused.0, refused.1)
refused_new keys key (faults.Unsupported file code) refused other = (refused.0, refused.1)
refused_new keys key (faults.ColumnNotFound name) refused other = (refused.0, refused.1)
refused_new keys key (faults.SchemaMismatch name) refused other = (refused.0, refused.1)
refused_new keys key (faults.Duplicate name) refused other = (refused.0, refused.1)
refused_new keys key (faults.ComputeError kind file at) refused other = (refused.0, refused.1)
refused_new keys key faults.QueryText refused other = (refused.0, refused.1)
refused_new keys key faults.Usage refused other = (refused.0, refused.1)

-- why a key is refused, by why a part of it is
pub refused_by : {K : Type 0} (keys : List K) (key : K) (fault : Fault) (count : ℕ) → count ≡ length keys → count ≤ no_number → (fault ≢ faults.OutOfMemory → (fault ≡ faults.ComputeError kinds.TooManyGroups 4294967295 0) × IsNewKey key keys) → RefusesKey keys key (Err (refusal_of fault count))
refused_by {K} keys key faults.OutOfMemory count is within new = tt
refused_by {K} keys key (faults.ReadFault file) count is within new = let bad = (new (λ e. cc)).0 in cc
refused_by {K} keys key faults.WriteFault count is within new = let bad = (new (λ e. cc)).0 in cc
refused_by {K} keys key (faults.InvalidQuery why) count is within new = let bad = (new (λ e. cc)).0 in cc
refused_by {K} keys key (faults.Malformed file at) count is within new = let bad = (new (λ e. cc)).0 in cc
refused_by {K} keys key (faults.Unsupported file code) count is within new = let bad = (new (λ e. cc)).0 in cc
refused_by {K} keys key (faults.ColumnNotFound name) count is within new = let bad = (new (λ e. cc)).0 in cc
refused_by {K} keys key (faults.SchemaMismatch name) count is within new = let bad = (new (λ e. cc)).0 in cc
refused_by {K} keys key (faults.Duplicate name) count is within new = let bad = (new (λ e. cc)).0 in cc
refused_by {K} keys key faults.QueryText count is within new = let bad = (new (λ e. cc)).0 in cc
refused_by {K} keys key faults.Usage count is within new = let bad = (new (λ e. cc)).0 in cc
refused_by {K} keys key (faults.ComputeError kind file at) count is within new = by (nat_lt count no_number) refl
  where
    by : (t : Bool) → nat_lt count no_number ≡ t → RefusesKey keys key (Err (if t then faults.OutOfMemory else faults.ComputeError kind file at))
    by true q = tt
    by false q = let known = new (λ e. cc) in (known.0, known.1, grind (arith, is, within, q))

-- a key is refused where another is, which is new where this one is
pub refuses_shown : {K L : Type 0} (keys : List K) (key : K) (others : List L) (other : L) (r : Result ℕ Fault) → (IsNewKey key keys → IsNewKey other others) → length others ≡ length keys → RefusesKey keys key r → RefusesKey others other r
refuses_shown keys key others other (Ok at) new len refused = refused
refuses_shown keys key others other (Err faults.OutOfMemory) new len refused = tt
refuses_shown keys key others other (Err (faults.ReadFault file)) new len refused = (refused.0, new refused.1, len ∙ refused.2)
refuses_shown keys key others other (Err faults.WriteFault) new len refused = (refused.0, new refused.1, len ∙ refused.2)
refuses_shown keys key others other (Err (faults.InvalidQuery why)) new len refused = (refused.0, new refused.1, len ∙ refused.2)
refuses_shown keys key others other (Err (faults.Malformed file at)) new len refused = (refused.0, new refused.1, len ∙ refused.2)
refuses_shown keys key others other (Err (faults.Unsupported file code)) new len refused = (refused.0, new refused.1, len ∙ refused.2)
refuses_shown keys key others other (Err (faults.ColumnNotFound name)) new len refused = (refused.0, new refused.1, len ∙ refused.2)
refuses_shown keys key others other (Err (faults.SchemaMismatch name)) new len refused = (refused.0, new refused.1, len ∙ refused.2)
refuses_shown keys key others other (Err (faults.Duplicate name)) new len refused = (refused.0, new refused.1, len ∙ refused.2)
refuses_shown keys key others other (Err (faults.ComputeError kind file at)) new len refused = (refused.0, new refused.1, len ∙ refused.2)
refuses_shown keys key others other (Err faults.QueryText) new len refused = (refused.0, new refused.1, len ∙ refused.2)
refuses_shown keys key others other (Err faults.Usage) new len refused = (refused.0, new refused.1, len ∙ refused.2)
