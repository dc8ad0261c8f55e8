-- The flaws of a query, and those of its parts.
use Rattle.std.proofs.Common.{inl, inr, ℕ, List, Option, Some, None}
use Rattle.morsel_meaning.specs.declared.fault.Fault.{Fault}
use Rattle.morsel_meaning.specs.declared.fault.Fault.TheVariants as faults
use Rattle.morsel_meaning.specs.declared.fault.Why.{Why}
use Rattle.morsel_meaning.specs.declared.fault.Why.TheVariants as whys
use Rattle.morsel_query.specs.RunOptions.{AreInRange}
use Rattle.morsel_query.specs.QueryFlaws.{AreSound, IsFlaw, keys_of_group}
use Rattle.morsel_query.proofs.SoundLemmas.{sound_has_no_flaw}
use Rattle.morsel_query_text.specs.Written.{WrittenScan, WrittenJoin, WrittenQuery}
use Rattle.morsel_query_text.specs.TextFlaws.{HasScan, HasNoBytes, IsTooDeep, right_scans, sides_written, keys_written, HasTextFlaw, IsFlawless}
use Rattle.morsel_query_text.specs.Answers.{HasReadingFlaw, IsReadable, RefusesReading, IsRightReadable, RefusesRight, RefusesFlaw}

-- a flaw of the sides, the keys or the sink's name is one of the query
pub side_flaw_is : (query : WrittenQuery) (out : List ℕ) (why : Why) → IsFlaw (sides_written query) (keys_written query) (keys_of_group query.group) out why → HasTextFlaw query out why
side_flaw_is query out whys.ParseBytes flaw = absurd flaw
side_flaw_is query out whys.PredDepth flaw = absurd flaw
side_flaw_is query out whys.OptionRange flaw = absurd flaw
side_flaw_is query out whys.NoSource flaw = flaw
side_flaw_is query out whys.ManySources flaw = flaw
side_flaw_is query out whys.NoColumn flaw = flaw
side_flaw_is query out whys.SinkIsSource flaw = flaw
side_flaw_is query out whys.BlockFiles flaw = absurd flaw
side_flaw_is query out whys.NoKeys flaw = flaw
side_flaw_is query out whys.RepeatedKey flaw = flaw
side_flaw_is query out whys.UnequalKeys flaw = flaw

-- a flaw of the left scan is one of the query
left_flaw_is : (query : WrittenQuery) (out : List ℕ) (why : Why) → HasReadingFlaw query.left why → HasTextFlaw query out why
left_flaw_is query out whys.ParseBytes flaw = inl flaw
left_flaw_is query out whys.PredDepth flaw = inl flaw
left_flaw_is query out whys.OptionRange flaw = absurd flaw
left_flaw_is query out whys.NoSource flaw = absurd flaw
left_flaw_is query out whys.ManySources flaw = absurd flaw
left_flaw_is query out whys.NoColumn flaw = absurd flaw
left_flaw_is query out whys.SinkIsSource flaw = absurd flaw
left_flaw_is query out whys.BlockFiles flaw = absurd flaw
left_flaw_is query out whys.NoKeys flaw = absurd flaw
left_flaw_is query out whys.RepeatedKey flaw = absurd flaw
left_flaw_is query out whys.UnequalKeys flaw = absurd flaw

pub left_refused : (query : WrittenQuery) (out : List ℕ) (fault : Fault) → RefusesReading query.left fault → RefusesFlaw query out fault
left_refused query out faults.OutOfMemory refused = tt
left_refused query out (faults.InvalidQuery why) refused = left_flaw_is query out why refused
left_refused query out (faults.Duplicate name) refused = refused
left_refused query out faults.QueryText refused = refused
left_refused query out (faults.ReadFault file) refused = refused
left_refused query out faults.WriteFault refused = refused
left_refused query out (faults.Malformed file at) refused = refused
left_refused query out (faults.Unsupported file code) refused = refused
left_refused query out (faults.ColumnNotFound name) refused = refused
left_refused query out (faults.SchemaMismatch name) refused = refused
left_refused query out (faults.ComputeError kind file at) refused = refused
left_refused query out faults.Usage refused = refused

-- the flaw that is named of a right scan, where there is one
abbrev HasRightFlaw : Option WrittenJoin → Why → Type 0
HasRightFlaw None why = ⊥
HasRightFlaw (Some join) why = HasReadingFlaw join.right why

right_flaw_in : (P : WrittenScan → Type 0) (join : Option WrittenJoin) (why : Why) → ((scan : WrittenScan) → HasReadingFlaw scan why → P scan) → HasRightFlaw join why → HasScan P (right_scans join)
right_flaw_in P None why is flaw = absurd flaw
right_flaw_in P (Some join) why is flaw = inl (is join.right flaw)

no_right_flaw : (A : Type 0) (join : Option WrittenJoin) (why : Why) → ((scan : WrittenScan) → HasReadingFlaw scan why → ⊥) → HasRightFlaw join why → A
no_right_flaw A None why none flaw = absurd flaw
no_right_flaw A (Some join) why none flaw = absurd (none join.right flaw)

-- a flaw of the right scan is one of the query
right_flaw_is : (query : WrittenQuery) (out : List ℕ) (why : Why) → HasRightFlaw query.join why → HasTextFlaw query out why
right_flaw_is query out whys.ParseBytes flaw = inr (right_flaw_in (λ scan. HasNoBytes scan.format) query.join whys.ParseBytes (λ scan is. is) flaw)
right_flaw_is query out whys.PredDepth flaw = inr (right_flaw_in (λ scan. IsTooDeep scan.filter) query.join whys.PredDepth (λ scan is. is) flaw)
right_flaw_is query out whys.OptionRange flaw = no_right_flaw _ query.join whys.OptionRange (λ scan is. is) flaw
right_flaw_is query out whys.NoSource flaw = no_right_flaw _ query.join whys.NoSource (λ scan is. is) flaw
right_flaw_is query out whys.ManySources flaw = no_right_flaw _ query.join whys.ManySources (λ scan is. is) flaw
right_flaw_is query out whys.NoColumn flaw = no_right_flaw _ query.join whys.NoColumn (λ scan is. is) flaw
right_flaw_is query out whys.SinkIsSource flaw = no_right_flaw _ query.join whys.SinkIsSource (λ scan is. is) flaw
right_flaw_is query out whys.BlockFiles flaw = no_right_flaw _ query.join whys.BlockFiles (λ scan is. is) flaw
right_flaw_is query out whys.NoKeys flaw = no_right_flaw _ query.join whys.NoKeys (λ scan is. is) flaw
right_flaw_is query out whys.RepeatedKey flaw = no_right_flaw _ query.join whys.RepeatedKey (λ scan is. is) flaw
right_flaw_is query out whys.UnequalKeys flaw = no_right_flaw _ query.join whys.UnequalKeys (λ scan is. is) flaw

pub right_refused : (query : WrittenQuery) (out : List ℕ) (fault : Fault) → RefusesRight query.join fault → RefusesFlaw query out fault
right_refused query out fault refused = by query.join fault refused (λ why flaw. right_flaw_is query out why flaw)
  where
    by : (join : Option WrittenJoin) (f : Fault) → RefusesRight join f → ((why : Why) → HasRightFlaw join why → HasTextFlaw query out why) → RefusesFlaw query out f
    by join faults.OutOfMemory told is = tt
    by None (faults.InvalidQuery why) told is = absurd told
    by (Some join) (faults.InvalidQuery why) told is = is why told
    by None (faults.Duplicate name) told is = told
    by (Some join) (faults.Duplicate name) told is = told
    by None faults.QueryText told is = told
    by (Some join) faults.QueryText told is = told
    by None (faults.ReadFault file) told is = told
    by (Some join) (faults.ReadFault file) told is = told
    by None faults.WriteFault told is = told
    by (Some join) faults.WriteFault told is = told
    by None (faults.Malformed file at) told is = told
    by (Some join) (faults.Malformed file at) told is = told
    by None (faults.Unsupported file code) told is = told
    by (Some join) (faults.Unsupported file code) told is = told
    by None (faults.ColumnNotFound name) told is = told
    by (Some join) (faults.ColumnNotFound name) told is = told
    by None (faults.SchemaMismatch name) told is = told
    by (Some join) (faults.SchemaMismatch name) told is = told
    by None (faults.ComputeError kind file at) told is = told
    by (Some join) (faults.ComputeError kind file at) told is = told
    by None faults.Usage told is = told
    by (Some join) faults.Usage told is = told

none_right : (P : WrittenScan → Type 0) (join : Option WrittenJoin) → IsRightReadable join → ((scan : WrittenScan) → IsReadable scan → P scan → ⊥) → HasScan P (right_scans join) → ⊥
none_right P None readable none has = has
none_right P (Some join) readable none has = elim has [ inl here ↦ none join.right readable here | inr there ↦ there ]

-- a query has no flaw whose options are in range, whose sides, keys and sink have none, and whose scans have none
pub flawless_is : (query : WrittenQuery) (out : List ℕ) → ((AreInRange query.options → ⊥) → ⊥) → AreSound (sides_written query) (keys_written query) (keys_of_group query.group) out
    → IsReadable query.left → IsRightReadable query.join → IsFlawless query out
flawless_is query out range sound left right whys.OptionRange flaw = range flaw
flawless_is query out range sound left right whys.ParseBytes flaw =
    elim flaw [ inl here ↦ left whys.ParseBytes here | inr there ↦ none_right (λ scan. HasNoBytes scan.format) query.join right (λ scan is. is whys.ParseBytes) there ]
flawless_is query out range sound left right whys.PredDepth flaw =
    elim flaw [ inl here ↦ left whys.PredDepth here | inr there ↦ none_right (λ scan. IsTooDeep scan.filter) query.join right (λ scan is. is whys.PredDepth) there ]
flawless_is query out range sound left right whys.NoSource flaw = sound_has_no_flaw (sides_written query) (keys_written query) (keys_of_group query.group) out whys.NoSource sound flaw
flawless_is query out range sound left right whys.ManySources flaw = sound_has_no_flaw (sides_written query) (keys_written query) (keys_of_group query.group) out whys.ManySources sound flaw
flawless_is query out range sound left right whys.NoColumn flaw = sound_has_no_flaw (sides_written query) (keys_written query) (keys_of_group query.group) out whys.NoColumn sound flaw
flawless_is query out range sound left right whys.SinkIsSource flaw = sound_has_no_flaw (sides_written query) (keys_written query) (keys_of_group query.group) out whys.SinkIsSource sound flaw
flawless_is query out range sound left right whys.BlockFiles flaw = flaw
flawless_is query out range sound left right whys.NoKeys flaw = sound_has_no_flaw (sides_written query) (keys_written query) (keys_of_group query.group) out whys.NoKeys sound flaw
flawless_is query out range sound left right whys.RepeatedKey flaw = sound_has_no_flaw (sides_written query) (keys_written query) (keys_of_group query.group) out whys.RepeatedKey sound flaw
flawless_is query out range sound left right whys.UnequalKeys flaw = sound_has_no_flaw (sides_written query) (keys_written query) (keys_of_group query.group) out whys.UnequalKeys sound flaw
