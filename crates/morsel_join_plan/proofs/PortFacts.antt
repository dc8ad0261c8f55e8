-- What the ports of a join's nodes ask of their lanes.
use Rattle.std.proofs.Common.{◌≡◌, ◌⊎◌, inl, inr, ◌∷◌, [], List, Option, Some, None, Result, Ok, Err, All, IfOk, IfSome, refl, sym, ap, subst, ◌∙◌}
use Rattle.std.proofs.lemmas.List.Elements.{All-cons, All-nil, All-weaker}
use Rattle.atomic_table.specs.Seated.{TableId}
use Rattle.morsel_meaning.specs.declared.fault.Fault.{Fault}
use Rattle.morsel_meaning.specs.declared.fault.Fault.TheVariants as faults
use Rattle.morsel_meaning.specs.declared.value.Field.{Field}
use Rattle.morsel_outside.specs.Outside.{Outside}
use Rattle.morsel_load.specs.declared.load.LoadKind.TheVariants.{Morsels, Parts, Pieces}
use Rattle.morsel_lane_pipe.specs.Tasks.{HoldsTokensOf}
use Rattle.morsel_scan.specs.Scans.{CsvScan}
use Rattle.morsel_scan.specs.ScanColumns.{output_fields}
use Rattle.morsel_read.specs.ScanReads.{PiecesRead}
use Rattle.morsel_join.specs.Sides.{KeptSide}
use Rattle.morsel_line.specs.RowStages.{AloneRows, FoundRows, ScannedRows, StageSeen, staged_columns}
use Rattle.morsel_scan_units.specs.LaneJobs.{DecodesBetween, EncodesBetween, LaneFor, IsUnitFault, lane_fields}
use Rattle.morsel_scan_units.specs.LaneRows.{AloneBetween, CarriesRows, FindsBetween}
use Rattle.morsel_join_tasks.specs.FedLanes.{IsFedBy}
use Rattle.morsel_join_plan.specs.JoinLanes.{HoldsTokensAt, rows_lane}
use Rattle.morsel_join_plan.proofs.LaneFacts.{unit_fault_behind, unit_out_of_memory}
use Rattle.morsel_join_plan.proofs.PhaseFacts.{some_same}

-- what follows of what is there
pub if_some : {X : Type 0} (P Q : X → Type 0) (there : Option X) → ((x : X) → P x → Q x) → IfSome there P → IfSome there Q
if_some P Q None follows is = tt
if_some P Q (Some x) follows is = follows x is

pub some_follows : {X : Type 0} (P Q : X → Type 0) (there : Option X) → IfSome there P → ((x : X) → P x → Q x) → IfSome there Q
some_follows P Q there is follows = if_some P Q there follows is

-- where this is there
pub some_here : {X : Type 0} (P : X → Type 0) (there : Option X) (x : X) → Some x ≡ there → P x → IfSome there P
some_here {X = X} P there x here is = subst (λ (o : Option X). IfSome o P) here is

pub if_ok : {X E : Type 0} (P Q : X → Type 0) (result : Result X E) → ((x : X) → P x → Q x) → IfOk result P → IfOk result Q
if_ok P Q (Err e) follows is = tt
if_ok P Q (Ok x) follows is = follows x is

-- tokens of lanes are those of a board
module _ {Token : Type 0} (holds : LaneFor → Token → Type 0) (home : Token → TableId) (tokens table : TableId) where
  pub holds_one : (lane : LaneFor) (lanes : List LaneFor) → lane.tokens ≡ tokens → lanes ≡ lane ∷ [] → HoldsTokensAt holds home tokens table → All (λ (one : LaneFor). HoldsTokensOf holds home one table) lanes
  holds_one lane lanes of are hold = subst (All (λ (one : LaneFor). HoldsTokensOf holds home one table)) (sym are) (All-cons (λ (one : LaneFor). HoldsTokensOf holds home one table) lane [] (hold lane of) (All-nil (λ (one : LaneFor). HoldsTokensOf holds home one table)))

  pub holds_two : (lane : LaneFor) (lanes : List LaneFor) → lane.tokens ≡ tokens → lanes ≡ lane ∷ lane ∷ [] → HoldsTokensAt holds home tokens table → All (λ (one : LaneFor). HoldsTokensOf holds home one table) lanes
  holds_two lane lanes of are hold = subst (All (λ (one : LaneFor). HoldsTokensOf holds home one table)) (sym are) (All-cons (λ (one : LaneFor). HoldsTokensOf holds home one table) lane (lane ∷ []) (hold lane of) (All-cons (λ (one : LaneFor). HoldsTokensOf holds home one table) lane [] (hold lane of) (All-nil (λ (one : LaneFor). HoldsTokensOf holds home one table))))

  pub holds_all : (lanes : List LaneFor) → All (λ (one : LaneFor). one.tokens ≡ tokens) lanes → HoldsTokensAt holds home tokens table → All (λ (one : LaneFor). HoldsTokensOf holds home one table) lanes
  holds_all lanes of hold = All-weaker (λ (one : LaneFor). one.tokens ≡ tokens) (λ (one : LaneFor). HoldsTokensOf holds home one table) (λ one is. hold one is) lanes of

-- both lanes of a join's receiving ports have tokens of one table
pub tokens_two : (lane : LaneFor) (lanes : List LaneFor) → lanes ≡ lane ∷ lane ∷ [] → All (λ (one : LaneFor). one.tokens ≡ lane.tokens) lanes
tokens_two lane lanes are = subst (All (λ (one : LaneFor). one.tokens ≡ lane.tokens)) (sym are)
    (All-cons (λ (one : LaneFor). one.tokens ≡ lane.tokens) lane (lane ∷ []) refl (All-cons (λ (one : LaneFor). one.tokens ≡ lane.tokens) lane [] refl (All-nil (λ (one : LaneFor). one.tokens ≡ lane.tokens))))

-- a fault of a node of one receiving port is one of a unit of its lane
pub maker_fault : (lane : LaneFor) (lanes : List LaneFor) (fault : Fault) → lanes ≡ lane ∷ [] → (fault ≡ faults.OutOfMemory) ⊎ ((one : LaneFor) × (lanes ≡ one ∷ []) × IsUnitFault one fault) → IsUnitFault lane fault
maker_fault lane lanes fault are (inl out) = unit_out_of_memory lane fault out
maker_fault lane lanes fault are (inr (one, is, may)) =
    let both : one ∷ [] ≡ lane ∷ [] = sym is ∙ are in
    let same : one ≡ lane = cc in
    subst (λ (l : LaneFor). IsUnitFault l fault) same may

-- the lanes of a scan: its pieces are fed, and its rows made of them
module _ (scan : CsvScan) (reader : PiecesRead) (outside : Outside) (tokens : TableId) (rows fed : LaneFor) (rows_are : rows ≡ rows_lane scan reader outside tokens) (fed_is : fed ≡ record rows { kind = Pieces }) where
  fed_same : fed ≡ record (rows_lane scan reader outside tokens) { kind = Pieces }
  fed_same = fed_is ∙ ap (λ (lane : LaneFor). record lane { kind = Pieces }) rows_are

  pub fed_by : IsFedBy reader outside fed
  fed_by = subst (IsFedBy reader outside) (sym fed_same) (record { kind = refl; reader_is = refl; outside_is = refl; stage_is = refl })

  pub decodes_rows : DecodesBetween scan fed rows
  decodes_rows = subst (λ (lane : LaneFor). DecodesBetween scan lane rows) (sym fed_same) (subst (DecodesBetween scan (record (rows_lane scan reader outside tokens) { kind = Pieces })) (sym rows_are) (refl, record { takes = refl; makes = refl; of_scan = refl }))

  pub fed_tokens : fed.tokens ≡ tokens
  fed_tokens = ap (λ (lane : LaneFor). lane.tokens) fed_same

-- the rows have these columns
pub carries_rows : (scan : CsvScan) (reader : PiecesRead) (outside : Outside) (tokens : TableId) (rows : LaneFor) (columns : List Field) → rows ≡ rows_lane scan reader outside tokens → columns ≡ output_fields scan.scan → CarriesRows rows columns
carries_rows scan reader outside tokens rows columns is have = subst (λ (lane : LaneFor). CarriesRows lane columns) (sym is) (record { kind = refl; scanned = refl; have = sym have })

-- the lanes behind a join: of its rows, and of their text
module _ (stage : StageSeen) (rows behind given : LaneFor) (of_rows : rows.kind ≡ Morsels) (behind_is : behind ≡ record rows { stage = stage }) (given_is : given ≡ record rows { kind = Parts; stage = stage }) where
  pub encodes_behind : (columns : List Field) → columns ≡ staged_columns stage (output_fields rows.scan.scan) → EncodesBetween columns behind given
  encodes_behind columns is = (
    is ∙ sym (ap lane_fields behind_is),
    record {
      takes = ap (λ (lane : LaneFor). lane.kind) behind_is ∙ of_rows;
      makes = given_is ∙ sym (ap (λ (lane : LaneFor). record lane { kind = Parts }) behind_is);
      of_scan = refl;
    },
  )

  -- a fault of a unit that makes the rows, or of one that makes their text
  pub made_fault : (fed : LaneFor) (fault : Fault) → rows.stage ≡ ScannedRows → fed ≡ record rows { kind = Pieces } → IsUnitFault fed fault → IsUnitFault given fault
  made_fault fed fault scanned fed_is may = subst (λ (lane : LaneFor). IsUnitFault lane fault) (sym given_is) (unit_fault_behind rows Parts stage fault scanned (subst (λ (lane : LaneFor). IsUnitFault lane fault) fed_is may))

  pub text_fault : (fault : Fault) → IsUnitFault behind fault → IsUnitFault given fault
  text_fault fault may = subst (λ (lane : LaneFor). IsUnitFault lane fault) (sym given_is) (subst (λ (lane : LaneFor). IsUnitFault lane fault) behind_is may)

-- the join's own lanes where rows are looked up, and where the kept rows are given that none finds
pub finds_rows : (side : KeptSide) (rows found : LaneFor) → rows.stage ≡ ScannedRows → found ≡ record rows { stage = FoundRows side } → FindsBetween side rows found
finds_rows side rows found scanned is = (scanned, is)

pub leaves_alone : (side : KeptSide) (rows kept : LaneFor) → rows.kind ≡ Morsels → rows.stage ≡ ScannedRows → kept ≡ record rows { stage = AloneRows side } → AloneBetween side rows kept
leaves_alone side rows kept of_rows scanned is = (of_rows, scanned, is)

-- what is so of one that is there is so of each that is there
pub for_each : {X : Type 0} (P : X → Type 0) (there : Option X) (x : X) → there ≡ Some x → P x → (other : X) → there ≡ Some other → P other
for_each P there x is holds other other_is = subst P (some_same x other (sym is ∙ other_is)) holds

-- what is so of all
pub all_some : {X : Type 0} (P : X → Type 0) (there : Option X) → ((x : X) → P x) → IfSome there P
all_some P None every = tt
all_some P (Some x) every = every x
