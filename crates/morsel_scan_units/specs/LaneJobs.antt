-- What the lanes of a scan are for: which loads suit them, and between which of them a unit makes loads.
use Rattle.std.specs.Prelude.{◌≡◌, ℕ, ◌+◌, ◌≤◌, IsTrue, None, true, Result, Ok, Err, List, length, take, drop}
use Rattle.atomic_table.specs.Seated.{TableId}
use Rattle.morsel_meaning.specs.declared.value.Field.{Field}
use Rattle.morsel_meaning.specs.declared.fault.Fault.{Fault}
use Rattle.morsel_meaning.specs.Values.{Row}
use Rattle.morsel_ndjson.specs.Ndjson.{ndjson}
use Rattle.morsel_outside.specs.Outside.{Outside}
use Rattle.morsel_pipe.specs.Pieces.{Piece, Part}
use Rattle.morsel_load.specs.Morsels.{MorselSeen}
use Rattle.morsel_load.specs.Loads.{LoadSeen, SeenMorsel, SeenPiece, SeenPart, seen_kind}
use Rattle.morsel_load.specs.declared.load.LoadKind.{LoadKind}
use Rattle.morsel_load.specs.declared.load.LoadKind.TheVariants.{Morsels, Pieces, Parts}
use Rattle.morsel_load.specs.declared.morsels.Stretch.{Stretch}
use Rattle.morsel_scan.specs.Scans.{CsvScan}
use Rattle.morsel_scan.specs.ScanColumns.{output_fields}
use Rattle.morsel_scan.specs.CsvScans.{FitsScan, Decodes, IsPieceFault}
use Rattle.morsel_scan.specs.Ahead.{Axis}
use Rattle.morsel_scan.specs.StretchRows.{Gives}
use Rattle.morsel_read.specs.ScanReads.{PiecesRead}
use Rattle.morsel_drive.specs.Lines.{SuitsPart, IsDue}
use Rattle.morsel_line.specs.Jobs.{Job}
use Rattle.morsel_line.specs.RowStages.{StageSeen, ScannedRows, FoundRows, AloneRows, GivenRows, staged_columns}
use Rattle.morsel_line.specs.ScanSources.{ReadsJob}
use Rattle.morsel_line.specs.ScanJobs.{staged_text, job_axis, IsJobPiece, IsJobFault, IsPieceKind}

-- what a lane of a scan is for
pub record LaneFor : Type 0 where
  pub kind : LoadKind  -- which loads it carries
  pub scan : CsvScan  -- of whose rows
  pub reader : PiecesRead  -- the reader of its files, before it read anything
  pub outside : Outside  -- and the outside then
  pub tokens : TableId  -- the table of the tokens that rows hold
  pub stage : StageSeen  -- what its rows are, or those whose texts it carries

-- the job is that of the lane's scan and its rows, over what its files are told to contain
abbrev pub TellsJob : LaneFor → Job → Type 0
TellsJob lane job = (job.scan ≡ lane.scan) × ReadsJob lane.reader job lane.outside × (job.stage ≡ lane.stage)

-- some of the rows that a stretch gives
pub record SuitsRows (axis : Axis) (rows : List Row) (stretch : Stretch) : Type 0 where
  pub all : List Row
  pub gives : Gives axis.gives stretch.from stretch.to all
  pub within : stretch.skip + length rows ≤ length all
  pub are : rows ≡ take (length rows) (drop stretch.skip all)
  pub ends : IsTrue stretch.last → stretch.skip + length rows ≡ length all

-- a load has all rows of its stretch, where they are those of the scan; what they find may be cut
abbrev pub IsWholeIfScanned : StageSeen → Stretch → Type 0
IsWholeIfScanned ScannedRows stretch = (stretch.skip ≡ 0) × (stretch.last ≡ true)
IsWholeIfScanned (FoundRows side) stretch = Unit {0}
IsWholeIfScanned (AloneRows side) stretch = Unit {0}
IsWholeIfScanned (GivenRows fields rows) stretch = Unit {0}

-- the columns of the rows of a lane
abbrev pub lane_fields : LaneFor → List Field
lane_fields lane = staged_columns lane.stage (output_fields lane.scan.scan)

-- a load for a scan: a piece that can be decoded, rows of the stage's columns, or the text of some rows
abbrev pub SuitsScan : LaneFor → LoadSeen → Type 0
SuitsScan lane (SeenPiece piece) = FitsScan piece
SuitsScan lane (SeenMorsel frame seq source stretch) = (frame.schema ≡ lane_fields lane) × IsWholeIfScanned lane.stage stretch
SuitsScan lane (SeenPart seq part) = (rows : List Row) × (part.rows ≡ length rows) × (part.bytes ≡ staged_text lane.stage lane.scan rows)

-- a load for a scan whose files contain this: a piece of them, or some of the rows that its stretch gives, or their text
abbrev pub SuitsTold : Job → LoadSeen → Type 0
SuitsTold job (SeenPiece piece) = IsJobPiece job piece
SuitsTold job (SeenMorsel frame seq source stretch) = SuitsRows (job_axis job) frame.rows stretch
SuitsTold job (SeenPart seq part) = SuitsPart (job_axis job) part

-- a load of the lane's kind, for its scan, and for what the files contain
pub record SuitsLane (lane : LaneFor) (load : LoadSeen) : Type 0 where
  pub kind : seen_kind load ≡ lane.kind
  pub scan : SuitsScan lane load
  pub told : (job : Job) → TellsJob lane job → SuitsTold job load

-- two lanes of this scan, of which loads of the first kind are made into loads of the second one
pub record JoinsKinds (first second : LoadKind) (scan : CsvScan) (from to : LaneFor) : Type 0 where
  pub takes : from.kind ≡ first
  pub makes : to ≡ record from { kind = second }
  pub of_scan : from.scan ≡ scan

-- of the pieces of one lane, rows of this scan can be made for another one
abbrev pub DecodesBetween : CsvScan → LaneFor → LaneFor → Type 0
DecodesBetween scan from to = (from.stage ≡ ScannedRows) × JoinsKinds Pieces Morsels scan from to

-- of the rows of one lane, which have these columns, texts can be made for another one
abbrev pub EncodesBetween : List Field → LaneFor → LaneFor → Type 0
EncodesBetween schema from to = (schema ≡ lane_fields from) × JoinsKinds Morsels Parts from.scan from to

-- the load is a piece that can be decoded
abbrev pub IsFittingPiece : LoadSeen → Type 0
IsFittingPiece (SeenPiece piece) = FitsScan piece
IsFittingPiece (SeenMorsel frame seq source stretch) = ⊥
IsFittingPiece (SeenPart seq part) = ⊥

-- the load is rows of these columns
abbrev pub AreRowsOf : List Field → LoadSeen → Type 0
AreRowsOf schema (SeenMorsel frame seq source stretch) = frame.schema ≡ schema
AreRowsOf schema (SeenPiece piece) = ⊥
AreRowsOf schema (SeenPart seq part) = ⊥

-- a fault that a unit may end with: of a record or a row, or that memory is out; and it is due, where it is told what the files contain
abbrev pub IsUnitFault : LaneFor → Fault → Type 0
IsUnitFault lane fault = IsPieceKind fault × ((job : Job) → TellsJob lane job → IsDue (IsJobFault job) fault)

-- a piece is made into the rows of the scan that it has, for its stretch, with no token; or it has a fault
abbrev pub DecodesPiece : {K : Type 0} → CsvScan → Piece → Result (MorselSeen K) Fault → Type 0
DecodesPiece scan piece (Ok morsel) = Decodes scan piece (Ok morsel.frame) × (morsel.consume_token ≡ None) × (morsel.stretch ≡ record { from = piece.from; to = piece.to; skip = 0; last = true })
DecodesPiece scan piece (Err fault) = IsPieceFault scan piece fault × IsPieceKind fault

-- a part is the text of these rows, for this stretch
pub record EncodesFor (names : List (List ℕ)) (rows : List Row) (stretch : Stretch) (part : Part) : Type 0 where
  pub count : part.rows ≡ length rows
  pub text : part.bytes ≡ ndjson names rows
  pub from : part.from ≡ stretch.from
  pub to : part.to ≡ stretch.to
  pub skip : part.skip ≡ stretch.skip
  pub last : part.last ≡ stretch.last
