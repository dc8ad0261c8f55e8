-- What the units of a scan make suits the lanes behind them.
use Rattle.std.proofs.Common.{◌≡◌, ℕ, refl, sym, ap, subst, ◌∙◌, arith}
use Rattle.std.proofs.lemmas.List.{take_all}
use Rattle.std.specs.Prelude.{IsTrue, true, Ok, List, length, take, drop}
use Rattle.morsel_meaning.specs.declared.fault.Fault.{Fault}
use Rattle.morsel_meaning.specs.declared.fault.Fault.TheVariants as faults
use Rattle.morsel_meaning.specs.declared.value.Field.{Field}
use Rattle.morsel_meaning.specs.Values.{Table, names_of}
use Rattle.morsel_ndjson.specs.Ndjson.{ndjson}
use Rattle.morsel_pipe.specs.Pieces.{Piece, Part}
use Rattle.morsel_load.specs.Loads.{SeenMorsel, SeenPiece, SeenPart}
use Rattle.morsel_load.specs.Sources.{SourceSeen}
use Rattle.morsel_load.specs.declared.load.LoadKind.{LoadKind}
use Rattle.morsel_load.specs.declared.load.LoadKind.TheVariants.{Morsels, Pieces, Parts}
use Rattle.morsel_load.specs.declared.morsels.Stretch.{Stretch}
use Rattle.morsel_scan.specs.Scans.{CsvScan}
use Rattle.morsel_scan.specs.ScanColumns.{output_fields}
use Rattle.morsel_scan.specs.StretchRows.{Gives}
use Rattle.morsel_scan.specs.CsvScans.{Decodes, IsPieceFault, piece_rows}
use Rattle.morsel_scan.proofs.AxisEndLemmas.{gives_pieces}
use Rattle.morsel_line.specs.Jobs.{Job}
use Rattle.morsel_line.specs.RowStages.{StageSeen, ScannedRows, staged_columns, staged_gives}
use Rattle.morsel_line.specs.ScanJobs.{scan_axis, scan_text, staged_text, IsPieceKind}
use Rattle.morsel_line.proofs.LineLemmas.{fault_due}
use Rattle.morsel_scan_units.specs.LaneJobs.{LaneFor, TellsJob, SuitsLane, JoinsKinds, IsUnitFault, EncodesFor, IsWholeIfScanned, lane_fields}

abbrev whole_stretch : Piece → Stretch
whole_stretch piece = record { from = piece.from; to = piece.to; skip = 0; last = true }

-- what is told of the second lane is told of the first
tells_first : (first second : LoadKind) (scan : CsvScan) (from to : LaneFor) (job : Job) → JoinsKinds first second scan from to → TellsJob to job → TellsJob from job
tells_first first second scan from to job joins is = subst (λ (lane : LaneFor). TellsJob lane job) joins.makes is

-- the rows of a piece suit the lane of rows
pub morsel_suits : (scan : CsvScan) (from to : LaneFor) (piece : Piece) (frame : Table) (seq : ℕ) (source : SourceSeen) → from.stage ≡ ScannedRows → JoinsKinds Pieces Morsels scan from to → SuitsLane from (SeenPiece piece) → Decodes scan piece (Ok frame)
    → SuitsLane to (SeenMorsel frame seq source (whole_stretch piece))
morsel_suits scan from to piece frame seq source scanned joins suits decoded =
    let stage : to.stage ≡ ScannedRows = ap (λ (lane : LaneFor). lane.stage) joins.makes ∙ scanned in record {
      kind = sym (ap (λ (lane : LaneFor). lane.kind) joins.makes);
      scan = (
        decoded.0 ∙ ap (λ (s : CsvScan). output_fields s.scan) (sym (ap (λ (lane : LaneFor). lane.scan) joins.makes ∙ joins.of_scan)) ∙ ap (λ (st : StageSeen). staged_columns st (output_fields to.scan.scan)) (sym stage),
        subst (λ (st : StageSeen). IsWholeIfScanned st (whole_stretch piece)) (sym stage) (refl, refl),
      );
      told = λ job is. (let here = tells_first Pieces Morsels scan from to job joins is in
          let fit = here.1.given.fit in
          let given = gives_pieces job.scan fit job.first 0 job.names job.files job.opened (scan_text job.scan) piece (suits.told job here) in
          let rows : Gives (scan_axis job).gives piece.from piece.to frame.rows = record {
            order = given.0;
            within = given.1;
            all = given.2 ∙ subst (λ (s : CsvScan). piece_rows s piece ≡ Ok frame.rows) (sym (here.0 ∙ joins.of_scan)) decoded.1;
          } in record {
            all = frame.rows;
            gives = subst (λ (st : StageSeen). Gives (staged_gives st (scan_axis job).gives) piece.from piece.to frame.rows) (sym (is.2 ∙ stage)) rows;
            within = omega arith;
            are = sym (take_all (length frame.rows) frame.rows (omega arith));
            ends = λ last. omega arith;
          });
    }

-- a fault of a piece is one that the unit may end with
pub piece_fails : (scan : CsvScan) (from to : LaneFor) (piece : Piece) (fault : Fault) → JoinsKinds Pieces Morsels scan from to → SuitsLane from (SeenPiece piece) → IsPieceFault scan piece fault → IsPieceKind fault → IsUnitFault from fault
piece_fails scan from to piece fault joins suits has kind = (
  kind,
  λ job is.
      fault_due job piece fault is.1.given.fit (suits.told job is) (subst (λ (s : CsvScan). IsPieceFault s piece fault) (sym (is.0 ∙ joins.of_scan)) has),
)

-- the text of rows suits the lane of texts
pub part_suits : (schema : List Field) (from to : LaneFor) (frame : Table) (seq : ℕ) (source : SourceSeen) (stretch : Stretch) (part : Part) → schema ≡ lane_fields from → JoinsKinds Morsels Parts from.scan from to
    → SuitsLane from (SeenMorsel frame seq source stretch) → EncodesFor (names_of schema) frame.rows stretch part → SuitsLane to (SeenPart seq part)
part_suits schema from to frame seq source stretch part same joins suits made =
    let text : part.bytes ≡ staged_text from.stage from.scan frame.rows = made.text ∙ ap (λ (fields : List Field). ndjson (names_of fields) frame.rows) same in record {
      kind = sym (ap (λ (lane : LaneFor). lane.kind) joins.makes);
      scan = (frame.rows, made.count, text ∙ ap (λ (lane : LaneFor). staged_text lane.stage lane.scan frame.rows) (sym joins.makes));
      told = λ job is. (let here = tells_first Morsels Parts from.scan from to job joins is in
          let rows = suits.told job here in record {
            all = rows.all;
            gives = rw (made.from, made.to) rows.gives;
            within = let w = rows.within in let c = made.count in let s = made.skip in omega (arith, w, c, s);
            text = text ∙ ap (λ (s : CsvScan). staged_text from.stage s frame.rows) (sym here.0) ∙ ap (λ (st : StageSeen). staged_text st job.scan frame.rows) (sym here.2)
                ∙ ap (staged_text job.stage job.scan) (rows.are ∙ ap (λ n. take n (drop stretch.skip rows.all)) (sym made.count) ∙ ap (λ n. take part.rows (drop n rows.all)) (sym made.skip));
            ends = λ last. (let e = rows.ends (subst IsTrue made.last last) in let c = made.count in let s = made.skip in omega (arith, e, c, s));
          });
    }
