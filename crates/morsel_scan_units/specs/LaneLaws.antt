-- What suits a lane can be taken by the unit behind it.
use Rattle.std.proofs.Common.{◌≡◌, sym, ◌∙◌}
use Rattle.std.specs.Prelude.{List}
use Rattle.morsel_meaning.specs.declared.value.Field.{Field}
use Rattle.morsel_load.specs.Loads.{LoadSeen, SeenMorsel, SeenPiece, SeenPart}
use Rattle.morsel_load.specs.declared.load.LoadKind.TheVariants.{Morsels, Pieces, Parts}
use Rattle.morsel_scan.specs.Scans.{CsvScan}
use Rattle.morsel_scan_units.specs.LaneJobs.{LaneFor, SuitsLane, JoinsKinds, IsFittingPiece, AreRowsOf, lane_fields}

pub takes_piece : (scan : CsvScan) (from to : LaneFor) (seen : LoadSeen) → JoinsKinds Pieces Morsels scan from to → SuitsLane from seen → IsFittingPiece seen
takes_piece scan from to (SeenPiece piece) joins suits = suits.scan
takes_piece scan from to (SeenMorsel frame seq source stretch) joins suits = absurd (let both : Morsels ≡ Pieces = suits.kind ∙ joins.takes in cc)
takes_piece scan from to (SeenPart seq part) joins suits = absurd (let both : Parts ≡ Pieces = suits.kind ∙ joins.takes in cc)

pub takes_rows : (schema : List Field) (scan : CsvScan) (from to : LaneFor) (seen : LoadSeen) → schema ≡ lane_fields from → JoinsKinds Morsels Parts scan from to → SuitsLane from seen → AreRowsOf schema seen
takes_rows schema scan from to (SeenMorsel frame seq source stretch) same joins suits = suits.scan.0 ∙ sym same
takes_rows schema scan from to (SeenPiece piece) same joins suits = absurd (let both : Pieces ≡ Morsels = suits.kind ∙ joins.takes in cc)
takes_rows schema scan from to (SeenPart seq part) same joins suits = absurd (let both : Parts ≡ Morsels = suits.kind ∙ joins.takes in cc)
