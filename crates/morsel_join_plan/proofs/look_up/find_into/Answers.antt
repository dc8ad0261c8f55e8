use Rattle.std.proofs.Common.{ap, sym, ◌∙◌}
use Rattle.std.specs.Arc.{arc_value}
use Rattle.morsel_scan.specs.Scans.{CsvScan}
use Rattle.morsel_scan.specs.ScanColumns.{output_fields}
use Rattle.morsel_line.specs.RowStages.{staged_columns}
use Rattle.morsel_scan_units.specs.LaneJobs.{LaneFor}
use Rattle.morsel_join_plan.proofs.PortFacts.{encodes_behind, maker_fault, text_fault}
use Rattle.morsel_join_plan.proofs.look_up.find_into.Goals as goal

pub find_between-requires-clause-last_fits : goal.find_between-requires-clause-last_fits
find_between-requires-clause-last_fits g c =
    let made = ap (λ node. arc_value node.makers.node) c.new-last.ensures ∙ c.new.ensures in
    c.initialize.ensures.fits c.args.lanes.now.last.recv.items c.args.lanes.now.last.send.items (
      c.args.lanes.now.found,
      c.args.lanes.now.given,
      c.requires.last.0,
      c.requires.last.1,
      encodes_behind c.args.lanes.now.given.stage c.args.lanes.now.rows c.args.lanes.now.found c.args.lanes.now.given (ap (λ (lane : LaneFor). lane.kind) c.requires.rows) c.requires.found c.requires.given _
          (made ∙ (c.requires.columns ∙ ap (λ (s : CsvScan). staged_columns c.args.lanes.now.given.stage (output_fields s.scan)) (sym (ap (λ (lane : LaneFor). lane.scan) c.requires.rows)))),
    )

pub find_between-requires-clause-last_fails : goal.find_between-requires-clause-last_fails
find_between-requires-clause-last_fails g c fault may =
    text_fault c.args.lanes.now.given.stage c.args.lanes.now.rows c.args.lanes.now.found c.args.lanes.now.given (ap (λ (lane : LaneFor). lane.kind) c.requires.rows) c.requires.found c.requires.given fault (maker_fault c.args.lanes.now.found c.args.lanes.now.last.recv.items fault c.requires.last.0 may)

pub find_between-requires-clause-made : goal.find_between-requires-clause-made
find_between-requires-clause-made g c = c.requires.made

pub find_between-requires-clause-suits : goal.find_between-requires-clause-suits
find_between-requires-clause-suits g c = c.requires.suits

pub find_between-requires-clause-start : goal.find_between-requires-clause-start
find_between-requires-clause-start g c = c.requires.start

pub find_between-requires-clause-none_written : goal.find_between-requires-clause-none_written
find_between-requires-clause-none_written g c = c.requires.none_written

pub find_between-requires-clause-tokens : goal.find_between-requires-clause-tokens
find_between-requires-clause-tokens g c = c.requires.tokens

pub find_between-requires-clause-rows : goal.find_between-requires-clause-rows
find_between-requires-clause-rows g c = c.requires.rows

pub find_between-requires-clause-fed : goal.find_between-requires-clause-fed
find_between-requires-clause-fed g c = c.requires.fed

pub find_between-requires-clause-found : goal.find_between-requires-clause-found
find_between-requires-clause-found g c = c.requires.found

pub find_between-requires-clause-given : goal.find_between-requires-clause-given
find_between-requires-clause-given g c = c.requires.given

pub find_between-requires-clause-first : goal.find_between-requires-clause-first
find_between-requires-clause-first g c = c.requires.first

pub find_between-requires-clause-middle_recv : goal.find_between-requires-clause-middle_recv
find_between-requires-clause-middle_recv g c = c.requires.middle_recv

pub find_between-requires-clause-middle_send : goal.find_between-requires-clause-middle_send
find_between-requires-clause-middle_send g c = c.requires.middle_send

pub find_between-requires-clause-last : goal.find_between-requires-clause-last
find_between-requires-clause-last g c = c.requires.last

pub find_between-requires-clause-some_middle : goal.find_between-requires-clause-some_middle
find_between-requires-clause-some_middle g c = c.requires.some_middle

pub find_between-requires-clause-finds : goal.find_between-requires-clause-finds
find_between-requires-clause-finds g c = c.requires.finds

pub find_between-requires-clause-fits : goal.find_between-requires-clause-fits
find_between-requires-clause-fits g c = c.requires.fits

pub find_between-requires-clause-fails : goal.find_between-requires-clause-fails
find_between-requires-clause-fails g c = c.requires.fails

pub returns-clause-sweeps : goal.returns-clause-sweeps
returns-clause-sweeps g c = c.find_between.ensures.sweeps

pub returns-clause-stays : goal.returns-clause-stays
returns-clause-stays g c = c.find_between.ensures.stays

pub returns-clause-all : goal.returns-clause-all
returns-clause-all g c = c.find_between.ensures.all

pub returns-clause-writes : goal.returns-clause-writes
returns-clause-writes g c = c.find_between.ensures.writes
