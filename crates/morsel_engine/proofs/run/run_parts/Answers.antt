use Rattle.std.proofs.Common.{subst, sym, refl, ◌∙◌, ℕ}
use Rattle.std.specs.Prelude.{None, Err, List}
use Rattle.morsel_query.specs.Queries.{query_parts}
use Rattle.morsel_engine.specs.Stages.{OpensSources, HasOpenedAll}
use Rattle.morsel_engine.proofs.PartLemmas.{sources_are, runs_not_opened, runs_not_made, runs_parts, opened_numbers}
use Rattle.morsel_engine.proofs.SweepLemmas.{no_sweeps, swept}
use Rattle.morsel_engine.proofs.run.run_parts.Goals as goal

pub returns-in-Err-clause-runs : goal.returns-in-Err-clause-runs
returns-in-Err-clause-runs g c =
    let query = query_parts c.args.left None None c.args.sink in
    runs_not_opened _ _ query _ _ c.requires.planned
    (subst (λ (names : List (List ℕ)). OpensSources (g.H.Io.seen c.args.io.now) names 0 (Err c.in-Err.fault) (g.H.Io.seen c.open_sources.new.io)) (c.deref.ensures.value ∙ sym (sources_are query refl)) c.in-Err.ensures)

pub returns-in-Err-make_sink-clause-runs : goal.returns-in-Err-make_sink-clause-runs
returns-in-Err-make_sink-clause-runs g c =
    let query = query_parts c.args.left None None c.args.sink in
    let opened = c.in-Ok.ensures in
    runs_not_made _ (g.H.Io.seen c.open_sources.new.io) _ query _ c.in-Ok.files.items opened.0 _ c.requires.planned
    (subst (λ (names : List (List ℕ)). HasOpenedAll (g.H.Io.seen c.args.io.now) names c.in-Ok.files.items opened.0 (g.H.Io.seen c.open_sources.new.io)) (c.deref.ensures.value ∙ sym (sources_are query refl)) opened.1)
    c.in-Err-make_sink.ensures.made

pub scan_files-requires-clause-one_each : goal.scan_files-requires-clause-one_each
scan_files-requires-clause-one_each g c =
    let opened = c.in-Ok.ensures in
    let all = subst (λ (names : List (List ℕ)). HasOpenedAll (g.H.Io.seen c.args.io.now) names c.in-Ok.files.items opened.0 (g.H.Io.seen c.open_sources.new.io)) c.deref.ensures.value opened.1 in
    (opened_numbers _ _ _ (query_parts c.args.left None None c.args.sink) _ opened.0 refl all c.in-Ok-make_sink.ensures.made).0

pub scan_files-requires-clause-opened : goal.scan_files-requires-clause-opened
scan_files-requires-clause-opened g c =
    let opened = c.in-Ok.ensures in
    let all = subst (λ (names : List (List ℕ)). HasOpenedAll (g.H.Io.seen c.args.io.now) names c.in-Ok.files.items opened.0 (g.H.Io.seen c.open_sources.new.io)) c.deref.ensures.value opened.1 in
    (opened_numbers _ _ _ (query_parts c.args.left None None c.args.sink) _ opened.0 refl all c.in-Ok-make_sink.ensures.made).1

pub returns-clause-runs : goal.returns-clause-runs
returns-clause-runs g c =
    let opened = c.in-Ok.ensures in
    let all = subst (λ (names : List (List ℕ)). HasOpenedAll (g.H.Io.seen c.args.io.now) names c.in-Ok.files.items opened.0 (g.H.Io.seen c.open_sources.new.io)) c.deref.ensures.value opened.1 in
    runs_parts _ _ _ _ c.args.left c.args.sink _ _ opened.0 _ c.requires.sound c.requires.planned all c.in-Ok-make_sink.ensures.made c.scan_files.ensures.scans

pub returns-in-Err-clause-sweeps : goal.returns-in-Err-clause-sweeps
returns-in-Err-clause-sweeps g c = no_sweeps (g.H.Io.seen c.args.io.now) (g.H.Io.seen c.open_sources.new.io) (query_parts c.args.left None None c.args.sink) c.args.options.now c.args.steps.now

pub returns-in-Err-make_sink-clause-sweeps : goal.returns-in-Err-make_sink-clause-sweeps
returns-in-Err-make_sink-clause-sweeps g c = no_sweeps (g.H.Io.seen c.args.io.now) (g.H.Io.seen c.make_sink.new.io) (query_parts c.args.left None None c.args.sink) c.args.options.now c.args.steps.now

pub returns-clause-sweeps : goal.returns-clause-sweeps
returns-clause-sweeps g c =
    let opened = c.in-Ok.ensures in
    let all = subst (λ (names : List (List ℕ)). HasOpenedAll (g.H.Io.seen c.args.io.now) names c.in-Ok.files.items opened.0 (g.H.Io.seen c.open_sources.new.io)) c.deref.ensures.value opened.1 in
    swept _ _ _ _ c.args.left c.args.sink c.args.options.now _ opened.0 _ _ _ all c.in-Ok-make_sink.ensures.made c.scan_files.ensures.scans c.scan_files.ensures.sweeps
