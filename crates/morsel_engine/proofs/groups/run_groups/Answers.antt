use Rattle.std.proofs.Common.{◌≡◌, subst, sym, refl, ap, inr, ◌∙◌, ℕ}
use Rattle.std.specs.Prelude.{None, Some, Err, List}
use Rattle.morsel_meaning.specs.declared.fault.Fault.TheVariants as faults
use Rattle.morsel_meaning.specs.declared.value.Field.{Field}
use Rattle.morsel_group.specs.GroupFlaws.{group_flaw}
use Rattle.morsel_group_units.specs.GroupAsks.{GroupRulesSeen, rules_output}
use Rattle.morsel_query.specs.Queries.{file_scan, query_parts}
use Rattle.morsel_engine.specs.Stages.{OpensSources, HasOpenedAll}
use Rattle.morsel_engine.proofs.RunLemmas.{runs_refused}
use Rattle.morsel_engine.proofs.PartLemmas.{sources_are, runs_not_opened, runs_not_made}
use Rattle.morsel_engine.proofs.GroupPartLemmas.{names_met, rules_are, open_scan_side, runs_group_parts, swept_group_parts}
use Rattle.morsel_engine.proofs.groups.run_groups.Goals as goal

pub returns-in_default-clause-runs : goal.returns-in_default-clause-runs
returns-in_default-clause-runs g c = runs_refused (g.H.Io.seen c.args.io.now) (query_parts c.args.left None (Some c.args.group) c.args.sink) c.args.options.now faults.OutOfMemory (inr refl)

pub returns-in-Err-clause-runs : goal.returns-in-Err-clause-runs
returns-in-Err-clause-runs g c =
    let query = query_parts c.args.left None (Some c.args.group) c.args.sink in
    runs_not_opened _ _ query _ _ c.requires.planned
    (subst (λ (names : List (List ℕ)). OpensSources (g.H.Io.seen c.args.io.now) names 0 (Err c.in-Err.fault) (g.H.Io.seen c.open_sources.new.io)) (c.deref.ensures.value ∙ sym (sources_are query refl)) c.in-Err.ensures)

pub returns-in-Err-make_sink-clause-runs : goal.returns-in-Err-make_sink-clause-runs
returns-in-Err-make_sink-clause-runs g c =
    let query = query_parts c.args.left None (Some c.args.group) c.args.sink in
    let opened = c.in-Ok-open_sources.ensures in
    runs_not_made _ (g.H.Io.seen c.open_sources.new.io) _ query _ c.in-Ok-open_sources.files.items opened.0 _ c.requires.planned
    (subst (λ (names : List (List ℕ)). HasOpenedAll (g.H.Io.seen c.args.io.now) names c.in-Ok-open_sources.files.items opened.0 (g.H.Io.seen c.open_sources.new.io)) (c.deref.ensures.value ∙ sym (sources_are query refl)) opened.1)
    c.in-Err-make_sink.ensures.made

pub new-requires-clause-sound : goal.new-requires-clause-sound
new-requires-clause-sound g c =
    let cloned : c.in-Ok.input ≡ c.args.columns = c.in-Ok.ensures.ok in
    subst (λ (fields : List Field). group_flaw fields c.args.group ≡ None) (sym (cloned ∙ c.requires.columns)) (names_met (file_scan c.args.left) None c.args.group c.requires.planned)

pub group_files-requires-clause-open : goal.group_files-requires-clause-open
group_files-requires-clause-open g c =
    let opened = c.in-Ok-open_sources.ensures in
    let all = subst (λ (names : List (List ℕ)). HasOpenedAll (g.H.Io.seen c.args.io.now) names c.in-Ok-open_sources.files.items opened.0 (g.H.Io.seen c.open_sources.new.io)) c.deref.ensures.value opened.1 in
    open_scan_side _ _ _ c.args.left c.args.group c.args.sink _ opened.0 c.requires.sound c.requires.planned all c.in-Ok-make_sink.ensures.made c.args.columns c.requires.columns

pub group_files-requires-clause-columns : goal.group_files-requires-clause-columns
group_files-requires-clause-columns g c = let cloned : c.in-Ok.input ≡ c.args.columns = c.in-Ok.ensures.ok in ap (λ (rules : GroupRulesSeen). rules.columns) c.new.ensures ∙ cloned

pub group_files-requires-clause-output : goal.group_files-requires-clause-output
group_files-requires-clause-output g c =
    let cloned : c.in-Ok.input ≡ c.args.columns = c.in-Ok.ensures.ok in
    c.requires.output ∙ ap rules_output (sym (rules_are c.new.result c.in-Ok.input c.args.columns (file_scan c.args.left) c.args.group c.new.ensures cloned c.requires.columns))

pub returns-clause-runs : goal.returns-clause-runs
returns-clause-runs g c =
    let cloned : c.in-Ok.input ≡ c.args.columns = c.in-Ok.ensures.ok in
    let opened = c.in-Ok-open_sources.ensures in
    let all = subst (λ (names : List (List ℕ)). HasOpenedAll (g.H.Io.seen c.args.io.now) names c.in-Ok-open_sources.files.items opened.0 (g.H.Io.seen c.open_sources.new.io)) c.deref.ensures.value opened.1 in
    runs_group_parts _ _ _ c.args.left c.args.group c.args.sink _ opened.0 c.requires.sound c.requires.planned all c.in-Ok-make_sink.ensures.made c.args.options.now _ _ _
    (rules_are c.new.result c.in-Ok.input c.args.columns (file_scan c.args.left) c.args.group c.new.ensures cloned c.requires.columns) c.group_files.ensures.groups

pub returns-clause-sweeps : goal.returns-clause-sweeps
returns-clause-sweeps g c =
    let opened = c.in-Ok-open_sources.ensures in
    let all = subst (λ (names : List (List ℕ)). HasOpenedAll (g.H.Io.seen c.args.io.now) names c.in-Ok-open_sources.files.items opened.0 (g.H.Io.seen c.open_sources.new.io)) c.deref.ensures.value opened.1 in
    swept_group_parts _ _ _ c.args.left c.args.group c.args.sink _ opened.0 c.requires.sound c.requires.planned all c.in-Ok-make_sink.ensures.made c.args.options.now _ _ _ _ _ c.group_files.ensures.groups c.group_files.ensures.sweeps
