use Rattle.std.proofs.Common.{refl}
use Rattle.morsel_scan.proofs.SourceLemmas.{places_fit, places_differ, finished}
use Rattle.morsel_scan.proofs.source.CsvSourceNode.finish.Goals as goal

pub select-requires-clause-within : goal.select-requires-clause-within
select-requires-clause-within c =
    places_fit _ c.args.self.now _ c.self.inside.step c.self.inside.used.items c.self.inside.unused.items c.self.inside.kept.items c.as_slice.result.now c.args.position c.args.source.now
    c.args.read c.in-Ok.numbered c.in-Ok-with_path.named c.in-Ok-filtered.passed c.self.view_is c.asked.view_is c.self.invariant c.as_slice.ensures.value c.requires.columns
    c.in-Ok.ensures c.in-Ok-with_path.ensures c.in-Ok-filtered.ensures

pub select-requires-clause-once : goal.select-requires-clause-once
select-requires-clause-once c =
    places_differ _ c.self.inside.step c.self.inside.used.items c.self.inside.unused.items c.self.inside.kept.items c.as_slice.result.now c.self.invariant c.as_slice.ensures.value

pub returns : goal.returns
returns c =
    finished _ c.args.self.now _ c.self.inside.step c.self.inside.used.items c.self.inside.unused.items c.self.inside.kept.items c.as_slice.result.now c.args.position c.args.source.now
    c.args.read c.in-Ok.numbered c.in-Ok-with_path.named c.in-Ok-filtered.passed c.select.result c.self.view_is c.asked.view_is c.self.invariant c.as_slice.ensures.value refl c.requires.columns
    c.in-Ok.ensures c.in-Ok-with_path.ensures c.in-Ok-filtered.ensures c.select.ensures.ok c.select.ensures.out_of_memory
