use Rattle.std.proofs.Common.{◌≤◌, ◌∙◌, ℕ, List, Bool, length, get_or, ap, sym, subst}
use Rattle.morsel_join.specs.Chains.{AreRowChains, LinksRise}
use Rattle.morsel_join.proofs.CutLemmas.{EndsThere, PutsUpTo}
use Rattle.morsel_join.proofs.build_side.Build.find.Goals as goal

pub find_some-requires-clause-heads : goal.find_some-requires-clause-heads
find_some-requires-clause-heads c = λ k.
    let keyed = c.args.self.now.keyed in
    subst (λ (xs : List ℕ). get_or xs k 0 ≤ length c.deref-2.result.now) (sym c.deref.ensures.value)
    (subst (λ (xs : List ℕ). get_or keyed.first.items k 0 ≤ length xs) (sym c.deref-2.ensures.value) (c.requires.built.keyed.linked.chained.heads k).0)

pub find_some-requires-clause-rises : goal.find_some-requires-clause-rises
find_some-requires-clause-rises c = subst LinksRise (sym c.deref-2.ensures.value) c.requires.built.keyed.linked.chained.rises

pub find_some-requires-clause-within : goal.find_some-requires-clause-within
find_some-requires-clause-within c = subst (λ (xs : List ℕ). c.args.from.link ≤ length xs) (sym c.deref-2.ensures.value) c.requires.within

pub returns-clause-ok : goal.returns-clause-ok
returns-clause-ok c = λ items.
    let build = c.args.self.now in
    let kept = build.keyed.numbers.items in
    let first = c.deref.result.now in
    let next = c.deref-2.result.now in
    let cursor = c.in_ok-cursor.cursor in
    let linked = c.requires.built.keyed.linked in
    let chained : AreRowChains kept first next 0 =
    subst (λ (xs : List ℕ). AreRowChains kept xs next 0) (sym c.deref.ensures.value) (subst (λ (xs : List ℕ). AreRowChains kept build.keyed.first.items xs 0) (sym c.deref-2.ensures.value) linked.chained) in
    let put : PutsUpTo kept (length first) next c.args.numbers.now c.wants_asked-wanted.result c.args.from items c.args.lefts.now.items c.args.rights.now.items c.find_some.new.lefts.items c.find_some.new.rights.items cursor =
    c.in_ok-cursor.ensures.ok kept items chained in
    subst (λ (w : Bool). PutsUpTo kept (length build.keyed.keys.keys) build.keyed.next.items c.args.numbers.now w c.args.from items c.args.lefts.now.items c.args.rights.now.items c.find_some.new.lefts.items c.find_some.new.rights.items cursor) c.wants_asked-wanted.ensures
    (subst (λ (xs : List ℕ). PutsUpTo kept (length build.keyed.keys.keys) xs c.args.numbers.now c.wants_asked-wanted.result c.args.from items c.args.lefts.now.items c.args.rights.now.items c.find_some.new.lefts.items c.find_some.new.rights.items cursor) c.deref-2.ensures.value
    (subst (λ (n : ℕ). PutsUpTo kept n next c.args.numbers.now c.wants_asked-wanted.result c.args.from items c.args.lefts.now.items c.args.rights.now.items c.find_some.new.lefts.items c.find_some.new.rights.items cursor)
    (ap (λ (xs : List ℕ). length xs) c.deref.ensures.value ∙ linked.width) put))

pub returns-clause-settled : goal.returns-clause-settled
returns-clause-settled c = λ items.
    let build = c.args.self.now in
    let kept = build.keyed.numbers.items in
    let first = c.deref.result.now in
    let next = c.deref-2.result.now in
    let cursor = c.in_ok-cursor.cursor in
    let linked = c.requires.built.keyed.linked in
    let chained : AreRowChains kept first next 0 =
    subst (λ (xs : List ℕ). AreRowChains kept xs next 0) (sym c.deref.ensures.value) (subst (λ (xs : List ℕ). AreRowChains kept build.keyed.first.items xs 0) (sym c.deref-2.ensures.value) linked.chained) in
    let ends : EndsThere kept (length first) next c.args.numbers.now c.wants_asked-wanted.result cursor items = c.in_ok-cursor.ensures.settled kept items chained in
    subst (λ (w : Bool). EndsThere kept (length build.keyed.keys.keys) build.keyed.next.items c.args.numbers.now w cursor items) c.wants_asked-wanted.ensures
    (subst (λ (xs : List ℕ). EndsThere kept (length build.keyed.keys.keys) xs c.args.numbers.now c.wants_asked-wanted.result cursor items) c.deref-2.ensures.value
    (subst (λ (n : ℕ). EndsThere kept n next c.args.numbers.now c.wants_asked-wanted.result cursor items) (ap (λ (xs : List ℕ). length xs) c.deref.ensures.value ∙ linked.width) ends))

pub returns-clause-within : goal.returns-clause-within
returns-clause-within c = subst (λ (xs : List ℕ). c.in_ok-cursor.cursor.link ≤ length xs) c.deref-2.ensures.value c.in_ok-cursor.ensures.within
