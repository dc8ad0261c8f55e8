use Rattle.std.proofs.Common.{◌≡◌, ◌<◌, ◌≤◌, ◌+◌, ◌∙◌, ◌++◌, ℕ, IfSome, subst, pos, List, [], false, if◌then◌else◌, length, map, take, get_or, sym, ap, arith}
use Rattle.std.proofs.lemmas.List.{length-map}
use Rattle.morsel_meaning.specs.declared.value.Value.TheVariants as values
use Rattle.morsel_ndjson.specs.Members.{lent_values}
use Rattle.morsel_ndjson.proofs.MemberLemmas.{begin_lent, lent_within, member_lent, value_lent}
use Rattle.morsel_ndjson.proofs.members.Member.put_small.Goals as goal

pub bounds-self-inside-row : goal.bounds-self-inside-row
bounds-self-inside-row c = lent_within c.args.self.now c.self.inside.begin.now c.self.inside.valid.now c.self.inside.lent c.args.row c.self.view_is c.self.invariant c.requires.row

pub put_int_at-requires-clause-row : goal.put_int_at-requires-clause-row
put_int_at-requires-clause-row c =
    let items = c.in-Ints.numbers.now in
    let within = lent_within c.args.self.now c.self.inside.begin.now c.self.inside.valid.now c.self.inside.lent c.args.row c.self.view_is c.self.invariant c.requires.row in
    let lends : lent_values c.self.inside.lent ≡ map values.Int items = ap lent_values c.in-Ints.is in
    omega (arith, within, c.self.invariant, ap length lends, length-map items values.Int)

pub put_bool_at-requires-clause-row : goal.put_bool_at-requires-clause-row
put_bool_at-requires-clause-row c =
    let items = c.in-Bools.flags.now in
    let within = lent_within c.args.self.now c.self.inside.begin.now c.self.inside.valid.now c.self.inside.lent c.args.row c.self.view_is c.self.invariant c.requires.row in
    let lends : lent_values c.self.inside.lent ≡ map values.Bool items = ap lent_values c.in-Bools.is in
    omega (arith, within, c.self.invariant, ap length lends, length-map items values.Bool)

pub bytes_from-len-requires : goal.bytes_from-len-requires
bytes_from-len-requires c =
    let items = c.in-Texts.texts.now in
    let within = lent_within c.args.self.now c.self.inside.begin.now c.self.inside.valid.now c.self.inside.lent c.args.row c.self.view_is c.self.invariant c.requires.row in
    let lends : lent_values c.self.inside.lent ≡ map values.Text items = ap lent_values c.in-Texts.is in
    omega (arith, within, c.self.invariant, ap length lends, length-map items values.Text)

pub returns-in-Ints-clause-written : goal.returns-in-Ints-clause-written
returns-in-Ints-clause-written c =
    let self = c.args.self.now in
    let valid = c.self.inside.valid.now in
    let items = c.in-Ints.numbers.now in
    let within = lent_within self c.self.inside.begin.now valid c.self.inside.lent c.args.row c.self.view_is c.self.invariant c.requires.row in
    let lends : lent_values c.self.inside.lent ≡ map values.Int items = ap lent_values c.in-Ints.is in
    let same : length valid ≡ length (map values.Int items) = c.self.invariant ∙ ap length lends in
    let here : c.args.row < length items = omega (arith, within, same, length-map items values.Int) in
    let member = member_lent self c.self.inside.begin.now valid c.self.inside.lent (map values.Int items) c.args.row _ c.self.view_is lends
    (sym (value_lent values.Int valid items c.args.row (pos 0) here same)) in
    c.put_int_at.ensures.written ∙ ap (λ (m : List ℕ). take c.args.at c.args.out.now ++ m) member

pub returns-in-Bools-clause-written : goal.returns-in-Bools-clause-written
returns-in-Bools-clause-written c =
    let self = c.args.self.now in
    let valid = c.self.inside.valid.now in
    let items = c.in-Bools.flags.now in
    let within = lent_within self c.self.inside.begin.now valid c.self.inside.lent c.args.row c.self.view_is c.self.invariant c.requires.row in
    let lends : lent_values c.self.inside.lent ≡ map values.Bool items = ap lent_values c.in-Bools.is in
    let same : length valid ≡ length (map values.Bool items) = c.self.invariant ∙ ap length lends in
    let here : c.args.row < length items = omega (arith, within, same, length-map items values.Bool) in
    let member = member_lent self c.self.inside.begin.now valid c.self.inside.lent (map values.Bool items) c.args.row _ c.self.view_is lends
    (sym (value_lent values.Bool valid items c.args.row false here same)) in
    c.put_bool_at.ensures.written ∙ ap (λ (m : List ℕ). take c.args.at c.args.out.now ++ m) member

pub returns-in-Texts-clause-within : goal.returns-in-Texts-clause-within
returns-in-Texts-clause-within c =
    let same = begin_lent c.args.self.now c.self.inside.begin.now c.self.inside.valid.now c.self.inside.lent c.self.view_is in
    subst (λ (b : List ℕ). IfSome c.put_short_at.result (λ end. end ≤ c.args.at + (length b + 114))) same c.put_short_at.ensures.within

pub returns-in-Texts-clause-written : goal.returns-in-Texts-clause-written
returns-in-Texts-clause-written c =
    let self = c.args.self.now in
    let valid = c.self.inside.valid.now in
    let items = c.in-Texts.texts.now in
    let within = lent_within self c.self.inside.begin.now valid c.self.inside.lent c.args.row c.self.view_is c.self.invariant c.requires.row in
    let lends : lent_values c.self.inside.lent ≡ map values.Text items = ap lent_values c.in-Texts.is in
    let same : length valid ≡ length (map values.Text items) = c.self.invariant ∙ ap length lends in
    let here : c.args.row < length items = omega (arith, within, same, length-map items values.Text) in
    let member = member_lent self c.self.inside.begin.now valid c.self.inside.lent (map values.Text items) c.args.row _ c.self.view_is lends
    (ap (λ (t : List ℕ). if get_or valid c.args.row false then values.Text t else values.Null) c.bytes_from-len.ensures.text
    ∙ sym (value_lent values.Text valid items c.args.row [] here same)) in
    subst (λ (m : List ℕ). IfSome c.put_short_at.result (λ end. take end c.put_short_at.new.out ≡ take c.args.at c.args.out.now ++ m)) member c.put_short_at.ensures.written
