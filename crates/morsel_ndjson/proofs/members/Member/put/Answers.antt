use Rattle.std.proofs.Common.{◌≡◌, ◌<◌, ◌∙◌, ◌++◌, ℕ, pos, List, [], false, if◌then◌else◌, length, map, take, get_or, sym, ap, arith}
use Rattle.std.proofs.lemmas.List.{length-map}
use Rattle.morsel_meaning.specs.declared.value.Value.TheVariants as values
use Rattle.morsel_ndjson.specs.Members.{lent_values}
use Rattle.morsel_ndjson.proofs.MemberLemmas.{lent_within, member_lent, value_lent}
use Rattle.morsel_ndjson.proofs.PutLemmas.{puts_same}
use Rattle.morsel_ndjson.proofs.members.Member.put.Goals as goal

pub bounds-self-inside-row : goal.bounds-self-inside-row
bounds-self-inside-row c = lent_within c.args.self.now c.self.inside.begin.now c.self.inside.valid.now c.self.inside.lent c.args.row c.self.view_is c.self.invariant c.requires.row

pub put_int_member-requires-clause-row : goal.put_int_member-requires-clause-row
put_int_member-requires-clause-row c =
    let items = c.in-Ints.numbers.now in
    let within = lent_within c.args.self.now c.self.inside.begin.now c.self.inside.valid.now c.self.inside.lent c.args.row c.self.view_is c.self.invariant c.requires.row in
    let lends : lent_values c.self.inside.lent ≡ map values.Int items = ap lent_values c.in-Ints.is in
    omega (arith, within, c.self.invariant, ap length lends, length-map items values.Int)

pub put_bool_member-requires-clause-row : goal.put_bool_member-requires-clause-row
put_bool_member-requires-clause-row c =
    let items = c.in-Bools.flags.now in
    let within = lent_within c.args.self.now c.self.inside.begin.now c.self.inside.valid.now c.self.inside.lent c.args.row c.self.view_is c.self.invariant c.requires.row in
    let lends : lent_values c.self.inside.lent ≡ map values.Bool items = ap lent_values c.in-Bools.is in
    omega (arith, within, c.self.invariant, ap length lends, length-map items values.Bool)

pub bytes_from-len-requires : goal.bytes_from-len-requires
bytes_from-len-requires c =
    let items = c.in-Texts.texts.now in
    let within = lent_within c.args.self.now c.self.inside.begin.now c.self.inside.valid.now c.self.inside.lent c.args.row c.self.view_is c.self.invariant c.requires.row in
    let lends : lent_values c.self.inside.lent ≡ map values.Text items = ap lent_values c.in-Texts.is in
    omega (arith, within, c.self.invariant, ap length lends, length-map items values.Text)

pub returns-in-Ints-clause-put : goal.returns-in-Ints-clause-put
returns-in-Ints-clause-put c =
    let self = c.args.self.now in
    let valid = c.self.inside.valid.now in
    let items = c.in-Ints.numbers.now in
    let within = lent_within self c.self.inside.begin.now valid c.self.inside.lent c.args.row c.self.view_is c.self.invariant c.requires.row in
    let lends : lent_values c.self.inside.lent ≡ map values.Int items = ap lent_values c.in-Ints.is in
    let same : length valid ≡ length (map values.Int items) = c.self.invariant ∙ ap length lends in
    let here : c.args.row < length items = omega (arith, within, same, length-map items values.Int) in
    let member = member_lent self c.self.inside.begin.now valid c.self.inside.lent (map values.Int items) c.args.row _ c.self.view_is lends
    (sym (value_lent values.Int valid items c.args.row (pos 0) here same)) in
    record {
      rises = c.put_int_member.ensures.rises;
      within = c.put_int_member.ensures.inside;
      written = c.put_int_member.ensures.written ∙ ap (λ (m : List ℕ). take c.args.at c.args.out.now.items ++ m) member;
    }

pub returns-in-Bools-clause-put : goal.returns-in-Bools-clause-put
returns-in-Bools-clause-put c =
    let self = c.args.self.now in
    let valid = c.self.inside.valid.now in
    let items = c.in-Bools.flags.now in
    let within = lent_within self c.self.inside.begin.now valid c.self.inside.lent c.args.row c.self.view_is c.self.invariant c.requires.row in
    let lends : lent_values c.self.inside.lent ≡ map values.Bool items = ap lent_values c.in-Bools.is in
    let same : length valid ≡ length (map values.Bool items) = c.self.invariant ∙ ap length lends in
    let here : c.args.row < length items = omega (arith, within, same, length-map items values.Bool) in
    let member = member_lent self c.self.inside.begin.now valid c.self.inside.lent (map values.Bool items) c.args.row _ c.self.view_is lends
    (sym (value_lent values.Bool valid items c.args.row false here same)) in
    record {
      rises = c.put_bool_member.ensures.rises;
      within = c.put_bool_member.ensures.inside;
      written = c.put_bool_member.ensures.written ∙ ap (λ (m : List ℕ). take c.args.at c.args.out.now.items ++ m) member;
    }

pub returns-in-Texts-clause-put : goal.returns-in-Texts-clause-put
returns-in-Texts-clause-put c =
    let self = c.args.self.now in
    let valid = c.self.inside.valid.now in
    let items = c.in-Texts.texts.now in
    let within = lent_within self c.self.inside.begin.now valid c.self.inside.lent c.args.row c.self.view_is c.self.invariant c.requires.row in
    let lends : lent_values c.self.inside.lent ≡ map values.Text items = ap lent_values c.in-Texts.is in
    let same : length valid ≡ length (map values.Text items) = c.self.invariant ∙ ap length lends in
    let here : c.args.row < length items = omega (arith, within, same, length-map items values.Text) in
    let member = member_lent self c.self.inside.begin.now valid c.self.inside.lent (map values.Text items) c.args.row _ c.self.view_is lends
    (ap (λ (t : List ℕ). if get_or valid c.args.row false then values.Text t else values.Null) c.bytes_from-len.ensures.text
    ∙ sym (value_lent values.Text valid items c.args.row [] here same)) in
    puts_same c.args.out.now.items c.put_text_member.new.out.items _ _ c.args.at c.put_text_member.result member c.put_text_member.ensures.put
