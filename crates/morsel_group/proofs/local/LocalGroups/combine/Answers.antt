use Rattle.std.proofs.Common.{rules, ◌≡◌, ◌++◌, ◌∷◌, [], All, List, None, IsSome, length, get_or, refl, arith, ap, ◌∙◌, sym, subst, append_assoc, append-nil}
use Rattle.std.specs.Prelude.{Option, option_map}
use Rattle.std.specs.Vec.Iter.{into_iter_items}
use Rattle.std.proofs.lemmas.Bool.{false≢true}
use Rattle.std.proofs.lemmas.List.{nil_from_length}
use Rattle.std.proofs.lemmas.List.Elements.{All-get_or, All-nil, All-push}
use Rattle.morsel_group.specs.Locals.{AreSameGroupBy, HasShape, HasTakenRows, HaveTaken, HeldGroups, held_in}
use Rattle.morsel_group.proofs.JoinLemmas.{next_within, next_read}
use Rattle.morsel_group.proofs.LocalLemmas.{HaveBegun, none_later, rows_more, rows_refused, whole_stays, whole_taken}
use Rattle.morsel_group.proofs.local.LocalGroups.combine.Goals as goal

pub loop-local-init : goal.loop-local-init
loop-local-init c = record {
  all = search rules;
  groups = tt;
  begun = refl;
  each = All-nil (λ (local : Option HeldGroups). IsSome local);
  alike = λ k inside. tt;
  rows = λ lists taken. none_later lists taken;
}

pub joined-requires-clause-alike : goal.joined-requires-clause-alike
joined-requires-clause-alike c =
    let before = c.loop-local.yielded in
    let local = c.in-Some.local in
    let rest = into_iter_items c.next.new.self in
    let more = ap (λ xs. before ++ xs) (sym c.in-Some.ensures.steps.0) ∙ c.loop-local.invariant.all in
    let within = next_within before rest c.args.locals.items local more in
    let read = next_read before rest c.args.locals.items local None (length before) more refl in
    subst (λ (v : Option HeldGroups). AreSameGroupBy (option_map held_in c.loop-local.whole) v) (read ∙ sym c.local.view_is) (c.loop-local.invariant.alike (length before) within)

pub loop-local-preserved : goal.loop-local-preserved
loop-local-preserved c =
    let before = c.loop-local.yielded in
    let local = c.in-Some.local in
    let rest = into_iter_items c.next.new.self in
    let more = ap (λ xs. before ++ xs) (sym c.in-Some.ensures.steps.0) ∙ c.loop-local.invariant.all in
    let within = next_within before rest c.args.locals.items local more in
    let read = next_read before rest c.args.locals.items local None (length before) more refl in
    record {
      all = append_assoc before (local ∷ []) rest ∙ more;
      groups = c.in-Ok.ensures.groups;
      begun = tt;
      each = All-push (λ (held : Option HeldGroups). IsSome held) before local c.loop-local.invariant.each (subst (λ (v : Option HeldGroups). IsSome v) c.local.view_is c.in-Ok.ensures.some);
      alike = λ k inside. c.in-Ok.ensures.alike (get_or c.args.locals.items k None)
          (subst (λ (v : Option HeldGroups). AreSameGroupBy v (get_or c.args.locals.items k None)) (read ∙ sym c.local.view_is) (c.requires.alike (length before) k within inside));
      rows = λ lists taken. rows_more before local c.loop-local.whole c.in-Ok.groups lists c.loop-local.invariant.rows
          (λ rows own have has. c.in-Ok.ensures.rows rows own have (subst (λ (v : Option HeldGroups). HasTakenRows v own) (sym c.local.view_is) has)) taken;
    }

pub returns-in-Err-clause-refused : goal.returns-in-Err-clause-refused
returns-in-Err-clause-refused c lists shape taken is =
    let before = c.loop-local.yielded in
    let local = c.in-Some.local in
    let rest = into_iter_items c.next.new.self in
    let more = ap (λ xs. before ++ xs) (sym c.in-Some.ensures.steps.0) ∙ c.loop-local.invariant.all in
    let within = next_within before rest c.args.locals.items local more in
    let read = next_read before rest c.args.locals.items local None (length before) more refl in
    rows_refused before local rest c.args.locals.items c.loop-local.whole c.in-Err.fault lists shape more c.loop-local.invariant.rows
    (λ rows own s have has shaped. c.in-Err.ensures.refused rows own s have (subst (λ (v : Option HeldGroups). HasTakenRows v own) (sym c.local.view_is) has) (subst (λ (v : Option HeldGroups). HasShape v s) (sym c.local.view_is) shaped))
    (subst (λ (v : Option HeldGroups). AreSameGroupBy (get_or c.args.locals.items 0 None) v) read (c.requires.alike 0 (length before) c.requires.some within)) taken is

pub returns-clause-same : goal.returns-clause-same
returns-clause-same c =
    let none : into_iter_items c.loop-local.local-iterator ≡ [] = nil_from_length (into_iter_items c.loop-local.local-iterator) (omega (arith, c.in-None.ensures.steps.0)) in
    let done : c.loop-local.yielded ≡ c.args.locals.items = sym (append-nil c.loop-local.yielded) ∙ ap (λ xs. c.loop-local.yielded ++ xs) (sym none) ∙ c.loop-local.invariant.all in
    whole_stays c.args.locals.items c.loop-local.whole c.requires.some (subst (λ (ls : List (Option HeldGroups)). HaveBegun c.loop-local.whole ls) done c.loop-local.invariant.begun) (c.loop-local.invariant.alike 0 c.requires.some)

pub returns-clause-rows : goal.returns-clause-rows
returns-clause-rows c lists taken =
    let none : into_iter_items c.loop-local.local-iterator ≡ [] = nil_from_length (into_iter_items c.loop-local.local-iterator) (omega (arith, c.in-None.ensures.steps.0)) in
    let done : c.loop-local.yielded ≡ c.args.locals.items = sym (append-nil c.loop-local.yielded) ∙ ap (λ xs. c.loop-local.yielded ++ xs) (sym none) ∙ c.loop-local.invariant.all in
    whole_taken c.args.locals.items c.loop-local.whole lists c.requires.some (subst (λ (ls : List (Option HeldGroups)). HaveBegun c.loop-local.whole ls) done c.loop-local.invariant.begun)
    (c.loop-local.invariant.rows lists (subst (λ (ls : List (Option HeldGroups)). HaveTaken ls lists) (sym done) taken))

pub returns-clause-ended : goal.returns-clause-ended
returns-clause-ended c at within none =
    let empty : into_iter_items c.loop-local.local-iterator ≡ [] = nil_from_length (into_iter_items c.loop-local.local-iterator) (omega (arith, c.in-None.ensures.steps.0)) in
    let done : c.loop-local.yielded ≡ c.args.locals.items = sym (append-nil c.loop-local.yielded) ∙ ap (λ xs. c.loop-local.yielded ++ xs) (sym empty) ∙ c.loop-local.invariant.all in
    let each = subst (All (λ (local : Option HeldGroups). IsSome local)) done c.loop-local.invariant.each in
    let some : IsSome {T = HeldGroups} None = subst (λ (local : Option HeldGroups). IsSome local) none (All-get_or (λ (local : Option HeldGroups). IsSome local) c.args.locals.items at None within each) in
    false≢true some
