-- The rows of a group-by that were given.
use Rattle.std.proofs.Common.{◌≡◌, ◌≤◌, ◌+◌, ◌++◌, ◌==◌, [], ◌∷◌, List, ℕ, zero, suc, true, false, length, take, drop, refl, sym, ap, subst, ◌∙◌, arith}
use Rattle.std.specs.List.{All, flat_map}
use lib.Seq.{take-add}
use Rattle.std.proofs.lemmas.Bool.Decides.{nat_tests}
use Rattle.std.proofs.lemmas.List.{flat_map_more}
use Rattle.std.proofs.lemmas.List.Elements.{All-nil, All-push}
use Rattle.morsel_meaning.specs.Values.{Row, Table}
use Rattle.morsel_load.specs.Loads.{LoadSeen, SeenMorsel, seen_seq}
use Rattle.morsel_load.specs.Sources.{SourceSeen}
use Rattle.morsel_load.specs.declared.morsels.Stretch.{Stretch}
use Rattle.morsel_rows_job.specs.RowsJobs.{IsCutOf, RowsCut, alone_stretch, rows_of_cuts}
use Rattle.morsel_group_units.specs.GroupGivers.{DidGiveGroups, IsLaterGroupGiver}
use Rattle.morsel_group_units.specs.TakenLoads.{cuts_of_load}
use Rattle.morsel_group_units.specs.declared.giver.GroupGiver.{GroupGiver}

take_len : (n : ℕ) (xs : List Row) → n ≤ length xs → length (take n xs) ≡ n
take_len zero xs within = refl
take_len (suc n) [] within = absurd (omega (arith, within))
take_len (suc n) (x ∷ xs) within = ap suc (take_len n xs (omega (arith, within)))

drop_len : (at : ℕ) (xs : List Row) → at ≤ length xs → at + length (drop at xs) ≡ length xs
drop_len zero xs within = omega arith
drop_len (suc at) [] within = absurd (omega (arith, within))
drop_len (suc at) (x ∷ xs) within = let later = drop_len at xs (omega (arith, within)) in omega (arith, later)

-- so many of the rows from a place on
pub given_len : (all rows : List Row) (at some left : ℕ) → rows ≡ take some (drop at all) → at + left ≡ length all → some ≤ left → length rows ≡ some
given_len all rows at some left are whole within =
    let rest = drop_len at all (omega (arith, whole)) in ap (λ (rs : List Row). length rs) are ∙ take_len some (drop at all) (omega (arith, rest, whole, within))

-- are a cut of them
pub cut_given : (all rows : List Row) (at some left : ℕ) (stretch : Stretch) → rows ≡ take some (drop at all) → at + left ≡ length all → some ≤ left → stretch.from ≡ 0 → stretch.to ≡ 1 → stretch.skip ≡ at → stretch.last ≡ (some == left) → IsCutOf all alone_stretch rows stretch
cut_given all rows at some left stretch are whole within from to skip last =
    let len = given_len all rows at some left are whole within in
    record {
      from = from;
      to = to;
      within = omega (arith, skip, len, whole, within);
      are = are ∙ ap (λ (n : ℕ). take n (drop at all)) (sym len) ∙ ap (λ (n : ℕ). take (length rows) (drop n all)) (sym skip);
      ends = λ ended. let same : some ≡ left = grind (arith, nat_tests, sym last ∙ ended) in omega (arith, skip, len, whole, same);
    }

-- nothing was given yet
pub did_none : (giver : GroupGiver) → giver.at ≡ 0 → giver.ended ≡ false → DidGiveGroups giver []
did_none giver at more = record {
  rows = ap (λ (n : ℕ). take n giver.frame.rows) (sym at);
  all = λ ended. absurd (let no : false ≡ true = sym more ∙ ended in cc);
  numbers = All-nil (λ (load : LoadSeen). seen_seq load ≡ giver.seq);
}

-- one load more was given
pub did_more : (giver later : GroupGiver) (made : List LoadSeen) (frame : Table) (seq : ℕ) (source : SourceSeen) (stretch : Stretch) → IsLaterGroupGiver giver later → IsCutOf giver.frame.rows alone_stretch frame.rows stretch → stretch.skip ≡ giver.at
    → later.at ≡ giver.at + length frame.rows → seq ≡ giver.seq → later.ended ≡ stretch.last → DidGiveGroups giver made → DidGiveGroups later (made ++ SeenMorsel frame seq source stretch ∷ [])
did_more giver later made frame seq source stretch is cut skip at number ended did =
    let load : LoadSeen = SeenMorsel frame seq source stretch in
    let own : RowsCut = record { seq = seq; stretch = stretch; frame = frame } in
    let here : frame.rows ≡ take (length frame.rows) (drop giver.at giver.frame.rows) = cut.are ∙ ap (λ (n : ℕ). take (length frame.rows) (drop n giver.frame.rows)) skip in
    record {
      rows =
          ap rows_of_cuts (sym (flat_map_more cuts_of_load [] made load)) ∙ sym (flat_map_more (λ (c : RowsCut). c.frame.rows) [] (flat_map cuts_of_load made) own) ∙ ap (λ (rows : List Row). rows ++ frame.rows) did.rows
          ∙ ap (λ (rows : List Row). take giver.at giver.frame.rows ++ rows) here ∙ sym (take-add giver.at (length frame.rows) giver.frame.rows) ∙ ap (λ (n : ℕ). take n giver.frame.rows) (sym at) ∙ ap (λ (t : Table). take later.at t.rows) (sym is.frame);
      all = λ last. let ends = cut.ends (sym ended ∙ last) in at ∙ ap (λ (n : ℕ). n + length frame.rows) (sym skip) ∙ ends ∙ ap (λ (t : Table). length t.rows) (sym is.frame);
      numbers = subst (λ (n : ℕ). All (λ (l : LoadSeen). seen_seq l ≡ n) (made ++ load ∷ [])) (sym is.number) (All-push (λ (l : LoadSeen). seen_seq l ≡ giver.seq) made load did.numbers number);
    }
