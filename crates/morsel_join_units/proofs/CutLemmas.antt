-- Rows that are given one cut after the other.
use Rattle.std.proofs.Common.{◌≡◌, ◌+◌, ◌++◌, [], ◌∷◌, List, ℕ, length, take, drop, refl, sym, ap, ◌∙◌, arith, append_assoc, Bool}
use Rattle.std.proofs.lemmas.List.{length-append}
use Rattle.morsel_meaning.specs.Values.{Row}
use Rattle.morsel_load.specs.declared.morsels.Stretch.{Stretch}
use Rattle.morsel_join.specs.declared.some_rows.SomeRows.{SomeRows}
use Rattle.morsel_join.specs.Cuts.{GivesSome}
use Rattle.morsel_rows_job.specs.RowsJobs.{IsCutOf}
use Rattle.morsel_join_units.specs.RowCutters.{GivesRest, HasCut, next_cut, stretch_of}
use Rattle.morsel_join_units.specs.declared.row_cutter.RowCutter.{RowCutter}

behind : {X : Type 0} (front rest : List X) → drop (length front) (front ++ rest) ≡ rest
behind [] rest = refl
behind (x ∷ front) rest = behind front rest

before : {X : Type 0} (front rest : List X) → take (length front) (front ++ rest) ≡ front
before [] rest = refl
before (x ∷ front) rest = ap (λ xs. x ∷ xs) (before front rest)

-- rows that come behind those that were given are a cut of all
cut-of : (all front rest rows later : List Row) (given : ℕ) → all ≡ front ++ rest → length front ≡ given → rest ≡ rows ++ later
    → (rows ≡ take (length rows) (drop given all)) × (length all ≡ given + length rows + length later)
cut-of all front rest rows later given whole len cut =
    let same : all ≡ front ++ (rows ++ later) = whole ∙ ap (λ (xs : List Row). front ++ xs) cut in (
      sym (ap (λ (xs : List Row). take (length rows) (drop given xs)) same ∙ ap (λ (n : ℕ). take (length rows) (drop n (front ++ (rows ++ later)))) (sym len) ∙ ap (take (length rows)) (behind front (rows ++ later)) ∙ before rows later),
      ap (λ (xs : List Row). length xs) same ∙ length-append front (rows ++ later) ∙ ap (λ (n : ℕ). length front + n) (length-append rows later) ∙ omega (arith, len),
    )

-- the next rows of a stretch are a cut of it
pub cut-next : (Left Then : List Row → Type 0) (limit : ℕ) (all : List Row) (some : SomeRows) (cutter : RowCutter) (rows : List Row) (cut : Stretch)
    → ((rest : List Row) → Left rest → GivesSome Then limit rest some) → rows ≡ some.frame.rows → cut ≡ next_cut cutter some.last → HasCut Left all cutter.given → IsCutOf all (stretch_of cutter) rows cut
cut-next Left Then limit all some cutter rows cut gives same is has =
    let h = gives has.rest has.left in
    let these : has.rest ≡ rows ++ h.later = h.all ∙ ap (λ (xs : List Row). xs ++ h.later) (sym same) in
    let p = cut-of all has.front has.rest rows h.later cutter.given has.same has.many these in
    let skip : cut.skip ≡ cutter.given = ap (λ (s : Stretch). s.skip) is in
    let last : cut.last ≡ some.last = ap (λ (s : Stretch). s.last) is in
    record {
      from = ap (λ (s : Stretch). s.from) is;
      to = ap (λ (s : Stretch). s.to) is;
      within = omega (arith, skip, p.1);
      are = p.0 ∙ ap (λ (n : ℕ). take (length rows) (drop n all)) (sym skip);
      ends = λ ended. let none : length h.later ≡ 0 = ap (λ (xs : List Row). length xs) (h.last (sym last ∙ ended)) in omega (arith, skip, p.1, none);
    }

-- and then so many more were given
pub given-next : (Left Then : List Row → Type 0) (limit given now : ℕ) (all : List Row) (some : SomeRows) → ((rest : List Row) → Left rest → GivesSome Then limit rest some) → now ≡ given + length some.frame.rows → HasCut Left all given → HasCut Then all now
given-next Left Then limit given now all some gives more has =
    let h = gives has.rest has.left in
    let rows : List Row = some.frame.rows in
    record {
      front = has.front ++ rows;
      rest = h.later;
      left = h.left;
      same = has.same ∙ ap (λ (xs : List Row). has.front ++ xs) h.all ∙ sym (append_assoc has.front rows h.later);
      many = length-append has.front rows ∙ omega (arith, has.many, more);
    }

-- the next rows were given of those that were left
pub rest-next : (Then : List Row → Type 0) (limit : ℕ) (rest : List Row) (some : SomeRows) (rows : List Row) (last : Bool) → rows ≡ some.frame.rows → last ≡ some.last → GivesSome Then limit rest some → GivesRest Then rest rows last
rest-next Then limit rest some rows last same is gives = record { later = gives.later; same = gives.all ∙ ap (λ (xs : List Row). xs ++ gives.later) (sym same); left = gives.left; none = λ ends. gives.last (sym is ∙ ends) }

-- a cut of one stretch is one of another with the same places
pub cut-along : (all rows : List Row) (stretch other cut : Stretch) → stretch.from ≡ other.from → stretch.to ≡ other.to → IsCutOf all stretch rows cut → IsCutOf all other rows cut
cut-along all rows stretch other cut from to is = record { from = is.from ∙ from; to = is.to ∙ to; within = is.within; are = is.are; ends = is.ends }
