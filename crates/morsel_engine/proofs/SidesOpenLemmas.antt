-- Files of two sides, which are opened one after the other.
use Rattle.std.proofs.Common.{◌≡◌, ℕ, zero, suc, ◌+◌, ◌<◌, ◌≤◌, ap, sym, subst, refl, ◌∙◌, arith, append-nil, length-append}
use Rattle.std.specs.Prelude.{Option, Some, None, Err, List, [], ◌∷◌, ◌++◌, map, length, slice_get}
use Rattle.morsel_meaning.specs.declared.fault.Fault.{Fault}
use Rattle.morsel_meaning.specs.declared.fault.Fault.TheVariants as faults
use Rattle.morsel_outside.specs.declared.io.FileNo.{FileNo}
use Rattle.morsel_outside.specs.Outside.{Outside, with_more, IsSized}
use Rattle.morsel_outside.specs.Actions.{Action, Opening, FailedOpening, Does}
use Rattle.morsel_outside.proofs.ActionLemmas.{does-append, with_more-nil}
use Rattle.morsel_engine.specs.Courses.{openings, file_numbers}
use Rattle.morsel_engine.specs.Stages.{HasOpenedFirst, HasOpenedAll, FailsToOpen, OpensSources}
use Rattle.morsel_engine.proofs.OpenLemmas.{is_opened, number_next, numbers-append}

openings-more : (left right files : List (List ℕ)) → length files ≤ length left → openings (left ++ right) files ≡ openings left files
openings-more [] [] [] few = refl
openings-more [] (name ∷ right) [] few = refl
openings-more [] right (bytes ∷ files) few = absurd (omega (arith, few))
openings-more (name ∷ left) right [] few = refl
openings-more (name ∷ left) right (bytes ∷ files) few = ap (λ (rest : List Action). Opening name bytes ∷ rest) (openings-more left right files (omega (arith, few)))

openings-append : (left right files more : List (List ℕ)) → length files ≡ length left → openings (left ++ right) (files ++ more) ≡ openings left files ++ openings right more
openings-append [] right [] more all = refl
openings-append [] right (bytes ∷ files) more all = absurd (omega (arith, all))
openings-append (name ∷ left) right [] more all = absurd (omega (arith, all))
openings-append (name ∷ left) right (bytes ∷ files) more all = ap (λ (rest : List Action). Opening name bytes ∷ rest) (openings-append left right files more (omega (arith, all)))

name-more : (left right : List (List ℕ)) (source : ℕ) (name : List ℕ) → slice_get left source ≡ Some name → slice_get (left ++ right) source ≡ Some name
name-more [] right source name is = absurd (let e : None ≡ Some name = is in cc)
name-more (first ∷ left) right zero name is = is
name-more (first ∷ left) right (suc source) name is = name-more left right source name is

name-append : (left right : List (List ℕ)) (source : ℕ) → slice_get (left ++ right) (length left + source) ≡ slice_get right source
name-append [] right source = ap (slice_get right) (let same : 0 + source ≡ source = omega arith in same)
name-append (first ∷ left) right source = ap (slice_get (first ∷ (left ++ right))) (let same : suc (length left) + source ≡ suc (length left + source) = omega arith in same) ∙ name-append left right source

-- the first of the left ones
first-left : (old new : Outside) (left right files : List (List ℕ)) → HasOpenedFirst old left files new → HasOpenedFirst old (left ++ right) files new
first-left old new left right files first = record {
  few = let n = first.few in let m = length-append left right in omega (arith, n, m);
  does = subst (λ (actions : List Action). Does old actions new) (sym (openings-more left right files first.few)) first.does;
  sized = first.sized;
}

-- all left ones, and the first of the right ones
pub first-right : (old between new : Outside) (left right files more : List (List ℕ)) (numbers : List FileNo) → HasOpenedAll old left numbers files between → HasOpenedFirst between right more new
    → HasOpenedFirst old (left ++ right) (files ++ more) new
first-right old between new left right files more numbers all first = record {
  few = let n = all.all in let m = first.few in let a = length-append left right in let b = length-append files more in omega (arith, n, m, a, b);
  does = subst (λ (actions : List Action). Does old actions new) (sym (openings-append left right files more all.all)) (does-append old between new (openings left files) (openings right more) all.first.does first.does);
  sized = sized more (is_opened between new right more first).sizes (is_opened between new right more first).held first.sized;
}
  where
    sized : (more : List (List ℕ)) → new.sizes ≡ between.sizes ++ map length more → new.held ≡ with_more between.held more
        → (0 < length more → IsSized new.held new.sizes) → 0 < length (files ++ more) → IsSized new.held new.sizes
    sized [] sizes held later some =
        subst (λ (xs : List ℕ). IsSized new.held xs) (sym (sizes ∙ append-nil between.sizes))
        (subst (λ (h : Option (List (List ℕ))). IsSized h between.sizes) (sym (held ∙ with_more-nil between.held))
        (all.first.sized (let n = length-append files [] in omega (arith, n, some))))
    sized (bytes ∷ more) sizes held later some = later (omega arith)

pub all-both : (old between new : Outside) (left right files more : List (List ℕ)) (numbers others : List FileNo) → HasOpenedAll old left numbers files between → HasOpenedAll between right others more new
    → HasOpenedAll old (left ++ right) (numbers ++ others) (files ++ more) new
all-both old between new left right files more numbers others all rest = record {
  first = first-right old between new left right files more numbers all rest.first;
  all = let n = all.all in let m = rest.all in let a = length-append left right in let b = length-append files more in omega (arith, n, m, a, b);
  numbers_are =
      ap (λ (xs : List FileNo). xs ++ others) all.numbers_are ∙ ap (λ (xs : List FileNo). file_numbers (length old.sizes) (length files) ++ xs)
      (rest.numbers_are ∙ ap (λ (n : ℕ). file_numbers n (length more)) (number_next old between left files all.first))
      ∙ sym (ap (file_numbers (length old.sizes)) (length-append files more) ∙ numbers-append (length old.sizes) (length files) (length more));
}

-- a left one could not be opened, or a right one
fails-left : (old new : Outside) (left right files : List (List ℕ)) (source : ℕ) → FailsToOpen old left files source new → FailsToOpen old (left ++ right) files source new
fails-left old new left right files source f = record {
  between = f.between;
  first = first-left old f.between left right files f.first;
  number = f.number;
  within = let n = f.within in let m = length-append left right in omega (arith, n, m);
  name = f.name;
  is_name = name-more left right source f.name f.is_name;
  fails = f.fails;
}

fails-right : (old between new : Outside) (left right files more : List (List ℕ)) (numbers : List FileNo) (source : ℕ) → HasOpenedAll old left numbers files between → FailsToOpen between right more source new
    → FailsToOpen old (left ++ right) (files ++ more) (length left + source) new
fails-right old between new left right files more numbers source all f = record {
  between = f.between;
  first = first-right old between f.between left right files more numbers all f.first;
  number = let n = f.number in let m = all.all in let a = length-append files more in omega (arith, n, m, a);
  within = let n = f.within in let m = length-append left right in omega (arith, n, m);
  name = f.name;
  is_name = name-append left right source ∙ f.is_name;
  fails = subst (λ (n : ℕ). Does f.between (FailedOpening n f.name ∷ []) new)
      (let n = number_next old between left files all.first in let m = all.all in let same : length between.sizes + source ≡ length old.sizes + (length left + source) = omega (arith, n, m) in same) f.fails;
}

-- so it is of the sources of both
pub opens-left : (old new : Outside) (left right : List (List ℕ)) (fault : Fault) → OpensSources old left 0 (Err fault) new → OpensSources old (left ++ right) 0 (Err fault) new
opens-left old new left right faults.OutOfMemory (files, first) = (files, first-left old new left right files first)
opens-left old new left right (faults.ReadFault file) (files, source, is, fails) = (files, source, is, fails-left old new left right files source fails)
opens-left old new left right faults.WriteFault h = absurd h
opens-left old new left right (faults.InvalidQuery why) h = absurd h
opens-left old new left right (faults.Malformed file at) h = absurd h
opens-left old new left right (faults.Unsupported file code) h = absurd h
opens-left old new left right (faults.ColumnNotFound name) h = absurd h
opens-left old new left right (faults.SchemaMismatch name) h = absurd h
opens-left old new left right (faults.Duplicate name) h = absurd h
opens-left old new left right (faults.ComputeError kind file at) h = absurd h
opens-left old new left right faults.QueryText h = absurd h
opens-left old new left right faults.Usage h = absurd h

pub opens-right : (old between new : Outside) (left right files : List (List ℕ)) (numbers : List FileNo) (fault : Fault) (first : ℕ) → HasOpenedAll old left numbers files between → first ≡ length left
    → OpensSources between right first (Err fault) new → OpensSources old (left ++ right) 0 (Err fault) new
opens-right old between new left right files numbers faults.OutOfMemory first all same (more, opened) = (files ++ more, first-right old between new left right files more numbers all opened)
opens-right old between new left right files numbers (faults.ReadFault file) first all same (more, source, is, fails) =
    (files ++ more, length left + source, (let n : file ≡ 0 + (length left + source) = omega (arith, is, same) in n), fails-right old between new left right files more numbers source all fails)
opens-right old between new left right files numbers faults.WriteFault first all same h = absurd h
opens-right old between new left right files numbers (faults.InvalidQuery why) first all same h = absurd h
opens-right old between new left right files numbers (faults.Malformed file at) first all same h = absurd h
opens-right old between new left right files numbers (faults.Unsupported file code) first all same h = absurd h
opens-right old between new left right files numbers (faults.ColumnNotFound name) first all same h = absurd h
opens-right old between new left right files numbers (faults.SchemaMismatch name) first all same h = absurd h
opens-right old between new left right files numbers (faults.Duplicate name) first all same h = absurd h
opens-right old between new left right files numbers (faults.ComputeError kind file at) first all same h = absurd h
opens-right old between new left right files numbers faults.QueryText first all same h = absurd h
opens-right old between new left right files numbers faults.Usage first all same h = absurd h
