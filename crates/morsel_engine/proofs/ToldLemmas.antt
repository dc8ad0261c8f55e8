-- What is told of files that were opened one after the other.
use Rattle.std.proofs.Common.{◌≡◌, ℕ, suc, ◌+◌, ◌-◌, ◌<◌, ap, sym, subst, refl, ◌∙◌, inl, inr, arith, length-append, append_assoc}
use Rattle.std.proofs.Math.Seq.{get_or-append_seam}
use Rattle.std.proofs.lemmas.List.Sums.{sum_by-cons}
use Rattle.std.specs.Prelude.{Option, Some, None, List, [], ◌∷◌, ◌++◌, map, length, get_or, slice_index, take, drop, IsUtf8}
use Rattle.std.specs.List.{sum_by}
use Rattle.morsel_outside.specs.declared.io.FileNo.{FileNo}
use Rattle.morsel_outside.specs.Outside.{Outside, with_more, IsSized}
use Rattle.morsel_scan.specs.FileReads.{IsTold}
use Rattle.morsel_grammar.specs.Dialect.{IsDialect}
use Rattle.morsel_scan.specs.Scans.{CsvScan}
use Rattle.morsel_read.specs.ScanReads.{FilesAsked, pieces_at_start, files_asked, sizes_in, AreNumbered, AreTold, CountsFromFirst, HasGivenRows, SuitsPieces}
use Rattle.morsel_scan.specs.CsvPieces.{bytes_between}
use Rattle.morsel_engine.specs.Courses.{file_numbers}
use Rattle.morsel_engine.specs.Stages.{AreOpenIn}
use Rattle.morsel_engine.proofs.AskLemmas.{number_of}

pub length_lengths : (files : List (List ℕ)) → length (map length files) ≡ length files
length_lengths [] = refl
length_lengths (bytes ∷ files) = ap suc (length_lengths files)

pub sum_lengths : (files : List (List ℕ)) → sum_by (λ n. n) (map length files) ≡ sum_by length files
sum_lengths [] = refl
sum_lengths (bytes ∷ files) = let a = sum_by-cons (λ (n : ℕ). n) (length bytes) (map length files) in let b = sum_by-cons (λ (xs : List ℕ). length xs) bytes files in
    let c = sum_lengths files in omega (arith, a, b, c)

-- how many bytes the files have, that were opened after others
pub sizes_opened : (before : List ℕ) (files : List (List ℕ)) → sizes_in (before ++ map length files) (file_numbers (length before) (length files)) ≡ map length files
sizes_opened before [] = refl
sizes_opened before (bytes ∷ files) =
    ap (λ (n : ℕ). n ∷ sizes_in (before ++ length bytes ∷ map length files) (file_numbers (length before + 1) (length files))) (get_or-append_seam before (length bytes) (map length files) 0)
    ∙ ap (λ (xs : List ℕ). length bytes ∷ xs) (subst (λ (n : ℕ). sizes_in (before ++ length bytes ∷ map length files) (file_numbers n (length files)) ≡ map length files) (length-append before (length bytes ∷ []))
    (subst (λ (xs : List ℕ). sizes_in xs (file_numbers (length (before ++ length bytes ∷ [])) (length files)) ≡ map length files) (append_assoc before (length bytes ∷ []) (map length files))
    (sizes_opened (before ++ length bytes ∷ []) files)))

-- what they contain is told
told_opened : (o : Outside) (held : List (List ℕ)) (before : List ℕ) (files : List (List ℕ)) → length held ≡ length before → o.held ≡ Some (held ++ files) → o.sizes ≡ before ++ map length files
    → AreTold o (file_numbers (length before) (length files)) files
told_opened o held before [] same is sizes = tt
told_opened o held before (bytes ∷ files) same is sizes = (
  subst (λ (h : Option (List (List ℕ))). IsTold h (length before) bytes) (sym is)
      (subst (λ (n : ℕ). get_or (held ++ bytes ∷ files) n [] ≡ bytes) same (get_or-append_seam held bytes files [])),
  ap (λ (xs : List ℕ). slice_index xs (length before)) sizes ∙ get_or-append_seam before (length bytes) (map length files) 0,
  subst (λ (n : ℕ). AreTold o (file_numbers n (length files)) files) (length-append before (length bytes ∷ []))
      (told_opened o (held ++ bytes ∷ []) (before ++ length bytes ∷ []) files
      (let a = length-append held (bytes ∷ []) in let b = length-append before (length bytes ∷ []) in omega (arith, a, b, same))
      (is ∙ ap (λ (xs : List (List ℕ)). Some xs) (sym (append_assoc held (bytes ∷ []) files)))
      (sizes ∙ sym (append_assoc before (length bytes ∷ []) (map length files)))),
)

-- the files before them, where files are told
held_before : (was now : Option (List (List ℕ))) (files held : List (List ℕ)) → now ≡ with_more was files → now ≡ Some held → (before : List (List ℕ)) × (now ≡ Some (before ++ files))
held_before None now files held is told = absurd (let both : None ≡ Some held = sym is ∙ told in cc)
held_before (Some before) now files held is told = (before, is)

pub are_told : (old now : Outside) (files held : List (List ℕ)) → now.sizes ≡ old.sizes ++ map length files → now.held ≡ with_more old.held files → IsSized now.held now.sizes → now.held ≡ Some held
    → AreTold now (file_numbers (length old.sizes) (length files)) files
are_told old now files held sizes held_is sized told =
    let before = held_before old.held now.held files held held_is told in
    let all : map length (before.0 ++ files) ≡ now.sizes = subst (λ (h : Option (List (List ℕ))). IsSized h now.sizes) before.1 sized in
    let counts : length (map length (before.0 ++ files)) ≡ length (old.sizes ++ map length files) = ap length (all ∙ sizes) in
    let a = length_lengths (before.0 ++ files) in let b = length-append before.0 files in let c = length-append old.sizes (map length files) in let d = length_lengths files in
    told_opened now before.0 old.sizes files (omega (arith, counts, a, b, c, d)) before.1 sizes

-- they are open
pub are_open_in : (old now : Outside) (files : List (List ℕ)) → now.sizes ≡ old.sizes ++ map length files → AreOpenIn now (file_numbers (length old.sizes) (length files))
are_open_in old now files sizes source file is =
    let of = number_of (length old.sizes) (length files) source file.0 is in
    let number = of.0 in let less = of.1 in
    let a = ap length sizes in let b = length-append old.sizes (map length files) in let c = length_lengths files in omega (arith, number, less, a, b, c)

none_between : (files : List (List ℕ)) (number : ℕ) → IsUtf8 (bytes_between files number 0 0)
none_between files number =
    let before : ℕ = sum_by length (take number files) in
    let none : 0 - before - (0 - before) ≡ 0 = omega arith in
    subst IsUtf8 (sym (ap (λ (n : ℕ). take n (drop (0 - before) (get_or files number []))) none)) ([], (refl, refl))

-- nothing was given of a scan of files, at least one, at first
pub has_given_nothing : (s : CsvScan) (names files : List (List ℕ)) (numbers : List FileNo) (first chunk : ℕ) (o : Outside) → IsDialect s.options → CountsFromFirst s.scan.asked.slice
    → length names ≡ length files → 0 < length files → AreTold o numbers files → HasGivenRows s files o (pieces_at_start (files_asked s names numbers first chunk))
has_given_nothing s names files numbers first chunk o fit from one_each some told = record {
  fit = fit;
  is = refl;
  from_first = from;
  no_fault = refl;
  one_each = one_each;
  told = told;
  earlier = 0;
  rows_before = refl;
  within = 0;
  rows_within = refl;
  rows_are = refl;
  after_pieces = inl (inr (record { source = 0; is_source = some; rows_before = refl; place_is = refl }));
  passed = none_between files;
}

-- a reader that has read nothing suits the outside in which its files are open
pub suits_at_first : (sources : FilesAsked) (o : Outside) → AreNumbered sources → AreOpenIn o sources.files → SuitsPieces o (pieces_at_start sources)
suits_at_first sources o numbered opened = record {
  opened = λ none. record {
    numbered = numbered;
    within = omega arith;
    opened = opened;
    current = tt;
    earlier = refl;
    fits = omega arith;
    order = omega arith;
    few = omega arith;
    pieces = omega arith;
  };
  listed = λ fault is. absurd (let e : None ≡ Some fault = is in cc);
}
