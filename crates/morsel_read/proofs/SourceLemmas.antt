-- The files of a scan by their numbers: which they are, how many bytes they have, and how many rows come before them.
use Rattle.std.proofs.Common.{◌≡◌, ℕ, zero, suc, ◌+◌, ◌-◌, ◌<◌, ◌≤◌, ap, sym, subst, refl, ◌∙◌, inl, arith}
use Rattle.std.proofs.lemmas.List.{take_all}
use Rattle.std.proofs.lemmas.List.Sums.{sum_by-cons}
use Rattle.std.proofs.lemmas.Str.{IsUtf8-nil}
use Rattle.std.specs.Prelude.{Option, Some, List, [], ◌∷◌, map, length, take, drop, get_or, slice_get, slice_index, IsUtf8}
use Rattle.std.specs.List.{sum_by}
use Rattle.morsel_grammar.specs.Dialect.{IsDialect}
use Rattle.morsel_grammar.specs.Rows.{behind_header}
use Rattle.morsel_outside.specs.Outside.{Outside}
use Rattle.morsel_outside.specs.declared.io.FileNo.{FileNo}
use Rattle.morsel_cut.specs.RowCounts.{row_count}
use Rattle.morsel_scan.specs.Scans.{CsvScan}
use Rattle.morsel_scan.specs.CsvPieces.{HaveRows, bytes_between}
use Rattle.morsel_scan.specs.FileReads.{IsTold}
use Rattle.morsel_scan.proofs.RowStretchLemmas.{rows_at_end}
use Rattle.morsel_read.specs.ScanReads.{sizes_in, AreTold}

-- what is there is within the list
pub get_less : {X : Type 0} (xs : List X) (n : ℕ) (x : X) → slice_get xs n ≡ Some x → n < length xs
get_less [] n x is = absurd (cc)
get_less (y ∷ xs) zero x is = omega arith
get_less (y ∷ xs) (suc n) x is = let less = get_less xs n x is in omega (arith, less)

-- its size
pub size_at : (o : Outside) (files : List FileNo) (n : ℕ) (file : FileNo) → slice_get files n ≡ Some file → get_or (sizes_in o.sizes files) n 0 ≡ slice_index o.sizes file.0
size_at o [] n file is = absurd (cc)
size_at o (first ∷ files) zero file is = let same : first ≡ file = cc in ap (λ (x : FileNo). slice_index o.sizes x.0) same
size_at o (first ∷ files) (suc n) file is = size_at o files n file is

-- the bytes up to the next file
pub sum_next : (xs : List ℕ) (n : ℕ) → n < length xs → sum_by (λ n. n) (take (n + 1) xs) ≡ sum_by (λ n. n) (take n xs) + get_or xs n 0
sum_next [] n less = absurd (omega arith)
sum_next (x ∷ xs) zero less = let one = sum_by-cons (λ n. n) x [] in omega (arith, one)
sum_next (x ∷ xs) (suc n) less =
    let next : suc n + 1 ≡ suc (n + 1) = omega arith in
    let more = sum_next xs n (omega arith) in
    let one = sum_by-cons (λ n. n) x (take (n + 1) xs) in
    let two = sum_by-cons (λ n. n) x (take n xs) in
    let there : sum_by (λ n. n) (take (suc n + 1) (x ∷ xs)) ≡ sum_by (λ n. n) (x ∷ take (n + 1) xs) = ap (λ k. sum_by (λ n. n) (take k (x ∷ xs))) next in
    omega (arith, more, one, two, there)

pub sizes_len : (o : Outside) (files : List FileNo) → length (sizes_in o.sizes files) ≡ length files
sizes_len o [] = refl
sizes_len o (file ∷ files) = ap suc (sizes_len o files)

-- sizes are those of another outside that has the same
pub sizes_same : (o other : Outside) (files : List FileNo) → other.sizes ≡ o.sizes → sizes_in other.sizes files ≡ sizes_in o.sizes files
sizes_same o other files same = ap (λ (x : List ℕ). map (λ (file : FileNo). slice_index x file.0) files) same

-- what the files contain is told of each
pub told_at : (o : Outside) (numbers : List FileNo) (files : List (List ℕ)) (n : ℕ) (file : FileNo) → AreTold o numbers files → slice_get numbers n ≡ Some file
    → (bytes : List ℕ) × (slice_get files n ≡ Some bytes) × IsTold o.held file.0 bytes × (slice_index o.sizes file.0 ≡ length bytes)
told_at o [] files n file told is = absurd (cc)
told_at o (first ∷ numbers) [] n file told is = absurd told
told_at o (first ∷ numbers) (bytes ∷ files) zero file told is =
    let same : first ≡ file = cc in (
      bytes,
      refl,
      subst (λ (x : FileNo). IsTold o.held x.0 bytes) same told.0,
      ap (λ (x : FileNo). slice_index o.sizes x.0) (sym same) ∙ told.1,
    )
told_at o (first ∷ numbers) (bytes ∷ files) (suc n) file told is = told_at o numbers files n file told.2 is

pub told_len : (o : Outside) (numbers : List FileNo) (files : List (List ℕ)) → AreTold o numbers files → length numbers ≡ length files
told_len o [] [] told = refl
told_len o [] (bytes ∷ files) told = absurd told
told_len o (first ∷ numbers) [] told = absurd told
told_len o (first ∷ numbers) (bytes ∷ files) told = ap suc (told_len o numbers files told.2)

pub told_same : (o other : Outside) (numbers : List FileNo) (files : List (List ℕ)) → other.sizes ≡ o.sizes → other.held ≡ o.held → AreTold o numbers files → AreTold other numbers files
told_same o other [] [] sizes held told = tt
told_same o other [] (bytes ∷ files) sizes held told = absurd told
told_same o other (first ∷ numbers) [] sizes held told = absurd told
told_same o other (first ∷ numbers) (bytes ∷ files) sizes held told = (
  subst (λ (x : Option (List (List ℕ))). IsTold x first.0 bytes) (sym held) told.0,
  ap (λ (x : List ℕ). slice_index x first.0) sizes ∙ told.1,
  told_same o other numbers files sizes held told.2,
)

-- the bytes of the files before one are those that are told
pub told_sum : (o : Outside) (numbers : List FileNo) (files : List (List ℕ)) (n : ℕ) → AreTold o numbers files
    → sum_by (λ n. n) (take n (sizes_in o.sizes numbers)) ≡ sum_by length (take n files)
told_sum o [] [] zero told = refl
told_sum o [] [] (suc n) told = refl
told_sum o [] (bytes ∷ files) n told = absurd told
told_sum o (first ∷ numbers) [] n told = absurd told
told_sum o (first ∷ numbers) (bytes ∷ files) zero told = refl
told_sum o (first ∷ numbers) (bytes ∷ files) (suc n) told =
    let more = told_sum o numbers files n told.2 in
    let one = sum_by-cons (λ n. n) (slice_index o.sizes first.0) (take n (sizes_in o.sizes numbers)) in
    let two = sum_by-cons length bytes (take n files) in
    omega (arith, more, one, two, told.1)

-- the rows of files up to the next one
pub rows_next : (s : CsvScan) (files : List (List ℕ)) (n : ℕ) (bytes : List ℕ) (earlier within : ℕ) → slice_get files n ≡ Some bytes → HaveRows s (take n files) earlier
    → HaveRows s (bytes ∷ []) within → HaveRows s (take (n + 1) files) (earlier + within)
rows_next s [] n bytes earlier within is before here = absurd (cc)
rows_next s (first ∷ files) zero bytes earlier within is before here =
    let same : bytes ≡ first = cc in
    let all : within ≡ earlier + within = omega (arith, before) in
    subst (λ n. HaveRows s (first ∷ []) n) all (subst (λ (x : List ℕ). HaveRows s (x ∷ []) within) same here)
rows_next s (first ∷ files) (suc n) bytes earlier within is (records, split, more, before, counted) here =
    let next : suc (n + 1) ≡ suc n + 1 = omega arith in
    let count : ℕ = row_count (length s.scan.fields) (behind_header s.options.has_header records) in
    subst (λ k. HaveRows s (take k (first ∷ files)) (earlier + within)) next
    (records, split, more + within, rows_next s files n bytes more within is before here, omega (arith, counted))

pub rows_of_all : (s : CsvScan) (files : List (List ℕ)) (n rows : ℕ) → length files ≤ n → HaveRows s (take n files) rows → HaveRows s files rows
rows_of_all s files n rows all have = subst (λ (x : List (List ℕ)). HaveRows s x rows) (take_all n files all) have

-- the rows of files up to one after which there are no bytes
pub rows_up_to_end : (s : CsvScan) (files : List (List ℕ)) (n rows : ℕ) → IsDialect s.options → HaveRows s (take n files) rows → sum_by length files ≤ sum_by length (take n files) → HaveRows s files rows
rows_up_to_end s [] zero rows fit have none = have
rows_up_to_end s [] (suc n) rows fit have none = have
rows_up_to_end s (first ∷ files) zero rows fit have none =
    let one = sum_by-cons length first files in
    let empty : 0 ≡ length first = omega (arith, one, none) in
    let here = rows_at_end s first 0 0 s.options.has_header fit (inl (refl, refl, refl)) empty in
    let later = rows_up_to_end s files zero 0 fit refl (omega (arith, one, none)) in
    (here.0, here.1, 0, later, (let counted = here.4 in omega (arith, have, counted)))
rows_up_to_end s (first ∷ files) (suc n) rows fit (records, split, more, before, counted) none =
    let one = sum_by-cons length first files in
    let two = sum_by-cons length first (take n files) in
    (records, split, more, rows_up_to_end s files n more fit before (omega (arith, one, two, none)), counted)

-- no bytes are between a place and itself
pub none_between : (files : List (List ℕ)) (number at : ℕ) → IsUtf8 (bytes_between files number at at)
none_between files number at =
    let before : ℕ = sum_by length (take number files) in
    let none : at - before - (at - before) ≡ 0 = omega arith in
    subst (λ k. IsUtf8 (take k (drop (at - before) (get_or files number [])))) (sym none) IsUtf8-nil
