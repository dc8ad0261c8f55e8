-- What stretches of places give.
use Rattle.std.specs.Prelude.{◌≡◌, ℕ, suc, ◌+◌, ◌-◌, ◌<◌, ◌≤◌, Result, Ok, Err, Some, List, [], ◌∷◌, ◌++◌, length, take, drop, slice_get, slice_range}
use Rattle.std.proofs.Common.{sym, ap, refl, ◌∙◌, append_assoc, append-nil, arith, length-append}
use Rattle.std.proofs.lemmas.List.{take-append-drop, drop-drop, take_all, take-append-le}
use Rattle.std.proofs.Math.Seq.{take-add, take-append_seam, drop-append_seam}
use Rattle.morsel_meaning.specs.declared.fault.Fault.{Fault}
use Rattle.morsel_meaning.specs.Values.{Row}
use Rattle.morsel_scan.specs.ScanRows.{followed_by}
use Rattle.morsel_scan.specs.StretchRows.{collected, Gives, before_fault}
use Rattle.morsel_scan.specs.StretchLaws.{CollectsParts, GivesOn, GivesFront, GivesAll, GivesMidst, GivesFaults}
use Rattle.morsel_scan.proofs.GatherLemmas.{followed_by-nothing, followed_by-assoc}

abbrev pub Places : Type 0
Places = List (Result (List Row) Fault)

pub collected-append : (xs ys : Places) → collected (xs ++ ys) ≡ followed_by (collected xs) (collected ys)
collected-append [] ys = sym (followed_by-nothing (collected ys))
collected-append (x ∷ xs) ys = ap (followed_by x) (collected-append xs ys) ∙ sym (followed_by-assoc x (collected xs) (collected ys))

pub collects_parts : CollectsParts
collects_parts = λ first later. collected-append first later

-- a stretch is its two halves
pub slice-append : {A : Type 0} (xs : List A) (p q r : ℕ) → p ≤ q → q ≤ r → slice_range xs p r ≡ slice_range xs p q ++ slice_range xs q r
slice-append xs p q r lo hi =
    let e : r - p ≡ (q - p) + (r - q) = omega arith in
    let f : p + (q - p) ≡ q = omega arith in
    ap (λ k. take k (drop p xs)) e ∙ take-add (q - p) (r - q) (drop p xs)
    ∙ ap (λ ys. take (q - p) (drop p xs) ++ take (r - q) ys) (drop-drop (q - p) p xs ∙ ap (λ k. drop k xs) f)

pub gives-append : (gives : Places) (p q r : ℕ) (a b : List Row) → Gives gives p q a → Gives gives q r b → Gives gives p r (a ++ b)
gives-append gives p q r a b g h = record {
  order = let x = g.order in let y = h.order in omega arith;
  within = h.within;
  all = ap collected (slice-append gives p q r g.order h.order) ∙ collected-append (slice_range gives p q) (slice_range gives q r)
      ∙ ap (λ x. followed_by x (collected (slice_range gives q r))) g.all ∙ ap (followed_by (Ok a)) h.all;
}

pub gives_on : GivesOn
gives_on = λ gives from between to first later g h. gives-append gives from between to first later g h

-- rows of two parts come of both
pub followed_by-ok : (a b : Result (List Row) Fault) (rows : List Row) → followed_by a b ≡ Ok rows → (xs : List Row) × (ys : List Row) × (a ≡ Ok xs) × (b ≡ Ok ys) × (rows ≡ xs ++ ys)
followed_by-ok (Ok a) (Ok b) rows e = (a, b, refl, refl, cc)
followed_by-ok (Ok a) (Err fault) rows e = absurd (cc)
followed_by-ok (Err fault) b rows e = absurd (cc)

pub before_fault-append : (xs ys : Places) (rows : List Row) → collected xs ≡ Ok rows → before_fault (xs ++ ys) ≡ rows ++ before_fault ys
before_fault-append [] ys rows e = let k : [] ≡ rows = cc in ap (λ r. r ++ before_fault ys) k
before_fault-append (Err fault ∷ xs) ys rows e = absurd (cc)
before_fault-append (Ok a ∷ xs) ys rows e =
    let h = followed_by-ok (Ok a) (collected xs) rows e in
    let k : a ≡ h.0 = let z = h.2 in cc in
    ap (λ r. a ++ r) (before_fault-append xs ys h.1 h.3) ∙ sym (append_assoc a h.1 (before_fault ys)) ∙ ap (λ r. (r ++ h.1) ++ before_fault ys) k ∙ ap (λ r. r ++ before_fault ys) (sym h.4)

pub from_front : (xs : Places) (m : ℕ) → slice_range xs 0 m ≡ take m xs
from_front xs m = let e : m - 0 ≡ m = omega arith in ap (λ k. take k xs) e

-- the rows before the first fault, after what the first places give
front-split : (gives : Places) (m : ℕ) (rows : List Row) → Gives gives 0 m rows → before_fault gives ≡ rows ++ before_fault (drop m gives)
front-split gives m rows g =
    let e : slice_range gives 0 m ++ drop m gives ≡ gives = ap (λ ys. ys ++ drop m gives) (from_front gives m) ∙ take-append-drop m gives in
    ap before_fault (sym e) ∙ before_fault-append (slice_range gives 0 m) (drop m gives) rows g.all

pub gives_front : GivesFront
gives_front = λ gives to rows g. (before_fault (drop to gives), front-split gives to rows g)

pub slice_all : (xs : Places) → slice_range xs 0 (length xs) ≡ xs
slice_all xs = from_front xs (length xs) ∙ take_all (length xs) xs (omega arith)

pub gives_all : GivesAll
gives_all = λ gives rows. (
  (
    λ g. ap collected (sym (slice_all gives)) ∙ g.all,
    λ e. record { order = omega arith; within = omega arith; all = ap collected (slice_all gives) ∙ e },
  ),
  λ e. ap before_fault (sym (append-nil gives)) ∙ before_fault-append gives [] rows e ∙ append-nil rows,
)

take-over : (n : ℕ) (xs ys : List Row) → take (length xs + n) (xs ++ ys) ≡ xs ++ take n ys
take-over n xs ys = take-add (length xs) n (xs ++ ys) ∙ ap (λ a. a ++ take n (drop (length xs) (xs ++ ys))) (take-append_seam xs ys) ∙ ap (λ b. xs ++ take n b) (drop-append_seam xs ys)

pub gives_midst : GivesMidst
gives_midst = λ gives from to skip len done all first here within.
    let both = gives-append gives 0 from to done all first here in
    let rest : List Row = before_fault (drop to gives) in
    let whole : before_fault gives ≡ done ++ (all ++ rest) = front-split gives to (done ++ all) both ∙ append_assoc done all rest in
    let size : length (before_fault gives) ≡ length done + (length all + length rest) = ap length whole ∙ length-append done (all ++ rest) ∙ ap (λ n. length done + n) (length-append all rest) in
    let same : length done + skip + len ≡ length done + (skip + len) = omega arith in
    let upto : take (length done + skip) (before_fault gives) ≡ done ++ take skip all =
    ap (take (length done + skip)) whole ∙ take-over skip done (all ++ rest) ∙ ap (λ r. done ++ r) (take-append-le skip all rest (omega arith)) in
    let past : take (length done + (skip + len)) (before_fault gives) ≡ done ++ (take skip all ++ take len (drop skip all)) =
    ap (take (length done + (skip + len))) whole ∙ take-over (skip + len) done (all ++ rest) ∙ ap (λ r. done ++ r) (take-append-le (skip + len) all rest within ∙ take-add skip len all) in
    (omega arith, ap (λ n. take n (before_fault gives)) same ∙ past ∙ sym (append_assoc done (take skip all) (take len (drop skip all))) ∙ ap (λ r. r ++ take len (drop skip all)) (sym upto))

-- the fault that places give is one of theirs
fault_found : (xs : Places) (fault : Fault) → collected xs ≡ Err fault → (place : ℕ) × (place < length xs) × (slice_get xs place ≡ Some (Err fault))
fault_found [] fault e = absurd (cc)
fault_found (Err first ∷ xs) fault e = let k : first ≡ fault = cc in (0, omega arith, ap (λ f. Some (Err f)) k)
fault_found (Ok a ∷ xs) fault e =
    let later = fault_found xs fault (later_fault (collected xs) e) in (suc later.0, let h = later.1 in omega arith, later.2)
  where
    later_fault : (b : Result (List Row) Fault) → followed_by (Ok a) b ≡ Err fault → b ≡ Err fault
    later_fault (Ok b) e = absurd (cc)
    later_fault (Err other) e = cc

pub gives_faults : GivesFaults
gives_faults = λ gives fault e. let found = fault_found gives fault e in (found.0, omega arith, found.1, found.2)
