-- A stretch as the places in the midst of others.
use Rattle.std.proofs.Common.{◌≡◌, ℕ, zero, suc, ◌+◌, ◌-◌, ◌≤◌, ap, sym, refl, ◌∙◌, arith, append_assoc, append-nil, length-append}
use Rattle.std.specs.Prelude.{Some, Result, Ok, Err, List, [], ◌∷◌, ◌++◌, length, take, drop, slice_get, slice_range}
use Rattle.std.proofs.lemmas.List.{nil_from_length, take_at, drop_at}
use Rattle.morsel_meaning.specs.declared.fault.Fault.{Fault}
use Rattle.morsel_meaning.specs.Values.{Row}
use Rattle.morsel_scan.specs.ScanRows.{followed_by}
use Rattle.morsel_scan.specs.StretchRows.{collected, HasFaultWithin}
use Rattle.morsel_scan.proofs.StretchLemmas.{Places, collected-append}

-- these places are those from one to another
pub record IsMidst (gives : Places) (from to : ℕ) (mid : Places) : Type 0 where
  pub before : Places
  pub after : Places
  pub split : gives ≡ before ++ (mid ++ after)
  pub from_is : from ≡ length before
  pub to_is : to ≡ from + length mid

pub midst-order : {gives : Places} {from to : ℕ} {mid : Places} → IsMidst gives from to mid → (from ≤ to) × (to ≤ length gives)
midst-order {gives} {from} {to} {mid} is =
    let size : length gives ≡ length is.before + (length mid + length is.after) = ap length is.split ∙ length-append is.before (mid ++ is.after) ∙ ap (λ n. length is.before + n) (length-append mid is.after) in
    let one = is.from_is in
    let two = is.to_is in
    (omega arith, omega (arith, size, one, two))

pub midst-slice : {gives : Places} {from to : ℕ} {mid : Places} → IsMidst gives from to mid → slice_range gives from to ≡ mid
midst-slice {gives} {from} {to} {mid} is =
    let two = is.to_is in
    let size : to - from ≡ length mid = omega arith in
    ap (λ n. take n (drop from gives)) size ∙ ap (λ x. take (length mid) (drop from x)) is.split
    ∙ ap (take (length mid)) (drop_at is.before (mid ++ is.after) from (sym is.from_is)) ∙ take_at mid is.after (length mid) refl

-- the same after other places
pub midst-later : (front gives : Places) (from to : ℕ) (mid : Places) → IsMidst gives from to mid → IsMidst (front ++ gives) (length front + from) (length front + to) mid
midst-later front gives from to mid is =
    let one = is.from_is in
    let two = is.to_is in record {
      before = front ++ is.before;
      after = is.after;
      split = ap (λ (x : Places). front ++ x) is.split ∙ sym (append_assoc front is.before (mid ++ is.after));
      from_is = omega (arith, length-append front is.before, one);
      to_is = omega arith;
    }

-- the same before other places
pub midst-first : (gives back : Places) (from to : ℕ) (mid : Places) → IsMidst gives from to mid → IsMidst (gives ++ back) from to mid
midst-first gives back from to mid is = record {
  before = is.before;
  after = is.after ++ back;
  split = ap (λ (x : Places). x ++ back) is.split ∙ append_assoc is.before (mid ++ is.after) back ∙ ap (λ (x : Places). is.before ++ x) (append_assoc mid is.after back);
  from_is = is.from_is;
  to_is = is.to_is;
}

-- the last places of the one, and the first of the other
pub midst-over : (gives more : Places) (from to : ℕ) (mid later : Places) → IsMidst gives from (length gives) mid → IsMidst more 0 to later
    → IsMidst (gives ++ more) from (length gives + to) (mid ++ later)
midst-over gives more from to mid later is next =
    let size : length gives ≡ length is.before + (length mid + length is.after) = ap length is.split ∙ length-append is.before (mid ++ is.after) ∙ ap (λ n. length is.before + n) (length-append mid is.after) in
    let one = is.from_is in
    let two = is.to_is in
    let three = next.from_is in
    let four = next.to_is in
    let nothing : is.after ≡ [] = nil_from_length is.after (omega (arith, size, one, two)) in
    let none : next.before ≡ [] = nil_from_length next.before (omega (arith, three)) in
    let first : gives ≡ is.before ++ mid = is.split ∙ ap (λ (x : Places). is.before ++ (mid ++ x)) nothing ∙ ap (λ (x : Places). is.before ++ x) (append-nil mid) in
    let second : more ≡ later ++ next.after = next.split ∙ ap (λ (x : Places). x ++ (later ++ next.after)) none in record {
      before = is.before;
      after = next.after;
      split = ap (λ (x : Places). x ++ more) first ∙ append_assoc is.before mid more ∙ ap (λ (x : Places). is.before ++ (mid ++ x)) second
          ∙ ap (λ (x : Places). is.before ++ x) (sym (append_assoc mid later next.after));
      from_is = is.from_is;
      to_is = omega (arith, length-append mid later, two, four);
    }

-- the places from one to another give no rows and have no fault
pub record GivesNothing (gives : Places) (from to : ℕ) : Type 0 where
  pub mid : Places
  pub is : IsMidst gives from to mid
  pub nothing : collected mid ≡ Ok []

pub nothing-later : (front gives : Places) (from to : ℕ) → GivesNothing gives from to → GivesNothing (front ++ gives) (length front + from) (length front + to)
nothing-later front gives from to none = record { mid = none.mid; is = midst-later front gives from to none.mid none.is; nothing = none.nothing }

pub nothing-first : (gives back : Places) (from to : ℕ) → GivesNothing gives from to → GivesNothing (gives ++ back) from to
nothing-first gives back from to none = record { mid = none.mid; is = midst-first gives back from to none.mid none.is; nothing = none.nothing }

pub nothing-over : (gives more : Places) (from to : ℕ) → GivesNothing gives from (length gives) → GivesNothing more 0 to → GivesNothing (gives ++ more) from (length gives + to)
nothing-over gives more from to one two = record {
  mid = one.mid ++ two.mid;
  is = midst-over gives more from to one.mid two.mid one.is two.is;
  nothing = collected-append one.mid two.mid ∙ ap (λ x. followed_by x (collected two.mid)) one.nothing ∙ ap (followed_by (Ok [])) two.nothing;
}

-- no place is nothing
pub nothing-here : (gives : Places) (from : ℕ) → from ≡ length gives → GivesNothing gives from from
nothing-here gives from end = record {
  mid = [];
  is = record { before = gives; after = []; split = sym (append-nil gives); from_is = end; to_is = omega arith };
  nothing = refl;
}

-- a fault of a place is one of the places that it is among
pub fault-midst : (gives : Places) (from to : ℕ) (mid before after : Places) (fault : Fault) → IsMidst gives from to mid → mid ≡ before ++ Err fault ∷ after → HasFaultWithin gives from to fault
fault-midst gives from to mid before after fault is has =
    let one = is.from_is in
    let two = is.to_is in
    let size : length mid ≡ length before + suc (length after) = ap length has ∙ length-append before (Err fault ∷ after) in
    let whole : gives ≡ (is.before ++ before) ++ Err fault ∷ (after ++ is.after) =
    is.split ∙ ap (λ (x : Places). is.before ++ (x ++ is.after)) has ∙ ap (λ (x : Places). is.before ++ x) (append_assoc before (Err fault ∷ after) is.after)
    ∙ sym (append_assoc is.before before (Err fault ∷ (after ++ is.after))) in
    let place : length (is.before ++ before) ≡ from + length before = length-append is.before before ∙ ap (λ n. n + length before) (sym one) in
    (from + length before, omega arith, omega (arith, two, size), ap (λ x. slice_get x (from + length before)) whole ∙ get_at (is.before ++ before) (from + length before) (Err fault) (after ++ is.after) place)
  where
    get_at : (xs : Places) (n : ℕ) (y : Result (List Row) Fault) (ys : Places) → length xs ≡ n → slice_get (xs ++ y ∷ ys) n ≡ Some y
    get_at [] zero y ys is = refl
    get_at [] (suc n) y ys is = absurd (omega (arith, is))
    get_at (x ∷ xs) zero y ys is = absurd (omega (arith, is))
    get_at (x ∷ xs) (suc n) y ys is = get_at xs n y ys (omega (arith, is))
