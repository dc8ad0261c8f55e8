-- Which rows of a piece the slice of a scan keeps.
use Rattle.std.proofs.Common.{◌≡◌, ℕ, zero, suc, ◌+◌, ◌-◌, ◌<◌, ◌≤◌, ◌^◌, ap, sym, refl, ◌∙◌, inl, inr, arith}
use Rattle.std.proofs.lemmas.Int.{ints}
use Rattle.std.proofs.lemmas.Bool.{le-leb, lt-ltb, le-ltb, lt-leb}
use Rattle.std.specs.Prelude.{◌⊎◌, ℤ, pos, negsuc, ◌+ℤ◌, nat_abs, int_le, int_lt, min, Bool, true, false, ◌&&◌, if◌then◌else◌, nat_le, nat_lt, Option, Some, None}
use Rattle.morsel_pipe.specs.Pieces.{Piece}
use Rattle.morsel_scan.specs.ScanRows.{slice_keeps}
use Rattle.morsel_scan.specs.CsvScans.{piece_keeps}
use Rattle.morsel_read.specs.ScanReads.{slice_first, slice_stop, slice_within, CountsFromFirst}

-- whether a position is one of those from a first one up to another
abbrev is_between : ℕ → ℕ → ℕ → Bool
is_between low high position = nat_le low position && nat_lt position high

is_in : (low high q : ℕ) → low ≤ q → q < high → is_between low high q ≡ true
is_in low high q from to = ap (λ t. t && nat_lt q high) (le-leb low q from) ∙ lt-ltb q high to

is_before : (low high q : ℕ) → q < low → is_between low high q ≡ false
is_before low high q before = ap (λ t. t && nat_lt q high) (lt-leb low q before)

is_after : (low high q : ℕ) → high ≤ q → is_between low high q ≡ false
is_after low high q after = ap (λ t. nat_le low q && t) (le-ltb q high after) ∙ no_more (nat_le low q)
  where
    no_more : (t : Bool) → (t && false) ≡ false
    no_more true = refl
    no_more false = refl

pub split : (a b : ℕ) → (a < b) ⊎ (b ≤ a)
split a zero = inr (omega arith)
split zero (suc b) = inl (omega arith)
split (suc a) (suc b) = on (split a b)
  where
    on : (a < b) ⊎ (b ≤ a) → (suc a < suc b) ⊎ (suc b ≤ suc a)
    on (inl before) = inl (omega (arith, before))
    on (inr after) = inr (omega (arith, after))

-- a slice that counts from the first row keeps the positions from its offset on, so many
from_first : (n len total position : ℕ) → slice_keeps (Some (pos n, len)) total position ≡ is_between n (n + len) position
from_first n len total position = by (int_lt (pos n) (pos 0)) refl
  where
    by : (t : Bool) → int_lt (pos n) (pos 0) ≡ t
        → (int_le (if t then pos total +ℤ pos n else pos n) (pos position) && int_lt (pos position) ((if t then pos total +ℤ pos n else pos n) +ℤ pos len))
        ≡ is_between n (n + len) position
    by false is = refl
    by true is = absurd (omega (arith, ints))

-- the positions that a slice keeps are those between its bounds
pub keeps_between : (slice : Option (ℤ × ℕ)) (total position : ℕ) → CountsFromFirst slice → position < 2 ^ 64 - 1 → slice_keeps slice total position ≡ is_between (slice_first slice) (slice_stop slice) position
keeps_between None total position from less = sym (is_in 0 (2 ^ 64 - 1) position (omega arith) less)
keeps_between (Some (pos n, len)) total position from less = from_first n len total position ∙ by (split position n) (split position (n + len))
  where
    by : (position < n) ⊎ (n ≤ position) → (position < n + len) ⊎ (n + len ≤ position) → is_between n (n + len) position ≡ is_between n (min (n + len) (2 ^ 64 - 1)) position
    by (inl before) any = is_before n (n + len) position before ∙ sym (is_before n (min (n + len) (2 ^ 64 - 1)) position before)
    by (inr after) (inl within) = is_in n (n + len) position after within ∙ sym (is_in n (min (n + len) (2 ^ 64 - 1)) position after (omega (arith, within, less)))
    by (inr after) (inr over) = is_after n (n + len) position over ∙ sym (is_after n (min (n + len) (2 ^ 64 - 1)) position (omega (arith, over)))
keeps_between (Some (negsuc n, len)) total position from less = absurd (cc)

-- the rows of a piece that its slice keeps are those at positions between two
within_piece : (start stop q rows row : ℕ) → row < rows
    → (let slice = slice_within start stop q rows in is_between (q + slice.0) (q + slice.0 + slice.1) (q + row)) ≡ is_between start stop (q + row)
within_piece start stop q rows row less = by (split (q + row) start) (split (q + row) stop)
  where
    low : ℕ
    low = min (start - q) rows

    high : ℕ
    high = min (stop - q) rows - min (start - q) rows

    by : (q + row < start) ⊎ (start ≤ q + row) → (q + row < stop) ⊎ (stop ≤ q + row) → is_between (q + low) (q + low + high) (q + row) ≡ is_between start stop (q + row)
    by (inl before) any = is_before (q + low) (q + low + high) (q + row) (omega (arith, before, less)) ∙ sym (is_before start stop (q + row) before)
    by (inr after) (inl within) = is_in (q + low) (q + low + high) (q + row) (omega (arith, after)) (omega (arith, within, less, after)) ∙ sym (is_in start stop (q + row) after within)
    by (inr after) (inr over) = is_after (q + low) (q + low + high) (q + row) (omega (arith, over, after)) ∙ sym (is_after start stop (q + row) over)

-- from where so many rows come before a position on, a slice keeps none
pub keeps_no_more : (slice : Option (ℤ × ℕ)) (cut : ℤ × ℕ) (total rows position : ℕ) → CountsFromFirst slice → slice ≡ Some cut → nat_abs cut.0 + cut.1 ≤ rows → rows ≤ position
    → slice_keeps slice total position ≡ false
keeps_no_more None cut total rows position from is past low = absurd (cc)
keeps_no_more (Some (pos n, len)) cut total rows position from is past low =
    let same : cut ≡ (pos n, len) = cc in
    let end : n + len ≤ position = (let e : nat_abs cut.0 + cut.1 ≡ n + len = ap (λ (x : ℤ × ℕ). nat_abs x.0 + x.1) same in omega (arith, e, past, low)) in
    from_first n len total position ∙ is_after n (n + len) position end
keeps_no_more (Some (negsuc n, len)) cut total rows position from is past low = absurd (cc)

-- a piece says of its rows what the scan's slice does
pub keeps_alike : (slice : Option (ℤ × ℕ)) (piece : Piece) (total row : ℕ) → CountsFromFirst slice → piece.slice ≡ slice_within (slice_first slice) (slice_stop slice) piece.first_row piece.rows
    → piece.first_row + piece.rows ≤ 4294967295 → row < piece.rows → piece_keeps piece (piece.first_row + row) ≡ slice_keeps slice total (piece.first_row + row)
keeps_alike slice piece total row from is few less =
    ap (λ (cut : ℕ × ℕ). is_between (piece.first_row + cut.0) (piece.first_row + cut.0 + cut.1) (piece.first_row + row)) is
    ∙ within_piece (slice_first slice) (slice_stop slice) piece.first_row piece.rows row less
    ∙ sym (keeps_between slice total (piece.first_row + row) from (omega (arith, few, less)))

-- a piece's slice is within its rows
pub slice_fits : (start stop q rows : ℕ) → (slice_within start stop q rows).0 + (slice_within start stop q rows).1 ≤ rows
slice_fits start stop q rows = omega arith

-- where a reader is past the stop of its slice, the slice has an end, and so many rows come before
pub past_stop : (slice : Option (ℤ × ℕ)) (rows : ℕ) → slice_stop slice ≤ rows → rows ≤ 4294967295 → (cut : ℤ × ℕ) × (slice ≡ Some cut) × (nat_abs cut.0 + cut.1 ≤ rows)
past_stop None rows past few = absurd (omega (arith, past, few))
past_stop (Some cut) rows past few = (cut, refl, omega (arith, past, few))
