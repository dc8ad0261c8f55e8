-- Where a CSV text may be cut: a machine that is told one byte after the other, and knows after which of them a record ends.
-- A text that is read in pieces may be cut after an eol byte that ends a record, and nowhere else.
use Rattle.std.specs.Prelude.{◌≡◌, ◌⊎◌, ℕ, zero, suc, ◌+◌, Bool, true, false, ◌&&◌, ◌==◌, if◌then◌else◌, Option, Some, None, List, [], ◌∷◌, length, drop}
use Rattle.morsel_grammar.specs.Dialect.{Dialect}
use Rattle.morsel_grammar.specs.Split.{is_quote, begins}

-- the state of a machine after these bytes
abbrev pub state_after : {S : Type 0} → (S → ℕ → S) → S → List ℕ → S
state_after step s [] = s
state_after step s (b ∷ bs) = state_after step (step s b) bs

-- `later` counts from after one byte: one more than it, where it is not 0; else 1 where `here` holds; else 0
abbrev pub place_or_later : Bool → ℕ → ℕ
place_or_later here zero = if here then 1 else 0
place_or_later here (suc later) = suc (suc later)

-- how many bytes there are up to the last one after which the test holds of the state; 0 where there is none
abbrev pub last_place : {S : Type 0} → (S → ℕ → S) → (S → Bool) → S → List ℕ → ℕ
last_place step test s [] = 0
last_place step test s (b ∷ bs) = place_or_later (test (step s b)) (last_place step test (step s b) bs)

-- the last place of two texts: that of the second, which begins after `n` bytes, or where it has none that of the first
abbrev pub joined_place : ℕ → ℕ → ℕ → ℕ
joined_place before n zero = before
joined_place before n (suc later) = n + suc later

-- where the next byte of a text stands
pub data CutPlace : Type 0 where
  AtOpening : CutPlace  -- the file begins
  InMarkOne : CutPlace  -- the file begins with the first byte of the byte order mark
  InMarkTwo : CutPlace  -- the file begins with the first two bytes of the byte order mark
  AfterMark : CutPlace  -- the first record begins, after the byte order mark
  AfterEol : CutPlace  -- a record begins, after the eol byte of another
  AfterSeparator : CutPlace  -- a further field begins
  InPlain : CutPlace  -- in a field without quotes
  InQuotes : CutPlace  -- after the opening quote, and not after a closing one
  AfterQuote : CutPlace  -- after a quote in quotes, which closes, or is the first of two
  AfterReturn : CutPlace  -- after a closing quote and a byte 13, where eol is 10
  InComment : CutPlace  -- after the comment prefix
  BrokenQuote : CutPlace  -- a closing quote is followed by what may not follow it

-- the place after a byte of a field without quotes
abbrev pub plain_step : Dialect → ℕ → CutPlace
plain_step o b = if b == o.separator then AfterSeparator else (if b == o.eol then AfterEol else InPlain)

-- the place after the first byte of a field, or after the separator or eol byte that follows an empty one
abbrev pub first_step : Dialect → ℕ → CutPlace
first_step o b = if is_quote o.quote b then InQuotes else plain_step o b

-- the place after a byte that follows a closing quote
abbrev pub closed_step : Dialect → ℕ → CutPlace
closed_step o b = if b == o.separator then AfterSeparator
    else (if b == o.eol then AfterEol
    else (if b == 13 && o.eol == 10 then AfterReturn else BrokenQuote))

-- the place after one byte more, where no comment prefix ends with it
abbrev pub place_step : Dialect → CutPlace → ℕ → CutPlace
place_step o AtOpening b = if b == 239 then InMarkOne else first_step o b
place_step o InMarkOne b = if b == 187 then InMarkTwo else plain_step o b
place_step o InMarkTwo b = if b == 191 then AfterMark else plain_step o b
place_step o AfterMark b = first_step o b
place_step o AfterEol b = first_step o b
place_step o AfterSeparator b = first_step o b
place_step o InPlain b = plain_step o b
place_step o InQuotes b = if is_quote o.quote b then AfterQuote else InQuotes
place_step o AfterQuote b = if is_quote o.quote b then InQuotes else closed_step o b
place_step o AfterReturn b = if b == o.eol then AfterEol else BrokenQuote
place_step o InComment b = if b == o.eol then AfterEol else InComment
place_step o BrokenQuote b = BrokenQuote

-- whether a record of this text ended with the last byte: the text may be cut here
abbrev pub is_after_eol : CutPlace → Bool
is_after_eol AfterEol = true
is_after_eol place = false

-- whether the last byte is one after which a record begins: an eol byte that ended a record, or the last of the byte order mark
abbrev pub begins_record : CutPlace → Bool
begins_record AfterEol = true
begins_record AfterMark = true
begins_record place = false

-- a comment is known only at the end of its prefix. Until then its bytes are taken as those of a field too, since a
-- prefix may contain the quote and the separator: where a byte differs from the prefix, the record is fields all along
pub record CutState : Type 0 where
  pub matched : Option ℕ  -- the record so far is a front of the comment prefix, of so many bytes, and not all of it. None: there is no prefix, or the record is no longer a front of it, or is a comment already
  pub place : CutPlace

-- where a record begins it is no byte of the prefix yet, where there is a prefix
abbrev pub no_byte_matched : Option (List ℕ) → Option ℕ
no_byte_matched None = None
no_byte_matched (Some prefix) = Some 0

-- the bytes of the prefix that the record is, after one byte more
abbrev pub matched_step : Option (List ℕ) → Option ℕ → ℕ → Option ℕ
matched_step None matched b = None
matched_step (Some prefix) None b = None
matched_step (Some prefix) (Some k) b = if begins b (drop k prefix) then Some (k + 1) else None

-- whether these bytes are all of the prefix
abbrev pub is_whole_prefix : Option (List ℕ) → Option ℕ → Bool
is_whole_prefix None matched = false
is_whole_prefix (Some prefix) None = false
is_whole_prefix (Some prefix) (Some k) = k == length prefix

-- the state in which a record begins at this place
abbrev pub first_state : Dialect → CutPlace → CutState
first_state o place = record { matched = no_byte_matched o.comment; place = place }

-- the state of a record that is these bytes of the prefix, and at this place if it is no comment
abbrev pub state_at : Dialect → Option ℕ → CutPlace → CutState
state_at o matched place = if begins_record place then first_state o place
    else (if is_whole_prefix o.comment matched then record { matched = None; place = InComment }
    else record { matched = matched; place = place })

-- the state after one byte more
abbrev pub cut_step : Dialect → CutState → ℕ → CutState
cut_step o s b = state_at o (matched_step o.comment s.matched b) (place_step o s.place b)

-- the state after these bytes
abbrev pub cut_after : Dialect → CutState → List ℕ → CutState
cut_after o s bytes = state_after (cut_step o) s bytes

-- how many of these bytes there are up to the last after which they may be cut, the last eol byte that ends a record; 0 where there is none
abbrev pub last_end : Dialect → CutState → List ℕ → ℕ
last_end o s bytes = last_place (cut_step o) (λ (s : CutState). is_after_eol s.place) s bytes

-- how many of these bytes there are up to the last after which a record begins; 0 where there is none
abbrev pub last_begin : Dialect → CutState → List ℕ → ℕ
last_begin o s bytes = last_place (cut_step o) (λ (s : CutState). begins_record s.place) s bytes

-- the place of the first byte of the record that is under way after these bytes, before which there were `fed`, where it began at `begun` if it is still the same
abbrev pub begun_after : Dialect → CutState → ℕ → ℕ → List ℕ → ℕ
begun_after o s fed begun bytes = joined_place begun fed (last_begin o s bytes)

-- the record that is under way is none, whatever follows: a closing quote is followed by what may not follow it, and it can become no comment
abbrev pub RefusesRecord : CutState → Type 0
RefusesRecord s = (s.matched ≡ None) × (s.place ≡ BrokenQuote)

-- the text may not end here: the record that is under way is none if it does
abbrev pub RefusesEnd : CutState → Type 0
RefusesEnd s = (s.place ≡ InQuotes) ⊎ (s.place ≡ BrokenQuote)
