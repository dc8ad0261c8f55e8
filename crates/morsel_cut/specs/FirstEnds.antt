-- Where the first record of a text ends, and what it is to the rows.
use Rattle.std.specs.Prelude.{ℕ, suc, Bool, true, ◌&&◌, ◌||◌, ◌==◌, if◌then◌else◌, List, [], ◌∷◌}
use Rattle.morsel_grammar.specs.Dialect.{Dialect}
use Rattle.morsel_grammar.specs.Machine.{CutState, AfterEol, first_state, cut_step, is_after_eol}

-- how many bytes there are up to the first after which the test holds of the state; all of them where there is none
abbrev pub first_place : {S : Type 0} → (S → ℕ → S) → (S → Bool) → S → List ℕ → ℕ
first_place step test s [] = 0
first_place step test s (b ∷ bs) = if test (step s b) then 1 else suc (first_place step test (step s b) bs)

-- how many bytes there are up to the first end of a record; all of them where none ends
abbrev pub first_end : Dialect → CutState → List ℕ → ℕ
first_end o s bytes = first_place (cut_step o) (λ (s : CutState). is_after_eol s.place) s bytes

-- how many bytes the record takes that a text begins with
abbrev pub record_size : Dialect → List ℕ → ℕ
record_size o text = first_end o (first_state o AfterEol) text

-- the text is over, or goes on with the eol byte
abbrev pub ends_line : ℕ → List ℕ → Bool
ends_line eol [] = true
ends_line eol (b ∷ bs) = b == eol

-- the text begins with the end of a record
abbrev pub is_blank : ℕ → List ℕ → Bool
is_blank eol [] = true
is_blank eol (b ∷ bs) = b == eol || (b == 13 && (eol == 10 && ends_line eol bs))
