-- A column of numbers with a cell more.
use Rattle.std.proofs.Common.{◌≡◌, ℕ, ℤ, ◌+◌, ◌<◌, ◌∙◌, sym, ap, refl, arith, subst, Bool, List, [], ◌∷◌, ◌++◌, suc, length, length-append, take, get_or, map}
use Rattle.std.proofs.lemmas.List.{take_more, map-append}
use Rattle.std.specs.Prelude.{if◌then◌else◌}
use Rattle.morsel_meaning.specs.declared.value.ColType.TheVariants as types
use Rattle.morsel_meaning.specs.declared.value.Value.{Value}
use Rattle.morsel_meaning.specs.declared.value.Value.TheVariants as values
use Rattle.morsel_frame.specs.Columns.{Values, masked}
use Rattle.morsel_grammar.specs.Dialect.{Dialect}
use Rattle.morsel_grammar.specs.Cells.{CsvCell, Good, cell_of}
use Rattle.morsel_text.specs.RawFields.{shown}
use Rattle.morsel_text.specs.Batches.{IsColumnOf}
use Rattle.morsel_text.specs.declared.raw_field.RawField.{RawField}

pub masked_more : (valid : List Bool) (vs : List Value) (b : Bool) (v : Value) → length valid ≡ length vs → masked (valid ++ b ∷ []) (vs ++ v ∷ []) ≡ masked valid vs ++ (if b then v else values.Null) ∷ []
masked_more [] [] b v same = refl
masked_more [] (w ∷ vs) b v same = absurd (omega arith)
masked_more (a ∷ valid) [] b v same = absurd (omega arith)
masked_more (a ∷ valid) (w ∷ vs) b v same = ap (λ (xs : List Value). (if a then w else values.Null) ∷ xs) (masked_more valid vs b v (omega arith))

length_of : (numbers : List ℤ) → length (map values.Int numbers) ≡ length numbers
length_of [] = refl
length_of (n ∷ numbers) = ap suc (length_of numbers)

-- the column of these numbers, null where one is not valid
abbrev pub ints : List Bool → List ℤ → Values
ints valid numbers = record { kind = types.Int; values = masked valid (map values.Int numbers) }

pub number_more : (o : Dialect) (fields : List RawField) (i : ℕ) (d : RawField) (valid : List Bool) (numbers : List ℤ) (b : Bool) (n : ℤ)
    → IsColumnOf o types.Int (take i fields) (ints valid numbers) → length valid ≡ length numbers → i < length fields
    → cell_of o types.Int (shown (get_or fields i d)) ≡ Good (if b then values.Int n else values.Null)
    → IsColumnOf o types.Int (take (i + 1) fields) (ints (valid ++ b ∷ []) (numbers ++ n ∷ []))
number_more o fields i d valid numbers b n is same within cell = (
  refl,
  ap (λ (vs : List Value). map Good (masked (valid ++ b ∷ []) vs)) (map-append values.Int numbers (n ∷ []))
      ∙ ap (map Good) (masked_more valid (map values.Int numbers) b (values.Int n) (same ∙ sym (length_of numbers)))
      ∙ map-append Good (masked valid (map values.Int numbers)) ((if b then values.Int n else values.Null) ∷ [])
      ∙ ap (λ (cs : List CsvCell). cs ++ Good (if b then values.Int n else values.Null) ∷ []) is.1
      ∙ ap (λ (c : CsvCell). map (λ g. cell_of o types.Int (shown g)) (take i fields) ++ c ∷ []) (sym cell)
      ∙ sym (map-append (λ g. cell_of o types.Int (shown g)) (take i fields) (get_or fields i d ∷ []))
      ∙ ap (map (λ g. cell_of o types.Int (shown g))) (sym (take_more fields i d within)),
)

pub number_next : (o : Dialect) (fields : List RawField) (i : ℕ) (d : RawField) (valid new : List Bool) (numbers more : List ℤ) (b : Bool) (n : ℤ)
    → IsColumnOf o types.Int (take i fields) (ints valid numbers) → length valid ≡ length numbers → i < length fields
    → cell_of o types.Int (shown (get_or fields i d)) ≡ Good (if b then values.Int n else values.Null) → new ≡ valid ++ b ∷ [] → more ≡ numbers ++ n ∷ []
    → IsColumnOf o types.Int (take (i + 1) fields) (ints new more) × (length new ≡ length more)
number_next o fields i d valid new numbers more b n is same within cell is_new is_more = (
  subst (λ (xs : List Bool). IsColumnOf o types.Int (take (i + 1) fields) (ints xs more)) (sym is_new)
      (subst (λ (xs : List ℤ). IsColumnOf o types.Int (take (i + 1) fields) (ints (valid ++ b ∷ []) xs)) (sym is_more)
      (number_more o fields i d valid numbers b n is same within cell)),
  ap length is_new ∙ length-append valid (b ∷ []) ∙ ap (λ k. k + 1) same ∙ sym (length-append numbers (n ∷ [])) ∙ ap length (sym is_more),
)
