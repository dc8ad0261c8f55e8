-- Fields found one after another.
use Rattle.std.specs.Prelude.{◌≡◌, ℕ, Option, Some, None, List, [], ◌∷◌, ◌++◌, refl}
use Rattle.std.proofs.Common.{sym, ap, ◌∙◌, append_assoc}
use Rattle.std.specs.Prelude.{Err}
use Rattle.morsel_meaning.specs.declared.fault.Fault.{Fault}
use Rattle.morsel_meaning.specs.declared.fault.Fault.TheVariants as faults
use Rattle.morsel_prog.specs.Results.{Finds}
use Rattle.morsel_meaning.specs.declared.value.Field.{Field}
use Rattle.morsel_prog.specs.Words.{cut_at, parts_at, field_of, fields_of, with_first_field}
use Rattle.morsel_prog.proofs.CutLemmas.{parts_at-cut_at}

-- with fields in front
abbrev pub prefixed : List Field → Option (List Field) → Option (List Field)
prefixed front None = None
prefixed front (Some fields) = Some (front ++ fields)

pub prefixed-push : (front : List Field) (f : Field) (later : Option (List Field)) → prefixed (front ++ f ∷ []) later ≡ prefixed front (with_first_field (Some f) later)
prefixed-push front f None = refl
prefixed-push front f (Some fields) = ap Some (append_assoc front (f ∷ []) fields)

-- the fields of a text that is cut
pub fields-cut : (text front rest : List ℕ) → cut_at 44 text ≡ (front, Some rest) → fields_of (parts_at 44 text) ≡ with_first_field (field_of front) (fields_of (parts_at 44 rest))
fields-cut text front rest e = ap fields_of (sym (parts_at-cut_at 44 text)) ∙ (rw e refl)

pub fields-whole : (text front : List ℕ) → cut_at 44 text ≡ (front, None) → fields_of (parts_at 44 text) ≡ with_first_field (field_of front) (Some [])
fields-whole text front e = ap fields_of (sym (parts_at-cut_at 44 text)) ∙ (rw e refl)

-- a fault that says that nothing is found
pub finds-err : {A B : Type 0} (found : Option A) (later : Option B) (fault : Fault) → Finds found (Err fault) → (found ≡ None → later ≡ None) → Finds later (Err fault)
finds-err found later faults.OutOfMemory h then = tt
finds-err found later faults.Usage h then = then h
finds-err found later fault h then = absurd h

-- the first part of what is left is no field
pub no_fields : (text rest front : List ℕ) (items : List Field) (behind : Option (List ℕ)) → prefixed items (fields_of (parts_at 44 rest)) ≡ fields_of (parts_at 44 text) → cut_at 44 rest ≡ (front, behind) → field_of front ≡ None → fields_of (parts_at 44 text) ≡ None
no_fields text rest front items None kept cut none = sym kept ∙ ap (prefixed items) (fields-whole rest front cut ∙ ap (λ f. with_first_field f (Some [])) none)
no_fields text rest front items (Some more) kept cut none = sym kept ∙ ap (prefixed items) (fields-cut rest front more cut ∙ ap (λ f. with_first_field f (fields_of (parts_at 44 more))) none)

-- one field more
pub one_more : (text rest front more : List ℕ) (items : List Field) (f : Field) → prefixed items (fields_of (parts_at 44 rest)) ≡ fields_of (parts_at 44 text) → cut_at 44 rest ≡ (front, Some more) → field_of front ≡ Some f → prefixed (items ++ f ∷ []) (fields_of (parts_at 44 more)) ≡ fields_of (parts_at 44 text)
one_more text rest front more items f kept cut found = prefixed-push items f (fields_of (parts_at 44 more)) ∙ ap (λ o. prefixed items (with_first_field o (fields_of (parts_at 44 more)))) (sym found) ∙ ap (prefixed items) (sym (fields-cut rest front more cut)) ∙ kept

-- the last field
pub last_one : (text rest front : List ℕ) (items : List Field) (f : Field) → prefixed items (fields_of (parts_at 44 rest)) ≡ fields_of (parts_at 44 text) → cut_at 44 rest ≡ (front, None) → field_of front ≡ Some f → fields_of (parts_at 44 text) ≡ Some (items ++ f ∷ [])
last_one text rest front items f kept cut found = sym kept ∙ ap (prefixed items) (fields-whole rest front cut ∙ ap (λ o. with_first_field o (Some [])) found)
