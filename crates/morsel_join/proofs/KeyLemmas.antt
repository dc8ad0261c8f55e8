-- The places and the types of keys, one after the other.
use Rattle.std.proofs.Common.{◌≡◌, ◌<◌, ◌+◌, ◌++◌, [], ◌∷◌, List, ℕ, length, take, drop, get_or, refl, arith, ap, ◌∙◌, sym, Bool, true, false, if◌then◌else◌, Some, None}
use Rattle.std.specs.Prelude.{Option}
use Rattle.std.specs.Option.{unwrap_or}
use Rattle.std.proofs.lemmas.List.{at_drop_more, map_more, map-append}
use Rattle.morsel_meaning.specs.declared.value.ColType.{ColType}
use Rattle.morsel_meaning.specs.declared.value.ColType.TheVariants as types
use Rattle.morsel_meaning.specs.declared.value.Field.{Field}
use Rattle.morsel_meaning.specs.declared.fault.Fault.TheVariants.{SchemaMismatch}
use Rattle.morsel_meaning.specs.Values.{kinds_of}
use Rattle.morsel_frame.specs.Tables.{same_kind, fields_at}
use Rattle.morsel_frame.proofs.SelectLemmas.{fields_at-more}
use Rattle.morsel_join.specs.Payloads.{key_place, key_places, join_key_absence, absence_before, type_fault}

-- one key more is found
pub key-done : (fields : List Field) (keys : List (List ℕ)) (i at : ℕ) (name text : List ℕ) (places new : List ℕ) → text ≡ name → i < length keys → name ≡ get_or keys i name → key_place fields text ≡ Some at → places ≡ key_places fields (take i keys) → new ≡ places ++ at ∷ [] → new ≡ key_places fields (take (i + 1) keys)
key-done fields keys i at name text places new same l read found done is =
    let here : unwrap_or (key_place fields (get_or keys i name)) 0 ≡ at = ap (λ (n : List ℕ). unwrap_or (key_place fields n) 0) (sym read ∙ sym same) ∙ ap (λ (o : Option ℕ). unwrap_or o 0) found in
    is ∙ ap (λ xs. xs ++ at ∷ []) done ∙ ap (λ n. key_places fields (take i keys) ++ n ∷ []) (sym here) ∙ sym (map_more (λ (n : List ℕ). unwrap_or (key_place fields n) 0) keys i name l)

-- the first key that is no column is one of those from a place on
pub key-due : (fields : List Field) (keys : List (List ℕ)) (i : ℕ) (name text : List ℕ) (o : Option ℕ) → text ≡ name → i < length keys → name ≡ get_or keys i name → key_place fields text ≡ o → join_key_absence fields (drop i keys) ≡ absence_before text o (join_key_absence fields (drop (i + 1) keys))
key-due fields keys i name text o same l read found =
    at_drop_more (join_key_absence fields) keys i name l
    ∙ ap (λ (n : List ℕ). absence_before n (key_place fields n) (join_key_absence fields (drop (i + 1) keys))) (sym read ∙ sym same)
    ∙ ap (λ (p : Option ℕ). absence_before text p (join_key_absence fields (drop (i + 1) keys))) found

-- one type more
pub kinds-more : (fields : List Field) (places : List ℕ) (i at : ℕ) (field : Field) (kinds new : List ColType) → i < length places → at ≡ get_or places i 0 → at < length fields → field ≡ get_or fields at field → kinds ≡ kinds_of (fields_at fields (take i places)) → new ≡ kinds ++ field.kind ∷ [] → new ≡ kinds_of (fields_at fields (take (i + 1) places))
kinds-more fields places i at field kinds new l is within read done more =
    more ∙ ap (λ ks. ks ++ field.kind ∷ []) done ∙ sym (map-append (λ (f : Field). f.kind) (fields_at fields (take i places)) (field ∷ [])) ∙ ap kinds_of (sym (fields_at-more fields places i at field l is within read))

-- the first pair whose types differ is one of those from a place on
pub type-step : (keys : List (List ℕ)) (ks ls : List ColType) (i : ℕ) (d : List ℕ) (k l : ColType) → i < length keys → length ks ≡ length keys → length ls ≡ length keys
    → type_fault (drop i keys) (drop i ks) (drop i ls) ≡ (if same_kind (get_or ks i k) (get_or ls i l) then type_fault (drop (i + 1) keys) (drop (i + 1) ks) (drop (i + 1) ls) else Some (SchemaMismatch (get_or keys i d)))
type-step keys ks ls i d k l less one two =
    at_drop_more (λ ns. type_fault ns (drop i ks) (drop i ls)) keys i d less
    ∙ at_drop_more (λ (ts : List ColType). type_fault (get_or keys i d ∷ drop (i + 1) keys) ts (drop i ls)) ks i k (omega (arith, less, one))
    ∙ at_drop_more (λ (ts : List ColType). type_fault (get_or keys i d ∷ drop (i + 1) keys) (get_or ks i k ∷ drop (i + 1) ks) ts) ls i l (omega (arith, less, two))

same_kinds : (a b : ColType) → same_kind a b ≡ true → a ≡ b
same_kinds types.Int types.Int q = refl
same_kinds types.Bool types.Bool q = refl
same_kinds types.Text types.Text q = refl
same_kinds types.Int types.Bool q = cc
same_kinds types.Int types.Text q = cc
same_kinds types.Bool types.Int q = cc
same_kinds types.Bool types.Text q = cc
same_kinds types.Text types.Int q = cc
same_kinds types.Text types.Bool q = cc

types-step : (n : List ℕ) (keys : List (List ℕ)) (k l : ColType) (ks ls : List ColType) (t : Bool) → same_kind k l ≡ t → (type_fault keys ks ls ≡ None → ks ≡ ls) → (if t then type_fault keys ks ls else Some (SchemaMismatch n)) ≡ None → (k ∷ ks) ≡ (l ∷ ls)
types-step n keys k l ks ls true q later rest = ap (λ x. x ∷ ks) (same_kinds k l q) ∙ ap (λ xs. l ∷ xs) (later rest)
types-step n keys k l ks ls false q later rest = absurd (cc)

-- where no pair differs, the types are the same
pub same-types : (keys : List (List ℕ)) (ks ls : List ColType) → length ks ≡ length keys → length ls ≡ length keys → type_fault keys ks ls ≡ None → ks ≡ ls
same-types [] [] [] one two none = refl
same-types [] [] (l ∷ ls) one two none = absurd (omega (arith, two))
same-types [] (k ∷ ks) ls one two none = absurd (omega (arith, one))
same-types (n ∷ keys) [] ls one two none = absurd (omega (arith, one))
same-types (n ∷ keys) (k ∷ ks) [] one two none = absurd (omega (arith, two))
same-types (n ∷ keys) (k ∷ ks) (l ∷ ls) one two none = types-step n keys k l ks ls (same_kind k l) refl (λ rest. same-types keys ks ls (omega (arith, one)) (omega (arith, two)) rest) none
