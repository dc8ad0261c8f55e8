-- Tables by key: at each key what its things come to, whatever order the keys have.
use Rattle.std.specs.Prelude.{◌≡◌, Bool, if◌then◌else◌, Option, Some, None, List, [], ◌∷◌}
use Rattle.morsel_meaning.specs.Sequences.{folded}

-- two parts in one, where none is no part
abbrev pub both_parts : {M : Type 0} → (M → M → M) → Option M → Option M → Option M
both_parts plus None second = second
both_parts plus (Some a) None = Some a
both_parts plus (Some a) (Some b) = Some (plus a b)

-- what things come to: the part of each, put together in their order; none where there are no things
abbrev pub all_parts : {X M : Type 0} → (M → M → M) → (X → M) → List X → Option M
all_parts plus one xs = folded (λ x m. both_parts plus (Some (one x)) m) None xs

-- the things that pass, in their order
abbrev pub passing : {X : Type 0} → (X → Bool) → List X → List X
passing test [] = []
passing test (x ∷ xs) = if test x then x ∷ passing test xs else passing test xs

-- what the things that pass come to; none where none passes
abbrev pub reduced : {X M : Type 0} → (M → M → M) → (X → M) → (X → Bool) → List X → Option M
reduced plus one test xs = all_parts plus one (passing test xs)

-- what a table has at a key
abbrev pub lookup : {K M : Type 0} → (K → K → Bool) → K → List (K × M) → Option M
lookup same key [] = None
lookup same key (entry ∷ entries) = if same key entry.0 then Some entry.1 else lookup same key entries

-- the table has no such key
abbrev pub HasNoKey : {K M : Type 0} → (K → K → Bool) → K → List (K × M) → Type 0
HasNoKey same key entries = lookup same key entries ≡ None

-- no key occurs twice
abbrev pub HasKeysOnce : {K M : Type 0} → (K → K → Bool) → List (K × M) → Type 0
HasKeysOnce same [] = Unit {0}
HasKeysOnce same (entry ∷ entries) = HasNoKey same entry.0 entries × HasKeysOnce same entries

-- each key of the things once, and with it what the things of this key come to, in their order
pub record IsTable {X K M : Type 0} (same : K → K → Bool) (key : X → K) (plus : M → M → M) (one : X → M) (xs : List X) (table : List (K × M)) : Type 0 where
  pub once : HasKeysOnce same table
  pub each : (k : K) → lookup same k table ≡ reduced plus one (λ x. same k (key x)) xs

-- a table with one entry more: put to the one of its key, or last
abbrev pub with_entry : {K M : Type 0} → (K → K → Bool) → (M → M → M) → K → M → List (K × M) → List (K × M)
with_entry same plus key part [] = (key, part) ∷ []
with_entry same plus key part (entry ∷ entries) = if same key entry.0 then (entry.0, plus entry.1 part) ∷ entries else entry ∷ with_entry same plus key part entries

-- a table with another's entries put into it, one after the other
abbrev pub with_entries : {K M : Type 0} → (K → K → Bool) → (M → M → M) → List (K × M) → List (K × M) → List (K × M)
with_entries same plus table [] = table
with_entries same plus table (entry ∷ entries) = with_entries same plus (with_entry same plus entry.0 entry.1 table) entries
