-- What holds of tables by key, and of what is kept for reductions.
use Rattle.std.specs.Prelude.{◌≡◌, Bool, true, List, ◌++◌, map}
use Rattle.morsel_meaning.specs.Sequences.{by_number}
use Rattle.morsel_keys.specs.declared.reduction.Reduction.{Reduction}
use Rattle.morsel_keys.specs.Groups.{both_parts, reduced, IsTable, with_entries}
use Rattle.morsel_keys.specs.Reductions.{ValueAt, plus_entries, entry_of, finished, reduction_of}

-- a test that tells the same from others
pub record IsSameness {K : Type 0} (same : K → K → Bool) : Type 0 where
  pub itself : (k : K) → same k k ≡ true
  pub only : (k l : K) → same k l ≡ true → k ≡ l

-- it does not matter which two of three parts are put together first
abbrev pub IsAssociative : {M : Type 0} → (M → M → M) → Type 0
IsAssociative {M} plus = (a b c : M) → plus a (plus b c) ≡ plus (plus a b) c

-- two lists together come to what both come to
abbrev pub ReducesParts : Type 0 → Type 0 → Type 0
ReducesParts X M = (plus : M → M → M) (one : X → M) (test : X → Bool) (xs ys : List X)
    → IsAssociative plus → reduced plus one test (xs ++ ys) ≡ both_parts plus (reduced plus one test xs) (reduced plus one test ys)

-- the tables of two lists, one put into the other, are the table of both lists together
abbrev pub MergesTables : Type 0 → Type 0 → Type 0 → Type 0
MergesTables X K M = (same : K → K → Bool) (key : X → K) (plus : M → M → M) (one : X → M) (xs ys : List X) (us vs : List (K × M))
    → IsSameness same → IsAssociative plus
    → IsTable same key plus one xs us → IsTable same key plus one ys vs → IsTable same key plus one (xs ++ ys) (with_entries same plus us vs)

-- what is kept of two lists is what is kept of both, put together
abbrev pub KeepsParts : Type 0
KeepsParts = (op : Reduction) (vs ws : List ValueAt) → entry_of op (vs ++ ws) ≡ both_parts (plus_entries op) (entry_of op vs) (entry_of op ws)

-- what was kept of values, in whatever order they came, says what the reduction says of them by place
abbrev pub ReducesByPlace : Type 0
ReducesByPlace = (op : Reduction) (vs : List ValueAt) → finished op (entry_of op vs) ≡ reduction_of op (map (λ v. v.value) (by_number (λ v. v.at) vs))
