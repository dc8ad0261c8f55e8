-- The tasks that a call made ready.
use Rattle.std.specs.Prelude.{◌≡◌, ℕ, ◌+◌, ◌<◌, ◌==◌, if◌then◌else◌, Bool, true, false, List, [], ◌∷◌, ◌++◌, length, slice_index_or, ⊤, Option, Some, IfSome}
use Rattle.morsel_meaning.specs.declared.task.TaskNo.{TaskNo}

-- the numbers of the tasks that are to be woken, and their bound
pub record Woken : Type 0 where
  pub numbers : List ℕ
  pub bound : ℕ

-- whether the list has this number
abbrev pub has_number : List ℕ → ℕ → Bool
has_number [] n = false
has_number (m ∷ ms) n = if m == n then true else has_number ms n

-- no number comes twice
abbrev pub IsEachOnce : List ℕ → Type 0
IsEachOnce [] = ⊤
IsEachOnce (n ∷ ns) = (has_number ns n ≡ false) × IsEachOnce ns

-- one number more, the last one, where it is not there
abbrev pub with_woken : Woken → ℕ → Woken
with_woken w n = if has_number w.numbers n then w else record { numbers = w.numbers ++ n ∷ []; bound = w.bound }

-- how many are true
abbrev pub count_listed : List Bool → ℕ
count_listed [] = 0
count_listed (b ∷ bs) = if b then count_listed bs + 1 else count_listed bs

-- the flags tell of each number below the bound whether it is in the list, which has each once
pub record IsListed (numbers : List ℕ) (listed : List Bool) : Type 0 where
  pub flags : (n : ℕ) → slice_index_or listed n false ≡ has_number numbers n
  pub once : IsEachOnce numbers
  pub count : count_listed listed ≡ length numbers

-- no number is lost, and the bound stays
abbrev pub KeepsWakes : Woken → Woken → Type 0
KeepsWakes old new = (new.bound ≡ old.bound) × ((n : ℕ) → has_number old.numbers n ≡ true → has_number new.numbers n ≡ true)

-- the task, where there is one, is among those that are to be woken, if its number is below their bound
abbrev pub IsWoken : Option TaskNo → Woken → Type 0
IsWoken task w = IfSome task (λ t. t.0 < w.bound → has_number w.numbers t.0 ≡ true)

-- each of these tasks is among those that are to be woken
abbrev pub AreWoken : List TaskNo → Woken → Type 0
AreWoken [] w = ⊤
AreWoken (task ∷ tasks) w = IsWoken (Some task) w × AreWoken tasks w

-- some list of tasks was found so, and each of them is woken
abbrev pub AreFoundWoken : (List TaskNo → Type 0) → Woken → Type 0
AreFoundWoken found w = (tasks : List TaskNo) × found tasks × AreWoken tasks w
