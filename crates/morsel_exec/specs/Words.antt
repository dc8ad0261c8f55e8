-- The running word of a task: what each fetch makes of it, and which fetch hands out the right to schedule the task.
use Rattle.std.specs.Prelude.{◌≡◌, ℕ, ◌+◌, ◌/◌, ◌%◌, ◌≤◌, Bool, true, false, ◌||◌, ◌==◌, if◌then◌else◌, IsTrue, List, [], ◌∷◌, count_by, bit_and, bit_or, bit_xor}
use Rattle.std.specs.List.{list_any}

-- what is done to the word: a wake, the start of a run, the end of a turn, and a cancel
pub data Fetch : Type 0 where
  Wake : Fetch
  Start : Fetch
  Turn : Fetch
  Cancel : Fetch

-- the two low bits: 0 idle, 1 scheduled, 2 running, 3 notified
abbrev pub phase : ℕ → ℕ
phase word = word % 4

-- bit 4 is set
abbrev pub IsCancelled : ℕ → Type 0
IsCancelled word = word / 4 % 2 ≡ 1

-- the word that a fetch leaves; the number of `Turn` has each of 64 bits but the one of 2
abbrev pub fetched : Fetch → ℕ → ℕ
fetched Wake word = bit_or word 1
fetched Start word = bit_xor word 3
fetched Turn word = bit_and word 18446744073709551613
fetched Cancel word = bit_or word 5

-- whether the fetch hands out the right to schedule the task
abbrev pub hands_out : Fetch → ℕ → Bool
hands_out Wake word = phase word == 0
hands_out Start word = false
hands_out Turn word = phase word == 3
hands_out Cancel word = phase word == 0

-- ---- lists of fetches

-- whether the fetch is a start
abbrev pub is_start : Fetch → Bool
is_start Start = true
is_start _ = false

-- whether the fetch is the end of a turn
abbrev pub is_turn : Fetch → Bool
is_turn Turn = true
is_turn _ = false

-- the word that a list of fetches leaves
abbrev pub all_fetched : List Fetch → ℕ → ℕ
all_fetched [] word = word
all_fetched (fetch ∷ fetches) word = all_fetched fetches (fetched fetch word)

-- how often a list of fetches hands out the right
abbrev pub times_handed : List Fetch → ℕ → ℕ
times_handed [] word = 0
times_handed (fetch ∷ fetches) word = (if hands_out fetch word then 1 else 0) + times_handed fetches (fetched fetch word)

-- each start finds the task scheduled
abbrev pub StartsScheduled : List Fetch → ℕ → Type 0
StartsScheduled [] word = Unit {0}
StartsScheduled (fetch ∷ fetches) word = (IsTrue (is_start fetch) → phase word ≡ 1) × StartsScheduled fetches (fetched fetch word)

-- ---- laws, from any word and so at any place of any list of fetches

-- a wake of an idle task hands out the right, and until it starts nothing else does
abbrev pub WakesIdle : Type 0
WakesIdle =
    (word : ℕ) → phase word ≡ 0
    → IsTrue (hands_out Wake word)
    × ((between : List Fetch) (fetch : Fetch) → list_any is_start between ≡ false → hands_out fetch (all_fetched between (fetched Wake word)) ≡ false)

-- a wake of a running task is remembered: whatever comes before the end of its turn, that hands out the right
abbrev pub RemembersWake : Type 0
RemembersWake =
    (word : ℕ) (between : List Fetch) → 2 ≤ phase word → list_any (λ fetch. is_start fetch || is_turn fetch) between ≡ false
    → IsTrue (hands_out Turn (all_fetched between (fetched Wake word)))

-- a cancel is never forgotten
abbrev pub RemembersCancel : Type 0
RemembersCancel = (word : ℕ) (later : List Fetch) → IsCancelled (all_fetched later (fetched Cancel word))

-- between two fetches that both hand out the right there is a start
abbrev pub HandsOutOnce : Type 0
HandsOutOnce =
    (word : ℕ) (first second : Fetch) (between : List Fetch) → IsTrue (hands_out first word)
    → list_any is_start between ≡ false → hands_out second (all_fetched between (fetched first word)) ≡ false

-- from the word 0 the right is handed out once for each start, and once more where the task is scheduled
abbrev pub RightsBalance : Type 0
RightsBalance =
    (fetches : List Fetch) → StartsScheduled fetches 0
    → times_handed fetches 0 ≡ count_by is_start fetches + (if phase (all_fetched fetches 0) == 1 then 1 else 0)
