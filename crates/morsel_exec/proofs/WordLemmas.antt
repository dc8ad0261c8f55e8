-- Lists of fetches on the running word of a task.
use Rattle.std.proofs.Common.{◌≡◌, ℕ, zero, suc, ◌+◌, ◌/◌, ◌%◌, ◌<◌, ◌≤◌, min, max, Bool, true, false, ◌||◌, eqb, cond, List, [], ◌∷◌, count_by, refl, sym, ap, ◌∙◌, arith}
use Rattle.std.specs.Prelude.{bit_and, bit_or, bit_xor}
use Rattle.std.specs.List.{list_any}
use Rattle.std.proofs.lemmas.Nat.{and_mod, or_mod, xor_mod}
use Rattle.std.proofs.lemmas.Nat.Bits.{bit_at_and, bit_at_or, bit_at_xor, bit_at-lt}
use Rattle.std.proofs.lemmas.Bool.{false≢true, true≢false, eqb-true}
use Rattle.std.proofs.lemmas.List.Sums.{sum_by-cons}
use Rattle.morsel_exec.specs.Words.{Fetch, Wake, Start, Turn, Cancel, phase, fetched, hands_out, is_start, is_turn, all_fetched, times_handed, StartsScheduled}

-- what a fetch makes of the two low bits
abbrev turned : Fetch → ℕ → ℕ
turned Wake p = bit_or p 1
turned Start p = bit_xor p 3
turned Turn p = bit_and p 1
turned Cancel p = bit_or p 1

phase-fetched : (fetch : Fetch) (word : ℕ) → phase (fetched fetch word) ≡ turned fetch (phase word)
phase-fetched Wake word = or_mod word 1 2
phase-fetched Start word = xor_mod word 3 2
phase-fetched Turn word = and_mod word 18446744073709551613 2
phase-fetched Cancel word = or_mod word 5 2

-- four cases for the two low bits
data IsPhase : ℕ → Type 0 where
  idle : IsPhase 0
  scheduled : IsPhase 1
  running : IsPhase 2
  notified : IsPhase 3

phase_cases : (p : ℕ) → p < 4 → IsPhase p
phase_cases zero below = idle
phase_cases (suc zero) below = scheduled
phase_cases (suc (suc zero)) below = running
phase_cases (suc (suc (suc zero))) below = notified
phase_cases (suc (suc (suc (suc n)))) below = absurd (omega arith)

is_phase : (word : ℕ) → IsPhase (phase word)
is_phase word = phase_cases (phase word) (omega arith)

-- ---- scheduled, until a start

stays_scheduled : (between : List Fetch) (word : ℕ) → phase word ≡ 1 → list_any is_start between ≡ false → phase (all_fetched between word) ≡ 1
stays_scheduled [] word at none = at
stays_scheduled (Wake ∷ fetches) word at none = stays_scheduled fetches (fetched Wake word) (phase-fetched Wake word ∙ ap (turned Wake) at) none
stays_scheduled (Start ∷ fetches) word at none = absurd (true≢false none)
stays_scheduled (Turn ∷ fetches) word at none = stays_scheduled fetches (fetched Turn word) (phase-fetched Turn word ∙ ap (turned Turn) at) none
stays_scheduled (Cancel ∷ fetches) word at none = stays_scheduled fetches (fetched Cancel word) (phase-fetched Cancel word ∙ ap (turned Cancel) at) none

-- who finds the task scheduled gets no right
scheduled_gives_none : (fetch : Fetch) (word : ℕ) → phase word ≡ 1 → hands_out fetch word ≡ false
scheduled_gives_none Wake word at = ap (λ p. eqb p 0) at
scheduled_gives_none Start word at = refl
scheduled_gives_none Turn word at = ap (λ p. eqb p 3) at
scheduled_gives_none Cancel word at = ap (λ p. eqb p 0) at

-- who gets the right leaves the task scheduled
handed_scheduled : (fetch : Fetch) (word : ℕ) → hands_out fetch word ≡ true → phase (fetched fetch word) ≡ 1
handed_scheduled Wake word given = phase-fetched Wake word ∙ ap (turned Wake) (eqb-true (phase word) 0 given)
handed_scheduled Start word given = absurd (false≢true given)
handed_scheduled Turn word given = phase-fetched Turn word ∙ ap (turned Turn) (eqb-true (phase word) 3 given)
handed_scheduled Cancel word given = phase-fetched Cancel word ∙ ap (turned Cancel) (eqb-true (phase word) 0 given)

pub hands_out_once : (word : ℕ) (first second : Fetch) (between : List Fetch) → hands_out first word ≡ true → list_any is_start between ≡ false → hands_out second (all_fetched between (fetched first word)) ≡ false
hands_out_once word first second between given none =
    scheduled_gives_none second (all_fetched between (fetched first word)) (stays_scheduled between (fetched first word) (handed_scheduled first word given) none)

pub wakes_idle : (word : ℕ) → phase word ≡ 0 → (hands_out Wake word ≡ true) × ((between : List Fetch) (fetch : Fetch) → list_any is_start between ≡ false → hands_out fetch (all_fetched between (fetched Wake word)) ≡ false)
wakes_idle word idle_word =
    let given : hands_out Wake word ≡ true = ap (λ p. eqb p 0) idle_word in
    (given, λ between fetch none. hands_out_once word Wake fetch between given none)

-- ---- notified, until the turn ends

stays_notified : (between : List Fetch) (word : ℕ) → phase word ≡ 3 → list_any (λ fetch. is_start fetch || is_turn fetch) between ≡ false → phase (all_fetched between word) ≡ 3
stays_notified [] word at none = at
stays_notified (Wake ∷ fetches) word at none = stays_notified fetches (fetched Wake word) (phase-fetched Wake word ∙ ap (turned Wake) at) none
stays_notified (Start ∷ fetches) word at none = absurd (true≢false none)
stays_notified (Turn ∷ fetches) word at none = absurd (true≢false none)
stays_notified (Cancel ∷ fetches) word at none = stays_notified fetches (fetched Cancel word) (phase-fetched Cancel word ∙ ap (turned Cancel) at) none

woken_running : (p : ℕ) → IsPhase p → 2 ≤ p → bit_or p 1 ≡ 3
woken_running _ idle is_running = absurd (omega arith)
woken_running _ scheduled is_running = absurd (omega arith)
woken_running _ running is_running = refl
woken_running _ notified is_running = refl

pub remembers_wake : (word : ℕ) (between : List Fetch) → 2 ≤ phase word → list_any (λ fetch. is_start fetch || is_turn fetch) between ≡ false → hands_out Turn (all_fetched between (fetched Wake word)) ≡ true
remembers_wake word between is_running none =
    ap (λ p. eqb p 3) (stays_notified between (fetched Wake word) (phase-fetched Wake word ∙ woken_running (phase word) (is_phase word) is_running) none)

-- ---- cancelled, for good

stays_cancelled : (fetch : Fetch) (word : ℕ) → word / 4 % 2 ≡ 1 → fetched fetch word / 4 % 2 ≡ 1
stays_cancelled Wake word is = bit_at_or word 1 2 ∙ ap (λ b. max b 0) is
stays_cancelled Start word is = bit_at_xor word 3 2 ∙ ap (λ b. (b + 0) % 2) is
stays_cancelled Turn word is = bit_at_and word 18446744073709551613 2 ∙ ap (λ b. min b 1) is
stays_cancelled Cancel word is = bit_at_or word 5 2 ∙ ap (λ b. max b 1) is

all_cancelled : (later : List Fetch) (word : ℕ) → word / 4 % 2 ≡ 1 → all_fetched later word / 4 % 2 ≡ 1
all_cancelled [] word is = is
all_cancelled (fetch ∷ fetches) word is = all_cancelled fetches (fetched fetch word) (stays_cancelled fetch word is)

pub remembers_cancel : (word : ℕ) (later : List Fetch) → all_fetched later (fetched Cancel word) / 4 % 2 ≡ 1
remembers_cancel word later = all_cancelled later (fetched Cancel word) (bit_at_or word 5 2 ∙ or_one (word / 4 % 2) (bit_at-lt word 2))
  where
    or_one : (b : ℕ) → b < 2 → max b 1 ≡ 1
    or_one zero below = refl
    or_one (suc zero) below = refl
    or_one (suc (suc n)) below = absurd (omega arith)

-- ---- the balance of rights and starts

abbrev one_if : Bool → ℕ
one_if b = cond b 1 0

-- the same as `hands_out`, of the two low bits
abbrev handed : Fetch → ℕ → Bool
handed Wake p = eqb p 0
handed Start p = false
handed Turn p = eqb p 3
handed Cancel p = eqb p 0

hands_out-phase : (fetch : Fetch) (word : ℕ) → hands_out fetch word ≡ handed fetch (phase word)
hands_out-phase Wake word = refl
hands_out-phase Start word = refl
hands_out-phase Turn word = refl
hands_out-phase Cancel word = refl

phase_balance : (fetch : Fetch) (p : ℕ) → IsPhase p → (is_start fetch ≡ true → p ≡ 1) → one_if (handed fetch p) + one_if (eqb p 1) ≡ one_if (is_start fetch) + one_if (eqb (turned fetch p) 1)
phase_balance Wake _ idle asked = refl
phase_balance Wake _ scheduled asked = refl
phase_balance Wake _ running asked = refl
phase_balance Wake _ notified asked = refl
phase_balance Start _ idle asked = absurd (omega (arith, asked refl))
phase_balance Start _ scheduled asked = refl
phase_balance Start _ running asked = absurd (omega (arith, asked refl))
phase_balance Start _ notified asked = absurd (omega (arith, asked refl))
phase_balance Turn _ idle asked = refl
phase_balance Turn _ scheduled asked = refl
phase_balance Turn _ running asked = refl
phase_balance Turn _ notified asked = refl
phase_balance Cancel _ idle asked = refl
phase_balance Cancel _ scheduled asked = refl
phase_balance Cancel _ running asked = refl
phase_balance Cancel _ notified asked = refl

-- one fetch
fetch_balance : (fetch : Fetch) (word : ℕ) → (is_start fetch ≡ true → phase word ≡ 1) → one_if (hands_out fetch word) + one_if (eqb (phase word) 1) ≡ one_if (is_start fetch) + one_if (eqb (phase (fetched fetch word)) 1)
fetch_balance fetch word asked =
    ap (λ b. one_if b + one_if (eqb (phase word) 1)) (hands_out-phase fetch word)
    ∙ phase_balance fetch (phase word) (is_phase word) asked
    ∙ ap (λ p. one_if (is_start fetch) + one_if (eqb p 1)) (sym (phase-fetched fetch word))

balance : (fetches : List Fetch) (word : ℕ) → StartsScheduled fetches word → times_handed fetches word + one_if (eqb (phase word) 1) ≡ count_by is_start fetches + one_if (eqb (phase (all_fetched fetches word)) 1)
balance [] word asked = refl
balance (fetch ∷ fetches) word asked =
    let here = fetch_balance fetch word asked.0 in
    let later = balance fetches (fetched fetch word) asked.1 in
    let counted = sum_by-cons (λ f. cond (is_start f) 1 0) fetch fetches in
    omega arith

pub rights_balance : (fetches : List Fetch) → StartsScheduled fetches 0 → times_handed fetches 0 ≡ count_by is_start fetches + cond (eqb (phase (all_fetched fetches 0)) 1) 1 0
rights_balance fetches asked = let whole = balance fetches 0 asked in omega arith
