use Rattle.std.proofs.Common.{rules, ◌≡◌, ◌<◌, ◌≤◌, ◌⊎◌, inl, inr, ℕ, length, arith}
use Rattle.morsel_join.proofs.CutLemmas.{probe-begun, probe-more}
use Rattle.morsel_join.proofs.probe_some.probe_some.Goals as goal
use Rattle.morsel_join.proofs.probe_some.probe_some.Goals.{then-loop-at-test+else-len-limit, else-loop-at-test}

-- where there is room, no chain is begun
open-chain : (link many limit : ℕ) → (link ≡ 0) ⊎ (many ≡ limit) → many < limit → link ≡ 0
open-chain link many limit (inl none) less = none
open-chain link many limit (inr full) less = absurd (omega (arith, full, less))

at-end : (link many limit at len : ℕ) → (link ≡ 0) ⊎ (many ≡ limit) → (many ≡ limit) ⊎ (len ≤ at) → ((link ≡ 0) × (len ≤ at)) ⊎ (many ≡ limit)
at-end link many limit at len full (inl same) = inr same
at-end link many limit at len (inl none) (inr past) = inl (none, past)
at-end link many limit at len (inr same) (inr past) = inr same

pub loop-at-init : goal.loop-at-init
loop-at-init c = record {
  within = c.in_ok-link.ensures.within;
  full = c.in_ok-link.ensures.full;
  room = c.in_ok-link.ensures.room;
  len = c.in_ok-link.ensures.len;
  so_far = probe-begun c.args.first.now c.args.next.now c.args.numbers.now c.args.wanted c.args.from c.args.lefts.now.items c.args.rights.now.items c.follow_some.new.lefts.items c.follow_some.new.rights.items c.in_ok-link.link c.in_ok-link.ensures.ok;
}

pub loop-at-preserved : goal.loop-at-preserved
loop-at-preserved c =
    let inv = c.loop-at.invariant in
    let none : c.loop-at.link ≡ 0 = open-chain c.loop-at.link (length c.loop-at.lefts.items) c.args.limit inv.full (search rules) in
    record {
      within = c.in_ok-link-2.ensures.within;
      full = c.in_ok-link-2.ensures.full;
      room = c.in_ok-link-2.ensures.room;
      len = c.in_ok-link-2.ensures.len;
      so_far = probe-more c.args.first.now c.args.next.now c.args.numbers.now c.args.wanted c.args.from (record { at = c.loop-at.at; row = c.loop-at.row; link = c.loop-at.link }) c.head_of-head.result
          c.args.lefts.now.items c.args.rights.now.items c.loop-at.lefts.items c.loop-at.rights.items c.probe_row_some.new.lefts.items c.probe_row_some.new.rights.items c.in_ok-link-2.link
          none (search rules) (search rules) c.in_ok-link-2.ensures.ok inv.so_far;
    }

pub returns-clause-ok : goal.returns-clause-ok
returns-clause-ok c = c.loop-at.invariant.so_far

pub returns-clause-within : goal.returns-clause-within
returns-clause-within c = c.loop-at.invariant.within

pub returns-clause-room : goal.returns-clause-room
returns-clause-room c = c.loop-at.invariant.room

pub returns-clause-len : goal.returns-clause-len
returns-clause-len c = c.loop-at.invariant.len

pub returns-clause-full : goal.returns-clause-full
returns-clause-full c =
    let inv = c.loop-at.invariant in
    at-end c.loop-at.link (length c.loop-at.lefts.items) c.args.limit c.loop-at.at (length c.args.numbers.now) inv.full
    (elim c.loop-at-test.branch as (λ _. (length c.loop-at.lefts.items ≡ c.args.limit) ⊎ (length c.args.numbers.now ≤ c.loop-at.at)) [
      | then-loop-at-test+else-len-limit w ↦ inl (omega (arith, inv.room, w.if-len-limit.false, w.len.ensures))
      | else-loop-at-test w ↦ inr w.loop-at-test.false
    ])
