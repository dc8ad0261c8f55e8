-- Items that are put so many at a time.
use Rattle.std.proofs.Common.{◌≡◌, ◌<◌, ◌≤◌, ◌++◌, ◌⊎◌, inl, inr, [], ◌∷◌, List, ℕ, ◌+◌, ◌-◌, suc, zero, length, drop, get_or, arith, refl, ap, ◌∙◌, sym, subst, Bool, true, false, map, nat_lt, append_assoc}
use Rattle.std.proofs.lemmas.List.{drop_all, drop_more}
use Rattle.morsel_frame.specs.Columns.{no_row}
use Rattle.morsel_join.specs.declared.probe_some.Cursor.{Cursor}
use Rattle.morsel_join.specs.Items.{JoinItem, Both, LoneLeft, places, or_lone, left_items}
use Rattle.morsel_join.specs.Chains.{Chain, AreRowChains, same_number}
use Rattle.morsel_join.specs.Cuts.{AreItemsFrom, FindNothing, PutsFirst, PutsFollowed, PutsFrom}
use Rattle.morsel_join.proofs.ProbeLemmas.{puts-none, puts-more, number-chain}

-- nothing was put
pub first-none : (items : List JoinItem) (lefts rights : List ℕ) → PutsFirst items items lefts rights lefts rights
first-none items lefts rights = record { done = []; same = refl; put = puts-none lefts rights }

-- some were put, and then others
pub first-more : (items mid rest : List JoinItem) (lefts rights mid_lefts mid_rights new_lefts new_rights : List ℕ) → PutsFirst items mid lefts rights mid_lefts mid_rights → PutsFirst mid rest mid_lefts mid_rights new_lefts new_rights → PutsFirst items rest lefts rights new_lefts new_rights
first-more items mid rest lefts rights mid_lefts mid_rights new_lefts new_rights a b = record {
  done = a.done ++ b.done;
  same = a.same ∙ ap (λ (xs : List JoinItem). a.done ++ xs) b.same ∙ sym (append_assoc a.done b.done rest);
  put = puts-more a.done b.done lefts rights mid_lefts mid_rights new_lefts new_rights a.put b.put;
}

-- the same with more items behind them
pub first-before : (items rest more : List JoinItem) (lefts rights new_lefts new_rights : List ℕ) → PutsFirst items rest lefts rights new_lefts new_rights → PutsFirst (items ++ more) (rest ++ more) lefts rights new_lefts new_rights
first-before items rest more lefts rights new_lefts new_rights a = record {
  done = a.done;
  same = ap (λ (xs : List JoinItem). xs ++ more) a.same ∙ append_assoc a.done rest more;
  put = a.put;
}

-- a walk along a chain has come to a link
pub record HasWalked (next : List ℕ) (head link row limit : ℕ) (lefts rights now_lefts now_rights : List ℕ) : Type 0 where
  pub within : link ≤ length next
  pub room : length now_lefts ≤ limit
  pub len : length now_rights ≡ length now_lefts
  pub so_far : (chain : List ℕ) → Chain next head chain → PutsFollowed next row (map (Both row) chain) lefts rights now_lefts now_rights link

pub walk-begun : (next : List ℕ) (head row : ℕ) (lefts rights chain : List ℕ) → Chain next head chain → PutsFollowed next row (map (Both row) chain) lefts rights lefts rights head
walk-begun next head row lefts rights chain c = record { chain = chain; linked = c; put = first-none (map (Both row) chain) lefts rights }

one-more : (next : List ℕ) (link j row : ℕ) (items : List JoinItem) (lefts rights now_lefts now_rights chain : List ℕ) → link ≡ j + 1 → Chain next link chain → PutsFirst items (map (Both row) chain) lefts rights now_lefts now_rights
    → PutsFollowed next row items lefts rights (now_lefts ++ row ∷ []) (now_rights ++ j ∷ []) (get_or next j 0)
one-more next link j row items lefts rights now_lefts now_rights [] is c put = absurd (omega (arith, is, c))
one-more next link j row items lefts rights now_lefts now_rights (k ∷ chain) is c put =
    let same : k ≡ j = omega (arith, is, c.0) in record {
      chain = chain;
      linked = subst (λ (n : ℕ). Chain next (get_or next n 0) chain) same c.1;
      put = first-more items (map (Both row) (k ∷ chain)) (map (Both row) chain) lefts rights now_lefts now_rights (now_lefts ++ row ∷ []) (now_rights ++ j ∷ []) put
          (record { done = Both row k ∷ []; same = refl; put = record { left_side = refl; right_side = ap (λ (n : ℕ). now_rights ++ n ∷ []) (sym same) } });
    }

-- one row more of the chain was put
pub walk-more : (next : List ℕ) (head link j row : ℕ) (lefts rights now_lefts now_rights : List ℕ) → link ≡ j + 1
    → ((chain : List ℕ) → Chain next head chain → PutsFollowed next row (map (Both row) chain) lefts rights now_lefts now_rights link)
    → (chain : List ℕ) → Chain next head chain → PutsFollowed next row (map (Both row) chain) lefts rights (now_lefts ++ row ∷ []) (now_rights ++ j ∷ []) (get_or next j 0)
walk-more next head link j row lefts rights now_lefts now_rights is so_far chain c =
    let h = so_far chain c in one-more next link j row (map (Both row) chain) lefts rights now_lefts now_rights h.chain is h.linked h.put

-- a row with a chain is put with the chain's rows
pub row-followed : (next : List ℕ) (head row : ℕ) (wanted : Bool) (lefts rights new_lefts new_rights : List ℕ) (link : ℕ) (chain : List ℕ) → 0 < head → Chain next head chain → PutsFollowed next row (map (Both row) chain) lefts rights new_lefts new_rights link → PutsFollowed next row (or_lone wanted row chain) lefts rights new_lefts new_rights link
row-followed next head row wanted lefts rights new_lefts new_rights link [] some c put = absurd (omega (arith, some, c))
row-followed next head row wanted lefts rights new_lefts new_rights link (j ∷ chain) some c put = put

-- a row without a chain is put alone
pub row-alone : (next : List ℕ) (head row : ℕ) (lefts rights chain : List ℕ) → head ≡ 0 → Chain next head chain → PutsFollowed next row (or_lone true row chain) lefts rights (lefts ++ row ∷ []) (rights ++ no_row ∷ []) 0
row-alone next head row lefts rights [] none c = record { chain = []; linked = refl; put = record { done = LoneLeft row ∷ []; same = refl; put = record { left_side = refl; right_side = refl } } }
row-alone next head row lefts rights (j ∷ chain) none c = absurd (omega (arith, none, c.0))

pub row-nothing : (next : List ℕ) (head row : ℕ) (lefts rights chain : List ℕ) → head ≡ 0 → Chain next head chain → PutsFollowed next row (or_lone false row chain) lefts rights lefts rights 0
row-nothing next head row lefts rights [] none c = record { chain = []; linked = refl; put = first-none [] lefts rights }
row-nothing next head row lefts rights (j ∷ chain) none c = absurd (omega (arith, none, c.0))

-- a cursor has come to a place
pub record HasProbed (first next numbers : List ℕ) (wanted : Bool) (from : Cursor) (limit : ℕ) (lefts rights now_lefts now_rights : List ℕ) (cursor : Cursor) : Type 0 where
  pub within : cursor.link ≤ length next
  pub full : (cursor.link ≡ 0) ⊎ (length now_lefts ≡ limit)
  pub room : length now_lefts ≤ limit
  pub len : length now_rights ≡ length now_lefts
  pub so_far : (kept : List ℕ) (items : List JoinItem) → AreRowChains kept first next 0 → AreItemsFrom kept (length first) next numbers wanted from items → PutsFrom kept (length first) next numbers wanted items lefts rights now_lefts now_rights cursor

-- the row that was begun was put with more of its chain
pub probe-begun : (first next numbers : List ℕ) (wanted : Bool) (from : Cursor) (lefts rights new_lefts new_rights : List ℕ) (link : ℕ)
    → ((chain : List ℕ) → Chain next from.link chain → PutsFollowed next from.row (map (Both from.row) chain) lefts rights new_lefts new_rights link)
    → (kept : List ℕ) (items : List JoinItem) → AreRowChains kept first next 0 → AreItemsFrom kept (length first) next numbers wanted from items
    → PutsFrom kept (length first) next numbers wanted items lefts rights new_lefts new_rights (record { at = from.at; row = from.row; link = link })
probe-begun first next numbers wanted from lefts rights new_lefts new_rights link put kept items chains left =
    let p = put left.chain left.linked in
    let more : List JoinItem = left_items (same_number (length first)) wanted from.at (drop from.at numbers) kept in
    record {
      rest = map (Both from.row) p.chain ++ more;
      left = record { chain = p.chain; linked = p.linked; all = refl };
      put = subst (λ (xs : List JoinItem). PutsFirst xs (map (Both from.row) p.chain ++ more) lefts rights new_lefts new_rights) (sym left.all)
          (first-before (map (Both from.row) left.chain) (map (Both from.row) p.chain) more lefts rights new_lefts new_rights p.put);
    }

-- where a chain is at its end, the items from a cursor on are those of the rows that were not begun
no-chain : (next : List ℕ) (link row : ℕ) (chain : List ℕ) (more : List JoinItem) → link ≡ 0 → Chain next link chain → map (Both row) chain ++ more ≡ more
no-chain next link row [] more none c = refl
no-chain next link row (j ∷ chain) more none c = absurd (omega (arith, none, c.0))

-- the items from a row on are those of the row, and of the rows behind it
row-items : (keys : ℕ) (wanted : Bool) (numbers kept : List ℕ) (at : ℕ) → at < length numbers
    → left_items (same_number keys) wanted at (drop at numbers) kept ≡ or_lone wanted at (places (same_number keys (get_or numbers at 0)) 0 kept) ++ left_items (same_number keys) wanted (at + 1) (drop (at + 1) numbers) kept
row-items keys wanted numbers kept at less =
    let next : suc at ≡ at + 1 = omega arith in
    ap (λ (ns : List ℕ). left_items (same_number keys) wanted at ns kept) (drop_more numbers at 0 less)
    ∙ ap (λ (n : ℕ). or_lone wanted at (places (same_number keys (get_or numbers at 0)) 0 kept) ++ left_items (same_number keys) wanted n (drop (at + 1) numbers) kept) next

-- one row more was begun
pub probe-more : (first next numbers : List ℕ) (wanted : Bool) (from cursor : Cursor) (head : ℕ) (lefts rights now_lefts now_rights new_lefts new_rights : List ℕ) (link : ℕ)
    → cursor.link ≡ 0 → cursor.at < length numbers → head ≡ get_or first (get_or numbers cursor.at 0) 0
    → ((chain : List ℕ) → Chain next head chain → PutsFollowed next cursor.at (or_lone wanted cursor.at chain) now_lefts now_rights new_lefts new_rights link)
    → ((kept : List ℕ) (items : List JoinItem) → AreRowChains kept first next 0 → AreItemsFrom kept (length first) next numbers wanted from items → PutsFrom kept (length first) next numbers wanted items lefts rights now_lefts now_rights cursor)
    → (kept : List ℕ) (items : List JoinItem) → AreRowChains kept first next 0 → AreItemsFrom kept (length first) next numbers wanted from items
    → PutsFrom kept (length first) next numbers wanted items lefts rights new_lefts new_rights (record { at = cursor.at + 1; row = cursor.at; link = link })
probe-more first next numbers wanted from cursor head lefts rights now_lefts now_rights new_lefts new_rights link none less is put so_far kept items chains left =
    let h = so_far kept items chains left in
    let at = cursor.at in
    let found : List ℕ = places (same_number (length first) (get_or numbers at 0)) 0 kept in
    let linked : Chain next head found = subst (λ (n : ℕ). Chain next n found) (sym is) (number-chain kept first next (get_or numbers at 0) chains) in
    let p = put found linked in
    let behind : List JoinItem = left_items (same_number (length first)) wanted (at + 1) (drop (at + 1) numbers) kept in
    let whole : h.rest ≡ or_lone wanted at found ++ behind =
    h.left.all ∙ no-chain next cursor.link cursor.row h.left.chain (left_items (same_number (length first)) wanted at (drop at numbers) kept) none h.left.linked ∙ row-items (length first) wanted numbers kept at less in
    record {
      rest = map (Both at) p.chain ++ behind;
      left = record { chain = p.chain; linked = p.linked; all = refl };
      put = first-more items (or_lone wanted at found ++ behind) (map (Both at) p.chain ++ behind) lefts rights now_lefts now_rights new_lefts new_rights
          (subst (λ (xs : List JoinItem). PutsFirst items xs lefts rights now_lefts now_rights) whole h.put)
          (first-before (or_lone wanted at found) (map (Both at) p.chain) behind now_lefts now_rights new_lefts new_rights p.put);
    }

nil-chain : (next : List ℕ) (chain : List ℕ) → Chain next 0 chain → chain ≡ []
nil-chain next [] c = refl
nil-chain next (j ∷ chain) c = absurd (omega (arith, c.0))

barren-row : (first next numbers kept : List ℕ) (at : ℕ) → AreRowChains kept first next 0 → get_or first (get_or numbers at 0) 0 ≡ 0
    → left_items (same_number (length first)) false at (drop at numbers) kept ≡ left_items (same_number (length first)) false (at + 1) (drop (at + 1) numbers) kept
barren-row first next numbers kept at chains none = by (nat_lt at (length numbers)) refl
  where
    by : (t : Bool) → nat_lt at (length numbers) ≡ t → left_items (same_number (length first)) false at (drop at numbers) kept ≡ left_items (same_number (length first)) false (at + 1) (drop (at + 1) numbers) kept
    by true q =
        let less : at < length numbers = grind (arith, q) in
        let found : List ℕ = places (same_number (length first) (get_or numbers at 0)) 0 kept in
        let empty : found ≡ [] = nil-chain next found (subst (λ (n : ℕ). Chain next n found) none (number-chain kept first next (get_or numbers at 0) chains)) in
        row-items (length first) false numbers kept at less ∙ ap (λ (js : List ℕ). or_lone false at js ++ left_items (same_number (length first)) false (at + 1) (drop (at + 1) numbers) kept) empty
    by false q =
        let past : length numbers ≤ at = grind (arith, q) in
        ap (λ (ns : List ℕ). left_items (same_number (length first)) false at ns kept) (drop_all at numbers past)
        ∙ sym (ap (λ (ns : List ℕ). left_items (same_number (length first)) false (at + 1) ns kept) (drop_all (at + 1) numbers (omega (arith, past))))

barren-rows : (first next numbers kept : List ℕ) (from many to : ℕ) → AreRowChains kept first next 0 → from + many ≡ to → ((k : ℕ) → from ≤ k → k < to → get_or first (get_or numbers k 0) 0 ≡ 0)
    → left_items (same_number (length first)) false from (drop from numbers) kept ≡ left_items (same_number (length first)) false to (drop to numbers) kept
barren-rows first next numbers kept from zero to chains sum none = let same : from ≡ to = omega (arith, sum) in ap (λ (n : ℕ). left_items (same_number (length first)) false n (drop n numbers) kept) same
barren-rows first next numbers kept from (suc many) to chains sum none =
    barren-row first next numbers kept from chains (none from (omega arith) (omega (arith, sum)))
    ∙ barren-rows first next numbers kept (from + 1) many to chains (omega (arith, sum)) (λ k after before. none k (omega (arith, after)) before)

-- past rows that find nothing the items are the same
pub items-past : (first next numbers kept : List ℕ) (wanted : Bool) (from cursor : Cursor) (items : List JoinItem) → AreRowChains kept first next 0 → cursor.row ≡ from.row → cursor.link ≡ from.link → (wanted ≡ true → cursor.at ≡ from.at) → (wanted ≡ false → FindNothing first numbers from.at cursor.at)
    → AreItemsFrom kept (length first) next numbers wanted from items → AreItemsFrom kept (length first) next numbers wanted cursor items
items-past first next numbers kept true from cursor items chains row link same past left = record {
  chain = left.chain;
  linked = subst (λ (n : ℕ). Chain next n left.chain) (sym link) left.linked;
  all = left.all ∙ ap (λ (n : ℕ). map (Both n) left.chain ++ left_items (same_number (length first)) true from.at (drop from.at numbers) kept) (sym row)
      ∙ ap (λ (n : ℕ). map (Both cursor.row) left.chain ++ left_items (same_number (length first)) true n (drop n numbers) kept) (sym (same refl));
}
items-past first next numbers kept false from cursor items chains row link same past left =
    let p = past refl in
    let sum : (many : ℕ) × (from.at + many ≡ cursor.at) = between from.at cursor.at p.after in
    record {
      chain = left.chain;
      linked = subst (λ (n : ℕ). Chain next n left.chain) (sym link) left.linked;
      all = left.all ∙ ap (λ (n : ℕ). map (Both n) left.chain ++ left_items (same_number (length first)) false from.at (drop from.at numbers) kept) (sym row)
          ∙ ap (λ (xs : List JoinItem). map (Both cursor.row) left.chain ++ xs) (barren-rows first next numbers kept from.at sum.0 cursor.at chains sum.1 p.nothing);
    }
  where
    between : (n m : ℕ) → n ≤ m → (many : ℕ) × (n + many ≡ m)
    between n m le = (m - n, omega (arith, le))

-- at the end nothing is left
pub end-left : (kept : List ℕ) (keys : ℕ) (next numbers : List ℕ) (wanted : Bool) (cursor : Cursor) (items : List JoinItem) → cursor.link ≡ 0 → length numbers ≤ cursor.at → AreItemsFrom kept keys next numbers wanted cursor items → items ≡ []
end-left kept keys next numbers wanted cursor items none past left =
    left.all ∙ no-chain next cursor.link cursor.row left.chain (left_items (same_number keys) wanted cursor.at (drop cursor.at numbers) kept) none left.linked
    ∙ ap (λ (ns : List ℕ). left_items (same_number keys) wanted cursor.at ns kept) (drop_all cursor.at numbers past)

no-front : {X : Type 0} (xs ys : List X) → xs ++ ys ≡ [] → (xs ≡ []) × (ys ≡ [])
no-front [] ys e = (refl, e)
no-front (x ∷ xs) ys e = absurd (cc)

no-items : (row : ℕ) (chain : List ℕ) → map (Both row) chain ≡ [] → chain ≡ []
no-items row [] e = refl
no-items row (j ∷ chain) e = absurd (cc)

no-lone : (wanted : Bool) (at : ℕ) (js : List ℕ) → or_lone wanted at js ≡ [] → (wanted ≡ false) × (js ≡ [])
no-lone true at [] e = absurd (cc)
no-lone false at [] e = (refl, refl)
no-lone wanted at (j ∷ js) e = absurd (cc)

-- where nothing is left past the rows that find nothing, the cursor is at the end
pub none-left : (first next numbers kept : List ℕ) (wanted : Bool) (from : ℕ) (cursor : Cursor) (items : List JoinItem) → AreRowChains kept first next 0 → (wanted ≡ false → FindNothing first numbers from cursor.at) → AreItemsFrom kept (length first) next numbers wanted cursor items → items ≡ [] → (cursor.link ≡ 0) × (length numbers ≤ cursor.at)
none-left first next numbers kept wanted from cursor items chains past left none =
    let two = no-front (map (Both cursor.row) left.chain) (left_items (same_number (length first)) wanted cursor.at (drop cursor.at numbers) kept) (sym left.all ∙ none) in
    (subst (λ (js : List ℕ). Chain next cursor.link js) (no-items cursor.row left.chain two.0) left.linked, by (nat_lt cursor.at (length numbers)) refl two.1)
  where
    by : (t : Bool) → nat_lt cursor.at (length numbers) ≡ t → left_items (same_number (length first)) wanted cursor.at (drop cursor.at numbers) kept ≡ [] → length numbers ≤ cursor.at
    by true q e =
        let less : cursor.at < length numbers = grind (arith, q) in
        let found : List ℕ = places (same_number (length first) (get_or numbers cursor.at 0)) 0 kept in
        let one = no-front (or_lone wanted cursor.at found) (left_items (same_number (length first)) wanted (cursor.at + 1) (drop (cursor.at + 1) numbers) kept) (sym (row-items (length first) wanted numbers kept cursor.at less) ∙ e) in
        let lone = no-lone wanted cursor.at found one.0 in
        let head : Chain next (get_or first (get_or numbers cursor.at 0) 0) [] = subst (λ (js : List ℕ). Chain next (get_or first (get_or numbers cursor.at 0) 0) js) lone.1 (number-chain kept first next (get_or numbers cursor.at 0) chains) in
        absurd (omega (arith, head, (past lone.0).something less))
    by false q e = grind (arith, q)

-- the first items from one cursor on are put, up to another one
abbrev pub PutsUpTo : List ℕ → ℕ → List ℕ → List ℕ → Bool → Cursor → List JoinItem → List ℕ → List ℕ → List ℕ → List ℕ → Cursor → Type 0
PutsUpTo kept keys next numbers wanted from items lefts rights new_lefts new_rights cursor = AreItemsFrom kept keys next numbers wanted from items → PutsFrom kept keys next numbers wanted items lefts rights new_lefts new_rights cursor

-- a cursor that no item follows is at the end
abbrev pub EndsThere : List ℕ → ℕ → List ℕ → List ℕ → Bool → Cursor → List JoinItem → Type 0
EndsThere kept keys next numbers wanted cursor items = AreItemsFrom kept keys next numbers wanted cursor items → items ≡ [] → (cursor.link ≡ 0) × (length numbers ≤ cursor.at)

pub past-after : (first numbers : List ℕ) (wanted : Bool) (from to : ℕ) → (wanted ≡ true → to ≡ from) → (wanted ≡ false → FindNothing first numbers from to) → from ≤ to
past-after first numbers true from to same past = let e = same refl in omega (arith, e)
past-after first numbers false from to same past = (past refl).after

-- what is full stays full past the rows that find nothing
pub full-past : (stopped cursor : Cursor) (many len limit : ℕ) → cursor.link ≡ stopped.link → stopped.at ≤ cursor.at → ((stopped.link ≡ 0) × (len ≤ stopped.at)) ⊎ (many ≡ limit) → ((cursor.link ≡ 0) × (len ≤ cursor.at)) ⊎ (many ≡ limit)
full-past stopped cursor many len limit link after (inl (none, past)) = inl (link ∙ none, omega (arith, after, past))
full-past stopped cursor many len limit link after (inr full) = inr full
