use Rattle.std.proofs.Common.{◌≡◌, ◌<◌, ◌∙◌, ◌++◌, List, map, subst, sym, ap}
use Rattle.std.specs.Prelude.{ℕ, Option}
use Rattle.morsel_meaning.specs.declared.value.Field.{Field}
use Rattle.morsel_meaning.specs.Values.{kinds_of, names_of}
use Rattle.morsel_join.specs.declared.rules.JoinColumn.{JoinColumn}
use Rattle.morsel_join.specs.Payloads.{left_names, right_names, merged_keys, key_places}
use Rattle.morsel_join.specs.Rows.{FitColumns, column_kind, left_columns, right_columns, join_columns}
use Rattle.morsel_join.proofs.rules.JoinRules.new.Goals as goal
use Rattle.morsel_join.proofs.RuleLemmas.{columns-fit, columns-typed}

pub returns-clause-columns : goal.returns-clause-columns
returns-clause-columns c =
    let payload = c.in_ok-chosen.chosen.payload in
    let ln = left_names c.args.args.now c.args.left_keys.now c.args.left.now in
    let mk = merged_keys c.args.args.now (key_places c.args.left.now c.args.left_keys.now) (key_places c.args.right.now c.args.right_keys.now) in
    c.in_ok-columns.ensures.ok
    ∙ ap (λ (m : List (ℕ × ℕ)). left_columns m 0 payload.left.items ++ right_columns 0 payload.right.items) c.in_ok-chosen.ensures.merged
    ∙ ap (λ (names : List (Option (List ℕ))). left_columns mk 0 names ++ right_columns 0 payload.right.items) c.in_ok-chosen.ensures.left
    ∙ ap (λ (names : List (Option (List ℕ))). left_columns mk 0 ln ++ right_columns 0 names) c.in_ok-chosen.ensures.right

pub returns-clause-fit : goal.returns-clause-fit
returns-clause-fit c =
    let args = c.args.args.now in
    let left = c.args.left.now in
    let right = c.args.right.now in
    let lks = c.args.left_keys.now in
    let rks = c.args.right_keys.now in
    let lefts = c.in_ok-chosen.chosen.keys.left.items in
    let rights = c.in_ok-chosen.chosen.keys.right.items in
    let cs : c.in_ok-columns.columns.items ≡ join_columns args left right lks rks = returns-clause-columns c in
    let same : merged_keys args (key_places left lks) (key_places right rks) ≡ merged_keys args lefts rights =
    ap (λ (ls : List ℕ). merged_keys args ls (key_places right rks)) (sym c.in_ok-chosen.ensures.left_keys) ∙ ap (λ (rs : List ℕ). merged_keys args lefts rs) (sym c.in_ok-chosen.ensures.right_keys) in
    let all : c.in_ok-columns.columns.items ≡ left_columns (merged_keys args lefts rights) 0 (left_names args lks left) ++ right_columns 0 (right_names args rks (names_of left) right) =
    cs ∙ ap (λ (m : List (ℕ × ℕ)). left_columns m 0 (left_names args lks left) ++ right_columns 0 (right_names args rks (names_of left) right)) same in
    record {
      keys = c.in_ok-chosen.ensures.keys;
      some = subst (λ (n : ℕ). 0 < n) (sym c.in_ok-chosen.ensures.len) c.requires.some;
      columns = subst (λ (ds : List JoinColumn). FitColumns left right ds) (sym all) (columns-fit args left right lks rks lefts rights c.in_ok-chosen.chosen.keys.kinds.items c.in_ok-chosen.ensures.keys);
      types = ap (λ (fs : List Field). kinds_of fs) c.in_ok-chosen.ensures.output ∙ columns-typed args left right lks rks (merged_keys args lefts rights) ∙ ap (λ (ds : List JoinColumn). map (column_kind left right) ds) (sym all);
    }
