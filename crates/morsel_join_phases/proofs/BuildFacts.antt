-- What is known of a kept side, where it is known that it is so: each of its parts has one proof at most.
use Rattle.std.proofs.Common.{◌≡◌, ◌⊎◌, inl, inr, ◌<◌, ◌+◌, ◌||◌, ◌++◌, if◌then◌else◌, ℕ, zero, suc, Bool, true, false, List, [], ◌∷◌, All, get_or, refl, sym, ◌∙◌, subst, arith, ⊎_elim}
use Rattle.std.proofs.Math.Logic.{∥∥₁_elim, ∥∥₁_map, ∥∥₁_prop}
use Rattle.std.specs.Prelude.{ℤ}
use Rattle.std.specs.Coded.{Coded, Coded-set, code_by, coded_ℕ, coded_ℤ, coded_bool, coded_list, coded×, coded_option, coded⊎}
use Rattle.std.proofs.Props.{props}
use Rattle.std.proofs.lemmas.List.Concat.{flat_map-append}
use Rattle.std.proofs.lemmas.List.Elements.{All-append}
use Rattle.morsel_meaning.specs.declared.value.ColType.{ColType}
use Rattle.morsel_meaning.specs.declared.value.ColType.TheVariants as kinds
use Rattle.morsel_meaning.specs.declared.value.Field.{Field}
use Rattle.morsel_meaning.specs.declared.value.Value.{Value}
use Rattle.morsel_meaning.specs.declared.value.Value.TheVariants as values
use Rattle.morsel_meaning.specs.Values.{Row, Table}
use Rattle.morsel_join.specs.declared.build_side.Build.{Build}
use Rattle.morsel_join.specs.declared.rules.JoinRules.{JoinRules}
use Rattle.morsel_join.specs.declared.rules.JoinColumn.{JoinColumn}
use Rattle.morsel_join.specs.declared.rules.JoinColumn.TheVariants as columns
use Rattle.morsel_join.specs.Builds.{IsNumber, no_null}
use Rattle.morsel_join.specs.BuildSides.{IsBuild, kept_side}
use Rattle.morsel_join.specs.Chains.{Chain}
use Rattle.morsel_join.specs.Hits.{HaveHit}
use Rattle.morsel_join.specs.Rows.{FitColumns, FitRules, FitsColumn}
use Rattle.morsel_join.specs.Sides.{FitSides, kept_keys}
use Rattle.morsel_frame.specs.Tables.{cells_at}
use Rattle.morsel_join_units.specs.LookedUps.{rows_looked_up}
use Rattle.morsel_join_units.specs.declared.looked_up.LookedUp.{LookedUp}

-- types and values as numbers and texts
abbrev number_of_kind : ColType → ℕ
number_of_kind kinds.Int = 0
number_of_kind kinds.Bool = 1
number_of_kind kinds.Text = 2

abbrev kind_of_number : ℕ → ColType
kind_of_number zero = kinds.Int
kind_of_number (suc zero) = kinds.Bool
kind_of_number (suc (suc n)) = kinds.Text

kind_again : (kind : ColType) → kind_of_number (number_of_kind kind) ≡ kind
kind_again kinds.Int = refl
kind_again kinds.Bool = refl
kind_again kinds.Text = refl

abbrev coded_kind : Coded ColType
coded_kind = code_by ℕ coded_ℕ number_of_kind kind_of_number kind_again

abbrev pub parts_of_value : Value → ℕ ⊎ (ℤ ⊎ (Bool ⊎ List ℕ))
parts_of_value values.Null = inl 0
parts_of_value (values.Int n) = inr (inl n)
parts_of_value (values.Bool b) = inr (inr (inl b))
parts_of_value (values.Text t) = inr (inr (inr t))

abbrev pub value_of_parts : ℕ ⊎ (ℤ ⊎ (Bool ⊎ List ℕ)) → Value
value_of_parts (inl n) = values.Null
value_of_parts (inr (inl n)) = values.Int n
value_of_parts (inr (inr (inl b))) = values.Bool b
value_of_parts (inr (inr (inr t))) = values.Text t

pub value_again : (value : Value) → value_of_parts (parts_of_value value) ≡ value
value_again values.Null = refl
value_again (values.Int n) = refl
value_again (values.Bool b) = refl
value_again (values.Text t) = refl

abbrev pub coded_value : Coded Value
coded_value = code_by (ℕ ⊎ (ℤ ⊎ (Bool ⊎ List ℕ))) (coded⊎ coded_ℕ (coded⊎ coded_ℤ (coded⊎ coded_bool (coded_list coded_ℕ)))) parts_of_value value_of_parts value_again

-- a column
fits_column : (left right : List Field) (c : JoinColumn) → ∥ FitsColumn left right c ∥₁ → FitsColumn left right c
fits_column left right (columns.Left at) h = ∥∥₁_elim h (search props) (λ x. x)
fits_column left right (columns.Right at) h = ∥∥₁_elim h (search props) (λ x. x)
fits_column left right (columns.Either l r) h = (∥∥₁_elim h (search props) (λ x. x.0), ∥∥₁_elim h (search props) (λ x. x.1), ∥∥₁_elim h (Coded-set coded_kind _ _) (λ x. x.2))

fit_columns : (left right : List Field) (cs : List JoinColumn) → ∥ FitColumns left right cs ∥₁ → FitColumns left right cs
fit_columns left right [] h = tt
fit_columns left right (c ∷ cs) h = (fits_column left right c (∥∥₁_map h (λ x. x.0)), fit_columns left right cs (∥∥₁_map h (λ x. x.1)))

-- rules of joins of such columns
fit_rules : (left right : List Field) (rules : JoinRules) → ∥ FitRules left right rules ∥₁ → FitRules left right rules
fit_rules left right rules h = record {
  keys = record {
    left_within = λ k d lt. ∥∥₁_elim h (search props) (λ x. x.keys.left_within k d lt);
    right_within = λ k d lt. ∥∥₁_elim h (search props) (λ x. x.keys.right_within k d lt);
    left_types = ∥∥₁_elim h (Coded-set (coded_list coded_kind) _ _) (λ x. x.keys.left_types);
    right_types = ∥∥₁_elim h (Coded-set (coded_list coded_kind) _ _) (λ x. x.keys.right_types);
  };
  some = ∥∥₁_elim h (search props) (λ x. x.some);
  columns = fit_columns left right rules.columns.items (∥∥₁_map h (λ x. x.columns));
  types = ∥∥₁_elim h (Coded-set (coded_list coded_kind) _ _) (λ x. x.types);
}

pub fit_sides : (is_left : Bool) (kept asked : List Field) (rules : JoinRules) → ∥ FitSides is_left kept asked rules ∥₁ → FitSides is_left kept asked rules
fit_sides true kept asked rules h = fit_rules kept asked rules h
fit_sides false kept asked rules h = fit_rules asked kept rules h

-- the number of a key
is_number : (nulls : Bool) (keys : List Row) (key : Row) (n : ℕ) (t : Bool) → (nulls || no_null key) ≡ t → ∥ IsNumber nulls keys key n ∥₁ → IsNumber nulls keys key n
is_number nulls keys key n true is h = inl (is, ∥∥₁_elim h (Coded-set (coded_option (coded_list coded_value)) _ _) (⊎_elim (λ x. x.1) (λ x. absurd (let no : true ≡ false = sym is ∙ x.0 in cc))))
is_number nulls keys key n false is h = inr (is, ∥∥₁_elim h (search props) (⊎_elim (λ x. absurd (let no : false ≡ true = sym is ∙ x.0 in cc)) (λ x. x.1)))

-- a link leads to a later row, or ends
rises : (from link : ℕ) → ∥ (link ≡ 0) ⊎ (from < link) ∥₁ → (link ≡ 0) ⊎ (from < link)
rises from zero h = inl refl
rises from (suc link) h = inr (∥∥₁_elim h (search props) (⊎_elim (λ x. absurd (omega (arith, x))) (λ x. x)))

-- a chain
chain : (next : List ℕ) (head : ℕ) (js : List ℕ) → ∥ Chain next head js ∥₁ → Chain next head js
chain next head [] h = ∥∥₁_elim h (search props) (λ x. x)
chain next head (j ∷ js) h = (∥∥₁_elim h (search props) (λ x. x.0), chain next (get_or next j 0) js (∥∥₁_map h (λ x. x.1)))

pub is_build : (build : Build) → ∥ IsBuild build ∥₁ → IsBuild build
is_build build h = record {
  side = ∥∥₁_elim h (search props) (λ x. x.side);
  fit = fit_sides build.is_left build.kept.schema build.asked build.rules (∥∥₁_map h (λ x. x.fit));
  short = ∥∥₁_elim h (search props) (λ x. x.short);
  keyed = record {
    kinds = ∥∥₁_elim h (Coded-set (coded_list coded_kind) _ _) (λ x. x.keyed.kinds);
    once = λ i j key at_i at_j. ∥∥₁_elim h (search props) (λ x. x.keyed.once i j key at_i at_j);
    few = ∥∥₁_elim h (search props) (λ x. x.keyed.few);
    len = ∥∥₁_elim h (search props) (λ x. x.keyed.len);
    each = λ j row is. is_number build.rules.join_nulls build.keyed.keys.keys (cells_at (kept_keys (kept_side build)) row) (get_or build.keyed.numbers.items j 0) (build.rules.join_nulls || no_null (cells_at (kept_keys (kept_side build)) row)) refl (∥∥₁_map h (λ x. x.keyed.each j row is));
    linked = record {
      chained = record {
        width = ∥∥₁_elim h (search props) (λ x. x.keyed.linked.chained.width);
        rises = λ j. (∥∥₁_elim h (search props) (λ x. (x.keyed.linked.chained.rises j).0), rises (j + 1) (get_or build.keyed.next.items j 0) (∥∥₁_map h (λ x. (x.keyed.linked.chained.rises j).1)));
        heads = λ k. (∥∥₁_elim h (search props) (λ x. (x.keyed.linked.chained.heads k).0), rises 0 (get_or build.keyed.first.items k 0) (∥∥₁_map h (λ x. (x.keyed.linked.chained.heads k).1)));
        chain = λ k within. chain build.keyed.next.items (get_or build.keyed.first.items k 0) _ (∥∥₁_map h (λ x. x.keyed.linked.chained.chain k within));
      };
      width = ∥∥₁_elim h (search props) (λ x. x.keyed.linked.width);
    };
  };
}

-- the marks are those of these rows
pub have_hit : (build : Build) (marks : List Bool) (asked : List Row) → ∥ HaveHit build marks asked ∥₁ → HaveHit build marks asked
have_hit build marks asked h = record {
  len = ∥∥₁_elim h (search props) (λ x. x.len);
  each = λ j kept is. ∥∥₁_elim h (search props) (λ x. x.each j kept is);
}

-- columns as numbers and texts
coded_field : Coded Field
coded_field = code_by (List ℕ × ColType) (coded× (coded_list coded_ℕ) coded_kind) (λ field. (field.name, field.kind)) (λ parts. record { name = parts.0; kind = parts.1 }) (λ _. refl)

-- tables of certain columns
pub of_columns : (columns : List Field) (tables : List Table) → ∥ All (λ (table : Table). table.schema ≡ columns) tables ∥₁ → All (λ (table : Table). table.schema ≡ columns) tables
of_columns columns tables h = λ k d lt. ∥∥₁_elim h (Coded-set (coded_list coded_field) _ _) (λ all. all k d lt)

-- two facts give a third one, and each of them is known to be so
pub both_known : {A B C : Type 0} → ∥ A ∥₁ → ∥ B ∥₁ → (A → B → C) → ∥ C ∥₁
both_known a b f = ∥∥₁_elim a ∥∥₁_prop (λ x. ∥∥₁_map b (λ y. f x y))

-- what is kept, and where there was memory what is put behind it
pub kept_behind : {X : Type 0} (P : X → Type 0) (ok : Bool) (xs ys zs : List X) → zs ≡ (if ok then xs ++ ys else xs) → ∥ All P xs ∥₁ → All P ys → ∥ All P zs ∥₁
kept_behind P true xs ys zs is h all = subst (λ us. ∥ All P us ∥₁) (sym is) (∥∥₁_map h (λ x. All-append P xs ys x all))
kept_behind P false xs ys zs is h all = subst (λ us. ∥ All P us ∥₁) (sym is) h

-- the marks of what was looked up, with more that was
pub marks_more : (build : Build) (marks now : List Bool) (looked others all : List LookedUp) → all ≡ looked ++ others → (HaveHit build marks (rows_looked_up looked) → HaveHit build now (rows_looked_up looked ++ rows_looked_up others))
    → ∥ HaveHit build marks (rows_looked_up looked) ∥₁ → ∥ HaveHit build now (rows_looked_up all) ∥₁
marks_more build marks now looked others all is join known =
    subst (λ (ls : List LookedUp). ∥ HaveHit build now (rows_looked_up ls) ∥₁) (sym is) (subst (λ (rows : List Row). ∥ HaveHit build now rows ∥₁) (sym (flat_map-append (λ (one : LookedUp). one.frame.value.rows) looked others)) (∥∥₁_map known join))

-- and with no more
pub marks_same : (build : Build) (marks : List Bool) (looked all : List LookedUp) → all ≡ looked → ∥ HaveHit build marks (rows_looked_up looked) ∥₁ → ∥ HaveHit build marks (rows_looked_up all) ∥₁
marks_same build marks looked all is known = subst (λ (ls : List LookedUp). ∥ HaveHit build marks (rows_looked_up ls) ∥₁) (sym is) known
