-- Tables of rows with one more.
use Rattle.std.proofs.Common.{◌≡◌, ◌++◌, [], ◌∷◌, List, ℕ, sym, subst}
use Rattle.morsel_meaning.specs.declared.value.ColType.{ColType}
use Rattle.morsel_meaning.specs.Values.{Row, FitsRow, FitsRows}
use Rattle.morsel_keys.specs.Slots.{IsIndexed, IsNewKey, HasKeysEachOnce}
use Rattle.morsel_keys.specs.Keyed.{row_home, AreRowKeys}
use Rattle.morsel_keys.proofs.SlotLemmas.{once_push}
use Rattle.morsel_keys.proofs.FitLemmas.{fits_last}

pub rows_more : (seed mask : ℕ) (kinds : List ColType) (slots next : List ℕ) (keys more : List Row) (key : Row) → AreRowKeys seed mask kinds slots keys → IsIndexed (row_home seed mask) mask next more → more ≡ keys ++ key ∷ [] → IsNewKey key keys → FitsRow kinds key → AreRowKeys seed mask kinds next more
rows_more seed mask kinds slots next keys more key are indexed last new fits = record {
  indexed = indexed;
  once = subst HasKeysEachOnce (sym last) (once_push keys key are.once new);
  fit = subst (FitsRows kinds) (sym last) (fits_last kinds keys key are.fit fits);
}

pub rows_same : (seed mask : ℕ) (kinds : List ColType) (slots next : List ℕ) (keys more : List Row) → AreRowKeys seed mask kinds slots keys → IsIndexed (row_home seed mask) mask next more → more ≡ keys → AreRowKeys seed mask kinds next more
rows_same seed mask kinds slots next keys more are indexed same = record {
  indexed = indexed;
  once = subst HasKeysEachOnce (sym same) are.once;
  fit = subst (FitsRows kinds) (sym same) are.fit;
}
