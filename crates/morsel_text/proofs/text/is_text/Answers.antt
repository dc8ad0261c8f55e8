use Rattle.std.proofs.Common.{◌≡◌, ◌↔◌, ℕ, Bool, true, false, sym, refl, List}
use Rattle.std.proofs.lemmas.Str.{is_utf8-from_IsUtf8, IsUtf8-from_is_utf8}
use Rattle.std.specs.Prelude.{IsTrue, IsUtf8}
use Rattle.std.specs.Str.{is_utf8}
use Rattle.morsel_text.proofs.SplitLemmas.{not_true}
use Rattle.morsel_text.proofs.text.is_text.Goals as goal

told : (bytes : List ℕ) (answer : Bool) → IsTrue answer ↔ IsUtf8 bytes → answer ≡ is_utf8 bytes
told bytes true tells = sym (is_utf8-from_IsUtf8 bytes (tells.0 refl))
told bytes false tells = sym (not_true (is_utf8 bytes) (λ is. absurd (let yes : IsTrue false = tells.1 (IsUtf8-from_is_utf8 bytes is) in cc)))

pub returns : goal.returns
returns c = told c.args.bytes.now c.is_utf8.result c.is_utf8.ensures
