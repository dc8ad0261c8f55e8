use Rattle.std.proofs.Common.{refl}
use Rattle.morsel_text.proofs.marked_texts.put_text.Goals as goal

pub push_whole-requires-in-Doubled : goal.push_whole-requires-in-Doubled
push_whole-requires-in-Doubled c = rw (c.as_slice.ensures.value, c.in_ok-unquote-in-Doubled.ensures) (rw c.in-Doubled.is at c.requires)

pub returns-in_ok-push_whole-in-Doubled : goal.returns-in_ok-push_whole-in-Doubled
returns-in_ok-push_whole-in-Doubled c = (
  c.as_slice.result.now,
  c.in_ok-push_whole-in-Doubled.ensures,
  rw c.in-Doubled.is (rw (c.as_slice.ensures.value, c.in_ok-unquote-in-Doubled.ensures) refl),
)
