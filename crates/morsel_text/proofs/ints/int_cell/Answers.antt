use Rattle.morsel_text.proofs.ints.int_cell.Goals as goal

pub from_utf8_unchecked-requires-in-Doubled : goal.from_utf8_unchecked-requires-in-Doubled
from_utf8_unchecked-requires-in-Doubled c =
    rw (c.as_slice.ensures.value, c.in_ok-unquote-in-Doubled.ensures) (rw c.in-Doubled.is at c.requires)

pub returns-in_ok-unquote-in-Doubled : goal.returns-in_ok-unquote-in-Doubled
returns-in_ok-unquote-in-Doubled c =
    rw c.in-Doubled.is (rw (c.from_utf8_unchecked-in-Doubled.ensures, c.as_slice.ensures.value, c.in_ok-unquote-in-Doubled.ensures) at c.number_cell-in-Doubled.ensures)
