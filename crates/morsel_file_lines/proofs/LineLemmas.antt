-- How the number of a line goes on.
use Rattle.std.proofs.Common.{◌≡◌, ℕ, ◌+◌, ◌-◌, Option, Some, None, List, [], length, get_or, take, drop, sym, ap, arith}
use Rattle.std.specs.Prelude.{slice_range, cond}
use Rattle.std.specs.List.{count_by}
use Rattle.std.proofs.Math.Seq.{take-add}
use Rattle.std.proofs.lemmas.List.Sums.{sum_by-append}
use Rattle.morsel_outside.specs.Calls.{Holds}
use Rattle.morsel_file_lines.specs.Lines.{is_feed, HasFeeds, IsLineOf}

-- the feeds of what is held are those of the file
pub feeds_of_held : (held : Option (List (List ℕ))) (file at : ℕ) (bytes : List ℕ) → Holds held file at bytes → HasFeeds held file at (length bytes) (count_by is_feed bytes)
feeds_of_held None file at bytes holds = tt
feeds_of_held (Some files) file at bytes holds = ap (count_by is_feed) (sym holds)

-- the feeds before a place, and then those up to a later one, are those before that
feeds_between : (bytes : List ℕ) (at len : ℕ) → count_by is_feed (take (at + len) bytes) ≡ count_by is_feed (take at bytes) + count_by is_feed (slice_range bytes at (at + len))
feeds_between bytes at len =
    let same : (at + len) - at ≡ len = omega arith in
    rw (take-add at len bytes) (rw same (sum_by-append (λ (byte : ℕ). cond (is_feed byte) 1 0) (take at bytes) (take len (drop at bytes))))

-- the line of a later byte has the feeds between them more
pub line_more : (held : Option (List (List ℕ))) (file at len line feeds : ℕ) → IsLineOf held file at line → HasFeeds held file at len feeds → IsLineOf held file (at + len) (line + feeds)
line_more None file at len line feeds is_line has_feeds = tt
line_more (Some files) file at len line feeds is_line has_feeds = omega (arith, feeds_between (get_or files file []) at len)

-- the same where the feeds are told of an outside that holds the same, and of a part of the same length
pub line_more_of_part : (held seen : Option (List (List ℕ))) (file at len read line feeds : ℕ) → seen ≡ held → read ≡ len → IsLineOf held file at line → HasFeeds seen file at read feeds → IsLineOf held file (at + len) (line + feeds)
line_more_of_part held seen file at len read line feeds same_held same_len is_line has_feeds = line_more held file at len line feeds is_line (rw (same_held, same_len) at has_feeds)
