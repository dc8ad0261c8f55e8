-- The lines of a file, where its bytes are told.
use Rattle.std.specs.Prelude.{◌≡◌, ℕ, ◌+◌, ◌==◌, Bool, Option, Some, None, List, [], take, get_or, slice_range}
use Rattle.std.specs.List.{count_by}

-- whether a byte is a line feed
abbrev pub is_feed : ℕ → Bool
is_feed byte = byte == 10

-- in so many bytes of the file from this place on there are so many line feeds
abbrev pub HasFeeds : Option (List (List ℕ)) → ℕ → ℕ → ℕ → ℕ → Type 0
HasFeeds None file at len feeds = Unit {0}
HasFeeds (Some files) file at len feeds = feeds ≡ count_by is_feed (slice_range (get_or files file []) at (at + len))

-- the line of this number, counted from 1, has the byte at this place of the file
abbrev pub IsLineOf : Option (List (List ℕ)) → ℕ → ℕ → ℕ → Type 0
IsLineOf None file at line = Unit {0}
IsLineOf (Some files) file at line = line ≡ 1 + count_by is_feed (take at (get_or files file []))
