-- What came out of a pipe, beside what went in.
use Rattle.std.specs.Prelude.{List, All, map}
use Rattle.morsel_meaning.specs.Sequences.{NeverFalls}
use Rattle.morsel_load.specs.Loads.{LoadSeen, seen_seq}

-- the numbers of these loads never fall
abbrev pub SeqsNeverFall : List LoadSeen → Type 0
SeqsNeverFall loads = NeverFalls (map seen_seq loads)

-- so it is in each of these lists
abbrev pub SeqsNeverFallEach : List (List LoadSeen) → Type 0
SeqsNeverFallEach lists = All SeqsNeverFall lists
