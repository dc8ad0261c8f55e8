-- What a run of a query asks of the outside: the names of its sources and of its sink, and bytes of the sources.
use Rattle.std.specs.Prelude.{◌≡◌, ℕ, zero, suc, ◌+◌, ◌-◌, ◌≤◌, nat_le, nat_lt, Bool, ◌&&◌, ◌||◌, if◌then◌else◌, Option, Some, None, List, [], ◌∷◌, ◌++◌, map, length, take, drop, get_or}
use Rattle.std.specs.List.{sum_by}
use Rattle.morsel_outside.specs.declared.events.Asked.{Asked}
use Rattle.morsel_outside.specs.declared.events.Asked.TheVariants.{Open, Make}
use Rattle.morsel_outside.specs.declared.events.IoEvent.{IoEvent}
use Rattle.morsel_outside.specs.declared.events.IoEvent.TheVariants.{ReadAt, Wrote}
use Rattle.morsel_outside.specs.declared.io.FileNo.{FileNo}
use Rattle.morsel_outside.specs.Actions.{Action, Opening}
use Rattle.morsel_outside.specs.Asks.{times_asked}
use Rattle.morsel_query.specs.Queries.{FileScan, JoinPart, QueryParts}
use Rattle.morsel_query.specs.QueryFlaws.{sources_of}

-- files of these names are opened, as many as there are bytes of files
abbrev pub openings : List (List ℕ) → List (List ℕ) → List Action
openings names [] = []
openings [] (bytes ∷ files) = []
openings (name ∷ names) (bytes ∷ files) = Opening name bytes ∷ openings names files

-- so many numbers of files, one after the other
abbrev pub file_numbers : ℕ → ℕ → List FileNo
file_numbers number zero = []
file_numbers number (suc n) = record { 0 = number } ∷ file_numbers (number + 1) n

-- the names that a run asks for, in order: those of the sources, and then that of the sink
abbrev pub names_asked : QueryParts → List Asked
names_asked query = map Open (sources_of query) ++ Make query.sink.name ∷ []

-- whether a byte of a file is one of the sources', whose numbers go on from the first, and before a place of all their bytes, one after the other
abbrev pub is_before : ℕ → List ℕ → ℕ → ℕ → ℕ → Bool
is_before number sizes to file byte = nat_le number file
    && (nat_lt byte (get_or sizes (file - number) 0) && nat_lt (sum_by (λ n. n) (take (file - number) sizes) + byte) to)

-- each byte of the sources before a place is asked once; no other byte is asked, of them or of another file
abbrev pub AsksUpTo : ℕ → List ℕ → ℕ → List IoEvent → Type 0
AsksUpTo number sizes to events = (file byte : ℕ) → times_asked file byte events ≡ (if is_before number sizes to file byte then 1 else 0)

-- how many bytes of the sources of each scan of a query were asked
pub record SidesAsked : Type 0 where
  pub left : ℕ
  pub right : ℕ  -- of the right side of a join, where there is one

-- each byte of the sources of two scans before a place of each is asked once; no other byte is asked, of them or of another file
abbrev pub AsksBothUpTo : ℕ → ℕ → List ℕ → SidesAsked → List IoEvent → Type 0
AsksBothUpTo lefts number sizes to events = (file byte : ℕ)
    → times_asked file byte events ≡ (if is_before number (take lefts sizes) to.left file byte || is_before (number + lefts) (drop lefts sizes) to.right file byte then 1 else 0)

-- each byte of the sources of a query with this left side and this join is asked once, before a place of each of its scans, and no other byte
abbrev pub AsksSides : FileScan → Option JoinPart → ℕ → List ℕ → SidesAsked → List IoEvent → Type 0
AsksSides left None number sizes to events = AsksUpTo number sizes to.left events
AsksSides left (Some join) number sizes to events = AsksBothUpTo (length left.sources) number sizes to events

-- a read asks so many bytes at most
abbrev pub IsShort : ℕ → IoEvent → Type 0
IsShort chunk (ReadAt file at len) = len ≤ chunk
IsShort chunk (Wrote len) = Unit {0}
