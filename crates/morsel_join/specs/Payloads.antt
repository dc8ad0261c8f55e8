-- The columns of a join's rows, by name: the left ones, and then the right ones.
use Rattle.std.specs.Prelude.{ℕ, ◌≡◌, ◌<◌, ◌++◌, ◌&&◌, length, Bool, true, false, not, if◌then◌else◌, Option, Some, None, List, [], ◌∷◌, map}
use Rattle.std.specs.List.{position, All}
use Rattle.std.specs.Option.{unwrap_or}
use Rattle.std.specs.Str.{bytes_eq}
use Rattle.morsel_meaning.specs.declared.value.ColType.{ColType}
use Rattle.morsel_meaning.specs.declared.value.Field.{Field}
use Rattle.morsel_meaning.specs.declared.fault.Fault.{Fault}
use Rattle.morsel_meaning.specs.declared.fault.Fault.TheVariants.{ColumnNotFound, SchemaMismatch}
use Rattle.morsel_meaning.specs.Values.{names_of, kinds_of}
use Rattle.morsel_frame.specs.Names.{stands_in}
use Rattle.morsel_frame.specs.Refusals.{fault_of_repeat, repeat_fault, first_fault}
use Rattle.morsel_frame.specs.Tables.{same_kind, fields_at}
use Rattle.morsel_join.specs.declared.join_type.JoinType.{JoinType}
use Rattle.morsel_join.specs.declared.join_type.JoinType.TheVariants as kinds
use Rattle.morsel_join.specs.declared.payload.JoinArgs.{JoinArgs}

-- whether the keys of coalesced rows are those of the right side
abbrev pub keeps_right_keys : JoinType → Bool
keeps_right_keys kinds.Inner = false
keeps_right_keys kinds.Left = false
keeps_right_keys kinds.Right = true
keeps_right_keys kinds.Full = false

-- whether the keys of coalesced rows are of either side
abbrev pub merges_keys : JoinType → Bool
merges_keys kinds.Inner = false
merges_keys kinds.Left = false
merges_keys kinds.Right = false
merges_keys kinds.Full = true

-- the name of a left column; none where it is left out
abbrev pub left_name : JoinArgs → List (List ℕ) → List ℕ → Option (List ℕ)
left_name args keys name = if args.coalesce && (keeps_right_keys args.how && stands_in name keys) then None else Some name

-- a right name, with the suffix where it is the name of a left column
abbrev pub suffixed : List ℕ → List (List ℕ) → List ℕ → List ℕ
suffixed suffix lefts name = if stands_in name lefts then name ++ suffix else name

-- the name of a right column; none where it is left out
abbrev pub right_name : JoinArgs → List (List ℕ) → List (List ℕ) → List ℕ → Option (List ℕ)
right_name args keys lefts name = if args.coalesce && stands_in name keys then (if keeps_right_keys args.how then Some name else None) else Some (suffixed args.suffix lefts name)

-- the names of the left columns
abbrev pub left_names : JoinArgs → List (List ℕ) → List Field → List (Option (List ℕ))
left_names args keys fields = map (λ f. left_name args keys f.name) fields

-- the names of the right columns
abbrev pub right_names : JoinArgs → List (List ℕ) → List (List ℕ) → List Field → List (Option (List ℕ))
right_names args keys lefts fields = map (λ f. right_name args keys lefts f.name) fields

-- whether a right column's name, with its suffix, is the name of a left column
abbrev pub is_clash : JoinArgs → List (List ℕ) → List (List ℕ) → List ℕ → Bool
is_clash args keys lefts name = not (args.coalesce && stands_in name keys) && stands_in (suffixed args.suffix lefts name) lefts

-- the first right column's name that is so
abbrev pub first_clash : JoinArgs → List (List ℕ) → List (List ℕ) → List Field → Option (List ℕ)
first_clash args keys lefts [] = None
first_clash args keys lefts (f ∷ fields) = if is_clash args keys lefts f.name then Some (suffixed args.suffix lefts f.name) else first_clash args keys lefts fields

-- the columns that have names, by these
abbrev pub named_fields : List (Option (List ℕ)) → List Field → List Field
named_fields [] fields = []
named_fields (name ∷ names) [] = []
named_fields (None ∷ names) (f ∷ fields) = named_fields names fields
named_fields (Some name ∷ names) (f ∷ fields) = record { name = name; kind = f.kind } ∷ named_fields names fields

-- the columns of a join's rows
abbrev pub join_fields : JoinArgs → List Field → List Field → List (List ℕ) → List (List ℕ) → List Field
join_fields args left right left_keys right_keys = named_fields (left_names args left_keys left) left ++ named_fields (right_names args right_keys (names_of left) right) right

-- the place of a column of this name
abbrev pub key_place : List Field → List ℕ → Option ℕ
key_place fields name = position (λ f. bytes_eq f.name name) fields

-- the places of keys, all of which are columns
abbrev pub key_places : List Field → List (List ℕ) → List ℕ
key_places fields keys = map (λ name. unwrap_or (key_place fields name) 0) keys

-- no fault where the key is there, and what follows then
abbrev pub absence_before : List ℕ → Option ℕ → Option Fault → Option Fault
absence_before name None later = Some (ColumnNotFound name)
absence_before name (Some at) later = later

-- the fault of the first key that is no column
abbrev pub join_key_absence : List Field → List (List ℕ) → Option Fault
join_key_absence fields [] = None
join_key_absence fields (name ∷ names) = absence_before name (key_place fields name) (join_key_absence fields names)

-- the fault of the first pair of keys whose types differ, which names the left one
abbrev pub type_fault : List (List ℕ) → List ColType → List ColType → Option Fault
type_fault [] ks ls = None
type_fault (name ∷ names) [] ls = None
type_fault (name ∷ names) (k ∷ ks) [] = None
type_fault (name ∷ names) (k ∷ ks) (l ∷ ls) = if same_kind k l then type_fault names ks ls else Some (SchemaMismatch name)

-- the types of keys
abbrev pub key_kinds : List Field → List (List ℕ) → List ColType
key_kinds fields keys = kinds_of (fields_at fields (key_places fields keys))

-- why there is no such join: two columns have one name, then a key is no column, the left ones first, then the types of a pair of keys differ
abbrev pub join_flaw : JoinArgs → List Field → List Field → List (List ℕ) → List (List ℕ) → Option Fault
join_flaw args left right left_keys right_keys =
    first_fault (fault_of_repeat (first_clash args right_keys (names_of left) right))
    (first_fault (repeat_fault (join_fields args left right left_keys right_keys))
    (first_fault (join_key_absence left left_keys)
    (first_fault (join_key_absence right right_keys)
    (type_fault left_keys (key_kinds left left_keys) (key_kinds right right_keys)))))

-- places side by side
abbrev pub pairs_of_places : List ℕ → List ℕ → List (ℕ × ℕ)
pairs_of_places [] rights = []
pairs_of_places (l ∷ lefts) [] = []
pairs_of_places (l ∷ lefts) (r ∷ rights) = (l, r) ∷ pairs_of_places lefts rights

-- the pairs of keys of which a coalesced row has the first that is no null
abbrev pub merged_keys : JoinArgs → List ℕ → List ℕ → List (ℕ × ℕ)
merged_keys args lefts rights = if args.coalesce && merges_keys args.how then pairs_of_places lefts rights else []

-- columns of keys: they are columns of their sides, of the same types
pub record FitKeys (left right : List Field) (lefts rights : List ℕ) (types : List ColType) : Type 0 where
  pub left_within : All (λ at. at < length left) lefts
  pub right_within : All (λ at. at < length right) rights
  pub left_types : kinds_of (fields_at left lefts) ≡ types
  pub right_types : kinds_of (fields_at right rights) ≡ types
