-- Values after their beginnings are the lines of NDJSON.
use Rattle.std.proofs.Common.{◌≡◌, ℕ, zero, suc, ◌+◌, ◌<◌, ◌≤◌, Bool, if◌then◌else◌, false, Some, List, [], ◌∷◌, ◌++◌, length, get_or, slice_get, drop, map, refl, ap, sym, ◌∙◌, append_assoc, arith}
use Rattle.std.proofs.lemmas.List.{append-nil, drop_more, get_or-map, length-map}
use Rattle.std.proofs.lemmas.Option.{get_or_from_slice_get}
use Rattle.morsel_meaning.specs.declared.value.Value.{Value}
use Rattle.morsel_meaning.specs.declared.value.Value.TheVariants as values
use Rattle.morsel_meaning.specs.declared.value.Field.{Field}
use Rattle.morsel_meaning.specs.declared.value.ColType.{ColType}
use Rattle.morsel_meaning.specs.Values.{Row, names_of, kinds_of, FitsRow, FitsRows}
use Rattle.morsel_frame.specs.Columns.{value_at, masked}
use Rattle.morsel_frame.specs.Tables.{cell_at}
use Rattle.morsel_ndjson.specs.declared.members.Lent.{Lent}
use Rattle.morsel_ndjson.specs.Ndjson.{json_string, json_value, json_member, json_members, json_line, ndjson}
use Rattle.morsel_ndjson.specs.Members.{beginning, beginnings, begun, members_from, members_at, members_room, HaveRow, lent_values, line_end}

-- a beginning and its value are a member after its mark
pub member_begun : (mark : ℕ) (name : List ℕ) (v : Value) → beginning mark name ++ json_value v ≡ mark ∷ json_member name v
member_begun mark name v = ap (λ (s : List ℕ). mark ∷ s) (append_assoc (json_string name) (58 ∷ []) (json_value v))

-- values after their beginnings are members with a comma between neighbours
pub members_begun : (mark : ℕ) (name : List ℕ) (names : List (List ℕ)) (v : Value) (row : Row) → length row ≡ length names
    → begun (beginnings mark (name ∷ names)) (v ∷ row) ≡ mark ∷ json_members (name ∷ names) (v ∷ row)
members_begun mark name [] v [] same = append-nil (beginning mark name ++ json_value v) ∙ member_begun mark name v
members_begun mark name [] v (w ∷ row) same = absurd (omega (arith, same))
members_begun mark name (next ∷ names) v [] same = absurd (omega (arith, same))
members_begun mark name (next ∷ names) v (w ∷ row) same =
    ap (λ (s : List ℕ). s ++ begun (beginnings 44 (next ∷ names)) (w ∷ row)) (member_begun mark name v)
    ∙ ap (λ (s : List ℕ). (mark ∷ json_member name v) ++ s) (members_begun 44 next names w row (omega (arith, same)))

-- with the end after them, they are a line
pub line_begun : (names : List (List ℕ)) (row : Row) → length row ≡ length names
    → begun (beginnings 123 names) row ++ line_end (beginnings 123 names) ≡ json_line names row
line_begun [] [] same = refl
line_begun [] (v ∷ row) same = absurd (omega (arith, same))
line_begun (name ∷ names) [] same = absurd (omega (arith, same))
line_begun (name ∷ names) (v ∷ row) same =
    ap (λ (s : List ℕ). s ++ 125 ∷ 10 ∷ []) (members_begun 123 name names v row (omega (arith, same)))

-- there is a beginning for each name
pub length_beginnings : (mark : ℕ) (names : List (List ℕ)) → length (beginnings mark names) ≡ length names
length_beginnings mark [] = refl
length_beginnings mark (name ∷ names) = ap suc (length_beginnings 44 names)

-- a row that fits has a value for each type
pub length_fit : (kinds : List ColType) (row : Row) → FitsRow kinds row → length row ≡ length kinds
length_fit [] [] fits = refl
length_fit [] (v ∷ row) fits = absurd fits
length_fit (kind ∷ kinds) [] fits = absurd fits
length_fit (kind ∷ kinds) (v ∷ row) fits = ap suc (length_fit kinds row fits.1)

-- each of rows that fit is one that fits
pub fits_at : (kinds : List ColType) (rows : List Row) (i : ℕ) → FitsRows kinds rows → i < length rows → FitsRow kinds (get_or rows i [])
fits_at kinds [] i fits within = absurd (omega arith)
fits_at kinds (row ∷ rows) zero fits within = fits.0
fits_at kinds (row ∷ rows) (suc i) fits within = fits_at kinds rows i fits.1 (omega arith)

-- a row has a value for each name
pub length_row : (fields : List Field) (rows : List Row) (i : ℕ) → FitsRows (kinds_of fields) rows → i < length rows
    → length (get_or rows i []) ≡ length (names_of fields)
length_row fields rows i fits within =
    length_fit (kinds_of fields) (get_or rows i []) (fits_at (kinds_of fields) rows i fits within)
    ∙ (length-map fields (λ (f : Field). f.kind) ∙ sym (length-map fields (λ (f : Field). f.name)))

-- the next line
pub ndjson_more : (names : List (List ℕ)) (rows : List Row) (at : ℕ) → at < length rows
    → ndjson names (drop at rows) ≡ json_line names (get_or rows at []) ++ ndjson names (drop (at + 1) rows)
ndjson_more names rows at within = rw (drop_more rows at [] within) refl

-- the fields from a place on begin with the one at it
pub beginnings_more : (mark : ℕ) (fields : List Field) (at : ℕ) (field : Field) → at < length fields → slice_get fields at ≡ Some field
    → beginnings mark (names_of (drop at fields)) ≡ beginning mark field.name ∷ beginnings 44 (names_of (drop (at + 1) fields))
beginnings_more mark fields at field within here = rw (drop_more fields at field within, get_or_from_slice_get fields at field field here) refl

-- one item more
pub one_item : {A : Type 0} (done now : List A) (item : A) (rest whole left : List A) → now ≡ done ++ item ∷ [] → left ≡ item ∷ rest → done ++ left ≡ whole → now ++ rest ≡ whole
one_item {A} done now item rest whole left push next so_far =
    ap (λ (s : List A). s ++ rest) push ∙ (append_assoc done (item ∷ []) rest ∙ (ap (λ (s : List A). done ++ s) (sym next) ∙ so_far))

-- the next column
pub columns_more : (begins : List (List ℕ)) (rows : List Row) (at : ℕ) → at < length begins
    → members_from at (drop at begins) rows ≡ (get_or begins at [], map (cell_at at) rows) ∷ members_from (at + 1) (drop (at + 1) begins) rows
columns_more begins rows at within = rw (drop_more begins at [] within) refl

-- each column has as many values as there are rows
pub have_row : (at : ℕ) (begins : List (List ℕ)) (rows : List Row) (row : ℕ) → row < length rows → HaveRow row (members_from at begins rows)
have_row at [] rows row within = tt
have_row at (begin ∷ begins) rows row within = (omega (arith, length-map rows (cell_at at)), have_row (at + 1) begins rows row within)

pub have_row_at : (members : List (List ℕ × List Value)) (row at : ℕ) → at < length members → HaveRow row members → row < length (get_or members at ([], [])).1
have_row_at [] row at within have = absurd (omega arith)
have_row_at (m ∷ members) row zero within have = have.0
have_row_at (m ∷ members) row (suc at) within have = have_row_at members row at (omega arith) have.1

-- and so have those from a place on
pub have_row_from : (members : List (List ℕ × List Value)) (row at : ℕ) → HaveRow row members → HaveRow row (drop at members)
have_row_from members row zero have = have
have_row_from [] row (suc at) have = tt
have_row_from (m ∷ members) row (suc at) have = have_row_from members row at have.1

-- the next member of a row
pub members_more : (members : List (List ℕ × List Value)) (row at : ℕ) → at < length members
    → members_at row (drop at members) ≡ ((get_or members at ([], [])).0 ++ json_value (value_at (get_or members at ([], [])).1 row)) ++ members_at row (drop (at + 1) members)
members_more members row at within = rw (drop_more members at ([], []) within) refl

-- the room that it takes
pub room_more : (members : List (List ℕ × List Value)) (at : ℕ) → at < length members
    → members_room (drop at members) ≡ length (get_or members at ([], [])).0 + 114 + members_room (drop (at + 1) members)
room_more members at within = rw (drop_more members at ([], []) within) refl

pub room_least : (members : List (List ℕ × List Value)) → 3 ≤ members_room members
room_least [] = omega arith
room_least (m ∷ members) = omega (arith, room_least members)

pub room_within : (members : List (List ℕ × List Value)) (at : ℕ) → members_room (drop at members) ≤ members_room members
room_within members zero = omega arith
room_within [] (suc at) = omega arith
room_within (m ∷ members) (suc at) = omega (arith, room_within members at)

-- the members of a row are its values after their beginnings
members_begin : (at : ℕ) (begins : List (List ℕ)) (rows : List Row) (row : ℕ) → row < length rows → at + length begins ≤ length (get_or rows row [])
    → members_at row (members_from at begins rows) ≡ begun begins (drop at (get_or rows row []))
members_begin at [] rows row within wide = refl
members_begin at (begin ∷ begins) rows row within wide =
    let cells : Row = get_or rows row [] in
    let here : at < length cells = omega arith in
    ap (λ (v : Value). (begin ++ json_value v) ++ members_at row (members_from (at + 1) begins rows)) (get_or-map (cell_at at) rows row [] values.Null within)
    ∙ (ap (λ (s : List ℕ). (begin ++ json_value (get_or cells at values.Null)) ++ s) (members_begin (at + 1) begins rows row within (omega arith))
    ∙ ap (λ (vs : Row). begun (begin ∷ begins) vs) (sym (drop_more cells at values.Null here)))

end_of_members : (at : ℕ) (begins : List (List ℕ)) (rows : List Row) → line_end (members_from at begins rows) ≡ line_end begins
end_of_members at [] rows = refl
end_of_members at (begin ∷ begins) rows = refl

-- with the end after them, they are its line
pub members_line : (names : List (List ℕ)) (rows : List Row) (row : ℕ) → row < length rows → length (get_or rows row []) ≡ length names
    → members_at row (members_from 0 (beginnings 123 names) rows) ++ line_end (members_from 0 (beginnings 123 names) rows) ≡ json_line names (get_or rows row [])
members_line names rows row within same =
    let begins : List (List ℕ) = beginnings 123 names in
    let wide : 0 + length begins ≤ length (get_or rows row []) = omega (arith, length_beginnings 123 names) in
    ap (λ (s : List ℕ). s ++ line_end (members_from 0 begins rows)) (members_begin 0 begins rows row within wide)
    ∙ (ap (λ (s : List ℕ). begun begins (get_or rows row []) ++ s) (end_of_members 0 begins rows) ∙ line_begun names (get_or rows row []) same)

-- a value under its mark
masked_at : (valid : List Bool) (vs : List Value) (row : ℕ) → row < length valid → length valid ≡ length vs
    → value_at (masked valid vs) row ≡ (if get_or valid row false then value_at vs row else values.Null)
masked_at [] vs row within same = absurd (omega arith)
masked_at (b ∷ valid) [] row within same = absurd (omega arith)
masked_at (b ∷ valid) (v ∷ vs) zero within same = refl
masked_at (b ∷ valid) (v ∷ vs) (suc row) within same = masked_at valid vs row (omega arith) (omega arith)

pub length_masked : (valid : List Bool) (vs : List Value) → length valid ≡ length vs → length (masked valid vs) ≡ length vs
length_masked [] [] same = refl
length_masked [] (v ∷ vs) same = absurd (omega arith)
length_masked (b ∷ valid) [] same = absurd (omega arith)
length_masked (b ∷ valid) (v ∷ vs) same = ap suc (length_masked valid vs (omega arith))

-- a value that is lent
pub value_lent : {X : Type 0} (make : X → Value) (valid : List Bool) (items : List X) (row : ℕ) (d : X) → row < length items → length valid ≡ length (map make items)
    → value_at (masked valid (map make items)) row ≡ (if get_or valid row false then make (get_or items row d) else values.Null)
value_lent make valid items row d within same =
    masked_at valid (map make items) row (omega (arith, length-map items make)) same
    ∙ ap (λ (v : Value). if get_or valid row false then v else values.Null) (get_or-map make items row d values.Null within)

-- there is a mark for each value
pub lent_within : (self : List ℕ × List Value) (begin : List ℕ) (valid : List Bool) (lent : Lent) (row : ℕ) → (let seen : List ℕ × List Value = (begin, masked valid (lent_values lent)) in seen ≡ self)
    → length valid ≡ length (lent_values lent) → row < length self.1 → row < length valid
lent_within self begin valid lent row is same within =
    let count : length (masked valid (lent_values lent)) ≡ length self.1 = ap (λ (m : List ℕ × List Value). length m.1) is in
    omega (arith, count, length_masked valid (lent_values lent) same, within)

-- the member of a row
pub member_lent : (self : List ℕ × List Value) (begin : List ℕ) (valid : List Bool) (lent : Lent) (vs : List Value) (row : ℕ) (cell : Value)
    → (let seen : List ℕ × List Value = (begin, masked valid (lent_values lent)) in seen ≡ self) → lent_values lent ≡ vs → cell ≡ value_at (masked valid vs) row
    → begin ++ json_value cell ≡ self.0 ++ json_value (value_at self.1 row)
member_lent self begin valid lent vs row cell is lends value =
    ap (λ (v : Value). begin ++ json_value v) (value ∙ ap (λ (ws : List Value). value_at (masked valid ws) row) (sym lends))
    ∙ ap (λ (m : List ℕ × List Value). m.0 ++ json_value (value_at m.1 row)) is

-- the member begins as its beginning does
pub begin_lent : (self : List ℕ × List Value) (begin : List ℕ) (valid : List Bool) (lent : Lent) → (let seen : List ℕ × List Value = (begin, masked valid (lent_values lent)) in seen ≡ self)
    → begin ≡ self.0
begin_lent self begin valid lent is = ap (λ (m : List ℕ × List Value). m.0) is
