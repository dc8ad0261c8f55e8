-- What is made of rows in two parts.
use Rattle.std.proofs.Common.{◌≡◌, ℕ, suc, ◌+◌, ap, sym, refl, ◌∙◌, arith, append_assoc, append-nil}
use Rattle.std.specs.Prelude.{Bool, if◌then◌else◌, Option, Some, None, Result, Ok, Err, List, [], ◌∷◌, ◌++◌, length}
use Rattle.std.proofs.lemmas.List.Sums.{sum_by-cons}
use Rattle.morsel_meaning.specs.declared.fault.Fault.{Fault}
use Rattle.morsel_meaning.specs.Values.{Row}
use Rattle.morsel_grammar.specs.Cells.{CsvCell}
use Rattle.morsel_grammar.specs.Reading.{used_values}
use Rattle.morsel_scan.specs.Scans.{Scan}
use Rattle.morsel_scan.specs.ScanColumns.{used_columns}
use Rattle.morsel_scan.specs.ScanRows.{Placed, placed, gathered_then, gathered, followed_by, ended_by, scanned, row_of_values, SourceRows, scanned_source, scanned_sources, total_rows}
use Rattle.morsel_scan.specs.ScanLaws.{GathersParts, PlacesParts, joined_under, ScansParts, ScansSources, KeepAlike}

pub followed_by-nothing : {B E : Type 0} (later : Result (List B) E) → followed_by (Ok []) later ≡ later
followed_by-nothing (Ok answers) = refl
followed_by-nothing (Err fault) = refl

pub followed_by-end : {B E : Type 0} (first : Result (List B) E) → followed_by first (Ok []) ≡ first
followed_by-end (Ok answers) = ap Ok (append-nil answers)
followed_by-end (Err fault) = refl

pub followed_by-assoc : {B E : Type 0} (a b c : Result (List B) E) → followed_by (followed_by a b) c ≡ followed_by a (followed_by b c)
followed_by-assoc (Err fault) b c = refl
followed_by-assoc (Ok a) (Err fault) c = refl
followed_by-assoc (Ok a) (Ok b) (Err fault) = refl
followed_by-assoc (Ok a) (Ok b) (Ok c) = ap Ok (append_assoc a b c)

then-followed : {B E : Type 0} (a : Result (Option B) E) (b c : Result (List B) E) → gathered_then a (followed_by b c) ≡ followed_by (gathered_then a b) c
then-followed (Err fault) b c = refl
then-followed (Ok None) (Err fault) c = refl
then-followed (Ok None) (Ok b) (Err fault) = refl
then-followed (Ok None) (Ok b) (Ok c) = refl
then-followed (Ok (Some x)) (Err fault) c = refl
then-followed (Ok (Some x)) (Ok b) (Err fault) = refl
then-followed (Ok (Some x)) (Ok b) (Ok c) = refl

pub gathered-append : {A B E : Type 0} (f : A → Result (Option B) E) (xs ys : List A) → gathered f (xs ++ ys) ≡ followed_by (gathered f xs) (gathered f ys)
gathered-append f [] ys = sym (followed_by-nothing (gathered f ys))
gathered-append f (x ∷ xs) ys = ap (gathered_then (f x)) (gathered-append f xs ys) ∙ then-followed (f x) (gathered f xs) (gathered f ys)

pub gathers_parts : GathersParts
gathers_parts = λ scan keeps first later. gathered-append (scanned scan keeps) first later

pub placed-append : (position file : ℕ) (source : List ℕ) (first later : List (ℕ × List CsvCell))
    → placed position file source (first ++ later) ≡ placed position file source first ++ placed (position + length first) file source later
placed-append position file source [] later = let same : position ≡ position + 0 = omega arith in ap (λ p. placed p file source later) same
placed-append position file source (row ∷ first) later =
    let same : position + 1 + length first ≡ position + suc (length first) = omega arith in
    let one : Placed = record { position = position; file = file; source = source; at = row.0; cells = row.1 } in
    ap (λ rows. one ∷ rows) (placed-append (position + 1) file source first later ∙ ap (λ p. placed (position + 1) file source first ++ placed p file source later) same)

pub places_parts : PlacesParts
places_parts = λ position file source first later. placed-append position file source first later

ended-followed : {B E : Type 0} (fault : Option E) (a b : Result (List B) E) → ended_by fault (followed_by a b) ≡ followed_by a (ended_by fault b)
ended-followed None a b = refl
ended-followed (Some fault) (Err first) b = refl
ended-followed (Some fault) (Ok a) (Ok b) = refl
ended-followed (Some fault) (Ok a) (Err first) = refl

ended-ends : {B E : Type 0} (fault : E) (a b : Result (List B) E) → ended_by (Some fault) a ≡ followed_by (ended_by (Some fault) a) b
ended-ends fault (Ok a) b = refl
ended-ends fault (Err first) b = refl

scanned-joined : (scan : Scan) (keeps : ℕ → Bool) (position file : ℕ) (name : List ℕ) (rows : List (ℕ × List CsvCell)) (fault : Option Fault) (later : SourceRows) → later.file ≡ file → later.name ≡ name
    → (let first : SourceRows = record { file = file; name = name; rows = rows; fault = fault } in
    scanned_source scan keeps position (joined_under fault first later)
    ≡ followed_by (scanned_source scan keeps position first) (scanned_source scan keeps (position + length rows) later))
scanned-joined scan keeps position file name rows None later same_file same_name =
    let f : Placed → Result (Option Row) Fault = scanned scan keeps in
    ap (λ all. ended_by later.fault (gathered f all)) (placed-append position file name rows later.rows)
    ∙ ap (ended_by later.fault) (gathered-append f (placed position file name rows) (placed (position + length rows) file name later.rows))
    ∙ ended-followed later.fault (gathered f (placed position file name rows)) (gathered f (placed (position + length rows) file name later.rows))
    ∙ ap (λ (n : ℕ). followed_by (gathered f (placed position file name rows)) (ended_by later.fault (gathered f (placed (position + length rows) n name later.rows)))) (sym same_file)
    ∙ ap (λ (n : List ℕ). followed_by (gathered f (placed position file name rows)) (ended_by later.fault (gathered f (placed (position + length rows) later.file n later.rows)))) (sym same_name)
scanned-joined scan keeps position file name rows (Some fault) later same_file same_name =
    ended-ends fault (gathered (scanned scan keeps) (placed position file name rows)) (scanned_source scan keeps (position + length rows) later)

pub scans_parts : ScansParts
scans_parts = λ scan keeps position first later same_file same_name. scanned-joined scan keeps position first.file first.name first.rows first.fault later same_file same_name

pub scanned_sources-append : (scan : Scan) (keeps : ℕ → Bool) (position : ℕ) (first later : List SourceRows)
    → scanned_sources scan keeps position (first ++ later)
    ≡ followed_by (scanned_sources scan keeps position first) (scanned_sources scan keeps (position + total_rows first) later)
scanned_sources-append scan keeps position [] later =
    let same : position ≡ position + 0 = omega arith in
    ap (λ p. scanned_sources scan keeps p later) same ∙ sym (followed_by-nothing (scanned_sources scan keeps (position + 0) later))
scanned_sources-append scan keeps position (source ∷ first) later =
    let sum = sum_by-cons (λ (s : SourceRows). length s.rows) source first in
    let same : position + length source.rows + total_rows first ≡ position + total_rows (source ∷ first) = omega arith in
    let one : Result (List Row) Fault = scanned_source scan keeps position source in
    ap (followed_by one) (scanned_sources-append scan keeps (position + length source.rows) first later)
    ∙ ap (λ p. followed_by one (followed_by (scanned_sources scan keeps (position + length source.rows) first) (scanned_sources scan keeps p later))) same
    ∙ sym (followed_by-assoc one (scanned_sources scan keeps (position + length source.rows) first) (scanned_sources scan keeps (position + total_rows (source ∷ first)) later))

pub scans_sources : ScansSources
scans_sources = λ scan keeps position first later. scanned_sources-append scan keeps position first later

-- where the same positions are kept, the same is made of rows
pub gathered-alike : (scan : Scan) (a b : ℕ → Bool) (position file : ℕ) (name : List ℕ) (rows : List (ℕ × List CsvCell)) → KeepAlike a b position (length rows)
    → gathered (scanned scan a) (placed position file name rows) ≡ gathered (scanned scan b) (placed position file name rows)
gathered-alike scan a b position file name [] alike = refl
gathered-alike scan a b position file name (row ∷ rows) alike =
    let first : position + 0 ≡ position = omega arith in
    let here : a position ≡ b position = ap a (sym first) ∙ alike 0 (omega arith) ∙ ap b first in
    let one : Placed = record { position = position; file = file; source = name; at = row.0; cells = row.1 } in
    let made : Result (Option Row) Fault = row_of_values scan one (used_values (used_columns scan) row.1) in
    let later : KeepAlike a b (position + 1) (length rows) = λ n within.
    let same : position + (n + 1) ≡ position + 1 + n = omega arith in
    ap a (sym same) ∙ alike (n + 1) (omega arith) ∙ ap b same in
    ap (λ t. gathered_then (if t then made else Ok None) (gathered (scanned scan a) (placed (position + 1) file name rows))) here
    ∙ ap (gathered_then (scanned scan b one)) (gathered-alike scan a b (position + 1) file name rows later)
