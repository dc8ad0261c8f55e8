-- What a text that comes in chunks is cut into, as lists.
use Rattle.std.proofs.Common.{◌≡◌, ◌≢◌, ℕ, zero, suc, ◌+◌, ◌≤◌, ap, sym, subst, refl, ◌∙◌, arith, append_assoc}
use Rattle.std.proofs.lemmas.List.{append-nil, take-append-drop, take-append-le, take-take, drop-drop, drop_at, drop-append-le}
use Rattle.std.specs.Prelude.{List, [], ◌∷◌, ◌++◌, length, take, drop}
use Rattle.std.specs.List.{concat}
use Rattle.morsel_grammar.specs.Dialect.{Dialect}
use Rattle.morsel_grammar.specs.Machine.{AtOpening, CutState, joined_place, is_after_eol, first_state, cut_step, cut_after, last_end}
use Rattle.morsel_grammar.proofs.StateLemmas.{last_place-within}
use Rattle.morsel_grammar.proofs.RunLemmas.{last_end-append}
use Rattle.morsel_cut.specs.Pieces.{last_cut, piece_first, chunk_piece, pieces_after, cut_pieces, cut_rest, JoinsCutTexts, CutsByChunk}

-- the cuts
pub last_cut-within : (o : Dialect) (text : List ℕ) → last_cut o text ≤ length text
last_cut-within o text = last_place-within (cut_step o) (λ (s : CutState). is_after_eol s.place) (first_state o AtOpening) text

-- how many bytes of a chunk there are up to its last end, after what came before
abbrev pub chunk_end : Dialect → List ℕ → List ℕ → ℕ
chunk_end o came chunk = last_end o (cut_after o (first_state o AtOpening) came) chunk

pub last_cut-append : (o : Dialect) (came chunk : List ℕ) → last_cut o (came ++ chunk) ≡ joined_place (last_cut o came) (length came) (chunk_end o came chunk)
last_cut-append o came chunk = last_end-append o (first_state o AtOpening) came chunk

place_grows : (before n later : ℕ) → before ≤ n → before ≤ joined_place before n later
place_grows before n zero within = omega arith
place_grows before n (suc later) within = omega arith

pub last_cut-grows : (o : Dialect) (came chunk : List ℕ) → last_cut o came ≤ last_cut o (came ++ chunk)
last_cut-grows o came chunk =
    let P : ℕ → Type 0 = λ n. last_cut o came ≤ n in
    subst P (sym (last_cut-append o came chunk)) (place_grows (last_cut o came) (length came) (chunk_end o came chunk) (last_cut-within o came))

-- what is before the last cut, and then the piece of a chunk, is what is before the cut after it
pub front_then_piece : (o : Dialect) (came chunk : List ℕ) → take (last_cut o came) came ++ chunk_piece o came chunk ≡ take (last_cut o (came ++ chunk)) (came ++ chunk)
front_then_piece o came chunk =
    let n : ℕ = last_cut o came in
    let front : List ℕ = take (last_cut o (came ++ chunk)) (came ++ chunk) in
    ap (λ (x : List ℕ). x ++ drop n front) (sym (take-append-le n came chunk (last_cut-within o came)) ∙ sym (take-take n (last_cut o (came ++ chunk)) (came ++ chunk) (last_cut-grows o came chunk)))
    ∙ take-append-drop n front

concat-first : (piece : List ℕ) (pieces : List (List ℕ)) → concat (piece_first piece pieces) ≡ piece ++ concat pieces
concat-first [] pieces = refl
concat-first (b ∷ bytes) pieces = refl

joins_pieces : (o : Dialect) (came : List ℕ) (chunks : List (List ℕ))
    → take (last_cut o came) came ++ concat (pieces_after o came chunks) ≡ take (last_cut o (came ++ concat chunks)) (came ++ concat chunks)
joins_pieces o came [] = append-nil (take (last_cut o came) came) ∙ ap (λ (x : List ℕ). take (last_cut o x) x) (sym (append-nil came))
joins_pieces o came (chunk ∷ chunks) =
    let front : List ℕ = take (last_cut o came) came in
    let piece : List ℕ = chunk_piece o came chunk in
    let later : List (List ℕ) = pieces_after o (came ++ chunk) chunks in
    ap (λ (x : List ℕ). front ++ x) (concat-first piece later)
    ∙ sym (append_assoc front piece (concat later))
    ∙ ap (λ (x : List ℕ). x ++ concat later) (front_then_piece o came chunk)
    ∙ joins_pieces o (came ++ chunk) chunks
    ∙ ap (λ (x : List ℕ). take (last_cut o x) x) (append_assoc came chunk (concat chunks))

-- the pieces are the text up to its last end
pub pieces_are_front : (o : Dialect) (chunks : List (List ℕ)) → concat (cut_pieces o chunks) ≡ take (last_cut o (concat chunks)) (concat chunks)
pieces_are_front o chunks = joins_pieces o [] chunks

pub joins_cut_texts : (o : Dialect) → JoinsCutTexts o
joins_cut_texts o = λ chunks.
    ap (λ (x : List ℕ). x ++ cut_rest o chunks) (pieces_are_front o chunks) ∙ take-append-drop (last_cut o (concat chunks)) (concat chunks)

-- a chunk more
first-append : (piece : List ℕ) (front back : List (List ℕ)) → piece_first piece (front ++ back) ≡ piece_first piece front ++ back
first-append [] front back = refl
first-append (b ∷ bytes) front back = refl

pieces_after-append : (o : Dialect) (came : List ℕ) (chunks more : List (List ℕ)) → pieces_after o came (chunks ++ more) ≡ pieces_after o came chunks ++ pieces_after o (came ++ concat chunks) more
pieces_after-append o came [] more = ap (λ (x : List ℕ). pieces_after o x more) (sym (append-nil came))
pieces_after-append o came (chunk ∷ chunks) more =
    let piece : List ℕ = chunk_piece o came chunk in
    let later : List (List ℕ) = pieces_after o (came ++ chunk) chunks in
    ap (piece_first piece) (pieces_after-append o (came ++ chunk) chunks more)
    ∙ first-append piece later (pieces_after o (came ++ chunk ++ concat chunks) more)
    ∙ ap (λ (x : List ℕ). piece_first piece later ++ pieces_after o x more) (append_assoc came chunk (concat chunks))

concat-append : (front back : List (List ℕ)) → concat (front ++ back) ≡ concat front ++ concat back
concat-append [] back = refl
concat-append (x ∷ front) back = ap (λ (y : List ℕ). x ++ y) (concat-append front back) ∙ sym (append_assoc x (concat front) (concat back))

pieces_more : (o : Dialect) (chunks : List (List ℕ)) (chunk : List ℕ) → cut_pieces o (chunks ++ chunk ∷ []) ≡ cut_pieces o chunks ++ piece_first (chunk_piece o (concat chunks) chunk) []
pieces_more o chunks chunk = pieces_after-append o [] chunks (chunk ∷ [])

rest_more : (o : Dialect) (chunks : List (List ℕ)) (chunk : List ℕ) → cut_rest o (chunks ++ chunk ∷ []) ≡ drop (last_cut o (concat chunks ++ chunk)) (concat chunks ++ chunk)
rest_more o chunks chunk =
    ap (λ (x : List ℕ). drop (last_cut o x) x) (concat-append chunks (chunk ∷ []) ∙ ap (λ (x : List ℕ). concat chunks ++ x) (append-nil chunk))

-- a chunk without an end
drop_taken : (n : ℕ) (bytes : List ℕ) → drop n (take n bytes) ≡ []
drop_taken zero bytes = refl
drop_taken (suc n) [] = refl
drop_taken (suc n) (b ∷ bytes) = drop_taken n bytes

pub cut_none : (o : Dialect) (came chunk : List ℕ) → chunk_end o came chunk ≡ 0 → last_cut o (came ++ chunk) ≡ last_cut o came
cut_none o came chunk none = last_cut-append o came chunk ∙ ap (joined_place (last_cut o came) (length came)) none

piece_none : (o : Dialect) (came chunk : List ℕ) → chunk_end o came chunk ≡ 0 → chunk_piece o came chunk ≡ []
piece_none o came chunk none = ap (λ (n : ℕ). drop (last_cut o came) (take n (came ++ chunk))) (cut_none o came chunk none) ∙ drop_taken (last_cut o came) (came ++ chunk)

-- a chunk with an end
joined_some : (before n later : ℕ) → later ≢ 0 → joined_place before n later ≡ n + later
joined_some before n zero some = absurd (some refl)
joined_some before n (suc later) some = refl

pub cut_some : (o : Dialect) (came chunk : List ℕ) → chunk_end o came chunk ≢ 0 → last_cut o (came ++ chunk) ≡ length came + chunk_end o came chunk
cut_some o came chunk some = last_cut-append o came chunk ∙ joined_some (last_cut o came) (length came) (chunk_end o came chunk) some

pub take-append-add : (front back : List ℕ) (n : ℕ) → take (length front + n) (front ++ back) ≡ front ++ take n back
take-append-add [] back n = let same : 0 + n ≡ n = omega arith in ap (λ (k : ℕ). take k back) same
take-append-add (b ∷ front) back n =
    let same : suc (length front) + n ≡ suc (length front + n) = omega arith in
    ap (λ (k : ℕ). take k (b ∷ (front ++ back))) same ∙ ap (λ (x : List ℕ). b ∷ x) (take-append-add front back n)

piece_some : (o : Dialect) (came chunk : List ℕ) → chunk_end o came chunk ≢ 0 → chunk_piece o came chunk ≡ drop (last_cut o came) came ++ take (chunk_end o came chunk) chunk
piece_some o came chunk some =
    let n : ℕ = last_cut o came in
    let m : ℕ = chunk_end o came chunk in
    ap (λ (k : ℕ). drop n (take k (came ++ chunk))) (cut_some o came chunk some)
    ∙ ap (drop n) (take-append-add came chunk m)
    ∙ drop-append-le n came (take m chunk) (last_cut-within o came)

some_taken : (n : ℕ) (bytes : List ℕ) → n ≢ 0 → n ≤ length bytes → take n bytes ≢ []
some_taken zero bytes some within = absurd (some refl)
some_taken (suc n) [] some within = absurd (omega arith)
some_taken (suc n) (b ∷ bytes) some within = λ none. cc

some_behind : (front back : List ℕ) → back ≢ [] → front ++ back ≢ []
some_behind [] back some = some
some_behind (b ∷ front) back some = λ none. cc

pub first_some : (piece : List ℕ) (pieces : List (List ℕ)) → piece ≢ [] → piece_first piece pieces ≡ piece ∷ pieces
first_some [] pieces some = absurd (some refl)
first_some (b ∷ bytes) pieces some = refl

-- the front of a text up to its last end is some bytes
pub some_front : (o : Dialect) (text : List ℕ) → last_cut o text ≢ 0 → take (last_cut o text) text ≢ []
some_front o text some = some_taken (last_cut o text) text some (last_cut-within o text)

some_end : (o : Dialect) (came chunk : List ℕ) → chunk_end o came chunk ≢ 0 → take (chunk_end o came chunk) chunk ≢ []
some_end o came chunk some =
    some_taken (chunk_end o came chunk) chunk some (last_place-within (cut_step o) (λ (s : CutState). is_after_eol s.place) (cut_after o (first_state o AtOpening) came) chunk)

rest_some : (o : Dialect) (came chunk : List ℕ) → chunk_end o came chunk ≢ 0 → drop (last_cut o (came ++ chunk)) (came ++ chunk) ≡ drop (chunk_end o came chunk) chunk
rest_some o came chunk some =
    let m : ℕ = chunk_end o came chunk in
    ap (λ (k : ℕ). drop k (came ++ chunk)) (cut_some o came chunk some)
    ∙ sym (drop-drop m (length came) (came ++ chunk)) ∙ ap (drop m) (drop_at came chunk (length came) refl)

pub cuts_by_chunk : (o : Dialect) → CutsByChunk o
cuts_by_chunk o = λ file chunks chunk.
    let came : List ℕ = concat chunks in
    let pieces : List (List ℕ) = cut_pieces o chunks in
    let n : ℕ = chunk_end o came chunk in (
      λ none. (
        pieces_more o chunks chunk ∙ ap (λ (x : List ℕ). pieces ++ piece_first x []) (piece_none o came chunk none) ∙ append-nil pieces,
        rest_more o chunks chunk ∙ ap (λ (k : ℕ). drop k (came ++ chunk)) (cut_none o came chunk none) ∙ drop-append-le (last_cut o came) came chunk (last_cut-within o came),
      ),
      λ some. (
        pieces_more o chunks chunk ∙ ap (λ (x : List ℕ). pieces ++ piece_first x []) (piece_some o came chunk some)
            ∙ ap (λ (x : List (List ℕ)). pieces ++ x) (first_some (cut_rest o chunks ++ take n chunk) [] (some_behind (cut_rest o chunks) (take n chunk) (some_end o came chunk some))),
        rest_more o chunks chunk ∙ rest_some o came chunk some,
      ),
    )
