-- A search for a block: chunk after chunk is read while none is held.
use Rattle.std.proofs.Common.{◌≡◌, ℕ, ◌+◌, ◌<◌, ◌≤◌, ap, sym, subst, refl, ◌∙◌, inl, inr, arith, length-append, append-nil}
use borrow.Author.Tests.{ltb-true, ltb-false}
use Rattle.std.proofs.lemmas.List.{take_all, drop-append-le, length-take-le, take-append-drop}
use Rattle.std.specs.Prelude.{◌⊎◌, Option, Some, None, Result, Ok, Err, List, [], ◌∷◌, ◌++◌, length, take, drop, slice_range, slice_index, Bool, true, false, nat_lt}
use Rattle.std.specs.List.{flat_map}
use Rattle.morsel_meaning.specs.declared.fault.Fault.{Fault}
use Rattle.morsel_meaning.specs.declared.fault.Fault.TheVariants as faults
use Rattle.morsel_grammar.specs.Dialect.{Dialect, IsDialect}
use Rattle.morsel_grammar.specs.Machine.{AtOpening, joined_place, first_state, cut_after, last_end, RefusesRecord, RefusesEnd}
use Rattle.morsel_outside.specs.Outside.{Outside, with_more}
use Rattle.morsel_outside.specs.Calls.{Holds}
use Rattle.morsel_outside.specs.Actions.{Action, ReadingRange, FailedReadingRange, Does, opened_by}
use Rattle.morsel_outside.proofs.ActionLemmas.{with_more-nil, does-append}
use Rattle.morsel_outside.proofs.DoesLemmas.{does-nothing}
use Rattle.morsel_cut.specs.Cutting.{Cutting, cut_opening, fed_with}
use Rattle.morsel_cut.specs.Pieces.{last_cut, StopsAtRecord}
use Rattle.morsel_cut.proofs.CuttingLemmas.{feeds_pieces}
use Rattle.morsel_cut.proofs.PieceLemmas.{chunk_end}
use Rattle.morsel_cut.proofs.PieceReadLemmas.{stops_at_refused, stops_at_open_end}
use Rattle.morsel_scan.specs.FileReads.{IsTold, IsChunk, AreNextReads, HoldsNoRecord, ReadWithoutRecord}
use Rattle.morsel_scan.specs.Blocks.{BlocksRead, given_to, IsOpenFile, IsSameFile, IsReadOf, IsLastCut, IsBlockFault, HasFound, FindsBlock, ReadsChunksOn, ReadsForBlock, compression_code}
use Rattle.morsel_scan.specs.Chunks.{HasReadChunk, with_chunk, end_with_chunk, ReadsChunk, FindsLast}
use Rattle.morsel_scan.proofs.BlockLemmas.{asked_more, holds_no_record, is_block, is_last_block, cut_stays, cut_moves, compression-front}

-- one read more
next_reads-more : (file size chunk from at len : ℕ) (reads : List Action) → AreNextReads file size chunk from reads at → IsChunk size chunk at len
    → AreNextReads file size chunk from (reads ++ ReadingRange file at len ∷ []) (at + len)
next_reads-more file size chunk from at len [] are last = (refl, sym are, subst (λ (n : ℕ). IsChunk size chunk n len) (sym are) last, ap (λ (n : ℕ). n + len) are)
next_reads-more file size chunk from at len (ReadingRange number place some ∷ reads) are last =
    (are.0, are.1, are.2, next_reads-more file size chunk (from + some) at len reads are.3 last)
next_reads-more file size chunk from at len (action ∷ reads) are last = absurd are

in_need-more : (o : Dialect) (bytes : List ℕ) (given file at len : ℕ) (reads : List Action) → ReadWithoutRecord o bytes given reads → HoldsNoRecord o bytes given at
    → ReadWithoutRecord o bytes given (reads ++ ReadingRange file at len ∷ [])
in_need-more o bytes given file at len [] all here = (here, tt)
in_need-more o bytes given file at len (ReadingRange number place some ∷ reads) all here = (all.0, in_need-more o bytes given file at len reads all.1 here)
in_need-more o bytes given file at len (action ∷ reads) all here = absurd all

reads_open_none : (file size chunk from to : ℕ) (reads : List Action) → AreNextReads file size chunk from reads to → flat_map opened_by reads ≡ []
reads_open_none file size chunk from to [] are = refl
reads_open_none file size chunk from to (ReadingRange number place some ∷ reads) are = reads_open_none file size chunk (from + some) to reads are.3
reads_open_none file size chunk from to (action ∷ reads) are = absurd are

-- what is held of the files stays, and so do their sizes
pub reads_keep_held : (before after : Outside) (old : BlocksRead) (chunk to : ℕ) → ReadsChunksOn before old chunk after to → after.held ≡ before.held
reads_keep_held before after old chunk to r =
    r.does.held ∙ ap (with_more before.held) (reads_open_none old.file old.size chunk old.asked to r.reads r.are) ∙ with_more-nil before.held

one_keeps_sizes : (before after : Outside) (file at len : ℕ) → Does before (ReadingRange file at len ∷ []) after → after.sizes ≡ before.sizes
one_keeps_sizes before after file at len does = does.sizes ∙ append-nil before.sizes

-- a place is the last end of the bytes of a file that were asked at a time: at this one, unless all were; or it is the end of the file
abbrev pub IsCutBefore : Dialect → List ℕ → ℕ → ℕ → Type 0
IsCutBefore o bytes asked at = ((then : ℕ) × (then ≤ length bytes) × (at ≡ last_cut o (take then bytes)) × (asked < length bytes → then ≡ asked))
    ⊎ ((asked ≡ length bytes) × (at ≡ length bytes))

cut_before : (o : Dialect) (bytes : List ℕ) (asked at : ℕ) → IsLastCut o bytes asked at → IsCutBefore o bytes asked at
cut_before o bytes asked at (inl cut) = inl (asked, omega (arith, cut.0), cut.1, λ more. refl)
cut_before o bytes asked at (inr end) = inr end

-- the file from which blocks were searched, and what was read so far
pub record IsGoingOn (before : Outside) (old : BlocksRead) (chunk : ℕ) (now : Outside) (b : BlocksRead) : Type 0 where
  pub is_open : IsOpenFile now b
  pub same : IsSameFile old b
  pub reads : ReadsChunksOn before old chunk now b.asked
  pub told : (o : Dialect) (bytes : List ℕ) → IsDialect o → IsReadOf o bytes old → IsLastCut o bytes old.asked (given_to old) → IsTold before.held old.file bytes
      → IsReadOf o bytes b × IsCutBefore o bytes b.asked (given_to b)

pub goes_from : (before : Outside) (old : BlocksRead) (chunk : ℕ) → IsOpenFile before old → IsGoingOn before old chunk before old
goes_from before old chunk opened = record {
  is_open = opened;
  same = record { file = refl; source = refl; size = refl; given = refl };
  reads = record { reads = []; are = refl; does = does-nothing before; in_need = λ o bytes fit read cut told. tt };
  told = λ o bytes fit read cut told. (read, cut_before o bytes old.asked (given_to old) cut);
}

-- what a file tells of the place is a piece of it
piece_of : (held : Option (List (List ℕ))) (file at : ℕ) (bytes piece : List ℕ) → IsTold held file bytes → Holds held file at piece → slice_range bytes at (at + length piece) ≡ piece
piece_of None file at bytes piece told holds = absurd told
piece_of (Some files) file at bytes piece told holds = ap (λ (x : List ℕ). slice_range x at (at + length piece)) (sym told) ∙ holds

-- at a cut before the end of the file
cut_before_end : (o : Dialect) (bytes : List ℕ) (asked at : ℕ) → asked < length bytes → IsCutBefore o bytes asked at → at ≡ last_cut o (take asked bytes)
cut_before_end o bytes asked at more (inl (then, within, cut, is)) = cut ∙ ap (λ (n : ℕ). last_cut o (take n bytes)) (is more)
cut_before_end o bytes asked at more (inr end) = absurd (omega (arith, end.0))

in_need_at : (before mid : Outside) (old b : BlocksRead) (chunk : ℕ) (o : Dialect) (bytes : List ℕ) → IsGoingOn before old chunk mid b → b.asked < b.size
    → IsDialect o → IsReadOf o bytes old → IsLastCut o bytes old.asked (given_to old) → IsTold before.held old.file bytes → HoldsNoRecord o bytes (given_to old) b.asked
in_need_at before mid old b chunk o bytes g more fit is_read cut told =
    let now = g.told o bytes fit is_read cut told in
    let inside : b.asked < length bytes = omega (arith, now.0.size_is) in
    subst (λ (n : ℕ). HoldsNoRecord o bytes n b.asked) g.same.given
    (holds_no_record o bytes (given_to b) b.asked fit (omega arith) (cut_before_end o bytes b.asked (given_to b) inside now.1))

pub reads_more_on : (before mid after : Outside) (old b : BlocksRead) (chunk : ℕ) (piece : List ℕ) → IsGoingOn before old chunk mid b → b.asked < b.size
    → HasReadChunk mid b chunk piece after → ReadsChunksOn before old chunk after (b.asked + length piece)
reads_more_on before mid after old b chunk piece g more read =
    let action : Action = ReadingRange old.file b.asked (length piece) in
    let does : Does mid (action ∷ []) after = subst (λ (n : ℕ). Does mid (ReadingRange n b.asked (length piece) ∷ []) after) g.same.file read.does in
    let last : IsChunk old.size chunk b.asked (length piece) = subst (λ (n : ℕ). IsChunk n chunk b.asked (length piece)) g.same.size read.is_chunk in
    record {
      reads = g.reads.reads ++ action ∷ [];
      are = next_reads-more old.file old.size chunk old.asked b.asked (length piece) g.reads.reads g.reads.are last;
      does = does-append before mid after g.reads.reads (action ∷ []) g.reads.does does;
      in_need = λ o bytes fit is_read cut told.
          in_need-more o bytes (given_to old) old.file b.asked (length piece) g.reads.reads (g.reads.in_need o bytes fit is_read cut told)
          (in_need_at before mid old b chunk o bytes g more fit is_read cut told);
    }

-- a chunk more is held
pub given-with_chunk : (b : BlocksRead) (piece : List ℕ) → length b.held ≤ b.asked → given_to (with_chunk b piece) ≡ given_to b
given-with_chunk b piece within = omega (arith, length-append b.held piece)

pub read-with_chunk : (o : Dialect) (bytes piece : List ℕ) (b : BlocksRead) → IsReadOf o bytes b → length b.held ≤ b.asked → b.asked + length piece ≤ length bytes
    → take (b.asked + length piece) bytes ≡ take b.asked bytes ++ piece → IsReadOf o bytes (with_chunk b piece)
read-with_chunk o bytes piece b read within inside next =
    let came : List ℕ = take b.asked bytes in
    let size : length came ≡ b.asked = let fits : b.asked ≤ length bytes = omega arith in length-take-le b.asked bytes fits in
    let order : given_to b ≤ length came = omega arith in
    record {
      size_is = read.size_is;
      fed = ap (λ (c : Cutting). fed_with c piece) read.fed ∙ feeds_pieces (cut_opening o b.source) came piece ∙ ap (fed_with (cut_opening o b.source)) (sym next);
      held_is = ap (λ (x : List ℕ). x ++ piece) read.held_is
          ∙ sym (drop-append-le (given_to b) came piece order)
          ∙ ap (drop (given_to b)) (sym next)
          ∙ ap (λ (n : ℕ). drop n (take (b.asked + length piece) bytes)) (sym (given-with_chunk b piece within));
    }

-- the end in the chunk, by the bytes that came
end-with_chunk : (o : Dialect) (bytes piece : List ℕ) (b : BlocksRead) → IsReadOf o bytes b
    → end_with_chunk b piece ≡ joined_place 0 (length b.held) (chunk_end o (take b.asked bytes) piece)
end-with_chunk o bytes piece b read = ap (λ (c : Cutting). joined_place 0 (length b.held) (last_end c.options c.state piece)) read.fed

open-with_chunk : (mid after : Outside) (b : BlocksRead) (chunk : ℕ) (piece : List ℕ) → IsOpenFile mid b → HasReadChunk mid b chunk piece after → IsOpenFile after (with_chunk b piece)
open-with_chunk mid after b chunk piece was read =
    let sizes : mid.sizes ≡ after.sizes = sym (one_keeps_sizes mid after b.file b.asked (length piece) read.does) in
    record {
      opened = subst (λ (x : List ℕ). b.file < length x) sizes was.opened;
      size_is = subst (λ (x : List ℕ). slice_index x b.file ≡ b.size) sizes was.size_is;
      within = read.is_chunk.within;
      held_within = omega (arith, length-append b.held piece, was.held_within);
      fed = ap (λ (n : ℕ). n + length piece) was.fed;
      source_is = was.source_is;
      fits = was.fits;
    }

-- what is told of the file and of the chunk
record IsToldOn (o : Dialect) (bytes : List ℕ) (b : BlocksRead) (piece : List ℕ) : Type 0 where
  read : IsReadOf o bytes b
  cut : given_to b ≡ last_cut o (take b.asked bytes)
  next : take (b.asked + length piece) bytes ≡ take b.asked bytes ++ piece
  inside : b.asked + length piece ≤ length bytes

told_on : (before mid after : Outside) (old b : BlocksRead) (chunk : ℕ) (piece : List ℕ) (o : Dialect) (bytes : List ℕ) → IsGoingOn before old chunk mid b → b.asked < b.size
    → HasReadChunk mid b chunk piece after → IsDialect o → IsReadOf o bytes old → IsLastCut o bytes old.asked (given_to old) → IsTold before.held old.file bytes → IsToldOn o bytes b piece
told_on before mid after old b chunk piece o bytes g more read fit is_read cut told =
    let now = g.told o bytes fit is_read cut told in
    let inside : b.asked < length bytes = omega (arith, now.0.size_is) in
    let told_here : IsTold mid.held b.file bytes =
    subst (λ (n : ℕ). IsTold mid.held n bytes) (sym g.same.file) (subst (λ (h : Option (List (List ℕ))). IsTold h old.file bytes) (sym (reads_keep_held before mid old chunk b.asked g.reads)) told) in
    record {
      read = now.0;
      cut = cut_before_end o bytes b.asked (given_to b) inside now.1;
      next = asked_more b.asked (length piece) bytes piece (piece_of mid.held b.file b.asked bytes piece told_here read.held);
      inside = omega (arith, now.0.size_is, read.is_chunk.within);
    }

-- a cut stays one
on_at : (o : Dialect) (bytes : List ℕ) (asked at then : ℕ) → then ≤ length bytes → at ≡ last_cut o (take then bytes) → asked ≤ length bytes
    → (asked < length bytes → at ≡ last_cut o (take asked bytes)) → IsCutBefore o bytes asked at
on_at o bytes asked at then within cut inside now = by_test (nat_lt asked (length bytes)) refl
  where
    by_test : (t : Bool) → nat_lt asked (length bytes) ≡ t → IsCutBefore o bytes asked at
    by_test true is = inl (asked, inside, now (ltb-true asked (length bytes) is), λ more. refl)
    by_test false is = inl (then, within, cut, λ more. absurd (omega (arith, ltb-false asked (length bytes) is)))

-- a chunk without an end
pub goes_on : (before mid after : Outside) (old b new : BlocksRead) (chunk len : ℕ) → IsGoingOn before old chunk mid b → b.asked < b.size
    → ReadsChunk mid b chunk (Ok len) after new → (new.asked < new.size → len ≡ 0) → IsGoingOn before old chunk after new
goes_on before mid after old b new chunk len g more (piece, read, new_is, is) ends =
    let within : length b.held ≤ b.asked = g.is_open.held_within in
    subst (λ (x : BlocksRead). IsGoingOn before old chunk after x) (sym new_is) (record {
      is_open = open-with_chunk mid after b chunk piece g.is_open read;
      same = record { file = g.same.file; source = g.same.source; size = g.same.size; given = given-with_chunk b piece within ∙ g.same.given };
      reads = reads_more_on before mid after old b chunk piece g more read;
      told = λ o bytes fit is_read cut told.
          let t = told_on before mid after old b chunk piece o bytes g more read fit is_read cut told in (
            read-with_chunk o bytes piece b t.read within t.inside t.next,
            on_at o bytes (b.asked + length piece) (given_to (with_chunk b piece)) b.asked (omega (arith, t.inside)) (given-with_chunk b piece within ∙ t.cut) t.inside
                (λ unread.
                let still : new.asked < new.size =
                subst (λ (x : BlocksRead). x.asked < x.size) (sym new_is) (let whole = t.read.size_is in omega arith) in
                given-with_chunk b piece within ∙ t.cut
                ∙ sym (cut_stays o (take b.asked bytes) piece (length b.held) (sym (ends still) ∙ is ∙ end-with_chunk o bytes piece b t.read))
                ∙ ap (last_cut o) (sym t.next)),
          );
    })

-- a chunk with an end
pub found_reads : (before mid after : Outside) (old b new : BlocksRead) (chunk len : ℕ) → IsGoingOn before old chunk mid b → b.asked < b.size
    → ReadsChunk mid b chunk (Ok len) after new → ReadsChunksOn before old chunk after new.asked
found_reads before mid after old b new chunk len g more (piece, read, new_is, is) =
    subst (λ (x : BlocksRead). ReadsChunksOn before old chunk after x.asked) (sym new_is) (reads_more_on before mid after old b chunk piece g more read)

pub found_block : (before mid after : Outside) (old b new : BlocksRead) (chunk len : ℕ) → IsGoingOn before old chunk mid b → b.asked < b.size
    → ReadsChunk mid b chunk (Ok len) after new → 0 < len → new.asked < new.size → (o : Dialect) (bytes : List ℕ) → IsDialect o → IsReadOf o bytes old → IsLastCut o bytes old.asked (given_to old)
    → IsTold before.held old.file bytes → HasFound o bytes (given_to old) len new
found_block before mid after old b new chunk len g more (piece, read, new_is, is) some unread o bytes fit is_read cut told =
    let within : length b.held ≤ b.asked = g.is_open.held_within in
    let t = told_on before mid after old b chunk piece o bytes g more read fit is_read cut told in
    let next = read-with_chunk o bytes piece b t.read within t.inside t.next in
    let size : length (take b.asked bytes) ≡ b.asked = let fits : b.asked ≤ length bytes = let i = t.inside in omega arith in length-take-le b.asked bytes fits in
    let moved : given_to b + len ≡ last_cut o (take b.asked bytes ++ piece) =
    cut_moves o (take b.asked bytes) piece (given_to b) (length b.held) len (is ∙ end-with_chunk o bytes piece b t.read) some (omega arith) in
    let next_cut : given_to b + len ≡ last_cut o (take (b.asked + length piece) bytes) = moved ∙ ap (last_cut o) (sym t.next) in
    let held_is : b.held ++ piece ≡ drop (given_to b) (take (b.asked + length piece) bytes) =
    next.held_is ∙ ap (λ (n : ℕ). drop n (take (b.asked + length piece) bytes)) (given-with_chunk b piece within) in
    subst (λ (x : BlocksRead). HasFound o bytes (given_to old) len x) (sym new_is)
    (subst (λ (n : ℕ). HasFound o bytes n len (with_chunk b piece)) g.same.given (record {
      read = next;
      cut = inl (
        (let still : b.asked + length piece < b.size = subst (λ (x : BlocksRead). x.asked < x.size) new_is unread in let whole = t.read.size_is in omega arith),
        next_cut,
      );
      block = λ positive. is_block o bytes (b.held ++ piece) b.asked (b.asked + length piece) (given_to b) len fit (omega arith) t.inside t.cut next_cut some held_is;
      end = λ none. absurd (omega arith);
    }))

-- no block, and a fault
pub fault_reads : (before mid after : Outside) (old b new : BlocksRead) (chunk : ℕ) (fault : Fault) → IsGoingOn before old chunk mid b → b.asked < b.size
    → ReadsChunk mid b chunk (Err fault) after new → ReadsForBlock before old chunk (Err fault) after new
fault_reads before mid after old b new chunk faults.OutOfMemory g more same =
    (b.asked, subst (λ (x : Outside). ReadsChunksOn before old chunk x b.asked) (sym same) g.reads)
fault_reads before mid after old b new chunk (faults.ReadFault number) g more (is, len, last, fails) = (
  is ∙ g.same.source,
  record {
    between = mid;
    to = b.asked;
    reads = g.reads;
    len = len;
    last = subst (λ (n : ℕ). IsChunk n chunk b.asked len) g.same.size last;
    last_in_need = λ o bytes fit is_read cut told. in_need_at before mid old b chunk o bytes g more fit is_read cut told;
    fails = subst (λ (n : ℕ). Does mid (FailedReadingRange n b.asked len ∷ []) after) g.same.file fails;
  },
)
fault_reads before mid after old b new chunk (faults.Unsupported number code) g more (is, piece, read, all, found) =
    (b.asked + length piece, reads_more_on before mid after old b chunk piece g more read)
fault_reads before mid after old b new chunk (faults.Malformed number at) g more (piece, read, is, refused) =
    (b.asked + length piece, reads_more_on before mid after old b chunk piece g more read)
fault_reads before mid after old b new chunk fault g more none = absurd none

pub fault_cause : (before mid after : Outside) (old b new : BlocksRead) (chunk : ℕ) (fault : Fault) → IsGoingOn before old chunk mid b → b.asked < b.size
    → ReadsChunk mid b chunk (Err fault) after new → (o : Dialect) (bytes : List ℕ) → IsDialect o → IsReadOf o bytes old → IsLastCut o bytes old.asked (given_to old)
    → IsTold before.held old.file bytes → IsBlockFault o old.source bytes fault
fault_cause before mid after old b new chunk faults.OutOfMemory g more same o bytes fit is_read cut told = tt
fault_cause before mid after old b new chunk (faults.ReadFault number) g more (is, len, last, fails) o bytes fit is_read cut told = is ∙ g.same.source
fault_cause before mid after old b new chunk (faults.Unsupported number code) g more (is, piece, read, all, found) o bytes fit is_read cut told =
    let within : length b.held ≤ b.asked = g.is_open.held_within in
    let t = told_on before mid after old b chunk piece o bytes g more read fit is_read cut told in
    let next = read-with_chunk o bytes piece b t.read within t.inside t.next in
    let asked = b.asked + length piece in
    let none : given_to (with_chunk b piece) ≡ 0 = let same = given-with_chunk b piece within in omega arith in
    let front : b.held ++ piece ≡ take asked bytes = next.held_is ∙ ap (λ (n : ℕ). drop n (take asked bytes)) none in (
      is ∙ g.same.source,
      ap compression_code (sym (take-append-drop asked bytes)) ∙ compression-front (take asked bytes) (drop asked bytes) code (ap compression_code (sym front) ∙ found),
    )
fault_cause before mid after old b new chunk (faults.Malformed number at) g more (piece, read, is, refused) o bytes fit is_read cut told =
    let within : length b.held ≤ b.asked = g.is_open.held_within in
    let t = told_on before mid after old b chunk piece o bytes g more read fit is_read cut told in
    let next = read-with_chunk o bytes piece b t.read within t.inside t.next in
    let asked = b.asked + length piece in
    let c : Cutting = fed_with b.cutting piece in
    let source : number ≡ b.cutting.file = cc in
    let place : at ≡ c.begun = cc in
    let stops = stops_at_refused o fit b.source (take asked bytes) (drop asked bytes) (subst (λ (x : Cutting). RefusesRecord x.state) next.fed refused) in (
      source ∙ g.is_open.source_is ∙ g.same.source,
      subst (λ (n : ℕ). StopsAtRecord o bytes n) (sym (place ∙ ap (λ (x : Cutting). x.begun) next.fed))
          (subst (λ (x : List ℕ). StopsAtRecord o x (fed_with (cut_opening o b.source) (take asked bytes)).begun) (take-append-drop asked bytes) stops),
    )
fault_cause before mid after old b new chunk fault g more none o bytes fit is_read cut told = absurd none

-- the end of the file
last_found : (o : Dialect) (bytes : List ℕ) (b : BlocksRead) (len : ℕ) → IsDialect o → IsReadOf o bytes b → b.asked ≡ length bytes → length b.held ≤ b.asked
    → len ≡ length b.held → (0 < len → RefusesEnd b.cutting.state → ⊥) → IsCutBefore o bytes b.asked (given_to b) → HasFound o bytes (given_to b) len b
last_found o bytes b len fit read all within len_is may_end (inl (then, inside, cut, is)) =
    let came : take b.asked bytes ≡ bytes = let over : length bytes ≤ b.asked = omega arith in take_all b.asked bytes over in
    record {
      read = read;
      cut = inr (all, omega arith);
      block = λ some.
          is_last_block o bytes b.held then (given_to b) len fit inside cut (read.held_is ∙ ap (drop (given_to b)) came) len_is some
          (λ refused. may_end some (subst RefusesEnd (sym (ap (λ (c : Cutting). c.state) read.fed ∙ ap (cut_after o (first_state o AtOpening)) came)) refused));
      end = λ none. omega arith;
    }
last_found o bytes b len fit read all within len_is may_end (inr end) = record {
  read = read;
  cut = inr (all, omega (arith, end.1));
  block = λ some. absurd (omega (arith, end.1));
  end = λ none. end.1;
}

pub last_block : (before now : Outside) (old b : BlocksRead) (chunk : ℕ) (result : Result ℕ Fault) → IsGoingOn before old chunk now b → b.size ≤ b.asked → FindsLast b result
    → (o : Dialect) (bytes : List ℕ) → IsDialect o → IsReadOf o bytes old → IsLastCut o bytes old.asked (given_to old) → IsTold before.held old.file bytes → FindsBlock o bytes old result b
last_block before now old b chunk (Ok len) g over last o bytes fit is_read cut told =
    let t = g.told o bytes fit is_read cut told in
    let all : b.asked ≡ length bytes = omega (arith, t.0.size_is, g.is_open.within) in
    subst (λ (n : ℕ). HasFound o bytes n len b) g.same.given
    (last_found o bytes b len fit t.0 all g.is_open.held_within last.0 last.1 t.1)
last_block before now old b chunk (Err fault) g over last o bytes fit is_read cut told =
    let t = g.told o bytes fit is_read cut told in
    let all : b.asked ≡ length bytes = omega (arith, t.0.size_is, g.is_open.within) in
    let came : take b.asked bytes ≡ bytes = let full : length bytes ≤ b.asked = omega arith in take_all b.asked bytes full in
    let stops = stops_at_open_end o fit b.source (take b.asked bytes) (subst (λ (x : Cutting). RefusesEnd x.state) t.0.fed last.1) in
    subst (λ (f : Fault). IsBlockFault o old.source bytes f) (sym last.0) (
      g.is_open.source_is ∙ g.same.source,
      subst (λ (n : ℕ). StopsAtRecord o bytes n) (sym (ap (λ (x : Cutting). x.begun) t.0.fed))
          (subst (λ (x : List ℕ). StopsAtRecord o x (fed_with (cut_opening o b.source) (take b.asked bytes)).begun) came stops),
    )
