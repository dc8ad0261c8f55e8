-- Sinks and sizes of an outside in memory.
use Rattle.std.specs.Prelude.{◌≡◌, ℕ, ◌+◌, ◌<◌, Some, List, [], ◌∷◌, ◌++◌, map, length, Vec}
use Rattle.std.specs.declared.alloc.Global.{Global}
use Rattle.std.proofs.Common.{refl, ap, arith, get_or, zero, suc, length-append}
use Rattle.std.proofs.lemmas.List.{map-append}
use Rattle.std.proofs.Math.ListN.{set}
use Rattle.morsel_outside.specs.declared.events.IoEvent.TheVariants.{Wrote}
use Rattle.morsel_outside.specs.declared.events.Asked.TheVariants.{Open, Make}
use Rattle.morsel_outside.specs.Outside.{Sink, append_last, with_last, with_piece, with_sink}
use Rattle.morsel_outside.specs.Memory.{Contents, told, sizes_of, bytes_or_none, with_opened, with_made, with_written}
use Rattle.morsel_outside.specs.MemoryParts.{held_files, sink_of, sinks_of}
use Rattle.morsel_outside.specs.declared.memory.MemSink.{MemSink}

-- the text of the last sink was extended
pub sinks_of-set_last : (sinks : List MemSink) (i : ℕ) (made : MemSink) (text : Vec ℕ Global) (piece : List ℕ) → suc i ≡ length sinks → text.items ≡ (get_or sinks i made).text.items ++ piece → sinks_of (set sinks i (record { name = (get_or sinks i made).name; text = text })) ≡ append_last (sinks_of sinks) piece
sinks_of-set_last [] i made text piece last extended = cc
sinks_of-set_last (first ∷ []) zero made text piece last extended =
    ap (λ (bytes : List ℕ). record { name = first.name; text = bytes } ∷ []) extended
sinks_of-set_last (first ∷ []) (suc i) made text piece last extended = absurd (omega arith)
sinks_of-set_last (first ∷ next ∷ sinks) zero made text piece last extended = absurd (omega arith)
sinks_of-set_last (first ∷ next ∷ sinks) (suc i) made text piece last extended =
    ap (λ (rest : List Sink). sink_of first ∷ rest) (sinks_of-set_last (next ∷ sinks) i made text piece (omega arith) extended)

-- a sink was given the text that it has
pub sinks_of-set_same : (sinks : List MemSink) (i : ℕ) (made : MemSink) (text : Vec ℕ Global) → text.items ≡ (get_or sinks i made).text.items → sinks_of (set sinks i (record { name = (get_or sinks i made).name; text = text })) ≡ sinks_of sinks
sinks_of-set_same [] i made text same = refl
sinks_of-set_same (first ∷ sinks) zero made text same =
    ap (λ (bytes : List ℕ). record { name = first.name; text = bytes } ∷ sinks_of sinks) same
sinks_of-set_same (first ∷ sinks) (suc i) made text same =
    ap (λ (rest : List Sink). sink_of first ∷ rest) (sinks_of-set_same sinks i made text same)

-- as many sizes as opened files
pub length-sizes : (held : List (Vec ℕ Global)) → length (map length (held_files held)) ≡ length held
length-sizes [] = refl
length-sizes (first ∷ held) = ap suc (length-sizes held)

-- the size of a file is the length of its bytes
pub size_of-held : (held : List (Vec ℕ Global)) (i : ℕ) (bytes : Vec ℕ Global) → i < length (map length (held_files held)) → bytes ≡ get_or held i bytes → length bytes.items ≡ get_or (map length (held_files held)) i 0
size_of-held [] i bytes within found = absurd (omega arith)
size_of-held (first ∷ held) zero bytes within found = ap (λ (v : Vec ℕ Global). length v.items) found
size_of-held (first ∷ held) (suc i) bytes within found = size_of-held held i bytes (omega arith) found

-- an opened file is held as its bytes
pub held-bytes : (held : List (Vec ℕ Global)) (i : ℕ) (bytes : Vec ℕ Global) → i < length (map length (held_files held)) → bytes ≡ get_or held i bytes → bytes.items ≡ get_or (held_files held) i []
held-bytes [] i bytes within found = absurd (omega arith)
held-bytes (first ∷ held) zero bytes within found = ap (λ (v : Vec ℕ Global). v.items) found
held-bytes (first ∷ held) (suc i) bytes within found = held-bytes held i bytes (omega arith) found

-- the size of a file is the length of what is held of it
pub size_at : (held : List (List ℕ)) (i : ℕ) → get_or (map length held) i 0 ≡ length (get_or held i [])
size_at [] i = refl
size_at (first ∷ held) zero = refl
size_at (first ∷ held) (suc i) = size_at held i

-- a piece more for the last sink makes no sink more
pub length-append_last : (sinks : List Sink) (piece : List ℕ) → length (append_last sinks piece) ≡ length sinks
length-append_last [] piece = refl
length-append_last (sink ∷ []) piece = refl
length-append_last (sink ∷ next ∷ sinks) piece = ap suc (length-append_last (next ∷ sinks) piece)

-- what is told where one file more is open
pub told-opened : (c : Contents) (name : List ℕ) (reads writes prints failed : ℕ) → told (with_opened c name) reads writes prints failed
    ≡ record (told c reads writes prints failed) {
      sizes = sizes_of c ++ length (bytes_or_none c.files name) ∷ [];
      held = with_last (Some c.held) (bytes_or_none c.files name);
      asked = c.asked ++ Open name ∷ [];
    }
told-opened c name reads writes prints failed =
    ap (λ (sizes : List ℕ). record (told (with_opened c name) reads writes prints failed) { sizes = sizes }) (map-append length c.held (bytes_or_none c.files name ∷ []))

-- what is told where one sink more was made
pub told-made : (c : Contents) (name : List ℕ) (reads writes prints failed : ℕ) → told (with_made c name) reads writes prints failed
    ≡ record (told c reads writes prints failed) {
      sinks = length c.made + 1;
      made = with_sink (Some c.made) name [];
      asked = c.asked ++ Make name ∷ [];
    }
told-made c name reads writes prints failed =
    ap (λ (n : ℕ). record (told (with_made c name) reads writes prints failed) { sinks = n }) (length-append c.made (record { name = name; text = [] } ∷ []))

-- what is told where the last sink gained a piece
pub told-written : (c : Contents) (piece : List ℕ) (reads writes prints failed : ℕ) → told (with_written c piece) reads writes prints failed
    ≡ record (told c reads writes prints failed) {
      made = with_piece (Some c.made) piece;
      events = with_last (Some c.events) (Wrote (length piece));
    }
told-written c piece reads writes prints failed =
    ap (λ (n : ℕ). record (told (with_written c piece) reads writes prints failed) { sinks = n }) (length-append_last c.made piece)
