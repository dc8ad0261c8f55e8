-- What an outside in memory that never fails does is what any outside may do.
use Rattle.std.specs.Prelude.{◌≡◌, ℕ, ◌+◌, List, [], length, get_or, slice_range, Ok, refl}
use Rattle.std.proofs.Common.{ap, sym, ◌∙◌}
use Rattle.std.proofs.lemmas.List.{length-map}
use Rattle.morsel_outside.specs.declared.io.FileNo.{FileNo}
use Rattle.morsel_outside.specs.declared.events.IoEvent.TheVariants.{ReadAt}
use Rattle.morsel_outside.specs.Calls.{Opens, Reads, Makes, Writes, Prints}
use Rattle.morsel_outside.specs.Memory.{Contents, sure, bytes_or_none, with_opened, with_event, with_made, with_written, with_printed}
use Rattle.morsel_outside.proofs.DoesLemmas.{does-opening, does-reading, does-making, does-writing, does-printing}
use Rattle.morsel_outside.proofs.MemoryLemmas.{told-opened, told-made, told-written}

-- an opening
pub opens-sure : (old before new : Contents) (name : List ℕ) (file : FileNo) → before ≡ old → file.0 ≡ length before.held → new ≡ with_opened before name → Opens (sure old) name (Ok file) (sure new)
opens-sure old before new name file same number opened = (
  bytes_or_none old.files name,
  record {
    number = number ∙ ap (λ (c : Contents). length c.held) same ∙ sym (length-map old.held length);
    sized = refl;
    does = does-opening _ _ name _ (ap sure (opened ∙ ap (λ (c : Contents). with_opened c name) same) ∙ told-opened old name 0 0 0 0);
  },
)

-- a read
pub reads-sure : (old before new : Contents) (file at : ℕ) (bytes : List ℕ) → before ≡ old → bytes ≡ slice_range (get_or new.held file []) at (at + length bytes)
    → new ≡ with_event before (ReadAt file at (length bytes)) → Reads (sure old) file at bytes (Ok tt) (sure new)
reads-sure old before new file at bytes same holds noted =
    let held : new.held ≡ old.held = ap (λ (c : Contents). c.held) noted ∙ ap (λ (c : Contents). c.held) same in (
      sym (holds ∙ ap (λ (files : List (List ℕ)). slice_range (get_or files file []) at (at + length bytes)) held),
      does-reading _ _ file at (length bytes) (ap sure (noted ∙ ap (λ (c : Contents). with_event c (ReadAt file at (length bytes))) same)),
    )

-- a sink
pub makes-sure : (old before new : Contents) (name : List ℕ) → before ≡ old → new ≡ with_made before name → Makes (sure old) name (Ok tt) (sure new)
makes-sure old before new name same made =
    does-making _ _ name (ap sure (made ∙ ap (λ (c : Contents). with_made c name) same) ∙ told-made old name 0 0 0 0)

-- a piece
pub writes-sure : (old before new : Contents) (piece : List ℕ) → before ≡ old → new ≡ with_written before piece → Writes (sure old) piece (Ok tt) (sure new)
writes-sure old before new piece same written =
    does-writing _ _ piece (ap sure (written ∙ ap (λ (c : Contents). with_written c piece) same) ∙ told-written old piece 0 0 0 0)

-- a line
pub prints-sure : (old before new : Contents) (line : List ℕ) → before ≡ old → new ≡ with_printed before line → Prints (sure old) line (Ok tt) (sure new)
prints-sure old before new line same printed = does-printing _ _ line (ap sure (printed ∙ ap (λ (c : Contents). with_printed c line) same))
