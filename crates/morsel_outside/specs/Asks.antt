-- How often each byte of a file was asked, over any list of reads and writes.
use Rattle.std.specs.Prelude.{ℕ, ◌+◌, Bool, ◌&&◌, ◌==◌, nat_le, nat_lt, false, if◌then◌else◌, List, [], ◌∷◌}
use Rattle.morsel_outside.specs.declared.events.IoEvent.{IoEvent}
use Rattle.morsel_outside.specs.declared.events.IoEvent.TheVariants.{ReadAt, Wrote}

-- whether a read asks this byte of this file
abbrev pub asks : ℕ → ℕ → IoEvent → Bool
asks file byte (ReadAt source at len) = source == file && (nat_le at byte && nat_lt byte (at + len))
asks file byte (Wrote len) = false

-- how many reads ask this byte of this file
abbrev pub times_asked : ℕ → ℕ → List IoEvent → ℕ
times_asked file byte [] = 0
times_asked file byte (event ∷ events) = (if asks file byte event then 1 else 0) + times_asked file byte events
