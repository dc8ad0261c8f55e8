-- What one action leaves, as a change of the outside.
use Rattle.std.specs.Prelude.{◌≡◌, ℕ, ◌+◌, List, [], ◌∷◌, ◌++◌, map, length, refl}
use Rattle.std.specs.List.{sum_by}
use Rattle.std.proofs.Common.{ap, ◌∙◌, sym, subst, append-nil, add-zero, zero-add}
use Rattle.morsel_outside.specs.declared.events.IoEvent.TheVariants.{ReadAt, Wrote}
use Rattle.morsel_outside.specs.declared.events.Asked.TheVariants.{Open, Make}
use Rattle.morsel_outside.specs.Outside.{Outside, with_more, with_last, with_piece, with_sink}
use Rattle.morsel_outside.specs.Actions.{Action, Opening, FailedOpening, ReadingRange, FailedReadingRange, Making, FailedMaking, Writing, FailedWriting, Printing, FailedPrinting, Rises, RisesBy, Does, raised, opened_by, made_after, sinks_by, printed_by, event_of, asked_by, read_failures, write_failures, print_faults_after, failed_after}
use Rattle.morsel_outside.proofs.ActionLemmas.{with_more-nil}

-- nothing was done
pub does-nothing : (o : Outside) → Does o [] o
does-nothing o = record {
  sizes = sym (append-nil o.sizes);
  held = sym (with_more-nil o.held);
  sinks = sym (add-zero o.sinks);
  made = refl;
  printed = sym (with_more-nil o.printed);
  events = sym (with_more-nil o.events);
  read_faults = refl;
  write_faults = refl;
  print_faults = refl;
  failed = refl;
  asked = sym (append-nil o.asked);
}

-- the outside after an action, with these counts of faults of reading and of writing
abbrev pub changed : Outside → Action → ℕ → ℕ → Outside
changed old action reads writes = record {
  sizes = old.sizes ++ map length (opened_by action);
  held = with_more old.held (opened_by action);
  sinks = old.sinks + sinks_by action;
  made = made_after old.made action;
  printed = with_more old.printed (printed_by action);
  events = with_more old.events (event_of action);
  read_faults = reads;
  write_faults = writes;
  print_faults = print_faults_after old.print_faults action;
  failed = failed_after old.failed action;
  asked = old.asked ++ asked_by action;
}

-- an action whose counts rise as it says
pub does-change : (old : Outside) (action : Action) (reads writes : ℕ) → RisesBy (sum_by read_failures (action ∷ [])) old.read_faults reads
    → RisesBy (sum_by write_failures (action ∷ [])) old.write_faults writes → Does old (action ∷ []) (changed old action reads writes)
does-change old action reads writes r w = record {
  sizes = ap (λ files. old.sizes ++ map length files) (sym (append-nil (opened_by action)));
  held = ap (with_more old.held) (sym (append-nil (opened_by action)));
  sinks = ap (λ n. old.sinks + n) (sym (zero-add (sinks_by action)));
  made = refl;
  printed = ap (with_more old.printed) (sym (append-nil (printed_by action)));
  events = ap (with_more old.events) (sym (append-nil (event_of action)));
  read_faults = r;
  write_faults = w;
  print_faults = refl;
  failed = refl;
  asked = ap (λ asked. old.asked ++ asked) (sym (append-nil (asked_by action)));
}

-- an outside that is what an action makes of it
does-as : (old new : Outside) (action : Action) (reads writes : ℕ) → RisesBy (sum_by read_failures (action ∷ [])) old.read_faults reads
    → RisesBy (sum_by write_failures (action ∷ [])) old.write_faults writes → new ≡ changed old action reads writes → Does old (action ∷ []) new
does-as old new action reads writes r w is = subst (Does old (action ∷ [])) (sym is) (does-change old action reads writes r w)

-- a file was opened
pub does-opening : (old new : Outside) (name bytes : List ℕ)
    → new ≡ record old { sizes = old.sizes ++ length bytes ∷ []; held = with_last old.held bytes; asked = old.asked ++ Open name ∷ [] }
    → Does old (Opening name bytes ∷ []) new
does-opening old new name bytes after = does-as old new (Opening name bytes) old.read_faults old.write_faults refl refl (after ∙ simp (with_more-nil, add-zero))

-- a file could not be opened
pub does-failed_opening : (old new : Outside) (number : ℕ) (name : List ℕ) (count : ℕ) → Rises old.read_faults count
    → new ≡ record old { read_faults = count; failed = number; asked = old.asked ++ Open name ∷ [] }
    → Does old (FailedOpening number name ∷ []) new
does-failed_opening old new number name count rises after =
    does-as old new (FailedOpening number name) count old.write_faults rises refl (after ∙ simp (append-nil, with_more-nil, add-zero))

-- bytes were read
pub does-reading : (old new : Outside) (file at len : ℕ)
    → new ≡ record old { events = with_last old.events (ReadAt file at len) } → Does old (ReadingRange file at len ∷ []) new
does-reading old new file at len after =
    does-as old new (ReadingRange file at len) old.read_faults old.write_faults refl refl (after ∙ simp (append-nil, with_more-nil, add-zero))

-- bytes could not be read
pub does-failed_reading : (old new : Outside) (file at len count : ℕ) → Rises old.read_faults count
    → new ≡ record old { events = with_last old.events (ReadAt file at len); read_faults = count; failed = file }
    → Does old (FailedReadingRange file at len ∷ []) new
does-failed_reading old new file at len count rises after =
    does-as old new (FailedReadingRange file at len) count old.write_faults rises refl (after ∙ simp (append-nil, with_more-nil, add-zero))

-- a sink was made
pub does-making : (old new : Outside) (name : List ℕ)
    → new ≡ record old { sinks = old.sinks + 1; made = with_sink old.made name []; asked = old.asked ++ Make name ∷ [] }
    → Does old (Making name ∷ []) new
does-making old new name after = does-as old new (Making name) old.read_faults old.write_faults refl refl (after ∙ simp (append-nil, with_more-nil))

-- a sink could not be made
pub does-failed_making : (old new : Outside) (name : List ℕ) (count : ℕ) → Rises old.write_faults count
    → new ≡ record old { write_faults = count; asked = old.asked ++ Make name ∷ [] } → Does old (FailedMaking name ∷ []) new
does-failed_making old new name count rises after =
    does-as old new (FailedMaking name) old.read_faults count refl rises (after ∙ simp (append-nil, with_more-nil, add-zero))

-- a piece was written
pub does-writing : (old new : Outside) (piece : List ℕ)
    → new ≡ record old { made = with_piece old.made piece; events = with_last old.events (Wrote (length piece)) } → Does old (Writing piece ∷ []) new
does-writing old new piece after = does-as old new (Writing piece) old.read_faults old.write_faults refl refl (after ∙ simp (append-nil, with_more-nil, add-zero))

-- a piece was written, and then the write failed
pub does-failed_writing : (old new : Outside) (piece : List ℕ) (count : ℕ) → Rises old.write_faults count
    → new ≡ record old { made = with_piece old.made piece; events = with_last old.events (Wrote (length piece)); write_faults = count }
    → Does old (FailedWriting piece ∷ []) new
does-failed_writing old new piece count rises after =
    does-as old new (FailedWriting piece) old.read_faults count refl rises (after ∙ simp (append-nil, with_more-nil, add-zero))

-- a line was printed
pub does-printing : (old new : Outside) (line : List ℕ) → new ≡ record old { printed = with_last old.printed line } → Does old (Printing line ∷ []) new
does-printing old new line after = does-as old new (Printing line) old.read_faults old.write_faults refl refl (after ∙ simp (append-nil, with_more-nil, add-zero))

-- a line could not be printed
pub does-failed_printing : (old new : Outside) (count : ℕ) → Rises old.write_faults count
    → new ≡ record old { write_faults = count; print_faults = raised old.print_faults } → Does old (FailedPrinting ∷ []) new
does-failed_printing old new count rises after =
    does-as old new FailedPrinting old.read_faults count refl rises (after ∙ simp (append-nil, with_more-nil, add-zero))

-- an outside that is as another but for what was printed
alike_but_prints : (old new : Outside) → new.sizes ≡ old.sizes → new.held ≡ old.held → new.sinks ≡ old.sinks → new.made ≡ old.made → new.events ≡ old.events
    → new.read_faults ≡ old.read_faults → new.failed ≡ old.failed → new.asked ≡ old.asked
    → new ≡ record old { printed = new.printed; write_faults = new.write_faults; print_faults = new.print_faults }
alike_but_prints old new sizes held sinks made events read_faults failed asked =
    ap (λ it. record new { sizes = it }) sizes
    ∙ ap (λ it. record new { sizes = old.sizes; held = it }) held
    ∙ ap (λ it. record new { sizes = old.sizes; held = old.held; sinks = it }) sinks
    ∙ ap (λ it. record new { sizes = old.sizes; held = old.held; sinks = old.sinks; made = it }) made
    ∙ ap (λ it. record new { sizes = old.sizes; held = old.held; sinks = old.sinks; made = old.made; events = it }) events
    ∙ ap (λ it. record new { sizes = old.sizes; held = old.held; sinks = old.sinks; made = old.made; events = old.events; read_faults = it }) read_faults
    ∙ ap (λ it. record new { sizes = old.sizes; held = old.held; sinks = old.sinks; made = old.made; events = old.events; read_faults = old.read_faults; failed = it }) failed
    ∙ ap (λ it. record new { sizes = old.sizes; held = old.held; sinks = old.sinks; made = old.made; events = old.events; read_faults = old.read_faults; failed = old.failed; asked = it }) asked

-- a print, that failed or not, changes nothing else
pub printing-change : (old new : Outside) (line : List ℕ) → Does old (Printing line ∷ []) new
    → new ≡ record old { printed = new.printed; write_faults = new.write_faults; print_faults = new.print_faults }
printing-change old new line does = alike_but_prints old new (does.sizes ∙ append-nil old.sizes) (does.held ∙ with_more-nil old.held) (does.sinks ∙ add-zero old.sinks)
    does.made (does.events ∙ with_more-nil old.events) does.read_faults does.failed (does.asked ∙ append-nil old.asked)

pub failed_printing-change : (old new : Outside) → Does old (FailedPrinting ∷ []) new
    → new ≡ record old { printed = new.printed; write_faults = new.write_faults; print_faults = new.print_faults }
failed_printing-change old new does = alike_but_prints old new (does.sizes ∙ append-nil old.sizes) (does.held ∙ with_more-nil old.held) (does.sinks ∙ add-zero old.sinks)
    does.made (does.events ∙ with_more-nil old.events) does.read_faults does.failed (does.asked ∙ append-nil old.asked)
