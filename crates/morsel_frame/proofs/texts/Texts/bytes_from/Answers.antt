use Rattle.std.proofs.Common.{arith, ap, length, length-take, length-drop, drop, ◌-◌, ◌≡◌, ◌∙◌, get_or, ◌∷◌}
use Rattle.std.specs.String.{string_bytes}
use Rattle.morsel_frame.proofs.PieceLemmas.{length-pieces, start_within, front-piece}
use Rattle.morsel_frame.proofs.texts.Texts.bytes_from.Goals as goal

pub start-begin-requires : goal.start-begin-requires
start-begin-requires c =
    let lens = length-pieces 0 c.self.inside.ends.items (string_bytes c.self.inside.bytes) in
    let seen = ap length c.self.view_is in
    rw c.as_slice.ensures.value (omega (arith, lens, seen))

pub slice_bounds-result-count : goal.slice_bounds-result-count
slice_bounds-result-count c =
    let lens = length-pieces 0 c.self.inside.ends.items (string_bytes c.self.inside.bytes) in
    let seen = ap length c.self.view_is in
    let starts = start_within c.self.inside.ends.items (string_bytes c.self.inside.bytes) c.args.at (omega (arith, lens, seen)) c.self.invariant in
    rw (c.start-begin.ensures, c.as_slice.ensures.value, c.as_bytes.ensures.value) starts

pub slice_bounds-result-start : goal.slice_bounds-result-start
slice_bounds-result-start c =
    let lens = length-pieces 0 c.self.inside.ends.items (string_bytes c.self.inside.bytes) in
    let seen = ap length c.self.view_is in
    let starts = start_within c.self.inside.ends.items (string_bytes c.self.inside.bytes) c.args.at (omega (arith, lens, seen)) c.self.invariant in
    rw (c.start-begin.ensures, c.as_slice.ensures.value, c.as_bytes.ensures.value) starts

pub index-requires : goal.index-requires
index-requires c =
    let lens = length-pieces 0 c.self.inside.ends.items (string_bytes c.self.inside.bytes) in
    let seen = ap length c.self.view_is in
    omega (arith, lens, seen)

pub overflow_sub-result : goal.overflow_sub-result
overflow_sub-result c =
    let lens = length-pieces 0 c.self.inside.ends.items (string_bytes c.self.inside.bytes) in
    let seen = ap length c.self.view_is in
    let starts : c.start-begin.result ≡ get_or (0 ∷ c.self.inside.ends.items) c.args.at 0 = c.start-begin.ensures ∙ ap (λ ends. get_or (0 ∷ ends) c.args.at 0) c.as_slice.ensures.value in
    (front-piece c.self.inside.ends.items (string_bytes c.self.inside.bytes) c.args.at c.start-begin.result c.index.result.now (omega (arith, lens, seen)) c.self.invariant starts c.index.ensures).0

pub returns-clause-within : goal.returns-clause-within
returns-clause-within c =
    let lens = length-pieces 0 c.self.inside.ends.items (string_bytes c.self.inside.bytes) in
    let seen = ap length c.self.view_is in
    let starts : c.start-begin.result ≡ get_or (0 ∷ c.self.inside.ends.items) c.args.at 0 = c.start-begin.ensures ∙ ap (λ ends. get_or (0 ∷ ends) c.args.at 0) c.as_slice.ensures.value in
    let piece = front-piece c.self.inside.ends.items (string_bytes c.self.inside.bytes) c.args.at c.start-begin.result c.index.result.now (omega (arith, lens, seen)) c.self.invariant starts c.index.ensures in
    let len = length-take (length c.as_bytes.result.now - c.start-begin.result) (drop c.start-begin.result c.as_bytes.result.now) in
    let rest = length-drop c.start-begin.result c.as_bytes.result.now in
    let all = ap length c.as_bytes.ensures.value in
    omega (arith, piece.1, len, rest, all)

pub returns-clause-text : goal.returns-clause-text
returns-clause-text c =
    let lens = length-pieces 0 c.self.inside.ends.items (string_bytes c.self.inside.bytes) in
    let seen = ap length c.self.view_is in
    let starts : c.start-begin.result ≡ get_or (0 ∷ c.self.inside.ends.items) c.args.at 0 = c.start-begin.ensures ∙ ap (λ ends. get_or (0 ∷ ends) c.args.at 0) c.as_slice.ensures.value in
    rw (← c.self.view_is, c.as_bytes.ensures.value)
    (front-piece c.self.inside.ends.items (string_bytes c.self.inside.bytes) c.args.at c.start-begin.result c.index.result.now (omega (arith, lens, seen)) c.self.invariant starts c.index.ensures).2
