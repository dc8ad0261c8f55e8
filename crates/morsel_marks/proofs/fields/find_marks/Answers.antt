use Rattle.std.proofs.Common.{◌≡◌, ◌∙◌, ℕ, refl, sym, ap, ap₂, Bool, ◌==◌, ◌||◌, List, ◌++◌, length, take, drop, arith}
use Rattle.std.proofs.lemmas.Bool.{not-true, not-false}
use Rattle.morsel_grammar.specs.Split.{is_quote}
use Rattle.morsel_marks.specs.declared.look.QuoteState.{QuoteState}
use Rattle.morsel_marks.specs.Marks.{field_start, quotes_after, is_sound_from, marks_from}
use Rattle.morsel_marks.proofs.TextLemmas.{block_after, block_sound, block_marks, block_unsound, rest_unsound, rest_inside, rest_well, rest_marks}
use Rattle.morsel_marks.proofs.fields.find_marks.Goals as goal

pub returns-then-not-seen-clause-value : goal.returns-then-not-seen-clause-value
returns-then-not-seen-clause-value c =
    let q = is_quote c.args.quote in
    let s : ℕ → Bool = λ b. b == c.args.separator || b == c.args.eol in
    let text = c.args.text.now in
    let at = c.loop-at.at in
    let i = c.loop-at.invariant in
    let onto = take 64 c.from.result.now in
    let e : onto ≡ take 64 (drop at text) = ap (take 64) c.from.ensures in
    block_unsound q s text at
    (ap₂ (λ (t : QuoteState) (ys : List ℕ). is_sound_from q s t ys) (sym i.state) (sym e) ∙ sym c.look-seen.ensures.sound ∙ not-true _ c.if-not-seen.true)

pub loop-at-preserved : goal.loop-at-preserved
loop-at-preserved c =
    let q = is_quote c.args.quote in
    let s : ℕ → Bool = λ b. b == c.args.separator || b == c.args.eol in
    let text = c.args.text.now in
    let at = c.loop-at.at in
    let i = c.loop-at.invariant in
    let onto = take 64 c.from.result.now in
    let e : onto ≡ take 64 (drop at text) = ap (take 64) c.from.ensures in
    record {
      within = omega arith;
      fewer = omega (arith, c.put_places-count.ensures.within);
      kept = c.put_places-count.ensures.kept ∙ i.kept;
      state = c.look-seen.ensures.next refl ∙ ap₂ (λ (t : QuoteState) (ys : List ℕ). quotes_after q s t ys) i.state e ∙ block_after q s text at;
      sound = block_sound q s text at i.sound
          (ap₂ (λ (t : QuoteState) (ys : List ℕ). is_sound_from q s t ys) (sym i.state) (sym e) ∙ sym c.look-seen.ensures.sound ∙ not-false _ c.if-not-seen.false);
      marks = c.put_places-count.ensures.places
          ∙ ap₂ (λ (xs ys : List ℕ). xs ++ ys) i.marks (c.look-seen.ensures.marks at ∙ ap₂ (λ (t : QuoteState) (ys : List ℕ). marks_from q s at t.inside ys) i.state e)
          ∙ block_marks q s text at i.within;
    }

pub returns-then-not-seen-2-clause-value : goal.returns-then-not-seen-2-clause-value
returns-then-not-seen-2-clause-value c =
    let q = is_quote c.args.quote in
    let s : ℕ → Bool = λ b. b == c.args.separator || b == c.args.eol in
    let text = c.args.text.now in
    let at = c.loop-at.at in
    let i = c.loop-at.invariant in
    let onto = take (length c.from-rest.result.now) c.padded-lane.result in
    let e : onto ≡ drop at text = c.padded-lane.ensures.front ∙ c.from-rest.ensures in
    let sound : is_sound_from q s (quotes_after q s field_start (take at text)) (drop at text) ≡ c.look-seen-2.result.is_sound =
    ap₂ (λ (t : QuoteState) (ys : List ℕ). is_sound_from q s t ys) (sym i.state) (sym e) ∙ sym c.look-seen-2.ensures.sound in
    let inside : (quotes_after q s (quotes_after q s field_start (take at text)) (drop at text)).inside ≡ c.look-seen-2.result.next.inside =
    ap₂ (λ (t : QuoteState) (ys : List ℕ). (quotes_after q s t ys).inside) (sym i.state) (sym e) ∙ sym c.look-seen-2.ensures.inside in
    rest_unsound q s text at (sound ∙ not-true _ c.if-not-seen-2.true)

pub returns-then-seen-clause-value : goal.returns-then-seen-clause-value
returns-then-seen-clause-value c =
    let q = is_quote c.args.quote in
    let s : ℕ → Bool = λ b. b == c.args.separator || b == c.args.eol in
    let text = c.args.text.now in
    let at = c.loop-at.at in
    let i = c.loop-at.invariant in
    let onto = take (length c.from-rest.result.now) c.padded-lane.result in
    let e : onto ≡ drop at text = c.padded-lane.ensures.front ∙ c.from-rest.ensures in
    let sound : is_sound_from q s (quotes_after q s field_start (take at text)) (drop at text) ≡ c.look-seen-2.result.is_sound =
    ap₂ (λ (t : QuoteState) (ys : List ℕ). is_sound_from q s t ys) (sym i.state) (sym e) ∙ sym c.look-seen-2.ensures.sound in
    let inside : (quotes_after q s (quotes_after q s field_start (take at text)) (drop at text)).inside ≡ c.look-seen-2.result.next.inside =
    ap₂ (λ (t : QuoteState) (ys : List ℕ). (quotes_after q s t ys).inside) (sym i.state) (sym e) ∙ sym c.look-seen-2.ensures.inside in
    rest_inside q s text at (inside ∙ c.if-seen.true)

pub returns-clause-value : goal.returns-clause-value
returns-clause-value c =
    let q = is_quote c.args.quote in
    let s : ℕ → Bool = λ b. b == c.args.separator || b == c.args.eol in
    let text = c.args.text.now in
    let at = c.loop-at.at in
    let i = c.loop-at.invariant in
    let onto = take (length c.from-rest.result.now) c.padded-lane.result in
    let e : onto ≡ drop at text = c.padded-lane.ensures.front ∙ c.from-rest.ensures in
    let sound : is_sound_from q s (quotes_after q s field_start (take at text)) (drop at text) ≡ c.look-seen-2.result.is_sound =
    ap₂ (λ (t : QuoteState) (ys : List ℕ). is_sound_from q s t ys) (sym i.state) (sym e) ∙ sym c.look-seen-2.ensures.sound in
    let inside : (quotes_after q s (quotes_after q s field_start (take at text)) (drop at text)).inside ≡ c.look-seen-2.result.next.inside =
    ap₂ (λ (t : QuoteState) (ys : List ℕ). (quotes_after q s t ys).inside) (sym i.state) (sym e) ∙ sym c.look-seen-2.ensures.inside in (
      rest_well q s text at i.sound (sound ∙ not-false _ c.if-not-seen-2.false) (inside ∙ c.if-seen.false),
      c.put_places.ensures.places
          ∙ ap₂ (λ (xs ys : List ℕ). xs ++ ys) i.marks (c.look-seen-2.ensures.marks at ∙ ap₂ (λ (t : QuoteState) (ys : List ℕ). marks_from q s at t.inside ys) i.state e)
          ∙ rest_marks q s text at i.within,
    )
