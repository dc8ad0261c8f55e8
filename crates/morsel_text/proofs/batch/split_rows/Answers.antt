use Rattle.std.proofs.Common.{◌≡◌, ◌+◌, ◌<◌, ◌∙◌, List, ℕ, Some, sym, ap, refl, arith, rules, length, map}
use Rattle.std.proofs.lemmas.List.{length-map}
use Rattle.std.proofs.lemmas.Str.{IsUtf8-from_is_utf8}
use Rattle.morsel_grammar.specs.Grammar.{CsvField, CsvRecord, Fields}
use Rattle.morsel_grammar.specs.Rows.{is_empty}
use Rattle.morsel_text.specs.RawFields.{shown}
use Rattle.morsel_grammar.specs.Split.{record_at}
use Rattle.morsel_text.proofs.KeptLemmas.{kept_slice, kept_whole}
use Rattle.morsel_text.proofs.TextLemmas.{record_texts}
use Rattle.morsel_text.proofs.BatchLemmas.{text_behind, spread_texts, length-spread, some_bytes}
use Rattle.morsel_text.proofs.BatchStepLemmas.{batch_more}
use Rattle.morsel_text.proofs.batch.split_rows.Goals as goal

pub loop-row-preserved : goal.loop-row-preserved
loop-row-preserved c =
    let fields = c.as_slice-in-Fields.result.now in
    let rest = c.loop-row.rest.now in
    let after = c.in-Fields.after.now in
    let o = c.args.options.now in
    let fit = c.split_record.ensures.fit in
    let split = rw c.in-Fields.is at c.in_ok-after.ensures.value in
    let limit = c.len-limit.result + 2 in
    let few : length (map shown fields) < limit = omega (
      arith,
      length-map fields shown,
      ap length c.as_slice-in-Fields.ensures.value,
      c.if-len.false,
      c.len-else-is_empty-2.ensures,
      c.len.ensures,
      c.loop-row.invariant.width,
      c.len-limit.ensures,
    ) in
    let all = kept_whole limit (map shown fields) split.0 few (kept_slice limit _ fields split.0 c.as_slice-in-Fields.ensures.value split.2) in
    let found : record_at o rest ≡ Some (Fields (map shown fields), after) = split.1 ∙ ap (λ (fs : List CsvField). let p : CsvRecord × List ℕ = (Fields fs, after) in Some p) all in
    let some : 0 < length rest = search rules in
    let cut = text_behind o rest after (Fields (map shown fields)) fit (some_bytes rest 0 some) found c.loop-row.invariant.utf8 in
    let columns = c.loop-row.batch.items in
    let spreads = c.in_ok-spread-in-Fields.ensures.ok in
    record {
      so_far = batch_more o c.args.text.now rest after c.args.batch.now.items columns c.spread.new.batch.items c.loop-row.row fields c.loop-row.invariant.so_far
          found cut.2 (search rules) (ap (λ fs. is_empty (map shown fs)) (c.as_slice-in-Fields.ensures.value ∙ sym c.as_slice.ensures.value) ∙ sym c.is_empty-in-Fields.ensures ∙ c.if-is_empty-2.false) spreads;
      width = ap length spreads ∙ length-spread columns fields ∙ c.loop-row.invariant.width;
      utf8 = cut.1;
      texts = Rattle.std.proofs.Common.subst Rattle.morsel_text.specs.Batches.AreTextColumns (sym spreads)
          (spread_texts columns fields c.loop-row.invariant.texts (record_texts o rest after (map shown fields) fit found (IsUtf8-from_is_utf8 _ cut.0)));
    }
