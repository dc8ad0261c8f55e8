use Rattle.std.proofs.Common.{◌++◌, ◌∙◌, List, ℕ, take, sym, ap, arith}
use Rattle.morsel_ndjson.proofs.PutLemmas.{before_word, cut_words}
use Rattle.morsel_ndjson.proofs.cursor.put_words.Goals as goal

pub returns-then-len-le16-clause-written : goal.returns-then-len-le16-clause-written
returns-then-len-le16-clause-written c =
    cut_words c.args.out.now c.put_word.new.out c.args.padded.now c.args.at 16 c.args.len c.if-len-le16.true
    (omega arith) (omega arith) (omega arith) c.put_word.ensures

pub put_more_words-requires-clause-first : goal.put_more_words-requires-clause-first
put_more_words-requires-clause-first c =
    let kept = before_word c.args.out.now c.put_word.new.out (take 16 c.args.padded.now) c.args.at 16 (omega arith) c.put_word.ensures
    in c.put_word.ensures ∙ ap (λ (s : List ℕ). s ++ take 16 c.args.padded.now) (sym kept)

pub returns-clause-written : goal.returns-clause-written
returns-clause-written c =
    let kept = before_word c.args.out.now c.put_word.new.out (take 16 c.args.padded.now) c.args.at 16 (omega arith) c.put_word.ensures
    in c.put_more_words.ensures ∙ ap (λ (s : List ℕ). s ++ take c.args.len c.args.padded.now) kept
