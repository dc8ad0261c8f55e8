use Rattle.morsel_prog.proofs.ProgramLemmas.{answers_words, causes_words, leaves_after_fault, asks_names, reads_once, reads_ahead, keeps_rest}
use Rattle.morsel_prog.proofs.CompleteLemmas.{completes_words}
use Rattle.morsel_prog.proofs.program.local_main.Goals as goal

pub returns : goal.returns
returns g c =
    let r = c.run_and_report.ensures in
    let status = c.run_and_report.result in
    record {
      answers = λ zero. answers_words _ _ _ status r.between r.result r.ran r.report zero;
      caused = λ other. causes_words _ _ _ status r.between r.result r.ran r.report other;
      complete = λ valid none. completes_words _ _ _ status r.between r.result r.ran r.report valid none;
      after_fault = λ other. leaves_after_fault _ _ _ status r.between r.result r.ran r.report;
      asks = asks_names _ _ _ status r.between r.result r.ran r.report;
      reads = reads_once _ _ _ status r.between r.result r.ran r.report;
      reads_ahead = reads_ahead _ _ _ status r.between r.result r.ran r.report;
      keeps = keeps_rest _ _ _ status r.between r.result r.ran r.report;
      reported = r;
    }
