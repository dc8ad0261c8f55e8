use Rattle.std.proofs.Common.{◌≡◌, ◌∙◌, ap, sym, ◌++◌, ◌∷◌, append_assoc}
use Rattle.std.specs.Prelude.{codes, decimal}
use Rattle.std.specs.String.{string_bytes}
use Rattle.std.proofs.lemmas.Result.{IfOk-weaker}
use Rattle.morsel_meaning.specs.Faults.{fault_line, fault_text, fault_number}
use Rattle.morsel_prog.proofs.report.line_of.Goals as goal

pub returns : goal.returns
returns c = IfOk-weaker c.format.result _ (λ line. string_bytes line ≡ fault_line c.args.fault.now)
    (λ line h. h ∙ ap (λ n. (codes "error " ++ decimal n) ++ (58 ∷ 32 ∷ fault_text c.args.fault.now)) c.number-number.ensures
    ∙ sym (append_assoc (codes "error " ++ decimal (fault_number c.args.fault.now)) (codes ": ") (fault_text c.args.fault.now))) c.format.ensures.ok
