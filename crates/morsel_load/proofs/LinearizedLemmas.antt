-- What holds of a value holds where there is one.
use Rattle.std.proofs.Common.{Result, Ok, Err, IfOk}

pub if_ok : {T E : Type 0} (P Q : T → Type 0) (r : Result T E) → ((x : T) → P x → Q x) → IfOk r P → IfOk r Q
if_ok P Q (Ok x) then is = then x is
if_ok P Q (Err e) then is = tt
