-- What a linearizer gives.
use Rattle.std.specs.Prelude.{List, [], ◌∷◌, ⊤}
use Rattle.morsel_prims.specs.declared.poll.Poll.{Poll}
use Rattle.morsel_prims.specs.declared.poll.Poll.TheVariants.{Ready, Pending}
use Rattle.morsel_merge.specs.declared.linearizer.Got.{Got}
use Rattle.morsel_merge.specs.declared.linearizer.Got.TheVariants.{Item, End, Cut}

-- the value that was given, as a list
abbrev pub got_list : {T : Type 0} → Poll (Got T) → List T
got_list (Ready (Item value)) = value ∷ []
got_list (Ready End) = []
got_list (Ready Cut) = []
got_list Pending = []

-- the fact holds of the value, where one was given
abbrev pub IfItem : {T : Type 0} → Poll (Got T) → (T → Type 0) → Type 0
IfItem (Ready (Item value)) P = P value
IfItem (Ready End) P = ⊤
IfItem (Ready Cut) P = ⊤
IfItem Pending P = ⊤
