-- What a morsel ends as, where a part of it is lent.
use Rattle.std.specs.Borrow.{Lends, Fml, RattleType, MutBor}
use Rattle.morsel_meaning.specs.Values.{Table}
use Rattle.morsel_frame.specs.contracts.frame.Frame.{the_row as frame_row}
use Rattle.morsel_load.specs.Sources.{SourceSeen}
use Rattle.morsel_load.specs.Morsels.{MorselSeen}
use Rattle.morsel_load.specs.contracts.morsels.Morsel.{the_row}
use Rattle.morsel_load.specs.contracts.source_token.SourceToken.{the_row as token_row}

-- nothing changes but the rows, which are the last value written through the borrow
abbrev pub with_frame : {K : Type 0} → MorselSeen K → Table → MorselSeen K
with_frame morsel frame = record morsel { frame = frame }

abbrev pub LendsFrame : (K J : RattleType) → MutBor (MorselSeen K.Denot) → MutBor Table → Fml
LendsFrame K J morsel lent = Lends (the_row K J) frame_row morsel lent (with_frame morsel.now)

-- nothing changes but the token of the source
abbrev pub with_source_token : {K : Type 0} → MorselSeen K → SourceSeen → MorselSeen K
with_source_token morsel token = record morsel { source_token = token }

abbrev pub LendsSourceToken : (K J : RattleType) → MutBor (MorselSeen K.Denot) → MutBor SourceSeen → Fml
LendsSourceToken K J morsel lent = Lends (the_row K J) token_row morsel lent (with_source_token morsel.now)
