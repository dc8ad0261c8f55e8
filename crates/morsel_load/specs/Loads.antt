-- What a lane of a query carries, as contracts see it.
use Rattle.std.specs.Prelude.{ℕ, Option, None}
use Rattle.morsel_meaning.specs.Values.{Table}
use Rattle.morsel_pipe.specs.Pieces.{Piece, Part}
use Rattle.morsel_load.specs.Sources.{SourceSeen}
use Rattle.morsel_load.specs.declared.morsels.Stretch.{Stretch}
use Rattle.morsel_load.specs.declared.load.Load.{Load}
use Rattle.morsel_load.specs.declared.load.Load.TheVariants as loads
use Rattle.morsel_load.specs.declared.load.LoadKind.{LoadKind}
use Rattle.morsel_load.specs.declared.load.LoadKind.TheVariants.{Morsels, Pieces, Parts}

-- a load, but for the token that tells that it was consumed
pub data LoadSeen : Type 0 where
  SeenMorsel : Table → ℕ → SourceSeen → Stretch → LoadSeen
  SeenPiece : Piece → LoadSeen
  SeenPart : ℕ → Part → LoadSeen

abbrev pub load_seen : {K J : Type 0} → Load K J → LoadSeen
load_seen (loads.Morsel morsel) = SeenMorsel morsel.frame morsel.seq morsel.source_token morsel.stretch
load_seen (loads.Piece piece) = SeenPiece piece
load_seen (loads.Part seq part) = SeenPart seq part

-- the token that tells that it was consumed, which only a morsel has
abbrev pub held_token : {K J : Type 0} → Load K J → Option K
held_token (loads.Morsel morsel) = morsel.consume_token
held_token (loads.Piece piece) = None
held_token (loads.Part seq part) = None

-- the number that it holds
abbrev pub seen_seq : LoadSeen → ℕ
seen_seq (SeenMorsel frame seq source stretch) = seq
seen_seq (SeenPiece piece) = piece.seq
seen_seq (SeenPart seq part) = seq

abbrev pub load_seq : {K J : Type 0} → Load K J → ℕ
load_seq load = seen_seq (load_seen load)

-- of which kind it is
abbrev pub seen_kind : LoadSeen → LoadKind
seen_kind (SeenMorsel frame seq source stretch) = Morsels
seen_kind (SeenPiece piece) = Pieces
seen_kind (SeenPart seq part) = Parts

abbrev pub load_kind : {K J : Type 0} → Load K J → LoadKind
load_kind load = seen_kind (load_seen load)
