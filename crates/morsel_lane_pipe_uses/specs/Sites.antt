-- What is seen of a site, and of the ends of lanes at it.
use Rattle.std.specs.Prelude.{◌≡◌, ℕ, All, List, Option, IfSome}
use Rattle.atomic_table.specs.Seated.{TableId}
use Rattle.morsel_prims.specs.Polled.{BoardId}
use Rattle.morsel_load.specs.Loads.{held_token}
use Rattle.morsel_load.specs.declared.load.Load.{Load}

-- what the lanes of a site are for, the room that each asks for, and its board
pub record SiteSeen (J : Type 0) : Type 0 where
  pub job : J
  pub room : ℕ
  pub board : BoardId

-- an end of a lane on this table and for this job is one of the site
pub record IsEndAt {J : Type 0} (site : SiteSeen J) (table : TableId) (job : J) : Type 0 where
  pub at_home : table ≡ site.board.lane_table
  pub same_job : job ≡ site.job

-- a load's token, if it has one, is of a group of the site
abbrev pub HoldsTokenAt : {K J : Type 0} → (K → TableId) → SiteSeen J → Load K J → Type 0
HoldsTokenAt home site load = IfSome (held_token load) (λ token. home token ≡ site.board.group_table)

-- the sending ends and the receiving ends, the load and the group are of the site
pub record AreEnds {S R K G J : Type 0} (send_home : S → TableId) (send_job : S → J) (take_home : R → TableId) (take_job : R → J) (token_home : K → TableId) (group_home : G → TableId) (site : SiteSeen J) (entries : List S) (exits : List R) (held : Option (Load K J)) (group : Option G) : Type 0 where
  pub entries_at : All (λ end. IsEndAt site (send_home end) (send_job end)) entries
  pub exits_at : All (λ end. IsEndAt site (take_home end) (take_job end)) exits
  pub held_at : IfSome held (HoldsTokenAt token_home site)
  pub group_at : IfSome group (λ one. group_home one ≡ site.board.group_table)
