-- How an event came out among the stations of a world.
use Rattle.std.specs.Prelude.{◌≡◌, ℕ, Bool, List, slice_get}
use Rattle.protocol.specs.Node.Common.{RecordView}
use Rattle.protocol.specs.World.Common.{Traffic, EventView, ReplyView, StationView, IsAct, Setting, traffic_after}
use Rattle.protocol.specs.declared.outcome.Outcome.{Outcome}

-- an event at the station of this number came out so, where there is one
pub record HasActed (setting : Setting) (number : ℕ) (rooms : List (RecordView → Bool)) (event : EventView)
    (olds : List StationView) (answer : ReplyView) (news : List StationView) (flown : Traffic) : Type 0 where
  pub came : Outcome
  pub act : IsAct setting number rooms event came olds answer news
  pub traffic : flown ≡ traffic_after setting event came answer (slice_get olds number)
