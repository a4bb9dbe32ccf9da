-- The worlds with which a run begins.
use Rattle.std.specs.Prelude.{◌≡◌, ◌⊎◌, ℕ, List, [], length, map, Some, slice_get}
use Rattle.protocol.specs.Node.Common.{Fits, IsValid, node_count}
use Rattle.protocol.specs.World.Common.{opening_world, OutletView, output_channels, OutputView, WorldView}
use Rattle.rerun.specs.Tables.{HasRerun, IsInOrder, TableView}
use Rattle.resuming.specs.Images.{records_there}
use Rattle.resuming.specs.Resuming.{MayResume}
use Rattle.starting_again.specs.WasLeft.{OpensOver}

-- It was made for outlets that took nothing, one for each output: no process has begun, and nothing is in flight.
pub record IsMade (world : WorldView) : Type 0 where
  pub failures : List ℕ
  pub outlets : List OutletView
  pub each : length failures ≡ node_count world.net
  pub listed : map (λ (outlet : OutletView). outlet.channel) outlets ≡ output_channels 0 world.net.channels
  pub unused : (j : ℕ) (outlet : OutletView) → slice_get outlets j ≡ Some outlet → outlet.taken ≡ []
  pub is : world ≡ opening_world world.net world.inputs failures outlets

-- The processes of its network were run again, alone, and it was opened where they stand: each node is down with the
-- record of that, nothing is in flight, and what has left is what these outputs took.
pub record IsRunAgain (world : WorldView) : Type 0 where
  pub table : TableView
  pub outputs : List OutputView
  pub ordered : IsInOrder world.net world.inputs table
  pub rerun : ∥ HasRerun world.net world.inputs table ∥₁
  pub may : MayResume world.net world.inputs table outputs
  pub opens : OpensOver world.net world.inputs (records_there world.net table) outputs world

-- A run begins with it: it was made, or opened where the processes were run again, for a network and inputs that fit
-- it.
pub record Begins (world : WorldView) : Type 0 where
  pub valid : IsValid world.net
  pub fits : Fits world.net world.inputs
  pub how : IsMade world ⊎ IsRunAgain world
