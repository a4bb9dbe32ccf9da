-- What an event is lent, as data.
use Rattle.std.specs.Prelude.{ℕ, ℤ, List}
use Rattle.protocol.specs.Node.Common.{Network, network_of}
use Rattle.protocol.specs.World.Common.{Setting, Traffic}
use Rattle.protocol.specs.World.Steps.{setting_in}
use Rattle.station.specs.declared.lent.Lent.{Lent}

-- the network that is lent
abbrev pub net_lent : Lent → Network
net_lent lent = network_of lent.net.now.value.program

-- the inputs
abbrev pub inputs_lent : Lent → List (List ℤ)
inputs_lent lent = lent.inputs.now.came

-- how many items of each input were let go of
abbrev pub bases_lent : Lent → List ℕ
bases_lent lent = lent.inputs.now.bases

-- what an event finds around its station, with this in flight
abbrev pub setting_by : Lent → Traffic → Setting
setting_by lent traffic = setting_in (net_lent lent) (inputs_lent lent) traffic lent.round lent.rooms.now
