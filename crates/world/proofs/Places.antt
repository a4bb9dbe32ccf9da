-- Places of nodes.
use Rattle.std.proofs.Common.{◌≡◌, ℕ, ◌<◌, length, Some, arith}
use Rattle.std.specs.Prelude.{slice_get}
use Rattle.std.proofs.lemmas.Option.{slice_get_within}
use Rattle.protocol_laws.specs.Node.PlaceLaws.{nodes_few}
use Rattle.protocol.specs.World.Common.{WorldInvariant, StationView, WorldView, NODES}

-- each is one to which packets may go
pub few_places : (world : WorldView) (node : ℕ) → WorldInvariant world → node < length world.stations → node < NODES
few_places world node inv within =
    let count = inv.count in
    let few = nodes_few world.net inv.valid in
    omega (arith, count, few, within)

-- and so is the number of a station
pub number_few : (world : WorldView) (node : ℕ) (station : StationView) → WorldInvariant world
    → slice_get world.stations node ≡ Some station → station.number < NODES
number_few world node station inv there =
    let few = few_places world node inv (slice_get_within world.stations node station there) in
    let number = (inv.numbered node station there).0 in
    omega (arith, few, number)
