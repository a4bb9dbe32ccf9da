-- A process's state, as the program holds it, and where the process stands by it.
use Rattle.std.specs.Prelude.{ℤ, List}
use Rattle.kahn_net.specs.declared.state.Place.{Place}
use Rattle.kahn_net.specs.declared.state.Mode.{Mode}
use Rattle.kahn_net.specs.declared.state.Mode.TheVariants.{NotBegun, At, Finished}
use Rattle.kahn_net.specs.declared.state.ProcState.{ProcState}
use Rattle.kahn_net.specs.Statements.{Point, point_at}
use Rattle.kahn_net.specs.Processes.{Standing}
use Rattle.kahn_net.specs.Processes as stands

abbrev pub point_of : Place → Point
point_of place = point_at place.site place.left.items

abbrev pub standing_in : Mode → List ℤ → Standing
standing_in NotBegun vars = stands.NotBegun vars
standing_in (At place) vars = stands.At (point_of place) vars
standing_in Finished vars = stands.Done vars

abbrev pub standing_of : ProcState → Standing
standing_of state = standing_in state.mode state.variables.items
