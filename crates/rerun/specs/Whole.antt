-- The parts of a rerun without pointers.
use Rattle.std.specs.Prelude.{ℤ, List}
use Rattle.kahn_net.specs.Syntax.{Network, network_of}
use Rattle.rerun.specs.TableOf.{table_view}
use Rattle.rerun.specs.Tables.{TableView}
use Rattle.rerun.specs.declared.rerun.Rerun.{Rerun}

abbrev pub net_in : Rerun → Network
net_in rerun = network_of rerun.net.value.program

abbrev pub inputs_in : Rerun → List (List ℤ)
inputs_in rerun = rerun.inputs.value

abbrev pub table_in : Rerun → TableView
table_in rerun = table_view rerun.table
