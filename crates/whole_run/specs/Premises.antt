-- That what the calls of a world promise is what may happen in a run: each premise of `GoesOn` and `Begins` is a
-- clause.
use Rattle.std.specs.Prelude.{◌≡◌, ◌⊎◌, ℕ, ℤ, List, length, map, Option, IsPermutation}
use Rattle.std.specs.List.{AllByRecursion, AllZip}
use Rattle.std.specs.declared.alloc.Global.{Global}
use Rattle.std.specs.declared.sync.Arc.{Arc}
use Rattle.sector_disk.specs.declared.disk.Disk.{Ghosts as DiskWords}
use Rattle.gate_cell.specs.declared.cell.StableCell.{Ghosts as CellWords}
use Rattle.slot_cell.specs.declared.slot_cell.SlotCell.{Ghosts as SlotWords}
use Rattle.slot_cell.specs.declared.split.SplitCell.{SplitCell}
use Rattle.outlet.specs.declared.outlet.Outlet.{Ghosts as OutletWords}
use Rattle.protocol.specs.Node.Common.{Fits, Net, network_of, node_count, RecordView, Spells, Whole}
use Rattle.protocol.specs.World.Common.{EventView, output_channels, OutputView, ReplyView}
use Rattle.growing.specs.LaterInputs.{AreLaterInputs}
use Rattle.rerun.specs.Whole.{inputs_in as inputs_of, net_in as net_of, table_in}
use Rattle.rerun.specs.declared.rerun.Rerun.{Rerun}
use Rattle.resuming.specs.Disks.{IsResumed}
use Rattle.resuming.specs.Resuming.{Agrees}
use Rattle.starting_again.specs.WasLeft.{outputs_left}
use Rattle.station.specs.OutputView.{output_view}
use Rattle.station.specs.declared.output.Output.{Output}
use Rattle.world.specs.Applied.{IsApplied}
use Rattle.world.specs.Closing.{all_outputs, disks_of}
use Rattle.world.specs.NewWorld.{IsNew}
use Rattle.world.specs.OpeningWorld.{IsUnused}
use Rattle.world.specs.RecoveryLine.{AreLeftSince}
use Rattle.world.specs.ReopenedWorld.{IsReopened}
use Rattle.world.specs.WholeView.{inputs_in, net_in, stations_in, world_of}
use Rattle.world.specs.declared.world.World.{World}
use Rattle.whole_run.specs.Beginnings.{Begins}
use Rattle.whole_run.specs.Moments.{MayBeFound}
use Rattle.whole_run.specs.Runs.{GoesOn}

-- An event of which `World::apply` or `World::step` promises what it does, made or refused, is one of a run.
abbrev pub EventGoesOn : {C O : Type 0} {cell : CellWords C} {slots : SlotWords C} {outlet : OutletWords O}
    → World C O slots cell outlet → World C O slots cell outlet → Type 0
EventGoesOn old new = (event : EventView) (answer : Option ReplyView) → IsApplied event old new answer
    → GoesOn (world_of old) (world_of new)

-- Whatever records a crash of all nodes leaves at moments of the event, and what had left before it or has left by its
-- end: these may be found there.
abbrev pub CrashIsFound : {C O : Type 0} {cell : CellWords C} {slots : SlotWords C} {outlet : OutletWords O}
    → World C O slots cell outlet → World C O slots cell outlet → Type 0
CrashIsFound old new = (event : EventView) (answer : Option ReplyView) (lefts : List Whole) (records : List RecordView)
    (outputs : List OutputView) → IsApplied event old new answer
    → AreLeftSince (stations_in old) (stations_in new) lefts → AllZip Spells records lefts
    → (outputs ≡ outputs_left (world_of old)) ⊎ (outputs ≡ outputs_left (world_of new))
    → MayBeFound (world_of old) records outputs

-- So is a stop: the world was closed, and one was opened over the disks and the outputs that came back, of the same
-- network on later inputs.
abbrev pub StopGoesOn : {D O : Type 0} {disk : DiskWords D} {cell : CellWords (SplitCell D disk)}
    {slots : SlotWords (SplitCell D disk)} {outlet : OutletWords O}
    → World (SplitCell D disk) O slots cell outlet → World (SplitCell D disk) O slots cell outlet → Type 0
StopGoesOn {D} {O} old new = (net : Arc Net Global) (inputs : List (List ℤ)) (outputs : List (Output O))
    → IsPermutation (all_outputs (stations_in old)) outputs
    → map (λ (output : Output O). output.channel) outputs
    ≡ output_channels 0 (network_of (net_in old).value.program).channels
    → network_of net.value.program ≡ network_of (net_in old).value.program
    → AreLaterInputs (network_of (net_in old).value.program) (inputs_in old) inputs
    → IsReopened net inputs (disks_of (stations_in old)) outputs new
    → GoesOn (world_of old) (world_of new)

-- A run begins with a world that `World::new` made,
abbrev pub NewBegins : {D O : Type 0} {disk : DiskWords D} {cell : CellWords (SplitCell D disk)}
    {slots : SlotWords (SplitCell D disk)} {outlet : OutletWords O} → World (SplitCell D disk) O slots cell outlet
    → Type 0
NewBegins {D} {O} {outlet = outlet} world =
    (net : Arc Net Global) (inputs : List (List ℤ)) (versions : List ℕ) (disks : List D) (outputs : List (Output O))
    → Fits (network_of net.value.program) inputs → length disks ≡ node_count (network_of net.value.program)
    → map (λ (output : Output O). output.channel) outputs ≡ output_channels 0 (network_of net.value.program).channels
    → AllByRecursion (IsUnused outlet.taken) outputs → IsNew net inputs versions disks outputs world
    → Begins (world_of world)

-- and with one that `resume` opened where the processes were run again.
abbrev pub ResumedBegins : {D O : Type 0} {disk : DiskWords D} {cell : CellWords (SplitCell D disk)}
    {slots : SlotWords (SplitCell D disk)} {outlet : OutletWords O} → Rerun
    → World (SplitCell D disk) O slots cell outlet
    → Type 0
ResumedBegins {D} {O} {outlet = outlet} rerun world = (disks : List D) (outputs : List (Output O))
    → map (λ (output : Output O). output.channel) outputs ≡ output_channels 0 (net_of rerun).channels
    → AllByRecursion (λ (output : Output O). Agrees (net_of rerun) (inputs_of rerun) (table_in rerun)
    (output_view outlet.taken output)) outputs
    → IsResumed (net_of rerun) (inputs_of rerun) (table_in rerun) disks outputs world
    → Begins (world_of world)
