use Rattle.std.proofs.Common.{◌∙◌, ℕ, ap, subst, sym}
use Rattle.std.specs.Prelude.{replicate}
use Rattle.protocol.specs.Node.Common.{network_of, Net, sectors_of}
use Rattle.protocol.specs.World.Common.{with_rooms}
use Rattle.world.specs.WholeView.{world_of}
use Rattle.world.specs.WorldView.{capacities}
use Rattle.cobaltmidge.specs.Failing.{IsRunFault}
use Rattle.protocol.specs.Node.Sharing.{IsRoom, even_rooms}
use Rattle.cobaltmidge.proofs.Turns.{nearest_is_room, opens_first, rooms_given, run_refused}
use Rattle.std.proofs.lemmas.Grind.{elements}
use Rattle.std.proofs.Common.{arith}
use Rattle.cobaltmidge.proofs.opening.open_world.Goals as goal

pub returns-in-Err-clause-err : goal.returns-in-Err-clause-err
returns-in-Err-clause-err g c = λ threads.
    let share = c.in-Ok.share in
    let disks = c.in-Ok-empty_disks.disks.items in
    subst (IsRunFault threads) (sym (c.unbegun-in-Err.ensures.0 ∙ c.store_fault.ensures))
    (run_refused threads sectors_of (network_of share.value.program) 0 disks c.in-Err.refused.fault share.value.valid
    c.in-Ok-empty_disks.ensures.sectors c.in-Err.ensures.refused.why
    (λ is. record {
      disks = disks;
      backs = c.in-Err.refused.disks.items;
      sectors = c.in-Ok-empty_disks.ensures.sectors;
      failed = c.in-Err.ensures.refused.handed_back.failed is;
    }))

pub returns-clause-first : goal.returns-clause-first
returns-clause-first g c =
    let net = network_of c.args.net.now.value.program in
    let opened = world_of c.in-Ok-new.world in
    opens_first _ _ net _ c.args.inputs c.args.room c.args.outputs.items
    (world_of c.set_room.new.self) opened (ap (λ (n : Net). network_of n.program) c.in-Ok.ensures) _
    (c.in-Ok-empty_disks.ensures.unfailed ∙ ap (λ (n : ℕ). replicate n 0) c.requires.nodes)
    (c.in-Ok-set_room.ensures.set ∙ ap (λ (n : ℕ). with_rooms (even_rooms n) opened) c.nearest_room.ensures)
    c.in-Ok-new.ensures.made.opening
    c.requires.listed c.requires.unused c.requires.unfailed

pub returns-clause-room : goal.returns-clause-room
returns-clause-room g c =
    rooms_given sectors_of c.in-Ok-empty_disks.disks.items _
    (ap (λ stations. capacities stations) c.set_room.ensures.same.2 ∙ c.in-Ok-new.ensures.made.room)
    c.in-Ok-empty_disks.ensures.sectors

-- the outlets are back as they were
pub returns-in-Err-clause-handed_back : goal.returns-in-Err-clause-handed_back
returns-in-Err-clause-handed_back g c = rw c.unbegun-in-Err.ensures.1 c.in-Err.ensures.refused.same_outputs

-- the room is within its bounds
pub unreachable-requires : goal.unreachable-requires
unreachable-requires g c =
    c.in-Err-set_room.ensures.refused (subst IsRoom (sym c.nearest_room.ensures) (nearest_is_room c.args.room))

pub new-requires-clause-each : goal.new-requires-clause-each
new-requires-clause-each g c = grind (arith, elements)

pub returns-in_default-empty_disks-clause-err : goal.returns-in_default-empty_disks-clause-err
returns-in_default-empty_disks-clause-err g c = grind (arith, elements)
