-- Which channel needs more room.
--
-- A process that puts where there is no place waits for the consumer of that channel, and one that gets where nothing is at
-- hand waits for the channel's producer. So one way leads on from each process, from one that waits to the one for which it
-- waits. It ends at a process that goes on or has ended, at an input that is exhausted, or where what is put goes outside; or
-- it goes round and round. Where nobody on it goes on, a channel needs more room: that of the last process on the way that
-- is held for want of it. The way from this process comes back to it, or nobody else whom it comes to is held.
--
-- All this is said of the world as it stands. Whether one of these processes goes on later, though no channel gets more room,
-- is not said.
use Rattle.std.specs.Prelude.{◌≡◌, ◌&&◌, ◌⊎◌, ℕ, zero, suc, Bool, true, false, if◌then◌else◌, List, [], ◌∷◌, length, Option, Some, None}
use Rattle.std.specs.Prelude.{slice_get}
use Rattle.std.specs.List.{list_any}
use Rattle.ckpt_codec.specs.Common.{Network, Channel, Port, Outside, Process}
use Rattle.turns.specs.Turns.{or_else}
use Rattle.protocol.specs.Node.Layout.{has_process}
use Rattle.protocol.specs.Node.Sharing.{wider_at}
use Rattle.protocol.specs.World.Stances.{stance_of}
use Rattle.protocol.specs.World.Steps.{WorldView, with_rooms}
use Rattle.protocol.specs.declared.stance.Stance.{Stance}
use Rattle.protocol.specs.declared.stance.Stance.TheVariants.{GoesOn, Ended, Waits, Held, Full}

abbrev pub is_going : Stance → Bool
is_going GoesOn = true
is_going Ended = false
is_going (Waits channel) = false
is_going (Held channel) = false
is_going (Full channel) = false

-- the channel at which a process that stands so is held for want of room
abbrev pub held_on : Stance → Option ℕ
held_on GoesOn = None
held_on Ended = None
held_on (Waits channel) = None
held_on (Held channel) = Some channel
held_on (Full channel) = None

-- ---- the way on

-- the process at an end of a channel, if one is there
abbrev pub process_on : Port → Option ℕ
process_on Outside = None
process_on (Process process) = Some process

abbrev pub putter_of : Option Channel → Option ℕ
putter_of None = None
putter_of (Some channel) = process_on channel.producer

abbrev pub getter_of : Option Channel → Option ℕ
getter_of None = None
getter_of (Some channel) = process_on channel.consumer

-- the process for which one waits that stands so
abbrev pub awaited : Network → Stance → Option ℕ
awaited net GoesOn = None
awaited net Ended = None
awaited net (Waits channel) = putter_of (slice_get net.channels channel)
awaited net (Held channel) = getter_of (slice_get net.channels channel)
awaited net (Full channel) = getter_of (slice_get net.channels channel)

-- the processes on a way from this one on, at most so many
abbrev pub way : (ℕ → Option ℕ) → ℕ → Option ℕ → List ℕ
way next zero from = []
way next (suc count) None = []
way next (suc count) (Some process) = process ∷ way next count (next process)

-- the channel at which the last one of these is held that is held for want of room
abbrev pub last_held : (ℕ → Stance) → List ℕ → Option ℕ
last_held stance [] = None
last_held stance (process ∷ processes) = or_else (last_held stance processes) (held_on (stance process))

-- what the processes on a way need that nobody goes on
abbrev pub need_on : (ℕ → Stance) → List ℕ → Option ℕ
need_on stance processes =
    if list_any (λ (process : ℕ). is_going (stance process)) processes then None else last_held stance processes

-- The whole way from a process: one process more than there are, so that each one on it is there, and behind that the one
-- with which it goes round, if it does.
abbrev pub way_from : Network → (ℕ → Stance) → ℕ → List ℕ
way_from net stance process =
    way (λ (other : ℕ). awaited net (stance other)) (suc (length net.codes)) (Some process)

-- ---- what it is to need room

-- the process to which a way has led in so many steps
abbrev pub onward : (ℕ → Option ℕ) → ℕ → Option ℕ → Option ℕ
onward next zero from = from
onward next (suc steps) None = None
onward next (suc steps) (Some process) = onward next steps (next process)

-- The way from a process comes back to it; or nobody else whom it comes to is held for want of room.
abbrev pub IsLastHeld : (ℕ → Option ℕ) → (ℕ → Stance) → ℕ → Type 0
IsLastHeld next stance process =
    ((steps : ℕ) × (onward next (suc steps) (Some process) ≡ Some process))
    ⊎ ((steps other : ℕ) → onward next (suc steps) (Some process) ≡ Some other → held_on (stance other) ≡ None)

-- A process needs more room for a channel: its put there is held for want of it, nobody goes on to whom the way from it
-- comes, and it is the last one there that is held.
pub record NeedsRoom (net : Network) (stance : ℕ → Stance) (process channel : ℕ) : Type 0 where
  pub held : stance process ≡ Held channel
  pub stuck : (steps other : ℕ) → onward (λ (one : ℕ). awaited net (stance one)) steps (Some process) ≡ Some other
      → is_going (stance other) ≡ false
  pub last : IsLastHeld (λ (one : ℕ). awaited net (stance one)) stance process

-- ---- the channel that gets more

-- the first of so many numbers from this one on of which there is something
abbrev pub first_of_any : (ℕ → Option ℕ) → ℕ → ℕ → Option ℕ
first_of_any found first zero = None
first_of_any found first (suc count) = or_else (found first) (first_of_any found (suc first) count)

abbrev pub is_held : Stance → Bool
is_held GoesOn = false
is_held Ended = false
is_held (Waits channel) = false
is_held (Held channel) = true
is_held (Full channel) = false

-- what is needed on the way from a process, if it is one of this node and is held for want of room
abbrev pub need_of : Network → (ℕ → Stance) → ℕ → ℕ → Option ℕ
need_of net stance node process =
    if has_process net node process && is_held (stance process) then need_on stance (way_from net stance process) else None

-- the channel of a world that needs more room, by the first process of a node that is held and shows it
abbrev pub needed_for : WorldView → ℕ → Option ℕ
needed_for world node =
    first_of_any (need_of world.net (stance_of world.net world.inputs world.rooms world.stations) node) 0 (length world.net.codes)

-- ---- more room

-- a world in which this channel has so much
abbrev pub widened_at : ℕ → WorldView → WorldView
widened_at channel world = with_rooms (wider_at channel world.rooms) world
