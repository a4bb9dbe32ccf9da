-- How a process stands, as its node alone has it: whether it can go on, and else what it waits for.
--
-- What is said of a process speaks of its own next act, and of the one channel of that act, so that it is the same whatever
-- goes on elsewhere on the node.
use Rattle.std.specs.Prelude.{◌==◌, ℕ, nat_lt, Bool, false, if◌then◌else◌, ℤ, List, find, Option, Some, None, slice_get}
use Rattle.ckpt_codec.specs.Common.{Network, MAX_COUNT, SavedProcessView, ImageView}
use Rattle.kahn_net.specs.Common.{Next, Gets, Puts, NoNext}
use Rattle.kahn_net.specs.NextActs.{Begins}
use Rattle.protocol.specs.Node.Choosing.{has_item, has_room, next_at}
use Rattle.protocol.specs.Node.JobView.{JobView}
use Rattle.protocol.specs.Node.NodeView.{RunningNode}
use Rattle.protocol.specs.Node.Sharing.{full_share, retained_share}
use Rattle.protocol.specs.declared.links.Inbox.{Inbox}
use Rattle.protocol.specs.declared.stance.Stance.{Stance}
use Rattle.protocol.specs.declared.stance.Stance.TheVariants.{GoesOn, Ended, Waits, Held, Full}

-- it is for this process that a job is out
abbrev pub is_of : ℕ → Option JobView → Bool
is_of process None = false
is_of process (Some job) = job.process == process

module _ (net : Network) (inputs : List (List ℤ)) (rooms : List ℕ) where
  -- where a process puts on a channel whose log has no place: more room for the channel makes one, or none does
  abbrev pub stance_at_put : ImageView → ℕ → Stance
  stance_at_put image channel =
      if has_room (full_share image) image channel (slice_get net.channels channel) then Held channel else Full channel

  -- where this comes next, at a node with this image and these inboxes
  abbrev pub stance_before : ImageView → List Inbox → Next → Stance
  stance_before image inboxes Begins = GoesOn
  stance_before image inboxes (Gets channel) =
      if has_item inputs image inboxes channel (slice_get net.channels channel) then GoesOn else Waits channel
  stance_before image inboxes (Puts channel) =
      if has_room (retained_share rooms image) image channel (slice_get net.channels channel) then GoesOn else
      stance_at_put image channel
  stance_before image inboxes NoNext = Ended

  -- A process whose job is out goes on, and so does one for which a job can be granted, now or once its node holds no
  -- image and has no job out. A node at the greatest version grants none any more.
  abbrev pub stance_in : RunningNode → SavedProcessView → Stance
  stance_in node saved =
      if is_of saved.number node.out then GoesOn
      else (if nat_lt node.version MAX_COUNT
      then stance_before node.current node.inboxes (next_at (slice_get net.codes saved.number) saved.standing) else Ended)

  -- a process that isn't there does nothing more
  abbrev pub stance_there : RunningNode → Option SavedProcessView → Stance
  stance_there node None = Ended
  stance_there node (Some saved) = stance_in node saved

  -- how the process of this number stands at a node that runs
  abbrev pub own_stance : ℕ → RunningNode → Stance
  own_stance process node =
      stance_there node (find (λ (saved : SavedProcessView). saved.number == process) node.current.processes)
