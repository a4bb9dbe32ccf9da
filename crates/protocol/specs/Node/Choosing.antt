-- Which process of a node goes on next, and the job that it is given.
use Rattle.std.specs.Prelude.{ℕ, Bool, true, false, ◌&&◌, ◌==◌, nat_lt, if◌then◌else◌, ℤ, List, length, map, find}
use Rattle.std.specs.Prelude.{is_some, Option, Some, None, slice_get}
use Rattle.std.specs.List.{range_with_len}
use Rattle.ckpt_codec.specs.Common.{history_of, Code, Network, Standing, Channel, Port, Outside, Process}
use Rattle.ckpt_codec.specs.Common.{SavedProcessView, ImageView, received_of, MAX_COUNT}
use Rattle.kahn_net.specs.Common.{Next, Gets, Puts, NoNext, next_of}
use Rattle.kahn_net.specs.NextActs.{Begins}
use Rattle.record.specs.Ends.{sent_in}
use Rattle.turns.specs.Turns.{next_in_turn}
use Rattle.protocol.specs.Node.JobView.{JobView}
use Rattle.protocol.specs.Node.NodeView.{NodeView, RunningView, RunningNode, running_of, on_running}
use Rattle.protocol.specs.Node.Granting.{source_of, room_of, job_for}
use Rattle.protocol.specs.Node.Sharing.{retained_share}
use Rattle.protocol.specs.Node.Modes.{is_none}
use Rattle.protocol.specs.Node.Plans.{Prospect, Undue, becoming}
use Rattle.protocol.specs.declared.links.Inbox.{Inbox}

-- a next item is at hand of a channel whose items come from there: of an input, or of the log from which the channel is
-- got
abbrev pub has_next : List (List ℤ) → ImageView → List Inbox → ℕ → Port → Bool
has_next inputs image inboxes channel Outside = nat_lt (received_of image channel) (length (history_of inputs channel))
has_next inputs image inboxes channel (Process p) =
    nat_lt (received_of image channel) (sent_in (source_of image inboxes channel))

abbrev pub has_item : List (List ℤ) → ImageView → List Inbox → ℕ → Option Channel → Bool
has_item inputs image inboxes channel None = false
has_item inputs image inboxes channel (Some ends) = has_next inputs image inboxes channel ends.producer

-- there is room on a channel, where the log of each has places up to its share
abbrev pub has_room : (ℕ → ℕ) → ImageView → ℕ → Option Channel → Bool
has_room share image channel None = false
has_room share image channel (Some ends) = nat_lt 0 (room_of (share channel) image channel)

-- this can be done: the process hasn't begun, or gets where an item is at hand, or puts where there is room
abbrev pub can_go : Network → List (List ℤ) → (ℕ → ℕ) → ImageView → List Inbox → Next → Bool
can_go net inputs share image inboxes Begins = true
can_go net inputs share image inboxes (Gets channel) =
    has_item inputs image inboxes channel (slice_get net.channels channel)
can_go net inputs share image inboxes (Puts channel) = has_room share image channel (slice_get net.channels channel)
can_go net inputs share image inboxes NoNext = false

abbrev pub next_at : Option Code → Standing → Next
next_at None standing = NoNext
next_at (Some code) standing = next_of code standing

-- a process is ready
abbrev pub is_ready : Network → List (List ℤ) → (ℕ → ℕ) → ImageView → List Inbox → SavedProcessView → Bool
is_ready net inputs share image inboxes saved =
    can_go net inputs share image inboxes (next_at (slice_get net.codes saved.number) saved.standing)

-- the process of this number, if it is here and ready
abbrev pub ready_process : Network → List (List ℤ) → (ℕ → ℕ) → ImageView → List Inbox → ℕ → Option SavedProcessView
ready_process net inputs share image inboxes number =
    find (λ (saved : SavedProcessView). (saved.number == number) && is_ready net inputs share image inboxes saved)
    image.processes

-- whether each of the network's processes is here and ready, in order of their numbers
unfoldable pub ready_processes : Network → List (List ℤ) → (ℕ → ℕ) → ImageView → List Inbox → List Bool
ready_processes net inputs share image inboxes =
    map (λ (number : ℕ). is_some (ready_process net inputs share image inboxes number))
    (range_with_len 0 (length net.codes))

abbrev pub process_at : Network → List (List ℤ) → (ℕ → ℕ) → ImageView → List Inbox → Option ℕ → Option SavedProcessView
process_at net inputs share image inboxes None = None
process_at net inputs share image inboxes (Some number) = ready_process net inputs share image inboxes number

-- the ready process that is next in turn behind the one granted last
abbrev pub next_process : Network → List (List ℤ) → (ℕ → ℕ) → ImageView → List Inbox → Option ℕ → Option SavedProcessView
next_process net inputs share image inboxes last =
    process_at net inputs share image inboxes (next_in_turn last (ready_processes net inputs share image inboxes))

-- a node that runs may grant a job: it holds no tentative image, has no job out, and its version isn't the greatest
abbrev pub may_grant : RunningNode → Bool
may_grant node = is_none node.kept.tentative && (is_none node.out && nat_lt node.version MAX_COUNT)

abbrev pub job_of : Network → List (List ℤ) → (ℕ → ℕ) → RunningNode → Option SavedProcessView → Option JobView
job_of net inputs share node None = None
job_of net inputs share node (Some saved) =
    Some (job_for share net inputs node.current node.inboxes saved.number saved.standing node.version)

-- the job that it grants next where the log of each channel has places up to its share, if it may grant one and a process is ready
abbrev pub job_up_to : Network → List (List ℤ) → (ℕ → ℕ) → RunningNode → Option JobView
job_up_to net inputs share node =
    if may_grant node then job_of net inputs share node
    (next_process net inputs share node.current node.inboxes node.last) else None

-- the job that may be granted next at a node that runs, if one may, where the world gives its channels these rooms
abbrev pub next_job : Network → List (List ℤ) → List ℕ → RunningNode → Option JobView
next_job net inputs rooms node = job_up_to net inputs (retained_share rooms node.current) node

-- and then, where a job was granted
abbrev pub after_grant : Option JobView → RunningNode → RunningNode
after_grant None node = node
after_grant (Some job) node = record node { out = Some job; last = Some job.process }

-- the job that a node grants next, if it runs, where the world gives its channels these rooms
abbrev pub job_at : Network → List (List ℤ) → List ℕ → Option RunningNode → Option JobView
job_at net inputs rooms None = None
job_at net inputs rooms (Some node) = next_job net inputs rooms node

abbrev pub node_job : Network → List (List ℤ) → List ℕ → NodeView → Option JobView
node_job net inputs rooms node = job_at net inputs rooms (running_of node)

-- the node after a job was granted, or as it was
abbrev pub granted : Option JobView → RunningView → RunningView
granted None running = running
granted (Some job) running = record running { out = Some job; last = Some job.process }

abbrev pub with_grant : Option JobView → NodeView → NodeView
with_grant job node = on_running (granted job) node

-- what a `Grant` comes to: the next job is granted, where there is one
abbrev pub grant_prospect : Option JobView → NodeView → Prospect
grant_prospect None node = Undue
grant_prospect (Some job) node = becoming (with_grant (Some job) node)
