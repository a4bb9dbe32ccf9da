-- What a job has at hand, and the room that it has.
use Rattle.std.specs.Prelude.{ℕ, suc, ◌-◌, min, Bool, false, ◌==◌, if◌then◌else◌, ℤ, List, [], ◌∷◌, length, take, drop}
use Rattle.std.specs.Prelude.{find, Option, Some, None, option_map, slice_get}
use Rattle.ckpt_codec.specs.Common.{history_of, Network, Standing, Channel, Port, Outside, Process, LogState}
use Rattle.ckpt_codec.specs.Common.{ImageView, received_of, MAX_COUNT}
use Rattle.retained.specs.LogState.{log_end, items_since}
use Rattle.record.specs.Ends.{log_of}
use Rattle.protocol.specs.Node.JobView.{JobView}
use Rattle.protocol.specs.declared.limits.TheConstants.{MAX_JOB_ITEMS}
use Rattle.protocol.specs.declared.links.Inbox.{Inbox}

-- this process stands at an end of a channel
abbrev pub is_process : ℕ → Port → Bool
is_process process Outside = false
is_process process (Process p) = p == process

-- the log of the inbox of this channel, the first of the list
abbrev pub inbox_log : List Inbox → ℕ → Option LogState
inbox_log inboxes channel =
    option_map (λ (inbox : Inbox). inbox.log) (find (λ (inbox : Inbox). inbox.channel == channel) inboxes)

abbrev pub first_log : Option LogState → Option LogState → Option LogState
first_log (Some log) other = Some log
first_log None other = other

-- the log from which a process of the node gets the items of a channel: the node's own one, or else that of the inbox
abbrev pub source_of : ImageView → List Inbox → ℕ → Option LogState
source_of image inboxes channel = first_log (log_of image channel) (inbox_log inboxes channel)

-- the items of a log that come next behind so many
abbrev pub next_in_log : ℕ → Option LogState → List ℤ
next_in_log received None = []
next_in_log received (Some log) = take MAX_JOB_ITEMS (items_since log received)

-- The items of a channel that are at hand where so many were received, at most 64: those that come next of an input, or
-- of the log from which the channel is got.
abbrev pub items_by : List (List ℤ) → ℕ → Port → ℕ → Option LogState → List ℤ
items_by inputs channel Outside received log = take MAX_JOB_ITEMS (drop received (history_of inputs channel))
items_by inputs channel (Process p) received log = next_in_log received log

abbrev pub next_items : List (List ℤ) → ImageView → List Inbox → ℕ → Port → List ℤ
next_items inputs image inboxes channel producer =
    items_by inputs channel producer (received_of image channel) (source_of image inboxes channel)

-- the items that a process has at hand of each channel from this number on: at most 64 of one from which it gets, and
-- none of any other
abbrev pub items_from : List (List ℤ) → ImageView → List Inbox → ℕ → ℕ → List Channel → List (List ℤ)
items_from inputs image inboxes process number [] = []
items_from inputs image inboxes process number (channel ∷ channels) =
    (if is_process process channel.consumer then next_items inputs image inboxes number channel.producer else [])
    ∷ items_from inputs image inboxes process (suc number) channels

-- the places that a log of at most so many items has for a job: at most 64, and no more than fit
abbrev pub room_in : ℕ → Option LogState → ℕ
room_in share None = 0
room_in share (Some log) = min MAX_JOB_ITEMS (min (share - length log.items) (MAX_COUNT - log_end log))

-- the places that the log of a channel has, up to this share
abbrev pub room_of : ℕ → ImageView → ℕ → ℕ
room_of share image channel = room_in share (log_of image channel)

-- the room that a process has on each channel from this number on, where the log of each has places up to its share: at
-- most 64 places on one on which it puts, and none on any other
abbrev pub room_from : (ℕ → ℕ) → ImageView → ℕ → ℕ → List Channel → List ℕ
room_from share image process number [] = []
room_from share image process number (channel ∷ channels) =
    (if is_process process channel.producer then room_of (share number) image number else 0)
    ∷ room_from share image process (suc number) channels

-- the job of a process that stands there, where the log of each channel has places up to its share
abbrev pub job_for : (ℕ → ℕ) → Network → List (List ℤ) → ImageView → List Inbox → ℕ → Standing → ℕ → JobView
job_for share net inputs image inboxes process standing version = record {
  process = process;
  code = slice_get net.codes process;
  version = version;
  standing = standing;
  items = items_from inputs image inboxes process 0 net.channels;
  room = room_from share image process 0 net.channels;
}
