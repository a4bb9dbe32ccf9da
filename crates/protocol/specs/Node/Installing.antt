-- An image after a turn of one of its processes.
use Rattle.std.specs.Prelude.{◌≡◌, ℕ, ◌+◌, ◌≤◌, Bool, true, false, ◌==◌, if◌then◌else◌, ℤ, List, [], ◌∷◌, length, map}
use Rattle.std.specs.Prelude.{Option, Some, None, slice_get, slice_index}
use Rattle.ckpt_codec.specs.Common.{history_of, Standing, Channel, pushed, counted, LogTakes, SavedProcessView}
use Rattle.ckpt_codec.specs.Common.{ImageView, SavedEnd, MAX_COUNT}
use Rattle.record.specs.Changes.{trimmed_log}
use Rattle.record.specs.Ends.{received_at, log_at}
use Rattle.protocol.specs.Node.JobView.{JobView}
use Rattle.protocol.specs.Node.NodeView.{NodeView, ModeView, Down, InDoubt, Runs, RunningView, RunningNode}
use Rattle.protocol.specs.Node.NodeView.{on_running}
use Rattle.protocol.specs.Node.Granting.{is_process}
use Rattle.protocol.specs.Node.Popping.{popping}
use Rattle.protocol.specs.declared.links.Inbox.{Inbox}

-- this process gets from the channel, or puts on it
abbrev pub is_consumer : ℕ → Option Channel → Bool
is_consumer process None = false
is_consumer process (Some channel) = is_process process channel.consumer

abbrev pub is_producer : ℕ → Option Channel → Bool
is_producer process None = false
is_producer process (Some channel) = is_process process channel.producer

-- what this process took from a channel, and what it put there
abbrev pub taken_from : List Channel → ℕ → List ℕ → ℕ → ℕ
taken_from channels process taken channel =
    if is_consumer process (slice_get channels channel) then slice_index taken channel else 0

abbrev pub put_on : List Channel → ℕ → List (List ℤ) → ℕ → List ℤ
put_on channels process sent channel =
    if is_producer process (slice_get channels channel) then history_of sent channel else []

abbrev pub saved_pushed : List Channel → ℕ → List (List ℤ) → SavedEnd → SavedEnd
saved_pushed channels process sent saved =
    record { channel = saved.channel; end = pushed (put_on channels process sent saved.channel) saved.end }

abbrev pub saved_counted : List Channel → ℕ → List ℕ → SavedEnd → SavedEnd
saved_counted channels process taken saved =
    record { channel = saved.channel; end = counted (taken_from channels process taken saved.channel) saved.end }

-- the first process of this number stands there now
abbrev pub moved : ℕ → Standing → List SavedProcessView → List SavedProcessView
moved process standing [] = []
moved process standing (saved ∷ processes) =
    if saved.number == process then record { number = saved.number; standing = standing } ∷ processes else saved
    ∷ moved process standing processes

-- An image after a turn of this process: where it stands then, how many items it took from each channel, and what it
-- sent on each.
abbrev pub installed : List Channel → ℕ → Standing → List ℕ → List (List ℤ) → ImageView → ImageView
installed channels process standing taken sent image = record {
  processes = moved process standing image.processes;
  ends = map (saved_counted channels process taken) (map (saved_pushed channels process sent) image.ends);
}

-- an inbox without what this process took of its channel
abbrev pub inbox_taken : List Channel → ℕ → List ℕ → Inbox → Inbox
inbox_taken channels process taken inbox =
    record {
      channel = inbox.channel;
      window = inbox.window;
      log =
          trimmed_log (inbox.log.base + taken_from channels process taken inbox.channel) inbox.log;
      undone = inbox.undone;
    }

-- and with what its window held for the places that are free then
abbrev pub inbox_turned : List Channel → ℕ → List ℕ → Inbox → Inbox
inbox_turned channels process taken inbox = popping (inbox_taken channels process taken inbox)

abbrev pub inboxes_turned : List Channel → ℕ → List ℕ → List Inbox → List Inbox
inboxes_turned channels process taken inboxes = map (inbox_turned channels process taken) inboxes

-- an end takes what the turn took and put
pub record EndTakes (channels : List Channel) (process : ℕ) (taken : List ℕ) (sent : List (List ℤ))
    (saved : SavedEnd) : Type 0 where
  pub received : received_at (Some (saved.end)) + taken_from channels process taken saved.channel ≤ MAX_COUNT
  pub put : LogTakes (length (put_on channels process sent saved.channel)) (log_at (Some (saved.end)))

-- the turn fits the image: no count and no log comes past its limit
abbrev pub ImageTakes : List Channel → ℕ → List ℕ → List (List ℤ) → ImageView → Type 0
ImageTakes channels process taken sent image =
    (k : ℕ) (saved : SavedEnd) → slice_get image.ends k ≡ Some saved → EndTakes channels process taken sent saved

-- a node that runs after the turn on the job that was out
abbrev pub with_turn : List Channel → ℕ → Standing → List ℕ → List (List ℤ) → RunningNode → RunningNode
with_turn channels process standing taken sent node = record node {
  current = installed channels process standing taken sent node.current;
  out = None;
  inboxes = inboxes_turned channels process taken node.inboxes;
}

-- the same of what it has in memory; and how what comes back is taken in there, or left
abbrev pub turned : List Channel → ℕ → Standing → List ℕ → List (List ℤ) → RunningView → RunningView
turned channels process standing taken sent running = record running {
  current = installed channels process standing taken sent running.current;
  out = None;
  inboxes = inboxes_turned channels process taken running.inboxes;
}

abbrev pub IsTaken : List Channel → JobView → Standing → List ℕ → List (List ℤ) → RunningView → Bool → RunningView
    → Type 0
IsTaken channels job standing taken sent old true new =
    (old.out ≡ Some job) × (new ≡ turned channels job.process standing taken sent old)
IsTaken channels job standing taken sent old false new = ¬ (old.out ≡ Some job) × (new ≡ old)

-- what comes back is of the job that is out at a node that runs
abbrev pub IsOut : JobView → ModeView → Type 0
IsOut job Down = ⊥
IsOut job InDoubt = ⊥
IsOut job (Runs running) = running.out ≡ Some job

-- the turn fits what the node has now
abbrev pub TakesTurn : List Channel → ℕ → List ℕ → List (List ℤ) → ModeView → Type 0
TakesTurn channels process taken sent Down = Unit {0}
TakesTurn channels process taken sent InDoubt = Unit {0}
TakesTurn channels process taken sent (Runs running) = ImageTakes channels process taken sent running.current

-- a turn that comes back is taken in exactly where its job is the one that is out, and else changes nothing
abbrev pub IsInstall : List Channel → JobView → Standing → List ℕ → List (List ℤ) → NodeView → Bool → NodeView → Type 0
IsInstall channels job standing taken sent old true new =
    IsOut job old.mode × (new ≡ on_running (turned channels job.process standing taken sent) old)
IsInstall channels job standing taken sent old false new = ¬ (IsOut job old.mode) × (new ≡ old)
