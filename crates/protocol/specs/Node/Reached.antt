-- How far a node has come: its images stand where its processes stand after so many acts, on one approximation of the
-- network's histories.
use Rattle.std.specs.Prelude.{◌≡◌, ℕ, ◌≤◌, ◌==◌, Bool, true, false, ℤ, List, [], map, length, take, drop, find, Option}
use Rattle.std.specs.Prelude.{Some, None, slice_get, slice_index}
use Rattle.ckpt_codec.specs.Common.{history_of, IsPrefix, Code, Network, Standing, approximation, Channel, Outside}
use Rattle.ckpt_codec.specs.Common.{Process, LogState, SavedProcessView, ImageView, received_of, SavedEnd, Receives}
use Rattle.ckpt_codec.specs.Common.{Sends, Tentative, MAX_COUNT}
use Rattle.kahn_net.specs.Common.{Step, StandsAt, process_trace, sent_on}
use Rattle.kahn_net.specs.Processes.{got_on}
use Rattle.proc_step.specs.Turns.{IsTurn}
use Rattle.retained.specs.LogState.{IsLogOf, IsInLog, log_end}
use Rattle.record.specs.Ends.{received_at, log_at}
use Rattle.ckpt_codec.specs.RecordText.{role_of}
use Rattle.window_link.specs.Laws.Holding.{HoldsOf}
use Rattle.protocol.specs.Node.JobView.{JobView}
use Rattle.protocol.specs.Node.Layout.{role_here, processes_on, ends_on, incoming_on, outgoing_on}
use Rattle.protocol.specs.Node.NodeView.{RunningNode}
use Rattle.protocol.specs.Node.Sharing.{log_share, full_share, IsWithinShare}
use Rattle.protocol.specs.Node.Granting.{items_from, room_from}
use Rattle.record.specs.declared.image.End.{End}
use Rattle.record.specs.declared.image.End.TheVariants.{Both}
use Rattle.protocol.specs.declared.links.Inbox.{Inbox}
use Rattle.protocol.specs.declared.links.Outbox.{Outbox}
use Rattle.protocol.specs.declared.limits.TheConstants.{MAX_INBOX_ITEMS}

-- the first m acts of a process on these histories
abbrev pub first_acts : Option Code → List (List ℤ) → ℕ → List Step
first_acts None histories m = []
first_acts (Some code) histories m = take m (process_trace code histories).steps

-- the acts of the process of this number, of which so many of each process were made
abbrev pub acts_of : Network → List (List ℤ) → (ℕ → ℕ) → ℕ → List Step
acts_of net histories made process = first_acts (slice_get net.codes process) histories (made process)

-- an end counts what it receives
abbrev pub is_counting : End → Bool
is_counting (Receives received) = true
is_counting (Sends log) = false
is_counting (Both received log) = true

-- an end of a channel counts the items that its process got, where it receives, and retains the last ones that its
-- process put
pub record EndStands (net : Network) (histories : List (List ℤ)) (made : ℕ → ℕ) (number : ℕ) (channel : Channel)
    (end : End) : Type 0 where
  pub received : (p : ℕ) → channel.consumer ≡ Process p → is_counting end ≡ true
      → received_at (Some end) ≡ length (got_on number (acts_of net histories made p))
  pub retained : (p : ℕ) (log : LogState) → channel.producer ≡ Process p → log_at (Some end) ≡ Some log
      → IsLogOf log (sent_on number (acts_of net histories made p))

-- an image stands where each of its processes has made so many acts
pub record ImageStands (net : Network) (histories : List (List ℤ)) (made : ℕ → ℕ) (image : ImageView) : Type 0 where
  pub processes : (k : ℕ) (saved : SavedProcessView) (code : Code) → slice_get image.processes k ≡ Some saved
      → slice_get net.codes saved.number ≡ Some code
      → StandsAt code histories (made saved.number) saved.standing
  pub ends : (k : ℕ) (saved : SavedEnd) (channel : Channel) → slice_get image.ends k ≡ Some saved
      → slice_get net.channels saved.channel ≡ Some channel
      → EndStands net histories made saved.channel channel saved.end

-- one has come at least as far as another
abbrev pub IsAsFar : (ℕ → ℕ) → (ℕ → ℕ) → Type 0
IsAsFar made later = (p : ℕ) → made p ≤ later p

-- The permanent image, the tentative one if it is held, and what the node has now stand on one approximation, one after
-- another.
pub record HasReached (net : Network) (inputs : List (List ℤ)) (node : RunningNode) : Type 0 where
  pub n : ℕ
  pub permanent_acts : ℕ → ℕ
  pub held_acts : ℕ → ℕ
  pub current_acts : ℕ → ℕ
  pub permanent : ImageStands net (approximation net inputs n) permanent_acts node.kept.permanent
  pub held : (tentative : Tentative) → node.kept.tentative ≡ Some tentative
      → ImageStands net (approximation net inputs n) held_acts tentative.image
  pub current : ImageStands net (approximation net inputs n) current_acts node.current
  pub held_after : IsAsFar permanent_acts held_acts
  pub current_after : IsAsFar held_acts current_acts

-- An image of a node has one entry for each of its processes and for each channel of which it has an end, in order of
-- their numbers, and an end has the role that the node has there.
pub record IsLaidOut (net : Network) (home : ℕ) (image : ImageView) : Type 0 where
  pub processes : map (λ (saved : SavedProcessView). saved.number) image.processes ≡ processes_on net home
  pub ends : map (λ (saved : SavedEnd). saved.channel) image.ends ≡ ends_on net home
  pub roles : (k : ℕ) (saved : SavedEnd) (channel : Channel) → slice_get image.ends k ≡ Some saved
      → slice_get net.channels saved.channel ≡ Some channel
      → role_of saved.end ≡ role_here net home channel

-- No more was received of a channel than there is: of an input than it has, of a channel from another node than may be
-- counted, and of one that stays on the node than was put, and so much that its log has what comes next.
pub record CountIsWithin (net : Network) (inputs : List (List ℤ)) (number : ℕ) (end : End) : Type 0 where
  pub of_input : (channel : Channel) (received : ℕ) → slice_get net.channels number ≡ Some channel
      → channel.producer ≡ Outside → end ≡ Receives received → received ≤ length (history_of inputs number)
  pub of_link : (channel : Channel) (q received : ℕ) → slice_get net.channels number ≡ Some channel
      → channel.producer ≡ Process q → end ≡ Receives received → received ≤ MAX_COUNT
  pub in_log : (received : ℕ) (log : LogState) → end ≡ Both received log → IsInLog log received

abbrev pub CountsAreWithin : Network → List (List ℤ) → ImageView → Type 0
CountsAreWithin net inputs image =
    (k : ℕ) (saved : SavedEnd) → slice_get image.ends k ≡ Some saved → CountIsWithin net inputs saved.channel saved.end

-- each log has at most its share, and ends at a count
abbrev pub LogsAreWithin : ImageView → Type 0
LogsAreWithin image =
    (k : ℕ) (saved : SavedEnd) (log : LogState) → slice_get image.ends k ≡ Some saved
    → log_at (Some (saved.end)) ≡ Some log → IsWithinShare (log_share image) log

-- An inbox holds what was not got yet of a channel: it begins behind what the image says was received, and ends where
-- the window goes on.
pub record InboxIsSound (image : ImageView) (inbox : Inbox) : Type 0 where
  pub begins : inbox.log.base ≡ received_of image inbox.channel
  pub next : inbox.window.next ≡ log_end inbox.log
  pub count : length inbox.log.items ≤ MAX_INBOX_ITEMS
  pub last : log_end inbox.log ≤ MAX_COUNT
  pub epoch : inbox.window.epoch ≤ MAX_COUNT

-- A node has an inbox for each channel that comes from another node, and an outbox for each that goes to one, in order
-- of their numbers; what an outbox says was restored is a count.
pub record LinksAreLaidOut (net : Network) (home : ℕ) (node : RunningNode) : Type 0 where
  pub incoming : map (λ (inbox : Inbox). inbox.channel) node.inboxes ≡ incoming_on net home
  pub outgoing : map (λ (outbox : Outbox). outbox.channel) node.outboxes ≡ outgoing_on net home
  pub inboxes : (k : ℕ) (inbox : Inbox) → slice_get node.inboxes k ≡ Some inbox → InboxIsSound node.current inbox
  pub restored : (k : ℕ) (outbox : Outbox) → slice_get node.outboxes k ≡ Some outbox → outbox.restored ≤ MAX_COUNT

-- what an inbox holds comes next of its channel's history, and what its window holds stands there at its positions
pub record InboxStands (histories : List (List ℤ)) (inbox : Inbox) : Type 0 where
  pub within : log_end inbox.log ≤ length (history_of histories inbox.channel)
  pub items : inbox.log.items ≡ take (length inbox.log.items) (drop inbox.log.base (history_of histories inbox.channel))
  pub held : HoldsOf (history_of histories inbox.channel) inbox.window

abbrev pub InboxesStand : List (List ℤ) → List Inbox → Type 0
InboxesStand histories inboxes =
    (k : ℕ) (inbox : Inbox) → slice_get inboxes k ≡ Some inbox → InboxStands histories inbox

-- The job that is out is of where its process stands now: with items that come next, and no more room than there is.
-- More may have come to an inbox since.
pub record IsJobOf (net : Network) (inputs : List (List ℤ)) (image : ImageView) (inboxes : List Inbox)
    (job : JobView) : Type 0 where
  pub process : find (λ (saved : SavedProcessView). saved.number == job.process) image.processes
      ≡ Some (record { number = job.process; standing = job.standing })
  pub code : job.code ≡ slice_get net.codes job.process
  pub items : (c : ℕ)
      → IsPrefix (history_of job.items c) (history_of (items_from inputs image inboxes job.process 0 net.channels) c)
  pub room : (c : ℕ)
      → slice_index job.room c ≤ slice_index (room_from (full_share image) image job.process 0 net.channels) c

-- what came back is a turn of the job's process, from where the job says that it stands
abbrev pub IsTurnOf : Network → JobView → Standing → List ℕ → List (List ℤ) → Type 0
IsTurnOf net job after taken sent =
    (code : Code) → slice_get net.codes job.process ≡ Some code
    → IsTurn code job.standing job.items job.room after taken sent

-- A node has come on: on the same approximation, its processes have made at least the acts of before.
pub record HasComeOn (net : Network) (inputs : List (List ℤ)) (old new : RunningNode)
    (before : HasReached net inputs old) (after : HasReached net inputs new) : Type 0 where
  pub same : after.n ≡ before.n
  pub further : IsAsFar before.current_acts after.current_acts
