-- What is in memory of a stage, and a turn there.
use Rattle.std.specs.Prelude.{◌≡◌, ◌<◌, ◌≤◌, ◌+◌, ◌-◌, ◌==◌, ◌++◌, ◌⊎◌, max, ℕ, zero, suc, nat_lt, min, Bool, true}
use Rattle.std.specs.Prelude.{false, if◌then◌else◌}
use Rattle.std.specs.Prelude.{ℤ, List, [], ◌∷◌, length, take, drop, Option, Some, None, slice_get, slice_index}
use Rattle.std.specs.Prelude.{slice_index_or}
use Rattle.std.specs.Prelude.{slice_set, map, replicate}
use Rattle.kahn_net.specs.NextActs.{Next, Begins, Gets, Puts, NoNext, next_of}
use Rattle.kahn_net.specs.Processes.{Standing, NotBegun}
use Rattle.kahn_net.specs.Streams.{history_of}
use Rattle.kahn_net.specs.Syntax.{Code, Network}
use Rattle.kahn_net.specs.declared.limits.TheConstants.{MAX_COUNT}
use Rattle.kahn_net.specs.declared.program.Channel.{Channel}
use Rattle.kahn_net.specs.declared.program.Port.{Port}
use Rattle.kahn_net.specs.declared.program.Port.TheVariants.{Outside, Process}
use Rattle.proc_step.specs.Turns.{IsTurn}
use Rattle.retained.specs.LogState.{LogState, IsLogOf, IsInLog, IsWithinLimits, items_since, log_end, trimmed}
use Rattle.retained.specs.declared.log.TheConstants.{MAX_LOG_ITEMS}
use Rattle.rerun.specs.Rerunning.{Stage, Reruns, first_stage}
use Rattle.rerun.specs.declared.handing.TheConstants.{MAX_AT_ONCE}

-- ---- what is in memory

-- By process where it stands, and by channel how many items were got and a log of those that were put. The log of an
-- input has nothing.
pub record TableView : Type 0 where
  pub standings : List Standing
  pub got : List ℕ
  pub logs : List LogState

abbrev pub no_log : LogState
no_log = record { base = 0; items = [] }

abbrev pub log_on : TableView → ℕ → LogState
log_on t c = slice_index_or t.logs c no_log

abbrev pub not_begun : Code → Standing
not_begun code = NotBegun code.vars

-- before any process has begun
abbrev pub first_table : Network → TableView
first_table net = record {
  standings = map not_begun net.codes;
  got = replicate (length net.channels) 0;
  logs = replicate (length net.channels) no_log;
}

-- it is what is in memory of this stage
pub record IsAt (net : Network) (inputs : List (List ℤ)) (t : TableView) (s : Stage) : Type 0 where
  pub standings : (p : ℕ) → p < length net.codes → slice_get t.standings p ≡ Some (s.standing p)
  pub got : (c : ℕ) → c < length net.channels → slice_index t.got c ≡ s.got c
  pub logs : (c p : ℕ) (channel : Channel) → slice_get net.channels c ≡ Some channel → channel.producer ≡ Process p
      → IsLogOf (log_on t c) (s.put c)
  pub whole : (c : ℕ) (channel : Channel) → slice_get net.channels c ≡ Some channel → channel.producer ≡ Outside
      → s.put c ≡ history_of inputs c

-- turns lead from the first stage to one of which this is in memory
pub record HasRerun (net : Network) (inputs : List (List ℤ)) (t : TableView) : Type 0 where
  pub stages : List Stage
  pub stage : Stage
  pub runs : Reruns net (first_stage net inputs) stages stage
  pub is_at : IsAt net inputs t stage

-- There is an entry for each process and for each channel. Of an input no more was got than there is, and of a channel
-- between two processes its log has what comes next. No log is longer than a log may be.
pub record IsInOrder (net : Network) (inputs : List (List ℤ)) (t : TableView) : Type 0 where
  pub standings : length t.standings ≡ length net.codes
  pub counts : length t.got ≡ length net.channels
  pub logs : length t.logs ≡ length net.channels
  pub counted : (c : ℕ) → slice_index t.got c ≤ MAX_COUNT
  pub within : (c : ℕ) → IsWithinLimits (log_on t c)
  pub of_input : (c : ℕ) (channel : Channel) → slice_get net.channels c ≡ Some channel → channel.producer ≡ Outside
      → slice_index t.got c ≤ length (history_of inputs c)
  pub of_link : (c p q : ℕ) (channel : Channel) → slice_get net.channels c ≡ Some channel
      → channel.producer ≡ Process p → channel.consumer ≡ Process q → IsInLog (log_on t c) (slice_index t.got c)

-- ---- what a process is handed

-- this process stands at an end of a channel
abbrev pub is_there : ℕ → Port → Bool
is_there process Outside = false
is_there process (Process p) = p == process

-- what was put on a channel with this producer and wasn't got yet
abbrev pub next_on : List (List ℤ) → TableView → ℕ → Port → List ℤ
next_on inputs t c Outside = drop (slice_index t.got c) (history_of inputs c)
next_on inputs t c (Process p) = items_since (log_on t c) (slice_index t.got c)

-- what a process is handed of each channel, the first of which has this number: so many of the items that come next,
-- where it gets from that channel
abbrev pub items_from : List (List ℤ) → TableView → ℕ → ℕ → List Channel → List (List ℤ)
items_from inputs t process c [] = []
items_from inputs t process c (channel ∷ channels) =
    (if is_there process channel.consumer then take MAX_AT_ONCE (next_on inputs t c channel.producer) else [])
    ∷ items_from inputs t process (suc c) channels

-- How many more items may be put by this limit: on an output it is a limit to all items that are ever put there, and on
-- a channel between two processes to those that lie there and weren't got.
abbrev pub allowed : Port → ℕ → LogState → ℕ
allowed Outside limit log = limit - log_end log
allowed (Process q) limit log = limit - length log.items

-- the places for items on a channel with this consumer: as many as the limit allows, where its log takes so many
abbrev pub places : Port → ℕ → LogState → ℕ
places consumer limit log =
    min (allowed consumer limit log) (min (MAX_LOG_ITEMS - length log.items) (MAX_COUNT - log_end log))

-- the room that a process has on each channel, the first of which has this number: these places, where it puts there
abbrev pub room_from : List ℕ → TableView → ℕ → ℕ → List Channel → List ℕ
room_from limits t process c [] = []
room_from limits t process c (channel ∷ channels) =
    (if is_there process channel.producer then places channel.consumer (slice_index limits c) (log_on t c) else 0)
    ∷ room_from limits t process (suc c) channels

-- ---- whether a process can move

-- how many items were put on a channel with this producer
abbrev pub count_by : List (List ℤ) → TableView → ℕ → Port → ℕ
count_by inputs t c Outside = length (history_of inputs c)
count_by inputs t c (Process p) = log_end (log_on t c)

abbrev pub has_more : List (List ℤ) → TableView → ℕ → Option Channel → Bool
has_more inputs t c None = false
has_more inputs t c (Some channel) = nat_lt (slice_index t.got c) (count_by inputs t c channel.producer)

abbrev pub has_place : List ℕ → TableView → ℕ → Option Channel → Bool
has_place limits t c None = false
has_place limits t c (Some channel) = nat_lt 0 (places channel.consumer (slice_index limits c) (log_on t c))

-- a process that does this next can do it: it begins, it gets where there is an item, or it puts where there is a place
abbrev pub can_do : List Channel → List (List ℤ) → List ℕ → TableView → Next → Bool
can_do channels inputs limits t Begins = true
can_do channels inputs limits t (Gets c) = has_more inputs t c (slice_get channels c)
can_do channels inputs limits t (Puts c) = has_place limits t c (slice_get channels c)
can_do channels inputs limits t NoNext = false

abbrev pub can_do_next : Network → List (List ℤ) → List ℕ → TableView → Option Code → Option Standing → Bool
can_do_next net inputs limits t None standing = false
can_do_next net inputs limits t (Some code) None = false
can_do_next net inputs limits t (Some code) (Some standing) =
    can_do net.channels inputs limits t (next_of code standing)

-- the process of this number can move, with these limits
abbrev pub can_move : Network → List (List ℤ) → List ℕ → TableView → ℕ → Bool
can_move net inputs limits t p = can_do_next net inputs limits t (slice_get net.codes p) (slice_get t.standings p)

-- ---- a turn

-- how many items this process took from a channel, and what it put there
abbrev pub taken_by : ℕ → List ℕ → ℕ → Option Channel → ℕ
taken_by process taken c None = 0
taken_by process taken c (Some channel) = if is_there process channel.consumer then slice_index taken c else 0

abbrev pub put_by : ℕ → List (List ℤ) → ℕ → Option Channel → List ℤ
put_by process sent c None = []
put_by process sent c (Some channel) = if is_there process channel.producer then history_of sent c else []

-- a log with these items behind its own
abbrev pub pushed : LogState → List ℤ → LogState
pushed log items = record { base = log.base; items = log.items ++ items }

abbrev pub is_made : Port → Bool
is_made Outside = false
is_made (Process p) = true

-- the channel leads from a process to this one
abbrev pub leads_to : ℕ → Channel → Bool
leads_to process channel = if is_there process channel.consumer then is_made channel.producer else false

-- the log of a channel of which so many items were got by now: where it leads to this process, it lets go of these
abbrev pub let_go_of : ℕ → ℕ → LogState → Option Channel → LogState
let_go_of process got log None = log
let_go_of process got log (Some channel) = if leads_to process channel then trimmed log got else log

-- A process made its turn: it was handed these items and this room, and made as many of its acts as that allows. What
-- it took is counted; what it sent stands behind the logs; and logs let go of what was got.
pub record Turned (net : Network) (inputs : List (List ℤ)) (limits : List ℕ) (p : ℕ) (old new : TableView) : Type 0
  where
    pub code : Code
    pub before : Standing
    pub after : Standing
    pub taken : List ℕ
    pub sent : List (List ℤ)
    pub code_is : slice_get net.codes p ≡ Some code
    pub before_is : slice_get old.standings p ≡ Some before
    pub turn : IsTurn code before (items_from inputs old p 0 net.channels) (room_from limits old p 0 net.channels) after
        taken sent
    pub standings : new.standings ≡ slice_set old.standings p after
    pub counts : length new.got ≡ length old.got
    pub got : (c : ℕ) → c < length net.channels
        → slice_index new.got c ≡ slice_index old.got c + taken_by p taken c (slice_get net.channels c)
    pub logged : length new.logs ≡ length old.logs
    pub logs : (c : ℕ) → c < length net.channels
        → log_on new c
        ≡ let_go_of p (slice_index new.got c) (pushed (log_on old c) (put_by p sent c (slice_get net.channels c)))
        (slice_get net.channels c)

-- a turn where the process can move, and else nothing at all
abbrev pub GoesOn : Network → List (List ℤ) → List ℕ → ℕ → TableView → TableView → Type 0
GoesOn net inputs limits p old new =
    ((can_move net inputs limits old p ≡ true) × ∥ Turned net inputs limits p old new ∥₁)
    ⊎ ((can_move net inputs limits old p ≡ false) × (new ≡ old))

-- the processes below this number went on, one after the other
abbrev pub GoOn : Network → List (List ℤ) → List ℕ → ℕ → TableView → TableView → Type 0
GoOn net inputs limits zero old new = new ≡ old
GoOn net inputs limits (suc p) old new =
    (between : TableView) × GoOn net inputs limits p old between × GoesOn net inputs limits p between new

-- so many times all processes did
abbrev pub AreSwept : Network → List (List ℤ) → List ℕ → ℕ → TableView → TableView → Type 0
AreSwept net inputs limits zero old new = new ≡ old
AreSwept net inputs limits (suc n) old new =
    (between : TableView) × AreSwept net inputs limits n old between
    × GoOn net inputs limits (length net.codes) between new

-- ---- limits

-- no process can move
abbrev pub IsAtRest : Network → List (List ℤ) → List ℕ → TableView → Type 0
IsAtRest net inputs limits t = (p : ℕ) → can_move net inputs limits t p ≡ false

abbrev pub is_outside : Port → Bool
is_outside Outside = true
is_outside (Process q) = false

abbrev pub leads_out : Option Channel → Bool
leads_out None = false
leads_out (Some channel) = is_outside channel.consumer

-- the channel of this number is an output
abbrev pub is_output : List Channel → ℕ → Bool
is_output channels c = leads_out (slice_get channels c)

-- on each output as many items were put as its limit says
abbrev pub HaveReached : List Channel → List ℕ → TableView → Type 0
HaveReached channels limits t = (c : ℕ) (channel : Channel) → slice_get channels c ≡ Some channel
    → channel.consumer ≡ Outside → slice_index limits c ≤ log_end (log_on t c)

-- where a limit was kept it is kept: no output has more items than its limit says, but those that it had
abbrev pub KeepsLimits : Network → List ℕ → TableView → TableView → Type 0
KeepsLimits net limits old new = (c : ℕ) (channel : Channel) → slice_get net.channels c ≡ Some channel
    → channel.consumer ≡ Outside → log_end (log_on new c) ≤ max (slice_index limits c) (log_end (log_on old c))
