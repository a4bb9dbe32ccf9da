-- Processes of a network that are run again alone: a stage says how far they are, and one turn leads to the next.
use Rattle.std.specs.Prelude.{◌≡◌, ◌≢◌, ◌⊎◌, ◌≤◌, ◌+◌, ℕ, ℤ, List, [], ◌∷◌, ◌++◌, length, drop, Option, Some, None}
use Rattle.std.specs.Prelude.{slice_get, slice_index}
use Rattle.kahn_net.specs.Processes.{Standing, NotBegun}
use Rattle.kahn_net.specs.Streams.{history_of, IsPrefix}
use Rattle.kahn_net.specs.Syntax.{Code, Network}
use Rattle.kahn_net.specs.declared.program.Channel.{Channel}
use Rattle.kahn_net.specs.declared.program.Port.{Port}
use Rattle.kahn_net.specs.declared.program.Port.TheVariants.{Outside, Process}
use Rattle.proc_step.specs.Turns.{IsTurn}

-- how far all processes are: by process where it stands, and by channel how many items were got and which were put
pub record Stage : Type 0 where
  pub standing : ℕ → Standing
  pub got : ℕ → ℕ
  pub put : ℕ → List ℤ

abbrev pub first_vars : Option Code → List ℤ
first_vars None = []
first_vars (Some code) = code.vars

-- what a channel with this producer has before any process has begun
abbrev pub put_before : Port → List ℤ → List ℤ
put_before Outside input = input
put_before (Process p) input = []

abbrev pub put_at_first : Option Channel → List ℤ → List ℤ
put_at_first None input = []
put_at_first (Some channel) input = put_before channel.producer input

-- no process has begun; the inputs are whole, and nothing is on any other channel
abbrev pub first_stage : Network → List (List ℤ) → Stage
first_stage net inputs = record {
  standing = λ p. NotBegun (first_vars (slice_get net.codes p));
  got = λ c. 0;
  put = λ c. put_at_first (slice_get net.channels c) (history_of inputs c);
}

-- What a process is handed of a channel: nothing, or, where it gets from that channel, items that were on it at this
-- stage and come next there.
abbrev pub IsGiven : Network → Stage → ℕ → List (List ℤ) → ℕ → Type 0
IsGiven net old p items c =
    (history_of items c ≡ [])
    ⊎ ((channel : Channel) × (slice_get net.channels c ≡ Some channel) × (channel.consumer ≡ Process p)
    × IsPrefix (history_of items c) (drop (old.got c) (old.put c)))

-- One process makes a turn, on what it is handed and with some room; no other one moves.
pub record Goes (net : Network) (old new : Stage) : Type 0 where
  pub process : ℕ
  pub code : Code
  pub items : List (List ℤ)
  pub room : List ℕ
  pub after : Standing
  pub taken : List ℕ
  pub sent : List (List ℤ)
  pub code_is : slice_get net.codes process ≡ Some code
  pub given : (c : ℕ) → IsGiven net old process items c
  pub turn : IsTurn code (old.standing process) items room after taken sent
  pub moved : new.standing process ≡ after
  pub others : (q : ℕ) → q ≢ process → new.standing q ≡ old.standing q
  pub got_own : (c : ℕ) (channel : Channel) → slice_get net.channels c ≡ Some channel
      → channel.consumer ≡ Process process → new.got c ≡ old.got c + slice_index taken c
  pub got_others : (c q : ℕ) (channel : Channel) → slice_get net.channels c ≡ Some channel
      → channel.consumer ≡ Process q → q ≢ process → new.got c ≡ old.got c
  pub put_own : (c : ℕ) (channel : Channel) → slice_get net.channels c ≡ Some channel
      → channel.producer ≡ Process process → new.put c ≡ old.put c ++ history_of sent c
  pub put_others : (c q : ℕ) (channel : Channel) → slice_get net.channels c ≡ Some channel
      → channel.producer ≡ Process q → q ≢ process → new.put c ≡ old.put c
  pub put_inputs : (c : ℕ) (channel : Channel) → slice_get net.channels c ≡ Some channel
      → channel.producer ≡ Outside → new.put c ≡ old.put c

-- turns lead from one stage to another, over these in between, whoever makes each
abbrev pub Reruns : Network → Stage → List Stage → Stage → Type 0
Reruns net s [] t = s ≡ t
Reruns net s (u ∷ stages) t = Goes net s u × Reruns net u stages t

-- of no channel from which a process gets were more items got than were put
abbrev pub CountsFit : Network → Stage → Type 0
CountsFit net s = (c q : ℕ) (channel : Channel) → slice_get net.channels c ≡ Some channel
    → channel.consumer ≡ Process q → s.got c ≤ length (s.put c)
