-- The approximations of a network's histories, and its solutions.
use Rattle.std.specs.Prelude.{◌≡◌, ℕ, zero, suc, ℤ, List, [], ◌∷◌, length, slice_get, Option, Some, None}
use Rattle.kahn_net.specs.Streams.{history_of}
use Rattle.kahn_net.specs.Syntax.{Code, Network}
use Rattle.kahn_net.specs.Processes.{output_of}
use Rattle.kahn_net.specs.declared.program.Channel.{Channel}
use Rattle.kahn_net.specs.declared.program.Port.{Port}
use Rattle.kahn_net.specs.declared.program.Port.TheVariants.{Outside, Process}

-- what this process puts on a channel, nothing where there is no such process
abbrev pub output_at : Option Code → List (List ℤ) → ℕ → List ℤ
output_at None histories channel = []
output_at (Some code) histories channel = output_of code histories channel

-- what a channel's producer makes of these histories: an input is as it came, any other is its process's function
abbrev pub next_history : List Code → List (List ℤ) → List (List ℤ) → ℕ → Port → List ℤ
next_history codes inputs histories channel Outside = history_of inputs channel
next_history codes inputs histories channel (Process p) = output_at (slice_get codes p) histories channel

-- the same of each channel, the first one of this number
abbrev pub next_from : List Code → List (List ℤ) → List (List ℤ) → ℕ → List Channel → List (List ℤ)
next_from codes inputs histories c [] = []
next_from codes inputs histories c (channel ∷ channels) =
    next_history codes inputs histories c channel.producer ∷ next_from codes inputs histories (suc c) channels

-- one step of Kahn's equations: each input is as it came, and each other channel has what its process puts there on
-- these histories
abbrev pub next_histories : Network → List (List ℤ) → List (List ℤ) → List (List ℤ)
next_histories net inputs histories = next_from net.codes inputs histories 0 net.channels

-- The n-th approximation of a network's histories. At first the inputs are whole and every other history is empty (as
-- inputs that fit have it); then again and again each producer goes by the approximation before.
abbrev pub approximation : Network → List (List ℤ) → ℕ → List (List ℤ)
approximation net inputs zero = inputs
approximation net inputs (suc n) = next_histories net inputs (approximation net inputs n)

-- item k of channel c is v, in some approximation
pub record Belongs (net : Network) (inputs : List (List ℤ)) (c k : ℕ) (v : ℤ) : Type 0 where
  pub n : ℕ
  pub is : slice_get (history_of (approximation net inputs n) c) k ≡ Some v

-- the approximations have come to rest at the n-th: it and the next one agree
abbrev pub IsReached : Network → List (List ℤ) → ℕ → Type 0
IsReached net inputs n = approximation net inputs n ≡ approximation net inputs (suc n)

-- histories solve a network's equations: the inputs are as they came, and each other channel has what its process's
-- function gives
pub record IsSolution (net : Network) (inputs histories : List (List ℤ)) : Type 0 where
  pub count : length histories ≡ length net.channels
  pub inputs_agree : (c : ℕ) (channel : Channel) → slice_get net.channels c ≡ Some channel → channel.producer ≡ Outside
      → history_of histories c ≡ history_of inputs c
  pub equations : (c p : ℕ) (channel : Channel) (code : Code) → slice_get net.channels c ≡ Some channel
      → slice_get net.codes p ≡ Some code → channel.producer ≡ Process p
      → history_of histories c ≡ output_of code histories c
