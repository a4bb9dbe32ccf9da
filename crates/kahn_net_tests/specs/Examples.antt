-- Small networks, on which the definitions are computed.
use Rattle.std.specs.Prelude.{ℕ, ℤ, pos, List, [], ◌∷◌, replicate, Some}
use Rattle.kahn_net.specs.declared.program.Operator.TheVariants.{Add}
use Rattle.kahn_net.specs.Common.{Number, Name, Chain, NoLinks, LinkThen, Nothing, GetThen, AssignThen, PutThen, Code}
use Rattle.kahn_net.specs.Common.{Network, approximation}
use Rattle.kahn_net.specs.declared.program.Channel.{Channel}
use Rattle.kahn_net.specs.declared.program.Port.{Port}
use Rattle.kahn_net.specs.declared.program.Port.TheVariants.{Outside, Process}

abbrev pub channel_from : Port → Port → Channel
channel_from producer consumer = record { producer = producer; consumer = consumer }

-- A running sum from one channel to another, on node 0: each item goes into the second variable and is added to the first,
-- which is put.
abbrev pub summing_code : ℕ → ℕ → Code
summing_code from to =
    record {
      node = 0;
      vars = pos 0 ∷ pos 0 ∷ [];
      prelude = Nothing;
      body =
          Some (GetThen 1 from
          (AssignThen 0 (Chain (Name 0) (LinkThen Add (Name 1) NoLinks)) (PutThen (Name 0) to Nothing)));
    }

abbrev pub sum_net : Network
sum_net =
    record {
      channels = channel_from Outside (Process 0) ∷ channel_from (Process 0) Outside ∷ [];
      codes =
          summing_code 0 1 ∷ [];
    }

abbrev pub one_two_three : List ℤ
one_two_three = pos 1 ∷ pos 2 ∷ pos 3 ∷ []

abbrev pub sum_inputs : List (List ℤ)
sum_inputs = one_two_three ∷ [] ∷ []

abbrev pub sum_solution : List (List ℤ)
sum_solution = one_two_three ∷ (pos 1 ∷ pos 3 ∷ pos 6 ∷ []) ∷ []

-- two inputs whose sum leaves the range
abbrev pub at_the_end : List ℤ
at_the_end = pos 9223372036854775807 ∷ pos 1 ∷ []

-- Two inputs, 0 and 1, whose items are added in pairs onto channel 2, and their running sum on output 3.
abbrev pub add_code : Code
add_code =
    record {
      node = 0;
      vars = pos 0 ∷ pos 0 ∷ [];
      prelude = Nothing;
      body =
          Some (GetThen 0 0 (GetThen 1 1 (PutThen (Chain (Name 0) (LinkThen Add (Name 1) NoLinks)) 2 Nothing)));
    }

abbrev pub pair_net : Network
pair_net = record {
  channels =
      channel_from Outside (Process 0) ∷ channel_from Outside (Process 0) ∷ channel_from (Process 0) (Process 1)
      ∷ channel_from (Process 1) Outside ∷ [];
  codes = add_code ∷ summing_code 2 3 ∷ [];
}

abbrev pub one_two : List ℤ
one_two = pos 1 ∷ pos 2 ∷ []

abbrev pub tens : List ℤ
tens = pos 10 ∷ pos 20 ∷ pos 30 ∷ []

abbrev pub pair_inputs : List (List ℤ)
pair_inputs = one_two ∷ tens ∷ [] ∷ [] ∷ []

-- Kahn's example: channels X, Y, Z, T1, T2 and the output, numbered from 0. The process f takes from Y and Z in turn
-- and sends each item to X and out, g takes from X and sends to T1 and T2 in turn, h0 sends 0 and then what comes over
-- T1 to Y, h1 sends 1 and then what comes over T2 to Z.
abbrev pub merge_code : Code
merge_code =
    record {
      node = 0;
      vars = pos 0 ∷ [];
      prelude = Nothing;
      body =
          Some (GetThen 0 1
          (PutThen (Name 0) 0 (PutThen (Name 0) 5 (GetThen 0 2 (PutThen (Name 0) 0 (PutThen (Name 0) 5 Nothing))))));
    }

abbrev pub split_code : Code
split_code =
    record {
      node = 0;
      vars = pos 0 ∷ [];
      prelude = Nothing;
      body =
          Some (GetThen 0 0 (PutThen (Name 0) 3 (GetThen 0 0 (PutThen (Name 0) 4 Nothing))));
    }

abbrev pub delay_code : ℤ → ℕ → ℕ → Code
delay_code first from to =
    record {
      node = 1;
      vars = pos 0 ∷ [];
      prelude = PutThen (Number first) to Nothing;
      body =
          Some (GetThen 0 from (PutThen (Name 0) to Nothing));
    }

abbrev pub cycle_net : Network
cycle_net = record {
  channels =
      channel_from (Process 0) (Process 1) ∷ channel_from (Process 2) (Process 0)
      ∷ channel_from (Process 3) (Process 0) ∷ channel_from (Process 1) (Process 2)
      ∷ channel_from (Process 1) (Process 3) ∷ channel_from (Process 0) Outside ∷ [];
  codes = merge_code ∷ split_code ∷ delay_code (pos 0) 3 1 ∷ delay_code (pos 1) 4 2 ∷ [];
}

-- the n-th approximation of Kahn's example
abbrev pub cycle_after : ℕ → List (List ℤ)
cycle_after n = approximation cycle_net (replicate 6 []) n

abbrev pub zeros : ℕ → List ℤ
zeros n = replicate n (pos 0)

abbrev pub ones : ℕ → List ℤ
ones n = replicate n (pos 1)

abbrev pub zero_one : List ℤ
zero_one = pos 0 ∷ pos 1 ∷ []
