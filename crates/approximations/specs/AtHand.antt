-- What a process is given for a turn on histories, and whether it can go on there.
use Rattle.std.specs.Prelude.{ℕ, suc, ◌+◌, ◌-◌, ◌==◌, nat_lt, Bool, true, false, if◌then◌else◌, ℤ, List, [], ◌∷◌, length, take, drop}
use Rattle.std.specs.Prelude.{slice_index}
use Rattle.kahn_net.specs.Common.{history_of, Next, Gets, Puts, NoNext}
use Rattle.kahn_net.specs.NextActs.{Begins}
use Rattle.kahn_net.specs.declared.program.Channel.{Channel}
use Rattle.kahn_net.specs.declared.program.Port.{Port}
use Rattle.kahn_net.specs.declared.program.Port.TheVariants.{Outside, Process}
use Rattle.approximations.specs.declared.at_hand.TheConstants.{MAX_AT_ONCE, ROOM}

-- this process stands at an end of a channel
abbrev pub is_process : ℕ → Port → Bool
is_process process Outside = false
is_process process (Process p) = p == process

-- the items of a channel that come next where so many were got, at most as many as are given at once
abbrev pub next_items : List (List ℤ) → List ℕ → ℕ → List ℤ
next_items histories got channel = take MAX_AT_ONCE (drop (slice_index got channel) (history_of histories channel))

-- what a process has at hand of each channel from this number on: what comes next of one from which it gets, and nothing
-- of any other
abbrev pub at_hand_from : List (List ℤ) → List ℕ → ℕ → ℕ → List Channel → List (List ℤ)
at_hand_from histories got process number [] = []
at_hand_from histories got process number (channel ∷ channels) =
    (if is_process process channel.consumer then next_items histories got number else [])
    ∷ at_hand_from histories got process (suc number) channels

-- the room that it has on each of these channels
abbrev pub room_from : ℕ → List Channel → List ℕ
room_from process [] = []
room_from process (channel ∷ channels) =
    (if is_process process channel.producer then ROOM else 0) ∷ room_from process channels

-- a process that does this next can go on: it begins, it puts, or it gets from a channel of which it hasn't got all
abbrev pub can_go_on : Next → List ℕ → List (List ℤ) → Bool
can_go_on Begins got histories = true
can_go_on (Gets channel) got histories = nat_lt (slice_index got channel) (length (history_of histories channel))
can_go_on (Puts channel) got histories = true
can_go_on NoNext got histories = false

-- how many items of these histories, the first of which has this number, are left where so many were got
abbrev pub left_from : ℕ → List (List ℤ) → List ℕ → ℕ
left_from number [] got = 0
left_from number (history ∷ histories) got =
    (length history - slice_index got number) + left_from (suc number) histories got
