-- Room in the queues to which packets go straight.
use Rattle.std.specs.Prelude.{◌≤◌, ℕ, List, [], slice_get, unwrap_or}
use Rattle.wire.specs.declared.sending.Sending.{Sending}
use Rattle.wire.specs.Queue.{QueueState}

-- for how many packets more to a node there is memory
abbrev pub room_in : List QueueState → ℕ → ℕ
room_in queues node = (unwrap_or (slice_get queues node) (record { flights = []; counts = []; room = 0 })).room

-- there is memory for so many packets to the node that this one is for
abbrev pub FindsRoom : List QueueState → ℕ → Sending → Type 0
FindsRoom queues count sending = count ≤ room_in queues sending.to
