-- Items that come on the inputs of a world, until these are closed. After Kahn, "The semantics of a simple language for
-- parallel programming" (1974): what has come so far of a stream is a prefix of it.
use Rattle.std.specs.Prelude.{◌+◌, ℕ, ℤ, nat_le, Bool, true, false, List, length, Option, Some, None, slice_get, slice_index_or}
use Rattle.std.specs.Prelude.{◌≡◌, IsTrue, replicate}
use Rattle.protocol.specs.Node.Common.{Channel, history_of, Network, Outside, Port, Process}
use Rattle.kahn_net.specs.declared.limits.TheConstants.{MAX_CHANNELS, MAX_COUNT}
use Rattle.world.specs.declared.feeding.FeedFault.{FeedFault}
use Rattle.world.specs.declared.feeding.FeedFault.TheVariants.{NoMemory, NoInput, Full, Closed}

-- ---- which channels are inputs

abbrev pub comes_from_outside : Port → Bool
comes_from_outside Outside = true
comes_from_outside (Process p) = false

abbrev pub is_input_by : Option Channel → Bool
is_input_by None = false
is_input_by (Some channel) = comes_from_outside channel.producer

-- the channel is an input of the network: its items come from outside
abbrev pub is_input : Network → ℕ → Bool
is_input net number = is_input_by (slice_get net.channels number)

-- ---- which of them are closed

-- none is
abbrev pub none_closed : List Bool
none_closed = replicate MAX_CHANNELS false

-- each input is closed: nothing comes any more
abbrev pub AreClosed : Network → List Bool → Type 0
AreClosed net closed = (number : ℕ) → IsTrue (is_input net number) → slice_index_or closed number false ≡ true

-- ---- why items are refused

abbrev pub feed_refusal_by : (here is_closed few : Bool) → Option FeedFault
feed_refusal_by false is_closed few = Some NoInput
feed_refusal_by true true few = Some Closed
feed_refusal_by true false false = Some Full
feed_refusal_by true false true = None

-- So many items are refused on a channel that is no input, behind a close, and where the input would have more than a count goes; and
-- nowhere else, unless memory is missing.
abbrev pub feed_refusal : Network → (closed : List Bool) → (inputs : List (List ℤ)) → (input many : ℕ) → Option FeedFault
feed_refusal net closed inputs input many =
    feed_refusal_by (is_input net input) (slice_index_or closed input false)
    (nat_le (length (history_of inputs input) + many) MAX_COUNT)

-- what a refusal tells of the items: nothing, where memory is missing
abbrev pub told_by : FeedFault → Option FeedFault
told_by NoMemory = None
told_by NoInput = Some NoInput
told_by Full = Some Full
told_by Closed = Some Closed

-- the refusal's number
abbrev pub number_of : FeedFault → ℕ
number_of NoMemory = 1
number_of NoInput = 11
number_of Full = 50
number_of Closed = 51
