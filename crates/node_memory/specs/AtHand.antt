-- What a process has at hand of a network's inputs, where items that nobody needs any more were let go of.
use Rattle.std.specs.Prelude.{◌≡◌, ◌≤◌, ℕ, List, Some, slice_get}
use Rattle.arrived.specs.ArrivedView.{base_of}
use Rattle.ckpt_codec.specs.Common.{Channel, Port, Outside, Process, ImageView, SavedProcessView, received_of}

-- what an image may still get of a channel is at hand, if its items come from outside
abbrev pub IsAtHandOf : List ℕ → ImageView → ℕ → Port → Type 0
IsAtHandOf bases image channel producer = producer ≡ Outside → base_of bases channel ≤ received_of image channel

-- what a process may still get from outside is at hand
abbrev pub IsAtHandFor : List Channel → List ℕ → ImageView → ℕ → Type 0
IsAtHandFor channels bases image process = (channel : ℕ) (ends : Channel) → slice_get channels channel ≡ Some ends
    → ends.consumer ≡ Process process → IsAtHandOf bases image channel ends.producer

-- a process stands at some place of an image
abbrev pub StandsIn : ImageView → SavedProcessView → Type 0
StandsIn image saved = (place : ℕ) × (slice_get image.processes place ≡ Some saved)
