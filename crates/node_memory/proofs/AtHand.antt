-- What is at hand for a process of an image.
use Rattle.std.proofs.Common.{◌≡◌, ℕ, List, true, Some, ap}
use Rattle.std.specs.Prelude.{slice_get}
use Rattle.std.proofs.lemmas.Bool.{eqb-true}
use Rattle.protocol.specs.Node.AtHand.{AreAtHand}
use Rattle.protocol.specs.Node.Common.{Channel, ImageView, Port, Outside, Process, SavedProcessView, is_process}
use Rattle.node_memory.specs.AtHand.{IsAtHandOf, IsAtHandFor, StandsIn}

stands_at : (process : ℕ) (port : Port) → is_process process port ≡ true → port ≡ Process process
stands_at process Outside is = absurd (cc)
stands_at process (Process p) is = ap (λ (n : ℕ). Process n) (eqb-true p process is)

-- what a process may still get is at hand of each channel at whose end it stands
pub at_hand_of : (channels : List Channel) (bases : List ℕ) (image : ImageView) (process channel : ℕ) (ends : Channel)
    → IsAtHandFor channels bases image process → slice_get channels channel ≡ Some ends
    → is_process process ends.consumer ≡ true → IsAtHandOf bases image channel ends.producer
at_hand_of channels bases image process channel ends all there is =
    all channel ends there (stands_at process ends.consumer is)

-- and so for each process that stands in an image for which all is at hand
pub at_hand_for : (channels : List Channel) (bases : List ℕ) (image : ImageView) (saved : SavedProcessView)
    → AreAtHand channels bases image → StandsIn image saved → IsAtHandFor channels bases image saved.number
at_hand_for channels bases image saved all stands = λ channel ends there is outside.
    all stands.0 channel saved ends stands.1 there is outside
