-- What is at hand of a network's inputs, where items that nobody needs any more were let go of.
use Rattle.std.specs.Prelude.{◌≡◌, ◌≤◌, ℕ, IsTrue, List, Some, slice_get}
use Rattle.arrived.specs.ArrivedView.{base_of}
use Rattle.std.specs.List.{AllByRecursion}
use Rattle.ckpt_codec.specs.Common.{Network, Channel, Outside, Process, ImageView, RecordView, received_of}
use Rattle.protocol.specs.Node.Layout.{has_process}
use Rattle.protocol.specs.Node.NodeView.{ModeView, RunningView, Runs}
use Rattle.record.specs.ProcessView.{SavedProcessView}

-- Each item that a process of an image may still get from outside is at hand: it has got all that was let go of.
abbrev pub AreAtHand : List Channel → List ℕ → ImageView → Type 0
AreAtHand channels bases image = (place channel : ℕ) (saved : SavedProcessView) (ends : Channel)
    → slice_get image.processes place ≡ Some saved → slice_get channels channel ≡ Some ends
    → ends.consumer ≡ Process saved.number → ends.producer ≡ Outside → base_of bases channel ≤ received_of image channel

-- so of what a node has now, if it runs
abbrev pub AreAtHandNow : List Channel → List ℕ → ModeView → Type 0
AreAtHandNow channels bases mode = (running : RunningView) → mode ≡ Runs running → AreAtHand channels bases running.current

-- An image of a node has got all that was let go of, of each input from which a process of the node gets.
abbrev pub HasGot : Network → ℕ → List ℕ → ImageView → Type 0
HasGot net home bases image = (channel p : ℕ) (ends : Channel) → slice_get net.channels channel ≡ Some ends
    → ends.consumer ≡ Process p → ends.producer ≡ Outside → IsTrue (has_process net home p)
    → base_of bases channel ≤ received_of image channel

-- so has the permanent image of a record, and that of each of these
abbrev pub HasGotBy : Network → List ℕ → RecordView → Type 0
HasGotBy net bases kept = HasGot net kept.node bases kept.permanent

abbrev pub HaveGot : Network → List ℕ → List RecordView → Type 0
HaveGot net bases records = AllByRecursion (HasGotBy net bases) records
