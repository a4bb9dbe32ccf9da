-- What has left the system by an output.
use Rattle.std.specs.Prelude.{◌≡◌, ◌==◌, ℕ, ◌≤◌, ℤ, List, [], ◌∷◌, find, length, Option, Some, None, slice_get, IsTrue}
use Rattle.ckpt_codec.specs.Common.{history_of, IsPrefix, Network, approximation, sent_of}
use Rattle.protocol.specs.World.Sound.{is_output}
use Rattle.protocol.specs.World.StationView.{OutletView, StationView}

abbrev pub taken_or : Option OutletView → List ℤ → List ℤ
taken_or None others = others
taken_or (Some outlet) others = outlet.taken

-- what the outlet of this channel took, nothing where there is none
abbrev pub released_of : ℕ → List StationView → List ℤ
released_of channel [] = []
released_of channel (station ∷ stations) =
    taken_or (find (λ (outlet : OutletView). outlet.channel == channel) station.outlets) (released_of channel stations)

-- a stream is a prefix of the channel's history in some approximation on these inputs
abbrev pub IsStreamOf : Network → List (List ℤ) → ℕ → List ℤ → Type 0
IsStreamOf net inputs channel items = ∥ ((n : ℕ) × IsPrefix items (history_of (approximation net inputs n) channel)) ∥₁

-- the permanent image of the node of which the channel is an output has put as many items as there are in the stream
abbrev pub IsPutAtHome : Network → List StationView → ℕ → List ℤ → Type 0
IsPutAtHome net stations channel items = (home : ℕ) (station : StationView) → slice_get stations home ≡ Some station
    → IsTrue (is_output net home channel) → length items ≤ sent_of station.node.kept.permanent channel
