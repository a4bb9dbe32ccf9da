-- What has left by each channel.
use Rattle.std.specs.Prelude.{◌≡◌, ◌<◌, ℕ, ℤ, List, Some, Vec, map, slice_get}
use Rattle.std.specs.declared.alloc.Global.{Global}
use Rattle.protocol.specs.World.Common.{WorldView, released_of}

-- lists of items as what they hold
abbrev pub lists_of : List (Vec ℤ Global) → List (List ℤ)
lists_of lists = map (λ (items : Vec ℤ Global). items.items) lists

-- for each channel what has left by it, in order of the channels
abbrev pub AreReleased : ℕ → WorldView → List (List ℤ) → Type 0
AreReleased channels now lists = (k : ℕ) → k < channels → slice_get lists k ≡ Some (released_of k now.stations)
