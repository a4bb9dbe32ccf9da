-- How a folder's outputs stand beside what its network means.
use Rattle.std.specs.Prelude.{◌≡◌, ◌≤◌, ◌<◌, ◌==◌, ◌+◌, ℕ, suc, ℤ, Bool, true, false, if◌then◌else◌, List, [], ◌∷◌, length, min, take, Some, slice_get, slice_index}
use Rattle.kahn_net.specs.Approximations.{approximation, IsReached}
use Rattle.kahn_net.specs.Streams.{history_of, IsPrefix}
use Rattle.kahn_net.specs.Syntax.{Network}
use Rattle.kahn_net.specs.declared.program.Channel.{Channel}
use Rattle.kahn_net.specs.declared.program.Port.TheVariants.{Outside}
use Rattle.protocol.specs.World.Common.{output_channels}
use Rattle.protocol.specs.World.Released.{IsStreamOf}
use Rattle.rerun.specs.Tables.{HasRerun, log_on, TableView}
use Rattle.rerun.specs.declared.stopped.Stopped.{Stopped}
use Rattle.resuming.specs.CatchingUp.{StoppedSince}
use Rattle.retained.specs.LogState.{log_end}
use Rattle.station.specs.declared.output.Output.{Output}
use Rattle.folder_status.specs.Kept.{items_of, kept_streams}
use Rattle.folder_status.specs.declared.ending.Ending.{Ending}
use Rattle.folder_status.specs.declared.ending.Ending.TheVariants.{Complete, Partial, Unsettled}
use Rattle.folder_status.specs.declared.kept.KeptOutput.{KeptOutput}
use Rattle.folder_status.specs.declared.verdict.NoVerdict.{NoVerdict}
use Rattle.folder_status.specs.declared.verdict.NoVerdict.TheVariants.{NoMemory, Differs}

-- ---- how far the processes are run

-- The limit of a channel: of an output so many items more than its file holds, and of any other channel the same for each.
abbrev pub limit_of : List KeptOutput → ℕ → ℕ → ℕ → ℕ
limit_of [] inner more channel = inner
limit_of (output ∷ kept) inner more channel =
    if output.channel == channel then length (items_of output) + more else limit_of kept inner more channel

-- those of all channels, the first one of this number
abbrev pub limits_from : List KeptOutput → ℕ → ℕ → ℕ → List Channel → List ℕ
limits_from kept inner more number [] = []
limits_from kept inner more number (channel ∷ channels) =
    limit_of kept inner more number ∷ limits_from kept inner more (suc number) channels

-- they stopped by some limits
abbrev pub IsStopped : Network → List (List ℤ) → TableView → Stopped → Type 0
IsStopped net inputs table stopped = ∥ ((limits : List ℕ) × StoppedSince net inputs limits table stopped) ∥₁

-- The processes of the network were run on these inputs, alone, until they stopped by such limits: an output has no more items than its file
-- holds. By channel so many items were got then.
pub record HasCome (net : Network) (inputs : List (List ℤ)) (kept : List KeptOutput) (got : List ℕ) : Type 0 where
  pub table : TableView
  pub inner : ℕ
  pub stopped : Stopped
  pub rerun : ∥ HasRerun net inputs table ∥₁
  pub since : StoppedSince net inputs (limits_from kept inner 0 0 net.channels) table stopped
  pub within : (c : ℕ) (channel : Channel) → slice_get net.channels c ≡ Some channel → channel.consumer ≡ Outside
      → log_end (log_on table c) ≤ slice_index (limits_from kept inner 0 0 net.channels) c
  pub is : got ≡ table.got

-- ---- what the files hold beside what the processes put

-- two lists are the same as far as both go
abbrev pub BeginAlike : List ℤ → List ℤ → Type 0
BeginAlike xs ys = take (min (length xs) (length ys)) xs ≡ take (min (length xs) (length ys)) ys

-- The items of a file are those that were put, as far as both go; and where all was put, the file has no more.
pub record IsRight (all : Bool) (kept : KeptOutput) (output : Output (List ℤ)) : Type 0 where
  pub alike : BeginAlike (items_of kept) output.outlet
  pub no_more : all ≡ true → length (items_of kept) ≤ length output.outlet

-- so are all files
abbrev pub AreRight : Bool → List KeptOutput → List (Output (List ℤ)) → Type 0
AreRight all kept outputs = (place : ℕ) (one : KeptOutput) (output : Output (List ℤ)) → slice_get kept place ≡ Some one
    → slice_get outputs place ≡ Some output → IsRight all one output

-- the file at this place isn't
pub record IsWrongAt (all : Bool) (kept : List KeptOutput) (outputs : List (Output (List ℤ))) (place : ℕ) : Type 0 where
  pub one : KeptOutput
  pub output : Output (List ℤ)
  pub one_is : slice_get kept place ≡ Some one
  pub output_is : slice_get outputs place ≡ Some output
  pub wrong : ¬ (IsRight all one output)

-- each file has just what was put
abbrev pub AreSame : List KeptOutput → List (Output (List ℤ)) → Type 0
AreSame kept outputs = (place : ℕ) (one : KeptOutput) (output : Output (List ℤ)) → slice_get kept place ≡ Some one
    → slice_get outputs place ≡ Some output → items_of one ≡ output.outlet

-- at this place more was put
pub record IsShortAt (kept : List KeptOutput) (outputs : List (Output (List ℤ))) (place : ℕ) : Type 0 where
  pub one : KeptOutput
  pub output : Output (List ℤ)
  pub one_is : slice_get kept place ≡ Some one
  pub output_is : slice_get outputs place ≡ Some output
  pub short : length (items_of one) < length output.outlet

-- how many items of a file were compared, and how many of each
abbrev pub compared_at : KeptOutput → Output (List ℤ) → ℕ
compared_at one output = min (length (items_of one)) (length output.outlet)

abbrev pub are_compared : List KeptOutput → List (Output (List ℤ)) → List ℕ
are_compared [] outputs = []
are_compared (one ∷ kept) [] = []
are_compared (one ∷ kept) (output ∷ outputs) = compared_at one output ∷ are_compared kept outputs

-- ---- what is told

-- So many first items of each file were compared with what the processes put: they begin that channel's history in some approximation.
abbrev pub AreStreams : Network → List (List ℤ) → List KeptOutput → List ℕ → Type 0
AreStreams net inputs kept compared = (place count : ℕ) (one : KeptOutput) → slice_get kept place ≡ Some one
    → slice_get compared place ≡ Some count → IsStreamOf net inputs one.channel (take count (items_of one))

-- a file has items that begin its channel's history in no approximation
pub record HasOther (net : Network) (inputs : List (List ℤ)) (kept : List KeptOutput) : Type 0 where
  pub place : ℕ
  pub output : KeptOutput
  pub there : slice_get kept place ≡ Some output
  pub other : ¬ (IsStreamOf net inputs output.channel (items_of output))

-- why there is no verdict: a file has other items
abbrev pub is_differing : NoVerdict → Bool
is_differing NoMemory = false
is_differing (Differs place) = true

-- Some output has a history of which its file has the first items alone.
pub record IsMissed (net : Network) (inputs : List (List ℤ)) (kept : List KeptOutput) : Type 0 where
  pub n : ℕ
  pub place : ℕ
  pub output : KeptOutput
  pub there : slice_get kept place ≡ Some output
  pub begins : IsPrefix (items_of output) (history_of (approximation net inputs n) output.channel)
  pub more : length (items_of output) < length (history_of (approximation net inputs n) output.channel)

-- each of these streams, one for each output in order, is its channel's whole history in this approximation
abbrev pub AreAll : Network → List (List ℤ) → List (List ℤ) → ℕ → Type 0
AreAll net inputs streams n = (place channel : ℕ) (items : List ℤ) → slice_get (output_channels 0 net.channels) place ≡ Some channel
    → slice_get streams place ≡ Some items → items ≡ history_of (approximation net inputs n) channel

-- What is told: each file has all of its output's history in an approximation with which they come to rest; a file lacks items; or it isn't
-- known whether one does.
abbrev pub IsEnding : Network → List (List ℤ) → List KeptOutput → Ending → Type 0
IsEnding net inputs kept Complete = ∥ ((n : ℕ) × IsReached net inputs n × AreAll net inputs (kept_streams kept) n) ∥₁
IsEnding net inputs kept Partial = ∥ IsMissed net inputs kept ∥₁
IsEnding net inputs kept Unsettled = Unit {0}
