-- Processes that are run again up to what their outputs held, while each output takes what is put there.
use Rattle.std.specs.Prelude.{◌≡◌, ◌+◌, ℕ, true, ℤ, List, length, map, Some, slice_get}
use Rattle.kahn_net.specs.Streams.{IsPrefix}
use Rattle.kahn_net.specs.Syntax.{Network}
use Rattle.kahn_net.specs.declared.program.Channel.{Channel}
use Rattle.kahn_net.specs.declared.program.Port.TheVariants.{Outside}
use Rattle.outlet.specs.declared.fault.OutletFault.{OutletFault}
use Rattle.outlet.specs.declared.fault.OutletFault.TheVariants.{Failed, NoMemory}
use Rattle.protocol.specs.World.OutputView.{OutputView}
use Rattle.rerun.specs.Tables.{AreSwept, HaveReached, IsAtRest, KeepsLimits, TableView, is_output, log_on}
use Rattle.rerun.specs.declared.stopped.Stopped.{Stopped}
use Rattle.rerun.specs.declared.stopped.Stopped.TheVariants.{Reached, Rests, Sweeps}
use Rattle.resuming.specs.Resuming.{Agrees}
use Rattle.resuming.specs.declared.catching_up.TheConstants.{IDLE_SWEEPS}
use Rattle.retained.specs.LogState.{log_end}
use Rattle.station.specs.declared.output.Output.{Output}

-- an output has taken all that was put there, and the log has let go of that
pub record HasTakenAll (net : Network) (inputs : List (List ℤ)) (t : TableView) (output : OutputView) : Type 0 where
  pub agrees : Agrees net inputs t output
  pub all : length output.taken ≡ log_end (log_on t output.channel)
  pub let_go : (log_on t output.channel).base ≡ length output.taken

-- each of these has
abbrev pub HaveTakenAll : Network → List (List ℤ) → TableView → List OutputView → Type 0
HaveTakenAll net inputs t outputs =
    (j : ℕ) (output : OutputView) → slice_get outputs j ≡ Some output → HasTakenAll net inputs t output

-- an output of the network has taken all that was put there before its log began, and the log has what comes next
pub record Follows (net : Network) (inputs : List (List ℤ)) (t : TableView) (output : OutputView) : Type 0 where
  pub outside : is_output net.channels output.channel ≡ true
  pub agrees : Agrees net inputs t output
  pub next : (log_on t output.channel).base ≡ length output.taken

-- each of these does
abbrev pub AllFollow : Network → List (List ℤ) → TableView → List OutputView → Type 0
AllFollow net inputs t outputs =
    (j : ℕ) (output : OutputView) → slice_get outputs j ≡ Some output → Follows net inputs t output

-- an output of the network has taken all that was put there; the log may have that still
pub record HasAll (net : Network) (inputs : List (List ℤ)) (t : TableView) (output : OutputView) : Type 0 where
  pub outside : is_output net.channels output.channel ≡ true
  pub agrees : Agrees net inputs t output
  pub all : length output.taken ≡ log_end (log_on t output.channel)

-- each of these has
abbrev pub HaveAll : Network → List (List ℤ) → TableView → List OutputView → Type 0
HaveAll net inputs t outputs =
    (j : ℕ) (output : OutputView) → slice_get outputs j ≡ Some output → HasAll net inputs t output

-- on each channel so many items were put as before
abbrev pub KeepsEnds : TableView → TableView → Type 0
KeepsEnds before now = (c : ℕ) → log_end (log_on now c) ≡ log_end (log_on before c)

-- the outputs are those of before, in their places, and what each took begins with what it had taken
pub record HaveGoneOn (before after : List OutputView) : Type 0 where
  pub channels : map (λ (output : OutputView). output.channel) after
      ≡ map (λ (output : OutputView). output.channel) before
  pub kept : (j : ℕ) (old new : OutputView) → slice_get before j ≡ Some old → slice_get after j ≡ Some new
      → IsPrefix old.taken new.taken

-- no output got an item
abbrev pub NothingPut : Network → TableView → TableView → Type 0
NothingPut net before now = (c : ℕ) (channel : Channel) → slice_get net.channels c ≡ Some channel
    → channel.consumer ≡ Outside → log_end (log_on now c) ≡ log_end (log_on before c)

-- Why they stopped: each output has what its limit says; or none can move, with these limits; or they went on so often
-- without putting anything on an output.
abbrev pub StoppedSince : Network → List (List ℤ) → List ℕ → TableView → Stopped → Type 0
StoppedSince net inputs limits now Reached = HaveReached net.channels limits now
StoppedSince net inputs limits now Rests = IsAtRest net inputs limits now
StoppedSince net inputs limits now Sweeps =
    ∥ ((before : TableView) × AreSwept net inputs limits IDLE_SWEEPS before now × NothingPut net before now) ∥₁

-- They were run again until they stopped so. Each output took all that was put there, and no output got items beyond
-- its limit.
pub record HasCaughtUp (net : Network) (inputs : List (List ℤ)) (limits : List ℕ) (old : TableView)
    (before : List OutputView) (now : TableView) (after : List OutputView) (stopped : Stopped) : Type 0 where
  pub taken : HaveTakenAll net inputs now after
  pub gone_on : HaveGoneOn before after
  pub within : KeepsLimits net limits old now
  pub since : StoppedSince net inputs limits now stopped

-- how often the outlet of each output has failed
abbrev pub failures_by : {O : Type 0} → (O → ℕ) → List (Output O) → List ℕ
failures_by {O} failures outputs = map (λ (output : Output O). failures output.outlet) outputs

-- an outlet's count of failures after a fault: one more where it failed, and else the same
abbrev pub IsCounted : ℕ → ℕ → OutletFault → Type 0
IsCounted before after NoMemory = after ≡ before
IsCounted before after Failed = after ≡ before + 1

-- Why the outputs don't take all that was put, by the counts of failures before and after: memory is missing, or one of their outlets failed.
abbrev pub IsBehindBy : List ℕ → List ℕ → OutletFault → Type 0
IsBehindBy before after NoMemory = Unit {0}
IsBehindBy before after Failed =
    (j : ℕ) × (times : ℕ) × (slice_get before j ≡ Some times) × (slice_get after j ≡ Some (times + 1))
