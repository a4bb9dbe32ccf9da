-- How far processes have come on histories.
use Rattle.std.specs.Prelude.{◌≡◌, ℕ, ◌+◌, ◌≤◌, ◌<◌, ℤ, List, [], ◌++◌, length, take, replicate, slice_get, slice_index, Some}
use Rattle.kahn_net.specs.Common.{history_of, Code, Network, Standing, StandsAt, process_trace, sent_on, standing_of, code_of}
use Rattle.kahn_net.specs.Processes.{got_on, output_of, NotBegun}
use Rattle.kahn_net.specs.declared.program.Channel.{Channel}
use Rattle.kahn_net.specs.declared.program.Port.TheVariants.{Outside, Process}
use Rattle.kahn_net.specs.declared.program.Process.{Process as ProcessText}
use Rattle.kahn_net.specs.declared.limits.TheConstants.{MAX_HISTORY_ITEMS}
use Rattle.approximations.specs.declared.progress.Progress.{Progress}

-- Process p of a network has made so many acts on these histories: it stands so after them, they got so many items of
-- each channel, and what they put on the process's channels is there, and then what was added.
pub record HasMade (net : Network) (p : ℕ) (code : Code) (here : List (List ℤ)) (standing : Standing) (got : List ℕ)
    (added : List (List ℤ)) : Type 0 where
  pub m : ℕ
  pub stands : StandsAt code here m standing
  pub got_is : (c : ℕ) → slice_index got c ≡ length (got_on c (take m (process_trace code here).steps))
  pub put_is : (c : ℕ) (channel : Channel) → slice_get net.channels c ≡ Some channel → channel.producer ≡ Process p
      → history_of here c ++ history_of added c ≡ sent_on c (take m (process_trace code here).steps)

-- the same of a process by its number, after some acts
abbrev pub IsOn : Network → ℕ → List (List ℤ) → Progress → List (List ℤ) → Type 0
IsOn net p here progress added =
    (code : Code) → slice_get net.codes p ≡ Some code
    → ∥ HasMade net p code here (standing_of progress.state) progress.got.items added ∥₁

-- and of all processes
pub record AreOn (net : Network) (here : List (List ℤ)) (all : List Progress) (added : List (List ℤ)) : Type 0 where
  pub count : length all ≡ length net.codes
  pub each : (p : ℕ) (progress : Progress) → slice_get all p ≡ Some progress
      → (length progress.got.items ≡ length net.channels) × IsOn net p here progress added

-- with what was added a process's channels have all that its function gives on these histories
abbrev pub HasPutAll : Network → ℕ → List (List ℤ) → List (List ℤ) → Type 0
HasPutAll net p here added =
    (code : Code) → slice_get net.codes p ≡ Some code → (c : ℕ) (channel : Channel) → slice_get net.channels c ≡ Some channel
    → channel.producer ≡ Process p → history_of here c ++ history_of added c ≡ output_of code here c

-- nothing was added where this process doesn't put
abbrev pub IsSameElsewhere : Network → ℕ → List (List ℤ) → List (List ℤ) → Type 0
IsSameElsewhere net p before after =
    (c : ℕ) (channel : Channel) → slice_get net.channels c ≡ Some channel → (channel.producer ≡ Process p → ⊥)
    → history_of after c ≡ history_of before c

-- no history is too long with what was added
abbrev pub AreShortWith : List (List ℤ) → List (List ℤ) → Type 0
AreShortWith here added = (c : ℕ) → length (history_of here c) + length (history_of added c) ≤ MAX_HISTORY_ITEMS

-- the process's function gives too long a history on one of its channels
pub record GivesLong (net : Network) (p : ℕ) (here : List (List ℤ)) : Type 0 where
  pub c : ℕ
  pub channel : Channel
  pub there : slice_get net.channels c ≡ Some channel
  pub from : channel.producer ≡ Process p
  pub long : (code : Code) → slice_get net.codes p ≡ Some code → MAX_HISTORY_ITEMS < length (output_of code here c)

-- how far a process has come, without pointers
pub record ProgressView : Type 0 where
  pub standing : Standing
  pub got : List ℕ

abbrev pub progress_view : Progress → ProgressView
progress_view progress = record { standing = standing_of progress.state; got = progress.got.items }

-- a process that hasn't begun, in a network with so many channels
abbrev pub beginning_of : ℕ → ProcessText → ProgressView
beginning_of channels process =
    record { standing = NotBegun (code_of process).vars; got = replicate channels 0 }

-- so of every process
abbrev pub HaveAllPut : Network → List (List ℤ) → List (List ℤ) → Type 0
HaveAllPut net here added = (p : ℕ) → HasPutAll net p here added

-- nothing was added to a channel whose items come from outside
abbrev pub IsInside : Network → List (List ℤ) → Type 0
IsInside net added =
    (c : ℕ) (channel : Channel) → slice_get net.channels c ≡ Some channel → channel.producer ≡ Outside
    → history_of added c ≡ []

-- so of some process
abbrev pub GivesLongSomewhere : Network → List (List ℤ) → Type 0
GivesLongSomewhere net here = (p : ℕ) × GivesLong net p here
