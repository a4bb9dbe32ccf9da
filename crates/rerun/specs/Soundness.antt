-- What is true of the stages to which turns lead: each is one of the network, and its images stand there.
use Rattle.std.specs.Prelude.{◌≡◌, ℕ, ℤ, List, length, Some, slice_get, true}
use Rattle.kahn_net.specs.Approximations.{approximation}
use Rattle.kahn_net.specs.Fits.{Fits}
use Rattle.kahn_net.specs.Processes.{StandsAt, sent_on, got_on}
use Rattle.kahn_net.specs.Streams.{history_of, IsPrefix}
use Rattle.kahn_net.specs.Syntax.{Code, Network}
use Rattle.kahn_net.specs.Valid.{IsValid}
use Rattle.kahn_net.specs.declared.program.Channel.{Channel}
use Rattle.kahn_net.specs.declared.program.Port.TheVariants.{Outside, Process}
use Rattle.protocol.specs.Node.Reached.{acts_of, ImageStands, IsAsFar, is_counting}
use Rattle.record.specs.Ends.{received_at, log_at}
use Rattle.record.specs.ImageView.{ImageView}
use Rattle.record.specs.ProcessView.{SavedProcessView}
use Rattle.record.specs.declared.image.SavedEnd.{SavedEnd}
use Rattle.retained.specs.LogState.{LogState, IsLogOf}
use Rattle.rerun.specs.Rerunning.{Stage, first_stage, Reruns, CountsFit}

-- A stage is one of the network: on one approximation of its histories, each process stands where it does after so many
-- acts, and these acts got and put what the stage says.
pub record StandsSoundly (net : Network) (inputs : List (List ℤ)) (n : ℕ) (made : ℕ → ℕ) (s : Stage) : Type 0 where
  pub stands : (p : ℕ) (code : Code) → slice_get net.codes p ≡ Some code
      → StandsAt code (approximation net inputs n) (made p) (s.standing p)
  pub input : (c : ℕ) (channel : Channel) → slice_get net.channels c ≡ Some channel → channel.producer ≡ Outside
      → s.put c ≡ history_of inputs c
  pub put : (c p : ℕ) (channel : Channel) → slice_get net.channels c ≡ Some channel → channel.producer ≡ Process p
      → s.put c ≡ sent_on c (acts_of net (approximation net inputs n) made p)
  pub got : (c p : ℕ) (channel : Channel) → slice_get net.channels c ≡ Some channel → channel.consumer ≡ Process p
      → s.got c ≡ length (got_on c (acts_of net (approximation net inputs n) made p))

-- An image has what a stage has: its processes stand so, it counts what was got, and its logs are of what was put.
pub record Matches (net : Network) (s : Stage) (image : ImageView) : Type 0 where
  pub processes : (k : ℕ) (saved : SavedProcessView) → slice_get image.processes k ≡ Some saved
      → saved.standing ≡ s.standing saved.number
  pub received : (j : ℕ) (saved : SavedEnd) → slice_get image.ends j ≡ Some saved → is_counting saved.end ≡ true
      → received_at (Some (saved.end)) ≡ s.got saved.channel
  pub retained : (j : ℕ) (log : LogState) (saved : SavedEnd) → slice_get image.ends j ≡ Some saved
      → log_at (Some (saved.end)) ≡ Some log → IsLogOf log (s.put saved.channel)

-- ---- laws

-- the first stage stands on the approximation 0, where no acts were made
abbrev pub BeginsSoundly : Type 0
BeginsSoundly = (net : Network) (inputs : List (List ℤ)) → IsValid net → Fits net inputs
    → StandsSoundly net inputs 0 (λ p. 0) (first_stage net inputs)

-- What stood on one approximation after these acts stands on a later one: the very same acts are made there.
pub record Lifts (net : Network) (before after : List (List ℤ)) (any later : ℕ → ℕ) : Type 0 where
  pub lifted : ℕ → ℕ
  pub far : IsAsFar lifted later
  pub acts : (p : ℕ) → acts_of net after lifted p ≡ acts_of net before any p
  pub images : (image : ImageView) → ImageStands net before any image → ImageStands net after lifted image

-- A stage stands on a later approximation, and what stood on this one before stands there too, no further than the
-- stage.
pub record Comes (net : Network) (inputs : List (List ℤ)) (n : ℕ) (made : ℕ → ℕ) (t : Stage) : Type 0 where
  pub later : ℕ
  pub acts : ℕ → ℕ
  pub sound : StandsSoundly net inputs later acts t
  pub lifts : (any : ℕ → ℕ) → IsAsFar any made
      → Lifts net (approximation net inputs n) (approximation net inputs later) any acts

-- whatever turns are made from a stage of the network, they lead to a stage of it
abbrev pub GoesSoundly : Type 0
GoesSoundly = (net : Network) (inputs : List (List ℤ)) (n : ℕ) (made : ℕ → ℕ) (s : Stage) (stages : List Stage)
    (t : Stage) → IsValid net → Fits net inputs → StandsSoundly net inputs n made s → Reruns net s stages t
    → Comes net inputs n made t

-- an image that has what a stage of the network has stands where the stage does
abbrev pub GivesImages : Type 0
GivesImages = (net : Network) (inputs : List (List ℤ)) (n : ℕ) (made : ℕ → ℕ) (s : Stage) (image : ImageView)
    → StandsSoundly net inputs n made s → Matches net s image
    → ImageStands net (approximation net inputs n) made image

-- Two images stand on one approximation, the second one at least as far as the first; and whatever was put by the first
-- one's stage was put by its acts there.
pub record HasCome (net : Network) (inputs : List (List ℤ)) (permanent held : ImageView) (first : Stage) : Type 0 where
  pub n : ℕ
  pub permanent_acts : ℕ → ℕ
  pub held_acts : ℕ → ℕ
  pub permanent_stands : ImageStands net (approximation net inputs n) permanent_acts permanent
  pub held_stands : ImageStands net (approximation net inputs n) held_acts held
  pub held_after : IsAsFar permanent_acts held_acts
  pub released : (c p : ℕ) (channel : Channel) (taken : List ℤ) → slice_get net.channels c ≡ Some channel
      → channel.producer ≡ Process p → IsPrefix taken (first.put c)
      → IsPrefix taken (sent_on c (acts_of net (approximation net inputs n) permanent_acts p))

-- so of an image of one stage, and of one of a stage to which turns lead from there
abbrev pub GivesRecords : Type 0
GivesRecords = (net : Network) (inputs : List (List ℤ)) (to_first : List Stage) (first : Stage) (to_second : List Stage)
    (second : Stage) (permanent held : ImageView) → IsValid net → Fits net inputs
    → Reruns net (first_stage net inputs) to_first first → Matches net first permanent
    → Reruns net first to_second second → Matches net second held
    → HasCome net inputs permanent held first

-- turns keep it that of no channel more items were got than were put
abbrev pub KeepsCounts : Type 0
KeepsCounts = (net : Network) (inputs : List (List ℤ)) (n : ℕ) (made : ℕ → ℕ) (s : Stage) (stages : List Stage)
    (t : Stage) → IsValid net → Fits net inputs → StandsSoundly net inputs n made s → Reruns net s stages t
    → CountsFit net s → CountsFit net t
