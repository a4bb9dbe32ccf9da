-- What is told of a folder, by what stands in a host's log.
use Rattle.std.specs.Prelude.{◌≡◌, ◌⊎◌, ℕ, List, ◌∷◌, ◌++◌, Ok, Err}
use Rattle.std.specs.List.{AllByRecursion}
use Rattle.folder_status.specs.Causes.{fault_line, IsCaused}
use Rattle.folder_status.specs.Endings.{AreStreams, HasCome, IsEnding}
use Rattle.folder_status.specs.Files.{IsReadOf, OnlyReads}
use Rattle.folder_status.specs.Kept.{IsRead}
use Rattle.folder_status.specs.Lines.{status_text}
use Rattle.folder_status.specs.declared.ending.Ending.{Ending}
use Rattle.folder_status.specs.declared.ending.Ending.TheVariants.{Complete, Partial, Unsettled}
use Rattle.folder_status.specs.declared.fault.StatusFault.{StatusFault}
use Rattle.folder_status.specs.declared.status.FolderStatus.{FolderStatus}
use Rattle.host.specs.Answers.{Answer}
use Rattle.host.specs.Requests.{Request, Said, Told}
use Rattle.host.specs.declared.fault.HostFault.{HostFault}
use Rattle.kahn_net.specs.Syntax.{network_of}

-- the exit status where a folder was told of
abbrev pub status_of_ending : Ending → ℕ
status_of_ending Complete = 0
status_of_ending Partial = 3
status_of_ending Unsettled = 3

-- This is what a folder holds that was read, and how far its run has come.
pub record IsStatus (folder : List ℕ) (e : List Request) (status : FolderStatus) : Type 0 where
  pub read : IsRead folder e status.net.value status.inputs.value status.outputs.items
  pub come : HasCome (network_of status.net.value.program) status.inputs.value status.outputs.items status.got.items
  pub streams : AreStreams (network_of status.net.value.program) status.inputs.value status.outputs.items status.compared.items
  pub ending : IsEnding (network_of status.net.value.program) status.inputs.value status.outputs.items status.ending

abbrev pub text_of : FolderStatus → List ℕ
text_of status = status_text status.net.value status.inputs.value status.got.items status.outputs.items status.compared.items status.ending

-- The newest request said just that, and succeeded. The exit status is the ending's.
pub record HasTold (folder : List ℕ) (e : List Request) (exit : ℕ) : Type 0 where
  pub status : FolderStatus
  pub before : List Request
  pub is : IsStatus folder before status
  pub said : e ≡ Said (text_of status) (Ok tt) ∷ before
  pub exit_is : exit ≡ status_of_ending status.ending

-- words were told, or nothing was
abbrev pub MayTell : List Request → List Request → Type 0
MayTell old new = (new ≡ old) ⊎ ((words : List ℕ) × (answer : Answer) × (new ≡ Told words answer ∷ old))

-- Why nothing is said of a folder.
pub data HasFailed (folder : List ℕ) (old new : List Request) : Type 0 where
  -- it is refused: the line of that was told, and maybe words behind it
  refused : (fault : StatusFault) (before : List Request) (answer : Answer) → IsCaused folder before fault
      → MayTell (Told (fault_line fault) answer ∷ before) new → HasFailed folder old new
  -- what there is to say can't be said
  unsaid : (bytes : List ℕ) (fault : HostFault) (before : List Request) → MayTell (Said bytes (Err fault) ∷ before) new → HasFailed folder old new
  -- there is no memory for a line
  no_memory : OnlyReads folder old new → HasFailed folder old new

-- to read a file of the folder, to say something or to tell something
abbrev pub IsAsked : List ℕ → Request → Type 0
IsAsked folder r = IsReadOf folder r ⊎ ((bytes : List ℕ) × (answer : Answer) × ((r ≡ Said bytes answer) ⊎ (r ≡ Told bytes answer)))

-- Since then nothing else was asked. The newest request comes first.
pub record IsAllAsked (folder : List ℕ) (old new : List Request) : Type 0 where
  pub asked : List Request
  pub grown : new ≡ asked ++ old
  pub each : AllByRecursion (IsAsked folder) asked
