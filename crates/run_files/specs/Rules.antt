-- What stands in a host's log before each request of a run.
use Rattle.std.specs.Prelude.{◌≡◌, ◌≢◌, ◌⊎◌, ℕ, false, List, ◌++◌, Option, Some, None, Ok, codes}
use Rattle.host.specs.Requests.{Request, Read, Looked, Placed, MadeFile, MadeFolder, OpenedDevice, Wrote, Synced, Renamed, RemovedFile, RemovedFolder}
use Rattle.host.specs.Requests.{Locked, Unlocked, Opened, Cut, Used, Said, Told, OpenedSource, Took, Has, HasUnder, Later, Each, IsHeld, IsFree}
use Rattle.host.specs.declared.host.Standing.TheVariants.{Device}
use Rattle.run_files.specs.Leftovers.{IsLeft, no_path}
use Rattle.run_files.specs.Places.{is_within}
use Rattle.run_files.specs.Wanted.{Wanted}

-- the texts of a run: the network's, that of its inputs, and the script's, if one is asked for
pub record Given : Type 0 where
  pub net : List ℕ
  pub inputs : List ℕ
  pub script : Option (List ℕ)
  -- another text of inputs, where the run's folder has one
  pub kept : Option (List ℕ)

-- these texts, of a run whose folder has this text of inputs
abbrev pub grown_from : List ℕ → Given → Given
grown_from kept given = record given { kept = Some kept }

-- the script was read, if one is asked for
abbrev pub WasReadIf : Option (List ℕ) → Option (List ℕ) → List Request → Type 0
WasReadIf None None e = Unit {0}
WasReadIf (Some path) (Some bytes) e = Has (Read path (Ok bytes)) e
WasReadIf None (Some bytes) e = ⊥
WasReadIf (Some path) None e = ⊥

-- these texts were read, of the files that are asked for
pub record WereRead (o : Wanted) (t : Given) (e : List Request) : Type 0 where
  pub net : Has (Read o.net (Ok t.net)) e
  pub inputs : Has (Read o.inputs (Ok t.inputs)) e
  pub script : WasReadIf o.script t.script e

-- the texts of the network and of its inputs were read, of the files that are asked for
pub record AreRead (o : Wanted) (t : Given) (e : List Request) : Type 0 where
  pub net : Has (Read o.net (Ok t.net)) e
  pub inputs : Has (Read o.inputs (Ok t.inputs)) e

-- the file of this name stands at another place than this one
abbrev pub IsElsewhere : List ℕ → List ℕ → List Request → Type 0
IsElsewhere place name e = (other : List ℕ) × Has (Placed name (Ok other)) e × (other ≢ place)

-- this place isn't that of a folder, nor one in it
abbrev pub IsOutside : List ℕ → List ℕ → List Request → Type 0
IsOutside place folder e = (other : List ℕ) × Has (Placed folder (Ok other)) e × (is_within other place ≡ false)

-- where a name is asked for, this holds of it
abbrev pub IfAsked : Option (List ℕ) → (List ℕ → List Request → Type 0) → List Request → Type 0
IfAsked None P e = Unit {0}
IfAsked (Some name) P e = P name e

-- the host said that what happens is written to no text of the run, and to no file of its folder
pub record IsApart (o : Wanted) (name : List ℕ) (e : List Request) : Type 0 where
  pub place : List ℕ
  pub placed : Has (Placed name (Ok place)) e
  pub net : IsElsewhere place o.net e
  pub inputs : IsElsewhere place o.inputs e
  pub script : IfAsked o.script (IsElsewhere place) e
  pub state : IfAsked o.state (IsOutside place) e

-- These two texts, the network's and its inputs', were read, and it is they for which a judge judges.
pub record AreJudged (judges : Given → Type 0) (o : Wanted) (net inputs : List ℕ) (e : List Request) : Type 0 where
  pub given : Given
  pub read : AreRead o given e
  pub net_text : given.net ≡ net
  pub inputs_text : given.inputs ≡ inputs
  pub judged : judges given

-- Before anything is made, written or locked all texts were read and are accepted, and the names that are written were told apart.
pub record IsReady (accepts : Given → Type 0) (o : Wanted) (e : List Request) : Type 0 where
  pub given : Given
  pub read : WereRead o given e
  pub accepted : accepts given
  pub apart : IfAsked o.history (IsApart o) e

-- the two texts of the folder were found to be those of the run, under its lock
pub record HasSameTexts (o : Wanted) (folder : List ℕ) (e : List Request) : Type 0 where
  pub net : List ℕ
  pub inputs : List ℕ
  pub net_read : Has (Read o.net (Ok net)) e
  pub inputs_read : Has (Read o.inputs (Ok inputs)) e
  pub same_net : HasUnder folder (Read (folder ++ codes "/net") (Ok net)) e
  pub same_inputs : HasUnder folder (Read (folder ++ codes "/inputs") (Ok inputs)) e

-- The folder, whose lock is held, has the text of the run's network, and one of inputs from which the run's text of inputs, this one, has grown.
pub record HasGrown (accepts : Given → Type 0) (o : Wanted) (folder inputs : List ℕ) (e : List Request) : Type 0 where
  pub given : Given
  pub kept : List ℕ
  pub read : AreRead o given e
  pub text : given.inputs ≡ inputs
  pub accepted : accepts (grown_from kept given)
  pub held : IsHeld folder e
  pub same_net : HasUnder folder (Read (folder ++ codes "/net") (Ok given.net)) e
  pub other_inputs : HasUnder folder (Read (folder ++ codes "/inputs") (Ok kept)) e

-- A file that this run made, and to which it wrote its text of inputs, gets the name of the one in such a folder.
pub record IsReplacement (accepts : Given → Type 0) (o : Wanted) (from to : List ℕ) (e : List Request) : Type 0 where
  pub folder : List ℕ
  pub inputs : List ℕ
  pub grown : HasGrown accepts o folder inputs e
  pub made : Has (MadeFile from (Ok tt)) e
  pub wrote : Has (Wrote from inputs (Ok tt)) e
  pub named : to ≡ folder ++ codes "/inputs"

-- What stands before a request.
abbrev pub rule : (Given → Type 0) → Wanted → Request → List Request → Type 0
rule accepts o (Read path answer) e = Unit {0}
rule accepts o (Looked path answer) e = Unit {0}
rule accepts o (Placed path answer) e = Unit {0}
rule accepts o (MadeFile path answer) e = IsReady accepts o e
rule accepts o (MadeFolder path answer) e = IsReady accepts o e
-- what is no file of bytes, and is asked for by its name
rule accepts o (OpenedDevice path answer) e =
    IsReady accepts o e × (o.history ≡ Some path) × Has (Looked path (Ok Device)) e
-- only what this run made, or a device that is asked for
rule accepts o (Wrote path bytes answer) e =
    IsReady accepts o e × (Has (MadeFile path (Ok tt)) e ⊎ Has (OpenedDevice path (Ok tt)) e)
rule accepts o (Synced path answer) e = IsReady accepts o e
-- only what this run made: a file only to the name of what happens, or to that of the folder's text of inputs where it takes the place of one
-- from which it has grown; a folder only to that of the folder
rule accepts o (Renamed from to answer) e =
    IsReady accepts o e
    × ((Has (MadeFile from (Ok tt)) e × (o.history ≡ Some to))
    ⊎ ((Has (MadeFolder from (Ok tt)) e × (o.state ≡ Some to)) ⊎ IsReplacement accepts o from to e))
rule accepts o (RemovedFile path answer) e = Has (MadeFile path (Ok tt)) e
rule accepts o (RemovedFolder path answer) e = Has (MadeFolder path (Ok tt)) e
rule accepts o (Locked folder answer) e = IsReady accepts o e × IsFree e × (o.state ≡ Some folder)
rule accepts o (Unlocked folder) e = IsHeld folder e
-- only under the lock, and of a folder of these texts; each put waits for the disk where that is asked for, and only there
rule accepts o (Opened folder name waits answer) e =
    IsReady accepts o e × IsHeld folder e × HasSameTexts o folder e × (waits ≡ o.sync)
rule accepts o (Cut name len answer) e =
    IsReady accepts o e × ((folder bytes : List ℕ) × IsHeld folder e × Has (Opened folder name o.sync (Ok bytes)) e)
-- while the lock is still held
rule accepts o (Used name asked) e = (folder bytes : List ℕ) × IsHeld folder e × Has (Opened folder name o.sync (Ok bytes)) e
rule accepts o (Said bytes answer) e = Unit {0}
rule accepts o (Told bytes answer) e = Unit {0}
rule accepts o (OpenedSource number path answer) e = Unit {0}
rule accepts o (Took number answer) e = Unit {0}

-- What a call asks keeps the rules, and it leaves the lock as it was. Of what it made only this may be left.
pub record GoesWith (made : List ℕ → Type 0) (accepts : Given → Type 0) (o : Wanted) (old new : List Request) : Type 0 where
  pub rules : Each (rule accepts o) old → Each (rule accepts o) new
  pub later : Later old new
  pub held : (folder : List ℕ) → IsHeld folder old → IsHeld folder new
  pub under : (folder : List ℕ) (r : Request) → HasUnder folder r old → HasUnder folder r new
  pub free : IsFree old → IsFree new
  pub left : (path : List ℕ) → IsLeft path new → IsLeft path old ⊎ made path

-- it leaves nothing that it made
abbrev pub GoesOn : (Given → Type 0) → Wanted → List Request → List Request → Type 0
GoesOn accepts o old new = GoesWith no_path accepts o old new
