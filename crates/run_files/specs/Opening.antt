-- Files of a folder that a host was asked to open or to make.
use Rattle.std.specs.Prelude.{◌≡◌, ◌⊎◌, ◌≤◌, ℕ, zero, suc, Bool, List, [], ◌∷◌, ◌++◌, Ok, codes, drop, length, map, string_bytes}
use Rattle.std.specs.declared.alloc.Global.{Global}
use Rattle.std.specs.declared.string.String.{String}
use Rattle.host.specs.Requests.{Request, MadeFile, MadeFolder, Renamed, Opened, Cut, Used, Has}
use Rattle.host.specs.declared.line_file.LineFile.{Ghosts as FileWords}
use Rattle.output_file.specs.Lines.{HoldsLines}
use Rattle.output_file.specs.Output.{asked_of}
use Rattle.output_file.specs.declared.resumed.ResumedOutlet.{ResumedOutlet}
use Rattle.run_files.specs.declared.held_file.HeldFile.{HeldFile}
use Rattle.run_files.specs.declared.held_file.OpenedName.{OpenedName}

-- the path of an output's file in a folder
abbrev pub path_in : List ℕ → List ℕ → List ℕ
path_in folder name = folder ++ codes "/" ++ name

-- those of all files of a folder with these outputs: the two texts, and a file for each output
abbrev pub paths_in : List ℕ → List (List ℕ) → List (List ℕ)
paths_in folder outputs = (folder ++ codes "/net") ∷ (folder ++ codes "/inputs") ∷ map (path_in folder) outputs

-- this is so of the first ones of these paths
abbrev pub OfFirst : (List ℕ → List Request → Type 0) → ℕ → List (String Global) → List Request → Type 0
OfFirst P zero paths e = Unit {0}
OfFirst P (suc count) [] e = ⊥
OfFirst P (suc count) (path ∷ paths) e = P (string_bytes path) e × OfFirst P count paths e

-- a file of this path was made
abbrev pub IsFileMade : List ℕ → List Request → Type 0
IsFileMade path e = Has (MadeFile path (Ok tt)) e

-- the first ones of these were made
abbrev pub AreMade : ℕ → List (String Global) → List Request → Type 0
AreMade made paths e = OfFirst IsFileMade made paths e

-- this is so of each of these paths
abbrev pub OfEach : (List ℕ → List Request → Type 0) → List (List ℕ) → List Request → Type 0
OfEach P [] e = Unit {0}
OfEach P (path ∷ paths) e = P path e × OfEach P paths e

-- A folder with files for these outputs was made under another name, and got this one.
pub record IsNewFolder (folder : List ℕ) (outputs : List (List ℕ)) (e : List Request) : Type 0 where
  pub making : List ℕ
  pub made : Has (MadeFolder making (Ok tt)) e
  pub files : OfEach IsFileMade (paths_in making outputs) e
  pub renamed : Has (Renamed making folder (Ok tt)) e

-- each of these was opened in the folder, so that each put waits for the disk where that is asked for
abbrev pub AreOpened : Bool → List ℕ → List OpenedName → List Request → Type 0
AreOpened sync folder [] e = Unit {0}
AreOpened sync folder (one ∷ opened) e =
    Has (Opened folder (string_bytes one.name) sync (Ok one.bytes.value.items)) e × AreOpened sync folder opened e

-- their names
abbrev pub opened_names : List OpenedName → List (List ℕ)
opened_names opened = map (λ (one : OpenedName). string_bytes one.name) opened

-- the host was asked to take off what stands behind the first bytes of a file, if anything does
abbrev pub IsCutTo : List ℕ → ℕ → ℕ → List Request → Type 0
IsCutTo name len size e = (size ≤ len) ⊎ Has (Cut name len (Ok tt)) e

-- The file has the name that was opened, and holds the lines of its items. What stood behind them is taken off.
pub record IsHeldAs {F : Type 0} {file : FileWords F} (one : OpenedName) (held : HeldFile F file) (e : List Request) : Type 0 where
  pub named : file.name_of held.file ≡ string_bytes one.name
  pub lines : HoldsLines one.bytes.value.items held.held.items.items (drop held.held.bytes one.bytes.value.items)
  pub cut : IsCutTo (string_bytes one.name) held.held.bytes (length one.bytes.value.items) e

-- each of these files is the one that was opened at its place
abbrev pub AreHeldAs : {F : Type 0} {file : FileWords F} → List OpenedName → List (HeldFile F file) → List Request → Type 0
AreHeldAs [] [] e = Unit {0}
AreHeldAs [] (held ∷ files) e = ⊥
AreHeldAs (one ∷ opened) [] e = ⊥
AreHeldAs (one ∷ opened) (held ∷ files) e = IsHeldAs one held e × AreHeldAs opened files e

-- what the file of each outlet was asked stands under the name at its place
abbrev pub AreUsed : {F : Type 0} {file : FileWords F} → List OpenedName → List (ResumedOutlet F file) → List Request → Type 0
AreUsed opened [] e = Unit {0}
AreUsed [] (outlet ∷ outlets) e = ⊥
AreUsed (one ∷ opened) (outlet ∷ outlets) e =
    Has (Used (string_bytes one.name) (asked_of outlet)) e × AreUsed opened outlets e
