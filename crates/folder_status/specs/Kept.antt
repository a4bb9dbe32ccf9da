-- What was read of a folder.
use Rattle.std.specs.Prelude.{◌≡◌, ℕ, ℤ, List, [], length, map, Option, Some, None, Ok, slice_get}
use Rattle.std.specs.List.{AllByRecursion}
use Rattle.host.specs.Requests.{Request, Has, Read}
use Rattle.net_text.specs.Names.{NameTree}
use Rattle.output_file.specs.Lines.{HoldsLines}
use Rattle.protocol.specs.Node.Common.{Net, network_of}
use Rattle.protocol.specs.World.Common.{output_channels}
use Rattle.folder_status.specs.Texts.{AreInputsOf, IsNetOf}
use Rattle.folder_status.specs.Files.{inputs_path, items_path, net_path}
use Rattle.folder_status.specs.declared.kept.KeptOutput.{KeptOutput}

abbrev pub text_of : Option NameTree → List ℕ
text_of None = []
text_of (Some name) = name.text

-- the name of a channel
abbrev pub name_of : List NameTree → ℕ → List ℕ
name_of names channel = text_of (slice_get names channel)

-- These bytes are the lines of an output's items, and behind them so many bytes of a line that was cut off.
pub record AreLinesOf (bytes : List ℕ) (output : KeptOutput) : Type 0 where
  pub tail : List ℕ
  pub holds : HoldsLines bytes output.items.items tail
  pub cut_off : output.cut_off ≡ length tail

-- The file of this output was read, and this is what it held.
pub record IsFileOf (folder : List ℕ) (names : List NameTree) (e : List Request) (output : KeptOutput) : Type 0 where
  pub bytes : List ℕ
  pub read : Has (Read (items_path folder (name_of names output.channel)) (Ok bytes)) e
  pub lines : AreLinesOf bytes output

-- The text of the folder's network was read, and that of its inputs, and this is what they say.
pub record IsNetRead (folder : List ℕ) (net : Net) (e : List Request) : Type 0 where
  pub bytes : List ℕ
  pub read : Has (Read (net_path folder) (Ok bytes)) e
  pub is : IsNetOf bytes net

pub record AreInputsRead (folder : List ℕ) (net : Net) (inputs : List (List ℤ)) (e : List Request) : Type 0 where
  pub bytes : List ℕ
  pub read : Has (Read (inputs_path folder) (Ok bytes)) e
  pub are : AreInputsOf bytes net inputs

-- The two texts of the folder were read and are those of this network and of these items for its inputs; and the file of each output was read,
-- in order of the channels.
pub record IsRead (folder : List ℕ) (e : List Request) (net : Net) (inputs : List (List ℤ)) (outputs : List KeptOutput) : Type 0 where
  pub net_read : IsNetRead folder net e
  pub inputs_read : AreInputsRead folder net inputs e
  pub listed : map (λ (output : KeptOutput). output.channel) outputs ≡ output_channels 0 (network_of net.program).channels
  pub each : AllByRecursion (IsFileOf folder net.channel_names.items e) outputs

-- the items of each output
abbrev pub items_of : KeptOutput → List ℤ
items_of output = output.items.items

abbrev pub kept_streams : List KeptOutput → List (List ℤ)
kept_streams outputs = map items_of outputs
