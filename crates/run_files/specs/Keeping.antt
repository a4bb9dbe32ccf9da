-- What stands in a host's log of what a run keeps.
use Rattle.std.specs.Prelude.{◌≡◌, ◌⊎◌, ℕ, ℤ, Bool, List, Ok}
use Rattle.host.specs.LineRequests as lines
use Rattle.host.specs.LineRequests.{content_after}
use Rattle.host.specs.Requests.{Request, MadeFile, OpenedDevice, Wrote, Renamed, Opened, Used, Has}
use Rattle.output_file.specs.Lines.{lines_of}

-- The file of this name was opened in this folder, so that each put waits for the disk where that is asked for (`sync`), and was asked all
-- this since: one that held the lines of some items, and did what it
-- was asked, holds those of others, which are the stream, or the ones it had where the stream hasn't come further.
pub record IsKept (sync : Bool) (folder name : List ℕ) (stream : List ℤ) (e : List Request) : Type 0 where
  pub bytes : List ℕ
  pub opened : Has (Opened folder name sync (Ok bytes)) e
  pub asked : List lines.Request
  pub used : Has (Used name asked) e
  pub held : List ℤ
  pub items : List ℤ
  pub content : content_after (lines_of held) asked ≡ lines_of items
  pub no_more : (items ≡ stream) ⊎ (items ≡ held)

-- These bytes were written to a file that was made, and that got this name; or to a device of this name.
abbrev pub IsWrittenTo : List ℕ → List ℕ → List Request → Type 0
IsWrittenTo path bytes e =
    ((made : List ℕ) × Has (MadeFile made (Ok tt)) e × Has (Wrote made bytes (Ok tt)) e × Has (Renamed made path (Ok tt)) e)
    ⊎ (Has (OpenedDevice path (Ok tt)) e × Has (Wrote path bytes (Ok tt)) e)
