-- An output's stream in its file.
use Rattle.std.specs.Prelude.{◌≡◌, ◌⊎◌, ℤ, List}
use Rattle.output_file.specs.Lines.{lines_of}
use Rattle.output_file.specs.Output.{asked_of, held_of, items_of, taken_of}
use Rattle.host.specs.LineRequests.{content_after}
use Rattle.host.specs.declared.line_file.LineFile.{Ghosts as FileWords}
use Rattle.output_file.specs.declared.resumed.ResumedOutlet.{ResumedOutlet}

-- The outlet took this stream, and it is in its file: the file that had the lines of the held items, and did what it was asked since,
-- has those of some items. They begin with the held ones, and are the stream, or the held ones where the stream hasn't come further.
pub record IsInFile {F : Type 0} {file : FileWords F} (stream : List ℤ) (outlet : ResumedOutlet F file) : Type 0 where
  pub took : taken_of outlet ≡ stream
  pub content : content_after (lines_of (held_of outlet)) (asked_of outlet) ≡ lines_of (items_of outlet)
  pub no_more : (items_of outlet ≡ stream) ⊎ (items_of outlet ≡ held_of outlet)
