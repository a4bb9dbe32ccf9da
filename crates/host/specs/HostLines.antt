-- Lines over the calls of the system.
use Rattle.std.specs.Prelude.{ℕ, Bool, List, string_bytes}
use Rattle.host.specs.LineRequests.{Request}
use Rattle.host.specs.LinesAsked.{requests_in}
use Rattle.host.specs.declared.host_lines.HostLines.{HostLines}
use Rattle.host.specs.declared.std_file.StdFile.{StdFile}

-- what it was asked since it was opened, the newest first
abbrev pub requests_of : HostLines → List Request
requests_of file = requests_in file.asked

-- the name that it was opened by
abbrev pub lines_name : HostLines → List ℕ
lines_name file = string_bytes file.name

-- the file below
abbrev pub raw_of : HostLines → StdFile
raw_of file = file.raw

-- each put waits for the disk
abbrev pub is_waiting : HostLines → Bool
is_waiting file = file.waits
