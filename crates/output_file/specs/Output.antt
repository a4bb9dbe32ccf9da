-- An outlet over a file of lines.
use Rattle.std.specs.Prelude.{ℕ, ℤ, List, take}
use Rattle.sector_disk.specs.Past.{states_of}
use Rattle.host.specs.LineRequests.{Request}
use Rattle.output_file.specs.Writing.{OutputView}
use Rattle.host.specs.declared.line_file.LineFile.{Ghosts as FileWords}
use Rattle.output_file.specs.declared.resumed.ResumedOutlet.{ResumedOutlet}
use Rattle.std.specs.Prelude.{length}

abbrev pub output_view : {F : Type 0} {file : FileWords F} → ResumedOutlet F file → OutputView
output_view {F} {file} outlet = record {
  items = outlet.items.items;
  held = outlet.held;
  count = outlet.count;
  difference = outlet.difference;
  differing = outlet.differing;
  broken = outlet.lines.broken;
  block = outlet.lines.block.items;
  asked = file.asked outlet.lines.file;
}

-- those that the file held when it was opened, and those appended since
abbrev pub items_of : {F : Type 0} {file : FileWords F} → ResumedOutlet F file → List ℤ
items_of outlet = outlet.items.items

-- those that the file held when it was opened
abbrev pub held_of : {F : Type 0} {file : FileWords F} → ResumedOutlet F file → List ℤ
held_of outlet = take outlet.held outlet.items.items

-- the held items that were met again, and those appended
abbrev pub taken_of : {F : Type 0} {file : FileWords F} → ResumedOutlet F file → List ℤ
taken_of outlet = take outlet.count outlet.items.items

-- what its file was asked since it was opened, the newest first
abbrev pub asked_of : {F : Type 0} {file : FileWords F} → ResumedOutlet F file → List Request
asked_of {F} {file} outlet = file.asked outlet.lines.file

-- how often it failed
abbrev pub failures_of : {F : Type 0} {file : FileWords F} → ResumedOutlet F file → ℕ
failures_of outlet = length (states_of outlet.failures)
