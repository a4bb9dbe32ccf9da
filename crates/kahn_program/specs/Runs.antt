-- The report of a run of a network.
use Rattle.std.specs.Prelude.{◌≡◌, ◌↔◌, ℕ, Bool, true, false, IsTrue, ℤ, is_some}
use Rattle.std.specs.Prelude.{List, Option, Some, None, map, take}
use Rattle.protocol.specs.Node.Common.{history_of, node_count, network_of, approximation, Net}
use Rattle.kahn_net.specs.Approximations.{IsSolution}
use Rattle.protocol.specs.World.Common.{output_channels, are_quiet, WorldView}
use Rattle.cobaltmidge.specs.Runs.{IsEndOf, IsRun, released_streams}
use Rattle.cobaltmidge.specs.Scripts.{scripted_of}
use Rattle.cobaltmidge.specs.Runs.{cut_at}
use Rattle.fail_script.specs.declared.act.ScriptLine.{ScriptLine}
use Rattle.cobaltmidge.specs.Common.{history_text}
use Rattle.replay.specs.Replay.{Happening}
use Rattle.replay.specs.declared.kept.ScriptedEvent.{ScriptedEvent}
use Rattle.kahn_program.specs.Asked.{settings_of}
use Rattle.kahn_program.specs.Report.{report_text}
use Rattle.kahn_program.specs.Scripts.{AreLinesOf}
use Rattle.kahn_program.specs.declared.asked.Options.{Options}

-- what is printed of a stream, and whether the run is told to be complete: a run whose streams are cut isn't
abbrev pub first_items : Option ℕ → List ℤ → List ℤ
first_items None stream = stream
first_items (Some items) stream = take items stream

abbrev pub is_whole : Option ℕ → Bool → Bool
is_whole None complete = complete
is_whole (Some items) complete = false

-- what is written of a run that released these streams
abbrev pub run_text : Net → Option ℕ → List (List ℤ) → Bool → List ℕ
run_text net cut released complete =
    report_text net.program.channels.items net.channel_names.items (map (first_items cut) released)
    (is_whole cut complete)

-- this text, which says whether the run is complete, is what a report tells of a world, cut at so many items where
-- each output has them
abbrev pub IsToldOf : Net → Option ℕ → WorldView → List ℕ → Bool → Type 0
IsToldOf net items now text told =
    (told ≡ is_whole (cut_at items (released_streams (network_of net.program) now.stations)) (are_quiet now))
    × (text ≡ run_text net (cut_at items (released_streams (network_of net.program) now.stations))
    (released_streams (network_of net.program) now.stations) (are_quiet now))

-- a text is written, where it is asked for
abbrev pub IsWrittenIf : Bool → (List ℕ → Type 0) → List ℕ → Type 0
IsWrittenIf true wrote text = wrote text
IsWrittenIf false wrote text = Unit {0}

-- A text is the report of a run of this network on these inputs, by the events of this script, and tells whether it is complete: of what has
-- left in the world at its end, which is kept too. The run went on behind what its outputs held, if they did: `held` says whether, and how many
-- items each. Where so many items of each output were asked for, and each has them, the first ones of each are printed, and the run is partial.
-- Where a history is asked for, what happened on the way to that world is written too.
abbrev pub IsReport : (Option (List ℕ) → Type 0) → (List (List ℤ) → Type 0) → (List ℕ → Type 0) → Options → Net → List (List ℤ)
    → List ScriptedEvent → List ℕ → Bool → Type 0
IsReport held kept wrote options net inputs script text told =
    ∥ ((now : WorldView) × (happened : List Happening) × (counts : Option (List ℕ)) × held counts
    × IsEndOf counts (settings_of options) (network_of net.program) inputs script happened now
    × IsRun (network_of net.program) inputs (released_streams (network_of net.program) now.stations) (are_quiet now)
    × IsToldOf net options.items now text told
    × kept (released_streams (network_of net.program) now.stations)
    × IsWrittenIf (is_some options.history) wrote (history_text net happened)) ∥₁

-- the same by the script of a text with these bytes, where they are known, if a script is asked for
abbrev pub IsScriptedReport : (Option (List ℕ) → Type 0) → (List (List ℤ) → Type 0) → (List ℕ → Type 0) → Options → Net → List (List ℤ)
    → Option (List ℕ) → List ℕ → Bool → Type 0
IsScriptedReport held kept wrote options net inputs script_bytes text told =
    (lines : List ScriptLine)
    × AreLinesOf options.script (node_count (network_of net.program)) script_bytes lines
    × IsReport held kept wrote options net inputs (map scripted_of lines) text told

-- A text is the report of the n-th approximation on these inputs: each output's whole history there. It tells
-- `complete` exactly where that approximation is a solution.
pub record IsApproximated (net : Net) (inputs : List (List ℤ)) (n : ℕ) (text : List ℕ) (told : Bool) : Type 0 where
  pub text_is : text ≡ report_text net.program.channels.items net.channel_names.items
      (map (λ (channel : ℕ). history_of (approximation (network_of net.program) inputs n) channel)
      (output_channels 0 net.program.channels.items)) told
  pub solution : IsTrue told
      ↔ IsSolution (network_of net.program) inputs (approximation (network_of net.program) inputs n)

-- a text is the report that is asked for: of an approximation, or of a run
abbrev pub IsReportBy : Option ℕ → (Option (List ℕ) → Type 0) → (List (List ℤ) → Type 0) → (List ℕ → Type 0) → Options → Net → List (List ℤ)
    → Option (List ℕ) → List ℕ → Bool → Type 0
IsReportBy (Some n) held kept wrote options net inputs script_bytes text told = IsApproximated net inputs n text told
IsReportBy None held kept wrote options net inputs script_bytes text told =
    IsScriptedReport held kept wrote options net inputs script_bytes text told

abbrev pub IsReportOf : (Option (List ℕ) → Type 0) → (List (List ℤ) → Type 0) → (List ℕ → Type 0) → Options → Net → List (List ℤ)
    → Option (List ℕ) → List ℕ → Bool → Type 0
IsReportOf held kept wrote options net inputs script_bytes text told =
    IsReportBy options.approx held kept wrote options net inputs script_bytes text told
