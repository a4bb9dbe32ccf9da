-- What the laws of code say.
use Rattle.std.specs.Prelude.{◌≡◌, ℕ, List, ℤ, [], slice_get, Some}
use Rattle.kahn_net.specs.Common.{Code, Point, HasPassingLoop, process_trace, trace_from}
use Rattle.kahn_net.specs.NextActs.{next_at}
use Rattle.kahn_net.specs.Repeats.{FitsRepeats}
use Rattle.kahn_net.specs.Processes.{At}
use Rattle.proc_code.specs.declared.instruction.Site.{Site}
use Rattle.proc_code.specs.Machine.{Runs}
use Rattle.proc_code.specs.Translation.{process_code, process_sites, entry_of, next_by}
use Rattle.proc_code.specs.Laws.Processes.{most_steps}

-- from the beginning, on any inputs
abbrev pub ActsFromTheBeginning : Type 0
ActsFromTheBeginning =
    (code : Code) → HasPassingLoop code → (inputs : List (List ℤ))
    → Runs (process_code code) (most_steps code inputs) 0 [] [] code.vars inputs (λ go. process_trace code inputs)

-- from a point at which a process can stand, with any variables, on whatever is unread
abbrev pub ActsFromEachSite : Type 0
ActsFromEachSite =
    (code : Code) → HasPassingLoop code → (point : Point) (vars : List ℤ) (unread : List (List ℤ))
    → FitsRepeats code point
    → Runs (process_code code) (most_steps code unread) (entry_of code point.site) [] point.left vars unread
    (λ go. trace_from code (At point vars) unread)

-- each row of the table of sites is right
abbrev pub StandsAtItsActs : Type 0
StandsAtItsActs =
    (code : Code) (site : ℕ) (row : Site) → slice_get (process_sites code) site ≡ Some row
    → (row.entry ≡ entry_of code site) × (next_by row.act ≡ next_at code site)
