-- How the host's log goes on, from the first text to the exit status.
use Rattle.std.proofs.Common.{◌≡◌, subst, ℕ, List, Option, Some, None, string_bytes}
use Rattle.std.specs.Prelude.{IfSome}
use Rattle.std.specs.Option.{option_map}
use Rattle.std.specs.declared.alloc.Global.{Global}
use Rattle.std.specs.declared.string.String.{String}
use Rattle.fail_script.specs.Lines.{IsScript}
use Rattle.fail_script.specs.declared.act.ScriptLine.{ScriptLine}
use Rattle.host.specs.Requests.{Request}
use Rattle.run_files.specs.Rules.{GoesOn, WasReadIf}
use Rattle.run_files.proofs.Left.{left_by_goes}
use Rattle.run_files.specs.Wanted.{Wanted}
use Rattle.kahn_program.specs.Program.{IsAccepted, Keeps}
use Rattle.kahn_program.specs.Scripts.{AreLinesOf}

pub keeps_goes : (o : Wanted) (a b : List Request) → GoesOn IsAccepted o a b → Keeps o a b
keeps_goes o a b goes = record { rules = goes.rules; later = goes.later; free = goes.free; cleared = left_by_goes _ _ a b goes }

pub keeps_then : (o : Wanted) (a b c : List Request) → Keeps o a b → Keeps o b c → Keeps o a c
keeps_then o a b c first second = record {
  rules = λ h. second.rules (first.rules h);
  later = λ r h. second.later r (first.later r h);
  free = λ h. second.free (first.free h);
  cleared = λ path left. first.cleared path (second.cleared path left);
}

pub keeps_as : (o p : Wanted) (a b : List Request) → o ≡ p → Keeps o a b → Keeps p a b
keeps_as o p a b same keeps = let P : Wanted → Type 0 = λ w. Keeps w a b in subst P same keeps

-- a script that was read, and whose lines these are, is accepted
pub script_accepted : (name : Option (String Global)) (nodes : ℕ) (known : Option (List ℕ)) (lines : List ScriptLine) (e : List Request)
    → WasReadIf (option_map string_bytes name) known e → AreLinesOf name nodes known lines
    → IfSome known (λ bytes. (of : List ScriptLine) × IsScript nodes bytes of)
script_accepted None nodes None lines e read are = tt
script_accepted None nodes (Some bytes) lines e read are = absurd read
script_accepted (Some name) nodes None lines e read are = tt
script_accepted (Some name) nodes (Some bytes) lines e read are = (lines, are)
