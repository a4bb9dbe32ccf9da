-- The script of a run that is asked for.
use Rattle.std.specs.Prelude.{◌≡◌, ℕ, List, [], Option, Some, None, IfSome}
use Rattle.fail_script.specs.Lines.{IsScript}
use Rattle.fail_script.specs.declared.act.ScriptLine.{ScriptLine}

-- the lines of a run's script: of a text with these bytes, where they are known, if a script is asked for, and else none
abbrev pub AreLinesOf : {S : Type 0} → Option S → ℕ → Option (List ℕ) → List ScriptLine → Type 0
AreLinesOf {S} None nodes known lines = lines ≡ []
AreLinesOf {S} (Some name) nodes known lines = IfSome known (λ bytes. IsScript nodes bytes lines)
