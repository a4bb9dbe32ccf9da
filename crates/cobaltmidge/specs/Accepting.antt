-- The texts that a run accepts.
use Rattle.std.specs.Prelude.{ℕ, ℤ, IsUtf8, List, IfSome}
use Rattle.cobaltmidge.specs.Texts.{IsNetOf, AreInputsOf}
use Rattle.fail_script.specs.Lines.{IsScript}
use Rattle.fail_script.specs.declared.act.ScriptLine.{ScriptLine}
use Rattle.kahn_net.specs.Streams.{ArePrefixes}
use Rattle.protocol.specs.Node.Common.{Net, network_of, node_count}
use Rattle.run_files.specs.Rules.{Given}

-- The inputs of this network have grown from those of a text: that gives it inputs, and each of its lists is a beginning of the one at its place.
pub record HaveGrownFrom (net : Net) (inputs : List (List ℤ)) (kept : List ℕ) : Type 0 where
  pub utf8 : IsUtf8 kept
  pub before : List (List ℤ)
  pub of_kept : AreInputsOf kept net before
  pub longer : ArePrefixes before inputs

-- a script, where there is one, is one for the nodes of this network
abbrev pub IsScriptFor : Net → Given → Type 0
IsScriptFor net given = IfSome given.script
    (λ bytes. (lines : List ScriptLine) × IsScript (node_count (network_of net.program)) bytes lines)

-- These texts are of this network and of these inputs for it.
pub record AreTextsOf (net : Net) (inputs : List (List ℤ)) (given : Given) : Type 0 where
  pub of_net : IsNetOf given.net net
  pub of_inputs : AreInputsOf given.inputs net inputs
  pub of_script : IsScriptFor net given

-- These texts are accepted: they are a network's, its inputs', and where there is a script that of a script for its nodes. Where the run's folder
-- has another text of inputs, these have grown from it.
pub record IsAccepted (given : Given) : Type 0 where
  pub net : Net
  pub inputs : List (List ℤ)
  pub of_net : IsNetOf given.net net
  pub of_inputs : AreInputsOf given.inputs net inputs
  pub of_script : IsScriptFor net given
  pub of_kept : IfSome given.kept (HaveGrownFrom net inputs)
