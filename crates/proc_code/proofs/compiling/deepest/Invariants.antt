use Rattle.std.proofs.Common.{◌≡◌, ◌≤◌, drop}
use Rattle.proc_code.specs.Translation.{greatest_height}
use Rattle.proc_code.proofs.compiling.deepest.Given as goal

abbrev pub invariant-loop-instruction : goal.invariant-loop-instruction
invariant-loop-instruction l = record {
  few : l.height ≤ l.instruction-index;
  deepest : greatest_height l.deepest l.height (drop l.instruction-index l.code) ≡ greatest_height 0 0 l.code;
}
