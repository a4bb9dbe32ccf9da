use Rattle.std.proofs.Common.{◌≡◌, ◌≤◌, drop}
use Rattle.proc_code.specs.Translation.{greatest_nesting}
use Rattle.proc_code.proofs.compiling.most_nested.Given as goal

abbrev pub invariant-loop-instruction : goal.invariant-loop-instruction
invariant-loop-instruction l = record {
  few : l.nesting ≤ l.instruction-index;
  greatest : greatest_nesting l.greatest l.nesting (drop l.instruction-index l.code) ≡ greatest_nesting 0 0 l.code;
}
