use Rattle.std.proofs.Common.{◌≡◌, true}
use Rattle.stream_program.proofs.Naming.{AreFirstInputs, IsStandardBefore}
use Rattle.stream_program.proofs.program.inputs_of_sources.Given as goal

-- each source so far has its input, and it is known whether one of them is standard input
abbrev pub invariant-loop-place : goal.invariant-loop-place
invariant-loop-place l = record {
  first : AreFirstInputs l.network.net.value l.sources l.numbers.items l.place;
  standard : l.standard ≡ true → IsStandardBefore l.sources l.place;
}
