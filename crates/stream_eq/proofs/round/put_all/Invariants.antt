use Rattle.std.proofs.Common.{◌≡◌, drop, length, map}
use Rattle.kahn_net.specs.Common.{code_of}
use Rattle.stream_eq.specs.Limits.{IsWithin}
use Rattle.stream_eq.specs.Play.{put_by_all}
use Rattle.stream_eq.proofs.round.put_all.Given as goal

abbrev pub invariant-loop-process : goal.invariant-loop-process
invariant-loop-process l = record {
  count : length l.limits ≡ length l.after;
  within : IsWithin l.limits l.initial.after → IsWithin l.limits l.after;
  leads : put_by_all (map code_of (drop l.process-index l.processes)) l.histories l.after
      ≡ put_by_all (map code_of l.processes) l.histories l.initial.after;
}
