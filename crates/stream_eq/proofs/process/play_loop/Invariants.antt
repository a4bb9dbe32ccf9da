use Rattle.std.proofs.Common.{◌≡◌, ℕ, suc, length}
use Rattle.kahn_net.specs.Common.{total, block_of, passes, put_after}
use Rattle.stream_eq.specs.Limits.{IsWithin}
use Rattle.stream_eq.proofs.process.play_loop.Given as goal

abbrev pub invariant-loop : goal.invariant-loop
invariant-loop l = record {
  count : length l.limits ≡ length l.sent;
  within : IsWithin l.limits l.initial.sent → IsWithin l.limits l.sent;
  leads : (site : ℕ)
      → put_after (passes (suc (total l.unread)) site (block_of l.body) l.variables l.unread).steps l.sent
      ≡ put_after
      (passes (suc (total l.initial.unread)) site (block_of l.body) l.initial.variables l.initial.unread).steps
      l.initial.sent;
}

abbrev pub decreases-loop : goal.decreases-loop
decreases-loop l = total l.unread
