use Rattle.std.proofs.Common.{◌≡◌, None, replicate}
use Rattle.window_link.proofs.receiving.fill.Given as goal

abbrev pub invariant-loop-place : goal.invariant-loop-place
invariant-loop-place l = (l.held.items ≡ replicate l._place None) × (l.held.capacity ≡ l.size)
