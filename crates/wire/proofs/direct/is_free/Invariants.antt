use Rattle.std.proofs.Common.{◌≡◌, ◌<◌, ◌+◌, ℕ}
use Rattle.wire.specs.Index.{plain_fate}
use Rattle.wire.specs.Rules.{capped, fate_of}
use Rattle.wire.specs.Wire.{nth_in}
use Rattle.wire.proofs.direct.is_free.Given as goal

-- none of those so far
abbrev pub invariant-loop-ahead : goal.invariant-loop-ahead
invariant-loop-ahead l =
    (ahead : ℕ) → ahead < l.ahead
    → fate_of l.rules l.sending.from l.sending.to (capped (nth_in l.queue.counts l.sending.from + ahead)) ≡ plain_fate
