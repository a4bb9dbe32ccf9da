-- What becomes of a packet that is sent, by the rules that were armed.
use Rattle.std.specs.Prelude.{◌==◌, ◌&&◌, ℕ, ◌+◌, min, if◌then◌else◌, List, fold}
use Rattle.kahn_net.specs.declared.limits.TheConstants.{MAX_COUNT}
use Rattle.wire.specs.declared.rule.Change.{Change}
use Rattle.wire.specs.declared.rule.Change.TheVariants.{Lose, Repeat, Delay}
use Rattle.wire.specs.declared.rule.Rule.{Rule}
use Rattle.wire.specs.declared.rule.Fate.{Fate}

-- a count stops at the last number
abbrev pub capped : ℕ → ℕ
capped n = min n MAX_COUNT

-- a lost packet has no copies, a repeated one has one more if it has one, and delays add up
abbrev pub changed : Fate → Change → Fate
changed fate Lose = record { copies = 0; delay = fate.delay }
changed fate Repeat = record { copies = if fate.copies == 0 then 0 else capped (fate.copies + 1); delay = fate.delay }
changed fate (Delay rounds) = record { copies = fate.copies; delay = capped (fate.delay + rounds) }

-- a rule for this packet changes what becomes of it
abbrev pub fate_after : ℕ → ℕ → ℕ → Fate → Rule → Fate
fate_after from to nth fate rule =
    if rule.from == from && (rule.to == to && rule.nth == nth) then changed fate rule.change else fate

-- the rules apply in the order in which they were armed
abbrev pub fate_of : List Rule → ℕ → ℕ → ℕ → Fate
fate_of rules from to nth = fold (fate_after from to nth) (record { copies = 1; delay = 0 }) rules
