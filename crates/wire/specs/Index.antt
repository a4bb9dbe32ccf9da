-- What becomes of packets, by the one that it is.
use Rattle.std.specs.Prelude.{◌≡◌, ◌<◌, ◌==◌, ◌&&◌, ℕ, Bool, List, unwrap_or}
use Rattle.std.specs.HashMap.{HashMap, get}
use Rattle.wire.specs.declared.rule.Rule.{Rule}
use Rattle.wire.specs.declared.rule.Fate.{Fate}
use Rattle.wire.specs.declared.rules.Passage.{Passage}
use Rattle.wire.specs.Rules.{fate_of}

abbrev pub is_same : Passage → Passage → Bool
is_same one other = one.from == other.from && (one.to == other.to && one.nth == other.nth)

-- what becomes of a packet for which there is no rule
abbrev pub plain_fate : Fate
plain_fate = record { copies = 1; delay = 0 }

abbrev pub passage : ℕ → ℕ → ℕ → Passage
passage from to nth = record { from = from; to = to; nth = nth }

-- it has what the rules make of each packet for which there is one
abbrev pub IsIndex : {S : Type 0} → List Rule → HashMap Passage Fate S → Type 0
IsIndex rules fates =
    (from to nth : ℕ) → unwrap_or (get is_same fates (passage from to nth)) plain_fate ≡ fate_of rules from to nth

-- they are for packets from this number on
abbrev pub AreFrom : List Rule → ℕ → Type 0
AreFrom rules least = (from to nth : ℕ) → nth < least → fate_of rules from to nth ≡ plain_fate

-- and for packets up to this one
abbrev pub AreUpTo : List Rule → ℕ → Type 0
AreUpTo rules most = (from to nth : ℕ) → most < nth → fate_of rules from to nth ≡ plain_fate
