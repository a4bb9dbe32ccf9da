-- The ends of a node before its first event stand in order of their channels.
use Rattle.std.proofs.Common.{◌≡◌, ℕ, ◌≤◌, List, ◌++◌, length, drop, sym, ap, subst, ◌∙◌}
use Rattle.std.proofs.lemmas.List.{at_drop_all, append-nil}
use Rattle.protocol.specs.Node.Common.{Network, Channel, SavedEnd, opening_ends}
use Rattle.record.specs.Common.{AreAscending}
use Rattle.protocol_laws.specs.Node.OpeningLaws.{opening_ascends}

-- once all channels were gone through
pub all_opened : (net : Network) (home number : ℕ) (channels : List Channel) (ends : List SavedEnd)
    → length channels ≤ number
    → ends ++ opening_ends net home number (drop number channels) ≡ opening_ends net home 0 channels → AreAscending ends
all_opened net home number channels ends past so_far =
    let whole : ends ≡ opening_ends net home 0 channels =
    sym (append-nil ends)
    ∙ (ap (λ (rest : List SavedEnd). ends ++ rest)
    (sym (at_drop_all (opening_ends net home number) channels number past)) ∙ so_far) in
    subst (λ (xs : List SavedEnd). AreAscending xs) (sym whole) (opening_ascends net home 0 channels)
