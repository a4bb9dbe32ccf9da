-- What is copied of a process and of its node's ends of channels.
use Rattle.std.proofs.Common.{◌≡◌, ℕ, ◌<◌, ◌≤◌, List, ◌++◌, length, map, drop, get_or, sym, ap, subst, ◌∙◌}
use Rattle.std.proofs.lemmas.List.{at_drop_all, append-nil}
use Rattle.kahn_net.specs.States.{standing_of}
use Rattle.kahn_net.specs.declared.state.ProcState.{ProcState}
use Rattle.protocol.specs.Node.Common.{Channel, LogState, Network, SavedEnd}
use Rattle.record.specs.Common.{AreAscending}
use Rattle.rerun.proofs.Places.{state_at}
use Rattle.resuming.proofs.Images.{ascends}
use Rattle.resuming.proofs.Lists.{index_at}
use Rattle.resuming.specs.Images.{image_ends, standing_in}

pub standing_there : (states : List ProcState) (p : ℕ) (state : ProcState) → p < length states
    → state ≡ get_or states p state → standing_in (map standing_of states) p ≡ standing_of state
standing_there states p state within read =
    index_at (map standing_of states) p (standing_of state) _ (state_at states p state within read)

-- once all channels were gone through
pub all_copied : (net : Network) (got : List ℕ) (logs : List LogState) (home number : ℕ) (channels : List Channel)
    (ends : List SavedEnd) → length channels ≤ number
    → ends ++ image_ends net got logs home number (drop number channels) ≡ image_ends net got logs home 0 channels
    → AreAscending ends
all_copied net got logs home number channels ends past so_far =
    let whole : ends ≡ image_ends net got logs home 0 channels =
    sym (append-nil ends)
    ∙ (ap (λ (rest : List SavedEnd). ends ++ rest)
    (sym (at_drop_all (image_ends net got logs home number) channels number past)) ∙ so_far) in
    subst AreAscending (sym whole) (ascends net got logs home 0 channels)
