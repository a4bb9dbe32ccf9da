use Rattle.approximations.proofs.Slices.{next_slice}
use Rattle.approximations.proofs.at_hand.next_of.Goals as goal

pub returns : goal.returns
returns c = next_slice _ _ _ _ c.min.ensures c.min-2.ensures
