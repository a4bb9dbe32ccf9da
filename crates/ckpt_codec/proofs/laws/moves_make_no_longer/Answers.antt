use Rattle.ckpt_codec.specs.SizeLaws.{permanent_is_shorter, tentative_is_shorter, decision_is_shorter, epoch_is_shorter}
use Rattle.ckpt_codec.proofs.laws.moves_make_no_longer.Goals as goal

pub returns-clause-permanent : goal.returns-clause-permanent
returns-clause-permanent c = permanent_is_shorter

pub returns-clause-without : goal.returns-clause-without
returns-clause-without c = tentative_is_shorter

pub returns-clause-decision : goal.returns-clause-decision
returns-clause-decision c = λ kept number. decision_is_shorter number kept

pub returns-clause-epoch : goal.returns-clause-epoch
returns-clause-epoch c = epoch_is_shorter
