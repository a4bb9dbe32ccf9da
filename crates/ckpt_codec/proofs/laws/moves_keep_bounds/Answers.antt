use Rattle.ckpt_codec.specs.SizeLaws.{within_tentative, within_permanent, within_without_tentative, within_decision}
use Rattle.ckpt_codec.specs.SizeLaws.{within_confirmed, within_epoch}
use Rattle.ckpt_codec.specs.declared.lengths.TheConstants.{MAX_RETAINED_ITEMS}
use Rattle.ckpt_codec.proofs.laws.moves_keep_bounds.Goals as goal

pub returns-clause-tentative : goal.returns-clause-tentative
returns-clause-tentative c =
    λ kept initiator number image within here. within_tentative MAX_RETAINED_ITEMS kept within initiator number image
    here

pub returns-clause-permanent : goal.returns-clause-permanent
returns-clause-permanent c = λ kept within. within_permanent MAX_RETAINED_ITEMS kept within

pub returns-clause-without : goal.returns-clause-without
returns-clause-without c = λ kept within. within_without_tentative MAX_RETAINED_ITEMS kept within

pub returns-clause-decision : goal.returns-clause-decision
returns-clause-decision c =
    λ kept number nodes few room within. within_decision MAX_RETAINED_ITEMS kept within number nodes few room

pub returns-clause-confirmed : goal.returns-clause-confirmed
returns-clause-confirmed c = λ kept number node within. within_confirmed MAX_RETAINED_ITEMS kept within number node

pub returns-clause-epoch : goal.returns-clause-epoch
returns-clause-epoch c = λ kept within. within_epoch MAX_RETAINED_ITEMS kept within
