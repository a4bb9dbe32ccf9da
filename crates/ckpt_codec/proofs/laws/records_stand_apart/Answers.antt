use Rattle.ckpt_codec.proofs.Joined.{apart_is_one, apart_is_record, apart_is_there, joined_is_apart}
use Rattle.ckpt_codec.proofs.laws.records_stand_apart.Goals as goal

pub returns-clause-one : goal.returns-clause-one
returns-clause-one c = apart_is_one

pub returns-clause-written : goal.returns-clause-written
returns-clause-written c = apart_is_record

pub returns-clause-there : goal.returns-clause-there
returns-clause-there c = apart_is_there

pub returns-clause-joined : goal.returns-clause-joined
returns-clause-joined c = joined_is_apart
