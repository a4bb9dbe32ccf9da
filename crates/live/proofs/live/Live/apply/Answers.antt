use Rattle.station.specs.ReplyView.{answer_view}
use Rattle.live.proofs.Advances.{applied}
use Rattle.live.proofs.live.Live.apply.Goals as goal

pub returns-in-Ok-clause-gone_on : goal.returns-in-Ok-clause-gone_on
returns-in-Ok-clause-gone_on g c =
    applied _ _ _ _ (answer_view c.make.result) c.args.self.now.world.sound c.make.ensures.step c.make.ensures.refused

pub returns-in-Err-clause-gone_on : goal.returns-in-Err-clause-gone_on
returns-in-Err-clause-gone_on g c =
    applied _ _ _ _ (answer_view c.make.result) c.args.self.now.world.sound c.make.ensures.step c.make.ensures.refused
