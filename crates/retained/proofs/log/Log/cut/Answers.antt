use Rattle.retained.proofs.Cutting.{cut_to_history}
use Rattle.retained.proofs.log.Log.cut.Goals as goal

pub returns-then-position-end-clause-history : goal.returns-then-position-end-clause-history
returns-then-position-end-clause-history c = λ history within is_log.
    cut_to_history c.args.self.now c.self.inside.base c.args.position c.self.inside.items.items
    c.truncate.new.self.items history c.self.view_is c.truncate.ensures.items within is_log
