use Rattle.std.specs.Prelude.{option_to_list}
use Rattle.std.proofs.Common.{subst}
use Rattle.world.proofs.ReopenedStations.{Own, own_prefix, popped_last}
use Rattle.world.proofs.reopening.take_last.Goals as goal

pub returns-clause-front : goal.returns-clause-front
returns-clause-front g c =
    own_prefix g.D.Disk 0 c.pop.new.self.items (option_to_list c.pop.result)
    (subst (Own g.D.Disk 0) c.pop.ensures.items c.requires.own)

pub returns-clause-last : goal.returns-clause-last
returns-clause-last g c =
    popped_last g.D.Disk c.pop.result c.args.disks.now.items c.pop.new.self.items c.pop.ensures.items c.requires.own
