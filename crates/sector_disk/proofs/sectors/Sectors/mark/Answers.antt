use Rattle.sector_disk.proofs.Writes.{same_outside, write_crash}
use Rattle.std.proofs.lemmas.Grind.{elements}
use Rattle.std.proofs.Common.{arith}
use Rattle.sector_disk.proofs.sectors.Sectors.mark.Goals as goal

pub returns-clause-crash : goal.returns-clause-crash
returns-clause-crash c =
    write_crash c.args.first c.args.len _ _ _ _ c.args.self.now.whole c.requires (same_outside _ _ _) c.mark.ensures

pub invariant_of-self : goal.invariant_of-self
invariant_of-self c = grind (arith, elements)
