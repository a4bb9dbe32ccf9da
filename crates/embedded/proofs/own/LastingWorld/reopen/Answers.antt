use Rattle.embedded.proofs.own.LastingWorld.reopen.Goals as goal

-- the share is of the world's own network, and the inputs beside it are its own, so what it left is what they ask for
pub open-requires : goal.open-requires
open-requires c = record { left = rw (c.in_ok-net.ensures.cases, c.net.ensures, c.args.self.same) c.in_ok-disks.ensures.left }
