use Rattle.std.proofs.Common.{ap}
use Rattle.ckpt_store.specs.Spelling.{kept_in}
use Rattle.ckpt_store.proofs.Seen.{known_is}
use Rattle.ckpt_store.proofs.store.Store.record.Goals as goal

pub returns-in-Some : goal.returns-in-Some
returns-in-Some g c =
    let is = ap kept_in c.in-Some.is in
    (is, known_is g.C.StableCell g.C.SlotCell c.args.self.now c.in-Some.known.kept is)
