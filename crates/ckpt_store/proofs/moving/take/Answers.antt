use Rattle.std.proofs.Common.{rules}
use Rattle.ckpt_store.proofs.Undone.{taken_back}
use Rattle.ckpt_store.proofs.moving.take.Goals as goal

pub returns-clause-back : goal.returns-clause-back
returns-clause-back c =
    taken_back c.args.initiator c.args.number _ c.args.image c.args.kept.now _ c.requires.record c.requires.listed
    c.requires.fine (search rules) c.entry_of-entry.ensures
