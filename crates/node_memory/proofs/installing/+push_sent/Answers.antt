use Rattle.std.proofs.Common.{rules}
use Rattle.node_memory.proofs.Installs.{put_back}
use Rattle.node_memory.proofs.installing.+push_sent.Goals as goal

pub returns-in-Err-clause-err : goal.returns-in-Err-clause-err
returns-in-Err-clause-err t c =
    put_back c.args.ends.now.items _ _ c.index_mut.result.now c.index_mut-in-Err.result.now c.push_all.new.self
    _ c.items_put-items.result.now (search rules) c.index_mut.ensures.value c.in-Err.ensures.err
    c.in_ok-push_all.ensures.ok c.index_mut-in-Err.ensures.value c.take_back.ensures
