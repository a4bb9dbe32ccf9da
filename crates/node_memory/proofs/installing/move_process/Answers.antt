use Rattle.std.proofs.Common.{ap, sym, ◌∙◌, rules}
use Rattle.std.specs.Prelude.{slice_set}
use Rattle.protocol.specs.Node.Common.{standing_of, SavedProcessView, moved}
use Rattle.node_memory.proofs.Installs.{moved_here, standing_now}
use Rattle.std.proofs.Common.{arith}
use Rattle.std.proofs.lemmas.Grind.{common_steps}
use Rattle.node_memory.proofs.installing.move_process.Goals as goal

pub returns-then-from-process : goal.returns-then-from-process
returns-then-from-process c =
    ap (slice_set c.loop-k.processes.items c.loop-k.k)
    (standing_now (standing_of c.args.state) _ _ c.behind-processes-then-from-process.view_is)
    ∙ (moved_here c.args.process (standing_of c.args.state) c.loop-k.processes.items c.loop-k.k c.index.result.now
    c.index_mut.result.now (search rules) c.index.ensures c.index_mut.ensures.value
    (ap (λ (z : SavedProcessView). z.number) (sym c.behind-processes.view_is)
    ∙ (sym c.from.ensures ∙ c.if-from-process.true))
    ∙ (sym c.loop-k.invariant.1 ∙ ap (moved c.args.process (standing_of c.args.state)) c.loop-k.invariant.0))

pub loop-k-preserved : goal.loop-k-preserved
loop-k-preserved c = grind (arith, common_steps)
