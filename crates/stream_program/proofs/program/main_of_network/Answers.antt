use Rattle.std.proofs.Common.{◌∙◌, ap}
use Rattle.std.proofs.Math.Logic.{∥∥₁_map}
use Rattle.std.specs.Prelude.{Ok, Err}
use Rattle.stream_program.proofs.Causing.{has_stopped, has_stopped_at, told_as}
use Rattle.stream_program.proofs.Preparing.{ended_still, ended_where_well, net_read_still, run_still, streamed_still, told_then, untold_by, untold_still}
use Rattle.stream_program.proofs.program.main_of_network.Goals as goal

pub run-ended-requires-clause-net_read : goal.run-ended-requires-clause-net_read
run-ended-requires-clause-net_read g c = search (net_read_still, c.begin.ensures, c.requires)

pub run-ended-requires-clause-asked : goal.run-ended-requires-clause-asked
run-ended-requires-clause-asked g c = search (run_still, c.begin.ensures, c.requires)

pub tell_end-status-requires-clause-untold : goal.tell_end-status-requires-clause-untold
tell_end-status-requires-clause-untold g c = search (untold_still, c.run-ended.ensures)

pub tell-status-requires-clause-untold : goal.tell-status-requires-clause-untold
tell-status-requires-clause-untold g c = search (untold_by c.args.options.now, run_still, c.begin.ensures, c.requires)

pub returns-in-Ok-clause-asked : goal.returns-in-Ok-clause-asked
returns-in-Ok-clause-asked g c =
    ∥∥₁_map c.run-ended.ensures.asked (told_then c.args.options.now _ _ c.tell_end-status.ensures.prepares)

pub returns-in-Ok-clause-right : goal.returns-in-Ok-clause-right
returns-in-Ok-clause-right g c = streamed_still _ _ _ c.tell_end-status.ensures.prepares c.run-ended.ensures.right

pub returns-in-Ok-clause-ended : goal.returns-in-Ok-clause-ended
returns-in-Ok-clause-ended g c = λ well.
    ended_still _ _ _ c.tell_end-status.ensures.prepares (ended_where_well _ c.run-ended.ensures.ended (c.tell_end-status.ensures.ended well))

pub returns-in-Ok-clause-stopped : goal.returns-in-Ok-clause-stopped
returns-in-Ok-clause-stopped g c =
    has_stopped c.args.options.now _ _ _ c.run-ended.result.0 _ c.tell_end-status.ensures.prepares c.tell_end-status.ensures.complete
    c.run-ended.ensures.cause c.tell_end-status.ensures.stopped

pub returns-in-Err-clause-asked : goal.returns-in-Err-clause-asked
returns-in-Err-clause-asked g c =
    ∣ told_then c.args.options.now _ _ c.tell-status.ensures.prepares
    (run_still c.args.options.now _ _ c.begin.ensures.prepares c.requires.asked) ∣₁

pub returns-in-Err-clause-stopped : goal.returns-in-Err-clause-stopped
returns-in-Err-clause-stopped g c = λ some.
    has_stopped_at c.args.options.now _ _ _ _ _ c.tell-status.ensures.prepares c.in-Err.ensures.cause
    (told_as c.args.read.now.network.net.value.channel_names.items _ c.args.options.now.sources.items _ _ _ _
    (c.deref-in-Err.ensures.value ∙ ap (λ net. net.channel_names.items) c.deref.ensures) c.deref-in-Err-2.ensures.value c.tell-status.ensures.told)
