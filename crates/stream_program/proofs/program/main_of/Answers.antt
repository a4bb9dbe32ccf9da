use Rattle.std.proofs.Common.{[], refl}
use Rattle.stream_program.proofs.Causing.{has_stopped_at, told_as}
use Rattle.stream_program.proofs.Preparing.{none_run, run_still, told_then, untold_by}
use Rattle.stream_program.proofs.program.main_of.Goals as goal

pub main_of_network-requires-clause-asked : goal.main_of_network-requires-clause-asked
main_of_network-requires-clause-asked g c = search (run_still, none_run, c.read_network.ensures, c.requires)

pub tell-status-requires-clause-untold : goal.tell-status-requires-clause-untold
tell-status-requires-clause-untold g c = search (untold_by c.args.options.now, run_still, none_run, c.read_network.ensures, c.requires)

pub returns-in-Err-clause-asked : goal.returns-in-Err-clause-asked
returns-in-Err-clause-asked g c =
    ∣ told_then c.args.options.now _ _ c.tell-status.ensures.prepares
    (run_still c.args.options.now _ _ c.read_network.ensures.prepares (none_run c.args.options.now _ c.requires)) ∣₁

pub returns-in-Err-clause-stopped : goal.returns-in-Err-clause-stopped
returns-in-Err-clause-stopped g c = λ some.
    has_stopped_at c.args.options.now _ _ _ _ _ c.tell-status.ensures.prepares c.in-Err.ensures.cause
    (told_as [] _ c.args.options.now.sources.items _ _ _ _ refl c.as_slice.ensures.value c.tell-status.ensures.told)
