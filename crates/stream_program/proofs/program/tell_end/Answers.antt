use Rattle.std.proofs.Common.{◌∙◌, ap}
use Rattle.stream_program.proofs.Causing.{told_of}
use Rattle.stream_program.proofs.program.tell_end.Goals as goal

pub returns-in-Err-clause-stopped : goal.returns-in-Err-clause-stopped
returns-in-Err-clause-stopped g c =
    rw (c.in-Err.is) (told_of c.args.network.now.net.value.channel_names.items _ c.args.options.now.sources.items _ _ c.in-Err.stopped _ _
    (c.deref-in-Err.ensures.value ∙ ap (λ net. net.channel_names.items) c.deref.ensures) c.deref-in-Err-2.ensures.value
    (c.silent.ensures ∙ c.failure_of.ensures) c.tell.ensures.told)
