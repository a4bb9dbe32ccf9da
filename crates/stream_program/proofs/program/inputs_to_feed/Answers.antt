use Rattle.std.proofs.Common.{List, subst}
use Rattle.stream_program.specs.Causes.{bad_source, IsSourceFault}
use Rattle.stream_words.specs.declared.sources.InputSource.{InputSource}
use Rattle.stream_program.proofs.Naming.{one_is_missing}
use Rattle.stream_program.proofs.program.inputs_to_feed.Goals as goal

pub returns-in-Err-clause-misasked : goal.returns-in-Err-clause-misasked
returns-in-Err-clause-misasked c =
    bad_source (subst (λ (sources : List InputSource). IsSourceFault c.args.network.now.net.value sources c.in-Err.failure) c.deref-2.ensures.value
    c.in-Err.ensures.fault)

pub returns-in-Err-check_given-clause-misasked : goal.returns-in-Err-check_given-clause-misasked
returns-in-Err-check_given-clause-misasked c =
    one_is_missing c.args.options.now c.args.network.now.net.value _ _ _ _ _ c.deref-3.ensures c.deref-2.ensures.value c.deref-4.ensures.value
    c.in-Ok.ensures.each c.in-Err-check_given.ensures.missing
