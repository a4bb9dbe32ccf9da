use Rattle.stream_program.proofs.Causing.{refused_inputs}
use Rattle.stream_program.proofs.Preparing.{net_read_still}
use Rattle.stream_program.proofs.program.first_inputs.Goals as goal

pub returns-clause-cause : goal.returns-clause-cause
returns-clause-cause g c =
    refused_inputs c.args.options.now _ _ c.args.read.now.network.net.value _ _ c.in-Ok.text.items _ _ _ c.deref.ensures c.deref-2.ensures
    c.as_slice.ensures.value (net_read_still _ _ _ _ c.inputs_text.ensures.prepares.later c.requires.net_read) c.in-Ok.ensures.text
    c.in-Err-read_inputs.ensures.err c.refused_text.ensures
