use Rattle.std.proofs.Common.{[]}
use Rattle.stream_program.specs.Streamed.{IsReadOf, IsRunFor, reads_net}
use Rattle.stream_program.proofs.Causing.{refused_net}
use Rattle.stream_program.proofs.Preparing.{prepares_by}
use Rattle.stream_program.proofs.program.read_network.Goals as goal

pub returns-in-Err-clause-prepares : goal.returns-in-Err-clause-prepares
returns-in-Err-clause-prepares g c =
    prepares_by (IsReadOf _) (IsRunFor c.args.options.now) _ _ (λ r is. reads_net is) c.read_text.ensures.prepares

pub returns-in-Err-read_net-clause-prepares : goal.returns-in-Err-read_net-clause-prepares
returns-in-Err-read_net-clause-prepares g c =
    prepares_by (IsReadOf _) (IsRunFor c.args.options.now) _ _ (λ r is. reads_net is) c.read_text.ensures.prepares

pub returns-in-Err-read_net-clause-cause : goal.returns-in-Err-read_net-clause-cause
returns-in-Err-read_net-clause-cause g c =
    refused_net c.args.options.now _ [] _ c.in-Ok.text.items _ _ c.as_slice.ensures.value c.in-Ok.ensures.read c.in-Err-read_net.ensures.err
    c.refused_text.ensures

pub returns-in-Ok-new-clause-prepares : goal.returns-in-Ok-new-clause-prepares
returns-in-Ok-new-clause-prepares g c =
    prepares_by (IsReadOf _) (IsRunFor c.args.options.now) _ _ (λ r is. reads_net is) c.read_text.ensures.prepares

pub returns-in-Err-new-clause-prepares : goal.returns-in-Err-new-clause-prepares
returns-in-Err-new-clause-prepares g c =
    prepares_by (IsReadOf _) (IsRunFor c.args.options.now) _ _ (λ r is. reads_net is) c.read_text.ensures.prepares
