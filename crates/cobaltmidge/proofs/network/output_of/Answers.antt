use Rattle.std.proofs.Common.{◌∙◌, ap, subst, List, Option, slice_get}
use Rattle.net_check.specs.Resolution.{Reads}
use Rattle.net_text.specs.Names.{NameTree}
use Rattle.protocol.specs.Node.Common.{Channel}
use Rattle.cobaltmidge.specs.Names.{goes_out}
use Rattle.cobaltmidge.proofs.Named.{no_other}
use Rattle.cobaltmidge.proofs.network.output_of.Goals as goal

pub returns-else-goes_out : goal.returns-else-goes_out
returns-else-goes_out c = λ other named.
    let net = c.args.net.now in
    let number = c.in-Some.number in
    no_other net.channel_names.items net.program.channels.items (λ (channel : Option Channel). goes_out channel)
    c.args.name.now number other c.goes_out.result net.channels_differ
    (subst (λ (names : List NameTree). Reads names number c.args.name.now) c.deref.ensures.value c.in-Some.ensures.found)
    (c.goes_out.ensures ∙ ap (λ (channels : List Channel). goes_out (slice_get channels number)) c.deref-2.ensures.value)
    c.if-goes_out.false named.0 named.1
