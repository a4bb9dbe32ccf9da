use Rattle.std.proofs.Common.{◌∙◌, ap, subst, List, Option, slice_get}
use Rattle.net_check.specs.Resolution.{Reads}
use Rattle.net_text.specs.Names.{NameTree}
use Rattle.protocol.specs.Node.Common.{Channel}
use Rattle.cobaltmidge.specs.Names.{comes_in}
use Rattle.cobaltmidge.proofs.Named.{no_other}
use Rattle.cobaltmidge.proofs.network.input_of.Goals as goal

pub returns-else-comes_in : goal.returns-else-comes_in
returns-else-comes_in c = λ other named.
    let net = c.args.net.now in
    let number = c.in-Some.number in
    no_other net.channel_names.items net.program.channels.items (λ (channel : Option Channel). comes_in channel)
    c.args.name.now number other c.comes_in.result net.channels_differ
    (subst (λ (names : List NameTree). Reads names number c.args.name.now) c.deref.ensures.value c.in-Some.ensures.found)
    (c.comes_in.ensures ∙ ap (λ (channels : List Channel). comes_in (slice_get channels number)) c.deref-2.ensures.value)
    c.if-comes_in.false named.0 named.1
