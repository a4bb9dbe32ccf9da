use Rattle.std.proofs.Common.{arith, refl, ◌<◌, List, drop, length}
use Rattle.std.proofs.lemmas.List.{at_drop_all}
use Rattle.protocol.specs.Node.Common.{Channel}
use Rattle.history_text.specs.Headers.{channels_text}
use Rattle.history_text.proofs.Names.{next_channel}
use Rattle.history_text.proofs.Writes.{all_written, nothing_yet, one_more}
use Rattle.history_text.proofs.header.write_channels.Goals as goal

pub loop-number-init : goal.loop-number-init
loop-number-init g c = nothing_yet _ _

pub loop-number-preserved : goal.loop-number-preserved
loop-number-preserved g c =
    let enough : c.loop-number.number < length c.args.names.now =
    omega (arith, c.loop-number-test.true, c.requires) in
    one_more _ _ _ _ _ _ _ c.loop-number.invariant c.in_ok-write_channel.ensures
    (next_channel c.args.channels.now c.args.names.now c.loop-number.number _ _ c.index-names-number.result _
    c.loop-number-test.true enough refl c.index-names-number.is)

pub returns : goal.returns
returns g c =
    let i = c.loop-number.number in
    all_written _ _ _ _ c.loop-number.invariant
    (at_drop_all (λ (x : List Channel). channels_text i x (drop i c.args.names.now)) c.args.channels.now i
    c.loop-number-test.false)
