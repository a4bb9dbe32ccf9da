use Rattle.std.proofs.Common.{◌∙◌, sym, below_more, arith}
use Rattle.std.proofs.lemmas.Bool.{false≢true}
use Rattle.net_text.specs.declared.tree.ChannelText.{ChannelText}
use Rattle.net_check.proofs.Places.{reads_at, reads_apart, reads_within}
use Rattle.net_check.proofs.lookup.find_channel.Goals as goal

pub returns-then-is_same-clause-found : goal.returns-then-is_same-clause-found
returns-then-is_same-clause-found c =
    reads_at (λ (x : ChannelText). x.name) c.args.channels.now c.loop-i.i c.index-channels-i.result _ (omega arith)
    c.index-channels-i.is (c.is_same.ensures.0 c.if-is_same.true)

pub loop-i-preserved : goal.loop-i-preserved
loop-i-preserved c =
    below_more _ _ c.loop-i.invariant
    (reads_apart (λ (x : ChannelText). x.name) c.args.channels.now c.loop-i.i c.index-channels-i.result _ (omega arith)
    c.index-channels-i.is (λ e. false≢true (sym c.if-is_same.false ∙ c.is_same.ensures.1 e)))

pub returns-clause-found : goal.returns-clause-found
returns-clause-found c =
    λ i h. c.loop-i.invariant i
    (let w = reads_within (λ (x : ChannelText). x.name) c.args.channels.now i _ h in omega arith) h
