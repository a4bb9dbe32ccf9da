use Rattle.std.proofs.Common.{◌∙◌, sym, subst, ℕ, List, arith}
use Rattle.net_text.specs.declared.tree.ChannelText.{ChannelText}
use Rattle.net_check.specs.Resolution.{Reads, channel_names}
use Rattle.net_check.proofs.Places.{when_some, when_none}
use Rattle.net_check.proofs.Declaring.{declared_channel, twice_channel, many_channels_at}
use Rattle.net_check.proofs.declared.Declared.declare_channel.Goals as goal

pub returns-then-is_some-clause-err : goal.returns-then-is_some-clause-err
returns-then-is_some-clause-err c =
    let r = when_some c.find_channel.result _ _ c.find_channel.ensures.found
    (sym c.is_some.ensures ∙ c.if-is_some.true) in
    λ text more e. rw c.line.ensures
    (twice_channel c.args.self.now.channels.items c.args.channel r.0
    (subst (λ (xs : List ChannelText). Reads (channel_names xs) r.0 c.args.channel.name.text) c.deref.ensures.value
    r.1) text more e)

pub returns-then-len-ge-MAX_CHANNELS-clause-err : goal.returns-then-len-ge-MAX_CHANNELS-clause-err
returns-then-len-ge-MAX_CHANNELS-clause-err c =
    many_channels_at c.args.self.now.channels.items c.args.channel (let d = c.requires.few_channels in omega arith)

pub returns-clause-declared : goal.returns-clause-declared
returns-clause-declared c =
    let none =
    when_none c.find_channel.result _ _ c.find_channel.ensures.found (sym c.is_some.ensures ∙ c.if-is_some.false) in
    rw c.in_ok-push.ensures.items
    (declared_channel c.args.self.now.channels.items _ c.args.channel c.requires
    (subst (λ (xs : List ChannelText). (i : ℕ) → Reads (channel_names xs) i c.args.channel.name.text → ⊥)
    c.deref.ensures.value none) (omega arith))
