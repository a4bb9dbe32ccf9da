-- A channel more, and the fault of one among the channels.
use Rattle.std.proofs.Common.{◌≡◌, ◌∙◌, sym, ap, subst, ℕ, ◌+◌, ◌<◌, List, [], ◌∷◌, ◌++◌, length, get_or, take}
use Rattle.std.proofs.Common.{slice_get, Some, arith, inl, inr}
use Rattle.std.proofs.lemmas.Option.{slice_get_within}
use Rattle.std.proofs.lemmas.List.{length_push, take_more, length-take}
use Rattle.net_text.specs.declared.tree.ChannelText.{ChannelText}
use Rattle.net_check.specs.declared.fault.NetFault.{NetFault}
use Rattle.net_check.specs.declared.fault.NetFault.TheVariants.{NoMemory, NoProducer, NoConsumer}
use Rattle.kahn_net.specs.declared.program.Channel.{Channel}
use Rattle.kahn_net.specs.declared.program.Port.{Port}
use Rattle.net_check.specs.Joints.{AreJoined, HasItsEnds, EndFault, EndFaultAmong}
use Rattle.net_check.proofs.Places.{got_at, got_push_cases}

pub joined_next : (channels : List ChannelText) (producers consumers : List Port) (joined : List Channel) (i : ℕ)
    (declared : ChannelText) (channel : Channel) → i < length channels → declared ≡ get_or channels i declared
    → slice_get producers i ≡ Some channel.producer → slice_get consumers i ≡ Some channel.consumer
    → HasItsEnds declared channel.producer channel.consumer → AreJoined (take i channels) producers consumers joined
    → AreJoined (take (i + 1) channels) producers consumers (joined ++ channel ∷ [])
joined_next channels producers consumers joined i declared channel lt e here there ends j =
    let w : take (i + 1) channels ≡ take i channels ++ declared ∷ [] =
    take_more channels i declared lt ∙ ap (λ (x : ChannelText). take i channels ++ x ∷ []) (sym e) in
    let n : length (take i channels) ≡ i = let m = length-take i channels in omega arith in
    let k : length joined ≡ i = j.count ∙ n in
    subst (λ (xs : List ChannelText). AreJoined xs producers consumers (joined ++ channel ∷ [])) (sym w) record {
      count = length_push joined channel ∙ ap (λ (m : ℕ). m + 1) j.count ∙ sym (length_push (take i channels) declared);
      producer = λ c other h. elim (got_push_cases joined channel c other h) [
        | inl g ↦ j.producer c other g
        | inr g ↦ subst (λ (m : ℕ). slice_get producers m ≡ Some other.producer) (sym (g.0 ∙ k))
            (here ∙ ap (λ (x : Channel). Some x.producer) g.1)
      ];
      consumer = λ c other h. elim (got_push_cases joined channel c other h) [
        | inl g ↦ j.consumer c other g
        | inr g ↦ subst (λ (m : ℕ). slice_get consumers m ≡ Some other.consumer) (sym (g.0 ∙ k))
            (there ∙ ap (λ (x : Channel). Some x.consumer) g.1)
      ];
      ends = λ c text other h g. elim (got_push_cases (take i channels) declared c text h) [
        | inl a ↦ elim (got_push_cases joined channel c other g) [
          | inl b ↦ j.ends c text other a b
          | inr b ↦ absurd (let lt' = slice_get_within (take i channels) c text a in let m = b.0 in omega arith)
        ]
        | inr a ↦ elim (got_push_cases joined channel c other g) [
          | inl b ↦ absurd (let lt' = slice_get_within joined c other b in let m = a.0 in omega arith)
          | inr b ↦ subst (λ (x : ChannelText). HasItsEnds x other.producer other.consumer) a.1
              (subst (λ (x : Channel). HasItsEnds declared x.producer x.consumer) b.1 ends)
        ]
      ];
    }

pub end_fault_among : (channels : List ChannelText) (producers consumers : List Port) (i : ℕ) (channel : ChannelText)
    (producer consumer : Port) (f : NetFault) → i < length channels → channel ≡ get_or channels i channel
    → slice_get producers i ≡ Some producer → slice_get consumers i ≡ Some consumer
    → EndFault channel producer consumer f → EndFaultAmong channels producers consumers f
end_fault_among channels producers consumers i channel producer consumer NoMemory lt e p q h = tt
end_fault_among channels producers consumers i channel producer consumer (NoProducer line) lt e p q h =
    (i, channel, got_at channels i channel lt e, h.0, p ∙ ap Some h.1, h.2)
end_fault_among channels producers consumers i channel producer consumer (NoConsumer line) lt e p q h =
    (i, channel, got_at channels i channel lt e, h.0, q ∙ ap Some h.1, h.2)
end_fault_among channels producers consumers i channel producer consumer _ lt e p q h = absurd h
