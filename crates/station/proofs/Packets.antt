-- Packets as they are sent.
use Rattle.std.proofs.Common.{◌≡◌, ℕ, suc, ◌+◌, ◌<◌, List, [], ◌∷◌, ◌++◌, length, map, take, get_or, sym, ap, subst}
use Rattle.std.proofs.Common.{◌∙◌, arith}
use Rattle.std.specs.Prelude.{All}
use Rattle.std.proofs.lemmas.List.Elements.{All-map, All-push}
use Rattle.std.proofs.lemmas.List.{map-append}
use Rattle.std.proofs.Math.Seq.{take-suc}
use Rattle.protocol.specs.Node.Common.{IsPacket, Packet}
use Rattle.wire.specs.Traffic.{AreNodes}
use Rattle.protocol.specs.World.Common.{Sending, sending_of}

-- they are for nodes that there are
pub are_nodes : (packets : List Packet) (sendings : List Sending) → sendings ≡ map sending_of packets
    → All IsPacket packets → All AreNodes sendings
are_nodes packets sendings is allowed =
    subst (All AreNodes) (sym is)
    (All-map AreNodes sending_of packets (λ k d within. at (get_or packets k d) (allowed k d within)))
  where
    at : (packet : Packet) → IsPacket packet → AreNodes (sending_of packet)
    at packet may =
        let from = may.from in
        let to = may.to in
        (omega (arith, from), omega (arith, to))

-- one more of them
pub one_spelled : (packets : List Packet) (i : ℕ) (packet : Packet) (sending : Sending) (done later : List Sending)
    → i < length packets → packet ≡ get_or packets i packet
    → (done ≡ map sending_of (take i packets)) × All IsPacket (take i packets) → sending ≡ sending_of packet
    → IsPacket packet → later ≡ done ++ sending ∷ []
    → (later ≡ map sending_of (take (i + 1) packets)) × All IsPacket (take (i + 1) packets)
one_spelled packets i packet sending done later within is before spelled allowed pushed =
    let next : take (i + 1) packets ≡ take i packets ++ packet ∷ [] =
    ap (λ (k : ℕ). take k packets) (more i)
    ∙ (take-suc packets i packet within ∙ ap (λ (p : Packet). take i packets ++ p ∷ []) (sym is)) in (
      pushed ∙ (ap (λ (s : Sending). done ++ s ∷ []) spelled
          ∙ (ap (λ (list : List Sending). list ++ sending_of packet ∷ []) before.0
          ∙ (sym (map-append sending_of (take i packets) (packet ∷ [])) ∙ ap (map sending_of) (sym next)))),
      subst (All IsPacket) (sym next) (All-push IsPacket (take i packets) packet before.1 allowed),
    )
  where
    more : (n : ℕ) → n + 1 ≡ suc n
    more n = omega arith
