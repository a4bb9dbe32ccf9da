-- Packets that nodes send, as the abstract machine sees them: they may be sent, and whatever is in flight was.
use Rattle.std.proofs.Common.{◌≡◌, ◌⊎◌, inl, inr, ℕ, zero, suc, ◌<◌, List, [], ◌∷◌, ◌++◌, length, map, All, get_or}
use Rattle.std.proofs.Common.{Option}
use Rattle.std.proofs.Common.{Some, None, refl, sym, ap, subst, ◌∙◌, arith}
use Rattle.std.specs.Prelude.{slice_get}
use Rattle.std.specs.List.{AllByRecursion, flat_map}
use Rattle.std.proofs.lemmas.List.Elements.{All-map}
use Rattle.datagram.proofs.Exactness.{whole_again}
use Rattle.protocol.specs.Node.Common.{IsPacket, in_front}
use Rattle.datagram.specs.PacketText.{packet_text}
use Rattle.datagram.specs.declared.packet.Packet.{Packet as Datagram}
use Rattle.protocol.specs.World.Common.{Traffic, all_sent, Sending, Net, Packet, World, Step, WasSent}
use Rattle.protocol.specs.World.Common.{SaysWhatWasSent, all_seen, world_seen, StationView, sending_of}
use Rattle.recovery_line.specs.Worlds.{MaySend, Send}
use Rattle.protocol.specs.Join.Runs.{Carries}
use Rattle.protocol.specs.Join.Seen.{packet_seen, spelled_seen}
use Rattle.protocol_laws.specs.World.FlightLaws.{all_sent_holds}

-- ---- what may be sent

-- all that these packets say of checkpoints may be sent
abbrev pub MaySendAll : Net → World → List Datagram → Type 0
MaySendAll net w packets = AllByRecursion (MaySend net w) (all_seen packets)

sent_or_may : (net : Net) (w : World) (more sent : List Packet) → AllByRecursion (MaySend net w) more
    → (packet : Packet) → WasSent (more ++ sent) packet → WasSent sent packet ⊎ MaySend net w packet
sent_or_may net w [] sent may packet was = inl was
sent_or_may net w (p ∷ more) sent may packet (zero, is) = let same : p ≡ packet = cc in
    inr (subst (MaySend net w) same may.0)
sent_or_may net w (p ∷ more) sent may packet (suc place, is) = sent_or_may net w more sent may.1 packet (place, is)

pub sends : (net : Net) (stations : List StationView) (packets : List Datagram) (sent : List Packet)
    → MaySendAll net (world_seen stations sent) packets
    → Step net (world_seen stations sent) (world_seen stations (all_seen packets ++ sent))
sends net stations packets sent may =
    Send (record {
      records = refl;
      modes = refl;
      outlets = refl;
      flight = sent_or_may net (world_seen stations sent) (all_seen packets) sent may;
    })

-- a step in which nothing happens
pub waits : (net : Net) (w : World) → Step net w w
waits net w = Send (record { records = refl; modes = refl; outlets = refl; flight = λ packet was. inl was })

may_front : (net : Net) (w : World) (o : Option Packet) (one other : List Packet)
    → (AllByRecursion (MaySend net w) one → AllByRecursion (MaySend net w) other)
    → AllByRecursion (MaySend net w) (in_front o one) → AllByRecursion (MaySend net w) (in_front o other)
may_front net w None one other on may = on may
may_front net w (Some told) one other on may = (may.0, on may.1)

pub may_both : (net : Net) (w : World) (xs ys : List Datagram) → MaySendAll net w xs → MaySendAll net w ys
    → MaySendAll net w (xs ++ ys)
may_both net w [] ys one other = other
may_both net w (p ∷ xs) ys one other =
    may_front net w (packet_seen p) (all_seen xs) (all_seen (xs ++ ys)) (λ rest. may_both net w xs ys rest other) one

pub may_each : {A : Type 0} (net : Net) (w : World) (f : A → List Datagram) (xs : List A)
    → ((i : ℕ) (x : A) → slice_get xs i ≡ Some x → MaySendAll net w (f x)) → MaySendAll net w (flat_map f xs)
may_each net w f [] each = tt
may_each net w f (x ∷ xs) each =
    may_both net w (f x) (flat_map f xs) (each 0 x refl)
    (may_each net w f xs (λ i y is. each (suc i) y is))

pub may_map : {A : Type 0} (net : Net) (w : World) (f : A → Datagram) (xs : List A)
    → ((i : ℕ) (x : A) → slice_get xs i ≡ Some x → MaySendAll net w (f x ∷ [])) → MaySendAll net w (map f xs)
may_map net w f [] each = tt
may_map net w f (x ∷ xs) each =
    may_both net w (f x ∷ []) (map f xs) (each 0 x refl) (may_map net w f xs (λ i y is. each (suc i) y is))

-- ---- what is in flight

was_before : (first sent : List Packet) (packet : Packet) → WasSent sent packet → WasSent (first ++ sent) packet
was_before [] sent packet was = was
was_before (p ∷ first) sent packet was = let rest = was_before first sent packet was in (suc rest.0, rest.1)

pub carries_still : (first sent : List Packet) (traffic : Traffic) → Carries traffic sent
    → Carries traffic (first ++ sent)
carries_still first sent traffic carries to =
    λ i d within. λ told is. was_before first sent told (carries to i d within told is)

front_was : (o : Option Packet) (others sent : List Packet) (told : Packet) → o ≡ Some told
    → WasSent (in_front o others ++ sent) told
front_was None others sent told is = absurd (cc)
front_was (Some packet) others sent told is = (0, is)

behind_was : (o : Option Packet) (others sent : List Packet) (told : Packet) → WasSent (others ++ sent) told
    → WasSent (in_front o others ++ sent) told
behind_was None others sent told was = was
behind_was (Some packet) others sent told was = (suc was.0, was.1)

-- a spelling is of one packet: what the bytes of one say was sent with it
texts_say : (packets : List Datagram) (sent : List Packet) → All IsPacket packets
    → All (λ (p : Datagram). SaysWhatWasSent (all_seen packets ++ sent) (packet_text p)) packets
texts_say packets sent allowed i d within = at packets i within (allowed i d within)
  where
    at : (ps : List Datagram) (i : ℕ) → i < length ps → IsPacket (get_or ps i d)
        → SaysWhatWasSent (all_seen ps ++ sent) (packet_text (get_or ps i d))
    at [] i within ok told is = absurd (omega (arith, within))
    at (p ∷ ps) zero within ok told is =
        front_was (packet_seen p) (all_seen ps) sent told
        (sym (ap spelled_seen (whole_again (packet_text p) p (record { allowed = ok; spelled = refl }))) ∙ is)
    at (p ∷ ps) (suc i) within ok told is =
        behind_was (packet_seen p) (all_seen ps) sent told (at ps i (omega (arith, within)) ok told is)

pub carries_all : (round : ℕ) (packets : List Datagram) (traffic : Traffic) (sent : List Packet)
    → Carries traffic sent → All IsPacket packets
    → Carries (all_sent round (map sending_of packets) traffic) (all_seen packets ++ sent)
carries_all round packets traffic sent carries allowed =
    all_sent_holds (λ to. SaysWhatWasSent (all_seen packets ++ sent)) round (map sending_of packets) traffic
    (carries_still (all_seen packets) sent traffic carries)
    (All-map (λ (s : Sending). SaysWhatWasSent (all_seen packets ++ sent) s.packet) sending_of packets
    (texts_say packets sent allowed))
