-- Channels between nodes, as a node tells them by its ports and as the abstract machine does.
use Rattle.std.proofs.Common.{◌≡◌, ◌⊎◌, inl, inr, ℕ, ◌<◌, ◌≤◌, ◌&&◌, Bool, true, false, length, get_or, Option, Some}
use Rattle.std.proofs.Common.{None}
use Rattle.std.proofs.Common.{option_map, refl, sym, ap, subst, ◌∙◌, arith}
use Rattle.std.specs.Prelude.{◌≢◌, ◌==◌, not, slice_get}
use Rattle.std.proofs.lemmas.Bool.{eqb-true, eq-eqb, ne_eqb}
use Rattle.std.proofs.lemmas.Option.{slice_get_cases, slice_get_within}
use Rattle.protocol.specs.Node.Common.{node_count, Code, Network, IsValid, Channel, Port, Outside, Process}
use Rattle.protocol.specs.Node.Common.{producer_node, producer_of, consumer_of, port_on, port_away, comes_in}
use Rattle.protocol.specs.Node.Common.{is_incoming, is_outgoing}
use Rattle.recovery_line.proofs.Basics.{one_inside}
use Rattle.protocol.specs.World.Common.{IsCross, net_seen}
use Rattle.protocol.specs.Node.Addresses.{address, ends_run, runs_between}
use Rattle.protocol.specs.Node.Layout.{node_at, is_node}
use Rattle.protocol.specs.Node.Layout.{goes_out}
use Rattle.protocol_laws.specs.Node.PlaceLaws.{node_below}

pub both_true : (a b : Bool) → (a && b) ≡ true → (a ≡ true) × (b ≡ true)
both_true true true is = (refl, refl)
both_true true false is = absurd (cc)
both_true false b is = absurd (cc)

pub true_both : (a b : Bool) → a ≡ true → b ≡ true → (a && b) ≡ true
true_both a b one other = rw (one, other) refl

pub not_true : (b : Bool) → not b ≡ true → b ≡ false
not_true true e = absurd (cc)
not_true false e = refl

-- ---- nodes at ports

pub is_it : (home : ℕ) (o : Option ℕ) → is_node home o ≡ true → o ≡ Some home
is_it home None is = absurd (cc)
is_it home (Some p) is = ap (λ (q : ℕ). Some q) (eqb-true p home is)

pub it_is : (home : ℕ) (o : Option ℕ) → o ≡ Some home → is_node home o ≡ true
it_is home o is = rw is (eq-eqb home home refl)

it_is_not : (home p : ℕ) (o : Option ℕ) → o ≡ Some p → p ≢ home → is_node home o ≡ false
it_is_not home p o is apart = rw is (ne_eqb p home apart)

module _ (net : Network) (home : ℕ) where
  away : (p : ℕ) (port : Port) → node_at net port ≡ Some p → p ≢ home → port_away net home port ≡ true
  away p Outside at apart = absurd (cc)
  away p (Process a) at apart =
      ap not (it_is_not home p (option_map (λ (c : Code). c.node) (slice_get net.codes a)) at apart)

  elsewhere : (port : Port) → port_away net home port ≡ true → ((a : ℕ) → port ≡ Process a → a < length net.codes)
      → (p : ℕ) × (node_at net port ≡ Some p) × (p ≢ home)
  elsewhere Outside is known = absurd (cc)
  elsewhere (Process a) is known = by (slice_get_cases net.codes a).1
    where
      by : ((x : Code) × (a < length net.codes) × (slice_get net.codes a ≡ Some x) × (get_or net.codes a x ≡ x))
          ⊎ ((length net.codes ≤ a) × (slice_get net.codes a ≡ None))
          → (p : ℕ) × (node_at net (Process a) ≡ Some p) × (p ≢ home)
      by (inr past) = absurd (let below = known a refl in omega (arith, below, past.0))
      by (inl there) = (
        there.0.node,
        ap (option_map (λ (c : Code). c.node)) there.2,
        λ same. let on : is_node home (option_map (λ (c : Code). c.node) (slice_get net.codes a)) ≡ true =
            it_is home (option_map (λ (c : Code). c.node) (slice_get net.codes a))
            (ap (option_map (λ (c : Code). c.node)) there.2 ∙ ap (λ (q : ℕ). Some q) same) in
            (let bad : not true ≡ true = ap not (sym on) ∙ is in cc),
      )

  -- ---- channels

  pub cross_comes : (c p : ℕ) → IsCross (net_seen net) c p home → is_incoming net home c ≡ true
  cross_comes c p cross = by (slice_get net.channels c) cross.from cross.to
    where
      by : (o : Option Channel) → producer_of net o ≡ Some p → consumer_of net o ≡ Some home
          → comes_in net home o ≡ true
      by None from to = absurd (cc)
      by (Some channel) from to =
          true_both (port_on net home channel.consumer) (port_away net home channel.producer)
          (it_is home (node_at net channel.consumer) to) (away p channel.producer from cross.apart)

  pub cross_goes : (c q : ℕ) → IsCross (net_seen net) c home q → is_outgoing net home c ≡ true
  cross_goes c q cross = by (slice_get net.channels c) cross.from cross.to
    where
      by : (o : Option Channel) → producer_of net o ≡ Some home → consumer_of net o ≡ Some q
          → goes_out net home o ≡ true
      by None from to = absurd (cc)
      by (Some channel) from to =
          true_both (port_on net home channel.producer) (port_away net home channel.consumer)
          (it_is home (node_at net channel.producer) from)
          (away q channel.consumer to (λ same. cross.apart (sym same)))

  pub comes_cross : (c : ℕ) → IsValid net → is_incoming net home c ≡ true → (p : ℕ) × IsCross (net_seen net) c p home
  comes_cross c valid is = by (slice_get net.channels c) refl is
    where
      by : (o : Option Channel) → slice_get net.channels c ≡ o → comes_in net home o ≡ true
          → (p : ℕ) × IsCross (net_seen net) c p home
      by None on comes = absurd (cc)
      by (Some channel) on comes =
          let ends = both_true (port_on net home channel.consumer) (port_away net home channel.producer) comes in
          let from = elsewhere channel.producer ends.1 (λ a at. valid.producer_is_here c a channel on at) in (
            from.0,
            record {
              from = ap (producer_of net) on ∙ from.1;
              to = ap (consumer_of net) on ∙ is_it home (node_at net channel.consumer) ends.0;
              apart = from.2;
            },
          )

  pub goes_cross : (c : ℕ) → IsValid net → is_outgoing net home c ≡ true → (q : ℕ) × IsCross (net_seen net) c home q
  goes_cross c valid is = by (slice_get net.channels c) refl is
    where
      by : (o : Option Channel) → slice_get net.channels c ≡ o → goes_out net home o ≡ true
          → (q : ℕ) × IsCross (net_seen net) c home q
      by None on goes = absurd (cc)
      by (Some channel) on goes =
          let ends = both_true (port_on net home channel.producer) (port_away net home channel.consumer) goes in
          let to = elsewhere channel.consumer ends.1 (λ a at. valid.consumer_is_here c a channel on at) in (
            to.0,
            record {
              from = ap (producer_of net) on ∙ is_it home (node_at net channel.producer) ends.0;
              to = ap (consumer_of net) on ∙ to.1;
              apart = λ same. to.2 (sym same);
            },
          )

pub channel_within : (net : Network) (home c : ℕ) → is_incoming net home c ≡ true → c < length net.channels
channel_within net home c is = by (slice_get net.channels c) refl is
  where
    by : (o : Option Channel) → slice_get net.channels c ≡ o → comes_in net home o ≡ true → c < length net.channels
    by None on comes = absurd (cc)
    by (Some channel) on comes = slice_get_within net.channels c channel on

pub cross_within : (net : Network) (c p q : ℕ) → IsCross (net_seen net) c p q → c < length net.channels
cross_within net c p q cross = channel_within net q c (cross_comes net q c p cross)

pub producer_is : (net : Network) (c p : ℕ) → (net_seen net).producer c ≡ Some p → producer_node net c ≡ p
producer_is net c p from = ap address from

-- a channel that runs between two nodes, as the names in a packet are judged
pub between_cross : (net : Network) (p q c : ℕ) → runs_between net p q c ≡ true → IsCross (net_seen net) c p q
between_cross net p q c is =
    let parts = both_true (not (p == q)) (ends_run net p q (slice_get net.channels c)) is in
    by (slice_get net.channels c) refl parts.1
    (λ same. let equal : (p == q) ≡ true = eq-eqb p q same in
    let bad : not true ≡ true = ap not (sym equal) ∙ parts.0 in absurd (cc))
  where
    by : (o : Option Channel) → slice_get net.channels c ≡ o → ends_run net p q o ≡ true → p ≢ q
        → IsCross (net_seen net) c p q
    by None on runs apart = absurd (cc)
    by (Some channel) on runs apart =
        let ends = both_true (port_on net p channel.producer) (port_on net q channel.consumer) runs in
        record {
          from = ap (producer_of net) on ∙ is_it p (node_at net channel.producer) ends.0;
          to = ap (consumer_of net) on ∙ is_it q (node_at net channel.consumer) ends.1;
          apart = apart;
        }

-- the node that puts on a channel is one of the network's
pub producer_below : (net : Network) (c p : ℕ) → (net_seen net).producer c ≡ Some p → p < node_count net
producer_below net c p from = by (slice_get net.channels c) from
  where
    of_code : (a : ℕ) (o : Option Code) → slice_get net.codes a ≡ o → option_map (λ (code : Code). code.node) o ≡ Some p
        → p < node_count net
    of_code a None there is = absurd (cc)
    of_code a (Some code) there is =
        let same : code.node ≡ p = one_inside refl is in
        subst (λ (n : ℕ). n < node_count net) same (node_below net a code there)

    of_port : (port : Port) → node_at net port ≡ Some p → p < node_count net
    of_port Outside is = absurd (cc)
    of_port (Process a) is = of_code a (slice_get net.codes a) refl is

    by : (o : Option Channel) → producer_of net o ≡ Some p → p < node_count net
    by None is = absurd (cc)
    by (Some channel) is = of_port channel.producer is
