-- What has left by one channel is right and covered.
use Rattle.std.proofs.Common.{◌≡◌, ◌≢◌, ◌⊎◌, inl, inr, ℕ, suc, ◌<◌, ◌≤◌, Bool, true, false, eqb, cond, ℤ, List}
use Rattle.std.proofs.Common.{[], ◌∷◌, length, get_or}
use Rattle.std.proofs.Common.{Option, Some, None, refl, sym, ap, subst, ◌∙◌, arith}
use Rattle.std.specs.Prelude.{slice_get, find}
use Rattle.std.proofs.Math.Logic.{∥∥₁_map}
use Rattle.std.proofs.lemmas.Bool.Decides.{eqb_tells}
use Rattle.std.proofs.lemmas.Option.{slice_get_cases}
use Rattle.protocol.specs.Node.Common.{history_of, IsPrefix, approximation, Channel, sent_of}
use Rattle.kahn_net.specs.Laws.Prefixes.{prefix_nil}
use Rattle.protocol.specs.World.Headline.{AreAllWithin}
use Rattle.protocol.specs.World.Common.{output_of, WorldInvariant, taken_or, released_of, OutletView, StationView}
use Rattle.protocol.specs.World.Common.{WorldView}
use Rattle.protocol.specs.World.Released.{IsStreamOf, IsPutAtHome}
use Rattle.protocol.specs.World.Sound.{leaves_from}
use Rattle.protocol_laws.specs.World.OutputLaws.{map_at}
use Rattle.protocol_laws.specs.World.PrefixLaws.{released_prefix}
use Rattle.protocol_laws.specs.World.ShownLaws.{shown_at}

-- an outlet of a channel, at its place
record IsAt (outlets : List OutletView) (c : ℕ) (outlet : OutletView) : Type 0 where
  pub place : ℕ
  pub there : slice_get outlets place ≡ Some outlet
  pub channel : outlet.channel ≡ c

further : (x : OutletView) (outlets : List OutletView) (c : ℕ) (outlet : OutletView) → IsAt outlets c outlet
    → IsAt (x ∷ outlets) c outlet
further x outlets c outlet at = record { place = suc at.place; there = at.there; channel = at.channel }

found_at : (c : ℕ) (outlets : List OutletView) (outlet : OutletView)
    → find (λ (o : OutletView). eqb o.channel c) outlets ≡ Some outlet → IsAt outlets c outlet
found_at c [] outlet found = absurd (cc)
found_at c (x ∷ outlets) outlet found = at (eqb_tells x.channel c) (found_at c outlets outlet)
  where
    at : ((eqb x.channel c ≡ true) × (x.channel ≡ c)) ⊎ ((eqb x.channel c ≡ false) × (x.channel ≢ c))
        → (find (λ (o : OutletView). eqb o.channel c) outlets ≡ Some outlet → IsAt outlets c outlet)
        → IsAt (x ∷ outlets) c outlet
    at (inl here) later =
        let one : Some x ≡ Some outlet =
        sym (ap (λ (b : Bool). cond b (Some x) (find (λ (o : OutletView). eqb o.channel c) outlets)) here.0)
        ∙ found in
        let same : x ≡ outlet = cc in
        record { place = 0; there = one; channel = ap (λ (o : OutletView). o.channel) (sym same) ∙ here.1 }
    at (inr other) later =
        further x outlets c outlet
        (later (sym (ap (λ (b : Bool). cond b (Some x) (find (λ (o : OutletView). eqb o.channel c) outlets)) other.0)
        ∙ found))

-- what these stations show of a channel is nothing, or what some outlet of it took
record IsSeen (c : ℕ) (stations : List StationView) : Type 0 where
  pub i : ℕ
  pub station : StationView
  pub here : slice_get stations i ≡ Some station
  pub outlet : OutletView
  pub at : IsAt station.outlets c outlet
  pub shows : released_of c stations ≡ outlet.taken

seen : (c : ℕ) (stations : List StationView) → (released_of c stations ≡ []) ⊎ IsSeen c stations
seen c [] = inl refl
seen c (s ∷ stations) = at (find (λ (o : OutletView). eqb o.channel c) s.outlets) refl (seen c stations)
  where
    at : (o : Option OutletView) → find (λ (o : OutletView). eqb o.channel c) s.outlets ≡ o
        → (released_of c stations ≡ []) ⊎ IsSeen c stations
        → (released_of c (s ∷ stations) ≡ []) ⊎ IsSeen c (s ∷ stations)
    at (Some outlet) is rest = inr (record {
      i = 0;
      station = s;
      here = refl;
      outlet = outlet;
      at = found_at c s.outlets outlet is;
      shows = ap (λ (o : Option OutletView). taken_or o (released_of c stations)) is;
    })
    at None is (inl none) = inl (ap (λ (o : Option OutletView). taken_or o (released_of c stations)) is ∙ none)
    at None is (inr rest) = inr (record {
      i = suc rest.i;
      station = rest.station;
      here = rest.here;
      outlet = rest.outlet;
      at = rest.at;
      shows = ap (λ (o : Option OutletView). taken_or o (released_of c stations)) is ∙ rest.shows;
    })

module _ (world : WorldView) (inv : WorldInvariant world) (c : ℕ) where
  pub released_is_right : IsStreamOf world.net world.inputs c (released_of c world.stations)
  released_is_right = ∥∥₁_map (released_prefix world inv) (λ a. (a.0, at a.0 a.1 (seen c world.stations)))
    where
      at : (n : ℕ) → AreAllWithin world.net world.inputs world.stations n
          → (released_of c world.stations ≡ []) ⊎ IsSeen c world.stations
          → IsPrefix (released_of c world.stations) (history_of (approximation world.net world.inputs n) c)
      at n within (inl none) =
          prefix_nil (released_of c world.stations) (history_of (approximation world.net world.inputs n) c) none
      at n within (inr s) =
          subst (λ (items : List ℤ). IsPrefix items (history_of (approximation world.net world.inputs n) c))
          (sym s.shows)
          (subst (λ (d : ℕ). IsPrefix s.outlet.taken (history_of (approximation world.net world.inputs n) d))
          s.at.channel
          (within s.i s.station s.here s.at.place (output_of s.outlet)
          (map_at output_of s.station.outlets s.at.place s.outlet s.at.there)))

  pub released_is_put : IsPutAtHome world.net world.stations c (released_of c world.stations)
  released_is_put home station here output =
      at (slice_get_cases world.net.channels c).1 (slice_get_cases world.stations home).1
    where
      at : ((x : Channel) × (c < length world.net.channels) × (slice_get world.net.channels c ≡ Some x)
          × (get_or world.net.channels c x ≡ x))
          ⊎ ((length world.net.channels ≤ c) × (slice_get world.net.channels c ≡ None))
          → ((x : StationView) × (home < length world.stations) × (slice_get world.stations home ≡ Some x)
          × (get_or world.stations home x ≡ x))
          ⊎ ((length world.stations ≤ home) × (slice_get world.stations home ≡ None))
          → length (released_of c world.stations) ≤ sent_of station.node.kept.permanent c
      at (inr past) there =
          (let none : leaves_from world.net home None ≡ true = sym (ap (leaves_from world.net home) past.1) ∙ output in
          absurd (cc))
      at (inl channel) (inr past) = (let none : Some station ≡ None = sym here ∙ past.1 in absurd (cc))
      at (inl channel) (inl there) =
          let shown =
          shown_at world.net world.inputs world.stations inv.numbered inv.stations home c there.1 output
          channel.1 in
          let one : Some shown.station ≡ Some station = sym shown.here ∙ here in
          let same : shown.station ≡ station = cc in
          let few : length shown.shown.outlet.taken
          ≤ sent_of shown.station.node.kept.permanent shown.shown.outlet.channel =
          (inv.stations home shown.station shown.here).kept.covered shown.shown.place
          (output_of shown.shown.outlet)
          (map_at output_of shown.station.outlets shown.shown.place shown.shown.outlet shown.shown.there) in
          let count : length (released_of c world.stations) ≡ length shown.shown.outlet.taken =
          ap (length {A = ℤ}) shown.shown.shows in
          let put : sent_of shown.station.node.kept.permanent shown.shown.outlet.channel
          ≡ sent_of station.node.kept.permanent c =
          ap (sent_of shown.station.node.kept.permanent) shown.shown.channel
          ∙ ap (λ (s : StationView). sent_of s.node.kept.permanent c) same in
          omega (arith, few, count, put)
