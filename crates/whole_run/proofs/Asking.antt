-- Whatever is asked for was received by an image of its checkpoint.
use Rattle.std.proofs.Common.{◌≡◌, ◌⊎◌, inl, inr, ℕ, List, [], ◌∷◌, Some, ap, subst}
use Rattle.std.specs.Prelude.{slice_get}
use Rattle.std.proofs.Math.Logic.{∥∥₁_elim, ∥∥₁_map}
use Rattle.protocol.specs.Node.Common.{Network}
use Rattle.protocol.specs.World.Common.{flights_to, net_seen, Traffic, WorldInvariant, WorldView}
use Rattle.protocol.specs.World.Coordination.{IsAsked, last_of, WasReceived}
use Rattle.protocol.specs.World.InLine.{nodes_seen}
use Rattle.protocol_laws.specs.World.CoordinationLaws.{events_are_coordinated}
use Rattle.recovery_line.specs.Laws.{IsReceived}
use Rattle.whole_run.proofs.Gone.{kept_next}
use Rattle.whole_run.proofs.Nothing.{nothing_begins}
use Rattle.whole_run.specs.Runs.{ByEvent, ByItems, ByNothing, ByRooms, ByStop, EachNext, GoesOn, Happens, WithDisks}
use Rattle.whole_run.specs.Runs.{WithOutlets}

none_asked : (traffic : Traffic) (p x n c m : ℕ) → flights_to traffic p ≡ [] → IsAsked traffic p x n c m → ⊥
none_asked traffic p x n c m none asked =
    let there : slice_get [] asked.place ≡ Some asked.flight = rw none at asked.there in cc

module _ (p x n c m : ℕ) where
  -- it was asked for before, or has been received now
  abbrev IsCaused : WorldView → WorldView → Type 0
  IsCaused old new =
      IsAsked old.traffic p x n c m ⊎ IsReceived (net_seen old.net) (nodes_seen new.stations).records x n c m

  same_asked : (old new : WorldView) → new.traffic ≡ old.traffic → IsAsked new.traffic p x n c m
      → ∥ IsCaused old new ∥₁
  same_asked old new same asked = ∣ inl (subst (λ (traffic : Traffic). IsAsked traffic p x n c m) same asked) ∣₁

  caused_on : (old new : WorldView) → WorldInvariant old → GoesOn old new → IsAsked new.traffic p x n c m
      → ∥ IsCaused old new ∥₁
  caused_on old new inv (ByEvent fits event answer step) asked =
      ∥∥₁_map (events_are_coordinated fits event old answer new inv step)
      (λ coordinated. coordinated.asks_as_received p x n c m asked)
  caused_on old new inv (ByRooms rooms is) asked =
      same_asked old new (ap (λ (w : WorldView). w.traffic) is) asked
  caused_on old new inv (ByItems inputs later is) asked =
      same_asked old new (ap (λ (w : WorldView). w.traffic) is) asked
  caused_on old new inv (ByNothing same) asked = same_asked old new (ap (λ (w : WorldView). w.traffic) same) asked
  caused_on old new inv (ByStop records outputs there later opens) asked =
      absurd (none_asked new.traffic p x n c m (opens.nothing p) asked)

  caused : (old new : WorldView) → WorldInvariant old → Happens old new → IsAsked new.traffic p x n c m
      → ∥ IsCaused old new ∥₁
  caused old new inv (WithDisks goes_on) asked = caused_on old new inv goes_on asked
  caused old new inv (WithOutlets again) asked =
      absurd (none_asked new.traffic p x n c m (nothing_begins new again.begins p) asked)

  received_at : (net : Network) (world : WorldView) (worlds : List WorldView)
      → IsReceived (net_seen net) (nodes_seen world.stations).records x n c m → WasReceived net world worlds x n c m
  received_at net world [] received = received
  received_at net world (next ∷ worlds) received = inl received

  pub asked_on : (world : WorldView) (worlds : List WorldView) → WorldInvariant world → EachNext Happens world worlds
      → IsAsked (last_of world worlds).traffic p x n c m
      → ∥ IsAsked world.traffic p x n c m ⊎ WasReceived world.net world worlds x n c m ∥₁
  asked_on world [] inv all asked = ∣ inl asked ∣₁
  asked_on world (next ∷ worlds) inv all asked =
      let kept = kept_next world next inv all.0 in
      let there =
      subst (λ (net : Network). WasReceived next.net next worlds x n c m → WasReceived net next worlds x n c m)
      kept.same_net (λ received. received) in
      ∥∥₁_elim (asked_on next worlds kept.sound all.1 asked) (hlevel)
      (λ where_. elim where_ [
        | inr received ↦ ∣ inr (inr (there received)) ∣₁
        | inl at_next ↦ ∥∥₁_map (caused world next inv all.0 at_next)
            (λ cause. elim cause [
              | inl was ↦ inl was
              | inr received ↦ inr (inr (received_at world.net next worlds received))
            ])
      ])
