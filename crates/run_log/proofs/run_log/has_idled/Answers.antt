use Rattle.std.proofs.Common.{◌≡◌, ◌∙◌, ℕ, List, Option, Some, None, option_map, slice_get, map, sym, ap, refl}
use Rattle.std.proofs.lemmas.Option.{slice_get-map}
use Rattle.protocol.specs.World.StationView.{StationView}
use Rattle.protocol.specs.declared.round_turns.RoundTurns.{RoundTurns}
use Rattle.replay.specs.Replay.{idled_at}
use Rattle.world.specs.WholeView.{stations_in, world_of}
use Rattle.run_log.proofs.run_log.has_idled.Goals as goal

-- what is found among the stations, as the world's view has it
as_viewed : {S : Type 0} (view : S → StationView) (stations : List S) (node now round : ℕ) (found : Option S)
    → slice_get stations node ≡ found → now ≡ round
    → idled_at now (option_map view found) ≡ idled_at round (slice_get (map view stations) node)
as_viewed {S} view stations node now round found there same =
    ap (idled_at now) (sym (slice_get-map view stations node ∙ ap (λ (o : Option S). option_map view o) there))
    ∙ ap (λ (r : ℕ). idled_at r (slice_get (map view stations) node)) same

pub returns-in-Some : goal.returns-in-Some
returns-in-Some g c =
    ap (λ (turns : RoundTurns). turns.idled) c.of.ensures
    ∙ as_viewed _ (stations_in c.args.world.now) c.args.node c.round.result (world_of c.args.world.now).round
    (Some c.in-Some.station.now) c.in-Some.ensures c.round.ensures

pub returns-in-None : goal.returns-in-None
returns-in-None g c =
    as_viewed _ (stations_in c.args.world.now) c.args.node (world_of c.args.world.now).round
    (world_of c.args.world.now).round None c.in-None.ensures refl
