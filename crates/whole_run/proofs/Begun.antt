-- What is true of a world is true of one with which a run begins.
use Rattle.std.proofs.Common.{◌≡◌, ◌⊎◌, inl, inr, ℕ, List, [], ◌∷◌, map, Some, refl, sym, ap, subst, ◌∙◌}
use Rattle.std.specs.Prelude.{slice_get}
use Rattle.protocol.specs.World.Common.{OutletView, output_of, outputs_of, OutputView, WorldInvariant, WorldView}
use Rattle.protocol.specs.World.OpeningWorld.{opening_outlet}
use Rattle.protocol_laws.specs.Node.ImageLaws.{map_got}
use Rattle.protocol_laws.specs.World.OpenLaws.{world_opened}
use Rattle.resuming.proofs.Left.{is_left_there}
use Rattle.resuming.specs.Images.{records_there}
use Rattle.starting_again.proofs.Leaving.{opens_soundly}
use Rattle.whole_run.specs.Beginnings.{Begins, IsMade, IsRunAgain}

-- outlets that open have the channels that they had, and took what they had taken
channels_open : (outlets : List OutletView)
    → map (λ (output : OutputView). output.channel) (outputs_of (map opening_outlet outlets))
    ≡ map (λ (outlet : OutletView). outlet.channel) outlets
channels_open [] = refl
channels_open (x ∷ outlets) = ap (λ (cs : List ℕ). x.channel ∷ cs) (channels_open outlets)

unused_open : (outlets : List OutletView)
    → ((j : ℕ) (outlet : OutletView) → slice_get outlets j ≡ Some outlet → outlet.taken ≡ []) → (j : ℕ)
    (output : OutputView) → slice_get (outputs_of (map opening_outlet outlets)) j ≡ Some output → output.taken ≡ []
unused_open outlets unused j output is =
    let opened = map_got output_of (map opening_outlet outlets) j output is in
    let given = map_got opening_outlet outlets j opened.0 opened.1 in
    sym (ap (λ (o : OutputView). o.taken) opened.2)
    ∙ (sym (ap (λ (o : OutletView). o.taken) given.2) ∙ unused j given.0 given.1)

pub begins_soundly : (world : WorldView) → Begins world → WorldInvariant world
begins_soundly world begins = by begins.how
  where
    by : IsMade world ⊎ IsRunAgain world → WorldInvariant world
    by (inl made) =
        subst WorldInvariant (sym made.is)
        (world_opened world.net world.inputs made.failures made.outlets begins.valid begins.fits made.each
        (channels_open made.outlets ∙ made.listed) (unused_open made.outlets made.unused))
    by (inr again) =
        (opens_soundly world.net world.inputs (records_there world.net again.table) again.outputs world
        (is_left_there world.net world.inputs again.table again.outputs begins.valid begins.fits again.ordered
        again.rerun
        again.may) again.opens).0
