-- Laws of what an event leaves of a station: the record that it keeps, its number, and that of its node.
use Rattle.std.proofs.Common.{◌≡◌, ◌⊎◌, inl, inr, ℕ, Bool, true, false, List, Option, Some, None, refl, ap, ◌∙◌}
use Rattle.protocol.specs.Node.Common.{Channel, RecordView, restart_after, IsInstall, NodeView}
use Rattle.protocol.specs.World.Common.{DoneView, EventView, ByNode, ByNetwork, Install, Release, next_kept}
use Rattle.protocol.specs.World.Common.{ReplyView, StationView, IsRelease, IsStationStep, Setting, next_release}
use Rattle.protocol.specs.World.Common.{plan_of, IsSoundSetting, IsSoundStation}
use Rattle.protocol.specs.declared.outcome.Outcome.{Outcome}
use Rattle.protocol_laws.specs.World.DeedLaws.{deed_sound}
use Rattle.protocol_laws.specs.World.PlanLaws.{made_kept, next_record_node}

install_kept : (channels : List Channel) (done : DoneView) (old : NodeView) (applied : Bool) (new : NodeView)
    → IsInstall channels done.job done.after done.taken done.sent old applied new → new.kept ≡ old.kept
install_kept channels done old true new step = ap (λ (n : NodeView). n.kept) step.1
install_kept channels done old false new step = ap (λ (n : NodeView). n.kept) step.1

release_kept : (round : ℕ) (o : Option ℕ) (old : StationView) (answer : ReplyView) (new : StationView)
    → IsRelease round o old answer new → new.node.kept ≡ old.node.kept
release_kept round None old answer new step = ap (λ (s : StationView). s.node.kept) step.1
release_kept round (Some place) old answer new step = ap (λ (s : StationView). s.node.kept) step.same

module _ (setting : Setting) (sure : IsSoundSetting setting) where
  -- the record at the end of an event is the one of before or the one that the event puts
  pub step_kept : (room : RecordView → Bool) (e : EventView) (came : Outcome) (old : StationView) (answer : ReplyView)
      (new : StationView) → IsSoundStation setting old → IsStationStep setting room e came old answer new
      → (new.node.kept ≡ old.node.kept) ⊎ (new.node.kept ≡ next_kept setting e old)
  step_kept room (ByNode k deed) came old answer new sound step =
      made_kept setting.net setting.inputs old (restart_after old.node.armed step.call setting.round)
      (plan_of setting k deed old).prospect came new.node (deed_sound setting sure old sound k deed)
      step.step
  step_kept room (Install done) came old answer new sound step =
      inl (install_kept setting.net.channels done old.node step.applied new.node step.step)
  step_kept room (Release k) came old answer new sound step =
      inl (release_kept setting.round (next_release setting.round old) old answer new step)
  step_kept room (ByNetwork k place act) came old answer new sound step =
      inl (ap (λ (s : StationView). s.node.kept) step.1)

  -- the record that an event puts is of the same node
  pub next_node : (e : EventView) (old : StationView) → IsSoundStation setting old
      → (next_kept setting e old).node ≡ old.node.kept.node
  next_node (ByNode k deed) old sound =
      next_record_node setting.net setting.inputs old (plan_of setting k deed old).prospect
      (deed_sound setting sure old sound k deed)
  next_node (Install done) old sound = refl
  next_node (Release k) old sound = refl
  next_node (ByNetwork k place act) old sound = refl

  pub step_node : (room : RecordView → Bool) (e : EventView) (came : Outcome) (old : StationView) (answer : ReplyView)
      (new : StationView) → IsSoundStation setting old → IsStationStep setting room e came old answer new
      → new.node.kept.node ≡ old.node.kept.node
  step_node room e came old answer new sound step = at (step_kept room e came old answer new sound step)
    where
      at : (new.node.kept ≡ old.node.kept) ⊎ (new.node.kept ≡ next_kept setting e old)
          → new.node.kept.node ≡ old.node.kept.node
      at (inl same) = ap (λ (r : RecordView). r.node) same
      at (inr same) = ap (λ (r : RecordView). r.node) same ∙ next_node e old sound

release_number : (round : ℕ) (o : Option ℕ) (old : StationView) (answer : ReplyView) (new : StationView)
    → IsRelease round o old answer new → new.number ≡ old.number
release_number round None old answer new step = ap (λ (s : StationView). s.number) step.1
release_number round (Some place) old answer new step = ap (λ (s : StationView). s.number) step.same

-- a station keeps its number
pub step_number : (setting : Setting) (room : RecordView → Bool) (e : EventView) (came : Outcome) (old : StationView)
    (answer : ReplyView) (new : StationView) → IsStationStep setting room e came old answer new
    → new.number ≡ old.number
step_number setting room (ByNode k deed) came old answer new step = ap (λ (s : StationView). s.number) step.same
step_number setting room (Install done) came old answer new step = ap (λ (s : StationView). s.number) step.same
step_number setting room (Release k) came old answer new step =
    release_number setting.round (next_release setting.round old) old answer new step
step_number setting room (ByNetwork k place act) came old answer new step = ap (λ (s : StationView). s.number) step.1
