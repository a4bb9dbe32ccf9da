-- Turns that come back.
use Rattle.std.proofs.Common.{◌≡◌, ◌⊎◌, Bool, true, false, List, Option, Some, slice_get, subst, inl, inr}
use Rattle.protocol.specs.Node.Common.{RecordView, Channel, IsOut, IsInstall, NodeView}
use Rattle.protocol.specs.World.Common.{DoneView, Install, event_node, install_reply, ReplyView, StationView, IsActOf}
use Rattle.protocol.specs.World.Common.{setting_of}
use Rattle.protocol.specs.declared.reply.Reply.TheVariants.{Installed, Discarded}
use Rattle.replay.specs.Laws.{InstallsAreTold}

-- by whether it was taken in
told_by : (channels : List Channel) (done : DoneView) (old new : NodeView) (applied : Bool) (answer : ReplyView)
    → IsInstall channels done.job done.after done.taken done.sent old applied new → answer ≡ install_reply applied
    → ((answer ≡ Installed) × IsOut done.job old.mode) ⊎ ((answer ≡ Discarded) × ¬ (IsOut done.job old.mode))
told_by channels done old new true answer step is = inl (is, step.0)
told_by channels done old new false answer step is = inr (is, step.0)

pub installs_are_told : InstallsAreTold
installs_are_told fits fit done old new answer station room there step =
    let place = event_node (Install done) in
    let act = subst (λ (o : Option StationView). IsActOf (setting_of old) place (Some fit) o (Install done) step.came
    old.stations answer new.stations) there
    (subst (λ (f : Option (RecordView → Bool)). IsActOf (setting_of old) place f (slice_get old.stations place)
    (Install done) step.came old.stations answer new.stations) room step.act) in
    told_by old.net.channels done station.node act.later.node act.step.applied answer act.step.step act.step.answers
