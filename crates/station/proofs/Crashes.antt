-- A node crashes, if it is up.
use Rattle.std.proofs.Common.{◌≡◌, ℕ, Bool, true, false, cond, refl, sym, ap, ◌∙◌}
use Rattle.std.specs.Prelude.{IsTrue, not}
use Rattle.protocol.specs.Node.Common.{RecordView, crashed, is_down, NodeView, becoming, if_due}
use Rattle.protocol.specs.World.Common.{ReplyView, StationView, moved_to}
use Rattle.protocol.specs.declared.reply.Reply.TheVariants.{Crashed, NotDue}
use Rattle.protocol.specs.World.Steps.{crash_plan}
use Rattle.station.specs.Coming.{ComesBy}
use Rattle.station.proofs.Planned.{becomes, not_due}

pub crashes : (fits : RecordView → Bool) (round restart : ℕ) (old new : StationView) (answer : ReplyView) (up : Bool)
    → up ≡ not (is_down old.node.mode) → (IsTrue up → new.node ≡ crashed restart old.node)
    → (up ≡ false → new.node ≡ old.node) → new ≡ moved_to new.node old.failures old.turns old
    → answer ≡ cond up Crashed NotDue → ComesBy fits round (crash_plan restart old) old answer new
crashes fits round restart old new answer true is went stays same answers =
    becomes fits round (crash_plan restart old) old new (crashed restart old.node)
    (ap (λ (b : Bool). if_due b (becoming (crashed restart old.node))) (sym is)) answer answers
    (same ∙ ap (λ (n : NodeView). moved_to n old.failures old.turns old) (went refl))
crashes fits round restart old new answer false is went stays same answers =
    not_due fits round (crash_plan restart old) old new
    (ap (λ (b : Bool). if_due b (becoming (crashed restart old.node))) (sym is)) answer answers
    (same ∙ ap (λ (n : NodeView). moved_to n old.failures old.turns old) (stays refl))
