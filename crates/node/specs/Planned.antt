-- What the code plans, as the plan of the definition: what is put, what the node is then, and what is said.
use Rattle.std.specs.Prelude.{◌≡◌, ℕ, ◌<◌, Bool, true, false, length, Option, Some, None}
use Rattle.ckpt_store.specs.Refusals.{has_effect, no_refusal, refusal_to_decide, refusal_to_raise, refusal_to_take}
use Rattle.ckpt_store.specs.Refusals.{refusal_unless_held}
use Rattle.protocol.specs.Node.Common.{fits_in, StoreFault, with_confirmed, with_decision, with_epoch, with_permanent}
use Rattle.protocol.specs.Node.Common.{with_tentative, without_tentative, RecordView, hearing, is_down, with_kept}
use Rattle.protocol.specs.Node.Common.{NodeView, on_running, Undue, Exhausted, Planned}
use Rattle.ckpt_store.specs.Spelling.{AreOthers, IsLike}
use Rattle.protocol.specs.Node.Plans.{Plan as PlanView, Prospect as ProspectView}
use Rattle.node.specs.Then.{MayFollow, then_node}
use Rattle.node.specs.declared.checkpoint.Then.{Then}
use Rattle.node.specs.declared.plan.Change.{Change}
use Rattle.node.specs.declared.plan.Change.TheVariants as change_is
use Rattle.node.specs.declared.plan.Effect.{Effect}
use Rattle.node.specs.declared.plan.Effect.TheVariants as effect_is
use Rattle.node.specs.declared.plan.Plan.{Plan}
use Rattle.node.specs.declared.plan.Prospect.{Prospect}
use Rattle.node.specs.declared.plan.Prospect.TheVariants as prospect_is

-- ---- changes of the record

-- the record behind one
abbrev pub changed : Change → RecordView → RecordView
changed (change_is.Takes image initiator number) kept = with_tentative initiator number image kept
changed (change_is.Decides number participants) kept = with_decision number participants.items kept
changed (change_is.MakesPermanent initiator number) kept = with_permanent kept
changed (change_is.Drops initiator number) kept = without_tentative kept
changed (change_is.Confirms number node) kept = with_confirmed number node kept
changed change_is.Raises kept = with_epoch kept

-- the cause that a record itself gives to refuse one
abbrev pub cause_of : Change → RecordView → Option StoreFault
cause_of (change_is.Takes image initiator number) kept = refusal_to_take initiator number kept
cause_of (change_is.Decides number participants) kept = refusal_to_decide number participants.items kept
cause_of (change_is.MakesPermanent initiator number) kept = refusal_unless_held initiator number kept
cause_of (change_is.Drops initiator number) kept = refusal_unless_held initiator number kept
cause_of (change_is.Confirms number node) kept = no_refusal kept
cause_of change_is.Raises kept = refusal_to_raise kept

-- the record may be longer behind it
abbrev pub change_grows : Change → Bool
change_grows (change_is.Takes image initiator number) = true
change_grows (change_is.Decides number participants) = false
change_grows (change_is.MakesPermanent initiator number) = false
change_grows (change_is.Drops initiator number) = false
change_grows (change_is.Confirms number node) = false
change_grows change_is.Raises = false

-- what a store asks for, of whoever puts it
abbrev pub MayBePut : Change → RecordView → Type 0
MayBePut (change_is.Takes image initiator number) kept =
    (initiator < length kept.highest) × IsLike kept.permanent image
MayBePut (change_is.Decides number participants) kept = AreOthers kept participants.items
MayBePut (change_is.MakesPermanent initiator number) kept = Unit {0}
MayBePut (change_is.Drops initiator number) kept = Unit {0}
MayBePut (change_is.Confirms number node) kept = has_effect number node (Some kept) ≡ true
MayBePut change_is.Raises kept = Unit {0}

-- ---- plans

-- the node behind what becomes of it
abbrev pub effect_node : Effect → NodeView → NodeView
effect_node (effect_is.Remembers then) node = then_node then node
effect_node (effect_is.Hears body) node = on_running (hearing body) node
effect_node (effect_is.Puts change then) node = then_node then (with_kept (changed change node.kept) node)

abbrev pub effect_puts : Effect → Bool
effect_puts (effect_is.Remembers then) = false
effect_puts (effect_is.Hears body) = false
effect_puts (effect_is.Puts change then) = true

abbrev pub effect_grows : Effect → Bool
effect_grows (effect_is.Remembers then) = false
effect_grows (effect_is.Hears body) = false
effect_grows (effect_is.Puts change then) = change_grows change

-- the plan of a node that is so now
abbrev pub plan_view : NodeView → Plan → PlanView
plan_view node plan = record {
  node = effect_node plan.effect node;
  puts = effect_puts plan.effect;
  grows = effect_grows plan.effect;
  packets = plan.said.made.items;
  refused = plan.said.declined.items;
}

abbrev pub prospect_view : NodeView → Prospect → ProspectView
prospect_view node prospect_is.Undue = Undue
prospect_view node prospect_is.Exhausted = Exhausted false
prospect_view node (prospect_is.Planned plan) = Planned (plan_view node plan)

-- ---- what can be carried out

-- A node that is so can put a change: it is up, its record gives no cause to refuse, and unless it grows it fits wherever it did.
pub record CanPut (node : NodeView) (change : Change) (then : Then) : Type 0 where
  pub up : is_down node.mode ≡ false
  pub may_be_put : MayBePut change node.kept
  pub fine : cause_of change node.kept ≡ None
  pub may_follow : MayFollow then
  pub fits : change_grows change ≡ false → (room : ℕ) → fits_in room node.kept ≡ true
      → fits_in room (changed change node.kept) ≡ true

abbrev pub CanDo : NodeView → Effect → Type 0
CanDo node (effect_is.Remembers then) = (is_down node.mode ≡ false) × MayFollow then
CanDo node (effect_is.Hears body) = is_down node.mode ≡ false
CanDo node (effect_is.Puts change then) = CanPut node change then

abbrev pub CanBeMade : NodeView → Prospect → Type 0
CanBeMade node prospect_is.Undue = Unit {0}
CanBeMade node prospect_is.Exhausted = Unit {0}
CanBeMade node (prospect_is.Planned plan) = CanDo node plan.effect
