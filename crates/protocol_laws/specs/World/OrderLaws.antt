-- The images of a node stay one after another.
use Rattle.std.proofs.Common.{◌≡◌, ℕ, List, Option, Some, None, refl, subst, arith}
use Rattle.protocol.specs.Node.Common.{DecisionView, ImageView, RecordView, Tentative, JobView, RunningNode}
use Rattle.protocol.specs.Node.Common.{with_decision, with_tentative, AreInOrder, IsBehind}
use Rattle.protocol.specs.Node.Choosing.{after_grant}
use Rattle.ckpt_codec.specs.Common.{last_image}
use Rattle.protocol_laws.specs.Node.StepLaws.{lessened}

-- Images

pub behind_itself : (image : ImageView) → IsBehind image image
behind_itself image = record { received = λ c. omega arith; base = λ c. omega arith; sent = λ c. omega arith }

pub behind_then : (image later last : ImageView) → IsBehind image later → IsBehind later last → IsBehind image last
behind_then image later last a b = record {
  received = λ c. (let x = a.received c in let y = b.received c in omega (arith, x, y));
  base = λ c. (let x = a.base c in let y = b.base c in omega (arith, x, y));
  sent = λ c. (let x = a.sent c in let y = b.sent c in omega (arith, x, y));
}

-- Nodes

pub order_granted : (job : Option JobView) (node : RunningNode) → AreInOrder node.kept node.current
    → AreInOrder (after_grant job node).kept (after_grant job node).current
order_granted None node order = order
order_granted (Some job) node order = order

-- where the node has gone on since
pub order_ahead : (kept : RecordView) (current later : ImageView) → IsBehind current later → AreInOrder kept current
    → AreInOrder kept later
order_ahead kept current later more order = record {
  current_ahead = behind_then kept.permanent current later order.current_ahead more;
  held_ahead = order.held_ahead;
  held_behind = λ held is. behind_then held.image current later (order.held_behind held is) more;
}

-- an image of what it has now is taken, of whatever instance
pub order_taken : (x n : ℕ) (kept : RecordView) (current : ImageView) → AreInOrder kept current
    → AreInOrder (with_tentative x n current kept) current
order_taken x n kept current order = record {
  current_ahead = order.current_ahead;
  held_ahead =
      λ held is. (let same : current ≡ held.image = cc in subst (IsBehind kept.permanent) same order.current_ahead);
  held_behind =
      λ held is. (let same : current ≡ held.image = cc in
      subst (λ (i : ImageView). IsBehind i current) same (behind_itself current));
}

order_last : (kept : RecordView) (o : Option Tentative) (current : ImageView) → kept.tentative ≡ o
    → AreInOrder kept current → IsBehind (last_image kept.permanent o) current
order_last kept None current is order = order.current_ahead
order_last kept (Some held) current is order = order.held_behind held is

-- the tentative image becomes permanent, whatever is decided
pub order_decided : (n : ℕ) (nodes : List ℕ) (kept : RecordView) (current : ImageView) → AreInOrder kept current
    → AreInOrder (with_decision n nodes kept) current
order_decided n nodes kept current order = record {
  current_ahead = order_last kept kept.tentative current refl order;
  held_ahead = λ other e. absurd (cc);
  held_behind = λ other e. absurd (cc);
}

-- the tentative image stays or is dropped
pub order_less : (epoch : ℕ) (decisions : List DecisionView) (held : Option Tentative) (kept : RecordView)
    (current : ImageView) → ((t : Tentative) → held ≡ Some t → kept.tentative ≡ Some t) → AreInOrder kept current
    → AreInOrder (lessened epoch decisions held kept) current
order_less epoch decisions held kept current still order = record {
  current_ahead = order.current_ahead;
  held_ahead = λ t is. order.held_ahead t (still t is);
  held_behind = λ t is. order.held_behind t (still t is);
}
