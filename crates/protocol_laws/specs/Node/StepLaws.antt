-- Laws of how far a node has come: what it keeps changes, and what it has now doesn't.
use Rattle.std.proofs.Common.{◌≡◌, ℕ, ℤ, List, Option, Some, None, refl, subst, arith}
use Rattle.protocol.specs.Node.Common.{Network, approximation, ImageView, JobView, RunningNode, DecisionView}
use Rattle.protocol.specs.Node.Common.{with_decision, with_tentative, RecordView, ImageStands, HasReached, Tentative}
use Rattle.protocol.specs.Node.Choosing.{after_grant}
use Rattle.ckpt_codec.specs.Common.{last_image}
use Rattle.protocol.specs.Node.Modes.{keeping}
use Rattle.protocol.specs.Node.Reached.{IsAsFar, HasComeOn}

-- the record in another epoch, with other decisions, of which a tentative image may be dropped
abbrev pub lessened : ℕ → List DecisionView → Option Tentative → RecordView → RecordView
lessened epoch decisions held kept = record kept { epoch = epoch; decisions = decisions; tentative = held }

-- a node that takes a tentative image of what it has now, of whatever instance
pub reached_taken : (net : Network) (inputs : List (List ℤ)) (x n : ℕ) (node : RunningNode)
    → HasReached net inputs node → HasReached net inputs (keeping (with_tentative x n node.current node.kept) node)
reached_taken net inputs x n node reached = record {
  n = reached.n;
  permanent_acts = reached.permanent_acts;
  held_acts = reached.current_acts;
  current_acts = reached.current_acts;
  permanent = reached.permanent;
  held = held;
  current = reached.current;
  held_after = λ p. (let a = reached.held_after p in let b = reached.current_after p in omega (arith, a, b));
  current_after = λ p. omega arith;
}
  where
    held : (tentative : Tentative) → (with_tentative x n node.current node.kept).tentative ≡ Some tentative
        → ImageStands net (approximation net inputs reached.n) reached.current_acts tentative.image
    held tentative is =
        let image : node.current ≡ tentative.image = cc in
        subst (λ (x : ImageView). ImageStands net (approximation net inputs reached.n) reached.current_acts x) image
        reached.current

-- a node whose tentative image becomes permanent, where one is held, whatever is decided
pub reached_decide : (net : Network) (inputs : List (List ℤ)) (number : ℕ) (nodes : List ℕ) (node : RunningNode)
    → HasReached net inputs node → HasReached net inputs (keeping (with_decision number nodes node.kept) node)
reached_decide net inputs number nodes node reached = record {
  n = reached.n;
  permanent_acts = permanent_then node.kept.tentative;
  held_acts = reached.held_acts;
  current_acts = reached.current_acts;
  permanent = permanent node.kept.tentative refl;
  held = λ tentative is. absurd (cc);
  held_after = held_after node.kept.tentative;
  current = reached.current;
  current_after = reached.current_after;
}
  where
    permanent_then : Option Tentative → ℕ → ℕ
    permanent_then None = reached.permanent_acts
    permanent_then (Some tentative) = reached.held_acts

    held_after : (o : Option Tentative) → IsAsFar (permanent_then o) reached.held_acts
    held_after None = reached.held_after
    held_after (Some tentative) = λ p. omega arith

    permanent : (o : Option Tentative) → node.kept.tentative ≡ o
        → ImageStands net (approximation net inputs reached.n) (permanent_then o) (last_image node.kept.permanent o)
    permanent None is = reached.permanent
    permanent (Some tentative) is = reached.held tentative is

-- a node whose tentative image stays or is dropped
pub reached_less : (net : Network) (inputs : List (List ℤ)) (epoch : ℕ) (decisions : List DecisionView)
    (held : Option Tentative) (node : RunningNode)
    → ((t : Tentative) → held ≡ Some t → node.kept.tentative ≡ Some t) → HasReached net inputs node
    → HasReached net inputs (keeping (lessened epoch decisions held node.kept) node)
reached_less net inputs epoch decisions held node still reached = record {
  n = reached.n;
  permanent_acts = reached.permanent_acts;
  held_acts = reached.held_acts;
  current_acts = reached.current_acts;
  permanent = reached.permanent;
  held = λ t is. reached.held t (still t is);
  current = reached.current;
  held_after = reached.held_after;
  current_after = reached.current_after;
}

-- a node that granted a job, or none
pub reached_grant : (net : Network) (inputs : List (List ℤ)) (job : Option JobView) (node : RunningNode)
    → HasReached net inputs node → HasReached net inputs (after_grant job node)
reached_grant net inputs None node reached = reached
reached_grant net inputs (Some job) node reached = record {
  n = reached.n;
  permanent_acts = reached.permanent_acts;
  held_acts = reached.held_acts;
  current_acts = reached.current_acts;
  permanent = reached.permanent;
  held = reached.held;
  current = reached.current;
  held_after = reached.held_after;
  current_after = reached.current_after;
}

-- Each leaves the approximation and the acts as they were

pub on_taken : (net : Network) (inputs : List (List ℤ)) (x n : ℕ) (node : RunningNode)
    (reached : HasReached net inputs node)
    → HasComeOn net inputs node (keeping (with_tentative x n node.current node.kept) node) reached
    (reached_taken net inputs x n node reached)
unfolding reached_taken
on_taken net inputs x n node reached = record { same = refl; further = λ p. omega arith }

pub on_decide : (net : Network) (inputs : List (List ℤ)) (number : ℕ) (nodes : List ℕ) (node : RunningNode)
    (reached : HasReached net inputs node)
    → HasComeOn net inputs node (keeping (with_decision number nodes node.kept) node) reached
    (reached_decide net inputs number nodes node reached)
unfolding reached_decide
on_decide net inputs number nodes node reached = record { same = refl; further = λ p. omega arith }

pub on_less : (net : Network) (inputs : List (List ℤ)) (epoch : ℕ) (decisions : List DecisionView)
    (held : Option Tentative) (node : RunningNode)
    (still : (t : Tentative) → held ≡ Some t → node.kept.tentative ≡ Some t) (reached : HasReached net inputs node)
    → HasComeOn net inputs node (keeping (lessened epoch decisions held node.kept) node) reached
    (reached_less net inputs epoch decisions held node still reached)
unfolding reached_less
on_less net inputs epoch decisions held node still reached = record { same = refl; further = λ p. omega arith }

pub on_grant : (net : Network) (inputs : List (List ℤ)) (job : Option JobView) (node : RunningNode)
    (reached : HasReached net inputs node)
    → HasComeOn net inputs node (after_grant job node) reached (reached_grant net inputs job node reached)
unfolding reached_grant
on_grant net inputs None node reached = record { same = refl; further = λ p. omega arith }
on_grant net inputs (Some job) node reached = record { same = refl; further = λ p. omega arith }
