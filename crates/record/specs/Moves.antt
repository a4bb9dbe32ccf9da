-- The moves of a record: what it becomes by each put of it.
use Rattle.std.specs.Prelude.{ℕ, ◌+◌, ◌==◌, not, nat_lt, if◌then◌else◌, List, [], ◌∷◌, ◌++◌, filter, Option, Some, None}
use Rattle.std.specs.Prelude.{slice_index, slice_set}
use Rattle.std.specs.List.{flat_map}
use Rattle.record.specs.DecisionView.{DecisionView}
use Rattle.record.specs.ImageView.{ImageView}
use Rattle.record.specs.RecordView.{RecordView}
use Rattle.record.specs.declared.record.Tentative.{Tentative}

-- the highest number seen of this initiator
abbrev pub highest_seen : ℕ → RecordView → ℕ
highest_seen initiator kept = slice_index kept.highest initiator

-- the record with this image as the tentative one of an instance, whose number becomes the highest seen of its
-- initiator
abbrev pub with_tentative : ℕ → ℕ → ImageView → RecordView → RecordView
with_tentative initiator number image kept = record kept {
  highest = slice_set kept.highest initiator number;
  tentative = Some (record { initiator = initiator; number = number; image = image });
}

-- the tentative image, or this one where there is none
abbrev pub last_image : ImageView → Option Tentative → ImageView
last_image permanent None = permanent
last_image permanent (Some held) = held.image

-- the record with its tentative image as the permanent one
abbrev pub with_permanent : RecordView → RecordView
with_permanent kept = record kept { permanent = last_image kept.permanent kept.tentative; tentative = None }

-- the record without its tentative image; the number stays among those seen
abbrev pub without_tentative : RecordView → RecordView
without_tentative kept = record kept { tentative = None }

-- a decision that these nodes have to confirm; with none of them there is no decision
abbrev pub decision_by : ℕ → List ℕ → List DecisionView
decision_by number [] = []
decision_by number (p ∷ ps) = record { number = number; participants = p ∷ ps } ∷ []

-- the decisions of lower numbers
abbrev pub decided_below : ℕ → List DecisionView → List DecisionView
decided_below number decisions = filter (λ (d : DecisionView). nat_lt d.number number) decisions

-- behind the decisions of lower numbers the one that these nodes have to confirm; where there are none, nothing changes
abbrev pub decided_by : ℕ → List ℕ → List DecisionView → List DecisionView
decided_by number [] decisions = decisions
decided_by number (p ∷ ps) decisions = decided_below number decisions ++ decision_by number (p ∷ ps)

-- the record with its tentative image as the permanent one, and with the decision of its number
abbrev pub with_decision : ℕ → List ℕ → RecordView → RecordView
with_decision number participants kept = record kept {
  decisions = decided_by number participants kept.decisions;
  permanent = last_image kept.permanent kept.tentative;
  tentative = None;
}

-- these nodes but one
abbrev pub without_node : ℕ → List ℕ → List ℕ
without_node node participants = filter (λ p. not (p == node)) participants

-- what is left of a decision once this node has confirmed that of this number
abbrev pub confirmed_one : ℕ → ℕ → DecisionView → List DecisionView
confirmed_one number node decision =
    if decision.number == number then decision_by number (without_node node decision.participants) else decision ∷ []

-- the decisions once this node has confirmed that of this number
abbrev pub confirmed : ℕ → ℕ → List DecisionView → List DecisionView
confirmed number node decisions = flat_map (confirmed_one number node) decisions

-- the record with this node's confirmation of the decision of this number
abbrev pub with_confirmed : ℕ → ℕ → RecordView → RecordView
with_confirmed number node kept = record kept { decisions = confirmed number node kept.decisions }

-- what is held of another's instance
abbrev pub without_own : ℕ → Option Tentative → Option Tentative
without_own node None = None
without_own node (Some held) = if held.initiator == node then None else Some held

-- the record in its next epoch, without a tentative image of the node's own
abbrev pub with_epoch : RecordView → RecordView
with_epoch kept = record kept { epoch = kept.epoch + 1; tentative = without_own kept.node kept.tentative }
