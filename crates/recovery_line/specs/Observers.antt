-- How the record that a node writes is seen here: by the counts of its images, the numbers and the names in its
-- decisions.
use Rattle.std.specs.Prelude.{◌≡◌, ◌≢◌, ℕ, ◌<◌, Bool, false, ◌==◌, ◌&&◌, ◌||◌, List, [], ◌∷◌, length, Option, Some}
use Rattle.std.specs.Prelude.{None, slice_index}
use Rattle.std.specs.List.{AllByRecursion}
use Rattle.record.specs.Common.{DecisionView, ImageView, RecordView, received_of, base_of, sent_of, highest_seen}
use Rattle.record.specs.Common.{with_tentative, with_permanent, without_tentative, with_decision, with_confirmed}
use Rattle.record.specs.Common.{with_epoch}
use Rattle.record.specs.declared.record.Tentative.{Tentative as HeldImage}
use Rattle.recovery_line.specs.Images.{Image}
use Rattle.recovery_line.specs.Records.{Record, Tentative}
use Rattle.recovery_line.specs.Moves.{Takes, Decides, Settles, Drops, Confirms}

-- ---- the observers

abbrev pub image_seen : ImageView → Image
image_seen image = record { received = received_of image; base = base_of image; sent = sent_of image }

abbrev pub tentative_seen : Option HeldImage → Option Tentative
tentative_seen None = None
tentative_seen (Some held) =
    Some (record { initiator = held.initiator; number = held.number; image = image_seen held.image })

-- the node is one of these
abbrev pub has_node : ℕ → List ℕ → Bool
has_node node [] = false
has_node node (p ∷ ps) = (p == node) || has_node node ps

-- the number is that of one of these decisions
abbrev pub decides : List DecisionView → ℕ → Bool
decides [] number = false
decides (d ∷ ds) number = (d.number == number) || decides ds number

-- such a decision names this node
abbrev pub names : List DecisionView → ℕ → ℕ → Bool
names [] number node = false
names (d ∷ ds) number node = ((d.number == number) && has_node node d.participants) || names ds number node

abbrev pub record_seen : RecordView → Record
record_seen kept = record {
  highest = slice_index kept.highest;
  decided = decides kept.decisions;
  named = names kept.decisions;
  permanent = image_seen kept.permanent;
  tentative = tentative_seen kept.tentative;
}

-- ---- each change of a record is one of the moves

-- an image is taken: nothing is held, and the number is above the highest seen of a node that there is
abbrev pub TakingMoves : Type 0
TakingMoves =
    (kept : RecordView) (initiator number : ℕ) (image : ImageView) → kept.tentative ≡ None
    → initiator < length kept.highest → highest_seen initiator kept < number
    → Takes (record_seen kept) (record_seen (with_tentative initiator number image kept)) initiator number
    (image_seen image)

-- an image becomes permanent by a decision, while the unsettled ones are all of lower numbers
abbrev pub DecidingMoves : Type 0
DecidingMoves =
    (kept : RecordView) (held : HeldImage) (participants : List ℕ) → kept.tentative ≡ Some held
    → AllByRecursion (λ (d : DecisionView). d.number < held.number) kept.decisions
    → Decides (record_seen kept) (record_seen (with_decision held.number participants kept)) held.initiator held.number
    (image_seen held.image) (λ p. has_node p participants)

-- it becomes permanent at another's word
abbrev pub SettlingMoves : Type 0
SettlingMoves =
    (kept : RecordView) (held : HeldImage) → kept.tentative ≡ Some held
    → Settles (record_seen kept) (record_seen (with_permanent kept)) held.initiator held.number (image_seen held.image)

-- it goes
abbrev pub DroppingMoves : Type 0
DroppingMoves =
    (kept : RecordView) (held : HeldImage) → kept.tentative ≡ Some held
    → Drops (record_seen kept) (record_seen (without_tentative kept)) held.initiator held.number (image_seen held.image)

-- a node confirms a decision
abbrev pub ConfirmingMoves : Type 0
ConfirmingMoves =
    (kept : RecordView) (number node : ℕ)
    → Confirms (record_seen kept) (record_seen (with_confirmed number node kept)) number node

-- a new epoch drops an image of the node's own instance
abbrev pub EpochDropsOwn : Type 0
EpochDropsOwn = (kept : RecordView) (held : HeldImage) → kept.tentative ≡ Some held → held.initiator ≡ kept.node
    → Drops (record_seen kept) (record_seen (with_epoch kept)) held.initiator held.number (image_seen held.image)

-- and else it isn't seen at all
abbrev pub EpochIsNotSeen : Type 0
EpochIsNotSeen =
    (kept : RecordView) → ((held : HeldImage) → kept.tentative ≡ Some held → held.initiator ≢ kept.node)
    → record_seen (with_epoch kept) ≡ record_seen kept
