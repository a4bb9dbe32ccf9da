-- The bytes of a record part by part, whatever the parts are compared with.
use Rattle.std.specs.Prelude.{ℕ, ◌^◌, ◌<◌, ℤ, List, ◌++◌, length, Option, Some, None, All, FitsSigned}
use Rattle.std.specs.List.{flat_map}
use Rattle.std.specs.Int.{w64, cast_unsigned, int_wrap}
use Rattle.record.specs.Common.{Standing, NotBegun, At, Done, LogState, DecisionView, SavedProcessView, ImageView}
use Rattle.record.specs.Common.{RecordView}
use Rattle.record.specs.declared.image.SavedEnd.{SavedEnd}
use Rattle.record.specs.declared.image.End.{End}
use Rattle.record.specs.declared.image.End.TheVariants.{Receives, Sends, Both}
use Rattle.record.specs.declared.record.Tentative.{Tentative}
use Rattle.ckpt_codec.specs.Fields.{number_text}
use Rattle.ckpt_codec.specs.RecordText.{variables_of, role_of, items_of_end}

unfoldable pub item_text : ℤ → List ℕ
item_text z = number_text 8 (cast_unsigned w64 (int_wrap w64 z))

abbrev pub items_text : List ℤ → List ℕ
items_text zs = flat_map item_text zs

abbrev pub AreItems : List ℤ → Type 0
AreItems zs = All (FitsSigned w64) zs

-- ---- processes

-- the passes that remain of the repetitions round a site
abbrev pub passes_text : List ℕ → List ℕ
passes_text left = flat_map (number_text 2) left

abbrev pub mode_text : Standing → List ℕ
mode_text (NotBegun vars) = number_text 1 0
mode_text (At point vars) =
    number_text 1 1 ++ (number_text 4 point.site ++ (number_text 1 (length point.left) ++ passes_text point.left))
mode_text (Done vars) = number_text 1 2

abbrev pub state_text : Standing → List ℕ
state_text standing =
    mode_text standing ++ (number_text 1 (length (variables_of standing)) ++ items_text (variables_of standing))

abbrev pub process_text : SavedProcessView → List ℕ
process_text process = number_text 1 process.number ++ state_text process.standing

-- the numbers of a mode can be written in their bytes
abbrev pub HasShortMode : Standing → Type 0
HasShortMode (NotBegun vars) = Unit {0}
HasShortMode (At point vars) = (point.site < 256 ^ 4) × (length point.left < 256)
HasShortMode (Done vars) = Unit {0}

abbrev pub IsShortState : Standing → Type 0
IsShortState standing = HasShortMode standing × (length (variables_of standing) < 256)

abbrev pub IsShortProcess : SavedProcessView → Type 0
IsShortProcess process = IsShortState process.standing

abbrev pub HasItems : SavedProcessView → Type 0
HasItems process = AreItems (variables_of process.standing)

-- ---- ends

abbrev pub log_text : LogState → List ℕ
log_text log = number_text 8 log.base ++ (number_text 4 (length log.items) ++ items_text log.items)

abbrev pub end_text : End → List ℕ
end_text (Receives received) = number_text 8 received
end_text (Sends log) = log_text log
end_text (Both received log) = number_text 8 received ++ log_text log

abbrev pub saved_end_text : SavedEnd → List ℕ
saved_end_text saved = number_text 2 saved.channel ++ (number_text 1 (role_of saved.end) ++ end_text saved.end)

abbrev pub EndHasItems : SavedEnd → Type 0
EndHasItems saved = AreItems (items_of_end saved.end)

-- ---- images

abbrev pub process_list_text : List SavedProcessView → List ℕ
process_list_text processes = number_text 1 (length processes) ++ flat_map process_text processes

abbrev pub end_list_text : List SavedEnd → List ℕ
end_list_text ends = number_text 2 (length ends) ++ flat_map saved_end_text ends

abbrev pub image_text : ImageView → List ℕ
image_text image = process_list_text image.processes ++ end_list_text image.ends

pub record IsShortImage (image : ImageView) : Type 0 where
  pub processes : length image.processes < 256
  pub each : All IsShortProcess image.processes
  pub ends : length image.ends < 256 ^ 2

pub record ImageHasItems (image : ImageView) : Type 0 where
  pub processes : All HasItems image.processes
  pub ends : All EndHasItems image.ends

-- ---- records

abbrev pub participants_text : List ℕ → List ℕ
participants_text participants = flat_map (number_text 1) participants

abbrev pub decision_text : DecisionView → List ℕ
decision_text d =
    number_text 8 d.number ++ (number_text 1 (length d.participants) ++ participants_text d.participants)

abbrev pub decisions_text : List DecisionView → List ℕ
decisions_text ds = number_text 1 (length ds) ++ flat_map decision_text ds

abbrev pub IsShortDecision : DecisionView → Type 0
IsShortDecision d = length d.participants < 256

-- few decisions, each of few nodes
pub record AreShortDecisions (decisions : List DecisionView) : Type 0 where
  pub few : length decisions < 256
  pub each : All IsShortDecision decisions

abbrev pub tentative_text : Option Tentative → List ℕ
tentative_text None = number_text 1 0
tentative_text (Some t) =
    number_text 1 1 ++ (number_text 1 t.initiator ++ (number_text 8 t.number ++ image_text t.image))

-- whose a tentative image is
abbrev pub instance_text : ℕ → ℕ → List ℕ
instance_text initiator number = number_text 1 initiator ++ number_text 8 number

abbrev pub held_text : Option Tentative → List ℕ
held_text None = number_text 1 0
held_text (Some t) = number_text 1 1 ++ instance_text t.initiator t.number

-- the slot of the permanent image, and whose tentative one is in the other
abbrev pub slots_text : ℕ → RecordView → List ℕ
slots_text slot kept = number_text 1 slot ++ held_text kept.tentative

abbrev pub IsShortTentative : Option Tentative → Type 0
IsShortTentative None = Unit {0}
IsShortTentative (Some t) = IsShortImage t.image

abbrev pub TentativeHasItems : Option Tentative → Type 0
TentativeHasItems None = Unit {0}
TentativeHasItems (Some t) = ImageHasItems t.image

abbrev pub highest_text : List ℕ → List ℕ
highest_text highest = flat_map (number_text 8) highest

abbrev pub head_text : ℕ → RecordView → List ℕ
head_text version kept =
    number_text 1 version
    ++ (number_text 1 kept.node
    ++ (number_text 8 kept.epoch ++ (number_text 1 (length kept.highest) ++ highest_text kept.highest)))

-- what a record and its header have both
abbrev pub front_text : ℕ → RecordView → List ℕ
front_text version kept = head_text version kept ++ decisions_text kept.decisions

abbrev pub spelling : ℕ → RecordView → List ℕ
spelling version kept =
    head_text version kept
    ++ (decisions_text kept.decisions ++ (image_text kept.permanent ++ tentative_text kept.tentative))

-- a header, with the permanent image in this slot
abbrev pub header_spelling : ℕ → ℕ → RecordView → List ℕ
header_spelling version slot kept = front_text version kept ++ slots_text slot kept

-- a record's numbers up to its decisions can be written in their bytes
pub record IsShortFront (kept : RecordView) : Type 0 where
  pub nodes : length kept.highest < 256
  pub decisions : AreShortDecisions kept.decisions

-- a record whose numbers can be written in their bytes
pub record IsShortRecord (kept : RecordView) : Type 0 where
  pub nodes : length kept.highest < 256
  pub decisions : AreShortDecisions kept.decisions
  pub permanent : IsShortImage kept.permanent
  pub tentative : IsShortTentative kept.tentative

pub record RecordHasItems (kept : RecordView) : Type 0 where
  pub permanent : ImageHasItems kept.permanent
  pub tentative : TentativeHasItems kept.tentative
