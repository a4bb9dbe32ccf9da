-- The grammar of records: the fields of a record in their order, and the bytes that they make. What may stand in a
-- field depends on the fields before it alone.
use Rattle.std.specs.Prelude.{◌≡◌, ℕ, suc, ◌+◌, true, ◌==◌, ◌&&◌, not, nat_lt, nat_le, if◌then◌else◌, ℤ, List, [], ◌∷◌}
use Rattle.std.specs.Prelude.{◌++◌, length, map, Option, Some, None, slice_index, All, FitsSigned}
use Rattle.std.specs.List.{flat_map}
use Rattle.std.specs.Int.{w64, cast_unsigned, int_wrap}
use Rattle.record.specs.Common.{Standing, NotBegun, At, Done, MAX_COUNT, MAX_NODES, MAX_PROCESSES, MAX_CHANNELS}
use Rattle.record.specs.Common.{MAX_TIMES, MAX_REPEATS, MAX_VARIABLES, MAX_LOG_ITEMS, DecisionView, SavedProcessView}
use Rattle.record.specs.Common.{ImageView, RecordView}
use Rattle.record.specs.declared.record.TheConstants.{MAX_DECISIONS}
use Rattle.ckpt_codec.specs.declared.version.TheConstants.{FIRST_VERSION, VERSION}
use Rattle.record.specs.declared.image.SavedEnd.{SavedEnd}
use Rattle.record.specs.declared.image.End.{End}
use Rattle.record.specs.declared.image.End.TheVariants.{Receives, Sends, Both}
use Rattle.record.specs.declared.record.Tentative.{Tentative}
use Rattle.ckpt_codec.specs.Fields.{Field, AreAllowed, text_of}

-- ---- fields of one kind

-- any number of so many bytes
abbrev pub any : ℕ → ℕ → Field
any width n = record { width = width; allows = λ v. true; value = n }

-- a number that is at most this one
abbrev pub at_most : ℕ → ℕ → ℕ → Field
at_most width limit n = record { width = width; allows = λ v. nat_le v limit; value = n }

-- exactly this number
abbrev pub exactly : ℕ → ℕ → ℕ → Field
exactly width wanted n = record { width = width; allows = λ v. v == wanted; value = n }

-- a count, a position or an epoch
abbrev pub count : ℕ → Field
count n = at_most 8 MAX_COUNT n

-- an item or a variable, in two's complement modulo 2^64
abbrev pub item : ℤ → Field
item v = any 8 (cast_unsigned w64 (int_wrap w64 v))

-- 0 where a part is left out, and 1 where it follows
abbrev pub flag : ℕ → Field
flag n = at_most 1 1 n

-- a number that is at least this one, and below that one
abbrev pub between : ℕ → ℕ → ℕ → ℕ → Field
between width least limit n = record { width = width; allows = λ v. nat_le least v && nat_lt v limit; value = n }

-- what this test allows, but exactly this number where one is wanted
abbrev pub wanted_or : Option ℕ → Field → Field
wanted_or None field = field
wanted_or (Some n) field = exactly field.width n field.value

-- ---- the decisions

-- the versions of a spelling: in the first a record has one decision at most, in the second `MAX_DECISIONS`
abbrev pub version_field : ℕ → Field
version_field version = between 1 FIRST_VERSION (suc VERSION) version

abbrev pub most_decisions : ℕ → ℕ
most_decisions version = if version == FIRST_VERSION then 1 else MAX_DECISIONS

-- the nodes of a decision, ascending from the least that is left: below so many, and not this node
abbrev pub participants : ℕ → ℕ → ℕ → List ℕ → List Field
participants node nodes least [] = []
participants node nodes least (p ∷ ps) =
    record { width = 1; allows = λ v. nat_le least v && (nat_lt v nodes && not (v == node)); value = p }
    ∷ participants node nodes (suc p) ps

-- a decision of a node of so many, whose own entry is this; it has at least this number
abbrev pub decision_fields : ℕ → ℕ → ℕ → ℕ → DecisionView → List Field
decision_fields node nodes own least d =
    between 8 least (suc own) d.number
    ∷ record { width = 1; allows = λ v. nat_le 1 v; value = length d.participants }
    ∷ participants node nodes 0 d.participants

-- decisions by ascending numbers, from the least that is left on
abbrev pub each_decision_fields : ℕ → ℕ → ℕ → ℕ → List DecisionView → List Field
each_decision_fields node nodes own least [] = []
each_decision_fields node nodes own least (d ∷ ds) =
    decision_fields node nodes own least d ++ each_decision_fields node nodes own (suc d.number) ds

-- at most so many of them
abbrev pub decisions_fields : ℕ → ℕ → ℕ → ℕ → List DecisionView → List Field
decisions_fields most node nodes own ds =
    at_most 1 most (length ds) ∷ each_decision_fields node nodes own 1 ds

-- ---- an image; a second one has the processes, the numbers of variables and the channels' roles of the first

-- the image that this one has to be like, or none: its parts in turn
abbrev pub first_of : {A : Type 0} → Option (List A) → Option A
first_of None = None
first_of (Some []) = None
first_of (Some (x ∷ xs)) = Some x

abbrev pub rest_of : {A : Type 0} → Option (List A) → Option (List A)
rest_of None = None
rest_of (Some []) = None
rest_of (Some (x ∷ xs)) = Some xs

abbrev pub wanted : {A : Type 0} → (A → ℕ) → Option A → Option ℕ
wanted number None = None
wanted number (Some x) = Some (number x)

abbrev pub variables_of : Standing → List ℤ
variables_of (NotBegun vars) = vars
variables_of (At point vars) = vars
variables_of (Done vars) = vars

-- the passes that remain of a repetition
abbrev pub remaining : ℕ → Field
remaining passes = between 2 1 (suc MAX_TIMES) passes

-- the mode, and the place of one that is at a site: how many repetitions stand round it, and the passes that remain of
-- each
abbrev pub mode_fields : Standing → List Field
mode_fields (NotBegun vars) = at_most 1 2 0 ∷ []
mode_fields (At point vars) = at_most 1 2 1 ∷ any 4 point.site ∷ at_most 1 MAX_REPEATS (length point.left)
    ∷ map remaining point.left
mode_fields (Done vars) = at_most 1 2 2 ∷ []

-- a process, which has at least this number, as this one of the first image
abbrev pub process_fields : Option SavedProcessView → ℕ → SavedProcessView → List Field
process_fields like least process =
    wanted_or (wanted (λ (p : SavedProcessView). p.number) like) (between 1 least MAX_PROCESSES process.number)
    ∷ (mode_fields process.standing
    ++ (wanted_or (wanted (λ (p : SavedProcessView). length (variables_of p.standing)) like)
    (at_most 1 MAX_VARIABLES (length (variables_of process.standing)))
    ∷ map item (variables_of process.standing)))

abbrev pub processes_fields : Option (List SavedProcessView) → ℕ → List SavedProcessView → List Field
processes_fields like least [] = []
processes_fields like least (p ∷ ps) =
    process_fields (first_of like) least p ++ processes_fields (rest_of like) (suc p.number) ps

abbrev pub role_of : End → ℕ
role_of (Receives received) = 0
role_of (Sends log) = 1
role_of (Both received log) = 2

-- how many items are retained from this base on, at least up to this position
abbrev pub retained_count : ℕ → ℕ → ℕ → Field
retained_count base from n =
    record {
      width = 4;
      allows =
          λ v. nat_le v MAX_LOG_ITEMS && (nat_le (base + v) MAX_COUNT && nat_le from (base + v));
      value = n;
    }

abbrev pub end_fields : End → List Field
end_fields (Receives received) = count received ∷ []
end_fields (Sends log) = count log.base ∷ retained_count log.base 0 (length log.items) ∷ map item log.items
end_fields (Both received log) =
    count received ∷ at_most 8 received log.base ∷ retained_count log.base received (length log.items)
    ∷ map item log.items

-- an end of a channel, which has at least this number, as this one of the first image
abbrev pub saved_end_fields : Option SavedEnd → ℕ → SavedEnd → List Field
saved_end_fields like least saved =
    wanted_or (wanted (λ (e : SavedEnd). e.channel) like) (between 2 least MAX_CHANNELS saved.channel)
    ∷ wanted_or (wanted (λ (e : SavedEnd). role_of e.end) like) (at_most 1 2 (role_of saved.end))
    ∷ end_fields saved.end

abbrev pub ends_fields : Option (List SavedEnd) → ℕ → List SavedEnd → List Field
ends_fields like least [] = []
ends_fields like least (e ∷ es) =
    saved_end_fields (first_of like) least e ++ ends_fields (rest_of like) (suc e.channel) es

abbrev pub processes_in : Option ImageView → Option (List SavedProcessView)
processes_in None = None
processes_in (Some image) = Some image.processes

abbrev pub ends_in : Option ImageView → Option (List SavedEnd)
ends_in None = None
ends_in (Some image) = Some image.ends

-- an image like this one, where there is one
abbrev pub image_fields : Option ImageView → ImageView → List Field
image_fields like image =
    (wanted_or (wanted (λ (i : ImageView). length i.processes) like) (at_most 1 MAX_PROCESSES (length image.processes))
    ∷ processes_fields (processes_in like) 0 image.processes)
    ++ (wanted_or (wanted (λ (i : ImageView). length i.ends) like) (at_most 2 MAX_CHANNELS (length image.ends))
    ∷ ends_fields (ends_in like) 0 image.ends)

-- ---- a record

-- the tentative image of a record with these entries and this permanent image
abbrev pub tentative_fields : List ℕ → ImageView → Option Tentative → List Field
tentative_fields highest permanent None = flag 0 ∷ []
tentative_fields highest permanent (Some t) =
    flag 1 ∷ record { width = 1; allows = λ v. nat_lt v (length highest); value = t.initiator }
    ∷ record { width = 8; allows = λ v. nat_le 1 v && (v == slice_index highest t.initiator); value = t.number }
    ∷ image_fields (Some permanent) t.image

-- version, node, epoch and how many nodes there are; a node that isn't one of them is found there
abbrev pub first_fields : ℕ → ℕ → ℕ → ℕ → List Field
first_fields version node epoch nodes =
    version_field version ∷ any 1 node ∷ count epoch
    ∷ record { width = 1; allows = λ v. nat_lt node v && nat_le v MAX_NODES; value = nodes } ∷ []

abbrev pub head_fields : ℕ → RecordView → List Field
head_fields version kept = first_fields version kept.node kept.epoch (length kept.highest)

abbrev pub record_fields : ℕ → RecordView → List Field
record_fields version kept =
    head_fields version kept ++ (map count kept.highest
    ++ (decisions_fields (most_decisions version) kept.node (length kept.highest)
    (slice_index kept.highest kept.node) kept.decisions
    ++ (image_fields None kept.permanent ++ tentative_fields kept.highest kept.permanent kept.tentative)))

-- a record that can be written, in the version in which records are: each of its fields may stand where it does
abbrev pub IsRecord : RecordView → Type 0
IsRecord kept = AreAllowed (record_fields VERSION kept)

-- the variables and items of a record, which are of 64 bits with a sign
abbrev pub items_of_end : End → List ℤ
items_of_end (Receives received) = []
items_of_end (Sends log) = log.items
items_of_end (Both received log) = log.items

abbrev pub items_of_image : ImageView → List ℤ
items_of_image image =
    flat_map (λ (p : SavedProcessView). variables_of p.standing) image.processes
    ++ flat_map (λ (e : SavedEnd). items_of_end e.end) image.ends

abbrev pub items_of_tentative : Option Tentative → List ℤ
items_of_tentative None = []
items_of_tentative (Some t) = items_of_image t.image

abbrev pub items_of_record : RecordView → List ℤ
items_of_record kept = items_of_image kept.permanent ++ items_of_tentative kept.tentative

-- the one spelling of a record in this version
abbrev pub record_text : ℕ → RecordView → List ℕ
record_text version kept = text_of (record_fields version kept)

-- the bytes spell this record in this version
pub record IsTextIn (version : ℕ) (kept : RecordView) (bytes : List ℕ) : Type 0 where
  pub allowed : AreAllowed (record_fields version kept)
  pub items : All (FitsSigned w64) (items_of_record kept)
  pub spelled : bytes ≡ record_text version kept

-- the version that bytes tell first; there is none of 0
abbrev pub version_of : List ℕ → ℕ
version_of [] = 0
version_of (version ∷ rest) = version

-- the bytes spell this record, in the version that they tell
pub record IsRecordText (kept : RecordView) (bytes : List ℕ) : Type 0 where
  pub text : IsTextIn (version_of bytes) kept bytes
