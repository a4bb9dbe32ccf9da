-- Reading from the front: what is read and what is left, or the first offence.
use Rattle.std.specs.Prelude.{◌≡◌, ℕ, zero, suc, ◌+◌, ◌==◌, ◌&&◌, Bool, nat_le, nat_lt, not, if◌then◌else◌, ℤ, List, []}
use Rattle.std.specs.Prelude.{◌∷◌, length, drop, slice_get, slice_index, Option, Some, None, Result, Ok, Err}
use Rattle.std.specs.Int.{w64, cast_signed}
use Rattle.byteorder.specs.Endian.{big_number}
use Rattle.kahn_net.specs.Common.{Point, point_at}
use Rattle.record.specs.Common.{Standing, NotBegun, At, Done, MAX_COUNT, MAX_NODES, MAX_PROCESSES, MAX_CHANNELS}
use Rattle.record.specs.Common.{MAX_TIMES, MAX_REPEATS, MAX_VARIABLES, LogState, MAX_LOG_ITEMS, DecisionView}
use Rattle.record.specs.Common.{SavedProcessView, ImageView, RecordView}
use Rattle.record.specs.declared.image.SavedEnd.{SavedEnd}
use Rattle.record.specs.declared.image.End.{End}
use Rattle.record.specs.declared.image.End.TheVariants.{Receives, Sends, Both}
use Rattle.record.specs.declared.record.Tentative.{Tentative}
use Rattle.ckpt_codec.specs.HeaderView.{HeaderView}
use Rattle.ckpt_codec.specs.declared.header.Instance.{Instance}
use Rattle.ckpt_codec.specs.RecordText.{wanted, variables_of, role_of, processes_in, ends_in, most_decisions}
use Rattle.ckpt_codec.specs.RecordText.{version_field}
use Rattle.ckpt_codec.specs.declared.fault.CodecFault.{CodecFault}
use Rattle.ckpt_codec.specs.declared.fault.CodecFault.TheVariants.{NoMemory, Truncated, Version, Malformed}

infixl 10 ◌>>=◌
abbrev pub ◌>>=◌ : {A B : Type 0} → Result A CodecFault → (A → Result B CodecFault) → Result B CodecFault
(Ok x) >>= f = f x
(Err fault) >>= f = Err fault

-- what was read, with what is left behind it
abbrev pub Found : Type 0 → Type 0
Found A = Result (A × List ℕ) CodecFault

abbrev pub Reader : Type 0 → Type 0
Reader A = List ℕ → Found A

-- ---- numbers

-- the number in so many bytes
unfoldable pub number_at : ℕ → Reader ℕ
number_at width bytes =
    if nat_lt (length bytes) width then Err Truncated else Ok (big_number width bytes, drop width bytes)

-- what passes a test
abbrev pub if_passes : (ℕ → Bool) → Found ℕ → Found ℕ
if_passes allows (Ok x) = if allows x.0 then Ok x else Err Malformed
if_passes allows (Err fault) = Err fault

-- a number in so many bytes that passes a test
abbrev pub field_at : ℕ → (ℕ → Bool) → Reader ℕ
field_at width allows bytes = if_passes allows (number_at width bytes)

-- what is allowed where one number is wanted, or none in particular
abbrev pub wanted_test : Option ℕ → (ℕ → Bool) → ℕ → Bool
wanted_test None allows v = allows v
wanted_test (Some n) allows v = v == n

unfoldable pub item_at : Reader ℤ
item_at bytes =
    if nat_lt (length bytes) 8 then Err Truncated else Ok (cast_signed w64 (big_number 8 bytes), drop 8 bytes)

abbrev pub count_at : Reader ℕ
count_at = field_at 8 (λ v. nat_le v MAX_COUNT)

-- whether a part follows
abbrev pub flag_at : Reader Bool
flag_at bytes = field_at 1 (λ v. nat_le v 1) bytes >>= λ x. Ok (x.0 == 1, x.1)

-- a part that may be left out
abbrev pub optional : {A : Type 0} → Reader A → Reader (Option A)
optional read bytes =
    flag_at bytes >>= λ there. if there.0 then (read there.1 >>= λ x. Ok (Some x.0, x.1)) else Ok (None, there.1)

-- so many in turn, each by what the ones before it leave to it
unfoldable pub so_many : {S X : Type 0} → (S → Reader X) → (S → X → S) → ℕ → S → Reader (List X)
so_many each next zero s bytes = Ok ([], bytes)
so_many each next (suc n) s bytes =
    each s bytes >>= λ x. so_many each next n (next s x.0) x.1 >>= λ others. Ok (x.0 ∷ others.0, others.1)

-- each the same way
abbrev pub each_as : {X : Type 0} → Reader X → Unit {0} → Reader X
each_as read s = read

abbrev pub unchanged : {X : Type 0} → Unit {0} → X → Unit {0}
unchanged s x = s

-- ---- the head and the decisions

unfoldable pub entries_at : ℕ → Reader (List ℕ)
entries_at n = so_many (each_as count_at) unchanged n tt

abbrev pub nodes_at : ℕ → Reader ℕ
nodes_at node = field_at 1 (λ v. nat_lt node v && nat_le v MAX_NODES)

unfoldable pub highest_at : ℕ → Reader (List ℕ)
highest_at node bytes = nodes_at node bytes >>= λ n. entries_at n.0 n.1

abbrev pub participant_at : ℕ → ℕ → ℕ → Reader ℕ
participant_at node nodes least = field_at 1 (λ v. nat_le least v && (nat_lt v nodes && not (v == node)))

abbrev pub past_participant : ℕ → ℕ → ℕ
past_participant least p = p + 1

unfoldable pub participants_at : ℕ → ℕ → ℕ → Reader (List ℕ)
participants_at node nodes n = so_many (participant_at node nodes) past_participant n 0

abbrev pub decided_number_at : ℕ → ℕ → Reader ℕ
decided_number_at own least = field_at 8 (λ v. nat_le least v && nat_lt v (suc own))

abbrev pub participant_count_at : Reader ℕ
participant_count_at = field_at 1 (λ v. nat_le 1 v)

unfoldable pub participant_list_at : ℕ → ℕ → Reader (List ℕ)
participant_list_at node nodes bytes = participant_count_at bytes >>= λ n. participants_at node nodes n.0 n.1

-- a decision with at least this number
unfoldable pub decided_at : ℕ → ℕ → ℕ → ℕ → Reader DecisionView
decided_at node nodes own least bytes =
    decided_number_at own least bytes >>= λ number. participant_list_at node nodes number.1 >>= λ ps. Ok
    (record { number = number.0; participants = ps.0 }, ps.1)

abbrev pub past_decision : ℕ → DecisionView → ℕ
past_decision least d = d.number + 1

unfoldable pub decided_so_many : ℕ → ℕ → ℕ → ℕ → Reader (List DecisionView)
decided_so_many node nodes own n = so_many (decided_at node nodes own) past_decision n 1

abbrev pub decision_count_at : ℕ → Reader ℕ
decision_count_at most = field_at 1 (λ v. nat_le v most)

-- decisions, at most so many
unfoldable pub decisions_at : ℕ → ℕ → ℕ → ℕ → Reader (List DecisionView)
decisions_at most node nodes own bytes =
    decision_count_at most bytes >>= λ n. decided_so_many node nodes own n.0 n.1

-- ---- processes

unfoldable pub items_at : ℕ → Reader (List ℤ)
items_at n = so_many (each_as item_at) unchanged n tt

abbrev pub depth_at : Reader ℕ
depth_at = field_at 1 (λ v. nat_le v MAX_REPEATS)

abbrev pub pass_at : Reader ℕ
pass_at = field_at 2 (λ v. nat_le 1 v && nat_lt v (suc MAX_TIMES))

unfoldable pub so_many_passes_at : ℕ → Reader (List ℕ)
so_many_passes_at n = so_many (each_as pass_at) unchanged n tt

-- the passes that remain of the repetitions round a site
unfoldable pub passes_at : Reader (List ℕ)
passes_at bytes = depth_at bytes >>= λ depth. so_many_passes_at depth.0 depth.1

-- a process's site, and the passes that remain there
unfoldable pub place_at : Reader Point
place_at bytes = number_at 4 bytes >>= λ site. passes_at site.1 >>= λ left. Ok (point_at site.0 left.0, left.1)

-- where a process stands, without its variables
pub data Footing : Type 0 where
  BeforeAll : Footing
  AtPoint : (point : Point) → Footing
  PastAll : Footing

abbrev pub standing_on : Footing → List ℤ → Standing
standing_on BeforeAll vars = NotBegun vars
standing_on (AtPoint point) vars = At point vars
standing_on PastAll vars = Done vars

-- what follows a mode
abbrev pub footing_in : ℕ → Reader Footing
footing_in mode bytes =
    if mode == 0 then Ok (BeforeAll, bytes) else if mode == 1 then (place_at bytes >>= λ p. Ok (AtPoint p.0, p.1)) else
    Ok (PastAll, bytes)

abbrev pub mode_number_at : Reader ℕ
mode_number_at = field_at 1 (λ v. nat_le v 2)

unfoldable pub footing_at : Reader Footing
footing_at bytes = mode_number_at bytes >>= λ mode. footing_in mode.0 mode.1

unfoldable pub mode_at : Reader (List ℤ → Standing)
mode_at bytes = footing_at bytes >>= λ x. Ok (standing_on x.0, x.1)

abbrev pub variable_count_at : Option ℕ → Reader ℕ
variable_count_at like = field_at 1 (wanted_test like (λ v. nat_le v MAX_VARIABLES))

unfoldable pub variables_at : Option ℕ → Reader (List ℤ)
variables_at like bytes = variable_count_at like bytes >>= λ n. items_at n.0 n.1

unfoldable pub state_at : Option ℕ → Reader Standing
state_at like bytes = mode_at bytes >>= λ mode. variables_at like mode.1 >>= λ vars. Ok (mode.0 vars.0, vars.1)

abbrev pub process_number_at : Option ℕ → ℕ → Reader ℕ
process_number_at like least = field_at 1 (wanted_test like (λ v. nat_le least v && nat_lt v MAX_PROCESSES))

unfoldable pub process_at : Option ℕ → Option ℕ → ℕ → Reader SavedProcessView
process_at number variables least bytes =
    process_number_at number least bytes >>= λ x. state_at variables x.1 >>= λ state. Ok
    (record { number = x.0; standing = state.0 }, state.1)

-- the element at this place, where there is a list
abbrev pub nth : {A : Type 0} → Option (List A) → ℕ → Option A
nth None place = None
nth (Some xs) place = slice_get xs place

abbrev pub number_wanted : Option (List SavedProcessView) → ℕ → Option ℕ
number_wanted like place = wanted (λ (p : SavedProcessView). p.number) (nth like place)

abbrev pub variables_wanted : Option (List SavedProcessView) → ℕ → Option ℕ
variables_wanted like place = wanted (λ (p : SavedProcessView). length (variables_of p.standing)) (nth like place)

-- so many processes, like these: the place of the next one, and the least number that it may have
abbrev pub process_like : Option (List SavedProcessView) → ℕ × ℕ → Reader SavedProcessView
process_like like s = process_at (number_wanted like s.0) (variables_wanted like s.0) s.1

abbrev pub past_process : ℕ × ℕ → SavedProcessView → ℕ × ℕ
past_process s p = (s.0 + 1, p.number + 1)

unfoldable pub processes_at : Option (List SavedProcessView) → ℕ → Reader (List SavedProcessView)
processes_at like n = so_many (process_like like) past_process n (0, 0)

abbrev pub process_count_at : Option ℕ → Reader ℕ
process_count_at like = field_at 1 (wanted_test like (λ v. nat_le v MAX_PROCESSES))

unfoldable pub process_list_at : Option ImageView → Reader (List SavedProcessView)
process_list_at like bytes =
    process_count_at (wanted (λ (i : ImageView). length i.processes) like) bytes >>= λ n. processes_at
    (processes_in like) n.0 n.1

-- ---- ends

abbrev pub base_at : ℕ → Reader ℕ
base_at limit = field_at 8 (λ v. nat_le v limit)

abbrev pub retained_at : ℕ → ℕ → Reader ℕ
retained_at base from =
    field_at 4 (λ v. nat_le v MAX_LOG_ITEMS && (nat_le (base + v) MAX_COUNT && nat_le from (base + v)))

-- the items from this base on
unfoldable pub retained_items_at : ℕ → ℕ → Reader (List ℤ)
retained_items_at base from bytes = retained_at base from bytes >>= λ n. items_at n.0 n.1

-- a log whose base is at most this, and whose end is at least that
unfoldable pub log_at : ℕ → ℕ → Reader LogState
log_at limit from bytes =
    base_at limit bytes >>= λ base. retained_items_at base.0 from base.1 >>= λ items. Ok
    (record { base = base.0; items = items.0 }, items.1)

-- an end of this role
unfoldable pub end_at : ℕ → Reader End
end_at role bytes =
    if role == 0 then (count_at bytes >>= λ received. Ok (Receives received.0, received.1))
    else if role == 1 then (log_at MAX_COUNT 0 bytes >>= λ log. Ok (Sends log.0, log.1))
    else (count_at bytes >>= λ received. log_at received.0 received.0 received.1 >>= λ log. Ok
    (Both received.0 log.0, log.1))

abbrev pub role_at : Option ℕ → Reader ℕ
role_at like = field_at 1 (wanted_test like (λ v. nat_le v 2))

unfoldable pub role_end_at : Option ℕ → Reader End
role_end_at like bytes = role_at like bytes >>= λ role. end_at role.0 role.1

abbrev pub channel_at : Option ℕ → ℕ → Reader ℕ
channel_at like least = field_at 2 (wanted_test like (λ v. nat_le least v && nat_lt v MAX_CHANNELS))

unfoldable pub saved_end_at : Option ℕ → Option ℕ → ℕ → Reader SavedEnd
saved_end_at channel role least bytes =
    channel_at channel least bytes >>= λ x. role_end_at role x.1 >>= λ end. Ok
    (record { channel = x.0; end = end.0 }, end.1)

abbrev pub channel_wanted : Option (List SavedEnd) → ℕ → Option ℕ
channel_wanted like place = wanted (λ (e : SavedEnd). e.channel) (nth like place)

abbrev pub role_wanted : Option (List SavedEnd) → ℕ → Option ℕ
role_wanted like place = wanted (λ (e : SavedEnd). role_of e.end) (nth like place)

abbrev pub end_like : Option (List SavedEnd) → ℕ × ℕ → Reader SavedEnd
end_like like s = saved_end_at (channel_wanted like s.0) (role_wanted like s.0) s.1

abbrev pub past_end : ℕ × ℕ → SavedEnd → ℕ × ℕ
past_end s e = (s.0 + 1, e.channel + 1)

unfoldable pub ends_at : Option (List SavedEnd) → ℕ → Reader (List SavedEnd)
ends_at like n = so_many (end_like like) past_end n (0, 0)

abbrev pub end_count_at : Option ℕ → Reader ℕ
end_count_at like = field_at 2 (wanted_test like (λ v. nat_le v MAX_CHANNELS))

unfoldable pub end_list_at : Option ImageView → Reader (List SavedEnd)
end_list_at like bytes =
    end_count_at (wanted (λ (i : ImageView). length i.ends) like) bytes >>= λ n. ends_at (ends_in like) n.0 n.1

-- ---- images and the whole

unfoldable pub image_at : Option ImageView → Reader ImageView
image_at like bytes =
    process_list_at like bytes >>= λ ps. end_list_at like ps.1 >>= λ es. Ok
    (record { processes = ps.0; ends = es.0 }, es.1)

abbrev pub initiator_at : List ℕ → Reader ℕ
initiator_at highest = field_at 1 (λ v. nat_lt v (length highest))

abbrev pub tentative_number_at : ℕ → Reader ℕ
tentative_number_at entry = field_at 8 (λ v. nat_le 1 v && (v == entry))

-- whose checkpoint a tentative image is
unfoldable pub instance_at : List ℕ → Reader Instance
instance_at highest bytes =
    initiator_at highest bytes >>= λ initiator. tentative_number_at (slice_index highest initiator.0) initiator.1 >>=
    λ number. Ok (record { initiator = initiator.0; number = number.0 }, number.1)

unfoldable pub pending_at : List ℕ → ImageView → Reader Tentative
pending_at highest permanent bytes =
    instance_at highest bytes >>= λ x. image_at (Some permanent) x.1 >>= λ image. Ok
    (record { initiator = x.0.initiator; number = x.0.number; image = image.0 }, image.1)

unfoldable pub tentative_at : List ℕ → ImageView → Reader (Option Tentative)
tentative_at highest permanent bytes = optional (pending_at highest permanent) bytes

-- node, epoch and the highest numbers
pub record Head : Type 0 where
  pub node : ℕ
  pub epoch : ℕ
  pub highest : List ℕ

-- the epoch and the highest numbers
unfoldable pub numbers_at : ℕ → Reader (ℕ × List ℕ)
numbers_at node bytes =
    count_at bytes >>= λ epoch. highest_at node epoch.1 >>= λ highest. Ok ((epoch.0, highest.0), highest.1)

unfoldable pub head_at : Reader Head
head_at bytes =
    number_at 1 bytes >>= λ node. numbers_at node.0 node.1 >>= λ x. Ok
    (record { node = node.0; epoch = x.0.0; highest = x.0.1 }, x.1)

-- what a record and its header have both: the head and the decisions
pub record Front : Type 0 where
  pub node : ℕ
  pub epoch : ℕ
  pub highest : List ℕ
  pub decisions : List DecisionView

-- with at most so many decisions
unfoldable pub front_at : ℕ → Reader Front
front_at most bytes =
    head_at bytes >>= λ head.
    decisions_at most head.0.node (length head.0.highest) (slice_index head.0.highest head.0.node) head.1 >>= λ ds. Ok
    (record { node = head.0.node; epoch = head.0.epoch; highest = head.0.highest; decisions = ds.0 }, ds.1)

-- the two images
unfoldable pub images_at : List ℕ → Reader (ImageView × Option Tentative)
images_at highest bytes =
    image_at None bytes >>= λ permanent. tentative_at highest permanent.0 permanent.1 >>= λ tentative. Ok
    ((permanent.0, tentative.0), tentative.1)

-- a record of its front and its images
abbrev pub record_of : Front → ImageView × Option Tentative → RecordView
record_of front images =
    record {
      node = front.node;
      epoch = front.epoch;
      highest = front.highest;
      decisions = front.decisions;
      permanent = images.0;
      tentative = images.1;
    }

-- what follows the version
unfoldable pub body_at : ℕ → Reader RecordView
body_at version bytes =
    front_at (most_decisions version) bytes >>= λ front. images_at front.0.highest front.1 >>= λ images.
    Ok (record_of front.0 images.0, images.1)

-- ---- a header

abbrev pub slot_at : Reader ℕ
slot_at = field_at 1 (λ v. nat_le v 1)

unfoldable pub held_at : List ℕ → Reader (Option Instance)
held_at highest bytes = optional (instance_at highest) bytes

-- the permanent image's slot, and whose tentative image is in the other
unfoldable pub slots_at : List ℕ → Reader (ℕ × Option Instance)
slots_at highest bytes =
    slot_at bytes >>= λ slot. held_at highest slot.1 >>= λ held. Ok ((slot.0, held.0), held.1)

-- a header of its front and the slots
abbrev pub header_with : Front → ℕ × Option Instance → HeaderView
header_with front slots =
    record {
      node = front.node;
      epoch = front.epoch;
      highest = front.highest;
      decisions = front.decisions;
      slot = slots.0;
      tentative = slots.1;
    }

-- what follows the version
unfoldable pub header_body_at : ℕ → Reader HeaderView
header_body_at version bytes =
    front_at (most_decisions version) bytes >>= λ front. slots_at front.0.highest front.1 >>= λ slots.
    Ok (header_with front.0 slots.0, slots.1)

-- ---- the whole

-- what takes all the bytes
abbrev pub if_all : {A : Type 0} → Found A → Result A CodecFault
if_all (Ok x) = if length x.1 == 0 then Ok x.0 else Err Malformed
if_all (Err fault) = Err fault

-- the version that comes first
unfoldable pub version_at : Reader ℕ
version_at [] = Err Truncated
version_at (version ∷ rest) = if (version_field version).allows version then Ok (version, rest) else Err Version

-- what takes all the bytes behind a version
abbrev pub versioned : {A : Type 0} → (ℕ → Reader A) → List ℕ → Result A CodecFault
versioned read bytes = version_at bytes >>= λ v. if_all (read v.0 v.1)

-- the record that takes all the bytes
unfoldable pub whole_at : List ℕ → Result RecordView CodecFault
whole_at bytes = versioned body_at bytes

-- the header that does
unfoldable pub header_at : List ℕ → Result HeaderView CodecFault
header_at bytes = versioned header_body_at bytes

-- and the image, beside that one where there is one
unfoldable pub whole_image_at : Option ImageView → List ℕ → Result ImageView CodecFault
whole_image_at like bytes = if_all (image_at like bytes)

-- what a function returned, seen by view, is what is read, unless memory ran out
abbrev pub Fails : {Y : Type 0} → CodecFault → Result Y CodecFault → Type 0
Fails NoMemory read = Unit {0}
Fails Truncated read = read ≡ Err Truncated
Fails Version read = read ≡ Err Version
Fails Malformed read = read ≡ Err Malformed

abbrev pub Reads : {X Y : Type 0} → (X → Y) → Result X CodecFault → Result Y CodecFault → Type 0
Reads view (Ok x) read = read ≡ Ok (view x)
Reads view (Err fault) read = Fails fault read
