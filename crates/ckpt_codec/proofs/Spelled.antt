-- The fields of a record spell it, and where they may stand its numbers can be written.
use Rattle.std.proofs.Common.{◌≡◌, ℕ, suc, ◌^◌, ◌<◌, ℤ, List, [], ◌∷◌, ◌++◌, length, map, slice_index, Option, Some}
use Rattle.std.proofs.Common.{None, refl, sym, ap, ◌∙◌, append_assoc, arith, ◌≤◌}
use Rattle.std.proofs.lemmas.Bool.{le-leb}
use Rattle.std.specs.Prelude.{FitsSigned}
use Rattle.std.specs.List.{flat_map, AllByRecursion}
use Rattle.std.specs.Int.{w64}
use Rattle.std.proofs.lemmas.List.{append-nil}
use Rattle.std.proofs.lemmas.List.Elements.{All-from_recursion, recursion_from_All}
use Rattle.std.proofs.lemmas.List.Concat.{flat_map-cons}
use Rattle.record.specs.Common.{Standing, NotBegun, At, Done, MAX_COUNT, MAX_PROCESSES, MAX_CHANNELS, MAX_VARIABLES}
use Rattle.record.specs.Common.{MAX_REPEATS, LogState, DecisionView, SavedProcessView, ImageView, RecordView}
use Rattle.record.specs.declared.image.SavedEnd.{SavedEnd}
use Rattle.record.specs.declared.image.End.{End}
use Rattle.record.specs.declared.image.End.TheVariants.{Receives, Sends, Both}
use Rattle.record.specs.declared.record.Tentative.{Tentative}
use Rattle.ckpt_codec.specs.Fields.{Field, IsAllowed, AreAllowed, number_text, field_text, text_of}
use Rattle.ckpt_codec.specs.RecordText.{any, at_most, count, item, flag, between, wanted_or, participants}
use Rattle.ckpt_codec.specs.RecordText.{decision_fields, each_decision_fields, decisions_fields, most_decisions, version_field, first_of, rest_of, wanted, variables_of, mode_fields}
use Rattle.ckpt_codec.specs.RecordText.{process_fields, processes_fields, role_of, retained_count, end_fields}
use Rattle.ckpt_codec.specs.RecordText.{saved_end_fields, ends_fields, processes_in, ends_in, image_fields}
use Rattle.ckpt_codec.specs.RecordText.{tentative_fields, head_fields, record_text, IsRecord}
use Rattle.ckpt_codec.specs.RecordText.{items_of_end, IsTextIn}
use Rattle.ckpt_codec.specs.HeaderText.{header_of, instance_of, slot_field, held_fields, header_fields, header_text}
use Rattle.ckpt_codec.specs.HeaderText.{IsImageText, IsImageSpelled}
use Rattle.ckpt_codec.specs.declared.version.TheConstants.{VERSION}
use Rattle.ckpt_codec.specs.Spelling.{item_text, items_text, mode_text, state_text, process_text, HasShortMode}
use Rattle.ckpt_codec.specs.Spelling.{IsShortProcess, HasItems, log_text, end_text, saved_end_text, EndHasItems}
use Rattle.ckpt_codec.specs.Spelling.{process_list_text, end_list_text, image_text, IsShortImage, ImageHasItems}
use Rattle.ckpt_codec.specs.Spelling.{participants_text, decision_text, decisions_text, IsShortDecision, tentative_text}
use Rattle.ckpt_codec.specs.RecordText.{remaining}
use Rattle.ckpt_codec.specs.Spelling.{passes_text}
use Rattle.ckpt_codec.specs.Spelling.{IsShortTentative, TentativeHasItems, highest_text, spelling, IsShortRecord}
use Rattle.ckpt_codec.specs.Spelling.{RecordHasItems, head_text, held_text, slots_text, header_spelling, IsShortFront}
use Rattle.ckpt_codec.proofs.Text.{AllAllowed}
use Rattle.ckpt_codec.proofs.Parts.{nodes_field, participant_field, participant_count, process_count, end_count}
use Rattle.ckpt_codec.proofs.Parts.{IsImage}
use Rattle.ckpt_codec.proofs.Records.{initiator_field, tentative_number, IsTentative}
use Rattle.ckpt_codec.proofs.Items.{kept_items, image_items}

-- ---- texts

text-cons : (field : Field) (fields : List Field) → text_of (field ∷ fields) ≡ field_text field ++ text_of fields
text-cons field fields = flat_map-cons field_text field fields

text-one : (field : Field) → text_of (field ∷ []) ≡ field_text field
text-one field = text-cons field [] ∙ append-nil (field_text field)

pub text-append : (fields others : List Field) → text_of (fields ++ others) ≡ text_of fields ++ text_of others
text-append [] others = refl
text-append (field ∷ fields) others =
    text-cons field (fields ++ others)
    ∙ (ap (λ (t : List ℕ). field_text field ++ t) (text-append fields others)
    ∙ (sym (append_assoc (field_text field) (text_of fields) (text_of others))
    ∙ ap (λ (t : List ℕ). t ++ text_of others) (sym (text-cons field fields))))

-- one behind another
two_texts : (xs ys : List Field) (one two : List ℕ) → text_of xs ≡ one → text_of ys ≡ two
    → text_of (xs ++ ys) ≡ one ++ two
two_texts xs ys one two e d =
    text-append xs ys ∙ (ap (λ (t : List ℕ). t ++ text_of ys) e ∙ ap (λ (t : List ℕ). one ++ t) d)

behind_one : (field : Field) (fields : List Field) (two : List ℕ) → text_of fields ≡ two
    → text_of (field ∷ fields) ≡ field_text field ++ two
behind_one field fields two e = text-cons field fields ∙ ap (λ (t : List ℕ). field_text field ++ t) e

wanted-text : (like : Option ℕ) (field : Field) → field_text (wanted_or like field) ≡ field_text field
wanted-text None field = refl
wanted-text (Some n) field = refl

behind_wanted : (like : Option ℕ) (field : Field) (fields : List Field) (two : List ℕ) → text_of fields ≡ two
    → text_of (wanted_or like field ∷ fields) ≡ field_text field ++ two
behind_wanted like field fields two e =
    behind_one (wanted_or like field) fields two e ∙ ap (λ (t : List ℕ). t ++ two) (wanted-text like field)

items-spelled : (zs : List ℤ) → text_of (map item zs) ≡ items_text zs
unfolding item_text
items-spelled [] = refl
items-spelled (z ∷ zs) =
    behind_one (item z) (map item zs) (items_text zs) (items-spelled zs) ∙ sym (flat_map-cons item_text z zs)

counts-spelled : (ns : List ℕ) → text_of (map count ns) ≡ highest_text ns
counts-spelled [] = refl
counts-spelled (n ∷ ns) =
    behind_one (count n) (map count ns) (highest_text ns) (counts-spelled ns) ∙ sym (flat_map-cons (number_text 8) n ns)

participants-spelled : (node nodes least : ℕ) (ps : List ℕ)
    → text_of (participants node nodes least ps) ≡ participants_text ps
participants-spelled node nodes least [] = refl
participants-spelled node nodes least (p ∷ ps) =
    behind_one (participant_field node nodes least p) (participants node nodes (suc p) ps) (participants_text ps)
    (participants-spelled node nodes (suc p) ps)
    ∙ sym (flat_map-cons (number_text 1) p ps)

decision-spelled : (node nodes own least : ℕ) (d : DecisionView)
    → text_of (decision_fields node nodes own least d) ≡ decision_text d
decision-spelled node nodes own least d =
    behind_one (between 8 least (suc own) d.number)
    (participant_count (length d.participants) ∷ participants node nodes 0 d.participants)
    (number_text 1 (length d.participants) ++ participants_text d.participants)
    (behind_one (participant_count (length d.participants)) (participants node nodes 0 d.participants)
    (participants_text d.participants) (participants-spelled node nodes 0 d.participants))

each_decision-spelled : (node nodes own least : ℕ) (ds : List DecisionView)
    → text_of (each_decision_fields node nodes own least ds) ≡ flat_map decision_text ds
each_decision-spelled node nodes own least [] = refl
each_decision-spelled node nodes own least (d ∷ ds) =
    two_texts (decision_fields node nodes own least d) (each_decision_fields node nodes own (suc d.number) ds)
    (decision_text d) (flat_map decision_text ds) (decision-spelled node nodes own least d)
    (each_decision-spelled node nodes own (suc d.number) ds)
    ∙ sym (flat_map-cons decision_text d ds)

decisions-spelled : (most node nodes own : ℕ) (ds : List DecisionView)
    → text_of (decisions_fields most node nodes own ds) ≡ decisions_text ds
decisions-spelled most node nodes own ds =
    behind_one (at_most 1 most (length ds)) (each_decision_fields node nodes own 1 ds) (flat_map decision_text ds)
    (each_decision-spelled node nodes own 1 ds)

passes-spelled : (left : List ℕ) → text_of (map remaining left) ≡ passes_text left
passes-spelled [] = refl
passes-spelled (k ∷ left) =
    behind_one (remaining k) (map remaining left) (passes_text left) (passes-spelled left)
    ∙ sym (flat_map-cons (number_text 2) k left)

mode-spelled : (standing : Standing) → text_of (mode_fields standing) ≡ mode_text standing
mode-spelled (NotBegun vars) = text-one (at_most 1 2 0)
mode-spelled (At point vars) =
    let depth = at_most 1 MAX_REPEATS (length point.left) in
    behind_one (at_most 1 2 1) (any 4 point.site ∷ depth ∷ map remaining point.left)
    (number_text 4 point.site ++ (number_text 1 (length point.left) ++ passes_text point.left))
    (behind_one (any 4 point.site) (depth ∷ map remaining point.left)
    (number_text 1 (length point.left) ++ passes_text point.left)
    (behind_one depth (map remaining point.left) (passes_text point.left) (passes-spelled point.left)))
mode-spelled (Done vars) = text-one (at_most 1 2 2)

process-spelled : (like : Option SavedProcessView) (least : ℕ) (p : SavedProcessView)
    → text_of (process_fields like least p) ≡ process_text p
process-spelled like least p =
    let vars = variables_of p.standing in
    let like_count = wanted (λ (p : SavedProcessView). length (variables_of p.standing)) like in
    let behind =
    behind_wanted like_count (at_most 1 MAX_VARIABLES (length vars)) (map item vars) (items_text vars)
    (items-spelled vars) in
    let state =
    two_texts (mode_fields p.standing)
    (wanted_or like_count (at_most 1 MAX_VARIABLES (length vars)) ∷ map item vars) (mode_text p.standing)
    (number_text 1 (length vars) ++ items_text vars) (mode-spelled p.standing) behind in
    behind_wanted (wanted (λ (p : SavedProcessView). p.number) like) (between 1 least MAX_PROCESSES p.number)
    (mode_fields p.standing ++ (wanted_or like_count (at_most 1 MAX_VARIABLES (length vars)) ∷ map item vars))
    (state_text p.standing) state

processes-spelled : (like : Option (List SavedProcessView)) (least : ℕ) (ps : List SavedProcessView)
    → text_of (processes_fields like least ps) ≡ flat_map process_text ps
processes-spelled like least [] = refl
processes-spelled like least (p ∷ ps) =
    two_texts (process_fields (first_of like) least p) (processes_fields (rest_of like) (suc p.number) ps)
    (process_text p) (flat_map process_text ps)
    (process-spelled (first_of like) least p) (processes-spelled (rest_of like) (suc p.number) ps)
    ∙ sym (flat_map-cons process_text p ps)

log-spelled : (limit from : ℕ) (log : LogState)
    → text_of (at_most 8 limit log.base ∷ retained_count log.base from (length log.items) ∷ map item log.items)
    ≡ log_text log
log-spelled limit from log =
    behind_one (at_most 8 limit log.base) (retained_count log.base from (length log.items) ∷ map item log.items)
    (number_text 4 (length log.items) ++ items_text log.items)
    (behind_one (retained_count log.base from (length log.items)) (map item log.items) (items_text log.items)
    (items-spelled log.items))

end-spelled : (e : End) → text_of (end_fields e) ≡ end_text e
end-spelled (Receives received) = text-one (count received)
end-spelled (Sends log) = log-spelled MAX_COUNT 0 log
end-spelled (Both received log) =
    behind_one (count received)
    (at_most 8 received log.base ∷ retained_count log.base received (length log.items) ∷ map item log.items)
    (log_text log) (log-spelled received received log)

saved_end-spelled : (like : Option SavedEnd) (least : ℕ) (e : SavedEnd)
    → text_of (saved_end_fields like least e) ≡ saved_end_text e
saved_end-spelled like least e =
    let like_role = wanted (λ (e : SavedEnd). role_of e.end) like in
    behind_wanted (wanted (λ (e : SavedEnd). e.channel) like) (between 2 least MAX_CHANNELS e.channel)
    (wanted_or like_role (at_most 1 2 (role_of e.end)) ∷ end_fields e.end)
    (number_text 1 (role_of e.end) ++ end_text e.end)
    (behind_wanted like_role (at_most 1 2 (role_of e.end)) (end_fields e.end) (end_text e.end) (end-spelled e.end))

ends-spelled : (like : Option (List SavedEnd)) (least : ℕ) (es : List SavedEnd)
    → text_of (ends_fields like least es) ≡ flat_map saved_end_text es
ends-spelled like least [] = refl
ends-spelled like least (e ∷ es) =
    two_texts (saved_end_fields (first_of like) least e) (ends_fields (rest_of like) (suc e.channel) es)
    (saved_end_text e) (flat_map saved_end_text es)
    (saved_end-spelled (first_of like) least e) (ends-spelled (rest_of like) (suc e.channel) es)
    ∙ sym (flat_map-cons saved_end_text e es)

pub image-spelled : (like : Option ImageView) (i : ImageView) → text_of (image_fields like i) ≡ image_text i
image-spelled like i =
    two_texts (process_count like (length i.processes) ∷ processes_fields (processes_in like) 0 i.processes)
    (end_count like (length i.ends) ∷ ends_fields (ends_in like) 0 i.ends)
    (process_list_text i.processes) (end_list_text i.ends)
    (behind_wanted (wanted (λ (i : ImageView). length i.processes) like) (at_most 1 MAX_PROCESSES (length i.processes))
    (processes_fields (processes_in like) 0 i.processes)
    (flat_map process_text i.processes) (processes-spelled (processes_in like) 0 i.processes))
    (behind_wanted (wanted (λ (i : ImageView). length i.ends) like) (at_most 2 MAX_CHANNELS (length i.ends))
    (ends_fields (ends_in like) 0 i.ends)
    (flat_map saved_end_text i.ends) (ends-spelled (ends_in like) 0 i.ends))

tentative-spelled : (highest : List ℕ) (permanent : ImageView) (t : Option Tentative)
    → text_of (tentative_fields highest permanent t) ≡ tentative_text t
tentative-spelled highest permanent None = text-one (flag 0)
tentative-spelled highest permanent (Some t) =
    let entry = slice_index highest t.initiator in
    behind_one (flag 1)
    (initiator_field highest t.initiator ∷ tentative_number entry t.number ∷ image_fields (Some permanent) t.image)
    (number_text 1 t.initiator ++ (number_text 8 t.number ++ image_text t.image))
    (behind_one (initiator_field highest t.initiator)
    (tentative_number entry t.number ∷ image_fields (Some permanent) t.image)
    (number_text 8 t.number ++ image_text t.image)
    (behind_one (tentative_number entry t.number) (image_fields (Some permanent) t.image) (image_text t.image)
    (image-spelled (Some permanent) t.image)))

abbrev decisions_of : ℕ → RecordView → List Field
decisions_of version kept =
    decisions_fields (most_decisions version) kept.node (length kept.highest) (slice_index kept.highest kept.node)
    kept.decisions

-- the fields up to the decisions, which a record and its header have both, and others behind them
abbrev pub front_then : ℕ → RecordView → List Field → List Field
front_then version kept others =
    head_fields version kept ++ (map count kept.highest ++ (decisions_of version kept ++ others))

regrouped : (v n e c h r : List ℕ) → v ++ (n ++ (e ++ (c ++ (h ++ r)))) ≡ (v ++ (n ++ (e ++ (c ++ h)))) ++ r
regrouped v n e c h r = sym (simp append_assoc)

front-spelled : (version : ℕ) (kept : RecordView) (others : List Field) (text : List ℕ) → text_of others ≡ text
    → text_of (front_then version kept others) ≡ head_text version kept ++ (decisions_text kept.decisions ++ text)
front-spelled version kept others text e =
    let rest = map count kept.highest ++ (decisions_of version kept ++ others) in
    let nodes = nodes_field kept.node (length kept.highest) in
    let behind = decisions_text kept.decisions ++ text in
    let all = highest_text kept.highest ++ behind in
    behind_one (version_field version) (any 1 kept.node ∷ count kept.epoch ∷ nodes ∷ rest)
    (number_text 1 kept.node ++ (number_text 8 kept.epoch ++ (number_text 1 (length kept.highest) ++ all)))
    (behind_one (any 1 kept.node) (count kept.epoch ∷ nodes ∷ rest)
    (number_text 8 kept.epoch ++ (number_text 1 (length kept.highest) ++ all))
    (behind_one (count kept.epoch) (nodes ∷ rest) (number_text 1 (length kept.highest) ++ all)
    (behind_one nodes rest all
    (two_texts (map count kept.highest) (decisions_of version kept ++ others) (highest_text kept.highest) behind
    (counts-spelled kept.highest)
    (two_texts (decisions_of version kept) others (decisions_text kept.decisions) text
    (decisions-spelled (most_decisions version) kept.node (length kept.highest)
    (slice_index kept.highest kept.node) kept.decisions) e)))))
    ∙ regrouped (number_text 1 version) (number_text 1 kept.node) (number_text 8 kept.epoch)
    (number_text 1 (length kept.highest)) (highest_text kept.highest) behind

-- the spelling of a record, part by part
pub record-spelled : (version : ℕ) (kept : RecordView) → record_text version kept ≡ spelling version kept
record-spelled version kept =
    front-spelled version kept
    (image_fields None kept.permanent ++ tentative_fields kept.highest kept.permanent kept.tentative)
    (image_text kept.permanent ++ tentative_text kept.tentative)
    (two_texts (image_fields None kept.permanent) (tentative_fields kept.highest kept.permanent kept.tentative)
    (image_text kept.permanent) (tentative_text kept.tentative)
    (image-spelled None kept.permanent) (tentative-spelled kept.highest kept.permanent kept.tentative))

held-spelled : (highest : List ℕ) (t : Option Tentative)
    → text_of (held_fields highest (instance_of t)) ≡ held_text t
held-spelled highest None = text-one (flag 0)
held-spelled highest (Some t) =
    let entry = slice_index highest t.initiator in
    behind_one (flag 1) (initiator_field highest t.initiator ∷ tentative_number entry t.number ∷ [])
    (number_text 1 t.initiator ++ number_text 8 t.number)
    (behind_one (initiator_field highest t.initiator) (tentative_number entry t.number ∷ []) (number_text 8 t.number)
    (text-one (tentative_number entry t.number)))

-- that of a header
pub header-spelled : (version slot : ℕ) (kept : RecordView)
    → header_text version (header_of slot kept) ≡ header_spelling version slot kept
header-spelled version slot kept =
    front-spelled version kept (slot_field slot ∷ held_fields kept.highest (instance_of kept.tentative))
    (slots_text slot kept)
    (behind_one (slot_field slot) (held_fields kept.highest (instance_of kept.tentative)) (held_text kept.tentative)
    (held-spelled kept.highest kept.tentative))
    ∙ sym (append_assoc (head_text version kept) (decisions_text kept.decisions) (slots_text slot kept))

-- ---- numbers that can be written

pub allowed-split : (xs ys : List Field) → AllAllowed (xs ++ ys) → AllAllowed xs × AllAllowed ys
allowed-split [] ys all = (tt, all)
allowed-split (x ∷ xs) ys all = let h = allowed-split xs ys all.1 in ((all.0, h.0), h.1)

pub allowed-append : (xs ys : List Field) → AllAllowed xs → AllAllowed ys → AllAllowed (xs ++ ys)
allowed-append [] ys one two = two
allowed-append (x ∷ xs) ys one two = (one.0, allowed-append xs ys one.1 two)

-- what is allowed of a front, and of what is behind it
pub record FrontParts (version : ℕ) (kept : RecordView) (others : List Field) : Type 0 where
  pub head : AllAllowed (head_fields version kept)
  pub entries : AllAllowed (map count kept.highest)
  pub decisions : AllAllowed (decisions_of version kept)
  pub behind : AllAllowed others

pub front_parts : (version : ℕ) (kept : RecordView) (others : List Field) → AreAllowed (front_then version kept others)
    → FrontParts version kept others
front_parts version kept others all =
    let one = allowed-split (head_fields version kept) (map count kept.highest ++ (decisions_of version kept ++ others))
    (recursion_from_All IsAllowed (front_then version kept others) all) in
    let two = allowed-split (map count kept.highest) (decisions_of version kept ++ others) one.1 in
    let three = allowed-split (decisions_of version kept) others two.1 in
    record { head = one.0; entries = two.0; decisions = three.0; behind = three.1 }

pub front_joined : (version : ℕ) (kept : RecordView) (others : List Field) → FrontParts version kept others
    → AreAllowed (front_then version kept others)
front_joined version kept others parts =
    All-from_recursion IsAllowed (front_then version kept others)
    (allowed-append (head_fields version kept) (map count kept.highest ++ (decisions_of version kept ++ others))
    parts.head
    (allowed-append (map count kept.highest) (decisions_of version kept ++ others) parts.entries
    (allowed-append (decisions_of version kept) others parts.decisions parts.behind)))

wanted-less : (like : Option ℕ) (field : Field) → IsAllowed (wanted_or like field) → field.value < 256 ^ field.width
wanted-less None field allowed = allowed.0
wanted-less (Some n) field allowed = allowed.0

mode_short : (standing : Standing) → AllAllowed (mode_fields standing) → HasShortMode standing
mode_short (NotBegun vars) all = tt
mode_short (At point vars) all = (all.1.0.0, all.1.1.0.0)
mode_short (Done vars) all = tt

process_short : (like : Option SavedProcessView) (least : ℕ) (p : SavedProcessView)
    → AllAllowed (process_fields like least p) → IsShortProcess p
process_short like least p all =
    let vars = variables_of p.standing in
    let h = allowed-split (mode_fields p.standing)
    (wanted_or (wanted (λ (p : SavedProcessView). length (variables_of p.standing)) like)
    (at_most 1 MAX_VARIABLES (length vars)) ∷ map item vars) all.1 in (
      mode_short p.standing h.0,
      wanted-less (wanted (λ (p : SavedProcessView). length (variables_of p.standing)) like)
          (at_most 1 MAX_VARIABLES (length (variables_of p.standing))) h.1.0,
    )

processes_short : (like : Option (List SavedProcessView)) (least : ℕ) (ps : List SavedProcessView)
    → AllAllowed (processes_fields like least ps) → AllByRecursion IsShortProcess ps
processes_short like least [] all = tt
processes_short like least (p ∷ ps) all =
    let h = allowed-split (process_fields (first_of like) least p) (processes_fields (rest_of like) (suc p.number) ps)
    all in
    (process_short (first_of like) least p h.0, processes_short (rest_of like) (suc p.number) ps h.1)

image_short : (like : Option ImageView) (i : ImageView) → AllAllowed (image_fields like i) → IsShortImage i
image_short like i all =
    let h = allowed-split
    (process_count like (length i.processes) ∷ processes_fields (processes_in like) 0 i.processes)
    (end_count like (length i.ends) ∷ ends_fields (ends_in like) 0 i.ends) all in
    record {
      processes =
          wanted-less (wanted (λ (i : ImageView). length i.processes) like)
          (at_most 1 MAX_PROCESSES (length i.processes)) h.0.0;
      each = All-from_recursion IsShortProcess i.processes (processes_short (processes_in like) 0 i.processes h.0.1);
      ends = wanted-less (wanted (λ (i : ImageView). length i.ends) like) (at_most 2 MAX_CHANNELS (length i.ends))
          h.1.0;
    }

decisions_short : (node nodes own least : ℕ) (ds : List DecisionView)
    → AllAllowed (each_decision_fields node nodes own least ds) → AllByRecursion IsShortDecision ds
decisions_short node nodes own least [] all = tt
decisions_short node nodes own least (d ∷ ds) all =
    let h = allowed-split (decision_fields node nodes own least d)
    (each_decision_fields node nodes own (suc d.number) ds) all in
    (h.0.1.0.0, decisions_short node nodes own (suc d.number) ds h.1)

tentative_short : (highest : List ℕ) (permanent : ImageView) (t : Option Tentative)
    → AllAllowed (tentative_fields highest permanent t) → IsShortTentative t
tentative_short highest permanent None all = tt
tentative_short highest permanent (Some t) all = image_short (Some permanent) t.image all.1.1.1

abbrev images_of : RecordView → List Field
images_of kept = image_fields None kept.permanent ++ tentative_fields kept.highest kept.permanent kept.tentative

front_short : (kept : RecordView) (others : List Field) → FrontParts VERSION kept others → IsShortFront kept
front_short kept others parts = record {
  nodes = parts.head.1.1.1.0.0;
  decisions = record {
    few = parts.decisions.0.0;
    each = All-from_recursion IsShortDecision kept.decisions
        (decisions_short kept.node (length kept.highest) (slice_index kept.highest kept.node) 1 kept.decisions
        parts.decisions.1);
  };
}

pub short_front : (kept : RecordView) → IsRecord kept → IsShortFront kept
short_front kept is = front_short kept (images_of kept) (front_parts VERSION kept (images_of kept) is)

pub record_short : (kept : RecordView) → IsRecord kept → IsShortRecord kept
record_short kept is =
    let parts = front_parts VERSION kept (images_of kept) is in
    let front = front_short kept (images_of kept) parts in
    let images =
    allowed-split (image_fields None kept.permanent) (tentative_fields kept.highest kept.permanent kept.tentative)
    parts.behind in
    record {
      nodes = front.nodes;
      decisions = front.decisions;
      permanent = image_short None kept.permanent images.0;
      tentative = tentative_short kept.highest kept.permanent kept.tentative images.1;
    }

-- an image that may be written
pub image_is_short : (i : ImageView) → IsImageSpelled i → IsShortImage i
image_is_short i spelled = image_short spelled.0 i (recursion_from_All IsAllowed (image_fields spelled.0 i) spelled.1)

-- ---- a header

held_allowed : (highest : List ℕ) (permanent : ImageView) (t : Option Tentative)
    → AllAllowed (tentative_fields highest permanent t) → AllAllowed (held_fields highest (instance_of t))
held_allowed highest permanent None all = all
held_allowed highest permanent (Some t) all = (all.0, (all.1.0, (all.1.1.0, tt)))

slot_allowed : (slot : ℕ) → slot ≤ 1 → IsAllowed (slot_field slot)
slot_allowed slot le = (omega (arith, le), le-leb slot 1 le)

-- the header of a record that may be written may be
pub header_allowed : (slot : ℕ) (kept : RecordView) → slot ≤ 1 → IsRecord kept
    → AreAllowed (header_fields VERSION (header_of slot kept))
header_allowed slot kept le is =
    let parts = front_parts VERSION kept (images_of kept) is in
    let images =
    allowed-split (image_fields None kept.permanent) (tentative_fields kept.highest kept.permanent kept.tentative)
    parts.behind in
    front_joined VERSION kept (slot_field slot ∷ held_fields kept.highest (instance_of kept.tentative)) (record {
      head = parts.head;
      entries = parts.entries;
      decisions = parts.decisions;
      behind = (slot_allowed slot le, held_allowed kept.highest kept.permanent kept.tentative images.1);
    })

-- ---- items

all_so : {X : Type 0} (P Q : X → Type 0) → ((x : X) → P x → Q x) → (xs : List X) → AllByRecursion P xs
    → AllByRecursion Q xs
all_so P Q so [] all = tt
all_so P Q so (x ∷ xs) all = (so x all.0, all_so P Q so xs all.1)

image_is : (i : ImageView) → ImageHasItems i → IsImage i
image_is i has = record {
  processes =
      all_so HasItems (λ p. AllByRecursion (FitsSigned w64) (variables_of p.standing))
      (λ p fit. recursion_from_All (FitsSigned w64) (variables_of p.standing) fit) i.processes
      (recursion_from_All HasItems i.processes has.processes);
  ends = all_so EndHasItems (λ e. AllByRecursion (FitsSigned w64) (items_of_end e.end))
      (λ e fit. recursion_from_All (FitsSigned w64) (items_of_end e.end) fit) i.ends
      (recursion_from_All EndHasItems i.ends has.ends);
}

tentative_is : (t : Option Tentative) → TentativeHasItems t → IsTentative t
tentative_is None has = tt
tentative_is (Some t) has = image_is t.image has

pub is_text : (kept : RecordView) (bytes : List ℕ) → IsRecord kept → RecordHasItems kept
    → bytes ≡ spelling VERSION kept → IsTextIn VERSION kept bytes
is_text kept bytes is has e = record {
  allowed = is;
  items = kept_items kept
      (record {
        permanent = image_is kept.permanent has.permanent;
        tentative =
            tentative_is kept.tentative has.tentative;
      });
  spelled = e ∙ sym (record-spelled VERSION kept);
}

-- bytes of an image that may be written beside this one spell it
pub is_image_text : (like : Option ImageView) (image : ImageView) (bytes : List ℕ) → ImageHasItems image
    → bytes ≡ image_text image → AreAllowed (image_fields like image) → IsImageText like image bytes
is_image_text like image bytes has e allowed = record {
  allowed = allowed;
  items = image_items image (image_is image has);
  spelled = e ∙ sym (image-spelled like image);
}
