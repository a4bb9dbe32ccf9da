-- A header is short: its nodes, its decisions and the nodes that they name are few.
use Rattle.std.proofs.Common.{◌≡◌, ◌≢◌, ℕ, suc, ◌+◌, ◌*◌, ◌<◌, ◌≤◌, Bool, true, false, ◌&&◌, not, nat_eq, nat_le, nat_lt}
use Rattle.std.proofs.Common.{List, [], ◌∷◌, ◌++◌, length, slice_index, Option, Some, None, refl, sym, ap, ◌∙◌, subst}
use Rattle.std.proofs.Common.{arith, inl, inr}
use Rattle.std.specs.Prelude.{sum_by}
use Rattle.std.proofs.lemmas.Bool.{cases_lt, and_parts, eqb-false, leb-true, ltb-true}
use Rattle.std.proofs.lemmas.List.Sums.{sum_by-cons}
use Rattle.record.specs.Common.{MAX_NODES, DecisionView, RecordView}
use Rattle.record.specs.declared.record.TheConstants.{MAX_DECISIONS}
use Rattle.record.specs.declared.record.Tentative.{Tentative}
use Rattle.ckpt_codec.specs.Fields.{number_text}
use Rattle.ckpt_codec.specs.RecordText.{participants, decision_fields, each_decision_fields, most_decisions, version_of}
use Rattle.ckpt_codec.specs.HeaderView.{HeaderView}
use Rattle.ckpt_codec.specs.HeaderText.{instance_of, header_of, slot_field, held_fields, IsHeaderTextIn}
use Rattle.ckpt_codec.specs.HeaderText.{IsHeaderText}
use Rattle.ckpt_codec.specs.declared.header.Instance.{Instance}
use Rattle.ckpt_codec.specs.declared.lengths.TheConstants.{MAX_HEADER_BYTES}
use Rattle.ckpt_codec.specs.Lengths.{decision_length, decisions_length}
use Rattle.ckpt_codec.specs.Spelling.{head_text, decisions_text, held_text, slots_text, header_spelling}
use Rattle.ckpt_codec.proofs.Text.{AllAllowed}
use Rattle.ckpt_codec.proofs.Spelled.{header-spelled, allowed-split, front_parts}
use Rattle.ckpt_codec.proofs.Versions.{few_in}
use Rattle.ckpt_codec.proofs.Sizes.{length-number, length-two, length-head, length-decisions}

-- ---- the nodes of a decision

is_not : (b : Bool) → not b ≡ true → b ≡ false
is_not true e = absurd cc
is_not false e = refl

-- a node that may come next
record Next (node nodes least p : ℕ) : Type 0 where
  pub low : least ≤ p
  pub high : p < nodes
  pub apart : p ≢ node

next_of : (node nodes least p : ℕ) → (nat_le least p && (nat_lt p nodes && not (nat_eq p node))) ≡ true
    → Next node nodes least p
next_of node nodes least p e =
    let a = and_parts (nat_le least p) (nat_lt p nodes && not (nat_eq p node)) e in
    let b = and_parts (nat_lt p nodes) (not (nat_eq p node)) a.1 in
    record {
      low = leb-true least p a.0;
      high = ltb-true p nodes b.0;
      apart = eqb-false p node (is_not (nat_eq p node) b.1);
    }

-- nodes that ascend from the least on, all of them below so many
few_from : (node nodes least : ℕ) (ps : List ℕ) → least ≤ nodes → AllAllowed (participants node nodes least ps)
    → length ps + least ≤ nodes
few_from node nodes least [] le all = omega (arith, le)
few_from node nodes least (p ∷ ps) le all =
    let n = next_of node nodes least p all.0.1 in
    let low : least ≤ p = n.low in
    let high : suc p ≤ nodes = n.high in
    let rest : length ps + suc p ≤ nodes = few_from node nodes (suc p) ps high all.1 in
    omega (arith, low, rest)

-- one fewer, since the node itself isn't among them
fewer_from : (node nodes least : ℕ) (ps : List ℕ) → least ≤ node → node < nodes
    → AllAllowed (participants node nodes least ps) → length ps + least + 1 ≤ nodes
fewer_from node nodes least [] le lt all = omega (arith, le, lt)
fewer_from node nodes least (p ∷ ps) le lt all =
    let n = next_of node nodes least p all.0.1 in
    let low : least ≤ p = n.low in
    let high : suc p ≤ nodes = n.high in
    let apart : p ≢ node = n.apart in
    elim (cases_lt p node) [
      | inl below ↦
          let rest : length ps + suc p + 1 ≤ nodes = fewer_from node nodes (suc p) ps below lt all.1 in
          omega (arith, low, rest)
      | inr above ↦
          let rest : length ps + suc p ≤ nodes = few_from node nodes (suc p) ps high all.1 in
          omega (arith, le, above, apart, rest)
    ]

decisions_few : (node nodes own least : ℕ) (ds : List DecisionView) → node < nodes → nodes ≤ MAX_NODES
    → AllAllowed (each_decision_fields node nodes own least ds) → sum_by decision_length ds ≤ 24 * length ds
decisions_few node nodes own least [] lt few all = omega arith
decisions_few node nodes own least (d ∷ ds) lt few all =
    let h = allowed-split (decision_fields node nodes own least d)
    (each_decision_fields node nodes own (suc d.number) ds) all in
    let one : length d.participants + 0 + 1 ≤ nodes = fewer_from node nodes 0 d.participants (omega arith) lt h.0.1.1 in
    let rest : sum_by decision_length ds ≤ 24 * length ds =
    decisions_few node nodes own (suc d.number) ds lt few h.1 in
    let sum : sum_by decision_length (d ∷ ds) ≡ 9 + length d.participants + sum_by decision_length ds =
    sum_by-cons decision_length d ds in
    omega (arith, one, few, rest, sum)

-- ---- a header

held_length : (t : Option Tentative) → length (held_text t) ≤ 10
held_length None = let one = length-number 1 0 in omega (arith, one)
held_length (Some t) =
    let long : length (held_text (Some t)) ≡ 1 + (1 + 8) =
    length-two (number_text 1 1) (number_text 1 t.initiator ++ number_text 8 t.number) 1 (1 + 8) (length-number 1 1)
    (length-two (number_text 1 t.initiator) (number_text 8 t.number) 1 8 (length-number 1 t.initiator)
    (length-number 8 t.number)) in
    omega (arith, long)

spelling_is_short : (version slot : ℕ) (kept : RecordView) (n d h : ℕ) → length kept.highest ≡ n
    → decisions_length kept.decisions ≡ d → length (held_text kept.tentative) ≡ h
    → length (header_spelling version slot kept) ≡ 12 + 8 * n + d + h
spelling_is_short version slot kept n d h nodes decided held =
    let head : length (head_text version kept) ≡ 11 + 8 * n =
    length-head version kept ∙ ap (λ (k : ℕ). 11 + 8 * k) nodes in
    let decisions : length (decisions_text kept.decisions) ≡ d = length-decisions kept.decisions ∙ decided in
    let front : length (head_text version kept ++ decisions_text kept.decisions) ≡ (11 + 8 * n) + d =
    length-two (head_text version kept) (decisions_text kept.decisions) (11 + 8 * n) d head decisions in
    let slots : length (slots_text slot kept) ≡ 1 + h =
    length-two (number_text 1 slot) (held_text kept.tentative) 1 h (length-number 1 slot) held in
    length-two (head_text version kept ++ decisions_text kept.decisions) (slots_text slot kept) ((11 + 8 * n) + d)
    (1 + h) front slots
    ∙ omega arith

short_header : (version slot : ℕ) (kept : RecordView) (bytes : List ℕ)
    → IsHeaderTextIn version (header_of slot kept) bytes → length bytes ≤ MAX_HEADER_BYTES
short_header version slot kept bytes text =
    let parts = front_parts version kept (slot_field slot ∷ held_fields kept.highest (instance_of kept.tentative))
    text.allowed in
    let nodes = and_parts (nat_lt kept.node (length kept.highest)) (nat_le (length kept.highest) MAX_NODES)
    parts.head.1.1.1.0.1 in
    let lt : kept.node < length kept.highest = ltb-true kept.node (length kept.highest) nodes.0 in
    let few : length kept.highest ≤ MAX_NODES = leb-true (length kept.highest) MAX_NODES nodes.1 in
    let count : length kept.decisions ≤ most_decisions version =
    leb-true (length kept.decisions) (most_decisions version) parts.decisions.0.1 in
    let most : most_decisions version ≤ MAX_DECISIONS = few_in version in
    let sum : sum_by decision_length kept.decisions ≤ 24 * length kept.decisions =
    decisions_few kept.node (length kept.highest) (slice_index kept.highest kept.node) 1 kept.decisions lt few
    parts.decisions.1 in
    let held : length (held_text kept.tentative) ≤ 10 = held_length kept.tentative in
    let long : length bytes
    ≡ 12 + 8 * length kept.highest + decisions_length kept.decisions + length (held_text kept.tentative) =
    ap (length {A = ℕ}) (text.spelled ∙ header-spelled version slot kept)
    ∙ spelling_is_short version slot kept _ _ _ refl refl refl in
    omega (arith, few, count, most, sum, held, long)

-- a record with this header, whose images are empty
abbrev some_image : Instance → Tentative
some_image i = record { initiator = i.initiator; number = i.number; image = record { processes = []; ends = [] } }

abbrev some_tentative : Option Instance → Option Tentative
some_tentative None = None
some_tentative (Some i) = Some (some_image i)

abbrev some_record : HeaderView → RecordView
some_record h =
    record {
      node = h.node;
      epoch = h.epoch;
      highest = h.highest;
      decisions = h.decisions;
      permanent = record { processes = []; ends = [] };
      tentative = some_tentative h.tentative;
    }

same_instance : (held : Option Instance) → instance_of (some_tentative held) ≡ held
same_instance None = refl
same_instance (Some i) = refl

same_header : (h : HeaderView) → header_of h.slot (some_record h) ≡ h
same_header h = ap (λ (held : Option Instance). record h { tentative = held }) (same_instance h.tentative)

pub header_is_short : (h : HeaderView) (bytes : List ℕ) → IsHeaderText h bytes → length bytes ≤ MAX_HEADER_BYTES
header_is_short h bytes text =
    short_header (version_of bytes) h.slot (some_record h) bytes
    (subst (λ (g : HeaderView). IsHeaderTextIn (version_of bytes) g bytes) (sym (same_header h)) text.text)
