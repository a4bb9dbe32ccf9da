-- Each move of a record that may be written makes one that may be.
use Rattle.std.proofs.Common.{◌≡◌, ⊎_elim, ℕ, suc, ◌+◌, ◌-◌, ◌^◌, ◌<◌, ◌≤◌, Bool, true, false, List, [], ◌∷◌, ◌++◌, length}
use Rattle.std.proofs.Common.{map, Option, refl, sym, ◌∙◌, ap, subst, arith, get_or, lit<}
use Rattle.std.specs.Prelude.{All, Some, None, ◌==◌, ◌&&◌, not, nat_le, nat_lt, slice_index, slice_set, if◌then◌else◌}
use Rattle.std.specs.Prelude.{cond, filter}
use Rattle.std.proofs.lemmas.Bool.{eqb-true, eq-eqb, leb-true, le-leb, ltb-true, lt-ltb, and_parts, and_from, cases_eq}
use Rattle.std.proofs.lemmas.List.{get_or-set_same, get_or-set_other, length-set}
use Rattle.std.proofs.lemmas.List.Elements.{All-append, All-nil, All-cons, All-head, All-tail, All-map, All-set}
use Rattle.std.proofs.lemmas.List.Concat.{flat_map-cons}
use Rattle.ckpt_codec.specs.Common.{MAX_COUNT, RecordView, DecisionView, ImageView, Tentative, highest_seen}
use Rattle.ckpt_codec.specs.Common.{with_tentative, with_permanent, without_tentative, with_decision, with_confirmed}
use Rattle.ckpt_codec.specs.Common.{with_epoch, decision_by, decided_below, decided_by, confirmed, MAX_DECISIONS}
use Rattle.ckpt_codec.specs.Common.{without_own, last_image, Field, IsAllowed, AreAllowed, IsRecord, at_most, count}
use Rattle.ckpt_codec.specs.Common.{image_fields, tentative_fields}
use Rattle.record.specs.Common.{MAX_NODES, without_node, confirmed_one}
use Rattle.ckpt_codec.specs.RecordText.{any, flag, between, participants, head_fields, version_field}
use Rattle.ckpt_codec.specs.RecordText.{decision_fields, each_decision_fields, decisions_fields}
use Rattle.ckpt_codec.specs.SizeLaws.{confirmed_no_more}
use Rattle.ckpt_codec.specs.declared.version.TheConstants.{VERSION}
use Rattle.ckpt_store.specs.Refusals.{is_held, refusal_to_decide}
use Rattle.ckpt_store.specs.declared.fault.StoreFault.{StoreFault}
use Rattle.ckpt_store.specs.declared.fault.StoreFault.TheVariants.{NotHeld, Unsettled}
use Rattle.ckpt_store.proofs.Parts.{all_back, all_front, parts_of, whole}
use Rattle.ckpt_store.proofs.Images.{image_allowed}

-- ---- fields

-- a flag of 0, and one of 1
no_flag : IsAllowed (flag 0)
no_flag = (lit< tt, refl)

one_flag : IsAllowed (flag 1)
one_flag = (lit< tt, refl)

nothing_held : (highest : List ℕ) (permanent : ImageView) → AreAllowed (tentative_fields highest permanent None)
nothing_held highest permanent = All-cons IsAllowed (flag 0) [] no_flag (All-nil IsAllowed)

-- a count that isn't above the greatest
is_count : (n : ℕ) → n ≤ MAX_COUNT → IsAllowed (count n)
is_count n le = (omega (arith, le), le-leb n MAX_COUNT le)

-- ---- without a tentative image

pub allowed_without : (kept : RecordView) → IsRecord kept → IsRecord (without_tentative kept)
allowed_without kept all =
    let parts = parts_of kept all in
    whole (without_tentative kept) (record {
      head = parts.head;
      entries = parts.entries;
      decisions = parts.decisions;
      permanent = parts.permanent;
      tentative = nothing_held kept.highest kept.permanent;
    })

-- ---- with the tentative image as the permanent one

held_image : (highest : List ℕ) (permanent : ImageView) (held : Option Tentative)
    → AreAllowed (image_fields None permanent) → AreAllowed (tentative_fields highest permanent held)
    → AreAllowed (image_fields None (last_image permanent held))
held_image highest permanent None first second = first
held_image highest permanent (Some t) first second =
    let initiator : Field = record { width = 1; allows = λ v. nat_lt v (length highest); value = t.initiator } in
    let number : Field =
    record { width = 8; allows = λ v. nat_le 1 v && (v == slice_index highest t.initiator); value = t.number } in
    let image : List Field = image_fields (Some permanent) t.image in
    image_allowed permanent t.image first
    (All-tail IsAllowed number image
    (All-tail IsAllowed initiator (number ∷ image)
    (All-tail IsAllowed (flag 1) (initiator ∷ number ∷ image) second)))

pub allowed_permanent : (kept : RecordView) → IsRecord kept → IsRecord (with_permanent kept)
allowed_permanent kept all =
    let parts = parts_of kept all in
    whole (with_permanent kept) (record {
      head = parts.head;
      entries = parts.entries;
      decisions = parts.decisions;
      permanent = held_image kept.highest kept.permanent kept.tentative parts.permanent parts.tentative;
      tentative = nothing_held kept.highest (last_image kept.permanent kept.tentative);
    })

-- ---- with a new tentative image

-- how many nodes there are
few_nodes : (kept : RecordView) → AreAllowed (head_fields VERSION kept) → length kept.highest ≤ MAX_NODES
few_nodes kept head =
    let nodes : Field =
    record { width = 1; allows = λ v. nat_lt kept.node v && nat_le v MAX_NODES; value = length kept.highest } in
    let behind =
    All-tail IsAllowed (count kept.epoch) (nodes ∷ [])
    (All-tail IsAllowed (any 1 kept.node) (count kept.epoch ∷ nodes ∷ [])
    (All-tail IsAllowed (version_field VERSION) (any 1 kept.node ∷ count kept.epoch ∷ nodes ∷ []) head)) in
    leb-true (length kept.highest) MAX_NODES (and_parts _ _ (All-head IsAllowed nodes [] behind).1).1

-- entries only rise where a number above one takes its place
entry_rises : (highest : List ℕ) (initiator number node : ℕ) → initiator < length highest
    → get_or highest initiator 0 < number → get_or highest node 0 ≤ get_or (slice_set highest initiator number) node 0
entry_rises highest initiator number node listed above =
    ⊎_elim
    (λ same. (let here : get_or (slice_set highest initiator number) node 0 ≡ number =
    ap (λ i. get_or (slice_set highest initiator number) i 0) same
    ∙ get_or-set_same highest initiator number 0 listed in
    let was : get_or highest node 0 ≡ get_or highest initiator 0 = ap (λ i. get_or highest i 0) same in
    omega (arith, here, was, above)))
    (λ other. (let there : get_or (slice_set highest initiator number) node 0 ≡ get_or highest node 0 =
    get_or-set_other highest initiator node number 0 other in omega (arith, there)))
    (cases_eq node initiator)

-- the number of a decision stays below a later number
below_later : (own later least number : ℕ) → own ≤ later → IsAllowed (between 8 least (suc own) number)
    → IsAllowed (between 8 least (suc later) number)
below_later own later least number le field =
    let at_least = (and_parts _ _ field.1).0 in
    let below : number < suc own = ltb-true number (suc own) (and_parts _ _ field.1).1 in
    (field.0, and_from _ _ at_least (lt-ltb number (suc later) (omega (arith, below, le))))

-- the fields of a decision behind its number
abbrev behind_number : ℕ → ℕ → DecisionView → List Field
behind_number node nodes d =
    record { width = 1; allows = λ v. nat_le 1 v; value = length d.participants }
    ∷ participants node nodes 0 d.participants

decisions_later : (node nodes own later least : ℕ) (ds : List DecisionView) → own ≤ later
    → AreAllowed (each_decision_fields node nodes own least ds)
    → AreAllowed (each_decision_fields node nodes later least ds)
decisions_later node nodes own later least [] le all = all
decisions_later node nodes own later least (d ∷ ds) le all =
    let one = all_front IsAllowed (decision_fields node nodes own least d)
    (each_decision_fields node nodes own (suc d.number) ds) all in
    All-append IsAllowed (decision_fields node nodes later least d)
    (each_decision_fields node nodes later (suc d.number) ds)
    (All-cons IsAllowed (between 8 least (suc later) d.number) (behind_number node nodes d)
    (below_later own later least d.number le
    (All-head IsAllowed (between 8 least (suc own) d.number) (behind_number node nodes d) one))
    (All-tail IsAllowed (between 8 least (suc own) d.number) (behind_number node nodes d) one))
    (decisions_later node nodes own later (suc d.number) ds le
    (all_back IsAllowed (decision_fields node nodes own least d)
    (each_decision_fields node nodes own (suc d.number) ds) all))

tentative_allowed : (highest : List ℕ) (permanent image : ImageView) (initiator number : ℕ)
    → length highest ≤ MAX_NODES → initiator < length highest → get_or highest initiator 0 < number → number ≤ MAX_COUNT
    → AreAllowed (image_fields (Some permanent) image)
    → AreAllowed
    (tentative_fields (slice_set highest initiator number) permanent
    (Some (record { initiator = initiator; number = number; image = image })))
tentative_allowed highest permanent image initiator number few listed above fits like =
    let entries : List ℕ = slice_set highest initiator number in
    let long : length entries ≡ length highest = length-set highest initiator number in
    let here : get_or entries initiator 0 ≡ number = get_or-set_same highest initiator number 0 listed in
    let first : Field = record { width = 1; allows = λ v. nat_lt v (length entries); value = initiator } in
    let second : Field =
    record { width = 8; allows = λ v. nat_le 1 v && (v == slice_index entries initiator); value = number } in
    All-cons IsAllowed (flag 1) (first ∷ second ∷ image_fields (Some permanent) image) one_flag
    (All-cons IsAllowed first (second ∷ image_fields (Some permanent) image)
    (omega (arith, few, listed), lt-ltb initiator (length entries) (omega (arith, long, listed)))
    (All-cons IsAllowed second (image_fields (Some permanent) image) (
      omega (arith, fits),
      and_from _ _ (le-leb 1 number (omega (arith, above)))
          (eq-eqb number (get_or entries initiator 0) (sym here)),
    ) like))

pub allowed_tentative : (kept : RecordView) (initiator number : ℕ) (image : ImageView) → IsRecord kept
    → initiator < length kept.highest → highest_seen initiator kept < number → number ≤ MAX_COUNT
    → AreAllowed (image_fields (Some kept.permanent) image) → IsRecord (with_tentative initiator number image kept)
allowed_tentative kept initiator number image all listed above fits like =
    let parts = parts_of kept all in
    let long : length kept.highest ≡ length (slice_set kept.highest initiator number) =
    sym (length-set kept.highest initiator number) in
    whole (with_tentative initiator number image kept) (record {
      head = subst
          (λ n. AreAllowed
          (version_field VERSION ∷ any 1 kept.node ∷ count kept.epoch
          ∷ record { width = 1; allows = λ v. nat_lt kept.node v && nat_le v MAX_NODES; value = n } ∷ [])) long
          parts.head;
      entries =
          All-map IsAllowed count (slice_set kept.highest initiator number)
          (All-set (λ n. IsAllowed (count n)) kept.highest initiator number (is_count number fits)
          (counts kept.highest parts.entries));
      decisions =
          subst (λ n. AreAllowed
          (decisions_fields MAX_DECISIONS kept.node n
          (slice_index (slice_set kept.highest initiator number) kept.node) kept.decisions)) long
          (All-cons IsAllowed (at_most 1 MAX_DECISIONS (length kept.decisions))
          (each_decision_fields kept.node (length kept.highest)
          (slice_index (slice_set kept.highest initiator number) kept.node) 1 kept.decisions)
          (All-head IsAllowed (at_most 1 MAX_DECISIONS (length kept.decisions))
          (each_decision_fields kept.node (length kept.highest) (slice_index kept.highest kept.node) 1
          kept.decisions) parts.decisions)
          (decisions_later kept.node (length kept.highest) (slice_index kept.highest kept.node)
          (slice_index (slice_set kept.highest initiator number) kept.node) 1 kept.decisions
          (entry_rises kept.highest initiator number kept.node listed above)
          (All-tail IsAllowed (at_most 1 MAX_DECISIONS (length kept.decisions))
          (each_decision_fields kept.node (length kept.highest) (slice_index kept.highest kept.node) 1
          kept.decisions) parts.decisions)));
      permanent = parts.permanent;
      tentative =
          tentative_allowed kept.highest kept.permanent image initiator number (few_nodes kept parts.head) listed above
          fits like;
    })
  where
    counts : (ns : List ℕ) → AreAllowed (map count ns) → All (λ n. IsAllowed (count n)) ns
    counts [] all = All-nil (λ n. IsAllowed (count n))
    counts (n ∷ ns) all =
        All-cons (λ m. IsAllowed (count m)) n ns (All-head IsAllowed (count n) (map count ns) all)
        (counts ns (All-tail IsAllowed (count n) (map count ns) all))

-- ---- with a decision, and without a node of it

-- what stands in the field of a node that is named
at_least : (node nodes least p : ℕ)
    → IsAllowed (record { width = 1; allows = λ v. nat_le least v && (nat_lt v nodes && not (v == node)); value = p })
    → least ≤ p
at_least node nodes least p field = leb-true least p (and_parts _ _ field.1).0

below : (node nodes least p : ℕ)
    → IsAllowed (record { width = 1; allows = λ v. nat_le least v && (nat_lt v nodes && not (v == node)); value = p })
    → p < nodes
below node nodes least p field = ltb-true p nodes (and_parts _ _ (and_parts _ _ field.1).1).0

-- from a lesser number on, too
lower : (node nodes least lesser p : ℕ) → lesser ≤ least
    → IsAllowed (record { width = 1; allows = λ v. nat_le least v && (nat_lt v nodes && not (v == node)); value = p })
    → IsAllowed (record { width = 1; allows = λ v. nat_le lesser v && (nat_lt v nodes && not (v == node)); value = p })
lower node nodes least lesser p le field =
    let from : least ≤ p = at_least node nodes least p field in
    (field.0, and_from _ _ (le-leb lesser p (omega (arith, from, le))) (and_parts _ _ field.1).1)

-- nodes that ascend are few
length_ascending : (node nodes least : ℕ) (ps : List ℕ) → AreAllowed (participants node nodes least ps)
    → length ps ≤ nodes - least
length_ascending node nodes least [] all = omega arith
length_ascending node nodes least (p ∷ ps) all =
    let field = All-head IsAllowed _ (participants node nodes (suc p) ps) all in
    let rest : length ps ≤ nodes - suc p =
    length_ascending node nodes (suc p) ps (All-tail IsAllowed _ (participants node nodes (suc p) ps) all) in
    let from : least ≤ p = at_least node nodes least p field in
    let to : p < nodes = below node nodes least p field in
    omega (arith, rest, from, to)

participants_lower : (node nodes least lesser : ℕ) (ps : List ℕ) → lesser ≤ least
    → AreAllowed (participants node nodes least ps) → AreAllowed (participants node nodes lesser ps)
participants_lower node nodes least lesser [] le all = all
participants_lower node nodes least lesser (p ∷ ps) le all =
    All-cons IsAllowed _ (participants node nodes (suc p) ps)
    (lower node nodes least lesser p le (All-head IsAllowed _ (participants node nodes (suc p) ps) all))
    (All-tail IsAllowed _ (participants node nodes (suc p) ps) all)

-- one more before those that follow it, or not
one_more : (node nodes least p : ℕ) (b : Bool) (qs : List ℕ)
    → IsAllowed (record { width = 1; allows = λ v. nat_le least v && (nat_lt v nodes && not (v == node)); value = p })
    → AreAllowed (participants node nodes (suc p) qs)
    → AreAllowed (participants node nodes least (cond b (p ∷ qs) qs))
one_more node nodes least p true qs field rest = All-cons IsAllowed _ (participants node nodes (suc p) qs) field rest
one_more node nodes least p false qs field rest =
    participants_lower node nodes (suc p) least qs
    (let from : least ≤ p = at_least node nodes least p field in omega (arith, from)) rest

-- some of them ascend too
participants_some : (node nodes least : ℕ) (test : ℕ → Bool) (ps : List ℕ)
    → AreAllowed (participants node nodes least ps) → AreAllowed (participants node nodes least (filter test ps))
participants_some node nodes least test [] all = all
participants_some node nodes least test (p ∷ ps) all =
    one_more node nodes least p (test p) (filter test ps)
    (All-head IsAllowed _ (participants node nodes (suc p) ps) all)
    (participants_some node nodes (suc p) test ps (All-tail IsAllowed _ (participants node nodes (suc p) ps) all))

-- a decision of nodes that may be named
decision_allowed : (node nodes own least number p : ℕ) (ps : List ℕ) → nodes ≤ MAX_NODES
    → IsAllowed (between 8 least (suc own) number) → AreAllowed (participants node nodes 0 (p ∷ ps))
    → AreAllowed (decision_fields node nodes own least (record { number = number; participants = p ∷ ps }))
decision_allowed node nodes own least number p ps few is all =
    let names : Field = record { width = 1; allows = λ v. nat_le 1 v; value = suc (length ps) } in
    let short : suc (length ps) ≤ nodes - 0 = length_ascending node nodes 0 (p ∷ ps) all in
    All-cons IsAllowed (between 8 least (suc own) number) (names ∷ participants node nodes 0 (p ∷ ps)) is
    (All-cons IsAllowed names (participants node nodes 0 (p ∷ ps))
    (omega (arith, short, few), le-leb 1 (suc (length ps)) (omega arith)) all)

-- a number stands from a lesser one on, too, and so do decisions
number_lower : (own least lesser number : ℕ) → lesser ≤ least → IsAllowed (between 8 least (suc own) number)
    → IsAllowed (between 8 lesser (suc own) number)
number_lower own least lesser number le field =
    let from : least ≤ number = leb-true least number (and_parts _ _ field.1).0 in
    (field.0, and_from _ _ (le-leb lesser number (omega (arith, from, le))) (and_parts _ _ field.1).1)

decisions_lower : (node nodes own least lesser : ℕ) (ds : List DecisionView) → lesser ≤ least
    → AreAllowed (each_decision_fields node nodes own least ds)
    → AreAllowed (each_decision_fields node nodes own lesser ds)
decisions_lower node nodes own least lesser [] le all = all
decisions_lower node nodes own least lesser (d ∷ ds) le all =
    let behind = behind_number node nodes d ++ each_decision_fields node nodes own (suc d.number) ds in
    All-cons IsAllowed (between 8 lesser (suc own) d.number) behind
    (number_lower own least lesser d.number le
    (All-head IsAllowed (between 8 least (suc own) d.number) behind all))
    (All-tail IsAllowed (between 8 least (suc own) d.number) behind all)

-- the number of a decision is at least what it has to be
decision_at_least : (node nodes own least : ℕ) (d : DecisionView) (ds : List DecisionView)
    → AreAllowed (each_decision_fields node nodes own least (d ∷ ds)) → least ≤ d.number
decision_at_least node nodes own least d ds all =
    let behind = behind_number node nodes d ++ each_decision_fields node nodes own (suc d.number) ds in
    let field = All-head IsAllowed (between 8 least (suc own) d.number) behind all in
    leb-true least d.number (and_parts _ _ field.1).0

-- those of lower numbers, and then one of this number
decided_allowed : (node nodes own least number p : ℕ) (ps : List ℕ) (ds : List DecisionView) → nodes ≤ MAX_NODES
    → least ≤ number → IsAllowed (between 8 1 (suc own) number) → AreAllowed (participants node nodes 0 (p ∷ ps))
    → AreAllowed (each_decision_fields node nodes own least ds)
    → AreAllowed (each_decision_fields node nodes own least (decided_by number (p ∷ ps) ds))
decided_allowed node nodes own least number p ps [] few from is all was =
    let it : DecisionView = record { number = number; participants = p ∷ ps } in
    All-append IsAllowed (decision_fields node nodes own least it) []
    (decision_allowed node nodes own least number p ps few
    (is.0, and_from _ _ (le-leb least number from) (and_parts _ _ is.1).1) all) (All-nil IsAllowed)
decided_allowed node nodes own least number p ps (d ∷ ds) few from is all was =
    by_test (nat_lt d.number number) (ltb-true d.number number)
    (λ l le rest. decided_allowed node nodes own l number p ps ds few le is all rest)
  where
    rest : AreAllowed (each_decision_fields node nodes own (suc d.number) ds)
    rest = all_back IsAllowed (decision_fields node nodes own least d)
        (each_decision_fields node nodes own (suc d.number) ds) was

    by_test : (b : Bool) → (b ≡ true → d.number < number)
        → ((l : ℕ) → l ≤ number → AreAllowed (each_decision_fields node nodes own l ds)
        → AreAllowed (each_decision_fields node nodes own l (decided_by number (p ∷ ps) ds)))
        → AreAllowed
        (each_decision_fields node nodes own least
        (cond b (d ∷ decided_below number ds) (decided_below number ds) ++ decision_by number (p ∷ ps)))
    by_test true lower later =
        let below : d.number < number = lower refl in
        All-append IsAllowed (decision_fields node nodes own least d)
        (each_decision_fields node nodes own (suc d.number) (decided_by number (p ∷ ps) ds))
        (all_front IsAllowed (decision_fields node nodes own least d)
        (each_decision_fields node nodes own (suc d.number) ds) was)
        (later (suc d.number) (omega (arith, below)) rest)
    by_test false lower later =
        later least from
        (decisions_lower node nodes own (suc d.number) least ds
        (let at = decision_at_least node nodes own least d ds was in omega (arith, at)) rest)

-- the number of an instance of the node's own that is held is the highest that it used
own_number : (highest : List ℕ) (permanent : ImageView) (node number : ℕ) (held : Option Tentative)
    → is_held node number held ≡ true → AreAllowed (tentative_fields highest permanent held)
    → IsAllowed (between 8 1 (suc (slice_index highest node)) number)
own_number highest permanent node number None is all = cc
own_number highest permanent node number (Some t) is all =
    let initiator : Field = record { width = 1; allows = λ v. nat_lt v (length highest); value = t.initiator } in
    let second : Field =
    record { width = 8; allows = λ v. nat_le 1 v && (v == slice_index highest t.initiator); value = t.number } in
    let image : List Field = image_fields (Some permanent) t.image in
    let field =
    All-head IsAllowed second image
    (All-tail IsAllowed initiator (second ∷ image)
    (All-tail IsAllowed (flag 1) (initiator ∷ second ∷ image) all)) in
    let same = and_parts _ _ is in
    let mine : t.initiator ≡ node = eqb-true t.initiator node same.0 in
    let its : t.number ≡ number = eqb-true t.number number same.1 in
    let tests = and_parts _ _ field.1 in
    let from : 1 ≤ t.number = leb-true 1 t.number tests.0 in
    let is_entry : t.number ≡ get_or highest t.initiator 0 = eqb-true t.number (get_or highest t.initiator 0) tests.1 in
    let entry : number ≡ get_or highest node 0 = sym its ∙ is_entry ∙ ap (λ i. get_or highest i 0) mine in
    let wide : t.number < 256 ^ 8 = field.0 in (
      subst (λ n. n < 256 ^ 8) its wide,
      and_from _ _ (le-leb 1 number (omega (arith, from, its)))
          (lt-ltb number (suc (get_or highest node 0)) (omega (arith, entry))),
    )

-- as many decisions as there may be
few_decisions : (n : ℕ) → nat_le n MAX_DECISIONS ≡ true → IsAllowed (at_most 1 MAX_DECISIONS n)
few_decisions n fits = let few = leb-true n MAX_DECISIONS fits in (omega (arith, few), fits)

allowed_decision : (kept : RecordView) (number p : ℕ) (ps : List ℕ) → IsRecord kept
    → is_held kept.node number kept.tentative ≡ true
    → nat_le (length (decided_by number (p ∷ ps) kept.decisions)) MAX_DECISIONS ≡ true
    → AreAllowed (participants kept.node (length kept.highest) 0 (p ∷ ps))
    → IsRecord (with_decision number (p ∷ ps) kept)
allowed_decision kept number p ps all held fits named =
    let parts = parts_of kept all in
    let own = slice_index kept.highest kept.node in
    let nodes = length kept.highest in
    let is = own_number kept.highest kept.permanent kept.node number kept.tentative held parts.tentative in
    whole (with_decision number (p ∷ ps) kept) (record {
      head = parts.head;
      entries = parts.entries;
      decisions =
          All-cons IsAllowed (at_most 1 MAX_DECISIONS (length (decided_by number (p ∷ ps) kept.decisions)))
          (each_decision_fields kept.node nodes own 1 (decided_by number (p ∷ ps) kept.decisions))
          (few_decisions (length (decided_by number (p ∷ ps) kept.decisions)) fits)
          (decided_allowed kept.node nodes own 1 number p ps kept.decisions (few_nodes kept parts.head)
          (leb-true 1 number (and_parts _ _ is.1).0) is named
          (All-tail IsAllowed (at_most 1 MAX_DECISIONS (length kept.decisions))
          (each_decision_fields kept.node nodes own 1 kept.decisions) parts.decisions));
      permanent = held_image kept.highest kept.permanent kept.tentative parts.permanent parts.tentative;
      tentative = nothing_held kept.highest (last_image kept.permanent kept.tentative);
    })

-- where there is no cause to refuse it the instance is held, and there is place
may_decide : (held fits : Bool) (one other : StoreFault)
    → cond held (cond fits None (Some one)) (Some other) ≡ None → (held ≡ true) × (fits ≡ true)
may_decide true true one other is = (refl, refl)
may_decide true false one other is = absurd (cc)
may_decide false fits one other is = absurd (cc)

-- so a decision that isn't refused may be written
pub decision_may_be : (kept : RecordView) (number : ℕ) (ps : List ℕ) → IsRecord kept
    → refusal_to_decide number ps kept ≡ None → AreAllowed (participants kept.node (length kept.highest) 0 ps)
    → IsRecord (with_decision number ps kept)
decision_may_be kept number [] all fine named = allowed_permanent kept all
decision_may_be kept number (p ∷ ps) all fine named =
    let may = may_decide (is_held kept.node number kept.tentative)
    (nat_le (length (decided_by number (p ∷ ps) kept.decisions)) MAX_DECISIONS) Unsettled NotHeld fine in
    allowed_decision kept number p ps all may.0 may.1 named

-- what is left of a decision, and those behind it
confirmed_one_allowed : (node nodes own least number other : ℕ) (d : DecisionView) (ds : List DecisionView)
    → nodes ≤ MAX_NODES → AreAllowed (decision_fields node nodes own least d) → least ≤ suc d.number
    → AreAllowed (each_decision_fields node nodes own (suc d.number) ds)
    → AreAllowed (each_decision_fields node nodes own least (confirmed_one number other d ++ ds))
confirmed_one_allowed node nodes own least number other d ds few one from rest =
    by_test (d.number == number) (eqb-true d.number number)
  where
    is : IsAllowed (between 8 least (suc own) d.number)
    is = All-head IsAllowed (between 8 least (suc own) d.number) (behind_number node nodes d) one

    ascend : AreAllowed (participants node nodes 0 d.participants)
    ascend =
        All-tail IsAllowed (record { width = 1; allows = λ v. nat_le 1 v; value = length d.participants })
        (participants node nodes 0 d.participants)
        (All-tail IsAllowed (between 8 least (suc own) d.number) (behind_number node nodes d) one)

    left : (qs : List ℕ) → d.number ≡ number → AreAllowed (participants node nodes 0 qs)
        → AreAllowed (each_decision_fields node nodes own least (decision_by number qs ++ ds))
    left [] same all = decisions_lower node nodes own (suc d.number) least ds from rest
    left (q ∷ qs) same all =
        let it : DecisionView = record { number = number; participants = q ∷ qs } in
        All-append IsAllowed (decision_fields node nodes own least it)
        (each_decision_fields node nodes own (suc number) ds)
        (decision_allowed node nodes own least number q qs few
        (subst (λ n. IsAllowed (between 8 least (suc own) n)) same is) all)
        (subst (λ n. AreAllowed (each_decision_fields node nodes own (suc n) ds)) same rest)

    by_test : (b : Bool) → (b ≡ true → d.number ≡ number)
        → AreAllowed
        (each_decision_fields node nodes own least
        (cond b (decision_by number (without_node other d.participants)) (d ∷ []) ++ ds))
    by_test true same =
        left (without_node other d.participants) (same refl)
        (participants_some node nodes 0 (λ p. not (p == other)) d.participants ascend)
    by_test false same =
        All-append IsAllowed (decision_fields node nodes own least d)
        (each_decision_fields node nodes own (suc d.number) ds) one rest

confirmed_allowed : (node nodes own least number other : ℕ) (ds : List DecisionView) → nodes ≤ MAX_NODES
    → AreAllowed (each_decision_fields node nodes own least ds)
    → AreAllowed (each_decision_fields node nodes own least (confirmed number other ds))
confirmed_allowed node nodes own least number other [] few all = all
confirmed_allowed node nodes own least number other (d ∷ ds) few all =
    let from = decision_at_least node nodes own least d ds all in
    subst (λ (es : List DecisionView). AreAllowed (each_decision_fields node nodes own least es))
    (sym (flat_map-cons (confirmed_one number other) d ds))
    (confirmed_one_allowed node nodes own least number other d (confirmed number other ds) few
    (all_front IsAllowed (decision_fields node nodes own least d)
    (each_decision_fields node nodes own (suc d.number) ds) all)
    (omega (arith, from))
    (confirmed_allowed node nodes own (suc d.number) number other ds few
    (all_back IsAllowed (decision_fields node nodes own least d)
    (each_decision_fields node nodes own (suc d.number) ds) all)))

pub allowed_confirmed : (kept : RecordView) (number node : ℕ) → IsRecord kept
    → IsRecord (with_confirmed number node kept)
allowed_confirmed kept number node all =
    let parts = parts_of kept all in
    let own = slice_index kept.highest kept.node in
    let nodes = length kept.highest in
    let each = each_decision_fields kept.node nodes own 1 kept.decisions in
    let counted = All-head IsAllowed (at_most 1 MAX_DECISIONS (length kept.decisions)) each parts.decisions in
    let few : length kept.decisions ≤ MAX_DECISIONS = leb-true (length kept.decisions) MAX_DECISIONS counted.1 in
    let less = confirmed_no_more number node kept.decisions in
    whole (with_confirmed number node kept) (record {
      head = parts.head;
      entries = parts.entries;
      decisions =
          All-cons IsAllowed (at_most 1 MAX_DECISIONS (length (confirmed number node kept.decisions)))
          (each_decision_fields kept.node nodes own 1 (confirmed number node kept.decisions))
          (few_decisions (length (confirmed number node kept.decisions))
          (le-leb (length (confirmed number node kept.decisions)) MAX_DECISIONS (omega (arith, few, less))))
          (confirmed_allowed kept.node nodes own 1 number node kept.decisions (few_nodes kept parts.head)
          (All-tail IsAllowed (at_most 1 MAX_DECISIONS (length kept.decisions)) each parts.decisions));
      permanent = parts.permanent;
      tentative = parts.tentative;
    })

-- how many decisions a record has
pub decisions_few : (kept : RecordView) → IsRecord kept → length kept.decisions ≤ MAX_DECISIONS
decisions_few kept all =
    let counted = All-head IsAllowed (at_most 1 MAX_DECISIONS (length kept.decisions))
    (each_decision_fields kept.node (length kept.highest) (slice_index kept.highest kept.node) 1 kept.decisions)
    (parts_of kept all).decisions in
    leb-true (length kept.decisions) MAX_DECISIONS counted.1

-- and how many nodes one may name
pub others_few : (kept : RecordView) (ps : List ℕ) → IsRecord kept
    → AreAllowed (participants kept.node (length kept.highest) 0 ps) → length ps < 256
others_few kept ps all named =
    let few = few_nodes kept (parts_of kept all).head in
    let short = length_ascending kept.node (length kept.highest) 0 ps named in
    omega (arith, few, short)

-- ---- in the next epoch

without_own_allowed : (highest : List ℕ) (permanent : ImageView) (node : ℕ) (held : Option Tentative)
    → AreAllowed (tentative_fields highest permanent held)
    → AreAllowed (tentative_fields highest permanent (without_own node held))
without_own_allowed highest permanent node None all = all
without_own_allowed highest permanent node (Some t) all = by_test (t.initiator == node)
  where
    by_test : (b : Bool) → AreAllowed (tentative_fields highest permanent (if b then None else Some t))
    by_test true = nothing_held highest permanent
    by_test false = all

pub allowed_epoch : (kept : RecordView) → IsRecord kept → kept.epoch < MAX_COUNT → IsRecord (with_epoch kept)
allowed_epoch kept all less =
    let parts = parts_of kept all in
    let nodes : Field =
    record { width = 1; allows = λ v. nat_lt kept.node v && nat_le v MAX_NODES; value = length kept.highest } in
    let behind = All-tail IsAllowed (version_field VERSION) (any 1 kept.node ∷ count kept.epoch ∷ nodes ∷ []) parts.head in
    let behind2 = All-tail IsAllowed (any 1 kept.node) (count kept.epoch ∷ nodes ∷ []) behind in
    whole (with_epoch kept) (record {
      head = All-cons IsAllowed (version_field VERSION) (any 1 kept.node ∷ count (kept.epoch + 1) ∷ nodes ∷ [])
          (All-head IsAllowed (version_field VERSION) (any 1 kept.node ∷ count kept.epoch ∷ nodes ∷ []) parts.head)
          (All-cons IsAllowed (any 1 kept.node) (count (kept.epoch + 1) ∷ nodes ∷ [])
          (All-head IsAllowed (any 1 kept.node) (count kept.epoch ∷ nodes ∷ []) behind)
          (All-cons IsAllowed (count (kept.epoch + 1)) (nodes ∷ []) (is_count (kept.epoch + 1) (omega (arith, less)))
          (All-tail IsAllowed (count kept.epoch) (nodes ∷ []) behind2)));
      entries = parts.entries;
      decisions = parts.decisions;
      permanent = parts.permanent;
      tentative = without_own_allowed kept.highest kept.permanent kept.node kept.tentative parts.tentative;
    })
