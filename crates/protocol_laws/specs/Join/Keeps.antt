-- What a station collects and keeps may be said after each deed, and so may what is sent in it.
use Rattle.std.proofs.Common.{◌≡◌, ◌⊎◌, inl, inr, ℕ, zero, suc, ◌+◌, ◌<◌, Bool, true, false, cond, List, ℤ, [], ◌∷◌}
use Rattle.std.proofs.Common.{◌++◌, length, All, Option, Some, None, refl, ap, subst, ◌∙◌, arith}
use Rattle.std.specs.Prelude.{◌≢◌, nat_lt, slice_get, filter}
use Rattle.std.specs.List.{AllByRecursion, flat_map, list_all}
use Rattle.std.proofs.lemmas.Bool.{eq-eqb, ltb-true, ne_eqb}
use Rattle.std.proofs.lemmas.List.{length-set}
use Rattle.std.proofs.lemmas.List.Elements.{All-head, All-tail}
use Rattle.datagram.specs.PacketText.{IsPositive, IsNeed}
use Rattle.protocol.specs.Node.Common.{Need, node_count, Network, IsValid, MAX_COUNT, DecisionView}
use Rattle.protocol.specs.Node.Common.{ImageView, highest_seen, with_tentative, with_permanent, without_tentative}
use Rattle.protocol.specs.Node.Common.{with_confirmed, with_epoch, RecordView, Tentative, MAX_DECISIONS, with_answer}
use Rattle.protocol.specs.Node.Common.{with_needs, joined_live, question_on, participants_of, is_incoming}
use Rattle.protocol.specs.Node.Common.{QuestionView, LiveView, RunningNode, LinksAreLaidOut}
use Rattle.ckpt_codec.specs.Common.{without_own, decided_by, decided_below, decision_by, confirmed}
use Rattle.record.specs.Common.{confirmed_one, without_node}
use Rattle.ckpt_codec.specs.SizeLaws.{confirmed_no_more}
use Rattle.recovery_line.proofs.Basics.{one_inside, same_or_other}
use Rattle.protocol.specs.World.Common.{Answer, By_took, By_covered, has_node, LiveIsSound, MayBeAskedFor, need_of}
use Rattle.protocol.specs.World.Common.{questions_seen}
use Rattle.protocol.specs.Node.Beginning.{live_begun}
use Rattle.protocol.specs.Node.Collecting.{with_taker, with_covered}
use Rattle.protocol.specs.Join.Joined.{IsOther, HeldIsSound, DecisionIsSound, KeepsNodes}
use Rattle.protocol.specs.Node.Verdicts.{decision_on}
use Rattle.protocol_laws.specs.Join.Crossings.{both_true, comes_cross, cross_within, producer_is}
use Rattle.protocol_laws.specs.Join.Spelled.{question_of}
use Rattle.protocol_laws.specs.Join.NeedLaws.{asked_only, needed_above, needed_cross, each_length, has_where_below}
use Rattle.protocol_laws.specs.Join.Questions.{answer_length, answer_elsewhere, answer_here, needs_length}
use Rattle.protocol_laws.specs.Join.Questions.{needs_new, asked_within, answered_none, answered_nothing}
use Rattle.protocol_laws.specs.Node.NumberedLaws.{where_there}
use Rattle.protocol.specs.declared.links.Inbox.{Inbox}

-- ---- lists

each_filter : {A : Type 0} (P : A → Type 0) (test : A → Bool) (xs : List A) → AllByRecursion P xs
    → AllByRecursion P (filter test xs)
each_filter P test [] all = tt
each_filter P test (x ∷ xs) all =
    let rest = each_filter P test xs all.1 in
    elim (test x) as (λ b. AllByRecursion P (cond b (x ∷ filter test xs) (filter test xs))) [
      | true ↦ (all.0, rest)
      | false ↦ rest
    ]

each_both : {A : Type 0} (P : A → Type 0) (xs ys : List A) → AllByRecursion P xs → AllByRecursion P ys
    → AllByRecursion P (xs ++ ys)
each_both P [] ys one other = other
each_both P (x ∷ xs) ys one other = (one.0, each_both P xs ys one.1 other)

each_flat : {A B : Type 0} (P : A → Type 0) (Q : B → Type 0) (f : A → List B) → ((x : A) → P x → AllByRecursion Q (f x))
    → (xs : List A) → AllByRecursion P xs → AllByRecursion Q (flat_map f xs)
each_flat P Q f each [] all = tt
each_flat P Q f each (x ∷ xs) all = each_both Q (f x) (flat_map f xs) (each x all.0) (each_flat P Q f each xs all.1)

without_fewer : (node p : ℕ) (nodes : List ℕ) → has_node p (without_node node nodes) ≡ true → has_node p nodes ≡ true
without_fewer node p [] is = absurd (cc)
without_fewer node p (q ∷ nodes) is =
    let rest = without_fewer node p nodes in
    grind (arith, rest)

-- of each element, as what stands at each place
each_place : {A : Type 0} (P : A → Type 0) (xs : List A) → AllByRecursion P xs → (i : ℕ) (x : A)
    → slice_get xs i ≡ Some x → P x
each_place P [] all i x is = absurd (cc)
each_place P (y ∷ xs) all zero x is = let same : y ≡ x = cc in subst P same all.0
each_place P (y ∷ xs) all (suc i) x is = each_place P xs all.1 i x is

each_of : {A : Type 0} (P : A → Type 0) (xs : List A) → ((i : ℕ) (x : A) → slice_get xs i ≡ Some x → P x)
    → AllByRecursion P xs
each_of P [] each = tt
each_of P (x ∷ xs) each = (each 0 x refl, each_of P xs (λ i y is. each (suc i) y is))

module _ (net : Network) (home : ℕ) where
  -- ---- records

  module _ (kept : RecordView) (keeps : KeepsNodes net home kept) where
    pub takes_keeps : (x n : ℕ) (image : ImageView) → x < node_count net → IsPositive n → MayBeAskedFor net home image
        → (x ≡ home → length kept.decisions < MAX_DECISIONS) → KeepsNodes net home (with_tentative x n image kept)
    takes_keeps x n image below positive counts few = record {
      listed = length-set kept.highest x n ∙ keeps.listed;
      held = λ held is.
          subst (HeldIsSound net home) (one_inside refl is)
          (record { initiator = below; number = positive; counts = counts });
      decisions = keeps.decisions;
      room = λ held is own. few (cc);
    }

    -- a record that holds no image, with as many numbers
    unheld : (later : RecordView) → length later.highest ≡ node_count net → later.tentative ≡ None
        → ((i : ℕ) (d : DecisionView) → slice_get later.decisions i ≡ Some d → DecisionIsSound net home d)
        → KeepsNodes net home later
    unheld later listed none decisions = record {
      listed = listed;
      held = λ held is. absurd (cc);
      decisions = decisions;
      room = λ held is own. absurd (cc);
    }

    pub drops_keeps : KeepsNodes net home (without_tentative kept)
    drops_keeps = unheld (without_tentative kept) keeps.listed refl keeps.decisions

    pub settles_keeps : KeepsNodes net home (with_permanent kept)
    settles_keeps = unheld (with_permanent kept) keeps.listed refl keeps.decisions

    pub decides_keeps : (live : LiveView) → LiveIsSound net home live → KeepsNodes net home (decision_on live kept)
    decides_keeps live sound =
        unheld (decision_on live kept) keeps.listed refl
        (each_place (DecisionIsSound net home)
        (decided_by live.number (participants_of (length kept.highest) live.takers) kept.decisions)
        (by (participants_of (length kept.highest) live.takers)
        (λ p has. sound.takers p (has_where_below (λ q. has_node q live.takers) p 0 (length kept.highest) has).0)))
      where
        by : (nodes : List ℕ) → ((p : ℕ) → has_node p nodes ≡ true → IsOther net home p)
            → AllByRecursion (DecisionIsSound net home) (decided_by live.number nodes kept.decisions)
        by [] others = each_of (DecisionIsSound net home) kept.decisions keeps.decisions
        by (p ∷ nodes) others =
            each_both (DecisionIsSound net home) (decided_below live.number kept.decisions)
            (decision_by live.number (p ∷ nodes))
            (each_filter (DecisionIsSound net home) (λ (d : DecisionView). nat_lt d.number live.number) kept.decisions
            (each_of (DecisionIsSound net home) kept.decisions keeps.decisions))
            (record { number = sound.number; others = others }, tt)

    pub confirms_keeps : (n p : ℕ) → KeepsNodes net home (with_confirmed n p kept)
    confirms_keeps n p = record {
      listed = keeps.listed;
      held = keeps.held;
      decisions = each_place (DecisionIsSound net home) (confirmed n p kept.decisions)
          (each_flat (DecisionIsSound net home) (DecisionIsSound net home) (confirmed_one n p) one kept.decisions
          (each_of (DecisionIsSound net home) kept.decisions keeps.decisions));
      room = λ held is own. (let before = keeps.room held is own in
          let less = confirmed_no_more n p kept.decisions in omega (arith, before, less));
    }
      where
        few : (nodes : List ℕ) → IsPositive n → ((q : ℕ) → has_node q nodes ≡ true → IsOther net home q)
            → AllByRecursion (DecisionIsSound net home) (decision_by n nodes)
        few [] positive others = tt
        few (q ∷ nodes) positive others = (record { number = positive; others = others }, tt)

        one : (d : DecisionView) → DecisionIsSound net home d
            → AllByRecursion (DecisionIsSound net home) (confirmed_one n p d)
        one d sound = elim (same_or_other d.number n) [
          | inl same ↦ rw (eq-eqb d.number n same)
              (few (without_node p d.participants) (rw same at sound.number)
              (λ q has. sound.others q (without_fewer p q d.participants has)))
          | inr other ↦ rw (ne_eqb d.number n other) (sound, tt)
        ]

    pub epoch_keeps : KeepsNodes net home (with_epoch kept)
    epoch_keeps = record {
      listed = keeps.listed;
      held = λ held is. keeps.held held (still held is);
      decisions = keeps.decisions;
      room = λ held is own. keeps.room held (still held is) own;
    }
      where
        still : (held : Tentative) → without_own kept.node kept.tentative ≡ Some held → kept.tentative ≡ Some held
        still held is = grind arith

  -- ---- what is collected

  module _ (inputs : List (List ℤ)) (valid : IsValid net) (here : home < node_count net) where
    pub begun_sound : (kept : RecordView) (image : ImageView) → nat_lt (highest_seen home kept) MAX_COUNT ≡ true
        → MayBeAskedFor net home image → LiveIsSound net home (live_begun net home kept image)
    begun_sound kept image less counts = record {
      wide = each_length (question_on net home kept.permanent image) 0 (length net.channels);
      number = (let below = ltb-true (highest_seen home kept) MAX_COUNT less in (omega arith, omega (arith, below)));
      questions = λ c m answer is.
          let asked = asked_only net home valid kept.permanent image c m answer is in
          let cross = needed_cross net home valid kept.permanent image c asked.0 in
          let more = needed_above net home valid kept.permanent image c asked.0 in
          let few = counts c (both_true (is_incoming net home c) _ asked.0).0 in
          let count = asked.1 in
          question_of net inputs valid home here c m cross.0 home
          (omega (arith, more, count), omega (arith, few, count)) cross.1 cross.1.apart;
      takers = λ p has. absurd (cc);
    }

    -- where one is answered, as many are asked for
    answered_count : (questions : List (Option QuestionView)) (c d m : ℕ) (answer b : Answer)
        → questions_seen (with_answer answer c questions) d ≡ Some (m, b)
        → (before : Answer) × (questions_seen questions d ≡ Some (m, before))
    answered_count questions c d m answer b is = elim (same_or_other d c) [
      | inl here ↦ at here (slice_get questions c) refl
      | inr other ↦ (b, rw (answer_elsewhere questions c answer d other) at is)
    ]
      where
        at : d ≡ c → (o : Option (Option QuestionView)) → slice_get questions c ≡ o
            → (before : Answer) × (questions_seen questions d ≡ Some (m, before))
        at here None there = absurd (let none = answered_none questions c answer there in cc)
        at here (Some None) there = absurd (let none = answered_nothing questions c answer there in cc)
        at here (Some (Some q)) there =
            let now = one_inside (rw here at is) (answer_here questions c answer q there) in
            (q.answer, rw (here, there, ap (λ (x : ℕ × Answer). x.0) now) refl)

    pub covered_sound : (live : LiveView) (c : ℕ) → LiveIsSound net home live
        → LiveIsSound net home (with_covered c live)
    covered_sound live c sound = record {
      wide = answer_length live.questions c By_covered ∙ sound.wide;
      number = sound.number;
      questions = λ d m answer is.
          let before = answered_count live.questions c d m By_covered answer is in
          sound.questions d m before.0 before.1;
      takers = sound.takers;
    }

    need_there : (needs : List Need) (p d j : ℕ) → need_of needs d ≡ Some j → All IsNeed needs
        → list_all (λ (need : Need). is_incoming net p need.channel) needs ≡ true
        → IsPositive j × (is_incoming net p d ≡ true)
    need_there [] p d j is each all = absurd (cc)
    need_there (need ∷ needs) p d j is each all =
        let both = both_true (is_incoming net p need.channel)
        (list_all (λ (n : Need). is_incoming net p n.channel) needs) all in
        elim (same_or_other need.channel d) [
          | inl same ↦ (let found = rw (eq-eqb need.channel d same) at is in
              (rw (one_inside refl found) at (All-head IsNeed need needs each).1, rw same at both.0))
          | inr other ↦ need_there needs p d j (rw (ne_eqb need.channel d other) at is) (All-tail IsNeed need needs each)
              both.1
        ]

    taker_was : (p q : ℕ) (takers : List ℕ) → has_node q (with_taker p takers) ≡ true
        → (has_node q takers ≡ true) ⊎ (p ≡ q)
    taker_was p q takers is = elim (same_or_other p q) [
      | inl same ↦ inr same
      | inr apart ↦ inl (let others = appended takers apart in grind (arith, others))
    ]
      where
        appended : (xs : List ℕ) → p ≢ q → has_node q (xs ++ p ∷ []) ≡ has_node q xs
        appended [] apart = rw (ne_eqb p q apart) refl
        appended (x ∷ xs) apart = rw (appended xs apart) refl

    pub joined_sound : (live : LiveView) (p c : ℕ) (needs : List Need) → LiveIsSound net home live → IsOther net home p
        → All IsNeed needs → list_all (λ (need : Need). is_incoming net p need.channel) needs ≡ true
        → LiveIsSound net home (joined_live net home p c needs live)
    joined_sound live p c needs sound other each all =
        let answered = with_answer By_took c live.questions in
        let same = needs_length net home needs answered in
        record {
          wide = same ∙ (answer_length live.questions c By_took ∙ sound.wide);
          number = sound.number;
          questions = λ d m answer is.
              let later = asked_within (with_needs net home needs answered) d (m, answer) is in
              elim (needs_new net home needs answered d m answer (omega (arith, later, same)) is) [
                | inl before ↦ (let was = answered_count live.questions c d m By_took answer before in
                    sound.questions d m was.0 was.1)
                | inr new ↦ (let need = need_there needs p d m new.0 each all in
                    let cross = comes_cross net p d valid need.1 in
                    question_of net inputs valid home here d m cross.0 p need.0 cross.1
                    (λ own. new.2 (producer_is net d cross.0 cross.1.from ∙ own)))
              ];
          takers = λ q has. elim (taker_was p q live.takers has) [
            | inl was ↦ sound.takers q was
            | inr same ↦ subst (IsOther net home) same other
          ];
        }

    -- what a node that runs has now may be asked for
    pub current_counts : (node : RunningNode) → LinksAreLaidOut net home node → MayBeAskedFor net home node.current
    current_counts node links c incoming =
        let within : c < 0 + length net.channels =
        (let cross = comes_cross net home c valid incoming in
        let below = cross_within net c cross.0 home cross.1 in omega (arith, below)) in
        let found = where_there (λ (inbox : Inbox). inbox.channel) (is_incoming net home) 0 (length net.channels) c
        node.inboxes links.incoming incoming (omega arith) within in
        let sound = links.inboxes found.0 found.1 found.2 in
        let begins = rw found.3 at sound.begins in
        let last = sound.last in
        omega (arith, begins, last)
