-- Laws of the questions that a node has asked: one is answered, and the needs of those that took part make new ones.
use Rattle.std.proofs.Common.{◌≡◌, ◌⊎◌, inl, inr, ℕ, zero, suc, ◌<◌, Bool, true, false, List, [], ◌∷◌, length, Option}
use Rattle.std.proofs.Common.{Some, None, refl, sym, ap, ◌∙◌, arith}
use Rattle.std.specs.Prelude.{◌≢◌, slice_get, slice_set}
use Rattle.std.proofs.lemmas.Bool.{eq-eqb, ne_eqb}
use Rattle.std.proofs.lemmas.List.{length-set}
use Rattle.protocol.specs.Node.Common.{Need, Network, was_asked, with_answer, with_needs, producer_node, QuestionView}
use Rattle.recovery_line.proofs.Basics.{one_inside, same_or_other}
use Rattle.protocol.specs.World.Common.{Answer, Awaited, need_of, question_seen, questions_seen}
use Rattle.protocol.specs.Node.Collecting.{is_awaited, is_question, is_open_at, new_question, with_need}
use Rattle.protocol_laws.specs.Join.Leading.{set_there}
use Rattle.protocol_laws.specs.World.PairLaws.{elsewhere_set}

-- ---- one question

-- what was asked of a channel stands at its place
pub question_at : (questions : List (Option QuestionView)) (c : ℕ) → was_asked c questions ≡ true
    → (question : QuestionView) × (slice_get questions c ≡ Some (Some question))
question_at questions c is = by (slice_get questions c) is
  where
    by : (o : Option (Option QuestionView)) → is_question o ≡ true
        → (question : QuestionView) × (o ≡ Some (Some question))
    by (Some (Some question)) e = (question, refl)
    by o e = absurd (cc)

pub open_at : (questions : List (Option QuestionView)) (c : ℕ) → is_open_at (slice_get questions c) ≡ true
    → (question : QuestionView) × (slice_get questions c ≡ Some (Some question)) × (question.answer ≡ Awaited)
open_at questions c is = by (slice_get questions c) is
  where
    awaited : (answer : Answer) → is_awaited answer ≡ true → answer ≡ Awaited
    awaited answer e = grind arith

    by : (o : Option (Option QuestionView)) → is_open_at o ≡ true
        → (question : QuestionView) × (o ≡ Some (Some question)) × (question.answer ≡ Awaited)
    by (Some (Some question)) e = (question, refl, awaited question.answer e)
    by o e = absurd (cc)

asked_is : (questions : List (Option QuestionView)) (c : ℕ) (v : ℕ × Answer) → questions_seen questions c ≡ Some v
    → was_asked c questions ≡ true
asked_is questions c v is = grind arith

pub asked_within : (questions : List (Option QuestionView)) (c : ℕ) (v : ℕ × Answer)
    → questions_seen questions c ≡ Some v → c < length questions
asked_within [] c v is = absurd (cc)
asked_within (q ∷ questions) zero v is = omega arith
asked_within (q ∷ questions) (suc c) v is =
    let rest = asked_within questions c v is in
    omega (arith, rest)

pub set_question : (questions : List (Option QuestionView)) (c : ℕ) (question : QuestionView) → c < length questions
    → questions_seen (slice_set questions c (Some question)) c ≡ Some (question.count, question.answer)
set_question [] c question within = absurd (omega (arith, within))
set_question (q ∷ questions) zero question within = refl
set_question (q ∷ questions) (suc c) question within = set_question questions c question (omega (arith, within))

set_elsewhere : (questions : List (Option QuestionView)) (c d : ℕ) (question : Option QuestionView) → d ≢ c
    → questions_seen (slice_set questions c question) d ≡ questions_seen questions d
set_elsewhere questions c d question other = ap question_seen (elsewhere_set questions c question d other)

-- ---- an answer to it

module _ (questions : List (Option QuestionView)) (c : ℕ) (answer : Answer) where
  pub answer_here : (question : QuestionView) → slice_get questions c ≡ Some (Some question)
      → questions_seen (with_answer answer c questions) c ≡ Some (question.count, answer)
  answer_here question is =
      rw (is, set_there questions c (Some question) (Some (record { count = question.count; answer = answer })) is) refl

  -- where nothing was asked, nothing is
  pub answered_none : slice_get questions c ≡ None → questions_seen (with_answer answer c questions) c ≡ None
  answered_none is = rw (is, is) refl

  pub answered_nothing : slice_get questions c ≡ Some None → questions_seen (with_answer answer c questions) c ≡ None
  answered_nothing is = rw (is, set_there questions c None None is) refl

  pub answer_elsewhere : (d : ℕ) → d ≢ c
      → questions_seen (with_answer answer c questions) d ≡ questions_seen questions d
  answer_elsewhere d other = grind (arith, set_elsewhere)

  pub answer_length : length (with_answer answer c questions) ≡ length questions
  answer_length = grind (arith, length-set)

-- ---- questions that needs make

module _ (net : Network) (home : ℕ) where
  -- a need makes none, since the channel is the node's own, or since it was asked for; or it makes one
  pub data AfterNeed (need : Need) (questions later : List (Option QuestionView)) : Type 0 where
    Own : producer_node net need.channel ≡ home → later ≡ questions → AfterNeed need questions later
    Asked : (v : ℕ × Answer) → questions_seen questions need.channel ≡ Some v → later ≡ questions
        → AfterNeed need questions later
    Asks : producer_node net need.channel ≢ home → was_asked need.channel questions ≡ false
        → later ≡ slice_set questions need.channel (new_question need) → AfterNeed need questions later

  after_need : (need : Need) (questions : List (Option QuestionView))
      → AfterNeed need questions (with_need net home need questions)
  after_need need questions = elim (same_or_other (producer_node net need.channel) home) [
    | inl own ↦ Own own (rw (eq-eqb (producer_node net need.channel) home own) refl)
    | inr other ↦ by other (was_asked need.channel questions) refl
  ]
    where
      by : producer_node net need.channel ≢ home → (asked : Bool) → was_asked need.channel questions ≡ asked
          → AfterNeed need questions (with_need net home need questions)
      by other true e =
          let there = question_at questions need.channel e in
          Asked (there.0.count, there.0.answer) (ap question_seen there.1)
          (rw (ne_eqb (producer_node net need.channel) home other, e) refl)
      by other false e = Asks other e (rw (ne_eqb (producer_node net need.channel) home other, e) refl)

  pub need_length : (need : Need) (questions : List (Option QuestionView))
      → length (with_need net home need questions) ≡ length questions
  need_length need questions = grind (arith, length-set)

  one_stays : (need : Need) (questions later : List (Option QuestionView)) → AfterNeed need questions later → (d : ℕ)
      (v : ℕ × Answer) → questions_seen questions d ≡ Some v → questions_seen later d ≡ Some v
  one_stays need questions later (Own own same) d v is = rw same is
  one_stays need questions later (Asked u before same) d v is = rw same is
  one_stays need questions later (Asks other new same) d v is = elim (same_or_other d need.channel) [
    | inl here ↦ absurd (let asked = asked_is questions need.channel v (rw here at is) in cc)
    | inr apart ↦ rw (same, set_elsewhere questions need.channel d (new_question need) apart) is
  ]

  one_elsewhere : (need : Need) (questions later : List (Option QuestionView)) → AfterNeed need questions later
      → (d : ℕ) → d ≢ need.channel → questions_seen later d ≡ questions_seen questions d
  one_elsewhere need questions later (Own own same) d apart = rw same refl
  one_elsewhere need questions later (Asked v before same) d apart = rw same refl
  one_elsewhere need questions later (Asks other new same) d apart =
      rw same (set_elsewhere questions need.channel d (new_question need) apart)

  -- what was asked of the need's channel afterwards, where the channel isn't the node's own
  one_here : (need : Need) (questions later : List (Option QuestionView)) → AfterNeed need questions later
      → producer_node net need.channel ≢ home → need.channel < length questions
      → (v : ℕ × Answer) × (questions_seen later need.channel ≡ Some v)
  one_here need questions later (Own own same) other within = absurd (other own)
  one_here need questions later (Asked v before same) other within = (v, rw same before)
  one_here need questions later (Asks apart new same) other within = (
    (need.count, Awaited),
    rw same (set_question questions need.channel (record { count = need.count; answer = Awaited }) within),
  )

  -- ---- all of them

  pub needs_length : (needs : List Need) (questions : List (Option QuestionView))
      → length (with_needs net home needs questions) ≡ length questions
  needs_length [] questions = refl
  needs_length (need ∷ needs) questions =
      needs_length needs (with_need net home need questions) ∙ need_length need questions

  -- what was asked before stays
  pub needs_stay : (needs : List Need) (questions : List (Option QuestionView)) (d : ℕ) (v : ℕ × Answer)
      → questions_seen questions d ≡ Some v → questions_seen (with_needs net home needs questions) d ≡ Some v
  needs_stay [] questions d v is = is
  needs_stay (need ∷ needs) questions d v is =
      needs_stay needs (with_need net home need questions) d v
      (one_stays need questions (with_need net home need questions) (after_need need questions) d v is)

  -- a question afterwards was asked before, or is a need on another node's channel
  pub needs_new : (needs : List Need) (questions : List (Option QuestionView)) (d j : ℕ) (answer : Answer)
      → d < length questions → questions_seen (with_needs net home needs questions) d ≡ Some (j, answer)
      → (questions_seen questions d ≡ Some (j, answer))
      ⊎ ((need_of needs d ≡ Some j) × (answer ≡ Awaited) × (producer_node net d ≢ home))
  needs_new [] questions d j answer within is = inl is
  needs_new (need ∷ needs) questions d j answer within is =
      let one = after_need need questions in
      let rest = needs_new needs (with_need net home need questions) d j answer
      (let same = need_length need questions in omega (arith, within, same)) is in
      elim (same_or_other need.channel d) [
        | inl there ↦ rw (eq-eqb need.channel d there) (here there one rest)
        | inr apart ↦ rw (ne_eqb need.channel d apart)
            (rw (one_elsewhere need questions (with_need net home need questions) one d (λ same. apart (sym same))) at rest)
      ]
    where
      lasts : (v : ℕ × Answer) → questions_seen (with_need net home need questions) d ≡ Some v → (j, answer) ≡ v
      lasts v now = one_inside is (needs_stay needs (with_need net home need questions) d v now)

      here : need.channel ≡ d → AfterNeed need questions (with_need net home need questions)
          → (questions_seen (with_need net home need questions) d ≡ Some (j, answer))
          ⊎ ((need_of needs d ≡ Some j) × (answer ≡ Awaited) × (producer_node net d ≢ home))
          → (questions_seen questions d ≡ Some (j, answer))
          ⊎ ((Some need.count ≡ Some j) × (answer ≡ Awaited) × (producer_node net d ≢ home))
      here there (Own own same) (inl was) = inl (rw same at was)
      here there (Own own same) (inr new) = absurd (new.2 (rw there at own))
      here there (Asked v before same) rest =
          let was = rw there at before in
          let now = lasts v (rw same was) in
          inl (rw now was)
      here there (Asks other new same) rest =
          let set = set_question questions need.channel (record { count = need.count; answer = Awaited })
          (omega (arith, within, there)) in
          let now = lasts (need.count, Awaited) (rw (same, ← there) set) in
          inr (
            ap (λ (x : ℕ × Answer). Some (x.0)) (sym now),
            ap (λ (x : ℕ × Answer). x.1) now,
            λ own. other (rw there own),
          )

  -- and each need on another node's channel was asked for
  pub needs_met : (needs : List Need) (questions : List (Option QuestionView)) (d j : ℕ) → need_of needs d ≡ Some j
      → producer_node net d ≢ home → d < length questions
      → (v : ℕ × Answer) × (questions_seen (with_needs net home needs questions) d ≡ Some v)
  needs_met [] questions d j is other within = absurd (cc)
  needs_met (need ∷ needs) questions d j is other within = elim (same_or_other need.channel d) [
    | inl there ↦ (
        let one = one_here need questions (with_need net home need questions) (after_need need questions)
        (λ own. other (rw there at own)) (omega (arith, within, there)) in (
          one.0,
          needs_stay needs (with_need net home need questions) d one.0
              (ap (questions_seen (with_need net home need questions)) (sym there) ∙ one.1),
        ))
    | inr apart ↦ needs_met needs (with_need net home need questions) d j (rw (ne_eqb need.channel d apart) at is) other
        (let same = need_length need questions in omega (arith, within, same))
  ]
