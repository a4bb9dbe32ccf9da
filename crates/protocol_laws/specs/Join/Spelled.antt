-- What a node says of checkpoints has a spelling, and names nodes and channels as they run.
use Rattle.std.proofs.Common.{◌≡◌, ℕ, zero, suc, ◌+◌, ◌<◌, ◌≤◌, true, List, ℤ, [], ◌∷◌, length, map, All, Option, Some}
use Rattle.std.proofs.Common.{None, refl, sym, ◌∙◌, arith}
use Rattle.std.specs.Prelude.{◌≢◌, IsTrue, slice_get, slice_index}
use Rattle.std.specs.List.{flat_map, list_all}
use Rattle.std.specs.List.Sorted.{IsStrictlyIncreasing}
use Rattle.std.proofs.lemmas.List.Elements.{All-nil, All-cons, All-append, All-head, All-tail}
use Rattle.protocol.specs.Node.Common.{IsPacket, Body, Need, Packet, node_count, Network, IsValid, DecisionView}
use Rattle.protocol.specs.Node.Common.{ImageView, RecordView, Tentative, AskAnswer, Silent, CoveredBefore, TookBefore}
use Rattle.protocol.specs.Node.Common.{TakesNow, Declines, live_asks, is_needed, need_on, in_front, commit_to}
use Rattle.protocol.specs.Node.Common.{settled_packets, verdict_packets, are_nodes, names_right, names_run}
use Rattle.protocol.specs.Node.Common.{producer_node, is_incoming, is_outgoing, numbers_where, QuestionView, LiveView}
use Rattle.datagram.specs.PacketText.{IsPositive, IsNeed, IsBody, AreNeeds, channels}
use Rattle.datagram.specs.declared.packet.Body.TheVariants as says
use Rattle.datagram.specs.declared.packet.Reason.{Reason}
use Rattle.protocol.specs.World.Common.{IsCross, Answer, has_node, LiveIsSound, MayBeAskedFor, questions_seen, net_seen}
use Rattle.protocol.specs.Node.Answering.{answer_packets, took_packet}
use Rattle.protocol.specs.Node.Beginning.{ask_on, open_question, open_questions}
use Rattle.protocol.specs.Node.Collecting.{with_need, new_ask, new_asks}
use Rattle.protocol.specs.Join.Joined.{IsOther, IsQuestion, DecisionIsSound, KeepsNodes}
use Rattle.protocol.specs.Node.Needs.{needs_of, held_needs}
use Rattle.protocol.specs.Node.Telling.{decision_packets, query_packets, verdicts_told}
use Rattle.protocol_laws.specs.Join.Crossings.{both_true, channel_within, comes_cross, cross_goes, goes_cross}
use Rattle.protocol_laws.specs.Join.Crossings.{cross_within, producer_below, producer_is}
use Rattle.protocol_laws.specs.Join.NeedLaws.{needed_above}
use Rattle.protocol_laws.specs.Node.PlaceLaws.{nodes_few}
use Rattle.protocol.specs.World.Traffic.{PacketIsSound}
use Rattle.protocol_laws.specs.World.SendLaws.{IsSendable}

-- a packet that has a spelling, names what there is, and says what belongs
pub record IsSayable (net : Network) (inputs : List (List ℤ)) (packet : Packet) : Type 0 where
  pub allowed : IsPacket packet
  pub names : IsTrue (names_right net packet)
  pub sound : PacketIsSound net inputs packet

-- such packets may be sent
pub all_sendable : (net : Network) (inputs : List (List ℤ)) (packets : List Packet)
    → All (IsSayable net inputs) packets → All (IsSendable net inputs) packets
all_sendable net inputs packets said k d within =
    let it = said k d within in record { writable = λ fits. it.allowed; names = it.names; sound = it.sound }

module _ (net : Network) (inputs : List (List ℤ)) (valid : IsValid net) (home : ℕ) (here : home < node_count net) where
  pub none_sendable : All (IsSayable net inputs) []
  none_sendable = All-nil (IsSayable net inputs)

  pub one_sendable : (packet : Packet) → IsSayable net inputs packet → All (IsSayable net inputs) (packet ∷ [])
  one_sendable packet is = All-cons (IsSayable net inputs) packet [] is none_sendable

  nodes_are : (p : ℕ) → IsOther net home p → are_nodes net home p ≡ true
  nodes_are p other = let below = other.below in let apart = other.apart in grind arith

  pub other_of : (p : ℕ) → are_nodes net p home ≡ true → IsOther net home p
  other_of p nodes = record { below = grind arith; apart = grind arith }

  -- a packet to another node that says so is fit to be sent
  says_to : (p : ℕ) (body : Body) → IsOther net home p → IsBody body → names_run net home p body ≡ true
      → PacketIsSound net inputs (record { from = home; to = p; body = body })
      → IsSayable net inputs (record { from = home; to = p; body = body })
  says_to p body other allowed names sound = record {
    allowed = record {
      from = omega (arith, nodes_few net valid);
      to = omega (arith, nodes_few net valid, other.below);
      apart = λ same. other.apart (sym same);
      body = allowed;
    };
    names = names;
    sound = sound;
  }

  -- ---- questions

  other_from : (p : ℕ) → are_nodes net home p ≡ true → IsOther net home p
  other_from p nodes = record { below = grind arith; apart = grind arith }

  -- a channel from another node may be asked for
  pub question_of : (c m from to : ℕ) → IsPositive m → IsCross (net_seen net) c from to → from ≢ home
      → IsQuestion net home c m
  question_of c m from to positive cross apart =
      let producer : producer_node net c ≡ from = producer_is net c from cross.from in
      record {
        positive = positive;
        nodes = rw producer (nodes_are from (record { below = producer_below net c from cross.from; apart = apart }));
        goes = rw producer (cross_goes net from c to cross);
      }

  ask_sendable : (number c m : ℕ) → IsPositive number → IsQuestion net home c m
      → IsSayable net inputs (ask_on net home number c m)
  ask_sendable number c m positive question =
      let p = producer_node net c in
      let cross = goes_cross net p c valid question.goes in
      let within = cross_within net c p cross.0 cross.1 in
      says_to p (says.Ask number c m) (other_from p question.nodes) (positive, omega arith, question.positive)
      (rw (question.nodes, question.goes) refl) tt

  in_front_sendable : (o : Option Packet) (packets : List Packet)
      → ((packet : Packet) → o ≡ Some packet → IsSayable net inputs packet) → All (IsSayable net inputs) packets
      → All (IsSayable net inputs) (in_front o packets)
  in_front_sendable None packets one rest = rest
  in_front_sendable (Some packet) packets one rest =
      All-cons (IsSayable net inputs) packet packets (one packet refl) rest

  questions_sendable : (number : ℕ) → IsPositive number → (c : ℕ) (questions : List (Option QuestionView))
      → ((j m : ℕ) (answer : Answer) → questions_seen questions j ≡ Some (m, answer) → IsQuestion net home (c + j) m)
      → All (IsSayable net inputs) (open_questions net home number c questions)
  questions_sendable number positive c [] each = none_sendable
  questions_sendable number positive c (None ∷ questions) each =
      questions_sendable number positive (suc c) questions
      (λ j m answer is. (let e : suc c + j ≡ c + suc j = omega arith in rw e (each (suc j) m answer is)))
  questions_sendable number positive c (Some q ∷ questions) each =
      in_front_sendable (open_question net home number c (Some q)) (open_questions net home number (suc c) questions)
      (λ packet is.
      let asked : ask_on net home number c q.count ≡ packet = grind arith in
      let e : c ≡ c + 0 = omega arith in
      rw (← asked) (ask_sendable number c q.count positive (rw e (each 0 q.count q.answer refl))))
      (questions_sendable number positive (suc c) questions
      (λ j m answer is. (let e : suc c + j ≡ c + suc j = omega arith in rw e (each (suc j) m answer is))))

  pub asks_sendable : (live : LiveView) → LiveIsSound net home live
      → All (IsSayable net inputs) (live_asks net home (Some live))
  asks_sendable live sound =
      questions_sendable live.number sound.number 0 live.questions
      (λ j m answer is. (let e : 0 + j ≡ j = omega arith in rw e (sound.questions j m answer is)))

  -- a need of a node that took part, on another node's channel, may be asked for
  need_question : (p : ℕ) (need : Need) → IsNeed need → is_incoming net p need.channel ≡ true
      → producer_node net need.channel ≢ home → IsQuestion net home need.channel need.count
  need_question p need is incoming other =
      let cross = comes_cross net p need.channel valid incoming in
      question_of need.channel need.count cross.0 p is.1 cross.1
      (λ same. other (producer_is net need.channel cross.0 cross.1.from ∙ same))

  pub new_sendable : (number p : ℕ) → IsPositive number → (needs : List Need) (questions : List (Option QuestionView))
      → All IsNeed needs → list_all (λ (need : Need). is_incoming net p need.channel) needs ≡ true
      → All (IsSayable net inputs) (new_asks net home number needs questions)
  new_sendable number p positive [] questions each all = none_sendable
  new_sendable number p positive (need ∷ needs) questions each all =
      let both = both_true (is_incoming net p need.channel)
      (list_all (λ (n : Need). is_incoming net p n.channel) needs) all in
      in_front_sendable (new_ask net home number need questions)
      (new_asks net home number needs (with_need net home need questions))
      (λ packet is.
      let apart : producer_node net need.channel ≢ home = grind arith in
      let asked : ask_on net home number need.channel need.count ≡ packet = grind arith in
      rw (← asked) (ask_sendable number need.channel need.count positive
      (need_question p need (All-head IsNeed need needs each) both.0 apart)))
      (new_sendable number p positive needs (with_need net home need questions) (All-tail IsNeed need needs each)
      both.1)

  -- ---- the needs of an image

  increasing : (x : ℕ) (xs : List ℕ) → (0 < length xs → x < slice_index xs 0) → IsStrictlyIncreasing xs
      → IsStrictlyIncreasing (x ∷ xs)
  increasing x xs first rest zero within = first (omega (arith, within))
  increasing x xs first rest (suc k) within =
      let less = rest k (omega arith) in let e : suc k + 1 ≡ suc (k + 1) = omega arith in rw e less

  module _ (permanent image : ImageView) (few : MayBeAskedFor net home image) where
    -- the needs on so many channels from this one on
    abbrev needs_from : ℕ → ℕ → List Need
    needs_from first count = map (need_on image) (numbers_where (is_needed net home permanent image) first count)

    first_from : (first count : ℕ) → 0 < length (channels (needs_from first count))
        → first ≤ slice_index (channels (needs_from first count)) 0
    first_from first zero some = absurd (omega (arith, some))
    first_from first (suc count) some = grind (arith, first_from (suc first) count)

    ascending : (first count : ℕ) → IsStrictlyIncreasing (channels (needs_from first count))
    ascending first zero = λ k within. absurd (omega (arith, within))
    ascending first (suc count) =
        let rest = ascending (suc first) count in
        let more = increasing first _ (first_from (suc first) count) rest in
        grind (arith, more, rest)

    many : (first count : ℕ) → length (needs_from first count) ≤ count
    many first zero = omega arith
    many first (suc count) = grind (arith, many (suc first) count)

    one_need : (c : ℕ) → is_needed net home permanent image c ≡ true → IsNeed (need_on image c)
    one_need c is =
        let incoming : is_incoming net home c ≡ true = grind arith in
        let more = needed_above net home valid permanent image c is in
        let within = channel_within net home c incoming in
        (omega arith, (omega (arith, more), few c incoming))

    each_need : (first count : ℕ) → All IsNeed (needs_from first count)
    each_need first zero = All-nil IsNeed
    each_need first (suc count) =
        grind (arith, All-cons IsNeed (need_on image first), one_need first, each_need (suc first) count)

    pub needs_written : AreNeeds (needs_of net home permanent image)
    needs_written = record {
      count = omega (arith, many 0 (length net.channels));
      each = each_need 0 (length net.channels);
      ascending = ascending 0 (length net.channels);
    }

    pub needs_incoming : list_all (λ (need : Need). is_incoming net home need.channel)
        (needs_of net home permanent image) ≡ true
    needs_incoming = from_channel 0 (length net.channels)
      where
        from_channel : (first count : ℕ)
            → list_all (λ (need : Need). is_incoming net home need.channel) (needs_from first count) ≡ true
        from_channel first zero = refl
        from_channel first (suc count) = grind (arith, from_channel (suc first) count)

  -- ---- answers to a question that may be asked

  module _ (x n c m : ℕ) (asked : IsBody (says.Ask n c m)) (names : names_run net x home (says.Ask n c m) ≡ true)
      (kept : RecordView)
      (held : (h : Tentative) → kept.tentative ≡ Some h → MayBeAskedFor net home h.image) where
    parts : (are_nodes net x home ≡ true) × (is_outgoing net home c ≡ true)
    parts = both_true (are_nodes net x home) (is_outgoing net home c) names

    other : IsOther net home x
    other = other_of x parts.0

    said : are_nodes net home x ≡ true
    said = nodes_are x other

    needs_are : (o : Option Tentative) → kept.tentative ≡ o
        → AreNeeds (held_needs net home kept.permanent o)
        × (list_all (λ (need : Need). is_incoming net home need.channel) (held_needs net home kept.permanent o) ≡ true)
    needs_are None is = (
      record { count = omega arith; each = All-nil IsNeed; ascending = λ k within. absurd (omega (arith, within)) },
      refl,
    )
    needs_are (Some h) is =
        (needs_written kept.permanent h.image (held h is), needs_incoming kept.permanent h.image (held h is))

    took_sendable : IsSayable net inputs (took_packet net home x n c m kept)
    took_sendable =
        let needs = needs_are kept.tentative refl in
        says_to x (says.Took n c m (held_needs net home kept.permanent kept.tentative)) other
        (asked.0, asked.1, asked.2, needs.0) (rw (said, parts.1, needs.1) refl) tt

    pub declined_sendable : (reason : Reason)
        → IsSayable net inputs (record { from = home; to = x; body = says.Refused n c reason })
    declined_sendable reason =
        says_to x (says.Refused n c reason) other (asked.0, asked.1) (rw (said, parts.1) refl) tt

    pub answers_sendable : (answer : AskAnswer)
        → All (IsSayable net inputs) (answer_packets net home x n c m kept answer)
    answers_sendable Silent = none_sendable
    answers_sendable CoveredBefore =
        one_sendable _ (says_to x (says.Covered n c m) other asked (rw (said, parts.1) refl) tt)
    answers_sendable TookBefore = one_sendable _ took_sendable
    answers_sendable TakesNow = one_sendable _ took_sendable
    answers_sendable (Declines reason) = one_sendable _ (declined_sendable reason)

  -- ---- verdicts

  pub commit_sendable : (n p : ℕ) → IsPositive n → IsOther net home p → IsSayable net inputs (commit_to home n p)
  commit_sendable n p positive other = says_to p (says.Commit n) other positive (nodes_are p other) tt

  pub commits_sendable : (n : ℕ) → IsPositive n → (nodes : List ℕ)
      → ((p : ℕ) → has_node p nodes ≡ true → IsOther net home p)
      → All (IsSayable net inputs) (map (commit_to home n) nodes)
  commits_sendable n positive [] others = none_sendable
  commits_sendable n positive (p ∷ nodes) others =
      All-cons (IsSayable net inputs) (commit_to home n p) (map (commit_to home n) nodes)
      (commit_sendable n p positive (others p (grind arith)))
      (commits_sendable n positive nodes (λ q is. others q (grind (arith, is))))

  pub settled_sendable : (x n : ℕ) (kept : RecordView) → IsPositive n → IsOther net home x
      → All (IsSayable net inputs) (settled_packets home x n kept)
  settled_sendable x n kept positive other =
      let said = one_sendable _ (says_to x (says.Settled n) other positive (nodes_are x other) tt) in
      grind (arith, none_sendable, said)

  pub verdict_sendable : (p n : ℕ) (kept : RecordView) (live : Option LiveView) → IsPositive n → IsOther net home p
      → All (IsSayable net inputs) (verdict_packets home p n kept live)
  verdict_sendable p n kept live positive other =
      let commit = one_sendable _ (commit_sendable n p positive other) in
      let ended = one_sendable _ (says_to p (says.Ended n) other positive (nodes_are p other) tt) in
      grind (arith, none_sendable, commit, ended)

  -- what is said of decisions, and of an image that is held, in a turn
  pub told_sendable : (kept : RecordView) → KeepsNodes net home kept
      → All (IsSayable net inputs) (verdicts_told home kept)
  told_sendable kept keeps =
      All-append (IsSayable net inputs) (flat_map (decision_packets home) kept.decisions)
      (query_packets home kept.tentative) (decisions kept.decisions keeps.decisions)
      (query kept.tentative refl)
    where
      decisions : (ds : List DecisionView)
          → ((i : ℕ) (d : DecisionView) → slice_get ds i ≡ Some d → DecisionIsSound net home d)
          → All (IsSayable net inputs) (flat_map (decision_packets home) ds)
      decisions [] each = none_sendable
      decisions (d ∷ ds) each =
          All-append (IsSayable net inputs) (decision_packets home d) (flat_map (decision_packets home) ds)
          (commits_sendable d.number (each 0 d refl).number d.participants (each 0 d refl).others)
          (decisions ds (λ i e is. each (suc i) e is))

      query : (o : Option Tentative) → kept.tentative ≡ o → All (IsSayable net inputs) (query_packets home o)
      query None is = none_sendable
      query (Some h) is =
          let sound = keeps.held h is in
          let asks = λ (apart : h.initiator ≢ home).
          (let other : IsOther net home h.initiator = record { below = sound.initiator; apart = apart } in
          one_sendable _ (says_to h.initiator (says.Query h.number) other sound.number (nodes_are h.initiator other) tt)) in
          grind (arith, none_sendable, asks)
