-- Where a world stands still for want of room, some node finds a channel that needs more; and a channel that needs more is
-- one at which a put is held for want of it.
use Rattle.std.proofs.Common.{◌≡◌, inl, inr, ℕ, zero, suc, ◌+◌, ◌*◌, ◌<◌, ◌≤◌, Bool, true, false, ◌&&◌, ◌==◌, not, cond}
use Rattle.std.proofs.Common.{eqb, ℤ, List, [], ◌∷◌, length, map, drop, get_or, Option, Some, None, is_some, refl, sym}
use Rattle.std.proofs.Common.{ap, ◌∙◌, arith}
use Rattle.std.specs.Prelude.{slice_get, slice_index, find, min, nat_lt}
use Rattle.std.specs.List.{list_all, list_any, range_with_len}
use Rattle.std.proofs.Math.Nat.{min-le_right}
use Rattle.std.proofs.lemmas.Bool.{and_parts, eqb-true, leb-true, ltb-true, ltb-false, le-ltb, lt-ltb, and_from}
use Rattle.std.proofs.lemmas.Bool.{or_from, eq-eqb, cases_lt}
use Rattle.std.proofs.lemmas.List.{get_or-drop, get_or-set_same, get_or_past}
use Rattle.std.proofs.lemmas.List.Folds.{Any-from_list_any}
use Rattle.std.proofs.lemmas.List.FromFn.{length-map-range_with_len, get_or-map-range_with_len}
use Rattle.std.proofs.lemmas.Option.{slice_get_cases, slice_get_within, slice_get-get_or}
use Rattle.turns.specs.Turns.{first_ready, least_from, next_in_turn, or_else, start_after}
use Rattle.kahn_net.specs.Common.{Next, Gets, Puts, NoNext, next_of, Standing, Block, GetThen, AssignThen, PutThen}
use Rattle.kahn_net.specs.Common.{StopThen, IfThen, RepeatThen, Nothing, sites_of, IsValid, block_puts, code_puts}
use Rattle.kahn_net.specs.NextActs.{Begins, next_on}
use Rattle.protocol.specs.Node.Common.{Network, Code, Channel, Port, Outside, Process, ImageView, SavedProcessView}
use Rattle.protocol.specs.Node.Common.{SavedEnd, RunningNode, JobView, running_of, received_of, sent_of, base_of}
use Rattle.protocol.specs.Node.Common.{is_none, may_grant, MAX_COUNT, NodeView, log_share, log_of, LogState}
use Rattle.protocol.specs.Node.Common.{has_process}
use Rattle.protocol.specs.Node.Addresses.{consumer_node}
use Rattle.protocol.specs.Node.Choosing.{has_item, has_room, can_go, next_at, is_ready, ready_process, ready_processes}
use Rattle.protocol.specs.Node.Choosing.{process_at, job_at, job_of, job_up_to, next_job}
use Rattle.protocol.specs.Node.Granting.{room_of}
use Rattle.protocol.specs.Node.Sharing.{even_rooms, full_share, retained_share, wider}
use Rattle.protocol.specs.declared.limits.TheConstants.{MIN_ROOM}
use Rattle.protocol.specs.declared.links.Inbox.{Inbox}
use Rattle.protocol.specs.declared.links.Outbox.{Outbox}
use Rattle.protocol.specs.declared.stance.Stance.{Stance}
use Rattle.protocol.specs.declared.stance.Stance.TheVariants.{GoesOn, Ended, Waits, Held, Full}
use Rattle.ckpt_codec.specs.declared.lengths.TheConstants.{MAX_RETAINED_ITEMS}
use Rattle.protocol.specs.World.Common.{AreSound, IsNumbered, StationView, WorldView, OutputView, outputs_of}
use Rattle.protocol.specs.World.Choice.{counts_rose}
use Rattle.protocol.specs.World.Quiet.{have_all_left}
use Rattle.protocol.specs.Node.Stances.{is_of, own_stance, stance_before, stance_in, stance_there}
use Rattle.protocol.specs.World.Stances.{beside_others, is_coming, got_at, has_what_was_got, lacks_items, is_leaving}
use Rattle.protocol.specs.World.Stances.{stance_on, stance_at, stance_with, stance_of}
use Rattle.protocol.specs.World.Still.{has_come_from, has_let_go, kept_at, is_settled_at, is_still, wants_room}
use Rattle.protocol.specs.World.RoomByNeed.{PutIsHeld, NeedIsHeld, NeedGetsMore, NodeNeedIsFound, NeedIsShown}
use Rattle.protocol.specs.World.RoomByNeed.{StillShowsNeed}
use Rattle.protocol.specs.World.RoomNeeds.{awaited, getter_of, is_going, process_on, putter_of}
use Rattle.protocol_laws.specs.Node.GrantLaws.{fewer_places}
use Rattle.protocol_laws.specs.Node.ImageLaws.{find_within, found_is}
use Rattle.protocol_laws.specs.Node.NumberedLaws.{where_mark, where_find}
use Rattle.protocol_laws.specs.Node.SharingLaws.{share_within}
use Rattle.protocol_laws.specs.World.QuietLaws.{all_at, left_at}
use Rattle.protocol_laws.specs.World.WayLaws.{need_at_node, need_for_is_need}

-- ---- what is found

-- something is found where a test holds
passes_found : {A : Type 0} (test : A → Bool) (xs : List A) (k : ℕ) (x : A) → slice_get xs k ≡ Some x
    → test x ≡ true → is_some (find test xs) ≡ true
passes_found test [] k x is passes = absurd (cc)
passes_found test (y ∷ xs) zero x is passes = grind arith
passes_found test (y ∷ xs) (suc k) x is passes = grind (arith, passes_found test xs k x is passes)

-- and the test holds of what is found
found_passes : {A : Type 0} (test : A → Bool) (xs : List A) (x : A) → find test xs ≡ Some x → test x ≡ true
found_passes test [] x is = absurd (cc)
found_passes test (y ∷ xs) x is = grind (arith, found_passes test xs x)

some_of : {A : Type 0} (o : Option A) → is_some o ≡ true → (x : A) × (o ≡ Some x)
some_of None is = absurd (cc)
some_of (Some x) is = (x, refl)

-- ---- whose turn it is

-- the first one that is ready is ready
first_is : (number : ℕ) (ready : List Bool) (q : ℕ) → first_ready number ready ≡ Some q
    → (j : ℕ) × (q ≡ number + j) × (get_or ready j false ≡ true)
first_is number [] q is = absurd (cc)
first_is number (true ∷ ready) q is = (0, (let same : number ≡ q = cc in omega arith), refl)
first_is number (false ∷ ready) q is =
    let rest = first_is (suc number) ready q is in
    let place = rest.1 in
    (suc rest.0, omega (arith, place), rest.2)

-- where one is ready there is a first one
first_there : (number : ℕ) (ready : List Bool) (k : ℕ) → get_or ready k false ≡ true
    → (q : ℕ) × (first_ready number ready ≡ Some q)
first_there number [] k is = absurd (cc)
first_there number (true ∷ ready) k is = (number, refl)
first_there number (false ∷ ready) zero is = absurd (cc)
first_there number (false ∷ ready) (suc k) is = first_there (suc number) ready k is

-- where one is ready, one that is has its turn
turn_there : (last : Option ℕ) (ready : List Bool) (k : ℕ) → get_or ready k false ≡ true
    → (q : ℕ) × (next_in_turn last ready ≡ Some q) × (get_or ready q false ≡ true)
turn_there last ready k is = at (least_from (start_after last) ready) refl
  where
    at : (o : Option ℕ) → least_from (start_after last) ready ≡ o
        → (q : ℕ) × (or_else (least_from (start_after last) ready) (least_from 0 ready) ≡ Some q)
        × (get_or ready q false ≡ true)
    at (Some q) here =
        let place = first_is (start_after last) (drop (start_after last) ready) q here in
        (q, rw here refl, rw (place.1, ← get_or-drop (start_after last) ready place.0 false) place.2)
    at None here =
        let first = first_there 0 ready k is in
        let place = first_is 0 ready first.0 first.1 in
        let same : first.0 ≡ place.0 = omega (arith, place.1) in
        (first.0, rw here first.1, rw same place.2)

-- ---- the job of a node

module _ (net : Network) (inputs : List (List ℤ)) (share : ℕ → ℕ) (node : RunningNode) where
  ready_at : (n : ℕ)
      → get_or (ready_processes net inputs share node.current node.inboxes) n false ≡ true
      → is_some (ready_process net inputs share node.current node.inboxes n) ≡ true
  unfolding ready_processes
  ready_at n is = elim (cases_lt n (length net.codes)) [
    | inl below ↦ sym (get_or-map-range_with_len goes 0 (length net.codes) n n false below (omega arith)) ∙ is
    | inr past ↦
        let long = length-map-range_with_len goes 0 (length net.codes) in
        let none = get_or_past (map goes (range_with_len 0 (length net.codes))) n false (omega (arith, long, past)) in
        absurd (cc)
  ]
    where
      goes : ℕ → Bool
      goes m = is_some (ready_process net inputs share node.current node.inboxes m)

  at_ready : (n : ℕ) → n < length net.codes
      → is_some (ready_process net inputs share node.current node.inboxes n) ≡ true
      → get_or (ready_processes net inputs share node.current node.inboxes) n false ≡ true
  unfolding ready_processes
  at_ready n below is =
      get_or-map-range_with_len
      (λ (m : ℕ). is_some (ready_process net inputs share node.current node.inboxes m)) 0 (length net.codes) n n false
      below (omega arith)
      ∙ is

  -- a process of the node that is ready has it grant a job
  job_there : (k : ℕ) (saved : SavedProcessView) → may_grant node ≡ true → slice_get node.current.processes k ≡ Some saved
      → saved.number < length net.codes → is_ready net inputs share node.current node.inboxes saved ≡ true
      → is_some (job_up_to net inputs share node) ≡ true
  job_there k saved may is below ready =
      let found =
      passes_found
      (λ (s : SavedProcessView). (s.number == saved.number) && is_ready net inputs share node.current node.inboxes s)
      node.current.processes k saved is (grind (arith, ready)) in
      let turn =
      turn_there node.last (ready_processes net inputs share node.current node.inboxes) saved.number
      (at_ready saved.number below found) in
      let chosen = some_of (ready_process net inputs share node.current node.inboxes turn.0) (ready_at turn.0 turn.2) in
      rw (may, turn.1, chosen.1) refl

  -- and where it grants one, it has a process that is ready
  job_says : is_some (job_up_to net inputs share node) ≡ true
      → (may_grant node ≡ true) × (k : ℕ) × (saved : SavedProcessView)
      × (slice_get node.current.processes k ≡ Some saved)
      × (is_ready net inputs share node.current node.inboxes saved ≡ true)
  job_says is =
      let one = chosen (may_grant node)
      (next_in_turn node.last (ready_processes net inputs share node.current node.inboxes)) is in
      let test : SavedProcessView → Bool = λ (s : SavedProcessView).
      (s.number == one.1) && is_ready net inputs share node.current node.inboxes s in
      let place = find_within test node.current.processes one.2 one.3 in
      let passes = found_passes test node.current.processes one.2 one.3 in
      (one.0, place.0, one.2, place.1, grind (arith, passes))
    where
      chosen : (may : Bool) (o : Option ℕ)
          → is_some (cond may (job_of net inputs share node (process_at net inputs share node.current node.inboxes o))
          None) ≡ true
          → (may ≡ true) × (number : ℕ) × (saved : SavedProcessView)
          × (ready_process net inputs share node.current node.inboxes number ≡ Some saved)
      chosen may o is = grind arith

-- ---- a station that stands still

-- what its tests say of the node, beside these stations
record IsAtRest (net : Network) (inputs : List (List ℤ)) (rooms : List ℕ) (stations : List StationView)
    (outputs : List OutputView) (node : RunningNode) : Type 0 where
  pub free : is_none node.kept.tentative ≡ true
  pub idle : is_none node.out ≡ true
  pub rose : counts_rose node.current node.kept.permanent node.current.ends ≡ false
  pub left : have_all_left node.current outputs ≡ true
  pub come : list_all (has_come_from net stations) node.inboxes ≡ true
  pub gone : list_all (has_let_go net stations node.current) node.outboxes ≡ true
  pub none : is_some (next_job net inputs rooms node) ≡ false

rest_of : (net : Network) (inputs : List (List ℤ)) (rooms : List ℕ) (stations : List StationView)
    (station : StationView) → is_still net inputs rooms stations station ≡ true
    → (node : RunningNode) × (running_of station.node ≡ Some node)
    × IsAtRest net inputs rooms stations (outputs_of station.outlets) node
rest_of net inputs rooms stations station still = at (running_of station.node) still
  where
    at : (o : Option RunningNode)
        → (is_settled_at net stations o (outputs_of station.outlets) && not (is_some (job_at net inputs rooms o))) ≡ true
        → (node : RunningNode) × (o ≡ Some node)
        × IsAtRest net inputs rooms stations (outputs_of station.outlets) node
    at o tests = grind arith

-- where no count rose, no more was received of any channel than is kept for good
rose_at : (now earlier : ImageView) (ends : List SavedEnd) (k : ℕ) (saved : SavedEnd)
    → counts_rose now earlier ends ≡ false → slice_get ends k ≡ Some saved
    → received_of now saved.channel ≤ received_of earlier saved.channel
rose_at now earlier [] k saved none is = absurd (cc)
rose_at now earlier (x ∷ ends) zero saved none is = grind (arith, ltb-false)
rose_at now earlier (x ∷ ends) (suc k) saved none is = rose_at now earlier ends k saved (grind arith) is

got_is_kept : (now earlier : ImageView) → counts_rose now earlier now.ends ≡ false → (channel : ℕ)
    → received_of now channel ≤ received_of earlier channel
got_is_kept now earlier none channel =
    at (find (λ (saved : SavedEnd). eqb saved.channel channel) now.ends) refl
  where
    at : (o : Option SavedEnd) → find (λ (saved : SavedEnd). eqb saved.channel channel) now.ends ≡ o
        → received_of now channel ≤ received_of earlier channel
    at None is = rw is (omega arith)
    at (Some saved) is =
        let place = find_within (λ (s : SavedEnd). eqb s.channel channel) now.ends saved is in
        rw (← found_is (λ (s : SavedEnd). s.channel) now.ends channel saved is)
        (rose_at now earlier now.ends place.0 saved none place.1)

module _ (net : Network) (inputs : List (List ℤ)) (rooms : List ℕ) (stations : List StationView)
    (all : list_all (is_still net inputs rooms stations) stations ≡ true) where
  still_at : (k : ℕ) (station : StationView) → slice_get stations k ≡ Some station
      → (node : RunningNode) × (running_of station.node ≡ Some node)
      × IsAtRest net inputs rooms stations (outputs_of station.outlets) node
  still_at k station is =
      rest_of net inputs rooms stations station
      (all_at (is_still net inputs rooms stations) stations k station all is)

  -- what a node has got is kept for good there
  got_within : (channel k : ℕ) → got_at channel (slice_get stations k) ≤ kept_at channel (slice_get stations k)
  got_within channel k = at (slice_get stations k) refl
    where
      at : (o : Option StationView) → slice_get stations k ≡ o → got_at channel o ≤ kept_at channel o
      at None is = omega arith
      at (Some station) is =
          let node = still_at k station is in
          rw node.1 (got_is_kept node.0.current node.0.kept.permanent node.2.rose channel)

  -- nothing is under way on its channels
  none_comes : (outputs : List OutputView) (node : RunningNode) → IsAtRest net inputs rooms stations outputs node
      → (channel : ℕ) → is_coming net stations node.inboxes channel ≡ false
  none_comes outputs node rest channel =
      at (find (λ (inbox : Inbox). inbox.channel == channel) node.inboxes) refl
    where
      at : (o : Option Inbox) → find (λ (inbox : Inbox). inbox.channel == channel) node.inboxes ≡ o
          → is_coming net stations node.inboxes channel ≡ false
      at None is = rw is refl
      at (Some inbox) is =
          let place = find_within (λ (i : Inbox). i.channel == channel) node.inboxes inbox is in
          rw (is, all_at (has_come_from net stations) node.inboxes place.0 inbox rest.come place.1) refl

  none_leaves : (outputs : List OutputView) (node : RunningNode) → IsAtRest net inputs rooms stations outputs node
      → (channel : ℕ) → is_leaving net stations node outputs channel ≡ false
  none_leaves outputs node rest channel =
      or_from
      (has_what_was_got net stations node.current (find (λ (o : Outbox). o.channel == channel) node.outboxes))
      (lacks_items node.current (find (λ (o : OutputView). o.channel == channel) outputs))
      (log (find (λ (o : Outbox). o.channel == channel) node.outboxes) refl)
      (outlet (find (λ (o : OutputView). o.channel == channel) outputs) refl)
    where
      log : (o : Option Outbox) → find (λ (o : Outbox). o.channel == channel) node.outboxes ≡ o
          → has_what_was_got net stations node.current (find (λ (o : Outbox). o.channel == channel) node.outboxes)
          ≡ false
      log None is = rw is refl
      log (Some outbox) is =
          let place = find_within (λ (o : Outbox). o.channel == channel) node.outboxes outbox is in
          let gone = all_at (has_let_go net stations node.current) node.outboxes place.0 outbox rest.gone place.1 in
          let to = consumer_node net outbox.channel in
          let kept = leb-true (kept_at outbox.channel (slice_get stations to))
          (base_of node.current outbox.channel) gone in
          let got = got_within outbox.channel to in
          rw is (le-ltb (base_of node.current outbox.channel) (got_at outbox.channel (slice_get stations to))
          (omega (arith, kept, got)))

      outlet : (o : Option OutputView) → find (λ (o : OutputView). o.channel == channel) outputs ≡ o
          → lacks_items node.current (find (λ (o : OutputView). o.channel == channel) outputs) ≡ false
      outlet None is = rw is refl
      outlet (Some output) is =
          let place = find_within (λ (o : OutputView). o.channel == channel) outputs output is in
          let left = left_at node.current outputs place.0 output rest.left place.1 in
          rw is (le-ltb (length output.taken) (sent_of node.current output.channel) (omega (arith, left)))

  -- ---- a process at such a station

  -- It doesn't go on; and where its node may grant a job, and it could go on if channels had all the room that they may
  -- have, it is held for want of it.
  record StaysPut (node : RunningNode) (could : Bool) (stance : Stance) : Type 0 where
    pub stays : is_going stance ≡ false
    pub held : may_grant node ≡ true → could ≡ true → (c : ℕ) × (stance ≡ Held c)

  none_out : (n : ℕ) (o : Option JobView) → is_none o ≡ true → is_of n o ≡ false
  none_out n None is = refl
  none_out n (Some job) is = absurd (cc)

  module _ (outputs : List OutputView) (node : RunningNode) (rest : IsAtRest net inputs rooms stations outputs node)
      (k : ℕ) (saved : SavedProcessView) (is : slice_get node.current.processes k ≡ Some saved)
      (below : saved.number < length net.codes) where
    -- what it does next can't be done
    not_ready : may_grant node ≡ true → (next : Next)
        → next_at (slice_get net.codes saved.number) saved.standing ≡ next
        → can_go net inputs (retained_share rooms node.current) node.current node.inboxes next ≡ true → ⊥
    not_ready may next comes can =
        let ready : is_ready net inputs (retained_share rooms node.current) node.current node.inboxes saved ≡ true =
        ap (can_go net inputs (retained_share rooms node.current) node.current node.inboxes) comes ∙ can in
        let job = job_there net inputs (retained_share rooms node.current) node k saved may is below ready in
        let bad : true ≡ false = sym job ∙ rest.none in
        absurd (cc)

    -- what it waits for isn't under way
    held_still : (c : ℕ) → beside_others net stations node outputs (Held c) ≡ Held c
    held_still c = rw (none_leaves outputs node rest c) refl

    full_still : (c : ℕ) → beside_others net stations node outputs (Full c) ≡ Full c
    full_still c = rw (none_leaves outputs node rest c) refl

    waits_still : (c : ℕ) → beside_others net stations node outputs (Waits c) ≡ Waits c
    waits_still c = rw (none_comes outputs node rest c) refl

    before_still : may_grant node ≡ true → (next : Next)
        → next_at (slice_get net.codes saved.number) saved.standing ≡ next
        → StaysPut node (can_go net inputs (full_share node.current) node.current node.inboxes next)
        (beside_others net stations node outputs (stance_before net inputs rooms node.current node.inboxes next))
    before_still may Begins comes = absurd (not_ready may Begins comes refl)
    before_still may NoNext comes = record { stays = refl; held = λ grants could. absurd (cc) }
    before_still may (Gets c) comes =
        at (has_item inputs node.current node.inboxes c (slice_get net.channels c)) (not_ready may (Gets c) comes)
      where
        at : (b : Bool) → (b ≡ true → ⊥)
            → StaysPut node b (beside_others net stations node outputs (cond b GoesOn (Waits c)))
        at true never = absurd (never refl)
        at false never = record { stays = ap is_going (waits_still c); held = λ grants could. absurd (cc) }
    before_still may (Puts c) comes =
        at (has_room (retained_share rooms node.current) node.current c (slice_get net.channels c))
        (has_room (full_share node.current) node.current c (slice_get net.channels c)) (not_ready may (Puts c) comes)
      where
        at : (b full : Bool) → (b ≡ true → ⊥)
            → StaysPut node full (beside_others net stations node outputs (cond b GoesOn (cond full (Held c) (Full c))))
        at true full never = absurd (never refl)
        at false true never = record { stays = ap is_going (held_still c); held = λ grants could. (c, held_still c) }
        at false false never = record { stays = ap is_going (full_still c); held = λ grants could. absurd (cc) }

    in_still : StaysPut node
        (can_go net inputs (full_share node.current) node.current node.inboxes
        (next_at (slice_get net.codes saved.number) saved.standing))
        (beside_others net stations node outputs (stance_in net inputs rooms node saved))
    in_still = rw (none_out saved.number node.out rest.idle) (at (nat_lt node.version MAX_COUNT) refl)
      where
        next : Next
        next = next_at (slice_get net.codes saved.number) saved.standing

        before : Stance
        before = stance_before net inputs rooms node.current node.inboxes next

        at : (b : Bool) → nat_lt node.version MAX_COUNT ≡ b
            → StaysPut node (can_go net inputs (full_share node.current) node.current node.inboxes next)
            (beside_others net stations node outputs (cond b before Ended))
        at true early =
            before_still
            (and_from (is_none node.kept.tentative) (is_none node.out && nat_lt node.version MAX_COUNT) rest.free
            (and_from (is_none node.out) (nat_lt node.version MAX_COUNT) rest.idle early)) next refl
        at false late = record { stays = refl; held = λ grants can. absurd (grind arith) }

  -- ---- nobody goes on

  -- how a process stands, by what is there
  stance_is : (p : ℕ) (code : Code) (station : StationView) (node : RunningNode) (o : Option SavedProcessView)
      → slice_get net.codes p ≡ Some code → slice_get stations code.node ≡ Some station
      → running_of station.node ≡ Some node
      → find (λ (s : SavedProcessView). s.number == p) node.current.processes ≡ o
      → stance_of net inputs rooms stations p
      ≡ beside_others net stations node (outputs_of station.outlets) (stance_there net inputs rooms node o)
  stance_is p code station node o coded there runs found = rw (coded, there, runs, found) refl

  nobody_goes : (p : ℕ) → is_going (stance_of net inputs rooms stations p) ≡ false
  nobody_goes p = coded (slice_get net.codes p) refl
    where
      coded : (o : Option Code) → slice_get net.codes p ≡ o → is_going (stance_of net inputs rooms stations p) ≡ false
      coded None is = rw is refl
      coded (Some code) is = there (slice_get stations code.node) refl
        where
          found : (station : StationView) → slice_get stations code.node ≡ Some station → (node : RunningNode)
              → running_of station.node ≡ Some node
              → IsAtRest net inputs rooms stations (outputs_of station.outlets) node → (o : Option SavedProcessView)
              → find (λ (s : SavedProcessView). s.number == p) node.current.processes ≡ o
              → is_going (stance_of net inputs rooms stations p) ≡ false
          found station at node runs rest None here = rw (stance_is p code station node None is at runs here) refl
          found station at node runs rest (Some saved) here =
              let place = find_within (λ (s : SavedProcessView). s.number == p) node.current.processes saved here in
              let number = found_is (λ (s : SavedProcessView). s.number) node.current.processes p saved here in
              let within = slice_get_within net.codes p code is in
              rw (stance_is p code station node (Some saved) is at runs here)
              (in_still (outputs_of station.outlets) node rest place.0 saved place.1
              (omega (arith, number, within))).stays

          there : (o : Option StationView) → slice_get stations code.node ≡ o
              → is_going (stance_of net inputs rooms stations p) ≡ false
          there None at = rw (is, at) refl
          there (Some station) at =
              let node = still_at code.node station at in found station at node.0 node.1 node.2 _ refl

-- ---- and one is held

-- where there is room at all, there is with all the room that channels may have
fuller : (net : Network) (inputs : List (List ℤ)) (rooms : List ℕ) (image : ImageView) (inboxes : List Inbox)
    (next : Next) → can_go net inputs (retained_share rooms image) image inboxes next ≡ true
    → can_go net inputs (full_share image) image inboxes next ≡ true
fuller net inputs rooms image inboxes (Puts c) can = at (slice_get net.channels c) can
  where
    at : (o : Option Channel) → has_room (retained_share rooms image) image c o ≡ true
        → has_room (full_share image) image c o ≡ true
    at None can = can
    at (Some ends) can =
        let some = ltb-true 0 (room_of (retained_share rooms image c) image c) can in
        let few = fewer_places (retained_share rooms image c) (log_share image) (log_of image c)
        (min-le_right (slice_index rooms c) (log_share image)) in
        lt-ltb 0 (room_of (log_share image) image c) (omega (arith, some, few))
fuller net inputs rooms image inboxes next can = can

-- a node that runs has its record
kept_there : (node : NodeView) (running : RunningNode) → running_of node ≡ Some running → running.kept ≡ node.kept
kept_there node running is = grind arith

-- a process on a node has its code there
code_there : (net : Network) (home p : ℕ) → has_process net home p ≡ true
    → (code : Code) × (slice_get net.codes p ≡ Some code) × (code.node ≡ home)
code_there net home p has = grind (arith, eqb-true)

-- one of the stations that stand still has a process that is held, where it could grant a job with more room
one_is_held : (net : Network) (inputs : List (List ℤ)) (rooms : List ℕ) (stations : List StationView)
    → list_all (is_still net inputs rooms stations) stations ≡ true → IsNumbered stations → AreSound net inputs stations
    → (k : ℕ) (station : StationView) → slice_get stations k ≡ Some station
    → wants_room net inputs station ≡ true
    → (p c : ℕ) × (code : Code) × (slice_get net.codes p ≡ Some code)
    × (stance_of net inputs rooms stations p ≡ Held c)
one_is_held net inputs rooms stations all numbered sound k station is wants =
    let here = still_at net inputs rooms stations all k station is in
    let node = here.0 in
    let runs = here.1 in
    let rest = here.2 in
    let even = even_rooms MAX_RETAINED_ITEMS in
    let share = retained_share even node.current in
    let job : is_some (job_up_to net inputs share node) ≡ true = rw runs at wants in
    let says = job_says net inputs share node job in
    let saved = says.2 in
    let laid = (sound k station is).runs node runs in
    let home = node.kept.node in
    let mark = where_mark (λ (s : SavedProcessView). s.number) (has_process net home) 0 (length net.codes)
    node.current.processes says.1 saved laid.sound.kept.laid_out.processes says.3 in
    let found = where_find (λ (s : SavedProcessView). s.number) (has_process net home) 0 (length net.codes)
    node.current.processes says.1 saved laid.sound.kept.laid_out.processes says.3 in
    let below : saved.number < length net.codes = omega (arith, mark.2) in
    let code = code_there net home saved.number mark.0 in
    let at_home : code.0.node ≡ k = rw (code.2, kept_there station.node node runs) (numbered k station is).1 in
    let put = in_still net inputs rooms stations all (outputs_of station.outlets) node rest says.1 saved says.3
    below in
    let held = put.held says.0
    (fuller net inputs even node.current node.inboxes (next_at (slice_get net.codes saved.number) saved.standing)
    says.4) in (
      saved.number,
      held.0,
      code.0,
      code.1,
      rw (stance_is net inputs rooms stations all saved.number code.0 station node (Some saved) code.1 (rw at_home is)
          runs found) held.1,
    )

-- Where a world stands still for want of room, some node finds a channel.
pub still_shows_need : StillShowsNeed
still_shows_need world inv still =
    let all = list_all (is_still world.net world.inputs world.rooms world.stations) world.stations in
    let any = list_any (wants_room world.net world.inputs) world.stations in
    let parts = and_parts all any still in
    let one = Any-from_list_any (wants_room world.net world.inputs) world.stations parts.1 in
    let there : slice_get world.stations one.0 ≡ Some one.1 =
    slice_get-get_or world.stations one.0 one.1 one.2 ∙ ap Some one.3 in
    let held =
    one_is_held world.net world.inputs world.rooms world.stations parts.0 inv.numbered inv.stations one.0 one.1 there
    one.4 in
    let shown =
    need_at_node world.net (stance_of world.net world.inputs world.rooms world.stations) held.0 held.1 held.2 held.3
    held.4 (λ steps q comes. nobody_goes world.net world.inputs world.rooms world.stations parts.0 q) in
    (held.2.node, shown.0, shown.1)

-- ---- what is held

-- what a process comes to at its node that is held
own_held : (world : WorldView) (node : RunningNode) (c : ℕ) (next : Next)
    → stance_before world.net world.inputs world.rooms node.current node.inboxes next ≡ Held c
    → (next ≡ Puts c)
    × (has_room (retained_share world.rooms node.current) node.current c (slice_get world.net.channels c) ≡ false)
    × (has_room (full_share node.current) node.current c (slice_get world.net.channels c) ≡ true)
own_held world node c (Puts d) is =
    let held = put_held (has_room (retained_share world.rooms node.current) node.current d (slice_get world.net.channels d))
    (has_room (full_share node.current) node.current d (slice_get world.net.channels d)) is in
    (ap Puts held.0, rw (← held.0) held.1, rw (← held.0) held.2)
  where
    put_held : (now full : Bool) → cond now GoesOn (cond full (Held d) (Full d)) ≡ Held c
        → (d ≡ c) × (now ≡ false) × (full ≡ true)
    put_held now full is = grind arith
own_held world node c next is = absurd (grind arith)

-- one that is held beside the others is held at its node, and nothing is on its way out
held_beside : (net : Network) (stations : List StationView) (node : RunningNode) (outputs : List OutputView)
    (stance : Stance) (c : ℕ) → beside_others net stations node outputs stance ≡ Held c
    → (stance ≡ Held c) × (is_leaving net stations node outputs c ≡ false)
held_beside net stations node outputs stance c is = grind arith

-- so it is at a node that runs, at a station, and has its code
held_on : (world : WorldView) (p c : ℕ) (outputs : List OutputView) (o : Option RunningNode)
    → stance_on world.net world.inputs world.rooms world.stations p outputs o ≡ Held c
    → (node : RunningNode) × (o ≡ Some node)
    × (own_stance world.net world.inputs world.rooms p node ≡ Held c)
    × (is_leaving world.net world.stations node outputs c ≡ false)
held_on world p c outputs None is = absurd (cc)
held_on world p c outputs (Some node) is =
    let alone = held_beside world.net world.stations node outputs _ c is in (node, refl, alone.0, alone.1)

held_at : (world : WorldView) (p c : ℕ) (o : Option StationView)
    → stance_at world.net world.inputs world.rooms world.stations p o ≡ Held c → (station : StationView) × (o ≡ Some station)
    × (stance_on world.net world.inputs world.rooms world.stations p (outputs_of station.outlets)
    (running_of station.node) ≡ Held c)
held_at world p c None is = absurd (cc)
held_at world p c (Some station) is = (station, refl, is)

held_with : (world : WorldView) (p c : ℕ) (o : Option Code)
    → stance_with world.net world.inputs world.rooms world.stations p o ≡ Held c → (code : Code) × (o ≡ Some code)
    × (stance_at world.net world.inputs world.rooms world.stations p (slice_get world.stations code.node) ≡ Held c)
held_with world p c None is = absurd (cc)
held_with world p c (Some code) is = (code, refl, is)

-- and has no job out, at a node that isn't at the greatest version
held_there : (world : WorldView) (node : RunningNode) (c : ℕ) (o : Option SavedProcessView)
    → stance_there world.net world.inputs world.rooms node o ≡ Held c → (saved : SavedProcessView) × (o ≡ Some saved)
    × (stance_before world.net world.inputs world.rooms node.current node.inboxes
    (next_at (slice_get world.net.codes saved.number) saved.standing) ≡ Held c)
held_there world node c None is = absurd (cc)
held_there world node c (Some saved) is =
    (saved, refl, no_job (is_of saved.number node.out) (nat_lt node.version MAX_COUNT) _ is)
  where
    no_job : (own early : Bool) (before : Stance) → cond own GoesOn (cond early before Ended) ≡ Held c
        → before ≡ Held c
    no_job own early before is = grind arith

pub put_is_held : (world : WorldView) (p c : ℕ)
    → stance_of world.net world.inputs world.rooms world.stations p ≡ Held c → PutIsHeld world p c
put_is_held world p c is =
    let code = held_with world p c (slice_get world.net.codes p) is in
    let station = held_at world p c (slice_get world.stations code.0.node) code.2 in
    let node = held_on world p c (outputs_of station.0.outlets) (running_of station.0.node) station.2 in
    let saved = held_there world node.0 c (find (λ (s : SavedProcessView). s.number == p) node.0.current.processes)
    node.2 in
    let put = own_held world node.0 c (next_at (slice_get world.net.codes saved.0.number) saved.0.standing) saved.2 in
    record {
      code = code.0;
      station = station.0;
      node = node.0;
      saved = saved.0;
      coded = code.1;
      there = station.1;
      runs = node.1;
      found = saved.1;
      next = put.0;
      settled = node.3;
      no_place = put.1;
      place = put.2;
    }

-- ---- more room makes a place

-- a channel on which there is room at all is one of the network
channel_there : (share : ℕ → ℕ) (image : ImageView) (channels : List Channel) (c : ℕ)
    → has_room share image c (slice_get channels c) ≡ true → c < length channels
channel_there share image channels c has = (let found = slice_get_cases channels c in grind (arith, found))

-- where a put is held for want of room, the channel hasn't all the room that it may have
pub below_share : (world : WorldView) (p c : ℕ) (held : PutIsHeld world p c)
    → slice_index world.rooms c < log_share held.node.current
below_share world p c held =
    at (slice_get world.net.channels c) (log_of held.node.current c) refl held.no_place held.place
  where
    room : ℕ
    room = slice_index world.rooms c

    share : ℕ
    share = log_share held.node.current

    at : (o : Option Channel) (log : Option LogState) → log_of held.node.current c ≡ log
        → has_room (retained_share world.rooms held.node.current) held.node.current c o ≡ false
        → has_room (full_share held.node.current) held.node.current c o ≡ true → room < share
    at o log is none some = grind (arith, ltb-true, ltb-false)

-- ---- the process that puts there

-- statements that put next on a channel put there
puts_next : (number : ℕ) (b : Block) (site c : ℕ) → next_on number b site ≡ Puts c → block_puts c b ≡ true
puts_next number Nothing site c is = absurd (cc)
puts_next number (GetThen x d rest) site c is = grind (arith, puts_next (number + 1) rest site c)
puts_next number (AssignThen x e rest) site c is = puts_next number rest site c is
puts_next number (PutThen e d rest) site c is = grind (arith, puts_next (number + 1) rest site c, eq-eqb)
puts_next number (StopThen rest) site c is = puts_next number rest site c is
puts_next number (IfThen test first second rest) site c is =
    grind (
      arith,
      puts_next number first site c,
      puts_next (number + sites_of first) second site c,
      puts_next (number + sites_of first + sites_of second) rest site c,
    )
puts_next number (RepeatThen times body rest) site c is =
    grind (arith, puts_next number body site c, puts_next (number + sites_of body) rest site c)

-- a process that puts next on a channel puts there
code_puts_next : (code : Code) (standing : Standing) (c : ℕ) → next_of code standing ≡ Puts c
    → code_puts c code ≡ true
code_puts_next code standing c is =
    let before = λ (site : ℕ). puts_next 0 code.prelude site c in
    let within = λ (body : Block) (site : ℕ). puts_next (sites_of code.prelude) body site c in
    grind (arith, before, within)

-- so it is the channel's producer
pub puts_there : (world : WorldView) (p c : ℕ) → IsValid world.net → PutIsHeld world p c
    → (ends : Channel) × (slice_get world.net.channels c ≡ Some ends) × (ends.producer ≡ Process p)
puts_there world p c valid held = at (slice_get world.net.channels c) refl held.place
  where
    at : (o : Option Channel) → slice_get world.net.channels c ≡ o
        → has_room (full_share held.node.current) held.node.current c o ≡ true
        → (ends : Channel) × (slice_get world.net.channels c ≡ Some ends) × (ends.producer ≡ Process p)
    at None is bad = absurd (cc)
    at (Some ends) is has =
        let number : held.saved.number ≡ p =
        found_is (λ (s : SavedProcessView). s.number) held.node.current.processes p held.saved held.found in
        let code : slice_get world.net.codes held.saved.number ≡ Some held.code = rw number held.coded in (
          ends,
          is,
          (valid.producer c p ends held.code is held.coded).0
              (code_puts_next held.code held.saved.standing c (rw code at held.next)),
        )

-- ---- of a world

-- The process at an end of a channel is one of the network, where each process that stands at that end of one is.
end_below : (net : Network) (end : Channel → Port) (process_at : Option Channel → Option ℕ) → process_at None ≡ None
    → ((ends : Channel) → process_at (Some ends) ≡ process_on (end ends))
    → ((c p : ℕ) (ends : Channel) → slice_get net.channels c ≡ Some ends → end ends ≡ Process p → p < length net.codes)
    → (c q : ℕ) → process_at (slice_get net.channels c) ≡ Some q → q < length net.codes
end_below net end process_at none some here c q is = at (slice_get net.channels c) refl is
  where
    at : (o : Option Channel) → slice_get net.channels c ≡ o → process_at o ≡ Some q → q < length net.codes
    at None there own = absurd (cc)
    at (Some ends) there own = by (end ends) refl (sym (some ends) ∙ own)
      where
        by : (port : Port) → end ends ≡ port → process_on port ≡ Some q → q < length net.codes
        by Outside same bad = absurd (cc)
        by (Process p) same it = here c q ends there (cc)

-- so is who puts on a channel, and who gets from one
putter_below : (net : Network) → IsValid net → (c q : ℕ) → putter_of (slice_get net.channels c) ≡ Some q
    → q < length net.codes
putter_below net valid =
    end_below net (λ (ends : Channel). ends.producer) putter_of refl (λ ends. refl) valid.producer_is_here

getter_below : (net : Network) → IsValid net → (c q : ℕ) → getter_of (slice_get net.channels c) ≡ Some q
    → q < length net.codes
getter_below net valid =
    end_below net (λ (ends : Channel). ends.consumer) getter_of refl (λ ends. refl) valid.consumer_is_here

-- so whoever is awaited is one
awaited_below : (net : Network) → IsValid net → (stance : Stance) (q : ℕ) → awaited net stance ≡ Some q
    → q < length net.codes
awaited_below net valid (Waits c) q is = putter_below net valid c q is
awaited_below net valid (Held c) q is = getter_below net valid c q is
awaited_below net valid (Full c) q is = getter_below net valid c q is
awaited_below net valid other q is = absurd (cc)

-- The channel that is found for a node is one for which a process needs more room.
pub node_need_is_found : NodeNeedIsFound
node_need_is_found world node c valid is =
    let stance = stance_of world.net world.inputs world.rooms world.stations in
    let found =
    need_for_is_need world.net stance node c (λ p q waits. awaited_below world.net valid (stance p) q waits) is in
    (found.0, found.2)

-- And a process that needs more room is found by its node.
pub need_is_shown : NeedIsShown
need_is_shown world p c code coded needs =
    need_at_node world.net (stance_of world.net world.inputs world.rooms world.stations) p c code coded needs.held
    needs.stuck

-- A process that needs more puts there, and is held.
pub need_is_held : NeedIsHeld
need_is_held world p c valid needs =
    let held = put_is_held world p c needs.held in
    let there = puts_there world p c valid held in (held, rw there.1 there.2, below_share world p c held)

-- That channel gets more.
pub gets_more : NeedGetsMore
gets_more world p c valid rooms needs =
    let held = put_is_held world p c needs.held in
    let below = below_share world p c held in
    let share = share_within held.node.current in
    let known = channel_there (full_share held.node.current) held.node.current world.net.channels c held.place in
    let here : c < length world.rooms = omega (arith, known, valid.channel_count, rooms.count) in
    let room = rooms.each c 0 here in
    let set = get_or-set_same world.rooms c (wider (slice_index world.rooms c)) 0 here in
    let more = higher (slice_index world.rooms c) (omega (arith, below, share)) room.0 in
    omega (arith, set, more)
  where
    higher : (room : ℕ) → room < MAX_RETAINED_ITEMS → MIN_ROOM ≤ room → room < min (room * 2) MAX_RETAINED_ITEMS
    higher room few some = omega (arith, few, some)
