-- A turn that takes nothing is the last one: then the process has put all that its function gives.
use Rattle.std.proofs.Common.{◌≡◌, ◌⊎◌, inl, inr, ℕ, suc, ◌+◌, ◌-◌, ◌<◌, ◌≤◌, Bool, true, false, not, ◌==◌, cond, min, ℤ, List, []}
use Rattle.std.proofs.Common.{◌∷◌, ◌++◌, length, take, drop, get_or, refl, sym, ap, ◌∙◌, arith, append-nil, append_assoc}
use Rattle.std.specs.Prelude.{slice_get, slice_index, Some, None, IsTrue}
use Rattle.std.proofs.lemmas.Bool.{cases_lt}
use Rattle.std.proofs.lemmas.Bool.Decides.{nat_tests}
use Rattle.std.proofs.lemmas.List.{take-append-drop, length-append, length-take, length-drop, drop-drop, drop_at}
use Rattle.std.proofs.lemmas.List.{get_or_past, nil_from_length}
use Rattle.std.proofs.lemmas.Option.{slice_get_cases}
use Rattle.kahn_net.specs.Common.{history_of, Code, Network, Step, Standing, process_trace, sent_on, IsValid, Got, Sent}
use Rattle.kahn_net.specs.Common.{left_by, left_after, code_gets}
use Rattle.kahn_net.specs.Statements.{Act}
use Rattle.kahn_net.specs.Processes.{got_on, got_by, output_of}
use Rattle.kahn_net.specs.Laws.Got.{got_on-append, got_and_left, reads_process}
use Rattle.kahn_net.specs.Laws.Rests.{gets_where_got}
use Rattle.kahn_net.specs.declared.program.Channel.{Channel}
use Rattle.kahn_net.specs.declared.limits.TheConstants.{MAX_HISTORY_ITEMS}
use Rattle.proc_step.specs.Turns.{IsTurn, IsHeldBack, IsNextHeldBack}
use Rattle.approximations.specs.AtHand.{at_hand_from, left_from, next_items, room_from}
use Rattle.approximations.specs.declared.at_hand.TheConstants.{MAX_AT_ONCE}
use Rattle.approximations.specs.Progress.{HasMade, HasPutAll}
use Rattle.approximations.specs.Adding.{IsAdded}
use Rattle.approximations.proofs.Hands.{at_hand_there, room_there}
use Rattle.approximations.proofs.Turning.{turn, all_acts, counts_by, none_taken, sent_then}
use Rattle.approximations.proofs.Lefts.{less_left}
use Rattle.std.proofs.Props.{props}
use Rattle.std.proofs.Math.Logic.{∥∥₁_elim}
use Rattle.approximations.proofs.Within.{puts_here, puts_where_sent}

gets_first : (c : ℕ) (item : ℤ) (later : List ℤ) → got_by c (Got c item) later ≡ item ∷ later
gets_first c item later = ap (λ (b : Bool). cond b (item ∷ later) later) (same c)
  where
    same : (n : ℕ) → (n == n) ≡ true
    same n = grind (arith, nat_tests)

-- acts that get nothing leave all that there was
left_same : (acts : List Step) (items : List (List ℤ)) → ((c : ℕ) → got_on c acts ≡ []) → left_after acts items ≡ items
left_same [] items none = refl
left_same (s ∷ acts) items none = at s.act none (left_same acts items)
  where
    at : (a : Act) → ((c : ℕ) → got_by c a (got_on c acts) ≡ [])
        → (((c : ℕ) → got_on c acts ≡ []) → left_after acts items ≡ items) → left_after acts (left_by a items) ≡ items
    at (Got d item) h later =
        let bad : item ∷ got_on d acts ≡ [] = sym (gets_first d item (got_on d acts)) ∙ h d in absurd (cc)
    at (Sent d item) h later = later h

module _ (net : Network) (valid : IsValid net) (p : ℕ) (code : Code) (here : List (List ℤ)) (standing : Standing)
    (got : List ℕ) (added : List (List ℤ)) (after : Standing) (taken : List ℕ) (sent : List (List ℤ))
    (made : HasMade net p code here standing got added)
    (is_turn : IsTurn code standing (at_hand_from here got p 0 net.channels) (room_from p net.channels) after taken sent)
    (its : slice_get net.codes p ≡ Some code) (none : (c : ℕ) → slice_index taken c ≡ 0)
    (wide : length here ≡ length net.channels)
    (short : (c : ℕ) → c < length net.channels → length (history_of here c) + length (history_of added c)
    + length (history_of sent c) ≤ MAX_HISTORY_ITEMS) where
  none_got : (c : ℕ) → got_on c (turn net p code here standing got added after taken sent made is_turn).acts ≡ []
  none_got c =
      let t = turn net p code here standing got added after taken sent made is_turn in
      nil_from_length (got_on c t.acts) (sym (t.taken_is c) ∙ none c)

  -- what is left of what was at hand is what was at hand
  left_is : left_after (turn net p code here standing got added after taken sent made is_turn).acts
      (at_hand_from here got p 0 net.channels) ≡ at_hand_from here got p 0 net.channels
  left_is =
      left_same (turn net p code here standing got added after taken sent made is_turn).acts
      (at_hand_from here got p 0 net.channels) none_got

  -- the acts that it would still make
  later_is : drop (made.m + length (turn net p code here standing got added after taken sent made is_turn).acts)
      (process_trace code here).steps ≡ (turn net p code here standing got added after taken sent made is_turn).later
  later_is =
      let t = turn net p code here standing got added after taken sent made is_turn in
      sym (drop-drop (length t.acts) made.m (process_trace code here).steps)
      ∙ (ap (drop (length t.acts)) t.split ∙ drop_at t.acts t.later (length t.acts) refl)

  got_so_far : (c : ℕ) → length (got_on c (take made.m (process_trace code here).steps
      ++ (turn net p code here standing got added after taken sent made is_turn).acts)) ≡ slice_index got c
  got_so_far c =
      let t = turn net p code here standing got added after taken sent made is_turn in
      let front = take made.m (process_trace code here).steps in
      let both = ap (length {A = ℤ}) (got_on-append c front t.acts) in
      let sum = length-append (got_on c front) (got_on c t.acts) in
      let nothing = ap (length {A = ℤ}) (none_got c) in
      omega (arith, both, sum, nothing, made.got_is c)

  -- all that it does: what it did, and what it would still do
  in_two : (process_trace code here).steps
      ≡ (take made.m (process_trace code here).steps
      ++ (turn net p code here standing got added after taken sent made is_turn).acts)
      ++ (turn net p code here standing got added after taken sent made is_turn).later
  in_two =
      let t = turn net p code here standing got added after taken sent made is_turn in
      sym (take-append-drop (made.m + length t.acts) (process_trace code here).steps)
      ∙ (ap (λ (x : List Step). x ++ drop (made.m + length t.acts) (process_trace code here).steps)
      (all_acts net p code here standing got added after taken sent made is_turn)
      ∙ ap (λ (x : List Step). (take made.m (process_trace code here).steps ++ t.acts) ++ x) later_is)

  channel_here : (c : ℕ) → c < length net.channels → (channel : Channel) × (slice_get net.channels c ≡ Some channel)
  channel_here c lt = at (slice_get_cases net.channels c).1
    where
      at : ((x : Channel) × (c < length net.channels) × (slice_get net.channels c ≡ Some x)
          × (get_or net.channels c x ≡ x)) ⊎ ((length net.channels ≤ c) × (slice_get net.channels c ≡ None))
          → (channel : Channel) × (slice_get net.channels c ≡ Some channel)
      at (inl there) = (there.0, there.2)
      at (inr past) = absurd (omega (arith, lt, past.0))

  -- an item that it would still get is at hand
  no_get : (step : Step) (rest : List Step) (c : ℕ) (item : ℤ)
      → (turn net p code here standing got added after taken sent made is_turn).later ≡ step ∷ rest
      → step.act ≡ Got c item
      → history_of (left_after (turn net p code here standing got added after taken sent made is_turn).acts
      (at_hand_from here got p 0 net.channels)) c ≡ [] → ⊥
  no_get step rest c item is gets empty =
      let t = turn net p code here standing got added after taken sent made is_turn in
      let all = (process_trace code here).steps in
      let front = take made.m (process_trace code here).steps ++ t.acts in
      let whole : all ≡ front ++ step ∷ rest = in_two ∙ ap (λ (x : List Step). front ++ x) is in
      let first : got_on c (step ∷ rest) ≡ item ∷ got_on c rest =
      ap (λ (a : Act). got_by c a (got_on c rest)) gets ∙ gets_first c item (got_on c rest) in
      let parts : got_on c all ≡ got_on c front ++ (item ∷ got_on c rest) =
      ap (got_on c) whole ∙ (got_on-append c front (step ∷ rest) ∙ ap (λ (x : List ℤ). got_on c front ++ x) first) in
      let count : length (got_on c all) ≡ length (got_on c front) + suc (length (got_on c rest)) =
      ap (length {A = ℤ}) parts ∙ length-append (got_on c front) (item ∷ got_on c rest) in
      let left = history_of (left_after all here) c in
      let read : length (history_of here c) ≡ length (got_on c all) + length left =
      ap (length {A = ℤ}) (got_and_left all here c (reads_process code here).reading)
      ∙ length-append (got_on c all) left in
      let more : slice_index got c < length (history_of here c) = omega (arith, count, read, got_so_far c) in
      let below : c < length net.channels = within c more (cases_lt c (length here)) in
      let channel = channel_here c below in
      let gets_from : IsTrue (code_gets c code) = gets_where_got code here c (omega (arith, count)) in
      let from = (valid.consumer c p channel.0 code channel.1 its).0 gets_from in
      let hand : next_items here got c ≡ [] =
      sym (at_hand_there here got p net.channels c channel.0 channel.1 from)
      ∙ (ap (λ (x : List (List ℤ)). history_of x c) (sym left_is) ∙ empty) in
      let taken_now : length (next_items here got c) ≡ min MAX_AT_ONCE (length (drop (slice_index got c) (history_of here c))) =
      length-take MAX_AT_ONCE (drop (slice_index got c) (history_of here c)) in
      let unread : length (drop (slice_index got c) (history_of here c)) ≡ length (history_of here c) - slice_index got c =
      length-drop (slice_index got c) (history_of here c) in
      let zero_now : length (next_items here got c) ≡ 0 = ap (length {A = ℤ}) hand in
      omega (arith, taken_now, unread, zero_now, more)
    where
      within : (c : ℕ) → slice_index got c < length (history_of here c) → (c < length here) ⊎ (length here ≤ c)
          → c < length net.channels
      within c more (inl lt) = omega (arith, lt, wide)
      within c more (inr past) =
          let none_there : length (history_of here c) ≡ 0 = ap (length {A = ℤ}) (get_or_past here c [] past) in
          absurd (omega (arith, more, none_there))

  -- an item that it would still put has a place
  no_put : (step : Step) (rest : List Step) (c : ℕ) (item : ℤ)
      → (turn net p code here standing got added after taken sent made is_turn).later ≡ step ∷ rest
      → step.act ≡ Sent c item → slice_index (room_from p net.channels) c ≤ length (history_of sent c) → ⊥
  no_put step rest c item is sends full =
      let t = turn net p code here standing got added after taken sent made is_turn in
      let front = take made.m (process_trace code here).steps ++ t.acts in
      let whole : (process_trace code here).steps ≡ front ++ step ∷ rest =
      in_two ∙ ap (λ (x : List Step). front ++ x) is in
      let below : c < length net.channels =
      puts_here (length net.channels) code here front rest step c item (valid.codes p code its) whole sends in
      let channel = channel_here c below in
      let from = (valid.producer c p channel.0 code channel.1 its).0
      (puts_where_sent code here front rest step c item whole sends) in
      let room = room_there p net.channels c channel.0 channel.1 from in
      let few = short c below in
      omega (arith, full, room, few)

  none_later : (turn net p code here standing got added after taken sent made is_turn).later ≡ []
  none_later =
      let t = turn net p code here standing got added after taken sent made is_turn in
      at t.later refl t.held_back
    where
      at : (later : List Step)
          → (turn net p code here standing got added after taken sent made is_turn).later ≡ later
          → IsNextHeldBack later (room_from p net.channels)
          (left_after (turn net p code here standing got added after taken sent made is_turn).acts
          (at_hand_from here got p 0 net.channels)) sent
          → (turn net p code here standing got added after taken sent made is_turn).later ≡ []
      at [] is held = is
      at (step ∷ rest) is held = absurd (by step.act refl held)
        where
          by : (a : Act) → step.act ≡ a
              → IsHeldBack a (room_from p net.channels)
              (left_after (turn net p code here standing got added after taken sent made is_turn).acts
              (at_hand_from here got p 0 net.channels)) sent → ⊥
          by (Got c item) gets empty = no_get step rest c item is gets empty
          by (Sent c item) sends full = no_put step rest c item is sends full

  -- it has made all its acts
  pub all_made : (process_trace code here).steps
      ≡ take (made.m + length (turn net p code here standing got added after taken sent made is_turn).acts)
      (process_trace code here).steps
  all_made =
      let t = turn net p code here standing got added after taken sent made is_turn in
      let cut = take (made.m + length t.acts) (process_trace code here).steps in
      sym (ap (λ (x : List Step). cut ++ x) (sym (later_is ∙ none_later))
      ∙ take-append-drop (made.m + length t.acts) (process_trace code here).steps)
      ∙ append-nil cut

-- A turn of the process of this number, whatever its code is.
module _ (net : Network) (valid : IsValid net) (p : ℕ) (here : List (List ℤ)) (standing : Standing) (got : List ℕ)
    (added : List (List ℤ)) (after : Standing) (taken taken' : List ℕ) (sent sent' : List (List ℤ))
    (there : (code : Code) × (slice_get net.codes p ≡ Some code))
    (on : (code : Code) → slice_get net.codes p ≡ Some code → ∥ HasMade net p code here standing got added ∥₁)
    (turned : (code : Code) → slice_get net.codes p ≡ Some code
    → ∥ IsTurn code standing (at_hand_from here got p 0 net.channels) (room_from p net.channels) after taken sent ∥₁)
    (wide : length added ≡ length net.channels) (whole : length here ≡ length net.channels)
    (taken_same : taken' ≡ taken) (sent_same : sent' ≡ sent) where
  none_past : (c : ℕ) → length net.channels ≤ c → slice_index taken c ≡ 0
  none_past c past =
      ∥∥₁_elim (on there.0 there.1) (hlevel props)
      (λ made. ∥∥₁_elim (turned there.0 there.1) (hlevel props)
      (λ t. none_taken net p there.0 here standing got added after taken sent made t c past))

  taken_zero : ((c : ℕ) → c < length taken' → slice_index taken' c ≡ 0) → (c : ℕ) → slice_index taken c ≡ 0
  taken_zero zeros c = ap (λ (xs : List ℕ). slice_index xs c) (sym taken_same) ∙ at (cases_lt c (length taken'))
    where
      at : (c < length taken') ⊎ (length taken' ≤ c) → slice_index taken' c ≡ 0
      at (inl below) = zeros c below
      at (inr past) = get_or_past taken' c 0 past

  -- where it took something, less is left
  pub fewer_then : (got' new before : List ℕ) → got' ≡ new → before ≡ got → length got ≡ length net.channels
      → length new ≡ length before
      → ((c : ℕ) → c < length new → slice_index new c ≡ slice_index before c + slice_index taken' c)
      → (((c : ℕ) → c < length taken' → slice_index taken' c ≡ 0) → ⊥) → left_from 0 here got' < left_from 0 here got
  fewer_then got' new before same was counts long counted some =
      less_left here got got' (λ c. more c (cases_lt c (length got))) (λ c. few c (cases_lt c (length got)))
      (λ equal. some (λ c below. zero_at c equal (cases_lt c (length net.channels))))
    where
      then : (c : ℕ) → c < length got → slice_index got' c ≡ slice_index got c + slice_index taken c
      then c below =
          ap (λ (xs : List ℕ). slice_index xs c) same
          ∙ (counted c (omega (arith, below, long, ap (length {A = ℕ}) was))
          ∙ (ap (λ (xs : List ℕ). slice_index xs c + slice_index taken' c) was
          ∙ ap (λ (xs : List ℕ). slice_index got c + slice_index xs c) taken_same))

      none_then : (c : ℕ) → length got ≤ c → slice_index got' c ≡ 0
      none_then c past =
          get_or_past got' c 0 (omega (arith, past, long, ap (length {A = ℕ}) was, ap (length {A = ℕ}) same))

      more : (c : ℕ) → (c < length got) ⊎ (length got ≤ c) → slice_index got c ≤ slice_index got' c
      more c (inl below) = omega (arith, then c below)
      more c (inr past) = omega (arith, get_or_past got c 0 past)

      few : (c : ℕ) → (c < length got) ⊎ (length got ≤ c) → slice_index got' c ≤ length (history_of here c)
      few c (inl below) =
          let most : slice_index got c + slice_index taken c ≤ length (history_of here c) =
          ∥∥₁_elim (on there.0 there.1) (hlevel props)
          (λ made. ∥∥₁_elim (turned there.0 there.1) (hlevel props)
          (λ t. counts_by net p there.0 here standing got added after taken sent made t c)) in
          omega (arith, then c below, most)
      few c (inr past) = omega (arith, none_then c past)

      zero_at : (c : ℕ) → ((k : ℕ) → k < length here → slice_index got' k ≡ slice_index got k)
          → (c < length net.channels) ⊎ (length net.channels ≤ c) → slice_index taken' c ≡ 0
      zero_at c equal (inl below) =
          let now = then c (omega (arith, below, counts)) in
          let before = equal c (omega (arith, below, whole)) in
          omega (arith, now, before, ap (λ (xs : List ℕ). slice_index xs c) taken_same)
      zero_at c equal (inr past) = ap (λ (xs : List ℕ). slice_index xs c) taken_same ∙ none_past c past

  -- where it took nothing, it has put all that its function gives
  pub all_then : (added' : List (List ℤ)) → IsAdded sent' added added'
      → ((c : ℕ) → c < length taken' → slice_index taken' c ≡ 0)
      → ((c : ℕ) → c < length added → length (history_of here c) + length (history_of added c)
      + length (history_of sent' c) ≤ MAX_HISTORY_ITEMS) → HasPutAll net p here added'
  all_then added' put zeros short code its c channel at from =
      ∥∥₁_elim (on code its) (hlevel props)
      (λ made. ∥∥₁_elim (turned code its) (hlevel props)
      (λ t. by made t (cases_lt c (length net.channels))))
    where
      shorter : (k : ℕ) → k < length net.channels → length (history_of here k) + length (history_of added k)
          + length (history_of sent k) ≤ MAX_HISTORY_ITEMS
      shorter k below =
          let few = short k (omega (arith, below, wide)) in
          omega (arith, few, ap (λ (xs : List (List ℤ)). length (history_of xs k)) sent_same)

      by : (made : HasMade net p code here standing got added)
          → (t : IsTurn code standing (at_hand_from here got p 0 net.channels) (room_from p net.channels) after taken sent)
          → (c < length net.channels) ⊎ (length net.channels ≤ c)
          → history_of here c ++ history_of added' c ≡ output_of code here c
      by made t (inl below) =
          ap (λ (x : List ℤ). history_of here c ++ x)
          (put c (omega (arith, below, wide))
          ∙ ap (λ (xs : List (List ℤ)). history_of added c ++ history_of xs c) sent_same)
          ∙ (sym (append_assoc (history_of here c) (history_of added c) (history_of sent c))
          ∙ (ap (λ (x : List ℤ). x ++ history_of sent c) (made.put_is c channel at from)
          ∙ (sym (sent_then net p code here standing got added after taken sent made t c)
          ∙ ap (sent_on c) (sym (all_made net valid p code here standing got added after taken sent made t its
          (taken_zero zeros) whole shorter)))))
      by made t (inr past) = absurd (not_there c channel at past (slice_get_cases net.channels c).1)
        where
          not_there : (c : ℕ) (channel : Channel) → slice_get net.channels c ≡ Some channel → length net.channels ≤ c
              → ((x : Channel) × (c < length net.channels) × (slice_get net.channels c ≡ Some x)
              × (get_or net.channels c x ≡ x)) ⊎ ((length net.channels ≤ c) × (slice_get net.channels c ≡ None)) → ⊥
          not_there c channel at past (inl h) = omega (arith, past, h.1)
          not_there c channel at past (inr h) = let bad : None ≡ Some channel = sym h.1 ∙ at in cc

pub never_both : (b : Bool) → b ≡ true → not b ≡ true → ⊥
never_both true is other = cc
never_both false is other = cc

pub is_then : (b : Bool) → not b ≡ false → b ≡ true
is_then true h = refl
is_then false h = absurd (cc)
