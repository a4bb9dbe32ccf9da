-- A turn taken in: the process has come further by the turn's acts.
use Rattle.std.proofs.Common.{◌≡◌, ◌⊎◌, inl, inr, ℕ, zero, suc, ◌+◌, ◌<◌, ◌≤◌, ℤ, List, [], ◌∷◌, ◌++◌, length, take, drop}
use Rattle.std.proofs.Common.{get_or, map, refl, sym, ap, ◌∙◌, subst, arith, append-nil, append_assoc}
use Rattle.std.specs.Prelude.{slice_get, slice_index, Some, None}
use Rattle.std.proofs.Props.{props}
use Rattle.std.proofs.Math.Logic.{∥∥₁_elim}
use Rattle.std.proofs.lemmas.Bool.{cases_lt}
use Rattle.std.proofs.lemmas.List.{take-append-drop, length-append, length-take-le, take_at, get_or_past, nil_from_length}
use Rattle.std.proofs.lemmas.Option.{slice_get_cases}
use Rattle.kahn_net.specs.Common.{history_of, IsPrefix, Code, Network, Step, Standing, process_trace, sent_on}
use Rattle.kahn_net.specs.Common.{code_of, left_after}
use Rattle.kahn_net.specs.Processes.{got_on, output_of}
use Rattle.kahn_net.specs.Laws.Got.{got_on-append, reads}
use Rattle.kahn_net.specs.Laws.Puts.{sent_on-append}
use Rattle.kahn_net.specs.declared.program.Channel.{Channel}
use Rattle.kahn_net.specs.declared.program.Port.TheVariants.{Process}
use Rattle.kahn_net.specs.declared.program.Process.{Process as ProcessText}
use Rattle.kahn_net.specs.declared.limits.TheConstants.{MAX_HISTORY_ITEMS}
use Rattle.proc_step.specs.Turns.{Turn, IsTurn}
use Rattle.proc_step.specs.TurnLaws.{sent_fits, taken_fits}
use Rattle.approximations.specs.AtHand.{at_hand_from, room_from}
use Rattle.approximations.specs.Adding.{IsAdded, IsPast}
use Rattle.approximations.specs.Progress.{HasMade, AreShortWith, GivesLong, IsSameElsewhere}
use Rattle.approximations.proofs.Hands.{at_hand_next, at_hand_past, room_elsewhere, port_cases}

-- what comes behind a front of this length
pub take_and_more : (steps : List Step) (m : ℕ) (acts later : List Step) → m ≤ length steps
    → drop m steps ≡ acts ++ later → take (m + length acts) steps ≡ take m steps ++ acts
take_and_more steps m acts later few split =
    let front : length (take m steps) ≡ m = length-take-le m steps few in
    let both : length (take m steps ++ acts) ≡ m + length acts =
    omega (arith, length-append (take m steps) acts, front) in
    ap (take (m + length acts))
    (sym (take-append-drop m steps)
    ∙ (ap (λ (x : List Step). take m steps ++ x) split ∙ sym (append_assoc (take m steps) acts later)))
    ∙ take_at (take m steps ++ acts) later (m + length acts) both

module _ (net : Network) (p : ℕ) (code : Code) (here : List (List ℤ)) (standing : Standing) (got : List ℕ)
    (added : List (List ℤ)) (after : Standing) (taken : List ℕ) (sent : List (List ℤ))
    (made : HasMade net p code here standing got added)
    (is_turn : IsTurn code standing (at_hand_from here got p 0 net.channels) (room_from p net.channels) after taken sent) where
  pub turn : Turn code here made.m (at_hand_from here got p 0 net.channels) (room_from p net.channels) after taken sent
  turn =
      is_turn here made.m made.stands
      (λ c. subst
      (λ (n : ℕ). IsPrefix (history_of (at_hand_from here got p 0 net.channels) c) (drop n (history_of here c)))
      (made.got_is c) (at_hand_next here got p net.channels c))

  -- the acts that were made by then
  pub all_acts : take (made.m + length turn.acts) (process_trace code here).steps
      ≡ take made.m (process_trace code here).steps ++ turn.acts
  all_acts = take_and_more (process_trace code here).steps made.m turn.acts turn.later made.stands.within turn.split

  got_then : (c : ℕ) → length (got_on c (take (made.m + length turn.acts) (process_trace code here).steps))
      ≡ slice_index got c + slice_index taken c
  got_then c =
      let joined : got_on c (take (made.m + length turn.acts) (process_trace code here).steps)
      ≡ got_on c (take made.m (process_trace code here).steps) ++ got_on c turn.acts =
      ap (got_on c) all_acts ∙ got_on-append c (take made.m (process_trace code here).steps) turn.acts in
      let count = length-append (got_on c (take made.m (process_trace code here).steps)) (got_on c turn.acts) in
      omega (arith, ap (length {A = ℤ}) joined, count, made.got_is c, turn.taken_is c)

  pub sent_then : (c : ℕ) → sent_on c (take (made.m + length turn.acts) (process_trace code here).steps)
      ≡ sent_on c (take made.m (process_trace code here).steps) ++ history_of sent c
  sent_then c =
      ap (sent_on c) all_acts
      ∙ (sent_on-append c (take made.m (process_trace code here).steps) turn.acts
      ∙ ap (λ (x : List ℤ). sent_on c (take made.m (process_trace code here).steps) ++ x) (sym (turn.sent_is c)))

  -- what it got by then is there
  pub counts_by : (c : ℕ) → slice_index got c + slice_index taken c ≤ length (history_of here c)
  counts_by c =
      let parts = ap (length {A = ℤ}) (reads code here (made.m + length turn.acts) c) in
      let count = length-append (got_on c (take (made.m + length turn.acts) (process_trace code here).steps))
      (history_of (left_after (take (made.m + length turn.acts) (process_trace code here).steps) here) c) in
      omega (arith, parts, count, got_then c)

  -- it takes nothing past the channels
  pub none_taken : (c : ℕ) → length net.channels ≤ c → slice_index taken c ≡ 0
  none_taken c past =
      let few = taken_fits code here made.m _ _ after taken sent turn c in
      let none = ap (length {A = ℤ}) (at_hand_past here got p net.channels c past) in
      omega (arith, few, none)

  -- and sends nothing where it doesn't put
  pub none_sent : (c : ℕ) (channel : Channel) → slice_get net.channels c ≡ Some channel
      → (channel.producer ≡ Process p → ⊥) → history_of sent c ≡ []
  none_sent c channel is not =
      let few = sent_fits code here made.m _ _ after taken sent turn c in
      let none = room_elsewhere p net.channels c channel is not in
      nil_from_length (history_of sent c) (omega (arith, few, none))

  -- so it has come further
  pub further : (got' : List ℕ) (added' : List (List ℤ)) → length added ≡ length net.channels
      → length got ≡ length net.channels → length got' ≡ length got
      → ((c : ℕ) → c < length got' → slice_index got' c ≡ slice_index got c + slice_index taken c)
      → IsAdded sent added added' → HasMade net p code here after got' added'
  further got' added' wide counts same counted put = record {
    m = made.m + length turn.acts;
    stands = turn.stands;
    got_is = λ c. at c (cases_lt c (length got'));
    put_is = λ c channel is from. put_at c channel is from (slice_get_cases net.channels c).1;
  }
    where
      at : (c : ℕ) → (c < length got') ⊎ (length got' ≤ c) → slice_index got' c
          ≡ length (got_on c (take (made.m + length turn.acts) (process_trace code here).steps))
      at c (inl below) = counted c below ∙ sym (got_then c)
      at c (inr past) =
          let before = get_or_past got c 0 (omega (arith, past, same)) in
          let now = get_or_past got' c 0 past in
          let none = none_taken c (omega (arith, past, same, counts)) in
          omega (arith, before, now, none, got_then c)

      put_at : (c : ℕ) (channel : Channel) → slice_get net.channels c ≡ Some channel → channel.producer ≡ Process p
          → ((x : Channel) × (c < length net.channels) × (slice_get net.channels c ≡ Some x)
          × (get_or net.channels c x ≡ x)) ⊎ ((length net.channels ≤ c) × (slice_get net.channels c ≡ None))
          → history_of here c ++ history_of added' c
          ≡ sent_on c (take (made.m + length turn.acts) (process_trace code here).steps)
      put_at c channel is from (inl there) =
          ap (λ (x : List ℤ). history_of here c ++ x) (put c (omega (arith, there.1, wide)))
          ∙ (sym (append_assoc (history_of here c) (history_of added c) (history_of sent c))
          ∙ (ap (λ (x : List ℤ). x ++ history_of sent c) (made.put_is c channel is from) ∙ sym (sent_then c)))
      put_at c channel is from (inr past) = let bad : None ≡ Some channel = sym past.1 ∙ is in absurd (cc)

  -- what it has put by then is a beginning of its function's value
  pub put_by_then : (c : ℕ) (channel : Channel) → slice_get net.channels c ≡ Some channel → channel.producer ≡ Process p
      → length (history_of here c) + length (history_of added c) + length (history_of sent c)
      ≤ length (output_of code here c)
  put_by_then c channel is from =
      let cut = take (made.m + length turn.acts) (process_trace code here).steps in
      let rest = drop (made.m + length turn.acts) (process_trace code here).steps in
      let whole : output_of code here c ≡ sent_on c cut ++ sent_on c rest =
      ap (sent_on c) (sym (take-append-drop (made.m + length turn.acts) (process_trace code here).steps))
      ∙ sent_on-append c cut rest in
      let count = length-append (sent_on c cut) (sent_on c rest) in
      let parts = ap (length {A = ℤ}) (sent_then c) in
      let joined = length-append (sent_on c (take made.m (process_trace code here).steps)) (history_of sent c) in
      let before = ap (length {A = ℤ}) (made.put_is c channel is from) in
      let sum = length-append (history_of here c) (history_of added c) in
      omega (arith, ap (length {A = ℤ}) whole, count, parts, joined, before, sum)

-- A turn of the process of this number, whatever its code is.
module _ (net : Network) (p : ℕ) (here : List (List ℤ)) (standing : Standing) (got : List ℕ) (added : List (List ℤ))
    (after : Standing) (taken taken' : List ℕ) (sent sent' : List (List ℤ))
    (there : (code : Code) × (slice_get net.codes p ≡ Some code))
    (on : (code : Code) → slice_get net.codes p ≡ Some code → ∥ HasMade net p code here standing got added ∥₁)
    (turned : (code : Code) → slice_get net.codes p ≡ Some code
    → ∥ IsTurn code standing (at_hand_from here got p 0 net.channels) (room_from p net.channels) after taken sent ∥₁)
    (wide : length added ≡ length net.channels) (short : AreShortWith here added)
    (taken_same : taken' ≡ taken) (sent_same : sent' ≡ sent) where
  -- what it has got is no more than a history may have
  pub counts_fit : (got' : List ℕ) → got' ≡ got → (c : ℕ)
      → slice_index got' c + slice_index taken' c ≤ MAX_HISTORY_ITEMS
  counts_fit got' same c =
      let few : slice_index got c + slice_index taken c ≤ length (history_of here c) =
      ∥∥₁_elim (on there.0 there.1) (hlevel props)
      (λ made. ∥∥₁_elim (turned there.0 there.1) (hlevel props)
      (λ t. counts_by net p there.0 here standing got added after taken sent made t c)) in
      let most = short c in
      omega (
        arith,
        few,
        most,
        ap (λ (xs : List ℕ). slice_index xs c) same,
        ap (λ (xs : List ℕ). slice_index xs c) taken_same,
      )

  pub on_then : (got' new before : List ℕ) (added' : List (List ℤ)) → got' ≡ new → before ≡ got
      → length got ≡ length net.channels → length new ≡ length before
      → ((c : ℕ) → c < length new → slice_index new c ≡ slice_index before c + slice_index taken' c)
      → IsAdded sent' added added' → (code : Code) → slice_get net.codes p ≡ Some code
      → ∥ HasMade net p code here after got' added' ∥₁
  on_then got' new before added' same was counts long counted put code is =
      ∥∥₁_elim (on code is) (hlevel props)
      (λ made. ∥∥₁_elim (turned code is) (hlevel props)
      (λ t. ∣ further net p code here standing got added after taken sent made t got' added' wide counts
      (ap (length {A = ℕ}) same ∙ (long ∙ ap (length {A = ℕ}) was))
      (λ c below. ap (λ (xs : List ℕ). slice_index xs c) same
      ∙ (counted c (omega (arith, below, ap (length {A = ℕ}) same))
      ∙ (ap (λ (xs : List ℕ). slice_index xs c + slice_index taken' c) was
      ∙ ap (λ (xs : List ℕ). slice_index got c + slice_index xs c) taken_same)))
      (λ c below. put c below ∙ ap (λ (xs : List (List ℤ)). history_of added c ++ history_of xs c) sent_same) ∣₁))

  nothing_sent : (c : ℕ) (channel : Channel) → slice_get net.channels c ≡ Some channel
      → (channel.producer ≡ Process p → ⊥) → history_of sent' c ≡ []
  nothing_sent c channel is not =
      ap (λ (xs : List (List ℤ)). history_of xs c) sent_same
      ∙ ∥∥₁_elim (on there.0 there.1) (hlevel props)
      (λ made. ∥∥₁_elim (turned there.0 there.1) (hlevel props)
      (λ t. none_sent net p there.0 here standing got added after taken sent made t c channel is not))

  pub elsewhere_then : (added' : List (List ℤ)) → IsAdded sent' added added' → IsSameElsewhere net p added added'
  elsewhere_then added' put c channel is not = at (slice_get_cases net.channels c).1
    where
      at : ((x : Channel) × (c < length net.channels) × (slice_get net.channels c ≡ Some x)
          × (get_or net.channels c x ≡ x)) ⊎ ((length net.channels ≤ c) × (slice_get net.channels c ≡ None))
          → history_of added' c ≡ history_of added c
      at (inl here') =
          put c (omega (arith, here'.1, wide))
          ∙ (ap (λ (x : List ℤ). history_of added c ++ x) (nothing_sent c channel is not)
          ∙ append-nil (history_of added c))
      at (inr past) = let bad : None ≡ Some channel = sym past.1 ∙ is in absurd (cc)

  pub long_then : IsPast here added sent' → GivesLong net p here
  long_then past = at (slice_get_cases net.channels past.c).1
    where
      at : ((x : Channel) × (past.c < length net.channels) × (slice_get net.channels past.c ≡ Some x)
          × (get_or net.channels past.c x ≡ x)) ⊎ ((length net.channels ≤ past.c) × (slice_get net.channels past.c ≡ None))
          → GivesLong net p here
      at (inr none) = let below = past.below in absurd (omega (arith, none.0, below, wide))
      at (inl here') = by (port_cases p here'.0.producer)
        where
          by : (here'.0.producer ≡ Process p) ⊎ (here'.0.producer ≡ Process p → ⊥) → GivesLong net p here
          by (inr not) =
              let none = ap (length {A = ℤ}) (nothing_sent past.c here'.0 here'.2 not) in
              let more = past.past in
              let most = short past.c in
              absurd (omega (arith, none, more, most))
          by (inl from) = record {
            c = past.c;
            channel = here'.0;
            there = here'.2;
            from = from;
            long = λ code is. ∥∥₁_elim (on code is) (hlevel props)
                (λ made. ∥∥₁_elim (turned code is) (hlevel props)
                (λ t. let least =
                put_by_then net p code here standing got added after taken sent made t past.c here'.0 here'.2 from in
                let more = past.past in
                omega (
                  arith,
                  least,
                  more,
                  ap (λ (xs : List (List ℤ)). length (history_of xs past.c)) sent_same,
                )));
          }

-- the code of a process that is there
pub code_here : (ps : List ProcessText) (p : ℕ) → p < length ps
    → (code : Code) × (slice_get (map code_of ps) p ≡ Some code)
code_here [] p lt = absurd (omega (arith, lt))
code_here (x ∷ ps) zero lt = (code_of x, refl)
code_here (x ∷ ps) (suc p) lt = code_here ps p (omega (arith, lt))
