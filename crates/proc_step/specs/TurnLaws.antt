-- Laws of a turn: it sends no more than there is room, and takes no more than is at hand.
use Rattle.std.proofs.Common.{◌≡◌, ◌≢◌, ◌⊎◌, inl, inr, ℕ, ◌+◌, ◌<◌, ◌≤◌, Bool, true, false, cond, eqb, List, ℤ, [], ◌∷◌}
use Rattle.std.proofs.Common.{◌++◌, length, set, sym, ap, ◌∙◌, subst, arith}
use Rattle.std.specs.Prelude.{slice_get, slice_index, Some}
use Rattle.std.proofs.lemmas.List.{length-append, length-set, length-replicate, get_or-set_same, get_or-set_other}
use Rattle.std.proofs.lemmas.List.{get_or_past, get_or-replicate}
use Rattle.std.proofs.lemmas.Bool.{cases_lt}
use Rattle.std.proofs.lemmas.Bool.Decides.{eqb_tells}
use Rattle.kahn_net.specs.Common.{history_of, Code, Got, Sent, Step, Standing, sent_on, put_by, left_by, left_after}
use Rattle.kahn_net.specs.Statements.{Act}
use Rattle.kahn_net.specs.Processes.{sent_by, got_on}
use Rattle.kahn_net.specs.Laws.Got.{IsNextItem, IsReading, got_and_left}
use Rattle.proc_step.specs.Turns.{CanBeMade, CanAllBeMade, nothing_sent, Turn}

-- what is sent, beside what was sent before, is within the room
within_room : (acts : List Step) (room : List ℕ) (left sent : List (List ℤ)) (c : ℕ) → length sent ≡ length room
    → CanAllBeMade acts room left sent
    → length (history_of sent c) ≤ slice_index room c
    → length (history_of sent c) + length (sent_on c acts) ≤ slice_index room c
within_room [] room left sent c same made h = omega arith
within_room (s ∷ acts) room left sent c same made h =
    at s.act made.0 (λ l u e k. within_room acts room l u c e k) made.1
  where
    at : (a : Act) → CanBeMade a room left sent
        → ((l u : List (List ℤ)) → length u ≡ length room → CanAllBeMade acts room l u
        → length (history_of u c) ≤ slice_index room c
        → length (history_of u c) + length (sent_on c acts) ≤ slice_index room c)
        → CanAllBeMade acts room (left_by a left) (put_by a sent)
        → length (history_of sent c) + length (sent_by c a (sent_on c acts)) ≤ slice_index room c
    at (Got d item) can later more = later (left_by (Got d item) left) sent same more h
    at (Sent d item) can later more = by (eqb_tells d c)
      where
        put : List ℤ
        put = history_of sent d ++ item ∷ []

        kept : length (set sent d put) ≡ length room
        kept = length-set sent d put ∙ same

        by : ((eqb d c ≡ true) × (d ≡ c)) ⊎ ((eqb d c ≡ false) × (d ≢ c))
            → length (history_of sent c) + length (cond (eqb d c) (item ∷ sent_on c acts) (sent_on c acts))
            ≤ slice_index room c
        by (inl here) = in_room (cases_lt d (length sent))
          where
            in_room : (d < length sent) ⊎ (length sent ≤ d)
                → length (history_of sent c) + length (cond (eqb d c) (item ∷ sent_on c acts) (sent_on c acts))
                ≤ slice_index room c
            in_room (inr past) = let none : slice_index room d ≡ 0 =
                get_or_past room d 0 (omega (arith, same, past)) in absurd (omega (arith, none, can))
            in_room (inl below) =
                let now : history_of (set sent d put) d ≡ put = get_or-set_same sent d put [] below in
                let long : length put ≡ length (history_of sent d) + 1 =
                length-append (history_of sent d) (item ∷ []) in
                let len : length (history_of (set sent d put) c) ≡ length (history_of sent c) + 1 =
                subst (λ (n : ℕ). length (history_of (set sent d put) n) ≡ length (history_of sent n) + 1) here.1
                (ap (length {A = ℤ}) now ∙ long) in
                let fits : length (history_of sent c) < slice_index room c =
                subst (λ (n : ℕ). length (history_of sent n) < slice_index room n) here.1 can in
                let r = later left (set sent d put) kept more (omega (arith, len, fits)) in
                let one_more : length (cond (eqb d c) (item ∷ sent_on c acts) (sent_on c acts))
                ≡ length (sent_on c acts) + 1 =
                ap (λ (b : Bool). length (cond b (item ∷ sent_on c acts) (sent_on c acts))) here.0 ∙ omega arith in
                omega (arith, r, len, one_more)
        by (inr there) =
            let ne : c ≡ d → ⊥ = λ e. there.1 (sym e) in
            let len : length (history_of (set sent d put) c) ≡ length (history_of sent c) =
            ap (length {A = ℤ}) (get_or-set_other sent d c put [] ne) in
            let r = later left (set sent d put) kept more (omega (arith, len, h)) in
            let none_more : length (cond (eqb d c) (item ∷ sent_on c acts) (sent_on c acts)) ≡ length (sent_on c acts) =
            ap (λ (b : Bool). length (cond b (item ∷ sent_on c acts) (sent_on c acts))) there.0 in
            omega (arith, r, len, none_more)

-- each get gets the next item at hand
first_of_some : (h : List ℤ) (item : ℤ) → slice_get h 0 ≡ Some item → (left : List ℤ) × (h ≡ item ∷ left)
first_of_some [] item e = absurd (cc)
first_of_some (x ∷ h) item e = (h, (let same : x ≡ item = cc in ap (λ (y : ℤ). y ∷ h) same))

reading : (acts : List Step) (room : List ℕ) (left sent : List (List ℤ)) → CanAllBeMade acts room left sent
    → IsReading acts left
reading [] room left sent made = tt
reading (s ∷ acts) room left sent made =
    (at s.act made.0, reading acts room (left_by s.act left) (put_by s.act sent) made.1)
  where
    at : (a : Act) → CanBeMade a room left sent → IsNextItem a left
    at (Got d item) can = first_of_some (history_of left d) item can
    at (Sent d item) can = tt

none_sent : (room : List ℕ) (c : ℕ) → length (history_of (nothing_sent room) c) ≡ 0
none_sent room c = at (cases_lt c (length room))
  where
    at : (c < length room) ⊎ (length room ≤ c) → length (history_of (nothing_sent room) c) ≡ 0
    at (inl below) = ap (length {A = ℤ}) (get_or-replicate (length room) c [] [] below)
    at (inr past) =
        ap (length {A = ℤ})
        (get_or_past (nothing_sent room) c [] (omega (arith, length-replicate {A = List ℤ} (length room) [], past)))

-- what a turn sends on a channel fits the room there
pub sent_fits : (code : Code) (inputs : List (List ℤ)) (m : ℕ) (items : List (List ℤ)) (room : List ℕ)
    (after : Standing) (taken : List ℕ) (sent : List (List ℤ))
    → Turn code inputs m items room after taken sent → (c : ℕ) → length (history_of sent c) ≤ slice_index room c
sent_fits code inputs m items room after taken sent turn c =
    let none = none_sent room c in
    let all =
    within_room turn.acts room items (nothing_sent room) c (length-replicate (length room) []) turn.made
    (omega (arith, none)) in
    omega (arith, none, all, ap (length {A = ℤ}) (turn.sent_is c))

-- what it takes from a channel is at hand there
pub taken_fits : (code : Code) (inputs : List (List ℤ)) (m : ℕ) (items : List (List ℤ)) (room : List ℕ)
    (after : Standing) (taken : List ℕ) (sent : List (List ℤ))
    → Turn code inputs m items room after taken sent → (c : ℕ) → slice_index taken c ≤ length (history_of items c)
taken_fits code inputs m items room after taken sent turn c =
    let got = got_and_left turn.acts items c (reading turn.acts room items (nothing_sent room) turn.made) in
    omega (
      arith,
      turn.taken_is c,
      ap (length {A = ℤ}) got,
      length-append (got_on c turn.acts)
          (history_of (left_after turn.acts items) c),
    )
