-- What a process has at hand comes next, and it has no room where it doesn't put.
use Rattle.std.proofs.Common.{◌≡◌, ◌≢◌, ◌⊎◌, inl, inr, ℕ, zero, suc, ◌+◌, ◌≤◌, Bool, true, false, eqb, ℤ, List, []}
use Rattle.std.proofs.Common.{◌∷◌, length, take, drop, refl, sym, ap, ◌∙◌, subst, arith, if◌then◌else◌}
use Rattle.std.specs.Prelude.{slice_get, slice_index, Some}
use Rattle.std.proofs.lemmas.Bool.Decides.{eqb_tells}
use Rattle.std.proofs.lemmas.List.{take-append-drop, get_or_past}
use Rattle.kahn_net.specs.Common.{history_of, IsPrefix}
use Rattle.kahn_net.specs.Laws.Prefixes.{prefix_of, prefix_nil}
use Rattle.kahn_net.specs.declared.program.Channel.{Channel}
use Rattle.kahn_net.specs.declared.program.Port.{Port}
use Rattle.kahn_net.specs.declared.program.Port.TheVariants.{Outside, Process}
use Rattle.approximations.specs.AtHand.{is_process, next_items, at_hand_from, room_from}
use Rattle.approximations.specs.declared.at_hand.TheConstants.{MAX_AT_ONCE, ROOM}

-- the first items of a list are a front of it
take_is_front : (n : ℕ) (xs : List ℤ) → IsPrefix (take n xs) xs
take_is_front n xs = prefix_of (record { rest = drop n xs; is = sym (take-append-drop n xs) })

if_front : (b : Bool) (xs whole : List ℤ) → IsPrefix xs whole → IsPrefix (if b then xs else []) whole
if_front true xs whole h = h
if_front false xs whole h = prefix_nil [] whole refl

at_hand_front : (here : List (List ℤ)) (got : List ℕ) (p k : ℕ) (channels : List Channel) (c : ℕ)
    → IsPrefix (history_of (at_hand_from here got p k channels) c) (drop (slice_index got (k + c)) (history_of here (k + c)))
at_hand_front here got p k [] c = prefix_nil [] (drop (slice_index got (k + c)) (history_of here (k + c))) refl
at_hand_front here got p k (x ∷ channels) zero =
    let same : k ≡ k + 0 = omega arith in
    subst (λ (n : ℕ). IsPrefix (if is_process p x.consumer then next_items here got k else [])
    (drop (slice_index got n) (history_of here n))) same
    (if_front (is_process p x.consumer) (next_items here got k) (drop (slice_index got k) (history_of here k))
    (take_is_front MAX_AT_ONCE (drop (slice_index got k) (history_of here k))))
at_hand_front here got p k (x ∷ channels) (suc c) =
    let same : suc k + c ≡ k + suc c = omega arith in
    subst (λ (n : ℕ). IsPrefix (history_of (at_hand_from here got p (suc k) channels) c)
    (drop (slice_index got n) (history_of here n))) same (at_hand_front here got p (suc k) channels c)

-- what is at hand of a channel comes next there
pub at_hand_next : (here : List (List ℤ)) (got : List ℕ) (p : ℕ) (channels : List Channel) (c : ℕ)
    → IsPrefix (history_of (at_hand_from here got p 0 channels) c) (drop (slice_index got c) (history_of here c))
at_hand_next here got p channels c =
    let same : 0 + c ≡ c = omega arith in
    subst (λ (n : ℕ). IsPrefix (history_of (at_hand_from here got p 0 channels) c)
    (drop (slice_index got n) (history_of here n))) same (at_hand_front here got p 0 channels c)

length-at_hand : (here : List (List ℤ)) (got : List ℕ) (p k : ℕ) (channels : List Channel)
    → length (at_hand_from here got p k channels) ≡ length channels
length-at_hand here got p k [] = refl
length-at_hand here got p k (x ∷ channels) = ap suc (length-at_hand here got p (suc k) channels)

-- nothing is at hand past the channels
pub at_hand_past : (here : List (List ℤ)) (got : List ℕ) (p : ℕ) (channels : List Channel) (c : ℕ) → length channels ≤ c
    → history_of (at_hand_from here got p 0 channels) c ≡ []
at_hand_past here got p channels c past =
    let n = length-at_hand here got p 0 channels in
    get_or_past (at_hand_from here got p 0 channels) c [] (omega (arith, n, past))

is_not : (p : ℕ) (port : Port) → (port ≡ Process p → ⊥) → is_process p port ≡ false
is_not p Outside not = refl
is_not p (Process q) not = at (eqb_tells q p)
  where
    at : ((eqb q p ≡ true) × (q ≡ p)) ⊎ ((eqb q p ≡ false) × (q ≢ p)) → eqb q p ≡ false
    at (inl same) = absurd (not (ap (λ (n : ℕ). Process n) same.1))
    at (inr other) = other.0

-- where the process doesn't put, it has no room
pub room_elsewhere : (p : ℕ) (channels : List Channel) (c : ℕ) (channel : Channel) → slice_get channels c ≡ Some channel
    → (channel.producer ≡ Process p → ⊥) → slice_index (room_from p channels) c ≡ 0
room_elsewhere p [] c channel is not = absurd (cc)
room_elsewhere p (x ∷ channels) zero channel is not =
    let same : x ≡ channel = cc in
    ap (λ (y : Channel). (if is_process p y.producer then ROOM else 0)) same
    ∙ ap (λ (b : Bool). (if b then ROOM else 0)) (is_not p channel.producer not)
room_elsewhere p (x ∷ channels) (suc c) channel is not = room_elsewhere p channels c channel is not

-- and elsewhere there is a place more than a history may have
is_that : (p : ℕ) (port : Port) → port ≡ Process p → is_process p port ≡ true
is_that p Outside is = absurd (cc)
is_that p (Process q) is = at (eqb_tells q p)
  where
    same : q ≡ p
    same = cc

    at : ((eqb q p ≡ true) × (q ≡ p)) ⊎ ((eqb q p ≡ false) × (q ≢ p)) → eqb q p ≡ true
    at (inl here) = here.0
    at (inr other) = absurd (other.1 same)

pub room_there : (p : ℕ) (channels : List Channel) (c : ℕ) (channel : Channel) → slice_get channels c ≡ Some channel
    → channel.producer ≡ Process p → slice_index (room_from p channels) c ≡ ROOM
room_there p [] c channel is from = absurd (cc)
room_there p (x ∷ channels) zero channel is from =
    let same : x ≡ channel = cc in
    ap (λ (y : Channel). (if is_process p y.producer then ROOM else 0)) same
    ∙ ap (λ (b : Bool). (if b then ROOM else 0)) (is_that p channel.producer from)
room_there p (x ∷ channels) (suc c) channel is from = room_there p channels c channel is from

-- whether this port is this process
pub port_cases : (p : ℕ) (port : Port) → (port ≡ Process p) ⊎ (port ≡ Process p → ⊥)
port_cases p Outside = inr (λ e. cc)
port_cases p (Process q) = at (eqb_tells q p)
  where
    at : ((eqb q p ≡ true) × (q ≡ p)) ⊎ ((eqb q p ≡ false) × (q ≢ p))
        → (Process q ≡ Process p) ⊎ (Process q ≡ Process p → ⊥)
    at (inl here) = inl (ap (λ (n : ℕ). Process n) here.1)
    at (inr other) = inr (λ e. other.1 (cc))

-- of a channel from which the process gets, what comes next is at hand
at_hand_from_there : (here : List (List ℤ)) (got : List ℕ) (p k : ℕ) (channels : List Channel) (c : ℕ)
    (channel : Channel) → slice_get channels c ≡ Some channel → channel.consumer ≡ Process p
    → history_of (at_hand_from here got p k channels) c ≡ next_items here got (k + c)
at_hand_from_there here got p k [] c channel is from = absurd (cc)
at_hand_from_there here got p k (x ∷ channels) zero channel is from =
    let same : x ≡ channel = cc in
    let first : k ≡ k + 0 = omega arith in
    ap (λ (y : Channel). (if is_process p y.consumer then next_items here got k else [])) same
    ∙ (ap (λ (b : Bool). (if b then next_items here got k else [])) (is_that p channel.consumer from)
    ∙ ap (λ (n : ℕ). next_items here got n) first)
at_hand_from_there here got p k (x ∷ channels) (suc c) channel is from =
    let next : suc k + c ≡ k + suc c = omega arith in
    at_hand_from_there here got p (suc k) channels c channel is from ∙ ap (λ (n : ℕ). next_items here got n) next

pub at_hand_there : (here : List (List ℤ)) (got : List ℕ) (p : ℕ) (channels : List Channel) (c : ℕ) (channel : Channel)
    → slice_get channels c ≡ Some channel → channel.consumer ≡ Process p
    → history_of (at_hand_from here got p 0 channels) c ≡ next_items here got c
at_hand_there here got p channels c channel is from =
    let same : 0 + c ≡ c = omega arith in
    at_hand_from_there here got p 0 channels c channel is from ∙ ap (λ (n : ℕ). next_items here got n) same
