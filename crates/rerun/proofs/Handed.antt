-- What a process is handed, channel by channel: items that come next there, and room where it puts.
use Rattle.std.proofs.Common.{◌≡◌, ◌≢◌, ◌⊎◌, inl, inr, ℕ, zero, suc, ◌+◌, ◌-◌, Bool, true, false, eqb, if◌then◌else◌}
use Rattle.std.proofs.Common.{ℤ, List, [], ◌∷◌, take, drop, Option, Some, None, refl, sym, ap, ◌∙◌, arith}
use Rattle.std.specs.Prelude.{slice_get, slice_index}
use Rattle.std.proofs.lemmas.Bool.Decides.{eqb_tells}
use Rattle.std.proofs.lemmas.List.{take-append-drop, drop-drop}
use Rattle.std.proofs.lemmas.Option.{slice_get_within}
use Rattle.kahn_net.specs.Laws.Prefixes.{prefix_of, prefix_along}
use Rattle.kahn_net.specs.Streams.{history_of, IsPrefix}
use Rattle.kahn_net.specs.Syntax.{Network}
use Rattle.kahn_net.specs.declared.program.Channel.{Channel}
use Rattle.kahn_net.specs.declared.program.Port.{Port}
use Rattle.kahn_net.specs.declared.program.Port.TheVariants.{Outside, Process}
use Rattle.rerun.specs.Rerunning.{Stage, IsGiven}
use Rattle.rerun.specs.Tables.{TableView, IsAt, IsInOrder, log_on, is_there, next_on, items_from, places, room_from}
use Rattle.rerun.specs.declared.handing.TheConstants.{MAX_AT_ONCE}

-- ---- who stands at an end

pub there_is : (p : ℕ) (port : Port) → is_there p port ≡ true → port ≡ Process p
there_is p Outside is = absurd (cc)
there_is p (Process q) is = at (eqb_tells q p)
  where
    at : ((eqb q p ≡ true) × (q ≡ p)) ⊎ ((eqb q p ≡ false) × (q ≢ p)) → Process q ≡ Process p
    at (inl same) = ap Process same.1
    at (inr other) = let no : false ≡ true = sym other.0 ∙ is in absurd (cc)

pub is_there_if : (p : ℕ) (port : Port) → port ≡ Process p → is_there p port ≡ true
is_there_if p port is = ap (is_there p) is ∙ at (eqb_tells p p)
  where
    at : ((eqb p p ≡ true) × (p ≡ p)) ⊎ ((eqb p p ≡ false) × (p ≢ p)) → eqb p p ≡ true
    at (inl same) = same.0
    at (inr other) = absurd (other.1 refl)

pub not_there : (p q : ℕ) (port : Port) → port ≡ Process q → q ≢ p → is_there p port ≡ false
not_there p q port is ne = ap (is_there p) is ∙ at (eqb_tells q p)
  where
    at : ((eqb q p ≡ true) × (q ≡ p)) ⊎ ((eqb q p ≡ false) × (q ≢ p)) → eqb q p ≡ false
    at (inl same) = absurd (ne same.1)
    at (inr other) = other.0

-- ---- items

items_at_from : (inputs : List (List ℤ)) (t : TableView) (p k : ℕ) (channels : List Channel) (c : ℕ) (channel : Channel)
    → slice_get channels c ≡ Some channel
    → history_of (items_from inputs t p k channels) c
    ≡ (if is_there p channel.consumer then take MAX_AT_ONCE (next_on inputs t (k + c) channel.producer) else [])
items_at_from inputs t p k [] c channel is = absurd (cc)
items_at_from inputs t p k (x ∷ channels) zero channel is =
    let same : x ≡ channel = cc in
    let first : k ≡ k + 0 = omega arith in
    ap (λ (y : Channel). (if is_there p y.consumer then take MAX_AT_ONCE (next_on inputs t k y.producer) else [])) same
    ∙ ap (λ (n : ℕ). (if is_there p channel.consumer then take MAX_AT_ONCE (next_on inputs t n channel.producer) else
    [])) first
items_at_from inputs t p k (x ∷ channels) (suc c) channel is =
    let next : suc k + c ≡ k + suc c = omega arith in
    items_at_from inputs t p (suc k) channels c channel is
    ∙ ap (λ (n : ℕ). (if is_there p channel.consumer then take MAX_AT_ONCE (next_on inputs t n channel.producer) else
    [])) next

pub items_at : (inputs : List (List ℤ)) (t : TableView) (p : ℕ) (channels : List Channel) (c : ℕ) (channel : Channel)
    → slice_get channels c ≡ Some channel
    → history_of (items_from inputs t p 0 channels) c
    ≡ (if is_there p channel.consumer then take MAX_AT_ONCE (next_on inputs t c channel.producer) else [])
items_at inputs t p channels c channel is =
    let first : 0 + c ≡ c = omega arith in
    items_at_from inputs t p 0 channels c channel is
    ∙ ap (λ (n : ℕ). (if is_there p channel.consumer then take MAX_AT_ONCE (next_on inputs t n channel.producer) else
    [])) first

pub items_past : (inputs : List (List ℤ)) (t : TableView) (p k : ℕ) (channels : List Channel) (c : ℕ)
    → slice_get channels c ≡ None → history_of (items_from inputs t p k channels) c ≡ []
items_past inputs t p k [] c is = refl
items_past inputs t p k (x ∷ channels) zero is = absurd (cc)
items_past inputs t p k (x ∷ channels) (suc c) is = items_past inputs t p (suc k) channels c is

-- ---- room

room_at_from : (limits : List ℕ) (t : TableView) (p k : ℕ) (channels : List Channel) (c : ℕ) (channel : Channel)
    → slice_get channels c ≡ Some channel
    → slice_index (room_from limits t p k channels) c
    ≡ (if is_there p channel.producer then places channel.consumer (slice_index limits (k + c)) (log_on t (k + c)) else
    0)
room_at_from limits t p k [] c channel is = absurd (cc)
room_at_from limits t p k (x ∷ channels) zero channel is =
    let same : x ≡ channel = cc in
    let first : k ≡ k + 0 = omega arith in
    ap (λ (y : Channel). (if is_there p y.producer then places y.consumer (slice_index limits k) (log_on t k) else 0))
    same
    ∙ ap (λ (n : ℕ). (if is_there p channel.producer
    then places channel.consumer (slice_index limits n) (log_on t n) else 0)) first
room_at_from limits t p k (x ∷ channels) (suc c) channel is =
    let next : suc k + c ≡ k + suc c = omega arith in
    room_at_from limits t p (suc k) channels c channel is
    ∙ ap (λ (n : ℕ). (if is_there p channel.producer
    then places channel.consumer (slice_index limits n) (log_on t n) else 0)) next

pub room_at : (limits : List ℕ) (t : TableView) (p : ℕ) (channels : List Channel) (c : ℕ) (channel : Channel)
    → slice_get channels c ≡ Some channel
    → slice_index (room_from limits t p 0 channels) c
    ≡ (if is_there p channel.producer then places channel.consumer (slice_index limits c) (log_on t c) else 0)
room_at limits t p channels c channel is =
    let first : 0 + c ≡ c = omega arith in
    room_at_from limits t p 0 channels c channel is
    ∙ ap (λ (n : ℕ). (if is_there p channel.producer
    then places channel.consumer (slice_index limits n) (log_on t n) else 0)) first

-- ---- what is handed out comes next

take_is_prefix : (n : ℕ) (xs : List ℤ) → IsPrefix (take n xs) xs
take_is_prefix n xs = prefix_of (record { rest = drop n xs; is = sym (take-append-drop n xs) })

module _ (net : Network) (inputs : List (List ℤ)) (t : TableView) (s : Stage) (ordered : IsInOrder net inputs t)
    (is_at : IsAt net inputs t s) where
  pub next_is : (c p : ℕ) (channel : Channel) → slice_get net.channels c ≡ Some channel → channel.consumer ≡ Process p
      → next_on inputs t c channel.producer ≡ drop (s.got c) (s.put c)
  next_is c p channel is to = at channel.producer refl
    where
      got_is : slice_index t.got c ≡ s.got c
      got_is = is_at.got c (slice_get_within net.channels c channel is)

      at : (port : Port) → channel.producer ≡ port → next_on inputs t c port ≡ drop (s.got c) (s.put c)
      at Outside from =
          ap (drop (slice_index t.got c)) (sym (is_at.whole c channel is from))
          ∙ ap (λ (n : ℕ). drop n (s.put c)) got_is
      at (Process q) from =
          let inside = (ordered.of_link c q p channel is from to).from_base in
          let base = (log_on t c).base in
          let together : base + (slice_index t.got c - base) ≡ slice_index t.got c = omega (arith, inside) in
          ap (drop (slice_index t.got c - base)) (is_at.logs c q channel is from).items
          ∙ (drop-drop (slice_index t.got c - base) base (s.put c)
          ∙ (ap (λ (n : ℕ). drop n (s.put c)) together ∙ ap (λ (n : ℕ). drop n (s.put c)) got_is))

  pub given : (p c : ℕ) → IsGiven net s p (items_from inputs t p 0 net.channels) c
  given p c = by_channel (slice_get net.channels c) refl
    where
      by_end : (channel : Channel) (b : Bool) → slice_get net.channels c ≡ Some channel
          → is_there p channel.consumer ≡ b
          → IsGiven net s p (items_from inputs t p 0 net.channels) c
      by_end channel false is here =
          inl (items_at inputs t p net.channels c channel is
          ∙ ap (λ (b : Bool). (if b then take MAX_AT_ONCE (next_on inputs t c channel.producer) else [])) here)
      by_end channel true is here =
          let to = there_is p channel.consumer here in
          let all = items_at inputs t p net.channels c channel is
          ∙ (ap (λ (b : Bool). (if b then take MAX_AT_ONCE (next_on inputs t c channel.producer) else [])) here
          ∙ ap (take MAX_AT_ONCE) (next_is c p channel is to)) in
          inr (channel, is, to, prefix_along _ _ _ _ all refl (take_is_prefix MAX_AT_ONCE (drop (s.got c) (s.put c))))

      by_channel : (o : Option Channel) → slice_get net.channels c ≡ o
          → IsGiven net s p (items_from inputs t p 0 net.channels) c
      by_channel None is = inl (items_past inputs t p 0 net.channels c is)
      by_channel (Some channel) is = by_end channel (is_there p channel.consumer) is refl
