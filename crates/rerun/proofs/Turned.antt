-- A turn of a table is a turn of the stage at which the table is, and the table stays in order.
use Rattle.std.proofs.Common.{◌≡◌, ◌≢◌, ◌⊎◌, inl, inr, ℕ, ◌+◌, ◌-◌, ◌<◌, ◌≤◌, Bool, true, false, eqb, cond}
use Rattle.std.proofs.Common.{if◌then◌else◌, ℤ, List, [], ◌++◌, length, take, drop, Option, Some, None, refl, sym, ap}
use Rattle.std.proofs.Common.{subst, ◌∙◌, arith, get_or}
use Rattle.std.specs.Prelude.{slice_get, slice_index, slice_set, min}
use Rattle.std.proofs.lemmas.Bool.Decides.{eqb_tells}
use Rattle.std.proofs.lemmas.List.{length-append, length-drop, length-take, length-set, drop-append-le, drop-drop}
use Rattle.std.proofs.lemmas.List.{append-nil}
use Rattle.std.proofs.lemmas.List.{get_or-set_same, get_or-set_other, get_or_past}
use Rattle.std.proofs.lemmas.Option.{slice_get_within, slice_get-get_or, slice_get_cases, get_or_from_slice_get}
use Rattle.kahn_net.specs.Fits.{Fits}
use Rattle.kahn_net.specs.Processes.{Standing}
use Rattle.kahn_net.specs.Streams.{history_of}
use Rattle.kahn_net.specs.Syntax.{Code, Network}
use Rattle.kahn_net.specs.Valid.{IsValid}
use Rattle.kahn_net.specs.declared.limits.TheConstants.{MAX_COUNT}
use Rattle.kahn_net.specs.declared.program.Channel.{Channel}
use Rattle.kahn_net.specs.declared.program.Port.{Port}
use Rattle.kahn_net.specs.declared.program.Port.TheVariants.{Outside, Process}
use Rattle.proc_step.specs.TurnLaws.{sent_fits, taken_fits}
use Rattle.proc_step.specs.Turns.{IsTurn}
use Rattle.retained.specs.LogState.{LogState, IsLogOf, IsInLog, IsWithinLimits, Overfills, log_end, trimmed}
use Rattle.retained.specs.declared.log.TheConstants.{MAX_LOG_ITEMS}
use Rattle.rerun.specs.Rerunning.{Stage, Goes, first_stage}
use Rattle.rerun.specs.Soundness.{Comes}
use Rattle.rerun.specs.Steps.{stage_after}
use Rattle.rerun.specs.Tables.{TableView, IsAt, HasRerun, IsInOrder, log_on, is_there, is_made, leads_to, let_go_of}
use Rattle.rerun.specs.Tables.{pushed}
use Rattle.rerun.specs.Tables.{next_on, items_from, room_from, places, allowed, taken_by, put_by, count_by}
use Rattle.rerun.specs.declared.handing.TheConstants.{MAX_AT_ONCE}
use Rattle.rerun.proofs.Handed.{there_is, is_there_if, not_there, items_at, room_at, given}
use Rattle.rerun.proofs.Turning.{begins, goes_on, turn, whole, before}

-- ---- lists and logs

pub set_here : (xs : List Standing) (k : ℕ) (x : Standing) → k < length xs → slice_get (slice_set xs k x) k ≡ Some x
set_here xs k x within =
    let long : k < length (slice_set xs k x) = omega (arith, length-set xs k x) in
    slice_get-get_or (slice_set xs k x) k x long ∙ ap Some (get_or-set_same xs k x x within)

pub set_there : (xs : List Standing) (k j : ℕ) (x y : Standing) → j ≢ k → slice_get xs j ≡ Some y
    → slice_get (slice_set xs k x) j ≡ Some y
set_there xs k j x y ne is =
    let within = slice_get_within xs j y is in
    let long : j < length (slice_set xs k x) = omega (arith, length-set xs k x, within) in
    slice_get-get_or (slice_set xs k x) j y long
    ∙ ap Some (get_or-set_other xs k j x y ne ∙ get_or_from_slice_get xs j y y is)

pub pushed_of : (log : LogState) (history items : List ℤ) → IsLogOf log history
    → IsLogOf (pushed log items) (history ++ items)
pushed_of log history items h =
    let count = h.count in
    let long = length-append history items in
    let own = length-append log.items items in
    let within : log.base ≤ length history = omega (arith, count) in
    record {
      count = omega (arith, count, long, own);
      items = ap (λ (l : List ℤ). l ++ items) h.items ∙ sym (drop-append-le log.base history items within);
    }

trimmed_of : (log : LogState) (history : List ℤ) (to : ℕ) → IsInLog log to → IsLogOf log history
    → IsLogOf (trimmed log to) history
trimmed_of log history to inside h =
    let low = inside.from_base in
    let high = inside.to_end in
    let count = h.count in
    let left = length-drop (to - log.base) log.items in
    let sum : log.base + (to - log.base) ≡ to = omega (arith, low) in
    record {
      count = omega (arith, low, high, count, left);
      items = ap (drop (to - log.base)) h.items
          ∙ (drop-drop (to - log.base) log.base history ∙ ap (λ (n : ℕ). drop n history) sum);
    }

pub let_go_by : (p got : ℕ) (log : LogState) (channel : Channel) (b : Bool) → leads_to p channel ≡ b
    → let_go_of p got log (Some channel) ≡ (if b then trimmed log got else log)
let_go_by p got log channel b is = ap (λ (b : Bool). (if b then trimmed log got else log)) is

pub let_go_log : (p got : ℕ) (log : LogState) (channel : Channel) (history : List ℤ)
    → (leads_to p channel ≡ true → IsInLog log got) → IsLogOf log history
    → IsLogOf (let_go_of p got log (Some channel)) history
let_go_log p got log channel history inside h = at (leads_to p channel) refl
  where
    at : (b : Bool) → leads_to p channel ≡ b → IsLogOf (let_go_of p got log (Some channel)) history
    at true is =
        subst (λ (l : LogState). IsLogOf l history) (sym (let_go_by p got log channel true is))
        (trimmed_of log history got (inside is) h)
    at false is = subst (λ (l : LogState). IsLogOf l history) (sym (let_go_by p got log channel false is)) h

-- a channel that leads from a process to this one
pub record LeadsFrom (p : ℕ) (channel : Channel) : Type 0 where
  pub from : ℕ
  pub producer : channel.producer ≡ Process from
  pub consumer : channel.consumer ≡ Process p

pub leads_from : (p : ℕ) (channel : Channel) → leads_to p channel ≡ true → LeadsFrom p channel
leads_from p channel is = by channel.consumer channel.producer refl refl is
  where
    by : (to from : Port) → channel.consumer ≡ to → channel.producer ≡ from
        → cond (is_there p to) (is_made from) false ≡ true → LeadsFrom p channel
    by to Outside eto efrom h = absurd (none (is_there p to) h)
      where
        none : (b : Bool) → cond b false false ≡ true → ⊥
        none true h = cc
        none false h = cc
    by to (Process r) eto efrom h = record {
      from = r;
      producer = efrom;
      consumer = eto ∙ there_is p to (first (is_there p to) h);
    }
      where
        first : (b : Bool) → cond b true false ≡ true → b ≡ true
        first true h = refl
        first false h = h

pub leads_if : (p r : ℕ) (channel : Channel) → channel.producer ≡ Process r → channel.consumer ≡ Process p
    → leads_to p channel ≡ true
leads_if p r channel from to =
    ap (λ (b : Bool). cond b (is_made channel.producer) false) (is_there_if p channel.consumer to)
    ∙ ap is_made from

pub not_outside : (p : ℕ) (channel : Channel) → channel.consumer ≡ Outside → leads_to p channel ≡ false
not_outside p channel to = ap (λ (port : Port). cond (is_there p port) (is_made channel.producer) false) to

-- ---- a turn from a stage

module _ (net : Network) (inputs : List (List ℤ)) (limits : List ℕ) (p : ℕ) (old : TableView) (s : Stage)
    (ordered : IsInOrder net inputs old) (is_at : IsAt net inputs old s) (code : Code) (standing after : Standing)
    (taken : List ℕ) (sent : List (List ℤ)) (code_is : slice_get net.codes p ≡ Some code)
    (standing_is : slice_get old.standings p ≡ Some standing)
    (is_turn : IsTurn code standing (items_from inputs old p 0 net.channels) (room_from limits old p 0 net.channels)
    after
    taken sent) where
  pub own_standing : standing ≡ s.standing p
  own_standing = let here = is_at.standings p (slice_get_within net.codes p code code_is) in cc (here, standing_is)

  pub taken_here : (c : ℕ) (channel : Channel) (b : Bool) → slice_get net.channels c ≡ Some channel
      → is_there p channel.consumer ≡ b
      → taken_by p taken c (slice_get net.channels c) ≡ (if b then slice_index taken c else 0)
  taken_here c channel b is here =
      ap (taken_by p taken c) is ∙ ap (λ (b : Bool). (if b then slice_index taken c else 0)) here

  pub put_here : (c : ℕ) (channel : Channel) (b : Bool) → slice_get net.channels c ≡ Some channel
      → is_there p channel.producer ≡ b
      → put_by p sent c (slice_get net.channels c) ≡ (if b then history_of sent c else [])
  put_here c channel b is here =
      ap (put_by p sent c) is ∙ ap (λ (b : Bool). (if b then history_of sent c else [])) here

  unfoldable pub goes : Goes net s (stage_after net s p after taken sent)
  goes = record {
    process = p;
    code = code;
    items = items_from inputs old p 0 net.channels;
    room = room_from limits old p 0 net.channels;
    after = after;
    taken = taken;
    sent = sent;
    code_is = code_is;
    given = given net inputs old s ordered is_at p;
    turn = subst (λ (x : Standing). IsTurn code x (items_from inputs old p 0 net.channels)
        (room_from limits old p 0 net.channels) after taken sent) own_standing is_turn;
    moved = own;
    others = λ q ne. other q ne;
    got_own = λ c channel is to. ap (λ (n : ℕ). s.got c + n)
        (taken_here c channel true is (is_there_if p channel.consumer to));
    got_others = λ c q channel is to ne. ap (λ (n : ℕ). s.got c + n)
        (taken_here c channel false is (not_there p q channel.consumer to ne)) ∙ omega arith;
    put_own = λ c channel is from. ap (λ (l : List ℤ). s.put c ++ l)
        (put_here c channel true is (is_there_if p channel.producer from));
    put_others = λ c q channel is from ne. ap (λ (l : List ℤ). s.put c ++ l)
        (put_here c channel false is (not_there p q channel.producer from ne)) ∙ append-nil (s.put c);
    put_inputs = λ c channel is from. ap (λ (l : List ℤ). s.put c ++ l)
        (put_here c channel false is (ap (is_there p) from)) ∙ append-nil (s.put c);
  }
    where
      own : cond (eqb p p) after (s.standing p) ≡ after
      own = at (eqb_tells p p)
        where
          at : ((eqb p p ≡ true) × (p ≡ p)) ⊎ ((eqb p p ≡ false) × (p ≢ p))
              → cond (eqb p p) after (s.standing p) ≡ after
          at (inl same) = ap (λ (b : Bool). cond b after (s.standing p)) same.0
          at (inr other) = absurd (other.1 refl)

      other : (q : ℕ) → q ≢ p → cond (eqb q p) after (s.standing q) ≡ s.standing q
      other q ne = at (eqb_tells q p)
        where
          at : ((eqb q p ≡ true) × (q ≡ p)) ⊎ ((eqb q p ≡ false) × (q ≢ p))
              → cond (eqb q p) after (s.standing q) ≡ s.standing q
          at (inl same) = absurd (ne same.1)
          at (inr here) = ap (λ (b : Bool). cond b after (s.standing q)) here.0

-- ---- what a turn takes and sends

module _ (net : Network) (inputs : List (List ℤ)) (limits : List ℕ) (p : ℕ) (old : TableView) (valid : IsValid net)
    (fits : Fits net inputs) (ordered : IsInOrder net inputs old) (rerun : HasRerun net inputs old) (code : Code)
    (standing after : Standing) (taken : List ℕ) (sent : List (List ℤ)) (code_is : slice_get net.codes p ≡ Some code)
    (standing_is : slice_get old.standings p ≡ Some standing)
    (is_turn : IsTurn code standing (items_from inputs old p 0 net.channels) (room_from limits old p 0 net.channels)
    after
    taken sent) where
  abbrev pub step : Goes net rerun.stage (stage_after net rerun.stage p after taken sent)
  step = goes net inputs limits p old rerun.stage ordered rerun.is_at code standing after taken sent code_is standing_is
      is_turn

  abbrev pub come : Comes net inputs 0 (λ p. 0) rerun.stage
  come = goes_on net inputs 0 (λ p. 0) (first_stage net inputs) rerun.stages rerun.stage valid fits
      (begins net inputs valid fits) rerun.runs

  few : (c : ℕ) → slice_index taken c ≤ length (history_of (items_from inputs old p 0 net.channels) c)
  unfolding goes
  few c =
      taken_fits code (whole net inputs valid fits come.later come.acts rerun.stage _ come.sound step)
      (before net inputs valid fits come.later come.acts rerun.stage _ come.sound step p)
      (items_from inputs old p 0 net.channels) (room_from limits old p 0 net.channels) after taken sent
      (turn net inputs valid fits come.later come.acts rerun.stage _ come.sound step) c

  roomy : (c : ℕ) → length (history_of sent c) ≤ slice_index (room_from limits old p 0 net.channels) c
  unfolding goes
  roomy c =
      sent_fits code (whole net inputs valid fits come.later come.acts rerun.stage _ come.sound step)
      (before net inputs valid fits come.later come.acts rerun.stage _ come.sound step p)
      (items_from inputs old p 0 net.channels) (room_from limits old p 0 net.channels) after taken sent
      (turn net inputs valid fits come.later come.acts rerun.stage _ come.sound step) c

  -- what is got of a channel is on it by then
  pub taken_is_there : (c : ℕ) (channel : Channel) → slice_get net.channels c ≡ Some channel
      → channel.consumer ≡ Process p
      → slice_index old.got c + slice_index taken c ≤ count_by inputs old c channel.producer
  taken_is_there c channel is to =
      let here = items_at inputs old p net.channels c channel is
      ∙ ap (λ (b : Bool). (if b then take MAX_AT_ONCE (next_on inputs old c channel.producer) else []))
      (is_there_if p channel.consumer to) in
      let count : length (history_of (items_from inputs old p 0 net.channels) c)
      ≡ min MAX_AT_ONCE (length (next_on inputs old c channel.producer)) =
      ap (length {A = ℤ}) here ∙ length-take MAX_AT_ONCE (next_on inputs old c channel.producer) in
      let most = few c in
      let next : slice_index taken c ≤ length (next_on inputs old c channel.producer) = omega (arith, count, most) in
      at channel.producer refl next
    where
      at : (port : Port) → channel.producer ≡ port → slice_index taken c ≤ length (next_on inputs old c port)
          → slice_index old.got c + slice_index taken c ≤ count_by inputs old c port
      at Outside from next =
          let there = ordered.of_input c channel is from in
          let left = length-drop (slice_index old.got c) (history_of inputs c) in
          omega (arith, there, left, next)
      at (Process q) from next =
          let inside = ordered.of_link c q p channel is from to in
          let low = inside.from_base in
          let high = inside.to_end in
          let left = length-drop (slice_index old.got c - (log_on old c).base) (log_on old c).items in
          omega (arith, low, high, left, next)

  count_bound : (c : ℕ) (port : Port) → count_by inputs old c port ≤ MAX_COUNT
  count_bound c Outside = at (slice_get_cases inputs c).1
    where
      at : ((x : List ℤ) × (c < length inputs) × (slice_get inputs c ≡ Some x) × (get_or inputs c x ≡ x))
          ⊎ ((length inputs ≤ c) × (slice_get inputs c ≡ None)) → length (history_of inputs c) ≤ MAX_COUNT
      at (inl here) =
          let few = fits.few c here.0 here.2 in
          let same : length (history_of inputs c) ≡ length here.0 =
          ap (length {A = ℤ}) (get_or_from_slice_get inputs c here.0 [] here.2) in
          omega (arith, few, same)
      at (inr past) =
          let none : length (history_of inputs c) ≡ 0 = ap (length {A = ℤ}) (get_or_past inputs c [] past.0) in
          omega (arith, none)
  count_bound c (Process q) = (ordered.within c).last

  -- so many are still a count
  pub counts_on : (c : ℕ) → slice_index old.got c + taken_by p taken c (slice_get net.channels c) ≤ MAX_COUNT
  counts_on c = by (slice_get net.channels c) refl
    where
      by_end : (channel : Channel) (b : Bool) → slice_get net.channels c ≡ Some channel
          → is_there p channel.consumer ≡ b
          → slice_index old.got c + taken_by p taken c (slice_get net.channels c) ≤ MAX_COUNT
      by_end channel true is here =
          let e = ap (taken_by p taken c) is ∙ ap (λ (b : Bool). (if b then slice_index taken c else 0)) here in
          let there = taken_is_there c channel is (there_is p channel.consumer here) in
          let most = count_bound c channel.producer in
          omega (arith, e, there, most)
      by_end channel false is here =
          let e = ap (taken_by p taken c) is ∙ ap (λ (b : Bool). (if b then slice_index taken c else 0)) here in
          let most = ordered.counted c in
          omega (arith, e, most)

      by : (o : Option Channel) → slice_get net.channels c ≡ o
          → slice_index old.got c + taken_by p taken c (slice_get net.channels c) ≤ MAX_COUNT
      by None is = let e = ap (taken_by p taken c) is in let most = ordered.counted c in omega (arith, e, most)
      by (Some channel) is = by_end channel (is_there p channel.consumer) is refl

  -- what is put finds its places
  pub places_for : (c : ℕ) (channel : Channel) → slice_get net.channels c ≡ Some channel
      → length (put_by p sent c (slice_get net.channels c))
      ≤ places channel.consumer (slice_index limits c) (log_on old c)
  places_for c channel is = at (is_there p channel.producer) refl
    where
      at : (b : Bool) → is_there p channel.producer ≡ b → length (put_by p sent c (slice_get net.channels c))
          ≤ places channel.consumer (slice_index limits c) (log_on old c)
      at true here =
          let e : length (put_by p sent c (slice_get net.channels c)) ≡ length (history_of sent c) =
          ap (length {A = ℤ})
          (ap (put_by p sent c) is ∙ ap (λ (b : Bool). (if b then history_of sent c else [])) here) in
          let room = room_at limits old p net.channels c channel is
          ∙ ap (λ (b : Bool). (if b then places channel.consumer (slice_index limits c) (log_on old c) else 0)) here in
          let most = roomy c in
          subst (λ (n : ℕ). n ≤ places channel.consumer (slice_index limits c) (log_on old c)) (sym e)
          (subst (λ (n : ℕ). length (history_of sent c) ≤ n) room most)
      at false here =
          let e : length (put_by p sent c (slice_get net.channels c)) ≡ 0 =
          ap (length {A = ℤ})
          (ap (put_by p sent c) is ∙ ap (λ (b : Bool). (if b then history_of sent c else [])) here) in
          subst (λ (n : ℕ). n ≤ places channel.consumer (slice_index limits c) (log_on old c)) (sym e) (omega arith)

  pub put_within : (c : ℕ)
      → (length (log_on old c).items + length (put_by p sent c (slice_get net.channels c)) ≤ MAX_LOG_ITEMS)
      × (log_end (log_on old c) + length (put_by p sent c (slice_get net.channels c)) ≤ MAX_COUNT)
  put_within c = by (slice_get net.channels c) refl
    where
      limits_kept : IsWithinLimits (log_on old c)
      limits_kept = ordered.within c

      by : (o : Option Channel) → slice_get net.channels c ≡ o
          → (length (log_on old c).items + length (put_by p sent c (slice_get net.channels c)) ≤ MAX_LOG_ITEMS)
          × (log_end (log_on old c) + length (put_by p sent c (slice_get net.channels c)) ≤ MAX_COUNT)
      by None is =
          let none : length (put_by p sent c (slice_get net.channels c)) ≡ 0 =
          ap (λ (o : Option Channel). length (put_by p sent c o)) is in
          let few = limits_kept.count in
          let last = limits_kept.last in
          (omega (arith, none, few), omega (arith, none, last))
      by (Some channel) is =
          let found = places_for c channel is in
          let few = limits_kept.count in
          let last = limits_kept.last in
          both (length (put_by p sent c (slice_get net.channels c)))
          (allowed channel.consumer (slice_index limits c) (log_on old c)) (length (log_on old c).items)
          (log_end (log_on old c)) found few last
        where
          both : (n free len end : ℕ) → n ≤ min free (min (MAX_LOG_ITEMS - len) (MAX_COUNT - end)) → len ≤ MAX_LOG_ITEMS
              → end ≤ MAX_COUNT → (len + n ≤ MAX_LOG_ITEMS) × (end + n ≤ MAX_COUNT)
          both n free len end found few last = (omega (arith, found, few), omega (arith, found, last))

  pub not_full : (c : ℕ) → Overfills (log_on old c) (length (put_by p sent c (slice_get net.channels c))) → ⊥
  not_full c (inl more) = let fine = (put_within c).0 in omega (arith, more, fine)
  not_full c (inr more) = let fine = (put_within c).1 in omega (arith, more, fine)
