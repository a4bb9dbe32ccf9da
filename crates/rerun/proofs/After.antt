-- What is true of a table behind a turn: it is at the stage to which the turn leads, and in order.
use Rattle.std.proofs.Common.{◌≡◌, ◌≢◌, ◌⊎◌, inl, inr, ℕ, ◌+◌, ◌-◌, ◌<◌, ◌≤◌, Bool, true, false, eqb, cond}
use Rattle.std.proofs.Common.{if◌then◌else◌, ℤ, List, [], ◌∷◌, ◌++◌, length, Option, Some, None, refl, sym, ap, subst}
use Rattle.std.proofs.Common.{◌∙◌}
use Rattle.std.proofs.Common.{arith}
use Rattle.std.specs.Prelude.{slice_get, slice_index, slice_set, min, max}
use Rattle.std.proofs.lemmas.Bool.{cases_lt}
use Rattle.std.proofs.lemmas.Bool.Decides.{eqb_tells}
use Rattle.std.proofs.lemmas.List.{append-nil, length-append, length-drop, length-set, get_or_past}
use Rattle.std.proofs.lemmas.Option.{slice_get_within}
use Rattle.kahn_net.specs.Fits.{Fits}
use Rattle.kahn_net.specs.Processes.{Standing}
use Rattle.kahn_net.specs.Streams.{history_of}
use Rattle.kahn_net.specs.Syntax.{Network}
use Rattle.kahn_net.specs.Valid.{IsValid}
use Rattle.kahn_net.specs.declared.limits.TheConstants.{MAX_COUNT}
use Rattle.kahn_net.specs.declared.program.Channel.{Channel}
use Rattle.kahn_net.specs.declared.program.Port.{Port}
use Rattle.kahn_net.specs.declared.program.Port.TheVariants.{Outside, Process}
use Rattle.retained.specs.LogState.{LogState, IsLogOf, IsInLog, IsWithinLimits, log_end}
use Rattle.rerun.specs.Rerunning.{Stage, Goes, Reruns, first_stage}
use Rattle.rerun.specs.Steps.{stage_after, TurnsAreSteps}
use Rattle.rerun.specs.Tables.{TableView, IsAt, HasRerun, IsInOrder, Turned, KeepsLimits, log_on, no_log, is_there}
use Rattle.rerun.specs.Tables.{is_made, leads_to, let_go_of, pushed, places, taken_by, put_by, count_by}
use Rattle.rerun.proofs.Handed.{not_there, there_is}
use Rattle.rerun.proofs.Taken.{in_log}
use Rattle.rerun.proofs.Turned.{goes, counts_on, taken_is_there, places_for, put_within, let_go_by, let_go_log}
use Rattle.rerun.proofs.Turned.{pushed_of}
use Rattle.rerun.proofs.Turned.{leads_if, not_outside, set_here, set_there}

reruns_more : (net : Network) (s : Stage) (stages : List Stage) (t u : Stage) → Reruns net s stages t → Goes net t u
    → Reruns net s (stages ++ u ∷ []) u
reruns_more net s [] t u same goes = (subst (λ (x : Stage). Goes net x u) (sym same) goes, refl)
reruns_more net s (v ∷ stages) t u runs goes = (runs.0, reruns_more net v stages t u runs.1 goes)

let_go_within : (p got : ℕ) (log : LogState) (channel : Channel) → (leads_to p channel ≡ true → IsInLog log got)
    → IsWithinLimits log → IsWithinLimits (let_go_of p got log (Some channel))
let_go_within p got log channel inside within = at (leads_to p channel) refl
  where
    at : (b : Bool) → leads_to p channel ≡ b → IsWithinLimits (let_go_of p got log (Some channel))
    at true is =
        let there = inside is in
        let low = there.from_base in
        let high = there.to_end in
        let few = within.count in
        let last = within.last in
        let left = length-drop (got - log.base) log.items in
        subst (λ (l : LogState). IsWithinLimits l) (sym (let_go_by p got log channel true is))
        (record { count = omega (arith, few, left); last = omega (arith, low, high, last, left) })
    at false is = subst (λ (l : LogState). IsWithinLimits l) (sym (let_go_by p got log channel false is)) within

module _ (net : Network) (inputs : List (List ℤ)) (limits : List ℕ) (p : ℕ) (old new : TableView) (valid : IsValid net)
    (fits : Fits net inputs) (ordered : IsInOrder net inputs old) (rerun : HasRerun net inputs old)
    (turned : Turned net inputs limits p old new) where
  abbrev items_put : ℕ → List ℤ
  items_put c = put_by p turned.sent c (slice_get net.channels c)

  log_then : (c : ℕ) (channel : Channel) → slice_get net.channels c ≡ Some channel
      → log_on new c ≡ let_go_of p (slice_index new.got c) (pushed (log_on old c) (items_put c)) (Some channel)
  log_then c channel is =
      turned.logs c (slice_get_within net.channels c channel is)
      ∙ ap (let_go_of p (slice_index new.got c) (pushed (log_on old c) (items_put c))) is

  in_log_then : (c : ℕ) (channel : Channel) → slice_get net.channels c ≡ Some channel → leads_to p channel ≡ true
      → IsInLog (pushed (log_on old c) (items_put c)) (slice_index new.got c)
  in_log_then c channel is leads =
      in_log net inputs limits p old valid fits ordered ∣ rerun ∣₁ turned.code turned.before turned.after turned.taken
      turned.sent turned.code_is turned.before_is ∣ turned.turn ∣₁ c channel (pushed (log_on old c) (items_put c))
      (slice_index new.got c) (items_put c) is leads refl (turned.got c (slice_get_within net.channels c channel is))

  pub is_at_then : (s : Stage) → IsAt net inputs old s
      → IsAt net inputs new (stage_after net s p turned.after turned.taken turned.sent)
  is_at_then s is_at = record {
    standings = λ q below. standing q below (eqb_tells q p);
    got = λ c below. turned.got c below
        ∙ ap (λ (n : ℕ). n + taken_by p turned.taken c (slice_get net.channels c)) (is_at.got c below);
    logs = λ c q channel is from. subst (λ (l : LogState). IsLogOf l (s.put c ++ items_put c))
        (sym (log_then c channel is))
        (let_go_log p (slice_index new.got c) (pushed (log_on old c) (items_put c)) channel (s.put c ++ items_put c)
        (in_log_then c channel is) (pushed_of (log_on old c) (s.put c) (items_put c) (is_at.logs c q channel is from)));
    whole = λ c channel is from.
        ap (λ (l : List ℤ). s.put c ++ l)
        (ap (put_by p turned.sent c) is
        ∙ ap (λ (port : Port). (if is_there p port then history_of turned.sent c else [])) from)
        ∙ (append-nil (s.put c) ∙ is_at.whole c channel is from);
  }
    where
      standing : (q : ℕ) → q < length net.codes
          → ((eqb q p ≡ true) × (q ≡ p)) ⊎ ((eqb q p ≡ false) × (q ≢ p))
          → slice_get new.standings q ≡ Some (cond (eqb q p) turned.after (s.standing q))
      standing q below (inl same) =
          ap (λ (l : List Standing). slice_get l q) turned.standings
          ∙ (ap (slice_get (slice_set old.standings p turned.after)) same.1
          ∙ (set_here old.standings p turned.after (slice_get_within old.standings p turned.before turned.before_is)
          ∙ ap (λ (b : Bool). Some (cond b turned.after (s.standing q))) (sym same.0)))
      standing q below (inr other) =
          ap (λ (l : List Standing). slice_get l q) turned.standings
          ∙ (set_there old.standings p q turned.after (s.standing q) other.1 (is_at.standings q below)
          ∙ ap (λ (b : Bool). Some (cond b turned.after (s.standing q))) (sym other.0))

  pub goes_then : (s : Stage) → IsAt net inputs old s
      → Goes net s (stage_after net s p turned.after turned.taken turned.sent)
  goes_then s is_at =
      goes net inputs limits p old s ordered is_at turned.code turned.before turned.after turned.taken turned.sent
      turned.code_is turned.before_is turned.turn

  pub rerun_then : HasRerun net inputs new
  rerun_then = record {
    stages = rerun.stages
        ++ stage_after net rerun.stage p turned.after turned.taken turned.sent ∷ [];
    stage = stage_after net rerun.stage p turned.after turned.taken turned.sent;
    runs = reruns_more net (first_stage net inputs) rerun.stages rerun.stage
        (stage_after net rerun.stage p turned.after turned.taken turned.sent) rerun.runs
        (goes_then rerun.stage rerun.is_at);
    is_at = is_at_then rerun.stage rerun.is_at;
  }

  counts_then : (c : ℕ)
      → slice_index old.got c + taken_by p turned.taken c (slice_get net.channels c) ≤ MAX_COUNT
  counts_then =
      counts_on net inputs limits p old valid fits ordered rerun turned.code turned.before turned.after turned.taken
      turned.sent turned.code_is turned.before_is turned.turn

  pushed_within : (c : ℕ) → IsWithinLimits (pushed (log_on old c) (items_put c))
  pushed_within c =
      let both = put_within net inputs limits p old valid fits ordered rerun turned.code turned.before turned.after
      turned.taken turned.sent turned.code_is turned.before_is turned.turn c in
      let few = both.0 in
      let last = both.1 in
      let long = length-append (log_on old c).items (items_put c) in
      record { count = omega (arith, few, long); last = omega (arith, last, long) }

  taken_here : (c : ℕ) (channel : Channel) (b : Bool) → slice_get net.channels c ≡ Some channel
      → is_there p channel.consumer ≡ b
      → taken_by p turned.taken c (slice_get net.channels c) ≡ (if b then slice_index turned.taken c else 0)
  taken_here c channel b is here =
      ap (taken_by p turned.taken c) is ∙ ap (λ (b : Bool). (if b then slice_index turned.taken c else 0)) here

  pub ordered_then : IsInOrder net inputs new
  ordered_then = record {
    standings = ap (length {A = Standing}) turned.standings
        ∙ (length-set old.standings p turned.after ∙ ordered.standings);
    counts = turned.counts ∙ ordered.counts;
    logs = turned.logged ∙ ordered.logs;
    counted = λ c. counted c (cases_lt c (length net.channels));
    within = λ c. within c (slice_get net.channels c) refl;
    of_input = λ c channel is from. of_input c channel is from (is_there p channel.consumer) refl;
    of_link = λ c q r channel is from to. of_link c q r channel is from to (eqb_tells r p);
  }
    where
      counted : (c : ℕ) → (c < length net.channels) ⊎ (length net.channels ≤ c) → slice_index new.got c ≤ MAX_COUNT
      counted c (inl below) =
          let e = turned.got c below in let most = counts_then c in omega (arith, e, most)
      counted c (inr past) =
          let wide = turned.counts ∙ ordered.counts in
          let none : slice_index new.got c ≡ 0 = get_or_past new.got c 0 (omega (arith, wide, past)) in
          omega (arith, none)

      within : (c : ℕ) (o : Option Channel) → slice_get net.channels c ≡ o → IsWithinLimits (log_on new c)
      within c (Some channel) is =
          subst (λ (l : LogState). IsWithinLimits l) (sym (log_then c channel is))
          (let_go_within p (slice_index new.got c) (pushed (log_on old c) (items_put c)) channel
          (in_log_then c channel is) (pushed_within c))
      within c None is = at (cases_lt c (length net.channels))
        where
          at : (c < length net.channels) ⊎ (length net.channels ≤ c) → IsWithinLimits (log_on new c)
          at (inl below) =
              subst (λ (l : LogState). IsWithinLimits l)
              (sym (turned.logs c below
              ∙ ap (let_go_of p (slice_index new.got c) (pushed (log_on old c) (items_put c))) is))
              (pushed_within c)
          at (inr past) =
              let wide = turned.logged ∙ ordered.logs in
              subst (λ (l : LogState). IsWithinLimits l)
              (sym (get_or_past new.logs c no_log (omega (arith, wide, past))))
              (record { count = omega arith; last = omega arith })

      of_input : (c : ℕ) (channel : Channel) → slice_get net.channels c ≡ Some channel → channel.producer ≡ Outside
          → (b : Bool) → is_there p channel.consumer ≡ b → slice_index new.got c ≤ length (history_of inputs c)
      of_input c channel is from true here =
          let e = turned.got c (slice_get_within net.channels c channel is) in
          let own = taken_here c channel true is here in
          let there = taken_is_there net inputs limits p old valid fits ordered rerun turned.code turned.before
          turned.after turned.taken turned.sent turned.code_is turned.before_is turned.turn c channel is
          (consumer_is channel here) in
          let count = ap (count_by inputs old c) from in
          omega (arith, e, own, there, count)
        where
          consumer_is : (channel : Channel) → is_there p channel.consumer ≡ true → channel.consumer ≡ Process p
          consumer_is channel here = there_is p channel.consumer here
      of_input c channel is from false here =
          let e = turned.got c (slice_get_within net.channels c channel is) in
          let own = taken_here c channel false is here in
          let there = ordered.of_input c channel is from in
          omega (arith, e, own, there)

      of_link : (c q r : ℕ) (channel : Channel) → slice_get net.channels c ≡ Some channel
          → channel.producer ≡ Process q → channel.consumer ≡ Process r
          → ((eqb r p ≡ true) × (r ≡ p)) ⊎ ((eqb r p ≡ false) × (r ≢ p))
          → IsInLog (log_on new c) (slice_index new.got c)
      of_link c q r channel is from to (inl same) =
          let leads = leads_if p q channel from (to ∙ ap Process same.1) in
          subst (λ (l : LogState). IsInLog l (slice_index new.got c))
          (sym (log_then c channel is
          ∙ let_go_by p (slice_index new.got c) (pushed (log_on old c) (items_put c)) channel true leads))
          (record { from_base = omega arith; to_end = omega arith })
      of_link c q r channel is from to (inr other) =
          let here = not_there p r channel.consumer to other.1 in
          let leads : leads_to p channel ≡ false =
          ap (λ (b : Bool). (if b then is_made channel.producer else false)) here in
          let e = turned.got c (slice_get_within net.channels c channel is) in
          let own = taken_here c channel false is here in
          let inside = ordered.of_link c q r channel is from to in
          let low = inside.from_base in
          let high = inside.to_end in
          let long = length-append (log_on old c).items (items_put c) in
          subst (λ (l : LogState). IsInLog l (slice_index new.got c))
          (sym (log_then c channel is
          ∙ let_go_by p (slice_index new.got c) (pushed (log_on old c) (items_put c)) channel false leads))
          (record { from_base = omega (arith, e, own, low); to_end = omega (arith, e, own, high, long) })

  pub keeps_limits : KeepsLimits net limits old new
  keeps_limits c channel is to =
      let log = log_then c channel is
      ∙ let_go_by p (slice_index new.got c) (pushed (log_on old c) (items_put c)) channel false
      (not_outside p channel to) in
      let ends : log_end (log_on new c) ≡ log_end (pushed (log_on old c) (items_put c)) = ap log_end log in
      let long = length-append (log_on old c).items (items_put c) in
      let found = places_for net inputs limits p old valid fits ordered rerun turned.code turned.before turned.after
      turned.taken turned.sent turned.code_is turned.before_is turned.turn c channel is in
      let most : length (items_put c) ≤ places Outside (slice_index limits c) (log_on old c) =
      subst (λ (port : Port). length (items_put c) ≤ places port (slice_index limits c) (log_on old c)) to found in
      fewest (slice_index limits c) (log_end (log_on old c)) (length (items_put c)) _ _ (log_end (log_on new c)) most
      (omega (arith, ends, long))
    where
      fewest : (limit end n a b new_end : ℕ) → n ≤ min (limit - end) (min a b) → new_end ≡ end + n
          → new_end ≤ max limit end
      fewest limit end n a b new_end few is = omega (arith, few, is)

pub steps : TurnsAreSteps
unfolding goes_then goes
steps net inputs limits p old new s valid fits ordered rerun is_at turned = record {
  stage = stage_after net s p turned.after turned.taken turned.sent;
  goes = goes_then net inputs limits p old new valid fits ordered rerun turned s is_at;
  process = refl;
  items = refl;
  room = refl;
  is_at = is_at_then net inputs limits p old new valid fits ordered rerun turned s is_at;
}
