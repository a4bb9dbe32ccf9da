-- What a rerun's type keeps: so of the first table, of a turn, and where a log of an output lets go of items.
use Rattle.std.proofs.Common.{◌≡◌, ◌≢◌, ◌⊎◌, inl, inr, ℕ, ◌-◌, ◌<◌, ◌≤◌, true, false, eqb, ℤ, List, [], length}
use Rattle.std.proofs.Common.{replicate, Option, Some, None, get_or}
use Rattle.std.proofs.Common.{refl, sym, ap, subst, ◌∙◌, arith, Result, Ok, Err}
use Rattle.std.specs.Prelude.{slice_get, slice_index, slice_set, option_map, OnOk, OnErr}
use Rattle.std.proofs.Math.Bridge.{le_prop}
use Rattle.std.proofs.Math.Logic.{∥∥₁_elim, ∥∥₁_map}
use Rattle.std.proofs.Props.{props}
use Rattle.std.proofs.lemmas.Bool.{cases_lt}
use Rattle.std.proofs.lemmas.Bool.Decides.{eqb_tells}
use Rattle.std.proofs.lemmas.List.{get_or-replicate, get_or_past, get_or_default, get_or-set_same, get_or-set_other}
use Rattle.std.proofs.lemmas.List.{length-map, length-replicate, length-set, length-drop}
use Rattle.std.proofs.lemmas.Option.{slice_get-map, slice_get_within}
use Rattle.kahn_net.specs.Fits.{Fits}
use Rattle.kahn_net.specs.Processes.{NotBegun}
use Rattle.kahn_net.specs.Streams.{history_of}
use Rattle.kahn_net.specs.Syntax.{Code, Network}
use Rattle.kahn_net.specs.Valid.{IsValid}
use Rattle.kahn_net.specs.declared.program.Channel.{Channel}
use Rattle.kahn_net.specs.declared.program.Port.{Port}
use Rattle.kahn_net.specs.declared.program.Port.TheVariants.{Process}
use Rattle.retained.specs.LogState.{LogState, IsLogOf, IsInLog, IsWithinLimits, log_end, trimmed}
use Rattle.rerun.specs.Rerunning.{Stage, first_stage, first_vars, put_at_first, put_before}
use Rattle.rerun.specs.Tables.{TableView, HasRerun, IsAt, IsInOrder, KeepsLimits, Turned, first_table, log_on, no_log}
use Rattle.rerun.specs.Tables.{not_begun}
use Rattle.rerun.specs.Tables.{can_move, is_output, is_outside, leads_out}
use Rattle.rerun.specs.Steps.{StepsTo}
use Rattle.rerun.specs.Moving.{Moved}
use Rattle.rerun.proofs.Moves.{moves}
use Rattle.rerun.proofs.After.{keeps_limits, ordered_then, rerun_then, steps}
use Rattle.rerun.proofs.Places.{stands}

-- ---- the first table

get_replicate : {X : Type 0} (n i : ℕ) (a : X) → get_or (replicate n a) i a ≡ a
get_replicate {X} n i a = at (cases_lt i n)
  where
    at : (i < n) ⊎ (n ≤ i) → get_or (replicate n a) i a ≡ a
    at (inl below) = get_or-replicate n i a a below
    at (inr past) = get_or_past (replicate n a) i a (omega (arith, length-replicate n a, past))

module _ (net : Network) (inputs : List (List ℤ)) where
  pub first_at : IsAt net inputs (first_table net) (first_stage net inputs)
  first_at = record {
    standings = λ p below. (
        let code = stands net.codes p below in
        slice_get-map not_begun net.codes p
        ∙ (ap (option_map not_begun) code.1
        ∙ ap (λ (o : Option Code). Some (NotBegun (first_vars o))) (sym code.1)));
    got = λ c below. get_replicate (length net.channels) c 0;
    logs = λ c p channel is from. (
        let none : put_at_first (slice_get net.channels c) (history_of inputs c) ≡ [] =
        ap (λ (o : Option Channel). put_at_first o (history_of inputs c)) is
        ∙ ap (λ (port : Port). put_before port (history_of inputs c)) from in
        subst (λ (l : LogState). IsLogOf l (put_at_first (slice_get net.channels c) (history_of inputs c)))
        (sym (get_replicate (length net.channels) c no_log))
        (subst (λ (history : List ℤ). IsLogOf no_log history) (sym none)
        (record { count = omega arith; items = refl })));
    whole = λ c channel is from.
        ap (λ (o : Option Channel). put_at_first o (history_of inputs c)) is
        ∙ ap (λ (port : Port). put_before port (history_of inputs c)) from;
  }

  pub first_ordered : IsInOrder net inputs (first_table net)
  first_ordered = record {
    standings = length-map net.codes not_begun;
    counts = length-replicate (length net.channels) 0;
    logs = length-replicate (length net.channels) no_log;
    counted = λ c. (let none = got c in omega (arith, none));
    within = λ c. (
        let log = logged c in
        record {
          count = omega (arith, ap (λ (l : LogState). length l.items) log);
          last = omega (arith, ap log_end log);
        });
    of_input = λ c channel is from. (let none = got c in omega (arith, none));
    of_link = λ c p q channel is from to. (
        let none = got c in
        let log = logged c in
        record {
          from_base = omega (arith, none, ap (λ (l : LogState). l.base) log);
          to_end = omega (arith, none);
        });
  }
    where
      got : (c : ℕ) → slice_index (first_table net).got c ≡ 0
      got c = get_replicate (length net.channels) c 0

      logged : (c : ℕ) → log_on (first_table net) c ≡ no_log
      logged c = get_replicate (length net.channels) c no_log

  pub first_rerun : HasRerun net inputs (first_table net)
  first_rerun = record { stages = []; stage = first_stage net inputs; runs = refl; is_at = first_at }

-- ---- a turn, or none

module _ (net : Network) (inputs : List (List ℤ)) (limits : List ℕ) (p : ℕ) (old new : TableView) (valid : IsValid net)
    (fits : Fits net inputs) (ordered : IsInOrder net inputs old) (rerun : ∥ HasRerun net inputs old ∥₁) where
  pub ordered_kept : {X Y : Type 0} (r : Result X Y) → OnOk r (∥ Turned net inputs limits p old new ∥₁)
      → OnErr r (new ≡ old) → IsInOrder net inputs new
  ordered_kept (Ok x) turned same = ∥∥₁_elim rerun (hlevel props) (λ r. ∥∥₁_elim turned (hlevel props)
      (λ t. ordered_then net inputs limits p old new valid fits ordered r t))
  ordered_kept (Err e) turned same = subst (λ (t : TableView). IsInOrder net inputs t) (sym same) ordered

  pub rerun_kept : {X Y : Type 0} (r : Result X Y) → OnOk r (∥ Turned net inputs limits p old new ∥₁)
      → OnErr r (new ≡ old) → ∥ HasRerun net inputs new ∥₁
  rerun_kept (Ok x) turned same = ∥∥₁_elim rerun (hlevel props) (λ r. ∥∥₁_map turned
      (λ t. rerun_then net inputs limits p old new valid fits ordered r t))
  rerun_kept (Err e) turned same = subst (λ (t : TableView). ∥ HasRerun net inputs t ∥₁) (sym same) rerun

  pub limits_kept : ∥ Turned net inputs limits p old new ∥₁ → KeepsLimits net limits old new
  limits_kept turned c channel is to = ∥∥₁_elim rerun (hlevel le_prop) (λ r. ∥∥₁_elim turned (hlevel le_prop)
      (λ t. keeps_limits net inputs limits p old new valid fits ordered r t c channel is to))

  pub steps_kept : ∥ Turned net inputs limits p old new ∥₁
      → ∥ ((s : Stage) → IsAt net inputs old s → StepsTo net inputs limits p old new s) ∥₁
  steps_kept turned = ∥∥₁_elim rerun (hlevel props) (λ r. ∥∥₁_map turned
      (λ t s is_at. steps net inputs limits p old new s valid fits ordered r is_at t))

  pub moves_kept : can_move net inputs limits old p ≡ true → ∥ Turned net inputs limits p old new ∥₁
      → ∥ Moved net inputs limits p old new ∥₁
  moves_kept can turned = ∥∥₁_elim rerun (hlevel props) (λ r. ∥∥₁_map turned
      (moves net inputs limits p old new valid fits ordered r can))

-- ---- a log of an output that lets go

pub output_within : (channels : List Channel) (c : ℕ) → is_output channels c ≡ true → c < length channels
output_within channels c out = at (slice_get channels c) refl out
  where
    at : (o : Option Channel) → slice_get channels c ≡ o → leads_out o ≡ true → c < length channels
    at None is h = absurd (cc)
    at (Some ends) is h = slice_get_within channels c ends is

module _ (net : Network) (inputs : List (List ℤ)) (t : TableView) (channel : ℕ) (old log : LogState)
    (here : channel < length t.logs) (read : old ≡ get_or t.logs channel old)
    (out : is_output net.channels channel ≡ true)
    (same : (history : List ℤ) → IsLogOf old history → IsLogOf log history)
    (within : IsWithinLimits log) where
  abbrev then : TableView
  then = record { standings = t.standings; got = t.got; logs = slice_set t.logs channel log }

  pub old_is : log_on t channel ≡ old
  old_is = get_or_default t.logs channel no_log old here ∙ sym read

  log_is : log_on then channel ≡ log
  log_is = get_or-set_same t.logs channel log no_log here

  other_is : (c : ℕ) → c ≢ channel → log_on then c ≡ log_on t c
  other_is c ne = get_or-set_other t.logs channel c log no_log ne

  no_link : (ends : Channel) (q : ℕ) → slice_get net.channels channel ≡ Some ends → ends.consumer ≡ Process q → ⊥
  no_link ends q is to =
      let no : true ≡ false = sym out ∙ (ap leads_out is ∙ ap is_outside to) in
      cc

  pub let_go_at : (s : Stage) → IsAt net inputs t s → IsAt net inputs then s
  let_go_at s is_at = record {
    standings = is_at.standings;
    got = is_at.got;
    logs = λ c p ends is from. logs c p ends is from (eqb_tells c channel);
    whole = is_at.whole;
  }
    where
      logs : (c p : ℕ) (ends : Channel) → slice_get net.channels c ≡ Some ends → ends.producer ≡ Process p
          → ((eqb c channel ≡ true) × (c ≡ channel)) ⊎ ((eqb c channel ≡ false) × (c ≢ channel))
          → IsLogOf (log_on then c) (s.put c)
      logs c p ends is from (inl one) =
          subst (λ (k : ℕ). IsLogOf (log_on then k) (s.put k)) (sym one.1)
          (subst (λ (l : LogState). IsLogOf l (s.put channel)) (sym log_is)
          (same (s.put channel)
          (subst (λ (l : LogState). IsLogOf l (s.put channel)) old_is
          (subst (λ (k : ℕ). IsLogOf (log_on t k) (s.put k)) one.1 (is_at.logs c p ends is from)))))
      logs c p ends is from (inr other) =
          subst (λ (l : LogState). IsLogOf l (s.put c)) (sym (other_is c other.1)) (is_at.logs c p ends is from)

  pub let_go_ordered : IsInOrder net inputs t → IsInOrder net inputs then
  let_go_ordered ordered = record {
    standings = ordered.standings;
    counts = ordered.counts;
    logs = length-set t.logs channel log ∙ ordered.logs;
    counted = ordered.counted;
    within = λ c. limits c (eqb_tells c channel);
    of_input = ordered.of_input;
    of_link = λ c p q ends is from to. links c p q ends is from to (eqb_tells c channel);
  }
    where
      limits : (c : ℕ) → ((eqb c channel ≡ true) × (c ≡ channel)) ⊎ ((eqb c channel ≡ false) × (c ≢ channel))
          → IsWithinLimits (log_on then c)
      limits c (inl one) =
          subst (λ (k : ℕ). IsWithinLimits (log_on then k)) (sym one.1)
          (subst (λ (l : LogState). IsWithinLimits l) (sym log_is) within)
      limits c (inr other) =
          subst (λ (l : LogState). IsWithinLimits l) (sym (other_is c other.1)) (ordered.within c)

      links : (c p q : ℕ) (ends : Channel) → slice_get net.channels c ≡ Some ends → ends.producer ≡ Process p
          → ends.consumer ≡ Process q
          → ((eqb c channel ≡ true) × (c ≡ channel)) ⊎ ((eqb c channel ≡ false) × (c ≢ channel))
          → IsInLog (log_on then c) (slice_index t.got c)
      links c p q ends is from to (inl one) =
          absurd (no_link ends q (ap (slice_get net.channels) (sym one.1) ∙ is) to)
      links c p q ends is from to (inr other) =
          subst (λ (l : LogState). IsInLog l (slice_index t.got c)) (sym (other_is c other.1))
          (ordered.of_link c p q ends is from to)

  pub let_go_rerun : HasRerun net inputs t → HasRerun net inputs then
  let_go_rerun rerun = record {
    stages = rerun.stages;
    stage = rerun.stage;
    runs = rerun.runs;
    is_at = let_go_at rerun.stage rerun.is_at;
  }

-- a log that let go of items, or didn't, is as long as a log may be
pub trimmed_within : (old log : LogState) (position : ℕ) → IsWithinLimits old
    → (IsInLog old position → log ≡ trimmed old position) → ((IsInLog old position → ⊥) → log ≡ old)
    → IsWithinLimits log
trimmed_within old log position within inside outside =
    at (cases_lt position old.base) (cases_lt (log_end old) position)
  where
    at : (position < old.base) ⊎ (old.base ≤ position) → (log_end old < position) ⊎ (position ≤ log_end old)
        → IsWithinLimits log
    at (inl low) high =
        subst (λ (l : LogState). IsWithinLimits l)
        (sym (outside (λ i. (let a = i.from_base in omega (arith, a, low))))) within
    at (inr low) (inl high) =
        subst (λ (l : LogState). IsWithinLimits l) (sym (outside (λ i. (let a = i.to_end in omega (arith, a, high)))))
        within
    at (inr low) (inr high) =
        let left = length-drop (position - old.base) old.items in
        let few = within.count in
        let last = within.last in
        subst (λ (l : LogState). IsWithinLimits l) (sym (inside (record { from_base = low; to_end = high })))
        (record { count = omega (arith, left, few); last = omega (arith, left, last, low, high) })
