-- Outputs that take what is put there, and logs that let go of it.
use Rattle.std.proofs.Common.{◌≡◌, ◌≢◌, ◌⊎◌, inl, inr, ℕ, zero, suc, ◌+◌, ◌-◌, ◌<◌, ◌≤◌, Bool, true, false, eqb, cond}
use Rattle.std.proofs.Common.{ℤ, List, [], ◌∷◌, length, map, take, drop, Option, Some, None, refl, sym, ap, subst}
use Rattle.std.proofs.Common.{◌∙◌, arith, length-append, length-drop}
use Rattle.std.specs.Prelude.{slice_get, slice_index, slice_set}
use Rattle.std.proofs.Math.Logic.{∥∥₁_elim}
use Rattle.std.proofs.Props.{props}
use Rattle.std.proofs.lemmas.Bool.Decides.{eqb_tells}
use Rattle.std.proofs.lemmas.List.{take-append-drop}
use Rattle.std.proofs.lemmas.Option.{slice_get_within}
use Rattle.kahn_net.specs.Laws.Approximations.{approximations_grow}
use Rattle.kahn_net.specs.Laws.Prefixes.{prefix_of, prefix_refl, prefix_trans}
use Rattle.kahn_net.specs.Streams.{IsPrefix, history_of}
use Rattle.kahn_net.specs.declared.program.Port.{Port}
use Rattle.kahn_net.specs.declared.program.Port.TheVariants.{Outside, Process}
use Rattle.outlet.specs.declared.fault.OutletFault.{OutletFault}
use Rattle.outlet.specs.declared.fault.OutletFault.TheVariants.{Failed, NoMemory}
use Rattle.protocol.specs.Node.Common.{approximation, Channel, Fits, IsValid, Network}
use Rattle.protocol.specs.World.Common.{goes_outside, output_channels, OutputView}
use Rattle.protocol_laws.specs.World.OutputLaws.{map_at, set_cases, set_keeps, set_same}
use Rattle.rerun.proofs.Turned.{let_go_by, not_outside}
use Rattle.rerun.specs.Places.{AreMeant}
use Rattle.rerun.specs.Stops.{StopsSo}
use Rattle.rerun.specs.Tables.{AreSwept, GoesOn, GoOn, HaveReached, KeepsLimits, TableView, Turned, is_outside}
use Rattle.rerun.specs.Tables.{is_output, leads_out, let_go_of, log_on, no_log, pushed, put_by}
use Rattle.rerun.specs.declared.stopped.Stopped.{Stopped}
use Rattle.rerun.specs.declared.stopped.Stopped.TheVariants.{Reached, Rests, Sweeps}
use Rattle.resuming.proofs.Lists.{index_at, shorter}
use Rattle.resuming.specs.CatchingUp.{AllFollow, Follows, HasAll, HaveAll, HaveGoneOn, HaveTakenAll, KeepsEnds}
use Rattle.resuming.specs.CatchingUp.{failures_by, IsBehindBy, IsCounted, NothingPut, StoppedSince}
use Rattle.resuming.specs.declared.catching_up.TheConstants.{IDLE_SWEEPS}
use Rattle.retained.specs.LogState.{IsInLog, IsLogOf, LogState, log_end, trimmed}
use Rattle.station.specs.OutputView.{outputs_view}
use Rattle.station.specs.declared.output.Output.{Output}

-- ---- lists

-- what stands in a list's image comes from what stands there in the list
map_from : {A B : Type 0} (f : A → B) (xs : List A) (j : ℕ) (y : B) → slice_get (map f xs) j ≡ Some y
    → (x : A) × (slice_get xs j ≡ Some x) × (f x ≡ y)
map_from f [] j y is = absurd (cc)
map_from f (x ∷ xs) zero y is = let same : f x ≡ y = cc in (x, refl, same)
map_from f (x ∷ xs) (suc j) y is = map_from f xs j y is

-- where two lists have the same image, something stands in the one where something stands in the other
same_place : {A B C : Type 0} (f : A → C) (g : B → C) (xs : List A) (ys : List B) (j : ℕ) (x : A)
    → map f xs ≡ map g ys → slice_get xs j ≡ Some x → (y : B) × (slice_get ys j ≡ Some y) × (g y ≡ f x)
same_place {A} {B} {C} f g xs ys j x same is =
    map_from g ys j (f x) (ap (λ (l : List C). slice_get l j) (sym same) ∙ map_at f xs j x is)

-- the image of a list of which one element was set
pub map_set : {A B : Type 0} (f : A → B) (xs : List A) (k : ℕ) (y : A)
    → map f (slice_set xs k y) ≡ slice_set (map f xs) k (f y)
map_set f [] k y = refl
map_set f (x ∷ xs) zero y = refl
map_set {A} {B} f (x ∷ xs) (suc k) y = ap (λ (l : List B). f x ∷ l) (map_set f xs k y)

-- it is as long as the list
pub as_many : {A B : Type 0} (f : A → B) (xs : List A) → length (map f xs) ≡ length xs
as_many f [] = refl
as_many f (x ∷ xs) = ap suc (as_many f xs)

-- a count of failures that stays leaves all counts as they were
pub same_count : {O : Type 0} (failures : O → ℕ) (outputs : List (Output O)) (k : ℕ) (old new : Output O)
    → slice_get outputs k ≡ Some old → failures new.outlet ≡ failures old.outlet
    → failures_by failures (slice_set outputs k new) ≡ failures_by failures outputs
same_count failures [] k old new is same = absurd (cc)
same_count {O} failures (x ∷ outputs) zero old new is same =
    let at : x ≡ old = cc in
    ap (λ (n : ℕ). n ∷ failures_by failures outputs) (same ∙ ap (λ (o : Output O). failures o.outlet) (sym at))
same_count failures (x ∷ outputs) (suc k) old new is same =
    ap (λ (counts : List ℕ). failures x.outlet ∷ counts) (same_count failures outputs k old new is same)

-- what is set at a place stands there
set_there : {A : Type 0} (xs : List A) (k : ℕ) (x y : A) → slice_get xs k ≡ Some x → slice_get (slice_set xs k y) k ≡ Some y
set_there [] k x y is = absurd (cc)
set_there (z ∷ xs) zero x y is = refl
set_there (z ∷ xs) (suc k) x y is = set_there xs k x y is

-- an outlet that failed is the cause
pub behind_by : {O : Type 0} (failures : O → ℕ) (before outputs : List (Output O)) (k : ℕ) (old new : Output O) (fault : OutletFault)
    → slice_get outputs k ≡ Some old → failures_by failures outputs ≡ failures_by failures before
    → IsCounted (failures old.outlet) (failures new.outlet) fault
    → IsBehindBy (failures_by failures before) (failures_by failures (slice_set outputs k new)) fault
behind_by failures before outputs k old new NoMemory is so_far counted = tt
behind_by {O} failures before outputs k old new Failed is so_far counted =
    let count : Output O → ℕ = λ output. failures output.outlet in (
      k,
      failures old.outlet,
      ap (λ (counts : List ℕ). slice_get counts k) (sym so_far) ∙ map_at count outputs k old is,
      ap (λ (counts : List ℕ). slice_get counts k) (map_set count outputs k new)
          ∙ (set_there (map count outputs) k (count old) (count new) (map_at count outputs k old is) ∙ ap Some counted),
    )

-- what holds of a network and its inputs holds of the same ones
pub at_same : (P : Network → List (List ℤ) → Type 0) (net net' : Network) (inputs inputs' : List (List ℤ)) → net' ≡ net
    → inputs' ≡ inputs → P net inputs → P net' inputs'
at_same P net net' inputs inputs' one other holds =
    subst (λ (n : Network). P n inputs') (sym one) (subst (P net) (sym other) holds)

-- ---- outputs that go on

abbrev channel_of : OutputView → ℕ
channel_of output = output.channel

-- they have gone on where nothing happened
pub gone_nowhere : (outputs : List OutputView) → HaveGoneOn outputs outputs
gone_nowhere outputs = record {
  channels = refl;
  kept = λ j old new one other.
      (let same : old.taken ≡ new.taken = ap (λ (o : Option OutputView). taken_in o) (sym one ∙ other) in
      subst (IsPrefix old.taken) same (prefix_refl old.taken));
}
  where
    taken_in : Option OutputView → List ℤ
    taken_in None = []
    taken_in (Some output) = output.taken

-- and what has gone on twice has gone on
pub gone_twice : (before between after : List OutputView) → HaveGoneOn before between → HaveGoneOn between after
    → HaveGoneOn before after
gone_twice before between after one other = record {
  channels = other.channels ∙ one.channels;
  kept = λ j old new was is.
      (let mid = same_place channel_of channel_of after between j new other.channels is in
      prefix_trans _ _ _ (one.kept j old mid.0 was mid.1) (other.kept j mid.0 new mid.1 is));
}

-- as where one of them takes more
pub gone_one : (outputs : List OutputView) (k : ℕ) (old new : OutputView) → slice_get outputs k ≡ Some old
    → new.channel ≡ old.channel → IsPrefix old.taken new.taken → HaveGoneOn outputs (slice_set outputs k new)
gone_one outputs k old new is same more = record {
  channels = set_keeps channel_of outputs k old new is same;
  kept = λ j one other was now. kept j one other was (set_cases outputs k j new other now);
}
  where
    kept : (j : ℕ) (one other : OutputView) → slice_get outputs j ≡ Some one
        → ((j ≡ k) × (new ≡ other)) ⊎ ((j ≢ k) × (slice_get outputs j ≡ Some other)) → IsPrefix one.taken other.taken
    kept j one other was (inl here) =
        let there : Some one ≡ Some old = sym was ∙ (ap (slice_get outputs) here.0 ∙ is) in
        let first : one ≡ old = cc in
        subst (λ (o : OutputView). IsPrefix o.taken other.taken) (sym first)
        (subst (λ (o : OutputView). IsPrefix old.taken o.taken) here.1 more)
    kept j one other was (inr there) = (gone_nowhere outputs).kept j one other was there.1

-- ---- an output takes what its log has

-- the channel of an output
pub output_there : (channels : List Channel) (c : ℕ) → is_output channels c ≡ true
    → (channel : Channel) × (slice_get channels c ≡ Some channel) × (channel.consumer ≡ Outside)
output_there channels c is = at (slice_get channels c) refl is
  where
    by : (port : Port) → is_outside port ≡ true → port ≡ Outside
    by Outside is = refl
    by (Process q) is = absurd (cc)

    at : (o : Option Channel) → slice_get channels c ≡ o → leads_out o ≡ true
        → (channel : Channel) × (slice_get channels c ≡ Some channel) × (channel.consumer ≡ Outside)
    at None there is = absurd (cc)
    at (Some channel) there is = (channel, there, by channel.consumer is)

-- what the log ends with begins a history
taken_begins : (n : ℕ) (history : List ℤ) → IsPrefix (take n history) history
taken_begins n history = prefix_of (record { rest = drop n history; is = sym (take-append-drop n history) })

module _ (net : Network) (inputs : List (List ℤ)) (t : TableView) (valid : IsValid net) (fits : Fits net inputs)
    (meant : ∥ ((n : ℕ) × AreMeant net inputs t n) ∥₁) (c : ℕ) (old new : List ℤ)
    (follows : Follows net inputs t (record { channel = c; taken = old })) (log : LogState)
    (logged : slice_get t.logs c ≡ Some log) (long : length new ≡ log_end log)
    (goes_on : (history : List ℤ) → IsLogOf log history → IsPrefix old history → IsPrefix new history) where
  its_log : log_on t c ≡ log
  its_log = index_at t.logs c log no_log logged

  streams : (m n : ℕ) (channel : Channel) (port : Port) → slice_get net.channels c ≡ Some channel
      → channel.consumer ≡ Outside → channel.producer ≡ port
      → IsPrefix old (history_of (approximation net inputs m) c) → AreMeant net inputs t n
      → (k : ℕ) × IsPrefix new (history_of (approximation net inputs k) c)
  streams m n channel Outside is to from stream means = absurd (valid.joined c channel is from to)
  streams m n channel (Process p) is to from stream means =
      let both = m + n in
      let here : List ℤ = history_of (approximation net inputs n) c in
      let part : List ℤ = take (log_end (log_on t c)) here in
      let of : IsLogOf (log_on t c) part = means c p channel is from in
      let count = of.count in
      let few = follows.agrees.in_log.to_end in
      let begins : IsPrefix part here = taken_begins (log_end (log_on t c)) here in
      let old_begins = shorter old part (history_of (approximation net inputs both) c)
      (prefix_trans _ _ _ stream ((approximations_grow net valid inputs fits m both (omega arith)).at c))
      (prefix_trans _ _ _ begins ((approximations_grow net valid inputs fits n both (omega arith)).at c))
      (omega (arith, count, few)) in
      (n, prefix_trans _ _ _ (goes_on part (subst (λ (l : LogState). IsLogOf l part) its_log of) old_begins) begins)

  -- it has all then, and agrees with what was put
  pub takes_all : HasAll net inputs t (record { channel = c; taken = new })
  takes_all =
      let there = output_there net.channels c follows.outside in
      let end : length new ≡ log_end (log_on t c) = long ∙ ap log_end (sym its_log) in
      record {
        outside = follows.outside;
        agrees = record {
          stream = ∥∥₁_elim follows.agrees.stream (hlevel props)
              (λ stream. ∥∥₁_elim meant (hlevel props)
              (λ means. ∣ streams stream.0 means.0 there.0 there.0.producer there.1 there.2 refl stream.1 means.1 ∣₁));
          in_log = record { from_base = omega (arith, end); to_end = omega (arith, end) };
        };
        all = end;
      }

-- ---- the outputs of a world

-- the channels of outputs are those of their views
pub channels_seen : {O : Type 0} (taken : O → List ℤ) (outputs : List (Output O))
    → map (λ (output : OutputView). output.channel) (outputs_view taken outputs)
    ≡ map (λ (output : Output O). output.channel) outputs
channels_seen taken [] = refl
channels_seen taken (x ∷ outputs) = ap (λ (cs : List ℕ). x.channel ∷ cs) (channels_seen taken outputs)

-- ---- one output after the other

-- those below a number have taken all, and the others follow yet; they are those of before where none took an item
pub record AreTaking (net : Network) (inputs : List (List ℤ)) (t : TableView) (k : ℕ) (before now : List OutputView)
    (any : Bool) : Type 0 where
  pub done : (j : ℕ) (output : OutputView) → j < k → slice_get now j ≡ Some output → HasAll net inputs t output
  pub waiting : (j : ℕ) (output : OutputView) → k ≤ j → slice_get now j ≡ Some output → Follows net inputs t output
  pub still : any ≡ false → now ≡ before
  pub gone_on : HaveGoneOn before now

pub none_taken : (net : Network) (inputs : List (List ℤ)) (t : TableView) (outputs : List OutputView)
    → AllFollow net inputs t outputs → AreTaking net inputs t 0 outputs outputs false
none_taken net inputs t outputs follow = record {
  done = λ j output below is. absurd (omega (arith, below));
  waiting = λ j output past is. follow j output is;
  still = λ is. refl;
  gone_on = gone_nowhere outputs;
}

pub one_taken : (net : Network) (inputs : List (List ℤ)) (t : TableView) (k next : ℕ) (before now : List OutputView)
    (any moved later : Bool) (old new : OutputView) → AreTaking net inputs t k before now any → next ≡ k + 1
    → slice_get now k ≡ Some old → new.channel ≡ old.channel → IsPrefix old.taken new.taken → HasAll net inputs t new
    → (moved ≡ false → new ≡ old) → (later ≡ false → (any ≡ false) × (moved ≡ false))
    → AreTaking net inputs t next before (slice_set now k new) later
one_taken net inputs t k next before now any moved later old new so_far after is same more all rests neither = record {
  done = λ j output below there. done j output below (set_cases now k j new output there);
  waiting = λ j output past there. waiting j output past (set_cases now k j new output there);
  still = λ none. set_same now k new (is ∙ ap Some (sym (rests (neither none).1))) ∙ so_far.still (neither none).0;
  gone_on = gone_twice before now (slice_set now k new) so_far.gone_on (gone_one now k old new is same more);
}
  where
    done : (j : ℕ) (output : OutputView) → j < next
        → ((j ≡ k) × (new ≡ output)) ⊎ ((j ≢ k) × (slice_get now j ≡ Some output)) → HasAll net inputs t output
    done j output below (inl here) = subst (HasAll net inputs t) here.1 all
    done j output below (inr there) = so_far.done j output (omega (arith, below, after, there.0)) there.1

    waiting : (j : ℕ) (output : OutputView) → next ≤ j
        → ((j ≡ k) × (new ≡ output)) ⊎ ((j ≢ k) × (slice_get now j ≡ Some output)) → Follows net inputs t output
    waiting j output past (inl here) = absurd (omega (arith, past, after, here.0))
    waiting j output past (inr there) = so_far.waiting j output (omega (arith, past, after)) there.1

-- once all did
pub all_taken : (net : Network) (inputs : List (List ℤ)) (t : TableView) (k : ℕ) (before now : List OutputView)
    (any : Bool) → AreTaking net inputs t k before now any → length now ≤ k → HaveAll net inputs t now
all_taken net inputs t k before now any so_far past j output is =
    let within = slice_get_within now j output is in
    so_far.done j output (omega (arith, past, within)) is

-- ---- logs let go

-- the logs of those below a number have let go of all that these took
pub record AreLettingGo (k : ℕ) (outputs : List OutputView) (before now : TableView) : Type 0 where
  pub ends : KeepsEnds before now
  pub done : (j : ℕ) (output : OutputView) → j < k → slice_get outputs j ≡ Some output
      → (log_on now output.channel).base ≡ length output.taken

pub none_let_go : (outputs : List OutputView) (t : TableView) → AreLettingGo 0 outputs t t
none_let_go outputs t = record {
  ends = λ c. refl;
  done = λ j output below is. absurd (omega (arith, below));
}

trimmed_end : (log : LogState) (position : ℕ) → IsInLog log position → log_end (trimmed log position) ≡ log_end log
trimmed_end log position inside =
    let low = inside.from_base in
    let high = inside.to_end in
    let left = length-drop (position - log.base) log.items in
    omega (arith, low, high, left)

pub one_let_go : (net : Network) (inputs : List (List ℤ)) (k next : ℕ) (outputs : List OutputView) (output : OutputView)
    (before now then : TableView) → AreLettingGo k outputs before now → next ≡ k + 1
    → slice_get outputs k ≡ Some output → HaveAll net inputs before outputs
    → (IsInLog (log_on now output.channel) (length output.taken)
    → log_on then output.channel ≡ trimmed (log_on now output.channel) (length output.taken))
    → ((other : ℕ) → other ≢ output.channel → log_on then other ≡ log_on now other)
    → AreLettingGo next outputs before then
one_let_go net inputs k next outputs output before now then so_far after is all goes others = record {
  ends = λ c. end c (eqb_tells c output.channel) ∙ so_far.ends c;
  done = λ j other below there. done j other below there (eqb_tells other.channel output.channel);
}
  where
    long : length output.taken ≡ log_end (log_on now output.channel)
    long = (all k output is).all ∙ sym (so_far.ends output.channel)

    inside : IsInLog (log_on now output.channel) (length output.taken)
    inside = record { from_base = omega (arith, long); to_end = omega (arith, long) }

    end : (c : ℕ)
        → ((eqb c output.channel ≡ true) × (c ≡ output.channel))
        ⊎ ((eqb c output.channel ≡ false) × (c ≢ output.channel))
        → log_end (log_on then c) ≡ log_end (log_on now c)
    end c (inl here) =
        subst (λ (d : ℕ). log_end (log_on then d) ≡ log_end (log_on now d)) (sym here.1)
        (ap log_end (goes inside) ∙ trimmed_end (log_on now output.channel) (length output.taken) inside)
    end c (inr there) = ap log_end (others c there.1)

    done : (j : ℕ) (other : OutputView) → j < next → slice_get outputs j ≡ Some other
        → ((eqb other.channel output.channel ≡ true) × (other.channel ≡ output.channel))
        ⊎ ((eqb other.channel output.channel ≡ false) × (other.channel ≢ output.channel))
        → (log_on then other.channel).base ≡ length other.taken
    done j other below there (inl here) =
        let own : length other.taken ≡ log_end (log_on before other.channel) = (all j other there).all in
        let its : length output.taken ≡ log_end (log_on before output.channel) = (all k output is).all in
        let base : (log_on then output.channel).base ≡ length output.taken =
        ap (λ (l : LogState). l.base) (goes inside) in
        ap (λ (c : ℕ). (log_on then c).base) here.1
        ∙ (base ∙ (its ∙ (ap (λ (c : ℕ). log_end (log_on before c)) (sym here.1) ∙ sym own)))
    done j other below there (inr apart) =
        let within : j < k = below_k (eqb_tells j k) in
        ap (λ (l : LogState). l.base) (others other.channel apart.1) ∙ so_far.done j other within there
      where
        below_k : ((eqb j k ≡ true) × (j ≡ k)) ⊎ ((eqb j k ≡ false) × (j ≢ k)) → j < k
        below_k (inl same) =
            let both : Some other ≡ Some output = sym there ∙ (ap (slice_get outputs) same.1 ∙ is) in
            let one : other ≡ output = cc in
            absurd (apart.1 (ap channel_of one))
        below_k (inr ne) = omega (arith, below, after, ne.1)

pub all_let_go : (net : Network) (inputs : List (List ℤ)) (k : ℕ) (outputs : List OutputView) (before now : TableView)
    → AreLettingGo k outputs before now → length outputs ≤ k → HaveAll net inputs before outputs
    → HaveTakenAll net inputs now outputs
all_let_go net inputs k outputs before now so_far past all j output is =
    let own = all j output is in
    let within = slice_get_within outputs j output is in
    let base = so_far.done j output (omega (arith, past, within)) is in
    let end = own.all ∙ sym (so_far.ends output.channel) in
    record {
      agrees = record {
        stream = own.agrees.stream;
        in_log = record { from_base = omega (arith, base); to_end = omega (arith, end) };
      };
      all = end;
      let_go = base;
    }

-- ---- the outputs of a network

-- the numbers of outputs are of outputs
are_outputs : (number : ℕ) (channels : List Channel) (j c : ℕ) → slice_get (output_channels number channels) j ≡ Some c
    → (k : ℕ) × (number + k ≡ c) × (is_output channels k ≡ true)
are_outputs number [] j c is = absurd (cc)
are_outputs number (channel ∷ channels) j c is =
    at channel.consumer refl j is (λ i there. later (are_outputs (suc number) channels i c there))
  where
    later : (k : ℕ) × (suc number + k ≡ c) × (is_output channels k ≡ true)
        → (k : ℕ) × (number + k ≡ c) × (is_output (channel ∷ channels) k ≡ true)
    later rest = let sum = rest.1 in (suc rest.0, omega (arith, sum), rest.2)

    at : (port : Port) → channel.consumer ≡ port → (j : ℕ)
        → slice_get (cond (goes_outside port) (number ∷ output_channels (suc number) channels)
        (output_channels (suc number) channels)) j ≡ Some c
        → ((i : ℕ) → slice_get (output_channels (suc number) channels) i ≡ Some c
        → (k : ℕ) × (number + k ≡ c) × (is_output (channel ∷ channels) k ≡ true))
        → (k : ℕ) × (number + k ≡ c) × (is_output (channel ∷ channels) k ≡ true)
    at (Process q) to j is rest = rest j is
    at Outside to zero is rest =
        let same : number ≡ c = cc in
        let sum : number + 0 ≡ c = omega (arith, same) in
        (0, sum, ap is_outside to)
    at Outside to (suc j) is rest = rest j is

-- and each output has its number there
output_listed : (number : ℕ) (channels : List Channel) (k : ℕ) → is_output channels k ≡ true
    → (j : ℕ) × (slice_get (output_channels number channels) j ≡ Some (number + k))
output_listed number [] k is = absurd (cc)
output_listed number (channel ∷ channels) k is =
    at channel.consumer refl k is
    (λ i there. later channel.consumer i (output_listed (suc number) channels i there))
  where
    later : (port : Port) (k : ℕ)
        → (j : ℕ) × (slice_get (output_channels (suc number) channels) j ≡ Some (suc number + k))
        → (j : ℕ) × (slice_get (cond (goes_outside port) (number ∷ output_channels (suc number) channels)
        (output_channels (suc number) channels)) j ≡ Some (number + suc k))
    later Outside k rest =
        let sum : suc number + k ≡ number + suc k = omega arith in (suc rest.0, rest.1 ∙ ap Some sum)
    later (Process q) k rest =
        let sum : suc number + k ≡ number + suc k = omega arith in (rest.0, rest.1 ∙ ap Some sum)

    at : (port : Port) → channel.consumer ≡ port → (k : ℕ) → is_output (channel ∷ channels) k ≡ true
        → ((i : ℕ) → is_output channels i ≡ true → (j : ℕ) × (slice_get (cond (goes_outside channel.consumer)
        (number ∷ output_channels (suc number) channels) (output_channels (suc number) channels)) j
        ≡ Some (number + suc i)))
        → (j : ℕ) × (slice_get (cond (goes_outside channel.consumer)
        (number ∷ output_channels (suc number) channels) (output_channels (suc number) channels)) j
        ≡ Some (number + k))
    at Outside to zero is rest =
        let sum : number ≡ number + 0 = omega arith in (
          0,
          ap (λ (port : Port). slice_get (cond (goes_outside port) (number ∷ output_channels (suc number) channels)
              (output_channels (suc number) channels)) 0) to ∙ ap Some sum,
        )
    at (Process q) to zero is rest =
        let inner : is_outside channel.consumer ≡ false = ap is_outside to in
        absurd (cc (is, inner))
    at port to (suc k) is rest = rest k is

module _ (net : Network) (outputs : List OutputView)
    (listed : map (λ (output : OutputView). output.channel) outputs ≡ output_channels 0 net.channels) where
  pub all_outside : (j : ℕ) (output : OutputView) → slice_get outputs j ≡ Some output
      → is_output net.channels output.channel ≡ true
  all_outside j output is =
      let there = are_outputs 0 net.channels j output.channel
      (ap (λ (l : List ℕ). slice_get l j) (sym listed) ∙ map_at channel_of outputs j output is) in
      let sum = there.1 in
      let same : there.0 ≡ output.channel = omega (arith, sum) in
      subst (λ (c : ℕ). is_output net.channels c ≡ true) same there.2

  -- there is an output of each channel whose items go outside
  pub output_of_channel : (c : ℕ) (channel : Channel) → slice_get net.channels c ≡ Some channel
      → channel.consumer ≡ Outside
      → (j : ℕ) × (output : OutputView) × (slice_get outputs j ≡ Some output) × (output.channel ≡ c)
  output_of_channel c channel is to =
      let there = output_listed 0 net.channels c (ap leads_out is ∙ ap is_outside to) in
      let sum : 0 + c ≡ c = omega arith in
      let output = map_from channel_of outputs there.0 c
      (ap (λ (l : List ℕ). slice_get l there.0) listed ∙ (there.1 ∙ ap Some sum)) in
      (there.0, output.0, output.1, output.2)

-- ---- a run

-- a log has the items of before, and maybe more behind them
abbrev pub HasGrown : LogState → LogState → Type 0
HasGrown old new = (new.base ≡ old.base) × (log_end old ≤ log_end new)

grown_nowhere : (log : LogState) → HasGrown log log
grown_nowhere log = (refl, omega arith)

grown_twice : (a b c : LogState) → HasGrown a b → HasGrown b c → HasGrown a c
grown_twice a b c one other =
    let first = one.1 in let second = other.1 in (other.0 ∙ one.0, omega (arith, first, second))

module _ (net : Network) (inputs : List (List ℤ)) (limits : List ℕ) (c : ℕ) (channel : Channel)
    (is : slice_get net.channels c ≡ Some channel) (to : channel.consumer ≡ Outside) where
  grown_turned : (p : ℕ) (old new : TableView) → Turned net inputs limits p old new
      → HasGrown (log_on old c) (log_on new c)
  grown_turned p old new turned =
      let items : List ℤ = put_by p turned.sent c (slice_get net.channels c) in
      let there : log_on new c ≡ pushed (log_on old c) items =
      turned.logs c (slice_get_within net.channels c channel is)
      ∙ (ap (let_go_of p (slice_index new.got c) (pushed (log_on old c) items)) is
      ∙ let_go_by p (slice_index new.got c) (pushed (log_on old c) items) channel false (not_outside p channel to)) in
      let long = length-append (log_on old c).items items in
      subst (HasGrown (log_on old c)) (sym there) (refl, omega (arith, long))

  grown_on : (p : ℕ) (old new : TableView) → GoesOn net inputs limits p old new
      → HasGrown (log_on old c) (log_on new c)
  grown_on p old new (inl moved) = ∥∥₁_elim moved.1 (hlevel props) (grown_turned p old new)
  grown_on p old new (inr rests) =
      subst (λ (t : TableView). HasGrown (log_on old c) (log_on t c)) (sym rests.1) (grown_nowhere (log_on old c))

  grown_by : (k : ℕ) (old new : TableView) → GoOn net inputs limits k old new
      → HasGrown (log_on old c) (log_on new c)
  grown_by zero old new same =
      subst (λ (t : TableView). HasGrown (log_on old c) (log_on t c)) (sym same) (grown_nowhere (log_on old c))
  grown_by (suc p) old new on =
      grown_twice (log_on old c) (log_on on.0 c) (log_on new c) (grown_by p old on.0 on.1) (grown_on p on.0 new on.2)

  pub grown_swept : (n : ℕ) (old new : TableView) → AreSwept net inputs limits n old new
      → HasGrown (log_on old c) (log_on new c)
  grown_swept zero old new same =
      subst (λ (t : TableView). HasGrown (log_on old c) (log_on t c)) (sym same) (grown_nowhere (log_on old c))
  grown_swept (suc n) old new on =
      grown_twice (log_on old c) (log_on on.0 c) (log_on new c) (grown_swept n old on.0 on.1)
      (grown_by (length net.codes) on.0 new on.2)

-- a run of any end makes sweeps
swept_then : (net : Network) (inputs : List (List ℤ)) (limits : List ℕ) (most : ℕ) (old new : TableView)
    (stopped : Stopped) → StopsSo net inputs limits most old new stopped
    → (n : ℕ) × AreSwept net inputs limits n old new
swept_then net inputs limits most old new Reached stops = (stops.0.0, stops.0.2)
swept_then net inputs limits most old new Rests stops = (stops.0.0, stops.0.2)
swept_then net inputs limits most old new Sweeps stops = (most, stops)

module _ (net : Network) (inputs : List (List ℤ)) (limits : List ℕ) (old new : TableView) (outputs : List OutputView)
    (listed : map (λ (output : OutputView). output.channel) outputs ≡ output_channels 0 net.channels)
    (taken : HaveTakenAll net inputs old outputs) (stopped : Stopped)
    (stops : StopsSo net inputs limits IDLE_SWEEPS old new stopped) where
  -- behind a run the logs of outputs have what comes next for them
  pub follow_then : AllFollow net inputs new outputs
  follow_then j output is =
      let own = taken j output is in
      let outside = all_outside net outputs listed j output is in
      let there = output_there net.channels output.channel outside in
      let swept = swept_then net inputs limits IDLE_SWEEPS old new stopped stops in
      let grown = grown_swept net inputs limits output.channel there.0 there.1 there.2 swept.0 old new swept.1 in
      let base = grown.0 in
      let end = grown.1 in
      let had = own.let_go in
      let all = own.all in
      record {
        outside = outside;
        agrees = record {
          stream = own.agrees.stream;
          in_log = record { from_base = omega (arith, base, had); to_end = omega (arith, end, all) };
        };
        next = base ∙ had;
      }

  -- where no output took an item they have taken all as they are
  pub taken_still : HaveAll net inputs new outputs → HaveTakenAll net inputs new outputs
  taken_still all j output is =
      record {
        agrees = (all j output is).agrees;
        all = (all j output is).all;
        let_go = (follow_then j output is).next;
      }

  nothing_put : HaveAll net inputs new outputs → NothingPut net old new
  nothing_put all c channel is to =
      let there = output_of_channel net outputs listed c channel is to in
      let was : length there.1.taken ≡ log_end (log_on old there.1.channel) = (taken there.0 there.1 there.2).all in
      let now : length there.1.taken ≡ log_end (log_on new there.1.channel) = (all there.0 there.1 there.2).all in
      subst (λ (d : ℕ). log_end (log_on new d) ≡ log_end (log_on old d)) there.3 (sym now ∙ was)

  -- and the run stopped for good
  pub stopped_still : HaveAll net inputs new outputs → StoppedSince net inputs limits new stopped
  stopped_still all = by stopped stops
    where
      by : (why : Stopped) → StopsSo net inputs limits IDLE_SWEEPS old new why
          → StoppedSince net inputs limits new why
      by Reached stops = stops.1
      by Rests stops = stops.1
      by Sweeps stops = ∣ (old, stops, nothing_put all) ∣₁

-- what was reached is so where the logs let go
pub reached_yet : (channels : List Channel) (limits : List ℕ) (before now : TableView) → KeepsEnds before now
    → HaveReached channels limits before → HaveReached channels limits now
reached_yet channels limits before now ends reached c channel is to =
    let end = ends c in
    let most = reached c channel is to in
    omega (arith, end, most)

-- and limits that were kept are
pub limits_yet : (net : Network) (limits : List ℕ) (old before now : TableView) → KeepsLimits net limits old before
    → KeepsEnds before now → KeepsLimits net limits old now
limits_yet net limits old before now within ends c channel is to =
    let end = ends c in
    let most = within c channel is to in
    omega (arith, end, most)

-- as they are over two rounds, where the network stays the same
pub limits_twice : (net net' : Network) (limits : List ℕ) (old between new : TableView) → net' ≡ net
    → KeepsLimits net limits old between → KeepsLimits net' limits between new → KeepsLimits net limits old new
limits_twice net net' limits old between new same one then c channel is to =
    let other = subst (λ (n : Network). KeepsLimits n limits between new) same then in
    let first = one c channel is to in
    let second = other c channel is to in
    omega (arith, first, second)
