-- What comes is fed, and stays so.
use Rattle.std.proofs.Common.{◌≡◌, ◌≢◌, ◌<◌, ◌+◌, ◌∙◌, ℕ, zero, suc, Bool, true, false, List, ℤ, [], ◌++◌, length, Option, Some, None, refl, sym, ap, append-nil, append_assoc, ◌⊎◌, inl, inr, arith}
use Rattle.std.proofs.lemmas.Bool.{cases_eq}
use Rattle.std.proofs.lemmas.Bool.Decides.{nat_tests}
use Rattle.std.specs.Prelude.{IfErr, OnOk, IsTrue, nat_le, replicate, slice_get, slice_index_or, Result, Ok, Err}
use Rattle.std.proofs.lemmas.List.{length-append}
use Rattle.std.proofs.lemmas.Option.{slice_get_within}
use Rattle.growing.proofs.Adding.{fed_has_items, others_stay}
use Rattle.growing.specs.LaterInputs.{fed, with_inputs}
use Rattle.kahn_net.specs.Laws.Prefixes.{followed, prefix_of, prefix_refl}
use Rattle.kahn_net.specs.declared.limits.TheConstants.{MAX_CHANNELS, MAX_COUNT}
use Rattle.protocol.specs.Node.Common.{Channel, history_of, IsPrefix}
use Rattle.protocol.specs.World.Common.{WorldInvariant, WorldView}
use Rattle.world.specs.Feeding.{feed_refusal, feed_refusal_by, is_input, is_input_by, none_closed, told_by}
use Rattle.world.specs.declared.feeding.FeedFault.{FeedFault}
use Rattle.world.specs.declared.feeding.FeedFault.TheVariants.{NoMemory, NoInput, Full, Closed}
use Rattle.stream_run.specs.Linked.{AreFedAll, AreFedInPart, IsFedAll, IsFedBy}
use Rattle.stream_run.specs.Stops.{IsOverfull, IsStop, stop_by}
use Rattle.stream_run.specs.declared.stopped.Stopped.{Stopped}
use Rattle.stream_run.specs.declared.stopped.Stopped.TheVariants as stop

-- ---- one input

same_fed : (had list : List ℤ) → IsFedAll had had list list
same_fed had list = record { items = []; came = sym (append-nil had); fed_since = sym (append-nil list) }

fed_twice : (a b c x y z : List ℤ) → IsFedAll a b x y → IsFedAll b c y z → IsFedAll a c x z
fed_twice a b c x y z one other =
    record {
      items = one.items ++ other.items;
      came = other.came ∙ (ap (λ (l : List ℤ). l ++ other.items) one.came ∙ append_assoc a one.items other.items);
      fed_since = other.fed_since ∙ (ap (λ (l : List ℤ). l ++ other.items) one.fed_since ∙ append_assoc x one.items other.items);
    }

fed_part_then : (a b c x y z : List ℤ) → IsFedAll a b x y → IsFedBy b c y z → IsFedBy a c x z
fed_part_then a b c x y z one other =
    record {
      items = one.items ++ other.items;
      rest = other.rest;
      came = other.came ∙ ap (λ (l : List ℤ). l ++ other.items ++ other.rest) one.came
          ∙ ap (λ (l : List ℤ). l ++ other.rest) (append_assoc a one.items other.items);
      fed_since = other.fed_since ∙ (ap (λ (l : List ℤ). l ++ other.items) one.fed_since ∙ append_assoc x one.items other.items);
    }

-- ---- all inputs

-- nothing came, and nothing was fed
pub none_fed : (had has : ℕ → List ℤ) (old new : WorldView) → ((input : ℕ) → has input ≡ had input) → new.inputs ≡ old.inputs
    → AreFedAll had has old new
none_fed had has old new same inputs =
    λ input. rw (same input, inputs) (same_fed (had input) (history_of old.inputs input))

pub fed_then : (first next last : ℕ → List ℤ) (old between new : WorldView) → AreFedAll first next old between
    → AreFedAll next last between new → AreFedAll first last old new
fed_then first next last old between new one other = λ input. fed_twice _ _ _ _ _ _ (one input) (other input)

pub part_then : (first next last : ℕ → List ℤ) (old between new : WorldView) → AreFedAll first next old between
    → AreFedInPart next last between new → AreFedInPart first last old new
part_then first next last old between new one other = λ input. fed_part_then _ _ _ _ _ _ (one input) (other input)

pub fed_since : {T E : Type 0} (first next last : ℕ → List ℤ) (old between new : WorldView) (result : Result T E)
    → AreFedAll first next old between → OnOk result (AreFedAll next last between new) → OnOk result (AreFedAll first last old new)
fed_since {T} {E} first next last old between new (Ok value) one other = fed_then first next last old between new one other
fed_since {T} {E} first next last old between new (Err fault) one other = tt

-- what is fed wholly is fed in part
pub fed_in_part : (had has : ℕ → List ℤ) (old new : WorldView) → AreFedAll had has old new → AreFedInPart had has old new
fed_in_part had has old new all = λ input.
    let f = all input in
    record { items = f.items; rest = []; came = f.came ∙ sym (append-nil (had input ++ f.items)); fed_since = f.fed_since }

-- ---- what came by one input is fed

-- an input has a list
pub input_within : (world : WorldView) (input : ℕ) → WorldInvariant world → IsTrue (is_input world.net input)
    → input < length world.inputs
input_within world input sound here =
    let count : length world.inputs ≡ length world.net.channels = sound.fits.count in
    let there = there_is (slice_get world.net.channels input) refl here in
    let within : input < length world.net.channels = slice_get_within world.net.channels input there.0 there.1 in
    omega (arith, count, within)
  where
    there_is : (channel : Option Channel) → slice_get world.net.channels input ≡ channel → IsTrue (is_input_by channel)
        → (one : Channel) × (slice_get world.net.channels input ≡ Some one)
    there_is None is here = absurd cc
    there_is (Some channel) is here = (channel, is)

fed_at_by : (had has : ℕ → List ℤ) (input : ℕ) (items : List ℤ) (lists : List (List ℤ)) (other : ℕ) → input < length lists
    → has input ≡ had input ++ items → ((other : ℕ) → other ≢ input → has other ≡ had other)
    → (other ≡ input) ⊎ (other ≡ input → ⊥)
    → IsFedAll (had other) (has other) (history_of lists other) (history_of (fed input items lists) other)
fed_at_by had has input items lists other within came others (inl same) =
    rw same (record { items = items; came = came; fed_since = fed_has_items lists input items within })
fed_at_by had has input items lists other within came others (inr apart) =
    rw (others other apart, others_stay lists input other items apart) (same_fed (had other) (history_of lists other))

pub fed_at : (had has : ℕ → List ℤ) (input : ℕ) (items given : List ℤ) (old new : WorldView) → given ≡ items → WorldInvariant old
    → IsTrue (is_input old.net input) → has input ≡ had input ++ items → ((other : ℕ) → other ≢ input → has other ≡ had other)
    → new ≡ with_inputs (fed input given old.inputs) old → AreFedAll had has old new
fed_at had has input items given old new same sound here came others is = λ other.
    let inputs : new.inputs ≡ fed input items old.inputs =
    ap (λ (world : WorldView). world.inputs) is ∙ ap (λ (list : List ℤ). fed input list old.inputs) same in
    rw inputs (fed_at_by had has input items old.inputs other (input_within old input sound here) came others (cases_eq other input))

-- ---- what came is not fed

unfed : (had has list : List ℤ) → IsPrefix had has → IsFedBy had has list list
unfed had has list part =
    let f = followed had has part in
    record { items = []; rest = f.rest; came = f.is ∙ ap (λ (l : List ℤ). l ++ f.rest) (sym (append-nil had)); fed_since = sym (append-nil list) }

unfed_by : (had has : ℕ → List ℤ) (input other : ℕ) (lists : List (List ℤ)) → IsPrefix (had input) (has input)
    → ((other : ℕ) → other ≢ input → has other ≡ had other) → (other ≡ input) ⊎ (other ≡ input → ⊥)
    → IsFedBy (had other) (has other) (history_of lists other) (history_of lists other)
unfed_by had has input other lists part others (inl same) = rw same (unfed (had input) (has input) (history_of lists input) part)
unfed_by had has input other lists part others (inr apart) =
    rw (others other apart) (unfed (had other) (had other) (history_of lists other) (prefix_refl (had other)))

-- something may have come by one input, and nothing is fed
pub unfed_at : (had has : ℕ → List ℤ) (input : ℕ) (old new : WorldView) → IsPrefix (had input) (has input)
    → ((other : ℕ) → other ≢ input → has other ≡ had other) → new.inputs ≡ old.inputs → AreFedInPart had has old new
unfed_at had has input old new part others same = λ other.
    rw same (unfed_by had has input other old.inputs part others (cases_eq other input))

-- these items came, and they are refused
pub refused_at : (had has : ℕ → List ℤ) (input : ℕ) (items : List ℤ) (old new : WorldView) → has input ≡ had input ++ items
    → ((other : ℕ) → other ≢ input → has other ≡ had other) → new ≡ old → AreFedInPart had has old new
refused_at had has input items old new came others same =
    unfed_at had has input old new (prefix_of (record { rest = items; is = came })) others (ap (λ (world : WorldView). world.inputs) same)

-- ---- why items are refused

none_is_closed : (many input : ℕ) → slice_index_or (replicate many false) input false ≡ false
none_is_closed zero input = refl
none_is_closed (suc many) zero = refl
none_is_closed (suc many) (suc input) = none_is_closed many input

full_by : (few : Bool) (fault : FeedFault) → fault ≢ NoMemory → feed_refusal_by true false few ≡ told_by fault → few ≡ false
full_by false fault some is = refl
full_by true NoMemory some is = absurd (some refl)
full_by true NoInput some is = absurd cc
full_by true Full some is = absurd cc
full_by true Closed some is = absurd cc

-- an open input refuses items that came only where it would have too many, unless memory is missing
overfull : (had has : ℕ → List ℤ) (world : WorldView) (closed : List Bool) (input : ℕ) (items given : List ℤ) (fault : FeedFault)
    → given ≡ items → has input ≡ had input ++ items → IsTrue (is_input world.net input) → closed ≡ none_closed
    → feed_refusal world.net closed world.inputs input (length given) ≡ told_by fault → fault ≢ NoMemory → IsOverfull had has world
overfull had has world closed input items given fault same came here none refused some =
    let is : is_input world.net input ≡ true = cc in
    let still : slice_index_or none_closed input false ≡ false = none_is_closed MAX_CHANNELS input in
    let many : nat_le (length (history_of world.inputs input) + length given) MAX_COUNT ≡ false =
    full_by _ fault some (rw (is, none, still) at refused) in
    let more : length (has input) ≡ length (had input) + length items = ap length came ∙ length-append (had input) items in
    let counted : length given ≡ length items = ap length same in
    record { input = input; here = here; many = grind (arith, nat_tests) }

-- a fault of a feed is why the streams end
pub stops : {F : Type 0} (failed : F → Type 0) (had has : ℕ → List ℤ) (world : WorldView) (closed : List Bool) (input : ℕ)
    (items given : List ℤ) (fault : FeedFault) (stopped : Stopped F) → given ≡ items → has input ≡ had input ++ items
    → IsTrue (is_input world.net input) → closed ≡ none_closed
    → feed_refusal world.net closed world.inputs input (length given) ≡ told_by fault → stopped ≡ stop_by fault
    → IsStop failed had has world stopped
stops {F} failed had has world closed input items given NoMemory stopped same came here none refused is = rw is tt
stops {F} failed had has world closed input items given NoInput stopped same came here none refused is =
    rw is (overfull had has world closed input items given NoInput same came here none refused (λ e. absurd cc))
stops {F} failed had has world closed input items given Full stopped same came here none refused is =
    rw is (overfull had has world closed input items given Full same came here none refused (λ e. absurd cc))
stops {F} failed had has world closed input items given Closed stopped same came here none refused is =
    rw is (overfull had has world closed input items given Closed same came here none refused (λ e. absurd cc))

-- what is too much for what came since a later world is too much since an earlier one too
overfull_since : (first next last : ℕ → List ℤ) (old between : WorldView) → AreFedAll first next old between → between.net ≡ old.net
    → IsOverfull next last between → IsOverfull first last old
overfull_since first next last old between fed same over =
    let f = fed over.input in
    let came : length (next over.input) ≡ length (first over.input) + length f.items =
    ap length f.came ∙ length-append (first over.input) f.items in
    let had : length (history_of between.inputs over.input) ≡ length (history_of old.inputs over.input) + length f.items =
    ap length f.fed_since ∙ length-append (history_of old.inputs over.input) f.items in
    let many = over.many in
    record { input = over.input; here = rw same at (over.here); many = omega (arith, came, had, many) }

pub stops_since : {F : Type 0} (failed : F → Type 0) (first next last : ℕ → List ℤ) (old between : WorldView) (stopped : Stopped F)
    → AreFedAll first next old between → between.net ≡ old.net → IsStop failed next last between stopped → IsStop failed first last old stopped
stops_since {F} failed first next last old between stop.NoMemory fed same is = tt
stops_since {F} failed first next last old between stop.Full fed same is = overfull_since first next last old between fed same is
stops_since {F} failed first next last old between (stop.Outside fault) fed same is = is

pub ends_since : {F T : Type 0} (failed : F → Type 0) (first next last : ℕ → List ℤ) (old between : WorldView) (result : Result T (Stopped F))
    → AreFedAll first next old between → between.net ≡ old.net → IfErr result (IsStop failed next last between)
    → IfErr result (IsStop failed first last old)
ends_since {F} {T} failed first next last old between (Ok done) fed same is = tt
ends_since {F} {T} failed first next last old between (Err stopped) fed same is = stops_since failed first next last old between stopped fed same is
