-- What an outlet took that was handed an item.
use Rattle.std.proofs.Common.{◌≡◌, ◌⊎◌, inl, inr, ℕ, suc, ◌+◌, ◌<◌, ◌≤◌, Bool, true, false, cond, List, ℤ, [], ◌∷◌}
use Rattle.std.proofs.Common.{◌++◌, length, Option, Some, None, refl, sym, ap, subst, ◌∙◌, length-append, arith}
use Rattle.std.specs.Prelude.{slice_get, nat_lt, not, ◌&&◌}
use Rattle.std.specs.Option.{option_to_list}
use Rattle.std.proofs.lemmas.Bool.{ltb-true}
use Rattle.protocol.specs.Node.Common.{IsPrefix, LogState, IsLogOf, Network}
use Rattle.protocol.specs.Node.Common.{sent_of, RecordView, ModeView, Down, InDoubt, Runs, running_node, running_in}
use Rattle.protocol.specs.Node.Common.{is_running, HasNext, TookNext, current_log}
use Rattle.kahn_net.specs.Laws.Prefixes.{prefix_of, prefix_along, prefix_refl}
use Rattle.retained.specs.LogState.{item_at}
use Rattle.outlet.specs.ReleaseLaws.{released_one}
use Rattle.outlet.proofs.Steps.{goes_on}
use Rattle.protocol.specs.Node.Trimming.{logged_at}
use Rattle.protocol.specs.World.Common.{output_of, outputs_of, StationInvariant, ReplyView}
use Rattle.protocol.specs.World.Common.{OutletView, StationView, first_waiting, next_release}
use Rattle.protocol_laws.specs.World.LeaveLaws.{has_next}
use Rattle.protocol_laws.specs.World.OutputLaws.{map_at}
use Rattle.protocol.specs.World.Steps.{has_failed_in, is_waiting, IsHanded}

-- The outlet that is next

waits : (b : Bool) (n m : ℕ) → (not b && nat_lt n m) ≡ true → n < m
waits true n m is = absurd (cc)
waits false n m is = ltb-true n m is

waiting_at : (kept : RecordView) (round first : ℕ) (outlets : List OutletView) (place : ℕ)
    → first_waiting kept round first outlets ≡ Some place
    → (j : ℕ) × (place ≡ first + j)
    × ((outlet : OutletView) → slice_get outlets j ≡ Some outlet
    → length outlet.taken < sent_of kept.permanent outlet.channel)
waiting_at kept round first [] place is = absurd (cc)
waiting_at kept round first (x ∷ outlets) place is =
    at (is_waiting kept round x) refl (λ e. waiting_at kept round (first + 1) outlets place e) is
  where
    at : (b : Bool) → is_waiting kept round x ≡ b
        → (first_waiting kept round (first + 1) outlets ≡ Some place
        → (j : ℕ) × (place ≡ first + 1 + j)
        × ((outlet : OutletView) → slice_get outlets j ≡ Some outlet
        → length outlet.taken < sent_of kept.permanent outlet.channel))
        → cond b (Some first) (first_waiting kept round (first + 1) outlets) ≡ Some place
        → (j : ℕ) × (place ≡ first + j)
        × ((outlet : OutletView) → slice_get (x ∷ outlets) j ≡ Some outlet
        → length outlet.taken < sent_of kept.permanent outlet.channel)
    at true test further e =
        let here : first ≡ place = cc in (
          0,
          (let s : place ≡ first + 0 = omega (arith, here) in s),
          λ outlet
              there. (let same : x ≡ outlet = cc in
              subst (λ (o : OutletView). length o.taken < sent_of kept.permanent o.channel) same
              (waits (has_failed_in round x.failed) _ _ test)),
        )
    at false test further e =
        let rest = further e in
        let sum = rest.1 in
        (suc rest.0, (let s : place ≡ first + suc rest.0 = omega (arith, sum) in s), rest.2)

-- the permanent image covers more than it has
pub next_waits : (round place : ℕ) (old : StationView) (outlet : OutletView) → next_release round old ≡ Some place
    → slice_get old.outlets place ≡ Some outlet → length outlet.taken < sent_of old.node.kept.permanent outlet.channel
next_waits round place old outlet next there = at (is_running old.node.mode) next
  where
    at : (b : Bool) → cond b (first_waiting old.node.kept round 0 old.outlets) None ≡ Some place
        → length outlet.taken < sent_of old.node.kept.permanent outlet.channel
    at false e = absurd (cc)
    at true e =
        let found = waiting_at old.node.kept round 0 old.outlets place e in
        let sum = found.1 in
        let same : place ≡ found.0 = omega (arith, sum) in
        found.2 outlet (ap (slice_get old.outlets) (sym same) ∙ there)

-- and the log has the item that comes next for it
pub next_there : (net : Network) (inputs : List (List ℤ)) (old : StationView) (round place : ℕ) (outlet : OutletView)
    → StationInvariant net inputs old → next_release round old ≡ Some place → slice_get old.outlets place ≡ Some outlet
    → HasNext (current_log outlet.channel old.node.mode) (length outlet.taken)
next_there net inputs old round place outlet inv next there = at old.node.mode refl next
  where
    at : (m : ModeView) → old.node.mode ≡ m
        → cond (is_running m) (first_waiting old.node.kept round 0 old.outlets) None ≡ Some place
        → HasNext (current_log outlet.channel m) (length outlet.taken)
    at Down is e = absurd (cc)
    at InDoubt is e = absurd (cc)
    at (Runs running) is e =
        let node = running_node old.node.kept old.node.version running in
        let runs = inv.runs node (ap (running_in old.node.kept old.node.version) is) in
        has_next net inputs node (outputs_of old.outlets) place (output_of outlet) runs.sound runs.order
        (map_at output_of old.outlets place outlet there) (next_waits round place old outlet next there)

-- What it took

-- it took the next item, or didn't
pub took_or_not : (round : ℕ) (log : Option LogState) (outlet : OutletView) (answer : ReplyView) (later : OutletView)
    → IsHanded round log outlet answer later
    → (later.taken ≡ outlet.taken) ⊎ TookNext log outlet.taken later.taken
took_or_not round log outlet answer later handed = at handed.came
  where
    at : {P Q R S T U V : Type 0}
        → (P × TookNext log outlet.taken later.taken × Q × R × S)
        ⊎ (T × ((later.taken ≡ outlet.taken) ⊎ TookNext log outlet.taken later.taken) × U × V)
        → (later.taken ≡ outlet.taken) ⊎ TookNext log outlet.taken later.taken
    at (inl went) = inr went.1
    at (inr failed) = failed.1

module _ (log : Option LogState) (old new : List ℤ) where
  -- so it has what it had, and then more
  pub took_begins : (new ≡ old) ⊎ TookNext log old new → IsPrefix old new
  took_begins (inl same) = prefix_along old old new old refl same (prefix_refl old)
  took_begins (inr took) = prefix_of (record { rest = logged_at log (length old); is = took })

  one_at_most : (o : Option LogState) (position : ℕ) → length (logged_at o position) ≤ 1
  one_at_most None position = omega arith
  one_at_most (Some l) position = at (item_at l position)
    where
      at : (item : Option ℤ) → length (option_to_list item) ≤ 1
      at None = omega arith
      at (Some v) = omega arith

  -- one item at most
  pub took_one : (new ≡ old) ⊎ TookNext log old new → length new ≤ length old + 1
  took_one (inl same) = let count : length new ≡ length old = ap (length {A = ℤ}) same in omega (arith, count)
  took_one (inr took) =
      let count : length new ≡ length (old ++ logged_at log (length old)) = ap (length {A = ℤ}) took in
      let sum : length (old ++ logged_at log (length old)) ≡ length old + length (logged_at log (length old)) =
      length-append old (logged_at log (length old)) in
      let few : length (logged_at log (length old)) ≤ 1 = one_at_most log (length old) in
      omega (arith, count, sum, few)

-- and a beginning of what was put stays one
pub took_goes_on : (log : Option LogState) (old new history : List ℤ) (l : LogState) → HasNext log (length old)
    → (new ≡ old) ⊎ TookNext log old new → log ≡ Some l → IsLogOf l history → IsPrefix old history
    → IsPrefix new history
took_goes_on log old new history l next (inl same) is stands begins =
    prefix_along new old history history same refl begins
took_goes_on None old new history l next (inr took) is stands begins = absurd next
took_goes_on (Some k) old new history l next (inr took) is stands begins =
    let same : l ≡ k = cc in
    let log_of = subst (λ (m : LogState). IsLogOf m history) same stands in
    goes_on k (length old + 1) old new history next.no_gap
    (took ∙ ap (λ (items : List ℤ). old ++ items) (sym (released_one k (length old) next))) log_of begins
