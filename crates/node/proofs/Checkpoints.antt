-- From a put that a store did, or refused, to what came of the event.
use Rattle.std.proofs.Common.{◌≡◌, ◌⊎◌, inl, inr, ⊎_elim, ℕ, ◌<◌, ◌≤◌, Bool, true, false, cond, length, Option, Some}
use Rattle.std.proofs.Common.{None, Result, Ok, Err, refl, sym, ◌∙◌, ap, subst}
use Rattle.std.specs.Prelude.{IsTrue, IsErrOf, OnOk, OnErr, IfOk, IfErr, IsSome}
use Rattle.protocol.specs.Node.Common.{Only, Whole, RecordView, fits_in, cell_in, known_in, record_in, Changes, Store}
use Rattle.protocol.specs.Node.Common.{StoreFault, NodeView, is_down, crashed, restart_after, Plan, Prospect, Planned}
use Rattle.protocol.specs.Node.Common.{IsCarriedOut, IsMade, IsPut, next_record, room_for}
use Rattle.gate_cell.specs.declared.cell.StableCell.{Ghosts as CellWords}
use Rattle.slot_cell.specs.declared.slot_cell.SlotCell.{Ghosts as SlotWords}
use Rattle.ckpt_store.specs.Spelling.{IsLengthTold}
use Rattle.ckpt_store.specs.StoreFault.{HasFailures, IsOfPut}
use Rattle.ckpt_store.specs.declared.fault.StoreFault.TheVariants as fault
use Rattle.node.specs.NodeView.{node_view, mode_view}
use Rattle.node.specs.StoredView.{HasRecord, LeavesDevice, LeavesNext, IsCrashed, has_failed, put_outcome, IsAnswer}
use Rattle.node.specs.declared.state.NodeState.{NodeState}
use Rattle.protocol.specs.declared.outcome.Outcome.{Outcome}
use Rattle.node.specs.Putting.{IsPutEvent}
use Rattle.node.proofs.Records.{device_then, settled_ready, one_of_both, then_crashed, change_fits, change_refusals, change_moments}
use Rattle.node.proofs.Records.{change_done, change_refused}

-- What an event that puts this record comes to, behind which the node is so.
pub record Ends {C : Type 0} {words : CellWords C} {slots : SlotWords C} (next : RecordView) (made : NodeView)
    (restart : ℕ) (old new : Store C slots words) (before after : NodeState)
    (put : Result (Unit {0}) StoreFault) : Type 0 where
  pub moments : LeavesNext next old new
  pub refusals : IfErr put IsOfPut
  pub settled : Only (slots.whole (cell_in new)) (slots.may_leave_whole (cell_in new))
  pub stored : OnOk put ((record_in new ≡ next) × IsSome (known_in new) × (node_view next after ≡ made))
  pub refused : OnErr put
      (has_failed put ≡ false → (record_in new ≡ record_in old) × IsSome (known_in new) × (after ≡ before))
  pub failed : IsTrue (has_failed put)
      → ((record_in new ≡ record_in old) ⊎ (record_in new ≡ next))
      × ((kept : RecordView) → node_view kept after ≡ crashed restart (node_view kept before))
  pub fits : IsLengthTold (fits_in (slots.slot_capacity (cell_in old)) next) put
  pub failures : HasFailures (words.failure_count (cell_in old)) (words.failure_count (cell_in new)) put
  pub same_setup : LeavesDevice old new

by_test : (b : Bool) {P : Type 0} → (b ≡ false → P) → (b ≡ true → P) → P
by_test true f t = t refl
by_test false f t = f refl

not_device : (put : Result (Unit {0}) StoreFault) → has_failed put ≡ false → ¬ (IsErrOf put fault.Device)
not_device put test e = let both : has_failed (Err fault.Device) ≡ false = ap has_failed (sym e) ∙ test in cc

module _ {C : Type 0} (words : CellWords C) (slots : SlotWords C)
    (includes_now : (cell : C) (t : ℕ) (left : Whole) → t ≤ words.moment cell → slots.may_leave_whole cell left
    → slots.left_since_whole cell t left)
    (may_stay : (cell : C) → slots.may_leave_whole cell (slots.whole cell))
    (ready_settled : (cell : C) → IsTrue (words.is_ready cell) → Only (slots.whole cell) (slots.may_leave_whole cell))
    (cause : RecordView → Option StoreFault) (change : RecordView → RecordView) (old mid new : Store C slots words)
    (put : Result (Unit {0}) StoreFault) (some : IsSome (known_in old)) (fine : cause (record_in old) ≡ None)
    (changes : Changes cause change old mid put)
    (only : Only (slots.whole (cell_in old)) (slots.may_leave_whole (cell_in old))) (restart : ℕ)
    (before after : NodeState) where
  pub ended : (made : NodeView) → (has_failed put ≡ false → new ≡ mid)
      → OnOk put (node_view (change (record_in old)) after ≡ made)
      → OnErr put (has_failed put ≡ false → after ≡ before)
      → (IsTrue (has_failed put)
      → IsCrashed mid new × ((kept : RecordView) → node_view kept after ≡ crashed restart (node_view kept before)))
      → Ends (change (record_in old)) made restart old new before after put
  ended made stays carried same_state crash = record {
    moments = moments;
    refusals = change_refusals words slots includes_now may_stay ready_settled cause change old mid put some fine changes;
    settled = settled;
    stored = stored put refl;
    refused = refused put refl;
    failed =
        λ test. (
          one_of_both words slots includes_now may_stay ready_settled (change (record_in old)) old new only moments,
          (crash test).1,
        );
    fits = change_fits words slots includes_now may_stay ready_settled cause change old mid put some fine changes;
    failures =
        subst (λ (n : ℕ). HasFailures (words.failure_count (cell_in old)) n put)
        (sym (after_crash (λ (s : Store C slots words). words.failure_count (cell_in s)) (λ test. (crash test).0.failures)))
        changes.failures;
    same_setup =
        by_test (has_failed put)
        (λ test. subst (λ (s : Store C slots words). LeavesDevice old s) (sym (stays test)) put_device)
        (λ test. device_then words slots old mid new put_device (crash test).0.same_setup);
  }
    where
      put_device : LeavesDevice old mid
      put_device = record { setup = changes.same_setup; same_slot_room = changes.same_slot_room }

      -- what a crash leaves alone is as after the put
      after_crash : {A : Type 0} (of : Store C slots words → A) → (IsTrue (has_failed put) → of new ≡ of mid)
          → of new ≡ of mid
      after_crash of down = by_test (has_failed put) (λ test. ap of (stays test)) down

      run : LeavesNext (change (record_in old)) old mid
      run = change_moments words slots includes_now may_stay ready_settled cause change old mid put some fine changes

      moments : LeavesNext (change (record_in old)) old new
      moments =
          by_test (has_failed put)
          (λ test. subst (λ (s : Store C slots words). LeavesNext (change (record_in old)) old s) (sym (stays test)) run)
          (λ test. then_crashed words slots includes_now may_stay ready_settled (change (record_in old)) old mid new run
          (crash test).0.any_moment)

      stored : (p : Result (Unit {0}) StoreFault) → put ≡ p
          → OnOk p ((record_in new ≡ change (record_in old)) × IsSome (known_in new)
          × (node_view (change (record_in old)) after ≡ made))
      stored (Ok x) is =
          let done =
          subst (λ (p : Result (Unit {0}) StoreFault). OnOk p
          ((record_in mid ≡ change (record_in old)) × IsSome (known_in mid))) is
          (change_done words slots includes_now may_stay ready_settled cause change old mid put some fine changes) in
          let same = stays (ap has_failed is) in (
            subst (λ (s : Store C slots words). record_in s ≡ change (record_in old)) (sym same) done.0,
            subst
                (λ (s : Store C slots words). IsSome (known_in s)) (sym same) done.1,
            subst (λ (p : Result (Unit {0}) StoreFault). OnOk p (node_view (change (record_in old)) after ≡ made)) is
                carried,
          )
      stored (Err e) is = tt

      refused : (p : Result (Unit {0}) StoreFault) → put ≡ p
          → OnErr p (has_failed p ≡ false → (record_in new ≡ record_in old) × IsSome (known_in new) × (after ≡ before))
      refused (Ok x) is = tt
      refused (Err e) is = λ test. (
          let same = stays (ap has_failed is ∙ test) in
          let kept =
          subst (λ (p : Result (Unit {0}) StoreFault). OnErr p
          (¬ (IsErrOf p fault.Device)
          → (record_in mid ≡ record_in old) × IsSome (known_in mid) × (cell_in mid ≡ cell_in old))) is
          (change_refused words slots includes_now may_stay ready_settled cause change old mid put some fine changes)
          (not_device (Err e) test) in (
            subst (λ (s : Store C slots words). record_in s ≡ record_in old) (sym same) kept.0,
            subst
                (λ (s : Store C slots words). IsSome (known_in s)) (sym same) kept.1,
            (subst (λ (p : Result (Unit {0}) StoreFault). OnErr p (has_failed p ≡ false → after ≡ before)) is
                same_state) test,
          ))

      ready : has_failed put ≡ false → IsSome (known_in new)
      ready test = at put refl
        where
          at : (p : Result (Unit {0}) StoreFault) → put ≡ p → IsSome (known_in new)
          at (Ok x) is = (stored (Ok x) is).1
          at (Err e) is = (refused (Err e) is (ap has_failed (sym is) ∙ test)).1

      settled : Only (slots.whole (cell_in new)) (slots.may_leave_whole (cell_in new))
      settled =
          by_test (has_failed put) (λ test. settled_ready words slots includes_now may_stay ready_settled new (ready test))
          (λ test. (crash test).0.settled)

-- ---- what came of an event

pub is_answered : (result : Option Outcome) {E : Type 0} (answer : Result Outcome E) → IsAnswer result answer
    → (P : Outcome → Type 0) → ((x : Outcome) → result ≡ Some x → P x) → IfOk answer P
is_answered None (Ok y) is P so = absurd is
is_answered None (Err e) is P so = tt
is_answered (Some x) (Ok y) is P so = subst P (sym is) (so x refl)
is_answered (Some x) (Err e) is P so = absurd is

is_refused : (result : Option Outcome) {E : Type 0} (answer : Result Outcome E) → IsAnswer result answer → (P : Type 0)
    → (result ≡ None → P) → OnErr answer P
is_refused None (Ok y) is P so = absurd is
is_refused None (Err e) is P so = so refl
is_refused (Some x) (Ok y) is P so = tt
is_refused (Some x) (Err e) is P so = absurd is

-- by the kinds of a put's result: done, without memory, too large, or the device failed
by_kind : (P : Result (Unit {0}) StoreFault → Type 0) → P (Ok tt) → P (Err fault.NoMemory) → P (Err fault.TooLarge)
    → P (Err fault.Device) → (put : Result (Unit {0}) StoreFault) → IfErr put IsOfPut → P put
by_kind P done memory large device (Ok x) is = done
by_kind P done memory large device (Err fault.NoMemory) is = memory
by_kind P done memory large device (Err fault.Device) is = device
by_kind P done memory large device (Err fault.TooLarge) is = large
by_kind P done memory large device (Err fault.Reopen) is = absurd is
by_kind P done memory large device (Err fault.Truncated) is = absurd is
by_kind P done memory large device (Err fault.Version) is = absurd is
by_kind P done memory large device (Err fault.Malformed) is = absurd is
by_kind P done memory large device (Err fault.HoldsOther) is = absurd is
by_kind P done memory large device (Err fault.PastNumber) is = absurd is
by_kind P done memory large device (Err fault.NotHeld) is = absurd is
by_kind P done memory large device (Err fault.Unsettled) is = absurd is
by_kind P done memory large device (Err fault.Spent) is = absurd is

module _ {C : Type 0} {words : CellWords C} {slots : SlotWords C} (next : RecordView) (made : NodeView) (restart : ℕ)
    (old new : Store C slots words) (before after : NodeState) (put : Result (Unit {0}) StoreFault)
    (ends : Ends next made restart old new before after put) where
  abbrev was : NodeView
  was = node_view (record_in old) before

  abbrev now : NodeView
  now = node_view (record_in new) after

  same_view : record_in new ≡ record_in old → after ≡ before → now ≡ was
  same_view kept state = ap (λ (r : RecordView). node_view r after) kept ∙ ap (node_view (record_in old)) state

  some_is : {x y : Outcome} → Some x ≡ Some y → x ≡ y
  some_is is = cc

  -- how it comes out, where the record may grow, or fits as the one before did
  ends_step : (plan : Plan) → plan.puts ≡ true → plan.node ≡ made → plan.node.kept ≡ next
      → (plan.grows ≡ false → fits_in (slots.slot_capacity (cell_in old)) next ≡ true) → (x : Outcome)
      → put_outcome put ≡ Some x → IsCarriedOut restart plan was x now
  ends_step plan puts node kept_is short =
      by_kind (λ p. IsLengthTold (fits_in (slots.slot_capacity (cell_in old)) next) p
      → OnOk p ((record_in new ≡ next) × IsSome (known_in new) × (node_view next after ≡ made))
      → OnErr p (has_failed p ≡ false → (record_in new ≡ record_in old) × IsSome (known_in new) × (after ≡ before))
      → (IsTrue (has_failed p)
      → ((record_in new ≡ record_in old) ⊎ (record_in new ≡ next))
      × ((kept : RecordView) → node_view kept after ≡ crashed restart (node_view kept before)))
      → (x : Outcome) → put_outcome p ≡ Some x → IsCarriedOut restart plan was x now)
      (λ fits stored refused failed x is.
      subst (λ (y : Outcome). IsCarriedOut restart plan was y now) (some_is is)
      (ap (λ (r : RecordView). node_view r after) stored.0 ∙ (stored.2 ∙ sym node)))
      (λ fits stored refused failed x is. absurd (cc))
      (λ fits stored refused failed x is.
      let same = refused refl in
      subst (λ (y : Outcome). IsCarriedOut restart plan was y now) (some_is is)
      (it_grows fits, same_view same.0 same.2))
      (λ fits stored refused failed x is.
      let down = failed refl in
      subst (λ (y : Outcome). IsCarriedOut restart plan was y now) (some_is is) (
        puts,
        ⊎_elim (λ kept. inl (ap (λ (r : RecordView). node_view r after) kept ∙ down.1 (record_in old)))
            (λ kept. inr (ap (λ (r : RecordView). node_view r after) (kept ∙ sym kept_is) ∙ down.1 plan.node.kept))
            down.0,
      ))
      put ends.refusals ends.fits ends.stored ends.refused ends.failed
    where
      it_grows : fits_in (slots.slot_capacity (cell_in old)) next ≡ false → plan.grows ≡ true
      it_grows large =
          by_test plan.grows
          (λ no. (let some : fits_in (slots.slot_capacity (cell_in old)) next ≡ true = short no in absurd (cc))) (λ is. is)

  -- what the cell has to do with it
  ends_put : (x : Outcome) → put_outcome put ≡ Some x
      → IsPut (fits_in (slots.slot_capacity (cell_in old)) next) (words.failure_count (cell_in old))
      (words.failure_count (cell_in new)) x
  ends_put =
      by_kind (λ p. IsLengthTold (fits_in (slots.slot_capacity (cell_in old)) next) p
      → HasFailures (words.failure_count (cell_in old)) (words.failure_count (cell_in new)) p
      → (x : Outcome) → put_outcome p ≡ Some x
      → IsPut (fits_in (slots.slot_capacity (cell_in old)) next) (words.failure_count (cell_in old))
      (words.failure_count (cell_in new)) x)
      (λ fits failures x is.
      subst (IsPut (fits_in (slots.slot_capacity (cell_in old)) next) (words.failure_count (cell_in old))
      (words.failure_count (cell_in new))) (some_is is) (fits, failures.otherwise (λ e. cc)))
      (λ fits failures x is. absurd (cc))
      (λ fits failures x is.
      subst (IsPut (fits_in (slots.slot_capacity (cell_in old)) next) (words.failure_count (cell_in old))
      (words.failure_count (cell_in new))) (some_is is) (fits, failures.otherwise (λ e. cc)))
      (λ fits failures x is.
      subst (IsPut (fits_in (slots.slot_capacity (cell_in old)) next) (words.failure_count (cell_in old))
      (words.failure_count (cell_in new))) (some_is is) (fits, failures.device refl))
      put ends.refusals ends.fits ends.failures

  -- want of memory changed nothing
  ends_refused : put_outcome put ≡ None
      → (now ≡ was) × (words.failure_count (cell_in new) ≡ words.failure_count (cell_in old))
  ends_refused =
      by_kind (λ p. OnErr p
      (has_failed p ≡ false → (record_in new ≡ record_in old) × IsSome (known_in new) × (after ≡ before))
      → HasFailures (words.failure_count (cell_in old)) (words.failure_count (cell_in new)) p → put_outcome p ≡ None
      → (now ≡ was) × (words.failure_count (cell_in new) ≡ words.failure_count (cell_in old)))
      (λ refused failures is. absurd (cc))
      (λ refused failures is. (let same = refused refl in (same_view same.0 same.2, failures.otherwise (λ e. cc))))
      (λ refused failures is. absurd (cc))
      (λ refused failures is. absurd (cc))
      put ends.refusals ends.refused ends.failures

  -- so all of it
  pub ends_event : (plan : Plan) → plan.puts ≡ true → plan.node ≡ made → plan.node.kept ≡ next
      → (plan.grows ≡ false → fits_in (slots.slot_capacity (cell_in old)) next ≡ true)
      → (prospect : Prospect) (round : ℕ) {E : Type 0} (answer : Result Outcome E)
      → prospect ≡ Planned plan
      → restart ≡ restart_after before.armed.items (words.failed_call (cell_in new)) round
      → IsAnswer (put_outcome put) answer → IsPutEvent prospect round was now old new answer
  ends_event plan puts node kept_is short prospect round answer planned later is =
      subst (λ (p : Prospect). IsPutEvent p round was now old new answer) (sym planned) (record {
        step = is_answered (put_outcome put) answer is
            (λ outcome. IsMade (restart_after before.armed.items (words.failed_call (cell_in new)) round)
            (Planned plan) was outcome now)
            (subst (λ (n : ℕ). (x : Outcome) → put_outcome put ≡ Some x
            → IsCarriedOut n plan was x now) later (ends_step plan puts node kept_is short));
        refused = is_refused (put_outcome put) answer is (now ≡ was) (λ none. (ends_refused none).0);
        refused_failures =
            is_refused (put_outcome put) answer is
            (words.failure_count (cell_in new) ≡ words.failure_count (cell_in old)) (λ none. (ends_refused none).1);
        put = is_answered (put_outcome put) answer is
            (IsPut (room_for (fits_in (slots.slot_capacity (cell_in old))) (Planned plan))
            (words.failure_count (cell_in old)) (words.failure_count (cell_in new)))
            (subst (λ (b : Bool). (x : Outcome) → put_outcome put ≡ Some x
            → IsPut b (words.failure_count (cell_in old)) (words.failure_count (cell_in new)) x) (sym room_is) ends_put);
        any_moment =
            subst (λ (r : RecordView). LeavesNext r old new) (sym record_is) ends.moments;
        same_setup = ends.same_setup;
      })
    where
      room_is : room_for (fits_in (slots.slot_capacity (cell_in old))) (Planned plan)
          ≡ fits_in (slots.slot_capacity (cell_in old)) next
      room_is =
          ap (λ (b : Bool). cond b (fits_in (slots.slot_capacity (cell_in old)) plan.node.kept) true) puts
          ∙ ap (fits_in (slots.slot_capacity (cell_in old))) kept_is

      record_is : next_record (Planned plan) (record_in old) ≡ next
      record_is = ap (λ (b : Bool). cond b plan.node.kept (record_in old)) puts ∙ kept_is

  -- the record, in any case
  pub ends_either : (record_in new ≡ record_in old) ⊎ (record_in new ≡ next)
  ends_either = at put refl
    where
      at : (p : Result (Unit {0}) StoreFault) → put ≡ p → (record_in new ≡ record_in old) ⊎ (record_in new ≡ next)
      at (Ok x) is =
          inr (subst
          (λ (p : Result (Unit {0}) StoreFault). OnOk p
          ((record_in new ≡ next) × IsSome (known_in new) × (node_view next after ≡ made))) is ends.stored).0
      at (Err e) is =
          by_test (has_failed put)
          (λ test. inl
          ((subst (λ (p : Result (Unit {0}) StoreFault). OnErr p
          (has_failed p ≡ false → (record_in new ≡ record_in old) × IsSome (known_in new) × (after ≡ before))) is
          ends.refused) (ap has_failed (sym is) ∙ test)).0)
          (λ test. (ends.failed test).0)

  is_up : is_down (mode_view after.mode) ≡ false → IsSome (known_in new)
  is_up up = at put refl
    where
      at : (p : Result (Unit {0}) StoreFault) → put ≡ p → IsSome (known_in new)
      at (Ok x) is =
          (subst (λ (p : Result (Unit {0}) StoreFault). OnOk p
          ((record_in new ≡ next) × IsSome (known_in new) × (node_view next after ≡ made))) is ends.stored).1
      at (Err e) is =
          by_test (has_failed put)
          (λ test. ((subst
          (λ (p : Result (Unit {0}) StoreFault). OnErr p
          (has_failed p ≡ false → (record_in new ≡ record_in old) × IsSome (known_in new) × (after ≡ before))) is
          ends.refused) (ap has_failed (sym is) ∙ test)).1)
          (λ test. (let down : is_down (mode_view after.mode) ≡ true =
          ap (λ (n : NodeView). is_down n.mode) ((ends.failed test).1 next) in absurd (cc)))

  -- what a node's type keeps
  pub ends_kept : (number : ℕ) → HasRecord number (mode_view before.mode) old
      → length next.highest ≡ length (record_in old).highest → next.node ≡ (record_in old).node
      → HasRecord number (mode_view after.mode) new
  ends_kept number has long node = record {
    listed =
        ⊎_elim (λ same. subst (λ (r : RecordView). number < length r.highest) (sym same) has.listed)
        (λ same. subst (λ (r : RecordView). number < length r.highest) (sym same)
        (subst (λ (n : ℕ). number < n) (sym long) has.listed)) ends_either;
    named = ⊎_elim (λ same. ap (λ (r : RecordView). r.node) same ∙ has.named)
        (λ same. ap (λ (r : RecordView). r.node) same ∙ (node ∙ has.named)) ends_either;
    ready = is_up;
    settled = ends.settled;
  }
