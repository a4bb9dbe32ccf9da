-- What a crash and a recovery leave of a node.
use Rattle.std.proofs.Common.{◌≡◌, ◌⊎◌, inl, inr, ⊎_elim, ℕ, ◌<◌, ◌≤◌, Bool, true, false, length}
use Rattle.std.proofs.Common.{Result, Ok, Err, refl, sym, ◌∙◌, ap, subst, arith}
use Rattle.std.specs.Prelude.{IsErrOf, IsTrue, OnErr, nat_lt}
use Rattle.std.proofs.lemmas.Bool.{lt-ltb, ltb-true}
use Rattle.std.specs.Option.{ForSome}
use Rattle.protocol.specs.Node.Common.{Only, Whole, RecordView, with_epoch, MAX_COUNT, cell_in, known_in, record_in}
use Rattle.protocol.specs.Node.Common.{Store, NodeView, is_down, crashed, Prospect, Exhausted, if_due, next_record}
use Rattle.protocol.specs.Node.Common.{putting, unless_spent, restart_after, fits_in, recover_prospect, restored}
use Rattle.protocol.specs.Node.Common.{StoreFault, Network}
use Rattle.gate_cell.specs.declared.cell.StableCell.{Ghosts as CellWords}
use Rattle.slot_cell.specs.declared.slot_cell.SlotCell.{Ghosts as SlotWords}
use Rattle.ckpt_store.specs.StoreView.{Holds}
use Rattle.node.specs.NodeView.{node_view, mode_view}
use Rattle.protocol.specs.Node.Plans.{HasFailedAt}
use Rattle.protocol.specs.declared.outcome.Outcome.{Outcome}
use Rattle.protocol.specs.declared.outcome.Outcome.TheVariants as outcome
use Rattle.protocol.specs.declared.outcome.Refusal.TheVariants.{Spent}
use Rattle.node.specs.Putting.{IsPutEvent}
use Rattle.node.specs.StoredView.{HasRecord, IsAnswer, IsCrashed, IsRaised, IsRaiseRefusal, LeavesAsBefore}
use Rattle.node.specs.StoredView.{LeavesDevice, LeavesNext, has_failed, put_outcome}
use Rattle.node.specs.declared.state.NodeState.{NodeState}
use Rattle.ckpt_store.specs.declared.fault.StoreFault.TheVariants as fault
use Rattle.rollback_core.specs.declared.restoring.Recovery.{Recovery}
use Rattle.std.specs.declared.alloc.AllocError.{AllocError}
use Rattle.node.proofs.Records.{crash_keeps, device_then, looked, looked_on, one_of_both, then_crashed}

module _ {C : Type 0} (words : CellWords C) (slots : SlotWords C) (number restart : ℕ) (old new : Store C slots words) (before after : NodeState)
    (has : HasRecord number (mode_view before.mode) old) (up : is_down (mode_view before.mode) ≡ false)
    (same : ForSome (known_in old) (λ kept. Holds new kept))
    (settled : Only (slots.whole (cell_in new)) (slots.may_leave_whole (cell_in new)))
    (stop : (kept : RecordView) → node_view kept after ≡ crashed restart (node_view kept before)) where
  kept : record_in new ≡ record_in old
  kept = crash_keeps words slots old new (has.ready up) same

  pub crash_has : HasRecord number (mode_view after.mode) new
  crash_has = record {
    listed = subst (λ (r : RecordView). number < length r.highest) (sym kept) has.listed;
    named = ap (λ (r : RecordView). r.node) kept ∙ has.named;
    ready = λ other. (let down : is_down (mode_view after.mode) ≡ true =
        ap (λ (n : NodeView). is_down n.mode) (stop (record_in new)) in absurd (cc));
    settled = settled;
  }

  pub crash_step : node_view (record_in new) after ≡ crashed restart (node_view (record_in old) before)
  crash_step = stop (record_in new) ∙ ap (λ (r : RecordView). crashed restart (node_view r before)) kept

-- what a node that is down comes to, with a next epoch and without
pub back_planned : (net : Network) (home : ℕ) (node : NodeView) → is_down node.mode ≡ true → node.kept.epoch < MAX_COUNT
    → recover_prospect net home node ≡ putting false (restored net home node)
back_planned net home node down less =
    ap (λ (b : Bool). if_due b (unless_spent true (nat_lt node.kept.epoch MAX_COUNT) (putting false (restored net home node))))
    down ∙ ap (λ (b : Bool). unless_spent true b (putting false (restored net home node)))
    (lt-ltb node.kept.epoch MAX_COUNT less)

pub back_spent : (net : Network) (home : ℕ) (node : NodeView) → is_down node.mode ≡ true → MAX_COUNT ≤ node.kept.epoch
    → recover_prospect net home node ≡ Exhausted true
back_spent net home node down more =
    ap (λ (b : Bool). if_due b (unless_spent true (nat_lt node.kept.epoch MAX_COUNT) (putting false (restored net home node))))
    down ∙ ap (λ (b : Bool). unless_spent true b (putting false (restored net home node)))
    (not_less node.kept.epoch MAX_COUNT more)
  where
    not_less : (n m : ℕ) → m ≤ n → nat_lt n m ≡ false
    not_less n m more = grind (arith, more)

module _ {C : Type 0} (words : CellWords C) (slots : SlotWords C)
    (includes_now : (cell : C) (t : ℕ) (left : Whole) → t ≤ words.moment cell → slots.may_leave_whole cell left
    → slots.left_since_whole cell t left)
    (may_stay : (cell : C) → slots.may_leave_whole cell (slots.whole cell))
    (ready_settled : (cell : C) → IsTrue (words.is_ready cell) → Only (slots.whole cell) (slots.may_leave_whole cell))
    (number : ℕ) (old mid new : Store C slots words) (before after : NodeState)
    (has : HasRecord number (mode_view before.mode) old) (run : LeavesNext (with_epoch (record_in old)) old mid)
    (crash : IsCrashed mid new)
    (restart : ℕ) (stop : (kept : RecordView) → node_view kept after ≡ crashed restart (node_view kept before)) where
  pub failed_moments : LeavesNext (with_epoch (record_in old)) old new
  failed_moments =
      then_crashed words slots includes_now may_stay ready_settled (with_epoch (record_in old)) old mid new run
      crash.any_moment

  either : (record_in new ≡ record_in old) ⊎ (record_in new ≡ with_epoch (record_in old))
  either =
      one_of_both words slots includes_now may_stay ready_settled (with_epoch (record_in old)) old new has.settled
      failed_moments

  -- the device failed, and the node stays down
  pub failed_has : HasRecord number (mode_view after.mode) new
  failed_has = record {
    listed =
        ⊎_elim (λ same. subst (λ (r : RecordView). number < length r.highest) (sym same) has.listed)
        (λ same. subst (λ (r : RecordView). number < length r.highest) (sym same) has.listed) either;
    named = ⊎_elim (λ same. ap (λ (r : RecordView). r.node) same ∙ has.named)
        (λ same. ap (λ (r : RecordView). r.node) same ∙ has.named) either;
    ready = λ up. (let down : is_down (mode_view after.mode) ≡ true =
        ap (λ (n : NodeView). is_down n.mode) (stop (record_in new)) in absurd (cc));
    settled = crash.settled;
  }

  pub failed_now : HasFailedAt restart (with_epoch (record_in old)) (node_view (record_in old) before)
      (node_view (record_in new) after)
  failed_now =
      ⊎_elim (λ same. inl (ap (λ (r : RecordView). node_view r after) same ∙ stop (record_in old)))
      (λ same. inr (ap (λ (r : RecordView). node_view r after) same ∙ stop (with_epoch (record_in old)))) either

-- ---- what came of a recovery, with its store

module _ {C : Type 0} {words : CellWords C} {slots : SlotWords C} (net : Network) (home round : ℕ) (was now : NodeView) (old new : Store C slots words)
    (same : was.kept ≡ record_in old) {E : Type 0} where
  -- its device failed
  pub lost_event : recover_prospect net home was ≡ putting false (restored net home was)
      → HasFailedAt (restart_after was.armed (words.failed_call (cell_in new)) round) (with_epoch was.kept) was now
      → IsTrue (fits_in (slots.slot_capacity (cell_in old)) (with_epoch (record_in old)))
      → words.failure_count (cell_in old) < words.failure_count (cell_in new)
      → LeavesNext (with_epoch (record_in old)) old new → LeavesDevice old new
      → IsPutEvent (recover_prospect net home was) round was now old new {E = E} (Ok outcome.Failed)
  lost_event planned lost fits failures moments setup =
      subst (λ (p : Prospect). IsPutEvent p round was now old new {E = E} (Ok outcome.Failed)) (sym planned) (record {
        step = (refl, lost);
        refused = tt;
        refused_failures = tt;
        put = (
          subst (λ (r : RecordView). IsTrue (fits_in (slots.slot_capacity (cell_in old)) (with_epoch r))) (sym same) fits,
          failures,
        );
        any_moment = subst (λ (r : RecordView). LeavesNext (with_epoch r) old new) (sym same) moments;
        same_setup = setup;
      })

  -- or did so before it was seen that there is no next epoch
  pub looked_event : recover_prospect net home was ≡ Exhausted true
      → now ≡ crashed (restart_after was.armed (words.failed_call (cell_in new)) round) was
      → words.failure_count (cell_in old) < words.failure_count (cell_in new)
      → LeavesNext was.kept old new → LeavesDevice old new
      → IsPutEvent (recover_prospect net home was) round was now old new {E = E} (Ok outcome.Failed)
  looked_event spent lost failures moments setup =
      subst (λ (p : Prospect). IsPutEvent p round was now old new {E = E} (Ok outcome.Failed)) (sym spent) (record {
        step = (refl, lost);
        refused = tt;
        refused_failures = tt;
        put = (refl, failures);
        any_moment = moments;
        same_setup = setup;
      })

  -- there is no next epoch
  pub last_event : recover_prospect net home was ≡ Exhausted true → now ≡ was
      → words.failure_count (cell_in new) ≡ words.failure_count (cell_in old) → LeavesNext was.kept old new
      → LeavesDevice old new
      → IsPutEvent (recover_prospect net home was) round was now old new {E = E} (Ok (outcome.Refused Spent))
  last_event spent stays failures moments setup =
      subst (λ (p : Prospect). IsPutEvent p round was now old new {E = E} (Ok (outcome.Refused Spent))) (sym spent)
      (record {
        step = stays;
        refused = tt;
        refused_failures = tt;
        put = failures;
        any_moment = moments;
        same_setup = setup;
      })

  -- or memory is missing
  pub short_event : (e : E) → now ≡ was → words.failure_count (cell_in new) ≡ words.failure_count (cell_in old)
      → LeavesNext (next_record (recover_prospect net home was) was.kept) old new → LeavesDevice old new
      → IsPutEvent (recover_prospect net home was) round was now old new {E = E} (Err e)
  short_event e stays failures moments setup =
      record {
        step = tt;
        refused = stays;
        refused_failures = failures;
        put = tt;
        any_moment = moments;
        same_setup =
            setup;
      }

-- ---- where the record wasn't raised

by_fault : (P : StoreFault → Type 0) (fits : Bool) (kept : RecordView) → fits ≡ true → P fault.NoMemory
    → P fault.Device → (MAX_COUNT ≤ kept.epoch → P fault.Spent) → (e : StoreFault) → IsRaiseRefusal fits kept e → P e
by_fault P fits kept has memory device spent fault.NoMemory is = memory
by_fault P fits kept has memory device spent fault.Device is = device
by_fault P fits kept has memory device spent fault.TooLarge is = (let no : fits ≡ false = is.1 in absurd (cc))
by_fault P fits kept has memory device spent fault.Spent is = spent is
by_fault P fits kept has memory device spent fault.Reopen is = absurd is
by_fault P fits kept has memory device spent fault.Truncated is = absurd is
by_fault P fits kept has memory device spent fault.Version is = absurd is
by_fault P fits kept has memory device spent fault.Malformed is = absurd is
by_fault P fits kept has memory device spent fault.HoldsOther is = absurd is
by_fault P fits kept has memory device spent fault.PastNumber is = absurd is
by_fault P fits kept has memory device spent fault.NotHeld is = absurd is
by_fault P fits kept has memory device spent fault.Unsettled is = absurd is

module _ {C : Type 0} (words : CellWords C) (slots : SlotWords C)
    (includes_now : (cell : C) (t : ℕ) (left : Whole) → t ≤ words.moment cell → slots.may_leave_whole cell left
    → slots.left_since_whole cell t left)
    (may_stay : (cell : C) → slots.may_leave_whole cell (slots.whole cell))
    (ready_settled : (cell : C) → IsTrue (words.is_ready cell) → Only (slots.whole cell) (slots.may_leave_whole cell))
    (net : Network) (number round : ℕ) (old mid new : Store C slots words) (before after : NodeState)
    (has : HasRecord number (mode_view before.mode) old) (down : is_down (mode_view before.mode) ≡ true)
    (fits : fits_in (slots.slot_capacity (cell_in old)) (with_epoch (record_in old)) ≡ true) where
  abbrev was : NodeView
  was = node_view (record_in old) before

  abbrev now : NodeView
  now = node_view (record_in new) after

  -- what is known where this was the fault
  abbrev Known : StoreFault → Result Outcome AllocError → Type 0
  Known e answer =
      IsRaised net number old mid (Err e) → IsAnswer (put_outcome (Err e)) answer
      → (has_failed (Err e) ≡ false → (new ≡ mid) × (after ≡ before))
      → (IsTrue (has_failed (Err e))
      → IsCrashed mid new
      × ((kept : RecordView)
      → node_view kept after
      ≡ crashed (restart_after before.armed.items (words.failed_call (cell_in new)) round) (node_view kept before)))
      → HasRecord number (mode_view after.mode) new × IsPutEvent (recover_prospect net number was) round was now old new answer
      × OnErr answer (LeavesAsBefore old new)

  not_device : (e : StoreFault) → has_failed (Err e) ≡ false → ¬ (IsErrOf {T = Recovery} (Err e) fault.Device)
  not_device e other is =
      (let same : e ≡ fault.Device = cc in let both : has_failed (Err fault.Device) ≡ false =
      ap (λ (f : StoreFault). has_failed (Err f)) (sym same) ∙ other in cc)

  -- the node is as it was
  same_now : (e : StoreFault) → has_failed (Err e) ≡ false → IsRaised net number old mid (Err e) → (new ≡ mid) × (after ≡ before)
      → now ≡ was
  same_now e other raised stays =
      ap (λ (s : Store C slots words). node_view (record_in s) after) stays.0
      ∙ (ap (λ (r : RecordView). node_view r after) (raised.same_record (not_device e other))
      ∙ ap (node_view (record_in old)) stays.1)

  same_has : (e : StoreFault) → has_failed (Err e) ≡ false → IsRaised net number old mid (Err e) → (new ≡ mid) × (after ≡ before)
      → HasRecord number (mode_view after.mode) new
  same_has e other raised stays =
      let kept = raised.same_record (not_device e other) in
      subst (λ (s : Store C slots words). HasRecord number (mode_view after.mode) s) (sym stays.0)
      (subst (λ (s : NodeState). HasRecord number (mode_view s.mode) mid) (sym stays.1) (record {
        listed = subst (λ (r : RecordView). number < length r.highest) (sym kept) has.listed;
        named = ap (λ (r : RecordView). r.node) kept ∙ has.named;
        ready = λ up. absurd (cc);
        settled = raised.settled (not_device e other);
      }))

  same_count : (e : StoreFault) → has_failed (Err e) ≡ false → IsRaised net number old mid (Err e)
      → (new ≡ mid) × (after ≡ before) → words.failure_count (cell_in new) ≡ words.failure_count (cell_in old)
  same_count e other raised stays =
      ap (λ (s : Store C slots words). words.failure_count (cell_in s)) stays.0
      ∙ raised.failures.otherwise (not_device e other)

  same_device : (e : StoreFault) → IsRaised net number old mid (Err e) → new ≡ mid → LeavesDevice old new
  same_device e raised same = subst (λ (s : Store C slots words). LeavesDevice old s) (sym same) raised.same_setup

  nothing_then : (e : StoreFault) → has_failed (Err e) ≡ false → IsRaised net number old mid (Err e) → new ≡ mid
      → (next : RecordView) → LeavesNext next old new
  nothing_then e other raised same next =
      looked words slots includes_now may_stay ready_settled next old new
      (subst (λ (s : Store C slots words). LeavesAsBefore old s) (sym same) (raised.nothing_put (not_device e other)))

  no_memory : (answer : Result Outcome AllocError) → Known fault.NoMemory answer
  no_memory (Ok outcome) raised is stays failed = absurd is
  no_memory (Err e) raised is stays failed =
      let same = stays refl in (
        same_has fault.NoMemory refl raised same,
        short_event net number round was now old new refl e (same_now fault.NoMemory refl raised same)
            (same_count fault.NoMemory refl raised same)
            (nothing_then fault.NoMemory refl raised same.0 (next_record (recover_prospect net number was) was.kept))
            (same_device fault.NoMemory raised same.0),
        subst (λ (s : Store C slots words). LeavesAsBefore old s) (sym same.0)
            (raised.nothing_put (not_device fault.NoMemory refl)),
      )

  no_epoch : MAX_COUNT ≤ (record_in old).epoch → (answer : Result Outcome AllocError) → Known fault.Spent answer
  no_epoch more (Err e) raised is stays failed = absurd is
  no_epoch more (Ok came) raised is stays failed =
      let same = stays refl in (
        same_has fault.Spent refl raised same,
        subst (λ (o : Outcome). IsPutEvent (recover_prospect net number was) round was now old new {E = AllocError} (Ok o))
            (sym is)
            (last_event net number round was now old new refl (back_spent net number was down more) (same_now fault.Spent refl raised same)
            (same_count fault.Spent refl raised same) (nothing_then fault.Spent refl raised same.0 was.kept)
            (same_device fault.Spent raised same.0)),
        tt,
      )

  no_device : (answer : Result Outcome AllocError) → Known fault.Device answer
  no_device (Err e) raised is stays failed = absurd is
  no_device (Ok came) raised is stays failed = (
    failed_has words slots includes_now may_stay ready_settled number old mid new before after has raised.any_moment lost.0
        restart lost.1,
    subst (λ (o : Outcome). IsPutEvent (recover_prospect net number was) round was now old new {E = AllocError} (Ok o)) (sym is)
        (at (nat_lt (record_in old).epoch MAX_COUNT) refl),
    tt,
  )
    where
      lost : IsCrashed mid new
          × ((kept : RecordView)
          → node_view kept after
          ≡ crashed (restart_after before.armed.items (words.failed_call (cell_in new)) round) (node_view kept before))
      lost = failed refl

      restart : ℕ
      restart = restart_after before.armed.items (words.failed_call (cell_in new)) round

      count : words.failure_count (cell_in old) < words.failure_count (cell_in new)
      count = subst (λ (n : ℕ). words.failure_count (cell_in old) < n) (sym lost.0.failures)
          (raised.failures.device refl)

      setup : LeavesDevice old new
      setup = device_then words slots old mid new raised.same_setup lost.0.same_setup

      quiet : MAX_COUNT ≤ (record_in old).epoch → LeavesAsBefore old new
      quiet more =
          looked_on words slots includes_now may_stay ready_settled old mid new (raised.held_up more) lost.0.any_moment

      not_less : (n m : ℕ) → nat_lt n m ≡ false → m ≤ n
      not_less n m test = grind (arith, test)

      -- where there is no next epoch nothing was put, and the record is the old one
      at : (b : Bool) → nat_lt (record_in old).epoch MAX_COUNT ≡ b
          → IsPutEvent (recover_prospect net number was) round was now old new {E = AllocError} (Ok outcome.Failed)
      at true test =
          lost_event net number round was now old new refl (back_planned net number was down (ltb-true (record_in old).epoch MAX_COUNT test))
          (failed_now words slots includes_now may_stay ready_settled number old mid new before after has raised.any_moment
          lost.0 restart lost.1) fits count
          (failed_moments words slots includes_now may_stay ready_settled number old mid new before after has
          raised.any_moment lost.0 restart lost.1) setup
      at false test =
          let more = not_less (record_in old).epoch MAX_COUNT test in
          looked_event net number round was now old new refl (back_spent net number was down more)
          (ap (λ (r : RecordView). node_view r after) (kept_so more) ∙ lost.1 (record_in old)) count
          (looked words slots includes_now may_stay ready_settled was.kept old new (quiet more)) setup
        where
          kept_so : MAX_COUNT ≤ (record_in old).epoch → record_in new ≡ record_in old
          kept_so more =
              ⊎_elim (λ same. same) (λ same. same)
              (one_of_both words slots includes_now may_stay ready_settled (record_in old) old new has.settled
              (looked words slots includes_now may_stay ready_settled (record_in old) old new (quiet more)))

  pub not_raised : (e : StoreFault) (answer : Result Outcome AllocError) → Known e answer
  not_raised e answer raised =
      by_fault (λ f. Known f answer) (fits_in (slots.slot_capacity (cell_in old)) (with_epoch (record_in old)))
      (record_in old) fits (no_memory answer) (no_device answer) (λ more. no_epoch more answer) e raised.refused
      raised
