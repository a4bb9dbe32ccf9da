-- A store that is reopened and put into its next epoch.
use Rattle.std.proofs.Common.{◌≡◌, ℕ, ◌<◌, ◌≤◌, Bool, true, false, Option, Some, None, Result, Ok, Err, refl, sym}
use Rattle.std.proofs.Common.{inl, ◌∙◌, ap, subst, arith}
use Rattle.std.specs.Prelude.{IsTrue, IsErrOf, OnOk, OnErr, IfOk, IfErr, IsSome, nat_lt, cond}
use Rattle.std.proofs.lemmas.Bool.{ltb-true}
use Rattle.protocol.specs.Node.Common.{Only, Whole, Network, restored_mode, RecordView, with_epoch, MAX_COUNT}
use Rattle.protocol.specs.Node.Common.{fits_in, cell_in, known_in, record_in, Changes, Store, StoreFault}
use Rattle.sector_disk.specs.Clock.{LeavesOnly}
use Rattle.gate_cell.specs.declared.cell.StableCell.{Ghosts as CellWords}
use Rattle.slot_cell.specs.declared.slot_cell.SlotCell.{Ghosts as SlotWords}
use Rattle.rollback_core.specs.RestoredView.{recovery_mode}
use Rattle.rollback_core.specs.declared.restoring.Recovery.{Recovery}
use Rattle.ckpt_store.specs.Spelling.{IsLengthTold}
use Rattle.ckpt_store.specs.Loading.{IsOfReopening}
use Rattle.ckpt_store.specs.Refusals.{refusal_to_raise, first_refusal, ComesFirst}
use Rattle.ckpt_store.specs.StoreFault.{HasFailures, IsOfPut}
use Rattle.ckpt_store.specs.StoreView.{record_spelled, Reopens}
use Rattle.ckpt_store.specs.declared.fault.StoreFault.TheVariants as fault
use Rattle.node.specs.StoredView.{LeavesAsBefore, LeavesNext, IsRaised, IsRaiseRefusal}
use Rattle.node.proofs.Records.{device_then, some_known, still_settled, looked, looked_on, looked_then, settled_ready}
use Rattle.node.proofs.Records.{change_refusals, change_moments, change_fits, change_done}

of_reopening : (fits : Bool) (kept : RecordView) (e : StoreFault) → IsOfReopening e → IsRaiseRefusal fits kept e
of_reopening fits kept fault.NoMemory is = tt
of_reopening fits kept fault.Device is = tt
of_reopening fits kept fault.TooLarge is = absurd is
of_reopening fits kept fault.Reopen is = absurd is
of_reopening fits kept fault.Truncated is = absurd is
of_reopening fits kept fault.Version is = absurd is
of_reopening fits kept fault.Malformed is = absurd is
of_reopening fits kept fault.HoldsOther is = absurd is
of_reopening fits kept fault.PastNumber is = absurd is
of_reopening fits kept fault.NotHeld is = absurd is
of_reopening fits kept fault.Unsettled is = absurd is
of_reopening fits kept fault.Spent is = absurd is

module _ {C : Type 0} (words : CellWords C) (slots : SlotWords C) (net : Network) (home : ℕ)
    (includes_now : (cell : C) (t : ℕ) (left : Whole) → t ≤ words.moment cell → slots.may_leave_whole cell left
    → slots.left_since_whole cell t left)
    (may_stay : (cell : C) → slots.may_leave_whole cell (slots.whole cell))
    (ready_settled : (cell : C) → IsTrue (words.is_ready cell) → Only (slots.whole cell) (slots.may_leave_whole cell))
    (old : Store C slots words) (settled : Only (slots.whole (cell_in old)) (slots.may_leave_whole (cell_in old))) where
  on_err : {P Q : Type 0} (result : Result Recovery StoreFault) → OnErr result P → (P → Q) → OnErr result Q
  on_err (Ok x) is so = tt
  on_err (Err e) is so = so is

  -- it couldn't be reopened
  pub not_reopened : (mid : Store C slots words) (e : StoreFault) → Reopens old mid {T = Unit {0}} (Err e)
      → IsRaised net home old mid (Err e)
  not_reopened mid e load = record {
    recovery = tt;
    raised = tt;
    refused =
        of_reopening (fits_in (slots.slot_capacity (cell_in old)) (with_epoch (record_in old))) (record_in old) e
        load.refusals;
    same_record = λ other. ap record_spelled load.same_whole;
    failures =
        record {
          device = λ is. load.failures.device (device_too e is);
          otherwise =
              λ other. load.failures.otherwise (λ is. other (device_so e is));
        };
    settled =
        λ other. still_settled words slots includes_now may_stay ready_settled old mid settled load.any_moment
        load.same_whole;
    any_moment = looked words slots includes_now may_stay ready_settled (with_epoch (record_in old)) old mid load.any_moment;
    nothing_put = λ other. load.any_moment;
    held_up = λ more. load.any_moment;
    same_setup = record { setup = load.same_setup; same_slot_room = load.same_slot_room };
  }
    where
      device_too : (e : StoreFault) → IsErrOf {T = Recovery} (Err e) fault.Device
          → IsErrOf {T = Unit {0}} (Err e) fault.Device
      device_too e is = let same : e ≡ fault.Device = cc in ap Err same

      device_so : (e : StoreFault) → IsErrOf {T = Unit {0}} (Err e) fault.Device
          → IsErrOf {T = Recovery} (Err e) fault.Device
      device_so e is = let same : e ≡ fault.Device = cc in ap Err same

  -- or was, and is the same as before
  pub reopened_then : (mid new : Store C slots words) (result : Result Recovery StoreFault)
      → Reopens old mid {T = Unit {0}} (Ok tt) → IsRaised net home mid new result → IsRaised net home old new result
  reopened_then mid new result load raised =
      let same : record_in mid ≡ record_in old = ap record_spelled load.same_whole in
      let before : words.failure_count (cell_in mid) ≡ words.failure_count (cell_in old) =
      load.failures.otherwise (λ is. cc) in
      record {
        recovery = subst (λ (r : RecordView). IfOk result
            (λ recovery. recovery_mode recovery ≡ restored_mode net home (with_epoch r))) same raised.recovery;
        raised =
            subst (λ (r : RecordView). OnOk result
            ((record_in new ≡ with_epoch r) × IsSome (known_in new) × (r.epoch < MAX_COUNT)
            × IsTrue (fits_in (slots.slot_capacity (cell_in old)) (with_epoch r)))) same
            (subst (λ (n : ℕ). OnOk result
            ((record_in new ≡ with_epoch (record_in mid)) × IsSome (known_in new)
            × ((record_in mid).epoch < MAX_COUNT) × IsTrue (fits_in n (with_epoch (record_in mid)))))
            load.same_slot_room raised.raised);
        refused =
            subst (λ (r : RecordView). IfErr result
            (IsRaiseRefusal (fits_in (slots.slot_capacity (cell_in old)) (with_epoch r)) r)) same
            (subst (λ (n : ℕ). IfErr result (IsRaiseRefusal (fits_in n (with_epoch (record_in mid))) (record_in mid)))
            load.same_slot_room raised.refused);
        same_record =
            subst (λ (r : RecordView). OnErr result (¬ (IsErrOf result fault.Device) → record_in new ≡ r)) same
            raised.same_record;
        failures = subst (λ (n : ℕ). HasFailures n (words.failure_count (cell_in new)) result) before raised.failures;
        settled = raised.settled;
        any_moment =
            subst (λ (r : RecordView). LeavesNext (with_epoch r) old new) same
            (looked_then words slots includes_now may_stay ready_settled (with_epoch (record_in mid)) old mid new
            same load.any_moment raised.any_moment);
        nothing_put =
            on_err result raised.nothing_put
            (λ quiet other. looked_on words slots includes_now may_stay ready_settled old mid new load.any_moment
            (quiet other));
        held_up =
            on_err result raised.held_up
            (λ quiet more. looked_on words slots includes_now may_stay ready_settled old mid new load.any_moment
            (quiet (subst (λ (r : RecordView). MAX_COUNT ≤ r.epoch) (sym same) more)));
        same_setup =
            device_then words slots old mid new
            (record { setup = load.same_setup; same_slot_room = load.same_slot_room }) raised.same_setup;
      }

module _ {C : Type 0} (words : CellWords C) (slots : SlotWords C) (net : Network) (home : ℕ)
    (includes_now : (cell : C) (t : ℕ) (left : Whole) → t ≤ words.moment cell → slots.may_leave_whole cell left
    → slots.left_since_whole cell t left)
    (may_stay : (cell : C) → slots.may_leave_whole cell (slots.whole cell))
    (ready_settled : (cell : C) → IsTrue (words.is_ready cell) → Only (slots.whole cell) (slots.may_leave_whole cell))
    (old : Store C slots words) (settled : Only (slots.whole (cell_in old)) (slots.may_leave_whole (cell_in old)))
    (some : IsSome (known_in old)) where
  raised_so : (new : Store C slots words) (recovery : Recovery)
      → recovery_mode recovery ≡ restored_mode net home (with_epoch (record_in old))
      → (changes : Changes refusal_to_raise with_epoch old new {T = Unit {0}} (Ok tt))
      → (record_in old).epoch < MAX_COUNT → refusal_to_raise (record_in old) ≡ None
      → IsRaised net home old new (Ok recovery)
  raised_so new recovery is changes less fine =
      let done =
      change_done words slots includes_now may_stay ready_settled refusal_to_raise with_epoch old new (Ok tt) some fine
      changes in
      record {
        recovery = is;
        raised = (
          done.0,
          done.1,
          less,
          change_fits words slots includes_now may_stay ready_settled refusal_to_raise with_epoch
              old new (Ok tt) some fine changes,
        );
        refused = tt;
        same_record = tt;
        failures = record { device = λ e. cc; otherwise = λ other. changes.failures.otherwise (λ e. cc) };
        settled = λ other. settled_ready words slots includes_now may_stay ready_settled new done.1;
        any_moment =
            change_moments words slots includes_now may_stay ready_settled refusal_to_raise with_epoch old new (Ok tt) some
            fine changes;
        nothing_put = tt;
        held_up = tt;
        same_setup = record { setup = changes.same_setup; same_slot_room = changes.same_slot_room };
      }

  -- the epoch was raised
  pub raised : (new : Store C slots words) (recovery : Recovery)
      → recovery_mode recovery ≡ restored_mode net home (with_epoch (record_in old))
      → Changes refusal_to_raise with_epoch old new {T = Unit {0}} (Ok tt) → IsRaised net home old new (Ok recovery)
  raised new recovery is changes = at (nat_lt (record_in old).epoch MAX_COUNT) refl
    where
      spent : nat_lt (record_in old).epoch MAX_COUNT ≡ false → ComesFirst {T = Unit {0}} (Some fault.Spent) (Ok tt)
      spent test =
          subst (λ (o : Option StoreFault). ComesFirst {T = Unit {0}} o (Ok tt))
          (ap (first_refusal refusal_to_raise) (some_known words slots old some)
          ∙ ap (λ (b : Bool). cond b None (Some fault.Spent)) test) changes.refusals

      at : (b : Bool) → nat_lt (record_in old).epoch MAX_COUNT ≡ b → IsRaised net home old new (Ok recovery)
      at true test =
          raised_so new recovery is changes (ltb-true (record_in old).epoch MAX_COUNT test)
          (ap (λ (b : Bool). cond b None (Some fault.Spent)) test)
      at false test = let no : ComesFirst {T = Unit {0}} (Some fault.Spent) (Ok tt) = spent test in absurd (cc)

  -- or it wasn't: nothing was put but where the device failed
  module _ (only_now : (cell : C) (left : Whole) → slots.left_since_whole cell (words.moment cell) left
      → slots.may_leave_whole cell left) (new : Store C slots words) (e : StoreFault)
      (changes : Changes refusal_to_raise with_epoch old new {T = Unit {0}} (Err e)) where
    still : cell_in new ≡ cell_in old → LeavesAsBefore old new
    still same =
        subst (λ (c : C). LeavesOnly words.moment slots.left_since_whole (cell_in old) c (slots.may_leave_whole (cell_in old)))
        (sym same)
        (record {
          later = omega arith;
          each = λ left was. only_now (cell_in old) left was;
          before =
              λ t left le was. inl was;
          keeps = λ t left le had. had;
        })

    device_so : IsErrOf {T = Unit {0}} (Err e) fault.Device → IsErrOf {T = Recovery} (Err e) fault.Device
    device_so is = let same : e ≡ fault.Device = cc in ap Err same

    device_too : IsErrOf {T = Recovery} (Err e) fault.Device → IsErrOf {T = Unit {0}} (Err e) fault.Device
    device_too is = let same : e ≡ fault.Device = cc in ap Err same

    of_put : (fits : Bool) (f : StoreFault) → (record_in old).epoch < MAX_COUNT → IsOfPut f
        → IsLengthTold {T = Unit {0}} fits (Err f) → IsRaiseRefusal fits (record_in old) f
    of_put fits fault.NoMemory less is long = tt
    of_put fits fault.Device less is long = tt
    of_put fits fault.TooLarge less is long = (less, long)
    of_put fits fault.Reopen less is long = absurd is
    of_put fits fault.Truncated less is long = absurd is
    of_put fits fault.Version less is long = absurd is
    of_put fits fault.Malformed less is long = absurd is
    of_put fits fault.HoldsOther less is long = absurd is
    of_put fits fault.PastNumber less is long = absurd is
    of_put fits fault.NotHeld less is long = absurd is
    of_put fits fault.Unsettled less is long = absurd is
    of_put fits fault.Spent less is long = absurd is

    -- there is no next epoch
    spent_is : nat_lt (record_in old).epoch MAX_COUNT ≡ false → e ≡ fault.Spent
    spent_is test =
        let first : ComesFirst {T = Unit {0}} (Some fault.Spent) (Err e) =
        subst (λ (o : Option StoreFault). ComesFirst {T = Unit {0}} o (Err e))
        (ap (first_refusal refusal_to_raise) (some_known words slots old some)
        ∙ ap (λ (b : Bool). cond b None (Some fault.Spent)) test) changes.refusals in
        cc

    by_test : {P : Type 0} → (nat_lt (record_in old).epoch MAX_COUNT ≡ true → P)
        → (nat_lt (record_in old).epoch MAX_COUNT ≡ false → P) → P
    by_test {P} t f = at (nat_lt (record_in old).epoch MAX_COUNT) t f
      where
        at : (b : Bool) → (b ≡ true → P) → (b ≡ false → P) → P
        at true t f = t refl
        at false t f = f refl

    fine : nat_lt (record_in old).epoch MAX_COUNT ≡ true → refusal_to_raise (record_in old) ≡ None
    fine test = ap (λ (b : Bool). cond b None (Some fault.Spent)) test

    not_spent : MAX_COUNT ≤ (record_in old).epoch → nat_lt (record_in old).epoch MAX_COUNT ≡ true → ⊥
    not_spent more test =
        (let less : (record_in old).epoch < MAX_COUNT = ltb-true (record_in old).epoch MAX_COUNT test in
        absurd (omega (arith, more, less)))

    held : nat_lt (record_in old).epoch MAX_COUNT ≡ false → LeavesAsBefore old new
    held test = still (changes.same_cell (λ is. (let same = spent_is test in cc)))

    pub refused_so : IsRaised net home old new (Err e)
    refused_so = record {
      recovery = tt;
      raised = tt;
      refused =
          by_test (λ test. of_put (fits_in (slots.slot_capacity (cell_in old)) (with_epoch (record_in old))) e
          (ltb-true (record_in old).epoch MAX_COUNT test)
          (change_refusals words slots includes_now may_stay ready_settled refusal_to_raise with_epoch old new (Err e) some
          (fine test) changes)
          (change_fits words slots includes_now may_stay ready_settled refusal_to_raise with_epoch old new (Err e) some
          (fine test) changes))
          (λ test. subst
          (IsRaiseRefusal (fits_in (slots.slot_capacity (cell_in old)) (with_epoch (record_in old))) (record_in old))
          (sym (spent_is test)) (not_less (record_in old).epoch MAX_COUNT test));
      same_record =
          λ other. ap (λ (c : C). record_spelled (slots.whole c)) (changes.same_cell (λ is. other (device_so is)));
      failures =
          record {
            device = λ is. changes.failures.device (device_too is);
            otherwise =
                λ other. changes.failures.otherwise (λ is. other (device_so is));
          };
      settled =
          λ other. subst (λ (c : C). Only (slots.whole c) (slots.may_leave_whole c))
          (sym (changes.same_cell (λ is. other (device_so is)))) settled;
      any_moment =
          by_test (λ test. change_moments words slots includes_now may_stay ready_settled refusal_to_raise with_epoch old new
          (Err e) some (fine test) changes)
          (λ test. looked words slots includes_now may_stay ready_settled (with_epoch (record_in old)) old new (held test));
      nothing_put = λ other. still (changes.same_cell (λ is. other (device_so is)));
      held_up = λ more. by_test (λ test. absurd (not_spent more test)) held;
      same_setup = record { setup = changes.same_setup; same_slot_room = changes.same_slot_room };
    }
      where
        not_less : (n m : ℕ) → nat_lt n m ≡ false → m ≤ n
        not_less n m test = grind (arith, test)
