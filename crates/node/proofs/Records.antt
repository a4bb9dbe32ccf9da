-- From what a store's calls say to the record that a node has.
use Rattle.std.proofs.Common.{◌≡◌, ◌⊎◌, inl, inr, ⊎_elim, ℕ, ◌≤◌, Option, Some, None, Result, Ok, Err, refl, sym}
use Rattle.std.proofs.Common.{◌∙◌, ap, subst}
use Rattle.std.specs.Prelude.{IsTrue, IsErrOf, OnOk, OnErr, IfErr, IsSome, option_map}
use Rattle.std.specs.Option.{ForSome}
use Rattle.protocol.specs.Node.Common.{Only, Whole, RecordView, Spells, fits_in, cell_in, known_in, record_in}
use Rattle.protocol.specs.Node.Common.{Changes, Store, StoreFault}
use Rattle.sector_disk.proofs.Moments.{joined, weakened}
use Rattle.gate_cell.specs.declared.cell.StableCell.{Ghosts as CellWords}
use Rattle.slot_cell.specs.declared.slot_cell.SlotCell.{Ghosts as SlotWords}
use Rattle.ckpt_store.specs.Spelling.{SpellsAny, fits_next, IsLengthTold}
use Rattle.ckpt_store.specs.Refusals.{first_refusal, ComesFirst}
use Rattle.ckpt_store.specs.StoreFault.{IsOfPut}
use Rattle.ckpt_store.specs.StoreView.{record_spelled, Holds}
use Rattle.ckpt_store.specs.declared.fault.StoreFault.TheVariants as fault
use Rattle.ckpt_store.proofs.Seen.{spelled_is, known_is, ready_known}
use Rattle.gate_cell.specs.Setup.{setup_then}
use Rattle.node.specs.StoredView.{LeavesNext, MayLeaveNext, LeavesAsBefore, LeavesDevice}

module _ {C : Type 0} (words : CellWords C) (slots : SlotWords C) where
  -- a record that is known is the one that is shown
  pub some_known : (store : Store C slots words) → IsSome (known_in store) → known_in store ≡ Some (record_in store)
  some_known store some = at (known_in store) refl some
    where
      at : (o : Option RecordView) → known_in store ≡ o → IsSome o → known_in store ≡ Some (record_in store)
      at None is none = absurd (cc)
      at (Some kept) is there = is ∙ ap (λ (r : RecordView). Some r) (sym (known_is words slots store kept is))

  -- a store that crashes keeps the record that it knows
  pub crash_keeps : (old new : Store C slots words) → IsSome (known_in old) → ForSome (known_in old) (λ kept. Holds new kept)
      → record_in new ≡ record_in old
  crash_keeps old new some same =
      spelled_is (record_in old) (slots.whole (cell_in new)) (same (record_in old) (some_known old some))

  -- one call behind another
  pub device_then : (old mid new : Store C slots words) → LeavesDevice old mid → LeavesDevice mid new
      → LeavesDevice old new
  device_then old mid new first second = record {
    setup = setup_then words.capacity words.armed words.call_count (cell_in old) (cell_in mid) (cell_in new) first.setup
        second.setup;
    same_slot_room = second.same_slot_room ∙ first.same_slot_room;
  }

  module _ (includes_now : (cell : C) (t : ℕ) (left : Whole) → t ≤ words.moment cell
      → slots.may_leave_whole cell left → slots.left_since_whole cell t left)
      (may_stay : (cell : C) → slots.may_leave_whole cell (slots.whole cell))
      (ready_settled : (cell : C) → IsTrue (words.is_ready cell)
      → Only (slots.whole cell) (slots.may_leave_whole cell)) where
    -- a ready store leaves its record alone
    pub settled_ready : (store : Store C slots words) → IsSome (known_in store)
        → Only (slots.whole (cell_in store)) (slots.may_leave_whole (cell_in store))
    settled_ready store some =
        ready_settled (cell_in store) (ready_known words slots store (record_in store) (some_known store some))

    -- whatever a crash left meanwhile, the record is the old one or the next
    pub one_of_both : (next : RecordView) (old new : Store C slots words)
        → Only (slots.whole (cell_in old)) (slots.may_leave_whole (cell_in old)) → LeavesNext next old new
        → (record_in new ≡ record_in old) ⊎ (record_in new ≡ next)
    one_of_both next old new only run =
        ⊎_elim (λ was. inl (ap record_spelled (only (slots.whole (cell_in new)) was)))
        (λ one. ⊎_elim (λ is. inl (spelled_is (record_in old) (slots.whole (cell_in new)) is))
        (λ is. inr (spelled_is next (slots.whole (cell_in new)) is)) one)
        (run.each (slots.whole (cell_in new))
        (includes_now (cell_in new) (words.moment (cell_in old)) (slots.whole (cell_in new)) run.later
        (may_stay (cell_in new))))

    -- a crash behind it adds nothing
    pub then_crashed : (next : RecordView) (old mid new : Store C slots words) → LeavesNext next old mid
        → LeavesAsBefore mid new → LeavesNext next old new
    then_crashed next old mid new run crash =
        joined words.moment slots.left_since_whole (cell_in old) (cell_in mid) (cell_in new)
        (MayLeaveNext next old) (slots.may_leave_whole (cell_in mid)) run crash
        (λ left might. run.each left (includes_now (cell_in mid) (words.moment (cell_in old)) left run.later might))

    -- after a look at what the cell holds
    pub still_settled : (old new : Store C slots words)
        → Only (slots.whole (cell_in old)) (slots.may_leave_whole (cell_in old)) → LeavesAsBefore old new
        → slots.whole (cell_in new) ≡ slots.whole (cell_in old)
        → Only (slots.whole (cell_in new)) (slots.may_leave_whole (cell_in new))
    still_settled old new only run same left might =
        only left (run.each left (includes_now (cell_in new) (words.moment (cell_in old)) left run.later might)) ∙ sym same

    pub looked : (next : RecordView) (old mid : Store C slots words) → LeavesAsBefore old mid → LeavesNext next old mid
    looked next old mid look =
        weakened words.moment slots.left_since_whole (cell_in old) (cell_in mid)
        (MayLeaveNext next old) (slots.may_leave_whole (cell_in old)) look
        (λ left was. inl was)

    pub looked_on : (old mid new : Store C slots words) → LeavesAsBefore old mid → LeavesAsBefore mid new
        → LeavesAsBefore old new
    looked_on old mid new look run =
        joined words.moment slots.left_since_whole (cell_in old) (cell_in mid) (cell_in new) (slots.may_leave_whole (cell_in old))
        (slots.may_leave_whole (cell_in mid)) look run
        (λ left might. look.each left (includes_now (cell_in mid) (words.moment (cell_in old)) left look.later might))

    pub looked_then : (next : RecordView) (old mid new : Store C slots words) → record_in mid ≡ record_in old
        → LeavesAsBefore old mid → LeavesNext next mid new → LeavesNext next old new
    looked_then next old mid new same look run =
        joined words.moment slots.left_since_whole (cell_in old) (cell_in mid) (cell_in new)
        (MayLeaveNext next old) (MayLeaveNext next mid) (looked next old mid look) run
        (λ left. ⊎_elim
        (λ was. inl (look.each left (includes_now (cell_in mid) (words.moment (cell_in old)) left look.later was)))
        (λ one. inr (⊎_elim (λ is. inl (subst (λ (r : RecordView). Spells r left) same is)) (λ is. inr is) one)))

    module _ (cause : RecordView → Option StoreFault) (change : RecordView → RecordView) (old mid : Store C slots words)
        (put : Result (Unit {0}) StoreFault) (some : IsSome (known_in old)) (fine : cause (record_in old) ≡ None)
        (changes : Changes cause change old mid put) where
      known : known_in old ≡ Some (record_in old)
      known = some_known old some

      after : option_map change (known_in old) ≡ Some (change (record_in old))
      after = ap (option_map change) known

      pub change_refusals : IfErr put IsOfPut
      change_refusals =
          subst (λ (o : Option StoreFault). ComesFirst o put) (ap (first_refusal cause) known ∙ fine) changes.refusals

      pub change_moments : LeavesNext (change (record_in old)) old mid
      change_moments =
          weakened words.moment slots.left_since_whole (cell_in old) (cell_in mid)
          (MayLeaveNext (change (record_in old)) old)
          (λ left. slots.may_leave_whole (cell_in old) left
          ⊎ (SpellsAny (known_in old) left ⊎ SpellsAny (option_map change (known_in old)) left))
          changes.any_moment
          (λ left. ⊎_elim (λ was. inl was)
          (λ one. inr (⊎_elim (λ is. inl (subst (λ (o : Option RecordView). SpellsAny o left) known is))
          (λ is. inr (subst (λ (o : Option RecordView). SpellsAny o left) after is)) one)))

      pub change_fits : IsLengthTold (fits_in (slots.slot_capacity (cell_in old)) (change (record_in old))) put
      change_fits =
          subst (λ (o : Option RecordView). IsLengthTold (fits_next (slots.slot_capacity (cell_in old)) o) put) after
          changes.fits

      -- after a put that succeeded
      pub change_done : OnOk put ((record_in mid ≡ change (record_in old)) × IsSome (known_in mid))
      change_done = at put changes.changed
        where
          at : (put : Result (Unit {0}) StoreFault) → OnOk put (known_in mid ≡ option_map change (known_in old))
              → OnOk put ((record_in mid ≡ change (record_in old)) × IsSome (known_in mid))
          at (Ok x) is = (
            known_is words slots mid (change (record_in old)) (is ∙ after),
            subst (λ (o : Option RecordView). IsSome o)
                (sym (is ∙ after)) refl,
          )
          at (Err e) is = tt

      -- and after one that was refused, where the device didn't fail
      pub change_refused : OnErr put
          (¬ (IsErrOf put fault.Device)
          → (record_in mid ≡ record_in old) × IsSome (known_in mid) × (cell_in mid ≡ cell_in old))
      change_refused = at put changes.same_record changes.same_cell
        where
          at : (put : Result (Unit {0}) StoreFault)
              → OnErr put (¬ (IsErrOf put fault.Device) → known_in mid ≡ known_in old)
              → OnErr put (¬ (IsErrOf put fault.Device) → cell_in mid ≡ cell_in old)
              → OnErr put
              (¬ (IsErrOf put fault.Device)
              → (record_in mid ≡ record_in old) × IsSome (known_in mid) × (cell_in mid ≡ cell_in old))
          at (Ok x) same_known same = tt
          at (Err e) same_known same = λ other. (
            ap (λ (c : C). record_spelled (slots.whole c)) (same other),
            subst (λ (o : Option RecordView). IsSome o) (sym (same_known other)) some,
            same other,
          )
