-- Records that were written on disks.
use Rattle.std.proofs.Common.{◌≡◌, ℕ, suc, ◌+◌, ◌<◌, ℤ, List, [], ◌∷◌, ◌++◌, length, Option, Some, None, refl, sym, ap}
use Rattle.std.proofs.Common.{subst, ◌∙◌, append_assoc, append-nil, length-append, arith}
use Rattle.std.specs.Prelude.{is_some, IsSome, IsTrue}
use Rattle.std.proofs.Math.Logic.{∥∥₁_elim}
use Rattle.std.proofs.Props.{props}
use Rattle.ckpt_codec.specs.SizeLaws.{IsRecordWithin}
use Rattle.ckpt_store.specs.Spelling.{kept_in}
use Rattle.ckpt_store.specs.StoreView.{record_spelled}
use Rattle.ckpt_store.specs.declared.known.Known.{Known}
use Rattle.gate_cell.specs.declared.cell.StableCell.{Ghosts as CellWords}
use Rattle.protocol.specs.Node.Common.{cell_in, Fits, IsRecord, IsValid, MAX_RETAINED_ITEMS, Network, node_count, Only}
use Rattle.protocol.specs.Node.Common.{RecordView, Spells, Store, Whole}
use Rattle.rerun.proofs.Meant.{places}
use Rattle.rerun.specs.Tables.{TableView, HasRerun, IsInOrder}
use Rattle.resuming.proofs.Standing.{may_be_written, within}
use Rattle.resuming.specs.Disks.{IsWritten}
use Rattle.resuming.specs.Images.{image_of, KeepsShares, record_of}
use Rattle.sector_disk.specs.declared.disk.Disk.{Ghosts as DiskWords}
use Rattle.slot_cell.specs.SplitStands.{only_whole}
use Rattle.slot_cell.specs.SplitCell.{disk_in, may_leave_whole_of, slot_capacity_of, whole_of}
use Rattle.slot_cell.specs.declared.slot_cell.SlotCell.{Ghosts as SlotWords}
use Rattle.slot_cell.specs.declared.split.SplitCell.{SplitCell}
use Rattle.world.specs.OpeningWorld.{AllNumbered, IsOpenedStore}

is_known : (o : Option Known) → IsSome (kept_in o) → IsTrue (is_some o)
is_known None some = absurd (cc)
is_known (Some known) some = refl

module _ {D : Type 0} {disk : DiskWords D} {cell : CellWords (SplitCell D disk)} {slots : SlotWords (SplitCell D disk)}
    (wholes : (c : SplitCell D disk) → slots.whole c ≡ whole_of c)
    (readies : (c : SplitCell D disk) → cell.is_ready c ≡ c.ready)
    (rooms : (c : SplitCell D disk) → slots.slot_capacity c ≡ slot_capacity_of c)
    (failures : (c : SplitCell D disk) → cell.failure_count c ≡ disk.failure_count (disk_in c))
    (faults : (c : SplitCell D disk) → cell.armed c ≡ disk.armed (disk_in c)) where
  pub written : (kept : RecordView) (version : ℕ) (given back : D) (store : Store (SplitCell D disk) slots cell)
      → IsOpenedStore kept version given store → back ≡ disk_in (cell_in store)
      → IsWritten disk.sector_count disk.content disk.may_leave disk.armed disk.failure_count kept given back
  written kept version given back store opened is = subst
      (IsWritten disk.sector_count disk.content disk.may_leave disk.armed disk.failure_count kept given) (sym is)
      (record {
        held = record {
          long = one.sectors;
          alone = λ left might. ∣ subst (λ (r : RecordView). Spells r left) (sym shown) (spells left (settled left might)) ∣₁;
        };
        shows = shown;
        room = sym (rooms one) ∙ opened.room;
        same_failures = sym (failures one) ∙ opened.failures;
        same_faults = sym (faults one) ∙ opened.armed;
        fits = opened.fits;
      })
    where
      one : SplitCell D disk
      one = cell_in store

      ready : IsTrue one.ready
      ready = subst IsTrue (readies one) (store.kept.ready (is_known store.known opened.known))

      settled : Only (whole_of one) (may_leave_whole_of one)
      settled =
          only_whole (disk.sector_count (disk_in one)) (disk.content (disk_in one)) (disk.may_leave (disk_in one))
          (one.settled ready).durable

      shown : record_spelled (whole_of one) ≡ kept
      shown = ap record_spelled (sym (wholes one)) ∙ opened.shows

      spells : (left : Whole) → left ≡ whole_of one → Spells kept left
      spells left same = subst (Spells kept) (wholes one ∙ sym same) opened.holds

-- ---- the record of each node

module _ (net : Network) (inputs : List (List ℤ)) (t : TableView) (valid : IsValid net) (fits : Fits net inputs)
    (ordered : IsInOrder net inputs t) (rerun : ∥ HasRerun net inputs t ∥₁) (home : ℕ)
    (shares : KeepsShares (image_of net t home)) where
  pub writable : home < node_count net → IsRecord (record_of net t home)
  writable below =
      ∥∥₁_elim rerun (hlevel props)
      (λ ran. may_be_written net inputs t valid fits ordered (places net inputs t valid fits ran) home shares below)

  pub bounded : IsRecordWithin MAX_RETAINED_ITEMS (record_of net t home)
  bounded =
      ∥∥₁_elim rerun (hlevel props)
      (λ ran. within net inputs t valid ordered (places net inputs t valid fits ran) home shares)

-- ---- lists

module _ {A B : Type 0} (P : ℕ → A → B → Type 0) where
  pub as_many_each : (number : ℕ) (xs : List A) (ys : List B) → AllNumbered P number xs ys → length xs ≡ length ys
  as_many_each number [] [] all = refl
  as_many_each number [] (y ∷ ys) all = absurd all
  as_many_each number (x ∷ xs) [] all = absurd all
  as_many_each number (x ∷ xs) (y ∷ ys) all = ap suc (as_many_each (suc number) xs ys all.1)

  one_behind : (number : ℕ) (xs : List A) (ys : List B) (x : A) (y : B) → AllNumbered P number xs ys
      → P (number + length ys) x y → AllNumbered P number (xs ++ x ∷ []) (ys ++ y ∷ [])
  one_behind number [] [] x y all last =
      let sum : number + 0 ≡ number = omega arith in (subst (λ (n : ℕ). P n x y) sum last, tt)
  one_behind number [] (z ∷ ys) x y all last = absurd all
  one_behind number (z ∷ xs) [] x y all last = absurd all
  one_behind number (z ∷ xs) (w ∷ ys) x y all last =
      let sum : number + suc (length ys) ≡ suc number + length ys = omega arith in
      (all.0, one_behind (suc number) xs ys x y all.1 (subst (λ (n : ℕ). P n x y) sum last))

  -- one more of those that are to come is done
  pub one_more : (all done more : List A) (x : A) (coming : List A) (ys now : List B) (y : B)
      → coming ≡ x ∷ more → now ≡ ys ++ y ∷ [] → P (length ys) x y
      → (done ++ coming ≡ all) → AllNumbered P 0 done ys
      → (then : List A) × (then ++ more ≡ all) × AllNumbered P 0 then now
  one_more all done more x coming ys now y comes is here split each =
      let number : 0 + length ys ≡ length ys = omega arith in (
        done ++ x ∷ [],
        append_assoc done (x ∷ []) more ∙ (ap (λ (rest : List A). done ++ rest) (sym comes) ∙ split),
        subst (AllNumbered P 0 (done ++ x ∷ [])) (sym is)
            (one_behind 0 done ys x y each (subst (λ (n : ℕ). P n x y) (sym number) here)),
      )

  pub none_more : (all done coming : List A) (ys : List B) → length coming ≡ 0 → (done ++ coming ≡ all)
      → AllNumbered P 0 done ys → AllNumbered P 0 all ys
  none_more all done [] ys none split each =
      subst (λ (xs : List A). AllNumbered P 0 xs ys) (sym (append-nil done) ∙ split) each
  none_more all done (x ∷ coming) ys none split each = absurd (omega (arith, none))

-- so many are done, of all
pub below_all : {A : Type 0} (all done coming more : List A) (x : A) (count : ℕ) → length done ≡ count
    → coming ≡ x ∷ more → (done ++ coming ≡ all) → count < length all
below_all all done coming more x count long comes split =
    let whole = ap length split in
    let sum = length-append done coming in
    let rest = ap length comes in
    omega (arith, long, whole, sum, rest)
