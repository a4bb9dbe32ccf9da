-- A world that begins with what was written, and why none does.
use Rattle.std.proofs.Common.{◌≡◌, inl, inr, ℕ, zero, suc, ◌+◌, ◌<◌, ℤ, List, [], ◌∷◌, ◌++◌, length, map, Some, refl, sym, ap}
use Rattle.std.proofs.Common.{subst, ◌∙◌, arith}
use Rattle.std.specs.List.{AllByRecursion}
use Rattle.std.specs.Prelude.{slice_get}
use Rattle.ckpt_store.specs.declared.fault.StoreFault.TheVariants.{NoMemory, Device, TooLarge, Reopen, Truncated}
use Rattle.ckpt_store.specs.declared.fault.StoreFault.TheVariants.{Version, Malformed, HoldsOther, PastNumber, NotHeld}
use Rattle.ckpt_store.specs.declared.fault.StoreFault.TheVariants.{Unsettled, Spent}
use Rattle.protocol.specs.Node.Common.{Fits, image_length, IsValid, Network, node_count, RecordView, slot_room_on, StoreFault}
use Rattle.protocol.specs.World.Common.{output_channels, OutputView}
use Rattle.rerun.specs.Tables.{TableView, HasRerun, IsInOrder}
use Rattle.resuming.proofs.Left.{is_left_there}
use Rattle.resuming.specs.Disks.{HasNoPlace, HoldsIts, IsResumingRefusal, SomeHasNoPlace}
use Rattle.resuming.specs.Images.{image_of, KeepsShares, record_of, records_from, records_there}
use Rattle.resuming.specs.Resuming.{Agrees, MayResume}
use Rattle.sector_disk.specs.declared.disk.ArmedFault.{ArmedFault}
use Rattle.starting_again.specs.WasLeft.{WasLeft}
use Rattle.station.specs.OutputView.{output_view, outputs_view}
use Rattle.station.specs.declared.output.Output.{Output}
use Rattle.world.specs.Left.{AreLeft, HoldsRecord, records_on}
use Rattle.world.specs.OpeningWorld.{AllNumbered, HasNoRoom, IsOpeningRefusal}

-- ---- why none begins

module _ {D : Type 0} (sectors : D → ℕ) (net : Network) (t : TableView) where
  lacks : (number : ℕ) (done : List D) (x : D) (more : List D) → HasNoPlace net t (number + length done) (sectors x)
      → SomeHasNoPlace net t number (map sectors (done ++ x ∷ more))
  lacks number [] x more none =
      let sum : number + 0 ≡ number = omega arith in
      inl (subst (λ (n : ℕ). HasNoPlace net t n (sectors x)) sum none)
  lacks number (y ∷ done) x more none =
      let sum : number + suc (length done) ≡ suc number + length done = omega arith in
      inr (lacks (suc number) done x more (subst (λ (n : ℕ). HasNoPlace net t n (sectors x)) sum none))

  pub has_no_place : (all done coming more : List D) (x : D) (count : ℕ) → length done ≡ count → coming ≡ x ∷ more
      → (done ++ coming ≡ all) → HasNoPlace net t count (sectors x) → IsResumingRefusal net t (map sectors all) TooLarge
  has_no_place all done coming more x count long comes split none =
      let number : 0 + length done ≡ length done = omega arith in
      let whole : done ++ x ∷ more ≡ all = ap (λ (rest : List D). done ++ rest) (sym comes) ∙ split in
      inr (inr (
        refl,
        subst (λ (xs : List D). SomeHasNoPlace net t 0 (map sectors xs)) whole
            (lacks 0 done x more (subst (λ (n : ℕ). HasNoPlace net t n (sectors x)) (sym (number ∙ long)) none)),
      ))

  -- as a disk on which the record wasn't written
  pub not_written : (all done coming more : List D) (x : D) (count image_len : ℕ) → length done ≡ count
      → coming ≡ x ∷ more → (done ++ coming ≡ all) → image_len ≡ image_length (image_of net t count)
      → (fault : StoreFault) → IsOpeningRefusal (sectors x) image_len fault
      → IsResumingRefusal net t (map sectors all) fault
  not_written all done coming more x count image_len long comes split len NoMemory why = inl refl
  not_written all done coming more x count image_len long comes split len Device why = inr (inl refl)
  not_written all done coming more x count image_len long comes split len TooLarge why =
      has_no_place all done coming more x count long comes split
      (inl (subst (λ (n : ℕ). HasNoRoom (sectors x) n) len why))
  not_written all done coming more x count image_len long comes split len Reopen why = absurd why
  not_written all done coming more x count image_len long comes split len Truncated why = absurd why
  not_written all done coming more x count image_len long comes split len Version why = absurd why
  not_written all done coming more x count image_len long comes split len Malformed why = absurd why
  not_written all done coming more x count image_len long comes split len HoldsOther why = absurd why
  not_written all done coming more x count image_len long comes split len PastNumber why = absurd why
  not_written all done coming more x count image_len long comes split len NotHeld why = absurd why
  not_written all done coming more x count image_len long comes split len Unsettled why = absurd why
  not_written all done coming more x count image_len long comes split len Spent why = absurd why

-- ---- what was written

module _ {D : Type 0} (sectors : D → ℕ) (content : D → List ℕ) (may_leave : D → List ℕ → Type 0)
    (armed : D → List ArmedFault) (failures : D → ℕ) (net : Network) (t : TableView) where
  abbrev Each : ℕ → D → D → Type 0
  Each = HoldsIts sectors content may_leave armed failures net t

  records_are : (number : ℕ) (givens backs : List D) → AllNumbered Each number givens backs
      → records_on sectors content backs ≡ records_from net t number (length givens)
  records_are number [] [] all = refl
  records_are number [] (y ∷ ys) all = absurd all
  records_are number (x ∷ xs) [] all = absurd all
  records_are number (x ∷ xs) (y ∷ ys) all =
      ap (λ (r : RecordView). r ∷ records_on sectors content ys) all.0.0.shows
      ∙ ap (λ (rs : List RecordView). record_of net t number ∷ rs) (records_are (suc number) xs ys all.1)

  all_held : (number : ℕ) (givens backs : List D) → AllNumbered Each number givens backs
      → AllByRecursion (HoldsRecord sectors content may_leave) backs
  all_held number [] [] all = tt
  all_held number [] (y ∷ ys) all = absurd all
  all_held number (x ∷ xs) [] all = absurd all
  all_held number (x ∷ xs) (y ∷ ys) all = (all.0.0.held, all_held (suc number) xs ys all.1)

  all_share : (number : ℕ) (givens backs : List D) → AllNumbered Each number givens backs → (k : ℕ)
      → k < length givens → KeepsShares (image_of net t (number + k))
  all_share number [] backs all k below = absurd (omega (arith, below))
  all_share number (x ∷ xs) [] all k below = absurd all
  all_share number (x ∷ xs) (y ∷ ys) all zero below =
      let sum : number ≡ number + 0 = omega arith in
      subst (λ (n : ℕ). KeepsShares (image_of net t n)) sum all.0.1
  all_share number (x ∷ xs) (y ∷ ys) all (suc k) below =
      let sum : suc number + k ≡ number + suc k = omega arith in
      subst (λ (n : ℕ). KeepsShares (image_of net t n)) sum
      (all_share (suc number) xs ys all.1 k (omega (arith, below)))

  pub same_failures : (number : ℕ) (givens backs : List D) → AllNumbered Each number givens backs
      → map failures backs ≡ map failures givens
  same_failures number [] [] all = refl
  same_failures number [] (y ∷ ys) all = absurd all
  same_failures number (x ∷ xs) [] all = absurd all
  same_failures number (x ∷ xs) (y ∷ ys) all =
      ap (λ (n : ℕ). n ∷ map failures ys) all.0.0.same_failures
      ∙ ap (λ (ns : List ℕ). failures x ∷ ns) (same_failures (suc number) xs ys all.1)

  pub same_rooms : (number : ℕ) (givens backs : List D) → AllNumbered Each number givens backs
      → map (λ (d : D). slot_room_on (sectors d)) backs ≡ map (λ (d : D). slot_room_on (sectors d)) givens
  same_rooms number [] [] all = refl
  same_rooms number [] (y ∷ ys) all = absurd all
  same_rooms number (x ∷ xs) [] all = absurd all
  same_rooms number (x ∷ xs) (y ∷ ys) all =
      ap (λ (n : ℕ). n ∷ map (λ (d : D). slot_room_on (sectors d)) ys) all.0.0.room
      ∙ ap (λ (ns : List ℕ). slot_room_on (sectors x) ∷ ns) (same_rooms (suc number) xs ys all.1)

  module _ {O : Type 0} (taken : O → List ℤ) (inputs : List (List ℤ)) (valid : IsValid net) (fits : Fits net inputs)
      (ordered : IsInOrder net inputs t) (rerun : ∥ HasRerun net inputs t ∥₁) (givens backs : List D)
      (outputs : List (Output O)) (each : length givens ≡ node_count net)
      (written : AllNumbered Each 0 givens backs)
      (listed : map (λ (output : Output O). output.channel) outputs ≡ output_channels 0 net.channels)
      (agree : AllByRecursion (λ (output : Output O). Agrees net inputs t (output_view taken output)) outputs) where
    channels_are : (xs : List (Output O))
        → map (λ (output : OutputView). output.channel) (outputs_view taken xs)
        ≡ map (λ (output : Output O). output.channel) xs
    channels_are [] = refl
    channels_are (x ∷ xs) = ap (λ (cs : List ℕ). x.channel ∷ cs) (channels_are xs)

    each_agrees : (xs : List (Output O))
        → AllByRecursion (λ (output : Output O). Agrees net inputs t (output_view taken output)) xs → (j : ℕ)
        (output : OutputView) → slice_get (outputs_view taken xs) j ≡ Some output → Agrees net inputs t output
    each_agrees [] all j output is = absurd (cc)
    each_agrees (x ∷ xs) all zero output is =
        let same : output_view taken x ≡ output = cc in subst (Agrees net inputs t) same all.0
    each_agrees (x ∷ xs) all (suc j) output is = each_agrees xs all.1 j output is

    may : MayResume net inputs t (outputs_view taken outputs)
    may = record {
      listed = channels_are outputs ∙ listed;
      agree = each_agrees outputs agree;
      shares = λ home below.
          let sum : 0 + home ≡ home = omega arith in
          subst (λ (n : ℕ). KeepsShares (image_of net t n)) sum
          (all_share 0 givens backs written home (omega (arith, below, each)));
    }

    pub records_there_are : records_on sectors content backs ≡ records_there net t
    records_there_are = records_are 0 givens backs written ∙ ap (records_from net t 0) each

    pub left_there : AreLeft sectors content may_leave taken net inputs backs outputs
    left_there = record {
      held = all_held 0 givens backs written;
      left = subst (λ (records : List RecordView). WasLeft net inputs records (outputs_view taken outputs))
          (sym records_there_are)
          (is_left_there net inputs t (outputs_view taken outputs) valid fits ordered rerun may);
    }
