-- From which round on the node of a world may be recovered whose device failed.
use Rattle.std.proofs.Common.{◌≡◌, ◌≢◌, ◌⊎◌, inl, inr, ℕ, ◌<◌, ◌≤◌, List, length, get_or, Option, Some, refl, sym}
use Rattle.std.proofs.Common.{subst, ◌∙◌, arith}
use Rattle.std.specs.Prelude.{Result, Ok, Err, IfOk, slice_get, slice_set}
use Rattle.std.proofs.lemmas.Option.{slice_get_read, slice_get_within}
use Rattle.std.specs.declared.alloc.AllocError.{AllocError}
use Rattle.gate_cell.specs.declared.cell.StableCell.{Ghosts as CellWords}
use Rattle.slot_cell.specs.declared.slot_cell.SlotCell.{Ghosts as SlotWords}
use Rattle.protocol.specs.World.Common.{EventView, ReplyView}
use Rattle.protocol.specs.declared.reply.Reply.TheVariants.{Down}
use Rattle.protocol_laws.specs.World.OutputLaws.{set_cases}
use Rattle.station.specs.ReplyView.{reply_view}
use Rattle.world.specs.WorldView.{LeavesDeviceAt, RestartsAsArmedAt}
use Rattle.station.specs.Leaving.{LeavesDeviceBy, RestartsAsArmed}
use Rattle.station.specs.ReplyView.{Reply}
use Rattle.station.specs.declared.station.Station.{Station}

module _ {C O : Type 0} {cell : CellWords C} {slots : SlotWords C} where
  -- what is set at a place of a list stands there
  stands : (xs : List (Station C O slots cell)) (place : ℕ) (y new : Station C O slots cell)
      → slice_get (slice_set xs place y) place ≡ Some new → y ≡ new
  stands xs place y new is = at (set_cases xs place place y new is)
    where
      at : ((place ≡ place) × (y ≡ new)) ⊎ ((place ≢ place) × (slice_get xs place ≡ Some new)) → y ≡ new
      at (inl here) = here.1
      at (inr other) = absurd (other.0 refl)

  -- what holds of the station of a place before and after holds of what stands there in the two lists
  pub holds_there : (P : Station C O slots cell → Station C O slots cell → Type 0) (xs : List (Station C O slots cell)) (place : ℕ)
      (x y : Station C O slots cell) → slice_get xs place ≡ Some x → P x y
      → (old new : Station C O slots cell) → slice_get xs place ≡ Some old
      → slice_get (slice_set xs place y) place ≡ Some new → P old new
  holds_there P xs place x y there holds old new was now =
      let before : x ≡ old = (let same : Some x ≡ Some old = sym there ∙ was in cc) in
      subst (λ (o : Station C O slots cell). P o new) before
      (subst (λ (n : Station C O slots cell). P x n) (stands xs place y new now) holds)

  pub restarts_at : (round : ℕ) (xs : List (Station C O slots cell)) (place number : ℕ) (x y : Station C O slots cell)
      (result : Result Reply AllocError) → number ≡ place → place < length xs → x ≡ get_or xs place x
      → IfOk result (λ reply. reply_view reply ≡ Down → RestartsAsArmed round x y)
      → IfOk result (λ reply. reply_view reply ≡ Down → RestartsAsArmedAt round number xs (slice_set xs place y))
  restarts_at round xs place number x y (Err e) same within is holds = tt
  restarts_at round xs place number x y (Ok reply) same within is holds = λ down.
      let there : slice_get xs place ≡ Some x = slice_get_read xs (length xs) place x refl within is in
      subst (λ (n : ℕ). RestartsAsArmedAt round n xs (slice_set xs place y)) (sym same)
      (holds_there (RestartsAsArmed round) xs place x y there (holds down))

  pub devices_at : (event : EventView) (answer : Option ReplyView) (xs : List (Station C O slots cell)) (place number : ℕ)
      (x y : Station C O slots cell) → number ≡ place → place < length xs → x ≡ get_or xs place x
      → LeavesDeviceBy event answer x y → LeavesDeviceAt event answer number xs (slice_set xs place y)
  devices_at event answer xs place number x y same within is holds =
      let there : slice_get xs place ≡ Some x = slice_get_read xs (length xs) place x refl within is in
      subst (λ (n : ℕ). LeavesDeviceAt event answer n xs (slice_set xs place y)) (sym same)
      (holds_there (LeavesDeviceBy event answer) xs place x y there holds)

  -- where there is no station nothing is said
  pub devices_nowhere : (event : EventView) (answer : Option ReplyView) (xs : List (Station C O slots cell))
      (place number : ℕ) → number ≡ place → length xs ≤ place → LeavesDeviceAt event answer number xs xs
  devices_nowhere event answer xs place number same out old new was now =
      absurd (nowhere xs number (let e = same in let o = out in omega (arith, e, o)) old was)
    where
      nowhere : (list : List (Station C O slots cell)) (k : ℕ) → length list ≤ k → (one : Station C O slots cell)
          → slice_get list k ≡ Some one → ⊥
      nowhere list k out one is = (let within = slice_get_within list k one is in omega (arith, out, within))
