-- What the calls of a cell leave alone of its device, but for `arm` and `recount`.
use Rattle.std.specs.Prelude.{◌≡◌, ℕ, ◌≤◌, List}
use Rattle.std.proofs.Common.{refl, ◌∙◌, arith}
use Rattle.sector_disk.specs.declared.disk.ArmedFault.{ArmedFault}

-- as many bytes fit, the same faults are armed, and no device call that was counted is forgotten
pub record LeavesSetup {C : Type 0} (capacity : C → ℕ) (armed : C → List ArmedFault) (call_count : C → ℕ)
    (old new : C) : Type 0 where
  pub same_room : capacity new ≡ capacity old
  pub same_faults : armed new ≡ armed old
  pub counts_on : call_count old ≤ call_count new

module _ {C : Type 0} (capacity : C → ℕ) (armed : C → List ArmedFault) (call_count : C → ℕ) where
  -- a call that leaves all of a cell alone leaves this
  pub setup_stays : (one : C) → LeavesSetup capacity armed call_count one one
  setup_stays one = record { same_room = refl; same_faults = refl; counts_on = omega arith }

  -- and so do two calls of which each does
  pub setup_then : (old mid new : C) → LeavesSetup capacity armed call_count old mid
      → LeavesSetup capacity armed call_count mid new → LeavesSetup capacity armed call_count old new
  setup_then old mid new first second =
      let before = first.counts_on in
      let after = second.counts_on in
      record {
        same_room = second.same_room ∙ first.same_room;
        same_faults = second.same_faults ∙ first.same_faults;
        counts_on = omega (arith, before, after);
      }
