-- In the abstract machine all that is under way may be lost, and all nodes may crash, one after another.
use Rattle.std.proofs.Common.{◌≡◌, ◌≢◌, inl, inr, ℕ, zero, suc, ◌<◌, ◌≤◌, Bool, true, false, cond, nat_lt, None, refl}
use Rattle.std.proofs.Common.{sym, ap, subst, ◌∙◌, rules, tests, arith}
use Rattle.std.proofs.Math.Path.{fun_ext}
use Rattle.std.proofs.lemmas.Bool.{cases_lt}
use Rattle.protocol.specs.World.Common.{Leads, Mode, Net, Step, World}
use Rattle.protocol_laws.specs.Join.Leading.{leads_by, leads_then}
use Rattle.recovery_line.specs.Nodes.{Crash, Down}
use Rattle.recovery_line.specs.Worlds.{Acts, Send}

-- the same world, where nothing is under way
abbrev pub silent : World → World
silent w = record { records = w.records; modes = w.modes; outlets = w.outlets; flight = λ place. None }

-- and where the nodes below a number are down
abbrev pub downed : World → ℕ → World
downed w k =
    record {
      records = w.records;
      modes = λ j. cond (nat_lt j k) Down (w.modes j);
      outlets = w.outlets;
      flight = w.flight;
    }

pub below : (j k : ℕ) → j < k → nat_lt j k ≡ true
below j k lt = search (rules, tests)

pub not_below : (j k : ℕ) → k ≤ j → nat_lt j k ≡ false
not_below j k le = search (rules, tests)

module _ (net : Net) (w : World) where
  -- packets are lost
  falls_silent : Step net w (silent w)
  falls_silent = Send (record { records = refl; modes = refl; outlets = refl; flight = λ packet is. absurd (cc) })

  -- the mode of another node stays when node k crashes
  others_stay : (j k : ℕ) → j ≢ k → (downed w (suc k)).modes j ≡ (downed w k).modes j
  others_stay j k other = elim (cases_lt j k) [
    | inl lt ↦ ap (λ (b : Bool). cond b Down (w.modes j)) (below j (suc k) (omega (arith, lt)) ∙ sym (below j k lt))
    | inr le ↦ elim (cases_lt k j) [
      | inl past ↦
          ap (λ (b : Bool). cond b Down (w.modes j))
          (not_below j (suc k) (omega (arith, past)) ∙ sym (not_below j k le))
      | inr same ↦ absurd (other (omega (arith, le, same)))
    ]
  ]

  crashes : (k : ℕ) → Step net (downed w k) (downed w (suc k))
  crashes k =
      Acts k (record { records = λ j other. refl; modes = λ j other. others_stay j k other; flight = λ packet is. is })
      (Crash (record {
        same = record { disk = refl; outlets = refl };
        now = ap (λ (b : Bool). cond b Down (w.modes k)) (below k (suc k) (omega arith));
      }))

  none_down : downed w 0 ≡ w
  none_down =
      ap (λ (m : ℕ → Mode). record { records = w.records; modes = m; outlets = w.outlets; flight = w.flight })
      (fun_ext (λ j. ap (λ (b : Bool). cond b Down (w.modes j)) (not_below j 0 (omega arith))))

-- by steps of which none writes a record
pub all_fall : (net : Net) (w : World) (k : ℕ) → Leads net w (downed (silent w) k)
all_fall net w zero =
    subst (Leads net w) (sym (none_down net (silent w))) (leads_by net w (silent w) (falls_silent net w))
all_fall net w (suc k) =
    leads_then net w (downed (silent w) k) (downed (silent w) (suc k)) (all_fall net w k) (crashes net (silent w) k)
    refl
