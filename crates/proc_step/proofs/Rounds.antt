-- Rounds of instructions, one after another.
use Rattle.std.proofs.Common.{◌≡◌, ℕ, zero, suc, ◌+◌, ◌-◌, ◌*◌, ◌<◌, ◌≤◌, List, ℤ, [], ◌∷◌, take, get_or, length}
use Rattle.std.proofs.Common.{Option}
use Rattle.std.proofs.Common.{None, Some, ap, ◌∙◌, sym, arith, subst}
use Rattle.kahn_net.specs.Common.{total, Trace}
use Rattle.proc_code.specs.declared.instruction.Instruction.{Instruction}
use Rattle.proc_code.specs.Laws.Resuming.{times_monotone}
use Rattle.proc_step.specs.declared.machine.Flow.{Flow}
use Rattle.proc_step.specs.declared.machine.Machine.{Machine}
use Rattle.proc_step.specs.Parts.{Part}
use Rattle.proc_step.specs.Stepping.{Remains, RunsTo, WentOn}
use Rattle.proc_step.proofs.Machines.{not_through}

-- the items of one list more
pub total_next : (items : List (List ℤ)) (i : ℕ) (item : List ℤ) → i < length items → item ≡ get_or items i item
    → total (take (suc i) items) ≡ total (take i items) + length item
total_next [] i item less is = absurd (omega (arith, less))
total_next (x ∷ items) zero item less is =
    ap (λ (l : List ℤ). length l + 0) (sym is) ∙ omega arith
total_next (x ∷ items) (suc i) item less is =
    let h = total_next items i item (omega (arith, less)) is in omega (arith, h)

pub total_within : (items : List (List ℤ)) (n : ℕ) → total (take n items) ≤ total items
total_within [] zero = omega arith
total_within [] (suc n) = omega arith
total_within (x ∷ items) zero = omega arith
total_within (x ∷ items) (suc n) = let h = total_within items n in omega (arith, h)

-- one round more, of the passes, and one list more, of the items
pub in_passes : (passes times rounds done k : ℕ) → rounds ≡ passes * times → done < rounds
    → done * k + k ≤ passes * (times * k)
in_passes passes times rounds done k e less =
    let few = times_monotone (done + 1) rounds k (omega (arith, less)) in
    let one : (done + 1) * k ≡ done * k + k = omega arith in
    let same : rounds * k ≡ passes * (times * k) =
    ap (λ (n : ℕ). n * k) e ∙ (let h : passes * times * k ≡ passes * (times * k) = omega arith in h) in
    omega (arith, few, one, same)

pub one_list : (items : List (List ℤ)) (i : ℕ) (item : List ℤ) (k : ℕ) → i < length items
    → item ≡ get_or items i item
    → (total (take (i + 1) items) + 2) * k ≡ (total (take i items) + 2) * k + length item * k
one_list items i item k less is =
    let next : i + 1 ≡ suc i = omega arith in
    let all : total (take (i + 1) items) ≡ total (take i items) + length item =
    ap (λ (n : ℕ). total (take n items)) next ∙ total_next items i item less is in
    let split : (total (take i items) + length item + 2) * k ≡ (total (take i items) + 2) * k + length item * k =
    omega arith in
    ap (λ (n : ℕ). (n + 2) * k) all ∙ split

pub in_items : (items : List (List ℤ)) (i : ℕ) (item : List ℤ) (k : ℕ) → i < length items → item ≡ get_or items i item
    → (total (take i items) + 2) * k + length item * k ≤ (total items + 2) * k
in_items items i item k less is =
    let within = total_within items (i + 1) in
    let few = times_monotone (total (take (i + 1) items) + 2) (total items + 2) k (omega (arith, within)) in
    omega (arith, few, one_list items i item k less is)

module _ {code : List Instruction} {room : List ℕ} {m : Machine} where
  -- so many instructions, and then so many
  pub then_on : {a b : ℕ} {m1 m2 : Machine} {stop : Option Flow} (n : ℕ) → n ≡ a + b → WentOn code a room m None m1
      → WentOn code b room m1 stop m2 → stop ≡ None → WentOn code n room m None m2
  then_on {a} {b} {m1} {m2} {stop} n e first next is =
      let second : WentOn code b room m1 None m2 = subst (λ (o : Option Flow). WentOn code b room m1 o m2) is next in
      record {
        rooms = second.rooms ∙ first.rooms;
        went = λ whole u0 sent0 more h. second.went whole u0 sent0 more
            (first.went whole u0 sent0 (b + more)
            (subst (λ (k : ℕ). Remains code k room m whole u0 sent0)
            (let f : n + more ≡ a + (b + more) = omega (arith, e) in f) h));
      }

  -- so many, and then it stops within so many
  pub then_stops : {a b : ℕ} {m1 m2 : Machine} {stop : Option Flow} {flow : Flow} (n : ℕ) → a + b ≤ n
      → WentOn code a room m None m1 → WentOn code b room m1 stop m2 → stop ≡ Some flow
      → WentOn code n room m (Some flow) m2
  then_stops {a} {b} {m1} {m2} {stop} {flow} n few first next is =
      let second : WentOn code b room m1 (Some flow) m2 =
      subst (λ (o : Option Flow). WentOn code b room m1 o m2) is next in
      record {
        rooms = second.rooms ∙ first.rooms;
        went = λ whole u0 sent0 more h. second.went whole u0 sent0 (n - (a + b) + more)
            (first.went whole u0 sent0 (b + (n - (a + b) + more))
            (subst (λ (k : ℕ). Remains code k room m whole u0 sent0)
            (let f : n + more ≡ a + (b + (n - (a + b) + more)) = omega (arith, few) in f) h));
      }

  whole_remains : (most all : ℕ) (t : Trace) → most ≡ all → RunsTo code most m t
      → Remains code all room m t m.unread.items m.sent.items
  whole_remains most all t e runs = subst (λ (n : ℕ). Remains code n room m t m.unread.items m.sent.items) e
      (record { trace = t; runs = runs; leads = λ flow m' p. p })

  -- in as many as the whole takes it stops, having made a part of it
  pub part_made : {done : ℕ} {m' : Machine} {stop : Option Flow} {flow : Flow} (most : ℕ) (t : Trace) → done ≤ most
      → WentOn code done room m stop m' → stop ≡ Some flow → RunsTo code most m t
      → Part t room m.unread.items m.sent.items flow m'
  part_made {done} {m'} {stop} {flow} most t few next is runs =
      let w : WentOn code done room m (Some flow) m' =
      subst (λ (o : Option Flow). WentOn code done room m o m') is next in
      w.went t m.unread.items m.sent.items (most - done)
      (whole_remains most (done + (most - done)) t (omega (arith, few)) runs)

  pub not_past : {most : ℕ} {m' : Machine} (t : Trace) → WentOn code most room m None m' → RunsTo code most m t → ⊥
  not_past {most} {m'} t w runs =
      not_through code room m' t m.unread.items m.sent.items
      (w.went t m.unread.items m.sent.items 0 (whole_remains most (most + 0) t (omega arith) runs))
