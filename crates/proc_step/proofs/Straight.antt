-- Instructions one behind the other, and where the process goes on elsewhere.
use Rattle.std.proofs.Common.{◌≡◌, ℕ, ◌+◌, ◌<◌, ◌≤◌, ℤ, List, length, get_or, Some, None, refl, sym, ap, ◌∙◌, arith, subst}
use Rattle.std.specs.Prelude.{slice_get, slice_range}
use Rattle.std.proofs.lemmas.List.{take_rest, get_or-drop}
use Rattle.std.proofs.lemmas.Option.{slice_get-get_or}
use Rattle.kahn_net.specs.Common.{Trace}
use Rattle.proc_code.specs.declared.instruction.Instruction.{Instruction}
use Rattle.proc_step.specs.declared.machine.Flow.{Flow}
use Rattle.proc_step.specs.declared.machine.Flow.TheVariants.{RanOut, Stopped, Stands}
use Rattle.proc_step.specs.declared.machine.Next.{Next}
use Rattle.proc_step.specs.declared.machine.Next.TheVariants.{Behind, To, Stop}
use Rattle.proc_step.specs.declared.machine.Machine.{Machine}
use Rattle.proc_step.specs.Parts.{Part}
use Rattle.proc_step.specs.Stepping.{Performed, Remains, WentOn}
use Rattle.proc_step.proofs.Machines.{runs_out, carried_out}
use Rattle.proc_step.proofs.Rounds.{then_on, then_stops}

-- a part of a trace was made, wherever the machine says that it is
stopped_at : (flow : Flow) (t : Trace) (room : List ℕ) (unread sent : List (List ℤ)) (m : Machine) (place : ℕ)
    → Part t room unread sent flow m → Part t room unread sent flow (record m { place = place })
stopped_at RanOut t room unread sent m place p = record {
  done = p.done;
  rest = p.rest;
  whole = p.whole;
  made = p.made;
  left = p.left;
  put = p.put;
  stop = p.stop;
}
stopped_at Stopped t room unread sent m place p = record {
  done = p.done;
  rest = p.rest;
  whole = p.whole;
  made = p.made;
  left = p.left;
  put = p.put;
  stop = p.stop;
}
stopped_at (Stands site) t room unread sent m place p = record {
  done = p.done;
  rest = p.rest;
  whole = p.whole;
  made = p.made;
  left = p.left;
  put = p.put;
  stop = p.stop;
}

-- the instruction at hand, among those from a place on
pub at_hand : (code rest : List Instruction) (place k : ℕ) (i : Instruction)
    → rest ≡ slice_range code place (length code) → length rest + place ≡ length code → k < length rest
    → slice_get code (place + k) ≡ Some (get_or rest k i)
at_hand code rest place k i is many less =
    slice_get-get_or code (place + k) i (omega (arith, many, less))
    ∙ ap Some (sym (ap (λ (l : List Instruction). get_or l k i) (is ∙ take_rest code place) ∙ get_or-drop place code k i))

module _ (code : List Instruction) (room : List ℕ) (first : Machine) where
  -- no instruction yet
  pub not_yet : (place : ℕ) → first.place ≡ place → WentOn code 0 room first None (record first { place = place })
  not_yet place is = subst (λ (n : ℕ). WentOn code 0 room first None (record first { place = n })) is
      (record {
        rooms = refl;
        went = λ whole u0 sent0 more h. subst (λ (n : ℕ). Remains code n room first whole u0 sent0)
            (let none : 0 + more ≡ more = omega arith in none) h;
      })

  -- so many instructions were carried out, so it was one at least
  one_of : (n : ℕ) (m : Machine) → 1 ≤ n → WentOn code n room first None m → WentOn code 1 room first None m
  one_of n m some w = record {
    rooms = w.rooms;
    went = λ whole u0 sent0 more h. w.went whole u0 sent0 more
        (record {
          trace = h.trace;
          runs = record {
            steps = h.runs.steps;
            within = omega (arith, h.runs.within, some);
            gives = h.runs.gives;
          };
          leads = h.leads;
        });
  }

  -- the same where it stops, wherever the machine says that it is
  stops_as_one : (n : ℕ) (flow : Flow) (m : Machine) (place : ℕ) → 1 ≤ n → WentOn code n room first (Some flow) m
      → WentOn code 1 room first (Some flow) (record m { place = place })
  stops_as_one n flow m place some w = record {
    rooms = w.rooms;
    went = λ whole u0 sent0 more h. stopped_at flow whole room u0 sent0 m place (w.went whole u0 sent0 more
        (record {
          trace = h.trace;
          runs = record {
            steps = h.runs.steps;
            within = omega (arith, h.runs.within, some);
            gives = h.runs.gives;
          };
          leads = h.leads;
        }));
  }

  module _ (k : ℕ) (now : Machine) (so_far : WentOn code k room first None now) where
    -- past the last instruction
    pub ran_out : (place : ℕ) → slice_get code now.place ≡ None
        → WentOn code 1 room first (Some RanOut) (record now { place = place })
    ran_out place none =
        stops_as_one (k + 1) RanOut now place (omega arith)
        (then_stops (k + 1) (omega arith) so_far (runs_out code room now none) refl)

    module _ (i : Instruction) (here : slice_get code now.place ≡ Some i) (next : Next) (after : Machine)
        (done : Performed i room now next after) where
      -- it goes on behind the instruction
      pub goes_behind : (place : ℕ) → now.place + 1 ≡ place → next ≡ Behind
          → WentOn code (k + 1) room first None (record after { place = place })
      goes_behind place behind is =
          subst (λ (n : ℕ). WentOn code (k + 1) room first None (record after { place = n })) behind
          (then_on (k + 1) refl so_far
          (carried_out code room now i None (record after { place = now.place + 1 }) here
          (subst (λ (n : Next). Performed i room now n after) is done))
          refl)

      -- it goes on elsewhere
      pub goes_to : (target : ℕ) → next ≡ To target → WentOn code 1 room first None (record after { place = target })
      goes_to target is =
          one_of (k + 1) (record after { place = target }) (omega arith)
          (then_on (k + 1) refl so_far
          (carried_out code room now i None (record after { place = target }) here
          (subst (λ (n : Next). Performed i room now n after) is done))
          refl)

      -- the process stops
      pub stops : (flow : Flow) (place : ℕ) → next ≡ Stop flow
          → WentOn code 1 room first (Some flow) (record after { place = place })
      stops flow place is =
          stops_as_one (k + 1) flow after place (omega arith)
          (then_stops (k + 1) (omega arith) so_far
          (carried_out code room now i (Some flow) after here
          (subst (λ (n : Next). Performed i room now n after) is done))
          refl)
