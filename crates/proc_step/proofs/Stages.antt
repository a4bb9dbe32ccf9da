-- Where a part of a trace leaves the process.
use Rattle.std.proofs.Common.{ℕ, List, ℤ, [], sym, ap, ◌∙◌, subst}
use Rattle.kahn_net.specs.Common.{Trace, Step, standing_at}
use Rattle.proc_step.specs.declared.machine.Flow.{Flow}
use Rattle.proc_step.specs.declared.machine.Flow.TheVariants.{RanOut, Stopped, Stands}
use Rattle.proc_step.specs.declared.machine.Machine.{Machine}
use Rattle.proc_step.specs.Turns.{IsNextHeldBack}
use Rattle.proc_step.specs.Parts.{Part, Played, stands_as}

-- a part leaves the process where it stopped
pub played_as : (t : Trace) (room : List ℕ) (u0 s0 : List (List ℤ)) (flow : Flow) (m : Machine)
    → Part t room u0 s0 flow m
    → Played t room u0 s0 (stands_as flow m.left.items m.variables.items) m.unread.items m.sent.items
played_as t room u0 s0 RanOut m p = record {
  done = p.done;
  rest = p.rest;
  whole = p.whole;
  made = p.made;
  left = p.left;
  put = p.put;
  stands = sym (ap (λ (x : List Step). standing_at x t.end) p.stop.0 ∙ ap (standing_at []) p.stop.1);
  held_back = subst (λ (x : List Step). IsNextHeldBack x room m.unread.items m.sent.items) (sym p.stop.0) tt;
}
played_as t room u0 s0 Stopped m p = record {
  done = p.done;
  rest = p.rest;
  whole = p.whole;
  made = p.made;
  left = p.left;
  put = p.put;
  stands = sym (ap (λ (x : List Step). standing_at x t.end) p.stop.0 ∙ ap (standing_at []) p.stop.1);
  held_back = subst (λ (x : List Step). IsNextHeldBack x room m.unread.items m.sent.items) (sym p.stop.0) tt;
}
played_as t room u0 s0 (Stands site) m p = record {
  done = p.done;
  rest = p.rest;
  whole = p.whole;
  made = p.made;
  left = p.left;
  put = p.put;
  stands = sym p.stop.0;
  held_back = p.stop.1;
}
