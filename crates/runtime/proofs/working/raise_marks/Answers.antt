use Rattle.std.proofs.Common.{◌∙◌, ℕ, Option, length, sym, ap, subst}
use Rattle.marks.specs.Owners.{IsOutputOf}
use Rattle.std.specs.Sync.Mutex.{mutex_guard_value}
use Rattle.marks.specs.Seats.{known, node_of, owners_of}
use Rattle.protocol.specs.World.Common.{released_of}
use Rattle.world.specs.WholeView.{world_of}
use Rattle.runtime.proofs.Marked.{others_at, passed_next, raised_at, raised_next}
use Rattle.std.proofs.Common.{arith}
use Rattle.std.proofs.lemmas.Grind.{common_steps}
use Rattle.runtime.proofs.working.raise_marks.Goals as goal
use Rattle.runtime.proofs.working.raise_marks.Goals.{then-owns+in_ok-freed, else-owns}

pub loop-number-preserved : goal.loop-number-preserved
loop-number-preserved g c =
    let owners = owners_of c.args.marks.now in
    let node = node_of c.args.seat.now in
    let old = c.loop-number.seat in
    let number = c.loop-number.number in
    let left : ℕ → ℕ = λ output.
    length (released_of output (world_of (mutex_guard_value c.args.entered.now.locked).log.armed.world).stations) in
    elim c.if-owns.branch [
      | then-owns+in_ok-freed w ↦
          let raised = w.raise.ensures.raised in
          let others = w.raise.ensures.others in
          let freed = w.in_ok-freed.ensures in
          let is = c.in-Ok.ensures in
          let seat = w.seat-is in
          record {
            node = ap (λ s. node_of s) seat ∙ (w.raise.ensures.node ∙ c.loop-number.invariant.node);
            marked = raised_next owners node left (known old) (known c.if-owns.seat) number c.loop-number.invariant.marked
                (ap (λ s. known s number) seat
                ∙ raised_at (known w.raise.new.seat) (known old) left w.in_ok-freed.freed.output w.in_ok-freed.freed.number c.in-Ok.output number
                freed.0 freed.1 is.1 raised)
                (λ channel apart. ap (λ s. known s channel) seat
                ∙ others_at (known w.raise.new.seat) (known old) w.in_ok-freed.freed.output c.in-Ok.output number freed.0 is.1 others channel
                apart);
          }
      | else-owns w ↦
          let seat = w.seat-is in
          let is = c.in-Ok.ensures in
          record {
            node = ap (λ s. node_of s) seat ∙ c.loop-number.invariant.node;
            marked = passed_next owners node left (known old) (known c.if-owns.seat) number c.loop-number.invariant.marked
                (λ own.
                let told = w.if-owns.ensures.1
                (subst (λ (k : ℕ). IsOutputOf owners (node_of old) k) (sym is.1)
                (subst (λ (at : Option ℕ). IsOutputOf owners at number) (sym c.loop-number.invariant.node) own)) in
                cc)
                (λ channel. ap (λ s. known s channel) seat);
          }
    ]

pub returns-clause-marked : goal.returns-clause-marked
returns-clause-marked g c = grind (arith, common_steps)
