use Rattle.std.proofs.Common.{◌≡◌, [], ◌∷◌, rules, ◌++◌, ◌+◌, ◌-◌, ℤ, List, take, drop, ap, sym, ◌∙◌, arith}
use Rattle.protocol.specs.Node.Common.{ready_items}
use Rattle.node_memory.proofs.Pops.{ready_all, none_ready, ready_next}
use Rattle.node_memory.proofs.popping.add_ready.Goals as goal

pub returns-in-None : goal.returns-in-None
returns-in-None c =
    ready_all _ _ c.loop-place.left _
    (none_ready c.args.window.now.held c.loop-place.place (sym c.in-None.ensures)) c.loop-place.invariant.all

pub loop-place-preserved : goal.loop-place-preserved
loop-place-preserved c =
    let pushed : c.push.new.self.items ≡ c.loop-place.items.items ++ c.in-Some.item ∷ [] = search rules in
    record {
      all = ap (λ (xs : List ℤ). xs
          ++ take (c.loop-place.left - 1) (ready_items (drop (c.loop-place.place + 1) c.args.window.now.held)))
          pushed
          ∙ ready_next _ _ c.loop-place.left c.args.window.now.held c.loop-place.place c.in-Some.item
          (sym c.in-Some.ensures) (omega arith) c.loop-place.invariant.all;
      few = omega arith;
    }
