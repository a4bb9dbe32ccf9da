use Rattle.std.proofs.Common.{rules, ◌≡◌, ◌∙◌, ◌++◌, ◌∷◌, [], ℕ, List, map, sym, ap, subst, arith}
use Rattle.std.proofs.lemmas.List.{map-append}
use Rattle.std.proofs.lemmas.List.FromFn.{map-range_with_len_more}
use Rattle.std.specs.List.{range_with_len}
use Rattle.runtime.specs.Seats.{AreOfNodes}
use Rattle.runtime.specs.declared.seat.NodeSeat.{NodeSeat}
use Rattle.std.proofs.lemmas.Grind.{elements}
use Rattle.runtime.proofs.hub.open_log.Goals as goal

pub loop-node-preserved : goal.loop-node-preserved
loop-node-preserved g c =
    let loop = c.loop-node.invariant in
    let seat = c.node_seat.result in
    let number = λ (s : NodeSeat _ _ _). s.node in
    record {
      parts = grind (arith, elements);
      numbers = grind (arith, elements);
      room = grind (arith, elements);
      count = grind (arith, elements);
      same_journal = grind (arith, elements);
      unwritten = search rules;
      numbered = ap (map number) c.push_reserved.ensures.items
          ∙ (map-append number c.loop-node.seats.items (seat ∷ [])
          ∙ (ap (λ (front : List ℕ). front ++ number seat ∷ []) loop.numbered
          ∙ (ap (λ (n : ℕ). map (λ (k : ℕ). k) (range_with_len 0 c.loop-node.node) ++ n ∷ []) c.node_seat.ensures.0
          ∙ sym (map-range_with_len_more (λ (k : ℕ). k) 0 c.loop-node.node c.loop-node.node (omega arith)))));
    }

-- when the loop ends, each node has its seat
pub returns-clause-numbered : goal.returns-clause-numbered
returns-clause-numbered g c =
    let ended : c.loop-node.node ≡ c.args.nodes = omega (arith, c.loop-node-test.false, c.loop-node.auto.node-end) in
    subst (λ (n : ℕ). AreOfNodes n c.loop-node.seats.items) ended c.loop-node.invariant.numbered

pub new-log-requires-clause-opening : goal.new-log-requires-clause-opening
new-log-requires-clause-opening g c = grind (arith, elements)

pub returns-clause-unwritten : goal.returns-clause-unwritten
returns-clause-unwritten g c = grind (arith, elements)

pub loop-node-init : goal.loop-node-init
loop-node-init g c = grind (arith, elements)

pub returns-clause-none : goal.returns-clause-none
returns-clause-none g c = grind (arith, elements)
