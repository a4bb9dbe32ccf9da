use Rattle.std.proofs.Common.{rules, ◌≡◌, ◌∙◌, ℕ, [], ap, sym, subst, arith, Option}
use Rattle.std.specs.Prelude.{Vec}
use Rattle.std.specs.List.{All}
use Rattle.std.specs.declared.alloc.Global.{Global}
use Rattle.atomic_table.specs.Table.{Me, Splits}
use Rattle.marks.specs.declared.view.View.{View}
use Rattle.marks.specs.Known.{known_of}
use Rattle.marks.specs.Rules.{HoldsOfMarks, dealer, dealt}
use Rattle.marks.specs.Seats.{known, node_of}
use Rattle.marks.proofs.Moves.{deals, nothing_dealt}
use Rattle.marks.proofs.Nodes.{one_seat_more, all_and_one}
use Rattle.std.proofs.lemmas.Grind.{common_steps, elements}
use Rattle.marks.proofs.marks.Opened.named.Goals as goal

pub split_seat-seat-requires : goal.split_seat-seat-requires
split_seat-seat-requires g c =
    let loop = c.loop-node.invariant in
    let self = c.args.self in
    let view = c.loop-node.driver.me.0 in
    let AtKey =
    λ (key : Vec (Option ℕ) Global). Splits (λ s. HoldsOfMarks key.items s) c.loop-node.driver.id view
    (dealer view) (dealt view) in
    let AtId = λ (id : ℕ). Splits (λ s. HoldsOfMarks self.owners.items s) id view (dealer view) (dealt view) in
    (loop.here, search rules, subst AtKey (sym self.same) (subst AtId (sym loop.first) (deals self.owners.items view)))

pub loop-node-preserved : goal.loop-node-preserved
loop-node-preserved g c =
    let loop = c.loop-node.invariant in
    let split = c.split_seat-seat.ensures in
    let seat = c.of_table.result in
    let known_in_it = λ (channel : ℕ) (me : Me (Unit {0}) View). known_of me.0 channel in
    record {
      first = split.1 ∙ loop.first;
      here = split.0 ∙ loop.here;
      of_no_node = ap (λ (me : Me (Unit {0}) View). me.0.node) split.2 ∙ loop.of_no_node;
      deals = (let dealt_now = ap (λ (me : Me (Unit {0}) View). me.0.dealt) split.2 in let before = loop.deals in
          omega arith);
      knows_nothing = λ channel. ap (known_in_it channel) split.2 ∙ loop.knows_nothing channel;
      made = one_seat_more node_of c.loop-node.seats.items c.push_reserved.new.self.items seat c.loop-node.node
          c.args.self.nodes _
          c.push_reserved.ensures.items c.of_table.ensures.node (omega arith) loop.made;
      fresh = λ channel. subst (All (λ one. known one channel ≡ [])) (sym c.push_reserved.ensures.items)
          (all_and_one (λ one. known one channel ≡ []) c.loop-node.seats.items seat (loop.fresh channel)
          (ap (known_in_it channel) (c.of_table.ensures.seat ∙ split.4)
          ∙ nothing_dealt c.loop-node.driver.me.0.known channel));
      count = search rules;
      room = search rules;
    }

pub returns-clause-fresh : goal.returns-clause-fresh
returns-clause-fresh g c = grind (arith, elements)

pub returns-clause-seats : goal.returns-clause-seats
returns-clause-seats g c = grind (arith, common_steps)
