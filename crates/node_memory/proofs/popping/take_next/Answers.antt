use Rattle.std.proofs.Common.{◌≡◌, ◌-◌, ◌++◌, [], ◌∷◌, ℤ, ℕ, List, take, drop, ap, ◌∙◌, rules, to_z, of_z, w64}
use Rattle.protocol.specs.Node.Common.{log_with, popped_times, ready_items}
use Rattle.window_link.specs.Windows.{received}
use Rattle.node_memory.proofs.Pops.{taken_is}
use Rattle.std.proofs.Common.{arith}
use Rattle.std.proofs.lemmas.Grind.{elements}
use Rattle.node_memory.proofs.popping.take_next.Goals as goal

pub returns-in-Ok-clause-ok : goal.returns-in-Ok-clause-ok
returns-in-Ok-clause-ok c =
    let pushed : c.push.new.self.items ≡ c.args.item ∷ [] = search rules in
    let whole : to_z w64 (of_z w64 c.args.item) ≡ c.args.item = search rules in
    taken_is c.args.position c.args.item c.args.inbox.now c.add_ready-items.result.items c.saturating_sub-behind.result
    (c.len.result - 1) c.push_all.new.self c.pop_times.new.window c.requires.place c.requires.next
    (c.saturating_sub-behind.ensures ∙ ap (λ (n : ℕ). n - 1) c.places_left.ensures)
    (c.add_ready-items.ensures
    ∙ ap (λ (xs : List ℤ). xs
    ++ take c.saturating_sub-behind.result (ready_items (drop 1 c.args.inbox.now.window.held))) pushed)
    (ap (λ (n : ℕ). n - 1) c.len.ensures.value)
    (c.in-Ok.ensures.ok ∙ ap (λ (xs : List ℤ). log_with xs c.args.inbox.now.log) c.as_slice.ensures.value)
    (c.pop_times.ensures ∙ ap (popped_times (c.len.result - 1)) c.take.ensures.window
    ∙ ap (λ (i : ℤ). popped_times (c.len.result - 1) ((received c.args.inbox.now.window c.args.position i).window)) whole)

pub overflow_sub-len : goal.overflow_sub-len
overflow_sub-len c = grind (arith, elements)
