use Rattle.std.proofs.Common.{◌≡◌, ◌-◌, [], ◌∷◌, ℤ, List, take, refl, sym, ap, ◌∙◌, rules, to_z, of_z, w64}
use Rattle.protocol.specs.Node.Common.{log_with}
use Rattle.protocol.specs.Node.Popping.{places_left}
use Rattle.window_link.specs.Windows.{received}
use Rattle.node_memory.proofs.Pops.{nothing_behind, taken_is}
use Rattle.node_memory.proofs.popping.take_alone.Goals as goal

pub returns-in-Ok-clause-ok : goal.returns-in-Ok-clause-ok
returns-in-Ok-clause-ok c =
    let inbox = c.args.inbox.now in
    let whole : to_z w64 (of_z w64 c.args.item) ≡ c.args.item = search rules in
    taken_is c.args.position c.args.item inbox (c.args.item ∷ []) (places_left inbox.log - 1) 0 c.push.new.self c.take.new.self
    c.requires.place c.requires.next refl
    (ap (λ (xs : List ℤ). c.args.item ∷ xs) (sym (nothing_behind inbox (places_left inbox.log - 1) c.requires.alone)))
    refl (c.in-Ok.ensures.ok ∙ ap (λ (i : ℤ). log_with (i ∷ []) inbox.log) whole)
    (c.take.ensures.window ∙ ap (λ (i : ℤ). (received inbox.window c.args.position i).window) whole)
