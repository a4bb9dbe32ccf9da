use Rattle.std.proofs.Common.{rules, ap}
use Rattle.std.proofs.lemmas.List.Sorted.{answers_always}
use Rattle.record.specs.ImageView.{ImageView}
use Rattle.record.specs.Laws.Ascent.{place_there, place_nowhere}
use Rattle.record.proofs.image.Image.place.Goals as goal

pub returns-in-Ok-clause-there : goal.returns-in-Ok-clause-there
returns-in-Ok-clause-there c =
    place_there c.args.self.now c.self.inside.ends.items c.args.channel c.in-Ok.place c.binary_search_by_key.result
    (ap (λ (image : ImageView). image.ends) c.self.view_is) c.self.inside.ordered
    (rw (← c.deref.ensures.value) c.binary_search_by_key.ensures.bound)
    (rw (← c.deref.ensures.value)
    (c.binary_search_by_key.ensures.position (λ saved. saved.channel)
    (answers_always _ _ _ (λ f a r g called. search rules)))) c.in-Ok.is

pub returns-in-Err-clause-nowhere : goal.returns-in-Err-clause-nowhere
returns-in-Err-clause-nowhere c = λ none.
    place_nowhere c.args.self.now c.self.inside.ends.items c.args.channel c.in-Err.field-0
    c.binary_search_by_key.result (ap (λ (image : ImageView). image.ends) c.self.view_is) c.self.inside.ordered
    (rw (← c.deref.ensures.value) c.binary_search_by_key.ensures.bound)
    (rw (← c.deref.ensures.value)
    (c.binary_search_by_key.ensures.position (λ saved. saved.channel)
    (answers_always _ _ _ (λ f a r g called. search rules)))) c.in-Err.is
