use Rattle.record.specs.Laws.Ascent.{image_trimmed, image_untrimmed}
use Rattle.std.proofs.lemmas.Grind.{elements}
use Rattle.std.proofs.Common.{arith}
use Rattle.record.proofs.image.Image.trim.Goals as goal

pub returns-in-Some : goal.returns-in-Some
returns-in-Some c =
    image_trimmed c.self.inside.processes.items c.self.inside.ends.items c.args.self.now c.args.channel c.args.position
    c.in-Some.place c.index_mut.result.now c.trim.new.self c.self.view_is c.self.inside.ordered
    c.in-Some.ensures.there
    c.index_mut.ensures.value c.trim.ensures

pub returns-in_default : goal.returns-in_default
returns-in_default c =
    image_untrimmed c.args.self.now c.args.channel c.args.position (c.place.ensures.nowhere c.in_default.is)

pub invariant_of-self-inside : goal.invariant_of-self-inside
invariant_of-self-inside c = grind (arith, elements)
