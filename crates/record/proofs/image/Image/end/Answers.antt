use Rattle.std.proofs.Common.{ap}
use Rattle.record.specs.ImageView.{ImageView}
use Rattle.record.specs.Laws.Ascent.{end_at, no_end}
use Rattle.record.proofs.image.Image.end.Goals as goal

pub returns-in-Some : goal.returns-in-Some
returns-in-Some c =
    end_at c.args.self.now c.self.inside.ends.items c.args.channel c.in-Some.place c.index.result.now
    (ap (λ (image : ImageView). image.ends) c.self.view_is) c.self.inside.ordered c.in-Some.ensures.there
    c.index.ensures

pub returns-in-None : goal.returns-in-None
returns-in-None c = no_end c.args.self.now c.args.channel (c.place.ensures.nowhere c.in-None.is)
