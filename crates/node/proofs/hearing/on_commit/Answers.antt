use Rattle.std.proofs.Common.{sym}
use Rattle.ckpt_store.proofs.Room.{permanent_fits}
use Rattle.node.proofs.Verdicts.{fine_unless_held, held_image_is}
use Rattle.std.proofs.Common.{arith}
use Rattle.std.proofs.lemmas.Grind.{elements}
use Rattle.node.proofs.hearing.on_commit.Goals as goal

pub returns-clause-can : goal.returns-clause-can
returns-clause-can c =
    let kept = c.args.kept.now in
    let found = held_image_is c.args.from c.args.number kept.tentative c.in-Some.image.now (sym c.in-Some.ensures) in
    record {
      up = c.requires.up;
      may_be_put = tt;
      fine = fine_unless_held c.args.from c.args.number kept found.0;
      may_follow = tt;
      fits = λ short room fits. permanent_fits room kept fits;
    }

pub returns-in_default-clause-view : goal.returns-in_default-clause-view
returns-in_default-clause-view c = grind (arith, elements)

pub returns-clause-view : goal.returns-clause-view
returns-clause-view c = grind (arith, elements)
