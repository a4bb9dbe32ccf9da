use Rattle.std.proofs.Common.{◌∙◌, inl, refl, sym, ap}
use Rattle.std.proofs.Math.Logic.{∥∥₁_map}
use Rattle.replay.specs.declared.kept.Maker.TheVariants.{Node}
use Rattle.run_log.specs.Numbers.{Numbers, counted}
use Rattle.run_log.specs.declared.seat_count.Counted.TheVariants as kind
use Rattle.run_log.proofs.Adding.{makes, tells}
use Rattle.run_log.proofs.Stepped.{noted_next, some_so}
use Rattle.std.proofs.Common.{arith}
use Rattle.std.proofs.lemmas.Grind.{elements}
use Rattle.run_log.proofs.run_log.RunLog.step.Goals as goal

pub invariant_of-self-2-clause-replays : goal.invariant_of-self-2-clause-replays
invariant_of-self-2-clause-replays g c =
    let old = c.args.self.now in
    makes _ _ _ _ _ old.keeps old.lines.items _ old.passed _ _ _ (Node c.args.node) _ _ old.replays old.same_keeps
    (inl (c.requires.in_time, refl))
    (some_so _ _ _ c.in-Some.is c.in-Ok.ensures.added) (some_so _ _ _ c.in-Some.is c.in-Ok.ensures.step) refl old.same_rooms

pub invariant_of-self-2-clause-numbers : goal.invariant_of-self-2-clause-numbers
invariant_of-self-2-clause-numbers g c = λ yes.
    let old = c.args.self.now in
    (some_so _ _ _ c.in-Some.is c.in-Ok.ensures.added).counts (old.same_keeps ∙ yes) old.stops
    ∙ (ap (λ (n : Numbers). counted kind.Entry n) (old.numbers yes) ∙ sym c.add.ensures.total)

pub returns-clause-made : goal.returns-clause-made
returns-clause-made g c =
    let old = c.args.self.now in
    let added = some_so _ _ _ c.in-Some.is c.in-Ok.ensures.added in
    let step = some_so _ _ _ c.in-Some.is c.in-Ok.ensures.step in
    record {
      seat = record {
        counts = c.add.ensures.own;
        told = tells _ _ _ _ _ old.keeps old.lines.items _ old.passed _ _ (Node c.args.node) _ _ old.replays (inl (c.requires.in_time, refl)) added
            step old.same_rooms;
      };
      added = added;
      step = rw (← old.same_rooms) step;
      passed = refl;
      running = refl;
    }

pub invariant_of-self-2-clause-rest : goal.invariant_of-self-2-clause-rest
invariant_of-self-2-clause-rest g c =
    let old = c.args.self.now in
    ∥∥₁_map old.rest (λ all.
    noted_next _ g.ThisRun.Run.script c.args.node old.passed _ _ _ _ old.resting _ _ old.armed.world.sound c.requires.in_time
    (some_so _ _ _ c.in-Some.is c.in-Ok.ensures.step)
    c.round-round.ensures c.is_in_round-others_stay.ensures all c.note_event.ensures)

pub returns-in_default-clause-refused : goal.returns-in_default-clause-refused
returns-in_default-clause-refused g c = grind (arith, elements)

pub invariant_of-self-2-clause-same_stops : goal.invariant_of-self-2-clause-same_stops
invariant_of-self-2-clause-same_stops g c = grind (arith, elements)

pub invariant_of-self-in_default : goal.invariant_of-self-in_default
invariant_of-self-in_default g c = grind (arith, elements)

pub returns-clause-none : goal.returns-clause-none
returns-clause-none g c = grind (arith, elements)

pub returns-then-made-ge-MAX_COUNT-clause-refused : goal.returns-then-made-ge-MAX_COUNT-clause-refused
returns-then-made-ge-MAX_COUNT-clause-refused g c = grind (arith, elements)

pub returns-in_default-made-clause-none : goal.returns-in_default-made-clause-none
returns-in_default-made-clause-none g c = grind (arith, elements)

pub invariant_of-self : goal.invariant_of-self
invariant_of-self g c = grind (arith, elements)

pub invariant_of-self-in_default-made : goal.invariant_of-self-in_default-made
invariant_of-self-in_default-made g c = grind (arith, elements)

pub returns-clause-home : goal.returns-clause-home
returns-clause-home g c = grind (arith, elements)
