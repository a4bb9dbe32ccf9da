use Rattle.std.proofs.Common.{◌∙◌, refl, sym, ap, Bool, List, subst}
use Rattle.replay.specs.declared.kept.Maker.TheVariants.{Driver}
use Rattle.run_log.specs.Numbers.{Numbers, counted}
use Rattle.run_log.specs.declared.seat_count.Counted.TheVariants as kind
use Rattle.run_log.proofs.Adding.{makes, tells}
use Rattle.world.specs.WholeView.{world_of}
use Rattle.replay.specs.Rests.{AllRest}
use Rattle.replay.proofs.Rests.{none_noted}
use Rattle.std.proofs.Common.{arith}
use Rattle.std.proofs.lemmas.Grind.{elements}
use Rattle.run_log.proofs.run_log.RunLog.play.Goals as goal

pub invariant_of-self-2-clause-replays : goal.invariant_of-self-2-clause-replays
invariant_of-self-2-clause-replays g c =
    let old = c.args.self.now in
    makes _ _ _ _ _ old.keeps old.lines.items _ old.passed _ _ _ Driver _ _ old.replays old.same_keeps c.requires.own
    c.in-Ok.ensures.added c.in-Ok.ensures.step refl old.same_rooms

pub invariant_of-self-2-clause-numbers : goal.invariant_of-self-2-clause-numbers
invariant_of-self-2-clause-numbers g c = λ yes.
    let old = c.args.self.now in
    c.in-Ok.ensures.added.counts (old.same_keeps ∙ yes) old.stops
    ∙ (ap (λ (n : Numbers). counted kind.Entry n) (old.numbers yes) ∙ sym c.add.ensures.total)

pub returns-clause-made : goal.returns-clause-made
returns-clause-made g c =
    let old = c.args.self.now in
    let made = c.in-Ok.ensures in
    record {
      seat = record { counts = c.add.ensures.own; told = tells _ _ _ _ _ old.keeps old.lines.items _ old.passed _ _ Driver _ _ old.replays c.requires.own made.added made.step old.same_rooms };
      added = made.added;
      step = rw (← old.same_rooms) made.step;
      passed = refl;
      running = refl;
    }

pub invariant_of-self-2-clause-rest : goal.invariant_of-self-2-clause-rest
invariant_of-self-2-clause-rest g c =
    let world = world_of c.make_scripted.new.world.world in
    ∣ subst (λ (list : List Bool). AllRest list world) (sym c.none_rest.ensures) (none_noted world) ∣₁

pub overflow_add-passed : goal.overflow_add-passed
overflow_add-passed g c = grind (arith, elements)

pub returns-then-made-ge-MAX_COUNT-clause-refused : goal.returns-then-made-ge-MAX_COUNT-clause-refused
returns-then-made-ge-MAX_COUNT-clause-refused g c = grind (arith, elements)

pub invariant_of-self-in_default : goal.invariant_of-self-in_default
invariant_of-self-in_default g c = grind (arith, elements)

pub returns-in_default-clause-refused : goal.returns-in_default-clause-refused
returns-in_default-clause-refused g c = grind (arith, elements)

pub invariant_of-self : goal.invariant_of-self
invariant_of-self g c = grind (arith, elements)

pub invariant_of-self-2-clause-same_stops : goal.invariant_of-self-2-clause-same_stops
invariant_of-self-2-clause-same_stops g c = grind (arith, elements)
