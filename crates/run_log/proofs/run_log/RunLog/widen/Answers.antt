use Rattle.std.proofs.Common.{◌∙◌, sym, ap, Bool, List, subst}
use Rattle.protocol.specs.World.Common.{WorldView}
use Rattle.replay.specs.Armed.{with_world}
use Rattle.run_log.specs.ArmedWorlds.{armed_view}
use Rattle.run_log.specs.Numbers.{Numbers, counted}
use Rattle.run_log.specs.declared.seat_count.Counted.TheVariants as kind
use Rattle.run_log.proofs.Adding.{numbers_widened, tells_need, widens}
use Rattle.world.specs.WholeView.{world_of}
use Rattle.replay.specs.Rests.{AllRest}
use Rattle.replay.proofs.Rests.{none_noted}
use Rattle.std.proofs.Common.{arith}
use Rattle.std.proofs.lemmas.Grind.{elements}
use Rattle.run_log.proofs.run_log.RunLog.widen.Goals as goal

pub invariant_of-self-2-clause-replays : goal.invariant_of-self-2-clause-replays
invariant_of-self-2-clause-replays g c =
    let old = c.args.self.now in
    widens _ _ _ _ old.keeps old.lines.items c.write_widened.new.lines.items old.passed (armed_view old.armed) _ c.args.channel old.replays
    old.same_keeps c.requires.needed c.in_ok-write_widened.ensures.added
    (ap (λ (world : WorldView). with_world world (armed_view old.armed)) c.widen_at.ensures.set)

pub invariant_of-self-2-clause-numbers : goal.invariant_of-self-2-clause-numbers
invariant_of-self-2-clause-numbers g c = λ yes.
    let old = c.args.self.now in
    numbers_widened old.lines.items c.write_widened.new.lines.items old.stops c.args.channel
    (c.in_ok-write_widened.ensures.added (old.same_keeps ∙ yes))
    ∙ (ap (λ (n : Numbers). counted kind.Entry n) (old.numbers yes) ∙ sym c.add.ensures.total)

pub invariant_of-self-2-clause-same_rooms : goal.invariant_of-self-2-clause-same_rooms
invariant_of-self-2-clause-same_rooms g c = rw c.widen_at.ensures.same.2 c.args.self.now.same_rooms

pub returns-clause-told : goal.returns-clause-told
returns-clause-told g c =
    let old = c.args.self.now in
    tells_need _ _ _ _ old.lines.items old.passed (armed_view old.armed) c.args.channel old.replays c.requires.needed

pub invariant_of-self-2-clause-rest : goal.invariant_of-self-2-clause-rest
invariant_of-self-2-clause-rest g c =
    let world = world_of c.widen_at.new.self in
    ∣ subst (λ (list : List Bool). AllRest list world) (sym c.none_rest.ensures) (none_noted world) ∣₁

pub returns-clause-wider : goal.returns-clause-wider
returns-clause-wider g c = grind (arith, elements)

pub returns-then-made-ge-MAX_COUNT-clause-refused : goal.returns-then-made-ge-MAX_COUNT-clause-refused
returns-then-made-ge-MAX_COUNT-clause-refused g c = grind (arith, elements)

pub invariant_of-self : goal.invariant_of-self
invariant_of-self g c = grind (arith, elements)

pub invariant_of-self-in-Break-1 : goal.invariant_of-self-in-Break-1
invariant_of-self-in-Break-1 g c = grind (arith, elements)
