use Rattle.std.proofs.Common.{◌∙◌, sym, ap}
use Rattle.run_log.specs.Counts.{kind_of}
use Rattle.run_log.specs.Numbers.{Numbers, counted}
use Rattle.run_log.specs.SeatCounts.{run_numbers}
use Rattle.run_log.specs.declared.seat_count.Counted.{Counted}
use Rattle.run_log.proofs.Adding.{stays_silent, tells_silence}
use Rattle.std.proofs.Common.{arith}
use Rattle.std.proofs.lemmas.Grind.{elements}
use Rattle.run_log.proofs.run_log.RunLog.be_silent.Goals as goal

pub invariant_of-self-2-clause-replays : goal.invariant_of-self-2-clause-replays
invariant_of-self-2-clause-replays g c =
    let old = c.args.self.now in
    stays_silent _ _ _ _ old.keeps old.lines.items c.write_silence.new.lines.items old.passed _ c.args.reason old.replays
    old.same_keeps c.requires.own c.in_ok-write_silence.ensures.counted

pub invariant_of-self-2-clause-numbers : goal.invariant_of-self-2-clause-numbers
invariant_of-self-2-clause-numbers g c = λ yes.
    let old = c.args.self.now in
    (c.in_ok-write_silence.ensures.counted (old.same_keeps ∙ yes)).counts old.stops
    ∙ (ap (λ (n : Numbers). counted (kind_of c.args.reason) n) (old.numbers yes)
    ∙ (ap (λ (k : Counted). counted k (run_numbers old.totals)) (sym c.counted_as.ensures) ∙ sym c.add.ensures.total))

pub returns-clause-told : goal.returns-clause-told
returns-clause-told g c =
    let old = c.args.self.now in
    tells_silence _ _ _ _ old.lines.items old.passed _ c.args.reason old.replays c.requires.own

pub invariant_of-self : goal.invariant_of-self
invariant_of-self g c = grind (arith, elements)
