use Rattle.std.proofs.Common.{arith, ◌≡◌, ℕ, subst}
use Rattle.std.specs.Io.KnownBytes.{Appends}
use Rattle.std.proofs.KnownBytes.{Appends-nil}
use Rattle.history_text.specs.Histories.{happenings_text}
use Rattle.run_log.specs.Lines.{kept_view, made_times}
use Rattle.history_text.proofs.Lines.{written_again}
use Rattle.history_text.proofs.writing.write_made.Goals as goal

pub loop-turn-init : goal.loop-turn-init
loop-turn-init g c = Appends-nil _

pub loop-turn-preserved : goal.loop-turn-preserved
loop-turn-preserved g c =
    written_again c.args.rises c.loop-turn.turn c.args.entry.now.maker (kept_view c.args.entry.now.event)
    c.args.entry.now.reply _ _ _ c.later.result _ c.of-event.ensures c.later.ensures c.loop-turn.invariant
    c.in_ok-writeln.ensures.bytes

pub returns : goal.returns
returns g c =
    let ended : c.loop-turn.turn ≡ c.args.times = omega (arith, c.loop-turn-test.false, c.loop-turn.auto.turn-end) in
    subst (λ (n : ℕ). Appends (g.W.Write.contents c.args.out.now) (g.W.Write.contents c.loop-turn.out)
    (happenings_text (made_times c.args.rises n c.args.entry.now.maker (kept_view c.args.entry.now.event)
    c.args.entry.now.reply))) ended c.loop-turn.invariant
