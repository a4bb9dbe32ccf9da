use Rattle.std.specs.Io.KnownBytes.{Appends}
use Rattle.history_text.specs.Histories.{happenings_text}
use Rattle.run_log.specs.Lines.{kept_view, made_times}
use Rattle.history_text.proofs.writing.write_made.Given as goal

-- so many times it was written
abbrev pub invariant-loop-turn : goal.invariant-loop-turn
invariant-loop-turn g l =
    Appends (g.W.Write.contents l.fn.out) (g.W.Write.contents l.out)
    (happenings_text (made_times l.rises l.turn l.entry.maker (kept_view l.entry.event) l.entry.reply))
