use Rattle.std.proofs.Common.{◌∙◌, sym, ap, ◌+◌, ◌<◌, ◌++◌, [], ℕ, List, drop, get_or, length, arith, string_bytes}
use Rattle.net_text.specs.Names.{NameTree}
use Rattle.protocol.specs.Node.Common.{Outside, Process}
use Rattle.kahn_program.specs.Report.{output_line, output_lines}
use Rattle.kahn_program.proofs.Lines.{count_at, lines_at, line_at, written_more}
use Rattle.kahn_program.proofs.reporting.write_lines.Goals as goal
use Rattle.kahn_program.proofs.reporting.write_lines.Goals.{in-Outside+in_ok-write_line, in_default}

pub bounds-streams-next : goal.bounds-streams-next
bounds-streams-next c =
    let more = count_at c.args.channels.now c.loop-number.number _ Outside c.loop-number-test.true c.in-Outside.is in
    omega (arith, more, c.loop-number.invariant.count)

pub loop-number-preserved : goal.loop-number-preserved
loop-number-preserved c =
    let cs = c.args.channels.now in
    let ns = c.args.names.now in
    let ss = c.args.streams.now in
    let i = c.loop-number.number in
    let j = c.loop-number.next in
    let before = c.loop-number.invariant in
    let here = c.loop-number-test.true in
    elim c.match-channel.branch [
      | in-Outside+in_ok-write_line w ↦
          let n = w.index-names-number in
          let s = w.index-streams-next in
          let more = count_at cs i _ Outside here w.in-Outside.is in
          let left : j < length ss = omega (arith, more, before.count) in
          let lines =
          lines_at cs ns (drop j ss) i _ n.result Outside here (omega (arith, here, c.requires.names))
          w.in-Outside.is in
          let line =
          line_at (get_or ns i n.result) ss j s.result (output_lines (drop (i + 1) cs) (drop (i + 1) ns)) left in
          let same =
          ap (λ (x : NameTree). output_line x (get_or ss j s.result)) (sym n.is)
          ∙ ap (output_line n.result) (sym s.is) in
          record {
            count = omega (arith, more, before.count, w.next-is);
            written =
                rw (w.next-is, w.text-is)
                (written_more (string_bytes c.loop-number.text) (string_bytes w.write_line.new.text)
                (output_line n.result s.result) _ _ _ w.in_ok-write_line.ensures
                (lines ∙ (line
                ∙ ap (λ (x : List ℕ). x ++ output_lines (drop (i + 1) cs) (drop (i + 1) ns) (drop (j + 1) ss)) same))
                before.written);
          }
      | in_default w ↦
          let more = count_at cs i _ (Process w.in_default.field-0) here w.in_default.is in
          let none : NameTree = record { text = []; line = 0 } in
          let lines =
          lines_at cs ns (drop j ss) i _ none (Process w.in_default.field-0) here
          (omega (arith, here, c.requires.names)) w.in_default.is in
          record {
            count = omega (arith, more, before.count, w.next-is);
            written =
                rw (w.next-is, w.text-is)
                (ap (λ (x : List ℕ). string_bytes c.loop-number.text ++ x) (sym lines) ∙ before.written);
          }
    ]
