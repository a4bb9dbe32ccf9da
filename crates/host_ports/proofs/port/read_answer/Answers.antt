use Rattle.std.proofs.Common.{◌∙◌, refl, ap}
use Rattle.host_ports.proofs.Taking.{read_lost}
use Rattle.host_ports.specs.Forms.{is_end}
use Rattle.host_ports.proofs.port.read_answer.Goals as goal

pub returns-in-Err-read_piece-clause-read : goal.returns-in-Err-read_piece-clause-read
returns-in-Err-read_piece-clause-read g c = λ form e stands.
    read_lost form e _ c.args.input c.args.piece.now.items c.args.port.now c.read_piece.new.port c.read_piece.new.items.items _
    (rw (c.in_default.is) refl) stands c.requires.opened.0 (c.read_piece.ensures.ended ∙ ap is_end c.as_slice.ensures.value)
    c.in-Err-read_piece.ensures.lost c.in-Err-read_piece.ensures.failed
