use Rattle.std.proofs.Common.{rules, ◌≡◌, ◌-◌, ◌∙◌, length, vec_len, ap}
use Rattle.gate_cell.specs.declared.frame.TheConstants.{LENGTH_BYTES}
use Rattle.gate_cell.specs.Layout.{frame_size}
use Rattle.gate_cell.proofs.Ending.{is_ended}
use Rattle.gate_cell.proofs.frame.end_frame.Goals as goal

pub returns : goal.returns
returns c =
    let begun = c.args.frame.now in
    let long : vec_len begun ≡ length begun.items = search rules in
    is_ended begun.items c.resize.new.self.items (vec_len begun) _ c.requires long
    (c.frame_len-len.ensures ∙ ap (λ n. frame_size (n - LENGTH_BYTES)) c.len.ensures) c.in_ok-resize.ensures.items
