use Rattle.std.proofs.Common.{ℕ, List, subst}
use Rattle.gate_cell.specs.Layout.{IsFrame}
use Rattle.gate_cell.proofs.Ending.{begun_with, value_behind}
use Rattle.gate_cell.proofs.frame.framed.Goals as goal

pub end_frame-requires : goal.end_frame-requires
end_frame-requires c =
    begun_with _ c.args.value.now _ c.in_ok-frame.ensures c.in_ok-extend_from_slice.ensures.items c.requires

pub returns : goal.returns
returns c =
    subst (λ (v : List ℕ). IsFrame v c.end_frame.new.frame.items)
    (value_behind _ c.args.value.now _ c.in_ok-frame.ensures c.in_ok-extend_from_slice.ensures.items)
    c.in_ok-end_frame.ensures
