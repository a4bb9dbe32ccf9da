use Rattle.kahn_net.specs.Laws.Passes.{enough_passes}
use Rattle.stream_eq.proofs.laws.well_founded_law.Goals as goal

pub returns : goal.returns
returns c n m site body vars unread passing h k = enough_passes n m site body vars unread passing h k
