use Rattle.output_file.proofs.Placing.{left_reads}
use Rattle.output_file.proofs.laws.kill_law.Goals as goal

pub returns : goal.returns
returns c = λ items held asked waiting left each on all may.
    let b = left_reads items held asked waiting left each on all may in (b.count, b.tail, b.holds)
