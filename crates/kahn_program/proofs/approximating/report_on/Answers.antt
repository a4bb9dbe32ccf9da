use Rattle.std.proofs.Common.{ℕ, ℤ, List, length, ap, ◌∙◌}
use Rattle.protocol.specs.Node.Common.{history_of}
use Rattle.kahn_program.specs.Report.{output_count}
use Rattle.kahn_program.proofs.Released.{counted_streams}
use Rattle.kahn_program.proofs.approximating.report_on.Goals as goal

pub report-requires : goal.report-requires
report-requires c =
    ap (length {A = List ℤ}) (c.deref-2.ensures.value ∙ c.in-Ok-output_histories.ensures)
    ∙ (counted_streams (λ (channel : ℕ). history_of c.as_slice.result.now channel) 0 c.deref.result.now
    ∙ ap output_count c.deref.ensures.value)
