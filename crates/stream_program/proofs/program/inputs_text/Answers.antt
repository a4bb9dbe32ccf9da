use Rattle.std.proofs.Common.{ap}
use Rattle.std.specs.Prelude.{option_map, string_bytes}
use Rattle.stream_program.specs.Streamed.{IsReadOf, IsRunFor, reads_inputs}
use Rattle.stream_program.proofs.Preparing.{prepares_by}
use Rattle.stream_program.proofs.program.inputs_text.Goals as goal

pub returns-in-Some-clause-prepares : goal.returns-in-Some-clause-prepares
returns-in-Some-clause-prepares g c =
    prepares_by (IsReadOf (string_bytes c.in-Some.path)) (IsRunFor c.args.options.now) _ _
    (λ r is. reads_inputs (string_bytes c.in-Some.path) (ap (option_map string_bytes) c.in-Some.is) is) c.read_text.ensures.prepares
