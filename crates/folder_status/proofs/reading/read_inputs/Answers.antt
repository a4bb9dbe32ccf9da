use Rattle.std.specs.Prelude.{string_bytes}
use Rattle.folder_status.specs.Files.{inputs}
use Rattle.folder_status.proofs.Held.{net_still, no_inputs_by}
use Rattle.folder_status.proofs.reading.read_inputs.Goals as goal

pub read_own-requires-after_bounds : goal.read_own-requires-after_bounds
read_own-requires-after_bounds g c κs within = inputs c.in_ok-path.ensures

pub returns-clause-cause : goal.returns-clause-cause
returns-clause-cause g c =
    no_inputs_by (string_bytes c.args.folder.now) (string_bytes c.in_ok-path.path) c.in_ok-bytes.bytes.items c.args.net.now _ c.inputs_of.result
    c.in_ok-path.ensures (net_still _ _ _ _ c.read_own.ensures.asked c.requires) c.in_ok-bytes.ensures.read c.inputs_of.ensures.cause
