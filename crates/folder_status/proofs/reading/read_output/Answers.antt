use Rattle.std.specs.Prelude.{string_bytes}
use Rattle.folder_status.specs.Files.{items}
use Rattle.folder_status.proofs.Held.{unreadable}
use Rattle.folder_status.proofs.reading.read_output.Goals as goal

pub read_own-requires-after_bounds : goal.read_own-requires-after_bounds
read_own-requires-after_bounds g c κs within = items _ c.in_ok-path.ensures

pub returns-clause-cause : goal.returns-clause-cause
returns-clause-cause g c =
    unreadable (string_bytes c.args.folder.now) _ (string_bytes c.in_ok-path.path) c.in_ok-bytes.bytes.items _ c.kept_of.result c.in_ok-path.ensures
    c.in_ok-bytes.ensures.read c.kept_of.ensures.cause
