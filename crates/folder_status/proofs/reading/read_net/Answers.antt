use Rattle.std.specs.Prelude.{string_bytes}
use Rattle.folder_status.specs.Files.{net}
use Rattle.folder_status.proofs.Held.{no_net_by}
use Rattle.folder_status.proofs.reading.read_net.Goals as goal

pub read_own-requires-after_bounds : goal.read_own-requires-after_bounds
read_own-requires-after_bounds g c κs within = net c.in_ok-path.ensures

pub returns-clause-cause : goal.returns-clause-cause
returns-clause-cause g c =
    no_net_by (string_bytes c.args.folder.now) (string_bytes c.in_ok-path.path) c.in_ok-bytes.bytes.items _ c.net_of.result c.in_ok-path.ensures
    c.in_ok-bytes.ensures.read c.net_of.ensures.cause
