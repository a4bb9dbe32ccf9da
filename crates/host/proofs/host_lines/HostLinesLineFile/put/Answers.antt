use Rattle.host.proofs.Taking.{put_and_synced_taken}
use Rattle.std.proofs.lemmas.Grind.{elements}
use Rattle.std.proofs.Common.{arith}
use Rattle.host.proofs.host_lines.HostLinesLineFile.put.Goals as goal

pub returns-clause-whole : goal.returns-clause-whole
returns-clause-whole c = put_and_synced_taken _ _ _ _ _ _ c.put-done.ensures

pub returns-clause-synced : goal.returns-clause-synced
returns-clause-synced c = grind (arith, elements)
