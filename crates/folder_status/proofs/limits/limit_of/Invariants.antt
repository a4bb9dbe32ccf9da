use Rattle.std.proofs.Common.{◌≡◌, drop}
use Rattle.folder_status.specs.Endings.{limit_of}
use Rattle.folder_status.proofs.limits.limit_of.Given as goal

-- none of those before is of the channel
abbrev pub invariant-loop-output : goal.invariant-loop-output
invariant-loop-output l = limit_of (drop l.output-index l.kept) l.inner l.more l.channel ≡ limit_of l.kept l.inner l.more l.channel
