use Rattle.std.proofs.Common.{◌≡◌, ◌++◌, drop}
use Rattle.rerun.specs.Whole.{net_in, table_in}
use Rattle.resuming.specs.Images.{image_ends}
use Rattle.resuming.proofs.copying.copy_ends.Given as goal

-- what was copied, and then what is to come
abbrev pub invariant-loop-number : goal.invariant-loop-number
invariant-loop-number l =
    l.ends.items
    ++ image_ends (net_in l.rerun) (table_in l.rerun).got (table_in l.rerun).logs l.home l.number (drop l.number l.channels)
    ≡ image_ends (net_in l.rerun) (table_in l.rerun).got (table_in l.rerun).logs l.home 0 l.channels
