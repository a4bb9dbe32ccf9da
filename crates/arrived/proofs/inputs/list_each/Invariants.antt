use Rattle.std.proofs.Common.{◌≡◌, ◌++◌, map}
use Rattle.kahn_net.specs.Fits.{AreCounted}
use Rattle.arrived.specs.ArrivedView.{began}
use Rattle.arrived.proofs.inputs.list_each.Given as goal

-- what is listed, and then what is to come
abbrev pub invariant-loop-history : goal.invariant-loop-history
invariant-loop-history l = record {
  listed : l.lists.items ++ map began l.history-iterator.rest.items ≡ map began l.fn.histories.items;
  counted : AreCounted l.history-iterator.rest.items;
}
