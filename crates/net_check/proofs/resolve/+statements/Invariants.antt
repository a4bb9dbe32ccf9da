use Rattle.std.proofs.Common.{take}
use Rattle.net_text.specs.declared.tree.Role.TheVariants.{Input, Output}
use Rattle.net_text.specs.Trees.{block_tree}
use Rattle.net_check.specs.Claims.{Claims}
use Rattle.net_check.specs.Resolution.{ResolvesBlock, channel_names, variable_names}
use Rattle.kahn_net.specs.Common.{block_of, block_gets, block_puts}
use Rattle.net_check.proofs.resolve.+statements.Given as goal

abbrev pub invariant-resolve_statements-loop-statement : goal.invariant-resolve_statements-loop-statement
invariant-resolve_statements-loop-statement l = record {
  resolved : ResolvesBlock (channel_names l.scope.channels.now) (variable_names l.scope.variables.now)
      (block_tree (take l.statement-index l.statements)) (block_of l.resolved.items);
  puts : Claims l.scope.channels.now Input l.scope.process (λ c. block_puts c (block_of l.resolved.items))
      l.initial.ends.producers l.ends.producers;
  gets : Claims l.scope.channels.now Output l.scope.process (λ c. block_gets c (block_of l.resolved.items))
      l.initial.ends.consumers l.ends.consumers;
}
