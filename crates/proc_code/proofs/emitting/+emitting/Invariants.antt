use Rattle.std.proofs.Common.{◌≡◌, ◌++◌, drop, length}
use Rattle.kahn_net.specs.Common.{block_of}
use Rattle.proc_code.specs.Translation.{block_code, sites_at}
use Rattle.proc_code.proofs.emitting.+emitting.Given as goal

abbrev pub invariant-emit_statements-loop-statement : goal.invariant-emit_statements-loop-statement
invariant-emit_statements-loop-statement l = record {
  code : l.code.items
      ++ block_code (length l.code.items) (length l.sites.items) (block_of (drop l.statement-index l.statements))
      ≡ l.initial.code.items
      ++ block_code (length l.initial.code.items) (length l.initial.sites.items) (block_of l.statements);
  sites : l.sites.items
      ++ sites_at (length l.code.items) (length l.sites.items) (block_of (drop l.statement-index l.statements))
      ≡ l.initial.sites.items
      ++ sites_at (length l.initial.code.items) (length l.initial.sites.items) (block_of l.statements);
}
