use Rattle.std.proofs.Common.{ap}
use Rattle.kahn_net.specs.Common.{block_of, code_of}
use Rattle.proc_code.proofs.Whole.{whole}
use Rattle.proc_code.proofs.compiling.compile.Goals as goal

pub returns : goal.returns
returns c =
    let ones = c.emit_statements.new in
    let all = c.emit_loop.new in
    whole (code_of c.args.process.now) (block_of c.deref.result.now) c.new-instructions.result.items ones.code.items
    all.code.items c.new-sites.result.items ones.sites.items all.sites.items (ap block_of c.deref.ensures.value)
    c.new-instructions.ensures.items c.new-sites.ensures.items c.in_ok-emit_statements.ensures.code
    c.in_ok-emit_statements.ensures.sites c.in_ok-emit_loop.ensures.code c.in_ok-emit_loop.ensures.sites
    c.deepest-deepest.result c.most_nested-nesting.result c.deref-2.result.now c.deref-2.ensures.value c.deepest-deepest.ensures
    c.deref-3.result.now c.deref-3.ensures.value c.most_nested-nesting.ensures
