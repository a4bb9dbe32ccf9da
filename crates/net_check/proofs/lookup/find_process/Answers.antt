use Rattle.std.proofs.Common.{◌∙◌, sym, below_more, arith}
use Rattle.std.proofs.lemmas.Bool.{false≢true}
use Rattle.net_check.proofs.Places.{process_reads_at, process_reads_apart, process_reads_within}
use Rattle.net_check.proofs.lookup.find_process.Goals as goal

pub returns-then-is_same : goal.returns-then-is_same
returns-then-is_same c =
    process_reads_at c.args.processes.now c.loop-i.i c.index-processes-i.result _ (omega arith) c.index-processes-i.is
    (c.is_same.ensures.0 c.if-is_same.true)

pub loop-i-preserved : goal.loop-i-preserved
loop-i-preserved c =
    below_more _ _ c.loop-i.invariant
    (process_reads_apart c.args.processes.now c.loop-i.i c.index-processes-i.result _ (omega arith)
    c.index-processes-i.is (λ e. false≢true (sym c.if-is_same.false ∙ c.is_same.ensures.1 e)))

pub returns : goal.returns
returns c = λ i h. c.loop-i.invariant i (let w = process_reads_within c.args.processes.now i _ h in omega arith) h
