use Rattle.std.proofs.Common.{◌∙◌, sym, below_more, arith}
use Rattle.std.proofs.lemmas.Bool.{false≢true}
use Rattle.net_check.proofs.Places.{name_reads_at, name_reads_apart, name_reads_within}
use Rattle.cobaltmidge.proofs.network.find_name.Goals as goal

pub returns-then-has_name-clause-found : goal.returns-then-has_name-clause-found
returns-then-has_name-clause-found c =
    name_reads_at c.args.names.now c.loop-i.i c.index-names-i.result _ (omega arith) c.index-names-i.is
    (c.has_name.ensures.0 c.if-has_name.true)

pub loop-i-preserved : goal.loop-i-preserved
loop-i-preserved c =
    below_more _ _ c.loop-i.invariant
    (name_reads_apart c.args.names.now c.loop-i.i c.index-names-i.result _ (omega arith) c.index-names-i.is
    (λ e. false≢true (sym c.if-has_name.false ∙ c.has_name.ensures.1 e)))

pub returns-clause-found : goal.returns-clause-found
returns-clause-found c = λ i h. c.loop-i.invariant i (let w = name_reads_within c.args.names.now i _ h in omega arith) h
