use Rattle.std.proofs.Common.{◌∙◌, sym, below_more, arith}
use Rattle.std.proofs.lemmas.Bool.{false≢true}
use Rattle.net_text.specs.declared.tree.VariableText.{VariableText}
use Rattle.net_check.proofs.Places.{reads_at, reads_apart, reads_within}
use Rattle.net_check.proofs.lookup.find_variable.Goals as goal

pub returns-then-is_same : goal.returns-then-is_same
returns-then-is_same c =
    reads_at (λ (x : VariableText). x.name) c.args.variables.now c.loop-i.i c.index-variables-i.result _ (omega arith)
    c.index-variables-i.is (c.is_same.ensures.0 c.if-is_same.true)

pub loop-i-preserved : goal.loop-i-preserved
loop-i-preserved c =
    below_more _ _ c.loop-i.invariant
    (reads_apart (λ (x : VariableText). x.name) c.args.variables.now c.loop-i.i c.index-variables-i.result
    _ (omega arith) c.index-variables-i.is (λ e. false≢true (sym c.if-is_same.false ∙ c.is_same.ensures.1 e)))

pub returns : goal.returns
returns c =
    λ i h. c.loop-i.invariant i
    (let w = reads_within (λ (x : VariableText). x.name) c.args.variables.now i _ h in omega arith) h
