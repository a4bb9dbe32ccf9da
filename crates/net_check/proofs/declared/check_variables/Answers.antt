use Rattle.std.proofs.Common.{◌≡◌, ◌∙◌, sym, subst, List, length, arith}
use Rattle.net_text.specs.declared.tree.VariableText.{VariableText}
use Rattle.net_check.specs.Resolution.{AllDifferent, variable_names}
use Rattle.net_check.proofs.Places.{when_some, when_none}
use Rattle.net_check.proofs.Declaring.{twice_variable_of, many_variables_of, different_more}
use Rattle.std.proofs.lemmas.List.{take_all}
use Rattle.net_check.proofs.declared.check_variables.Goals as goal

pub returns-then-is_some-clause-err : goal.returns-then-is_some-clause-err
returns-then-is_some-clause-err c =
    let r = when_some c.find_variable.result _ _ c.find_variable.ensures (sym c.is_some.ensures ∙ c.if-is_some.true) in
    λ process same text p h. rw c.line.ensures
    (twice_variable_of process c.args.variables.now c.loop-i.i c.index-variables-i.result r.0 same (omega arith)
    c.index-variables-i.is r.1 text p h)

pub returns-then-i-ge-MAX_VARIABLES-clause-err : goal.returns-then-i-ge-MAX_VARIABLES-clause-err
returns-then-i-ge-MAX_VARIABLES-clause-err c = λ process same.
    many_variables_of process c.args.variables.now c.loop-i.i c.index-variables-i.result same (omega arith)
    c.index-variables-i.is (let f = c.loop-i.invariant.few in omega arith)

pub loop-i-preserved : goal.loop-i-preserved
loop-i-preserved c =
    let none =
    when_none c.find_variable.result _ _ c.find_variable.ensures (sym c.is_some.ensures ∙ c.if-is_some.false) in
    record {
      few = omega arith;
      different =
          different_more c.args.variables.now c.loop-i.i c.index-variables-i.result (omega arith) c.index-variables-i.is
          c.loop-i.invariant.different none;
    }

pub returns-clause-ok : goal.returns-clause-ok
returns-clause-ok c =
    let f = c.loop-i.invariant.few in
    let all : c.loop-i.i ≡ length c.args.variables.now = omega arith in (
      omega arith,
      subst (λ (xs : List VariableText). AllDifferent (variable_names xs))
          (take_all c.loop-i.i c.args.variables.now (omega arith)) c.loop-i.invariant.different,
    )
