use Rattle.std.proofs.lemmas.Grind.{elements}
use Rattle.std.proofs.Common.{arith}
use Rattle.std.proofs.Common.{◌≡◌, ◌∙◌, sym, ap, subst, ◌∷◌, [], List, map, Bool}
use Rattle.std.proofs.lemmas.Result.{err_from_is_err_and}
use Rattle.std.proofs.lemmas.List.{map-append}
use Rattle.std.proofs.lemmas.Iterator.Consumers.{YieldsList-end}
use Rattle.std.proofs.lemmas.Iterator.Adapters.{YieldsList-from_vec}
use Rattle.net_text.specs.Trees.{InputTree, input_tree, inputs_tree}
use Rattle.net_text.specs.declared.raw_inputs.InputLine.{InputLine}
use Rattle.net_check.specs.Bound.{AreBound, AreNamed}
use Rattle.kahn_net.specs.declared.program.Channel.{Channel}
use Rattle.kahn_net.specs.Common.{network_of}
use Rattle.net_check.proofs.Lines.{all_bound, bound_fits, bound_push, line_at, line_fault_in, lines_next, map_same}
use Rattle.net_check.proofs.binding.bind_in_order.Goals as goal

pub loop-line-preserved : goal.loop-line-preserved
loop-line-preserved c =
    let i = c.loop-line.invariant in
    record {
      bound = subst
          (λ (xs : List InputTree). AreBound c.args.net.now.channel_names.items (network_of c.args.net.now.program) xs
          c.bind_line.new.self.lists.items c.bind_line.new.self.named.items)
          (sym (map-append input_tree c.loop-line.yielded (c.in-Some.line ∷ [])))
          (bound_push c.args.net.now.channel_names.items (network_of c.args.net.now.program)
          (map input_tree c.loop-line.yielded) (input_tree c.in-Some.line) _ _ _ _ c.args.net.now.channels_differ
          i.bound c.in_ok-bind_line.ensures.ok);
      lines = lines_next c.loop-line.yielded _ _ c.in-Some.line _ (c.in-Some.ensures.steps).0 i.lines;
    }

pub returns-in_err-bind_line-clause-fault : goal.returns-in_err-bind_line-clause-fault
returns-in_err-bind_line-clause-fault c =
    let i = c.loop-line.invariant in
    let p = err_from_is_err_and c.from_residual-in_err-bind_line.result c.from_residual-in_err-bind_line.ensures.1 in
    rw (p.1, p.2)
    (line_fault_in _ _ (map input_tree c.loop-line.yielded) (input_tree c.in-Some.line)
    _ _ _ _ _ (line_at c.loop-line.yielded _ _ c.in-Some.line _ (c.in-Some.ensures.steps).0 i.lines) i.bound
    c.in_err-bind_line.ensures.err)

pub returns-clause-bound : goal.returns-clause-bound
returns-clause-bound c =
    let gives = c.into_iter-line-iterator.ensures.into_iter_gives in
    let end =
    YieldsList-end
    (YieldsList-from_vec {s = c.into_iter-line-iterator.result} c.args.inputs.lines.items gives.0
    (gives.1 ∙ c.args.inputs.lines.ok.0)) c.loop-line.yielded c.loop-line.line-iterator c.loop-line.yielded_by
    c.next.result c.next.new.self c.in-None.is c.next.ensures.steps in
    let e : map input_tree c.loop-line.yielded ≡ inputs_tree c.args.inputs =
    ap (λ (xs : List InputLine). map input_tree xs) (sym (map_same c.loop-line.yielded) ∙ end.0) in
    let b = subst
    (λ (xs : List InputTree). AreBound c.args.net.now.channel_names.items (network_of c.args.net.now.program) xs
    c.loop-line.binding.lists.items c.loop-line.binding.named.items) e c.loop-line.invariant.bound in
    let all =
    subst (λ (xs : List Channel). AreNamed xs c.loop-line.binding.named.items) c.deref.ensures.value
    (subst (λ (xs : List Bool). AreNamed c.deref.result.now xs) c.deref-2.ensures.value
    c.if-not-are_inputs_named.ensures) in
    let binds = all_bound _ _ _ _ _ b all in
    rw c.from_lists.ensures binds

pub returns-clause-fitting : goal.returns-clause-fitting
returns-clause-fitting c =
    let gives = c.into_iter-line-iterator.ensures.into_iter_gives in
    let end =
    YieldsList-end
    (YieldsList-from_vec {s = c.into_iter-line-iterator.result} c.args.inputs.lines.items gives.0
    (gives.1 ∙ c.args.inputs.lines.ok.0)) c.loop-line.yielded c.loop-line.line-iterator c.loop-line.yielded_by
    c.next.result c.next.new.self c.in-None.is c.next.ensures.steps in
    let e : map input_tree c.loop-line.yielded ≡ inputs_tree c.args.inputs =
    ap (λ (xs : List InputLine). map input_tree xs) (sym (map_same c.loop-line.yielded) ∙ end.0) in
    let b = subst
    (λ (xs : List InputTree). AreBound c.args.net.now.channel_names.items (network_of c.args.net.now.program) xs
    c.loop-line.binding.lists.items c.loop-line.binding.named.items) e c.loop-line.invariant.bound in
    let all =
    subst (λ (xs : List Channel). AreNamed xs c.loop-line.binding.named.items) c.deref.ensures.value
    (subst (λ (xs : List Bool). AreNamed c.deref.result.now xs) c.deref-2.ensures.value
    c.if-not-are_inputs_named.ensures) in
    let binds = all_bound _ _ _ _ _ b all in
    rw c.from_lists.ensures (bound_fits _ _ _ _ binds b.few)

pub returns-clause-fault : goal.returns-clause-fault
returns-clause-fault c = grind (arith, elements)

pub returns-in_err-bind_line-clause-bound : goal.returns-in_err-bind_line-clause-bound
returns-in_err-bind_line-clause-bound c = grind (arith, elements)

pub returns-in_err-bind_line-clause-fitting : goal.returns-in_err-bind_line-clause-fitting
returns-in_err-bind_line-clause-fitting c = grind (arith, elements)

pub returns-in_err-binding-clause-bound : goal.returns-in_err-binding-clause-bound
returns-in_err-binding-clause-bound c = grind (arith, elements)

pub returns-in_err-binding-clause-fault : goal.returns-in_err-binding-clause-fault
returns-in_err-binding-clause-fault c = grind (arith, elements)

pub returns-in_err-binding-clause-fitting : goal.returns-in_err-binding-clause-fitting
returns-in_err-binding-clause-fitting c = grind (arith, elements)

pub returns-then-not-are_inputs_named-clause-bound : goal.returns-then-not-are_inputs_named-clause-bound
returns-then-not-are_inputs_named-clause-bound c = grind (arith, elements)

pub returns-then-not-are_inputs_named-clause-fault : goal.returns-then-not-are_inputs_named-clause-fault
returns-then-not-are_inputs_named-clause-fault c = grind (arith, elements)

pub returns-then-not-are_inputs_named-clause-fitting : goal.returns-then-not-are_inputs_named-clause-fitting
returns-then-not-are_inputs_named-clause-fitting c = grind (arith, elements)

pub from_lists-requires : goal.from_lists-requires
from_lists-requires c = grind (arith, elements)

pub loop-line-init : goal.loop-line-init
loop-line-init c = grind (arith, elements)
