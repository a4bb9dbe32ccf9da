use Rattle.std.proofs.lemmas.Grind.{elements}
use Rattle.std.proofs.Common.{◌∙◌, sym, subst, ℕ, List, map, arith}
use Rattle.net_text.specs.Trees.{process_tree}
use Rattle.net_text.specs.declared.tree.ProcessText.{ProcessText}
use Rattle.net_check.specs.Resolution.{Reads, process_names}
use Rattle.net_check.proofs.Places.{when_some, when_none}
use Rattle.net_check.proofs.Declaring.{declared_process, fault_here, twice_process, many_processes_at}
use Rattle.std.proofs.lemmas.Result.{err_from_is_err_and}
use Rattle.std.proofs.lemmas.List.{length-map, map-append}
use Rattle.std.proofs.lemmas.Grind.{common_steps}
use Rattle.net_check.proofs.declared.Declared.declare_process.Goals as goal

pub returns-then-is_some-clause-err : goal.returns-then-is_some-clause-err
returns-then-is_some-clause-err c =
    let r = when_some c.find_process.result _ _ c.find_process.ensures (sym c.is_some.ensures ∙ c.if-is_some.true) in
    λ text more e. rw c.line.ensures
    (twice_process (map process_tree c.args.self.now.processes.items) (process_tree c.args.process) r.0
    (subst (λ (xs : List ProcessText). Reads (process_names (map process_tree xs)) r.0 c.args.process.name.text)
    c.deref.ensures.value r.1) text more e)

pub returns-then-len-ge-MAX_PROCESSES-clause-err : goal.returns-then-len-ge-MAX_PROCESSES-clause-err
returns-then-len-ge-MAX_PROCESSES-clause-err c =
    many_processes_at (map process_tree c.args.self.now.processes.items) (process_tree c.args.process)
    (let d = c.requires.few_processes in let e = length-map c.args.self.now.processes.items process_tree in omega arith)

pub returns-in_err-check_process-clause-err : goal.returns-in_err-check_process-clause-err
returns-in_err-check_process-clause-err c = let p =
    err_from_is_err_and c.from_residual.result c.from_residual.ensures.1 in
    rw (p.1, p.2) (fault_here _ _ _ c.in_err-check_process.ensures.err)

pub returns-clause-declared : goal.returns-clause-declared
returns-clause-declared c =
    let none =
    when_none c.find_process.result _ _ c.find_process.ensures (sym c.is_some.ensures ∙ c.if-is_some.false) in
    rw (c.in_ok-push.ensures.items, map-append)
    (declared_process _ (map process_tree c.args.self.now.processes.items) (process_tree c.args.process) c.requires
    (subst (λ (xs : List ProcessText). (i : ℕ)
    → Reads (process_names (map process_tree xs)) i c.args.process.name.text → ⊥) c.deref.ensures.value none)
    (let e = length-map c.args.self.now.processes.items process_tree in omega arith)
    c.in_ok-check_process.ensures.ok)

pub returns-clause-channels : goal.returns-clause-channels
returns-clause-channels c = grind (arith, elements)

pub returns-clause-err : goal.returns-clause-err
returns-clause-err c = grind (arith, elements)

pub returns-in_err-check_process-clause-channels : goal.returns-in_err-check_process-clause-channels
returns-in_err-check_process-clause-channels c = grind (arith, elements)

pub returns-in_err-check_process-clause-declared : goal.returns-in_err-check_process-clause-declared
returns-in_err-check_process-clause-declared c = grind (arith, elements)

pub returns-in_err-check_process-clause-processes : goal.returns-in_err-check_process-clause-processes
returns-in_err-check_process-clause-processes c = grind (arith, elements)

pub returns-in_err-push-clause-channels : goal.returns-in_err-push-clause-channels
returns-in_err-push-clause-channels c = grind (arith, elements)

pub returns-in_err-push-clause-declared : goal.returns-in_err-push-clause-declared
returns-in_err-push-clause-declared c = grind (arith, elements)

pub returns-in_err-push-clause-err : goal.returns-in_err-push-clause-err
returns-in_err-push-clause-err c = grind (arith, elements)

pub returns-in_err-push-clause-processes : goal.returns-in_err-push-clause-processes
returns-in_err-push-clause-processes c = grind (arith, elements)

pub returns-then-is_some-clause-channels : goal.returns-then-is_some-clause-channels
returns-then-is_some-clause-channels c = grind (arith, elements)

pub returns-then-is_some-clause-declared : goal.returns-then-is_some-clause-declared
returns-then-is_some-clause-declared c = grind (arith, elements)

pub returns-then-is_some-clause-processes : goal.returns-then-is_some-clause-processes
returns-then-is_some-clause-processes c = grind (arith, elements)

pub returns-then-len-ge-MAX_PROCESSES-clause-channels : goal.returns-then-len-ge-MAX_PROCESSES-clause-channels
returns-then-len-ge-MAX_PROCESSES-clause-channels c = grind (arith, elements)

pub returns-then-len-ge-MAX_PROCESSES-clause-declared : goal.returns-then-len-ge-MAX_PROCESSES-clause-declared
returns-then-len-ge-MAX_PROCESSES-clause-declared c = grind (arith, elements)

pub returns-then-len-ge-MAX_PROCESSES-clause-processes : goal.returns-then-len-ge-MAX_PROCESSES-clause-processes
returns-then-len-ge-MAX_PROCESSES-clause-processes c = grind (arith, elements)

pub returns-clause-processes : goal.returns-clause-processes
returns-clause-processes c = grind (arith, common_steps)
