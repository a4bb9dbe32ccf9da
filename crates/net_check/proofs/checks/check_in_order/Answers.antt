use Rattle.std.proofs.lemmas.Grind.{elements}
use Rattle.std.proofs.Common.{arith}
use Rattle.std.proofs.Common.{◌≡◌, ◌∙◌, sym, ap, subst, ℕ, List, map, length, slice_get, Some}
use Rattle.std.proofs.lemmas.Result.{err_from_is_err_and}
use Rattle.std.proofs.lemmas.List.{length-map}
use Rattle.net_text.specs.Trees.{ProcessTree, net_tree, process_tree}
use Rattle.net_text.specs.declared.tree.ChannelText.{ChannelText}
use Rattle.net_text.specs.declared.tree.ProcessText.{ProcessText}
use Rattle.net_check.specs.Joints.{AreJoined, EndFaultAmong}
use Rattle.net_check.specs.Ready.{IsFit}
use Rattle.net_check.specs.Resolution.{AllDifferent}
use Rattle.kahn_net.specs.declared.program.Process.{Process}
use Rattle.kahn_net.specs.Common.{code_of}
use Rattle.proc_code.specs.Translation.{flat_code}
use Rattle.net_check.proofs.Checked.{end_fault_in, resolves, valid}
use Rattle.net_check.proofs.checks.check_in_order.Goals as goal

pub returns-in_err-channels-clause-fault : goal.returns-in_err-channels-clause-fault
returns-in_err-channels-clause-fault c =
    let p = err_from_is_err_and c.from_residual-in_err-channels.result c.from_residual-in_err-channels.ensures.1 in
    let d = c.in_ok-declared.ensures in
    let ends = c.in_ok-resolved.resolved.ends in
    rw (p.1, p.2)
    (end_fault_in (net_tree c.args.text) c.in_ok-declared.declared.channels.items
    (map process_tree c.in_ok-declared.declared.processes.items)
    (map code_of c.in_ok-resolved.resolved.processes.items) ends.producers ends.consumers _ d.channels d.processes
    d.declared c.in_ok-resolved.ensures.ok
    (subst (λ (xs : List ChannelText). EndFaultAmong xs ends.producers ends.consumers c.in_err-channels.field-0.0)
    c.deref-2.ensures.value c.in_err-channels.ensures.err))

pub invariant_of-result : goal.invariant_of-result
invariant_of-result c =
    let d = c.in_ok-declared.ensures in
    let ends = c.in_ok-resolved.resolved.ends in
    let r = c.in_ok-resolved.ensures.ok in
    let fit =
    subst (λ (xs : List ProcessText). (p : ℕ) (process : ProcessTree)
    → slice_get (map process_tree xs) p ≡ Some process → IsFit process) c.deref.ensures.value
    c.in_ok-check_all_limits.ensures.ok in
    let j = subst
    (λ (xs : List ChannelText). AreJoined xs ends.producers ends.consumers c.in_ok-channels.channels.items)
    c.deref-2.ensures.value c.in_ok-channels.ensures.ok in
    record {
      valid = valid _ _ _ _ _ _ d.declared r fit j;
      channels_named =
          ap length c.in_ok-channel_names.ensures
          ∙ length-map c.in_ok-declared.declared.channels.items (λ (x : ChannelText). x.name) ∙ sym j.count;
      processes_named =
          ap length c.in_ok-process_names.ensures
          ∙ length-map (map process_tree c.in_ok-declared.declared.processes.items) (λ (x : ProcessTree). x.name)
          ∙ sym r.count ∙ length-map c.in_ok-resolved.resolved.processes.items code_of;
      channels_differ = subst AllDifferent (sym c.in_ok-channel_names.ensures) d.declared.channels_differ;
      processes_differ = subst AllDifferent (sym c.in_ok-process_names.ensures) d.declared.processes_differ;
      compiled =
          c.in_ok-codes.ensures ∙ ap (λ (ps : List Process). map flat_code (map code_of ps)) c.deref-3.ensures.value;
    }

pub returns-clause-resolved : goal.returns-clause-resolved
returns-clause-resolved c =
    let d = c.in_ok-declared.ensures in
    let ends = c.in_ok-resolved.resolved.ends in
    let r = c.in_ok-resolved.ensures.ok in
    let fit =
    subst (λ (xs : List ProcessText). (p : ℕ) (process : ProcessTree)
    → slice_get (map process_tree xs) p ≡ Some process → IsFit process) c.deref.ensures.value
    c.in_ok-check_all_limits.ensures.ok in
    let j = subst
    (λ (xs : List ChannelText). AreJoined xs ends.producers ends.consumers c.in_ok-channels.channels.items)
    c.deref-2.ensures.value c.in_ok-channels.ensures.ok in
    rw (c.in_ok-channel_names.ensures, c.in_ok-process_names.ensures)
    (resolves _ _ _ _ _ _ d.declared r fit j (net_tree c.args.text) d.channels d.processes)

pub returns-clause-fault : goal.returns-clause-fault
returns-clause-fault c = grind (arith, elements)

pub returns-in_err-channel_names-clause-fault : goal.returns-in_err-channel_names-clause-fault
returns-in_err-channel_names-clause-fault c = grind (arith, elements)

pub returns-in_err-channel_names-clause-resolved : goal.returns-in_err-channel_names-clause-resolved
returns-in_err-channel_names-clause-resolved c = grind (arith, elements)

pub returns-in_err-channels-clause-resolved : goal.returns-in_err-channels-clause-resolved
returns-in_err-channels-clause-resolved c = grind (arith, elements)

pub returns-in_err-check_all_limits-clause-fault : goal.returns-in_err-check_all_limits-clause-fault
returns-in_err-check_all_limits-clause-fault c = grind (arith, elements)

pub returns-in_err-check_all_limits-clause-resolved : goal.returns-in_err-check_all_limits-clause-resolved
returns-in_err-check_all_limits-clause-resolved c = grind (arith, elements)

pub returns-in_err-codes-clause-fault : goal.returns-in_err-codes-clause-fault
returns-in_err-codes-clause-fault c = grind (arith, elements)

pub returns-in_err-codes-clause-resolved : goal.returns-in_err-codes-clause-resolved
returns-in_err-codes-clause-resolved c = grind (arith, elements)

pub returns-in_err-declared-clause-fault : goal.returns-in_err-declared-clause-fault
returns-in_err-declared-clause-fault c = grind (arith, elements)

pub returns-in_err-declared-clause-resolved : goal.returns-in_err-declared-clause-resolved
returns-in_err-declared-clause-resolved c = grind (arith, elements)

pub returns-in_err-process_names-clause-fault : goal.returns-in_err-process_names-clause-fault
returns-in_err-process_names-clause-fault c = grind (arith, elements)

pub returns-in_err-process_names-clause-resolved : goal.returns-in_err-process_names-clause-resolved
returns-in_err-process_names-clause-resolved c = grind (arith, elements)

pub returns-in_err-resolved-clause-fault : goal.returns-in_err-resolved-clause-fault
returns-in_err-resolved-clause-fault c = grind (arith, elements)

pub returns-in_err-resolved-clause-resolved : goal.returns-in_err-resolved-clause-resolved
returns-in_err-resolved-clause-resolved c = grind (arith, elements)
