use Rattle.std.proofs.Common.{◌≡◌, ◌<◌, ◌∙◌, true, List, length, ap, sym, subst, arith}
use Rattle.std.proofs.Math.Logic.{∥∥₁_map}
use Rattle.std.proofs.lemmas.List.{get_or_default}
use Rattle.kahn_net.specs.declared.program.Channel.{Channel}
use Rattle.net_check.specs.declared.net.Net.{Net}
use Rattle.retained.specs.LogState.{LogState, IsWithinLimits}
use Rattle.rerun.specs.Tables.{is_output, log_on, no_log}
use Rattle.rerun.specs.Whole.{inputs_in, net_in, table_in}
use Rattle.rerun.proofs.Kept.{let_go_at, let_go_ordered, let_go_rerun, output_within, trimmed_within}
use Rattle.rerun.proofs.rerun.Rerun.let_go.Goals as goal

pub invariant_of-self : goal.invariant_of-self
invariant_of-self c =
    let rerun = c.args.self.now in
    let net = net_in rerun in
    let table = table_in rerun in
    let old = c.index_mut.result.now in
    let channels : c.deref-2.result.now ≡ net.channels =
    c.deref-2.ensures.value ∙ ap (λ (n : Net). n.program.channels.items) c.deref.ensures in
    let out : is_output net.channels c.args.channel ≡ true =
    ap (λ (l : List Channel). is_output l c.args.channel) (sym channels)
    ∙ (sym c.is_output.ensures ∙ c.if-is_output.true) in
    let there = output_within net.channels c.args.channel out in
    let here : c.args.channel < length table.logs = omega (arith, there, rerun.ordered.logs) in
    let read = c.index_mut.ensures.value in
    let is : log_on table c.args.channel ≡ old = get_or_default table.logs c.args.channel no_log old here ∙ sym read in
    let within = trimmed_within old c.trim.new.self _
    (subst (λ (l : LogState). IsWithinLimits l) is (rerun.ordered.within c.args.channel)) c.trim.ensures.trimmed
    c.trim.ensures.otherwise in
    record {
      fits = rerun.fits;
      ordered = let_go_ordered net (inputs_in rerun) table c.args.channel old c.trim.new.self here read out
          c.trim.ensures.history within rerun.ordered;
      reached =
          ∥∥₁_map rerun.reached (let_go_rerun net (inputs_in rerun) table c.args.channel old c.trim.new.self here read
          out c.trim.ensures.history within);
    }

pub returns-then-is_output-clause-stage : goal.returns-then-is_output-clause-stage
returns-then-is_output-clause-stage c s is_at =
    let rerun = c.args.self.now in
    let net = net_in rerun in
    let table = table_in rerun in
    let old = c.index_mut.result.now in
    let channels : c.deref-2.result.now ≡ net.channels =
    c.deref-2.ensures.value ∙ ap (λ (n : Net). n.program.channels.items) c.deref.ensures in
    let out : is_output net.channels c.args.channel ≡ true =
    ap (λ (l : List Channel). is_output l c.args.channel) (sym channels)
    ∙ (sym c.is_output.ensures ∙ c.if-is_output.true) in
    let there = output_within net.channels c.args.channel out in
    let here : c.args.channel < length table.logs = omega (arith, there, rerun.ordered.logs) in
    let read = c.index_mut.ensures.value in
    let is : log_on table c.args.channel ≡ old = get_or_default table.logs c.args.channel no_log old here ∙ sym read in
    let within = trimmed_within old c.trim.new.self _
    (subst (λ (l : LogState). IsWithinLimits l) is (rerun.ordered.within c.args.channel)) c.trim.ensures.trimmed
    c.trim.ensures.otherwise in
    let_go_at net (inputs_in rerun) table c.args.channel old c.trim.new.self here read out c.trim.ensures.history within s
    is_at
