use Rattle.std.proofs.Common.{◌≡◌, ◌<◌, List, length, refl, sym, ap, ◌∙◌, subst, arith, get_or}
use Rattle.std.specs.Prelude.{slice_get, map}
use Rattle.std.proofs.Math.Bridge.{le_prop}
use Rattle.std.proofs.Math.Logic.{∥∥₁_elim}
use Rattle.std.proofs.lemmas.List.{length-map}
use Rattle.std.proofs.lemmas.Option.{slice_get_within}
use Rattle.kahn_net.specs.States.{standing_of}
use Rattle.kahn_net.specs.Syntax.{code_of, network_of}
use Rattle.kahn_net.specs.declared.state.ProcState.{ProcState}
use Rattle.net_check.specs.declared.net.Net.{Net}
use Rattle.rerun.specs.Resting.{is_put}
use Rattle.rerun.specs.Whole.{inputs_in, net_in, table_in}
use Rattle.rerun.proofs.Places.{has_code, none_puts, state_at}
use Rattle.rerun.proofs.Rests.{rests_with_all}
use Rattle.rerun.proofs.rerun.Rerun.is_to_put.Goals as goal

pub returns-then-puts_next-clause-some : goal.returns-then-puts_next-clause-some
returns-then-puts_next-clause-some c told =
    let rerun = c.args.self.now in
    let k = c.loop-process.process in
    let states = rerun.table.states.items in
    let same : c.deref-state-items.result.now ≡ states = c.deref-state-items.ensures.value in
    let within : k < length states = subst (λ (l : List ProcState). k < length l) same c.loop-process-test.true in
    let read =
    subst (λ (l : List ProcState). c.state-item.result ≡ get_or l k c.state-item.result) same c.state-item.is in
    let code = has_code rerun.net.value.program.processes.items k
    (omega (
      arith,
      within,
      rerun.ordered.standings,
      length-map states standing_of,
      length-map rerun.net.value.program.processes.items code_of,
    )) in
    record {
      process = k;
      code = code.0;
      standing = standing_of c.state-item.result;
      code_is = code.1;
      standing_is = state_at states k c.state-item.result within read;
      puts = sym (c.puts_next.ensures code.0
          (ap (λ (n : Net). slice_get (network_of n.program).codes k) c.deref.ensures ∙ code.1)) ∙ c.if-puts_next.true;
    }

pub loop-process-preserved : goal.loop-process-preserved
loop-process-preserved c =
    let rerun = c.args.self.now in
    let k = c.loop-process.process in
    let states = rerun.table.states.items in
    let same : c.deref-state-items.result.now ≡ states = c.deref-state-items.ensures.value in
    let within : k < length states = subst (λ (l : List ProcState). k < length l) same c.loop-process-test.true in
    let read =
    subst (λ (l : List ProcState). c.state-item.result ≡ get_or l k c.state-item.result) same c.state-item.is in
    none_puts (net_in rerun).codes (table_in rerun).standings k (standing_of c.state-item.result)
    (state_at states k c.state-item.result within read)
    (λ code is. sym (c.puts_next.ensures code
    (ap (λ (n : Net). slice_get (network_of n.program).codes k) c.deref.ensures ∙ is)) ∙ c.if-puts_next.false)
    c.loop-process.invariant

pub returns-clause-none : goal.returns-clause-none
returns-clause-none c told p k code standing code_is standing_is puts =
    let rerun = c.args.self.now in
    let states = rerun.table.states.items in
    let within = slice_get_within (map standing_of states) p standing standing_is in
    let not = c.loop-process.invariant p code standing
    (omega (
      arith,
      within,
      length-map states standing_of,
      ap (length {A = ProcState}) c.deref-state-items.ensures.value,
      c.loop-process-test.false,
    )) code_is standing_is in
    let is = ap is_put puts in
    cc

pub returns-clause-all : goal.returns-clause-all
returns-clause-all c told limits rests n k p channel is from =
    let rerun = c.args.self.now in
    ∥∥₁_elim rerun.reached (hlevel le_prop)
    (λ r. rests_with_all (net_in rerun) (inputs_in rerun) limits (table_in rerun) rerun.net.value.valid rerun.fits r
    rests
    (returns-clause-none c refl) n k p channel is from)
