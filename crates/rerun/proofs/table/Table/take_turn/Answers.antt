use Rattle.std.proofs.Common.{◌≡◌, ℕ, ◌+◌, ◌≤◌, ℤ, List, length, ap, ◌∙◌, sym, subst, arith}
use Rattle.std.specs.Prelude.{slice_get, slice_index}
use Rattle.std.specs.Vec.{with_items}
use Rattle.std.proofs.Math.Logic.{∥∥₁_map}
use Rattle.std.proofs.lemmas.Grind.{common_steps}
use Rattle.std.proofs.lemmas.List.{map-set}
use Rattle.std.proofs.lemmas.Option.{slice_get_within}
use Rattle.kahn_net.specs.States.{standing_of}
use Rattle.kahn_net.specs.Syntax.{network_of}
use Rattle.kahn_net.specs.declared.limits.TheConstants.{MAX_COUNT}
use Rattle.kahn_net.specs.declared.program.Channel.{Channel}
use Rattle.net_check.specs.declared.net.Net.{Net}
use Rattle.retained.specs.LogState.{Overfills}
use Rattle.rerun.specs.TableOf.{table_view}
use Rattle.rerun.specs.Tables.{log_on, put_by, taken_by}
use Rattle.rerun.proofs.Places.{has_code, stands}
use Rattle.rerun.proofs.Taken.{never_full, still_counts, in_log, got_is, pushed_is, logs_is}
use Rattle.rerun.proofs.table.Table.take_turn.Goals as goal

pub push_from-requires : goal.push_from-requires
push_from-requires c = λ k low full. (
    let net = network_of c.args.net.now.value.program in
    let old = table_view c.args.self.now in
    let done = c.in-Ok.done in
    let code = has_code c.args.net.now.value.program.processes.items c.args.process c.requires.here in
    let own = slice_get_within net.codes c.args.process code.0 code.1 in
    let standing = stands old.standings c.args.process (omega (arith, c.requires.ordered.standings, own)) in
    let channels : c.as_slice-channels.result.now ≡ net.channels =
    c.as_slice-channels.ensures.value ∙ ap (λ (n : Net). n.program.channels.items) c.deref.ensures in
    never_full net c.args.inputs.now c.args.limits.now c.args.process old c.args.net.now.value.valid c.requires.fits
    c.requires.ordered c.requires.reached code.0 standing.0 (standing_of done.state) done.taken.items done.sent.items
    code.1
    standing.1 (c.in-Ok.ensures code.0 standing.0 code.1 standing.1) k
    (subst (λ (l : List (List ℤ)). Overfills (log_on old k)
    (length (put_by c.args.process l k (slice_get net.channels k))))
    c.deref-in-Ok.ensures.value
    (subst (λ (l : List Channel). Overfills (log_on old k) (length (put_by c.args.process c.deref-in-Ok.result.now k
    (slice_get l k)))) channels full)))

pub count_taken-requires : goal.count_taken-requires
count_taken-requires c = λ k. (
    let net = network_of c.args.net.now.value.program in
    let old = table_view c.args.self.now in
    let done = c.in-Ok.done in
    let code = has_code c.args.net.now.value.program.processes.items c.args.process c.requires.here in
    let own = slice_get_within net.codes c.args.process code.0 code.1 in
    let standing = stands old.standings c.args.process (omega (arith, c.requires.ordered.standings, own)) in
    let channels : c.as_slice-channels.result.now ≡ net.channels =
    c.as_slice-channels.ensures.value ∙ ap (λ (n : Net). n.program.channels.items) c.deref.ensures in
    let counts = still_counts net c.args.inputs.now c.args.limits.now c.args.process old c.args.net.now.value.valid
    c.requires.fits c.requires.ordered c.requires.reached code.0 standing.0 (standing_of done.state) done.taken.items
    done.sent.items code.1 standing.1 (c.in-Ok.ensures code.0 standing.0 code.1 standing.1) k in
    subst (λ (l : List ℕ). slice_index l k + taken_by c.args.process c.deref-in-Ok-2.result.now k
    (slice_get c.as_slice-channels.result.now k) ≤ MAX_COUNT) (sym c.deref_mut.ensures.value)
    (subst (λ (l : List ℕ). slice_index old.got k + taken_by c.args.process l k
    (slice_get c.as_slice-channels.result.now k) ≤ MAX_COUNT) (sym c.deref-in-Ok-2.ensures.value)
    (subst (λ (l : List Channel). slice_index old.got k + taken_by c.args.process done.taken.items k
    (slice_get l k) ≤ MAX_COUNT) (sym channels) counts)))

pub let_go-requires-clause-inside : goal.let_go-requires-clause-inside
let_go-requires-clause-inside c = λ k channel is leads. (
    let net = network_of c.args.net.now.value.program in
    let old = table_view c.args.self.now in
    let done = c.in-Ok.done in
    let code = has_code c.args.net.now.value.program.processes.items c.args.process c.requires.here in
    let own = slice_get_within net.codes c.args.process code.0 code.1 in
    let standing = stands old.standings c.args.process (omega (arith, c.requires.ordered.standings, own)) in
    let channels : c.as_slice-channels.result.now ≡ net.channels =
    c.as_slice-channels.ensures.value ∙ ap (λ (n : Net). n.program.channels.items) c.deref.ensures in
    let there = ap (λ (l : List Channel). slice_get l k) (sym channels) ∙ is in
    let below = slice_get_within net.channels k channel there in
    let whole : (with_items c.args.self.now.got c.count_taken.new.got).items ≡ c.count_taken.new.got =
    grind (arith, common_steps) in
    let counted = got_is c.args.process old.got c.deref_mut.result.now c.count_taken.new.got c.deref-in-Ok-3.result.now
    done.taken.items c.deref-in-Ok-2.result.now net.channels c.as_slice-channels.result.now
    (c.deref-in-Ok-3.ensures.value ∙ whole) c.deref_mut.ensures.value channels c.deref-in-Ok-2.ensures.value
    c.requires.ordered.counts c.count_taken.ensures k below in
    let logged = pushed_is c.args.process old.logs c.push_from.new.logs.items done.sent.items c.deref-in-Ok.result.now
    net.channels c.as_slice-channels.result.now channels c.deref-in-Ok.ensures.value c.requires.ordered.logs
    c.in-Ok-push_from.ensures.behind k below in
    in_log net c.args.inputs.now c.args.limits.now c.args.process old c.args.net.now.value.valid c.requires.fits
    c.requires.ordered c.requires.reached code.0 standing.0 (standing_of done.state) done.taken.items done.sent.items
    code.1
    standing.1 (c.in-Ok.ensures code.0 standing.0 code.1 standing.1) k channel _ _ _ there leads logged counted)

pub returns-in-Ok-push_from-clause-ok : goal.returns-in-Ok-push_from-clause-ok
returns-in-Ok-push_from-clause-ok c =
    let net = network_of c.args.net.now.value.program in
    let old = table_view c.args.self.now in
    let done = c.in-Ok.done in
    let code = has_code c.args.net.now.value.program.processes.items c.args.process c.requires.here in
    let own = slice_get_within net.codes c.args.process code.0 code.1 in
    let standing = stands old.standings c.args.process (omega (arith, c.requires.ordered.standings, own)) in
    let channels : c.as_slice-channels.result.now ≡ net.channels =
    c.as_slice-channels.ensures.value ∙ ap (λ (n : Net). n.program.channels.items) c.deref.ensures in
    let whole : (with_items c.args.self.now.got c.count_taken.new.got).items ≡ c.count_taken.new.got =
    grind (arith, common_steps) in
    ∥∥₁_map (c.in-Ok.ensures code.0 standing.0 code.1 standing.1)
    (λ turn. record {
      code = code.0;
      before = standing.0;
      after = standing_of done.state;
      taken = done.taken.items;
      sent = done.sent.items;
      code_is = code.1;
      before_is = standing.1;
      turn = turn;
      standings = map-set standing_of c.args.self.now.states.items c.args.process done.state;
      counts = ap (length {A = ℕ}) whole ∙ (c.count_taken.auto.got ∙ ap (length {A = ℕ}) c.deref_mut.ensures.value);
      got = got_is c.args.process old.got c.deref_mut.result.now c.count_taken.new.got _ done.taken.items
          c.deref-in-Ok-2.result.now net.channels c.as_slice-channels.result.now whole c.deref_mut.ensures.value
          channels
          c.deref-in-Ok-2.ensures.value c.requires.ordered.counts c.count_taken.ensures;
      logged = c.let_go.ensures.count ∙ c.in-Ok-push_from.ensures.count;
      logs = logs_is c.args.process old.logs c.push_from.new.logs.items c.let_go.new.logs.items _
          c.deref-in-Ok-3.result.now done.sent.items net.channels c.as_slice-channels.result.now channels
          c.deref-in-Ok-3.ensures.value
          (pushed_is c.args.process old.logs c.push_from.new.logs.items done.sent.items c.deref-in-Ok.result.now
          net.channels c.as_slice-channels.result.now channels c.deref-in-Ok.ensures.value c.requires.ordered.logs
          c.in-Ok-push_from.ensures.behind)
          c.let_go.ensures.logs;
    })
