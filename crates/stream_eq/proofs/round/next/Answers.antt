use Rattle.std.proofs.Common.{◌≡◌, ◌++◌, List, drop, take, length, map, sym, ap, subst, ◌∙◌, arith}
use Rattle.std.specs.Prelude.{slice_get}
use Rattle.std.proofs.lemmas.Grind.{common_steps}
use Rattle.std.proofs.lemmas.Result.{err_from_is_err_and}
use Rattle.kahn_net.specs.Common.{code_of, network_of}
use Rattle.kahn_net.specs.declared.program.Process.{Process}
use Rattle.stream_eq.specs.Limits.{GoesPast}
use Rattle.stream_eq.specs.Play.{put_by_all}
use Rattle.stream_eq.proofs.Errors.{other_err}
use Rattle.stream_eq.proofs.Rounds.{put_by_all_is_next}
use Rattle.std.proofs.lemmas.Grind.{elements}
use Rattle.stream_eq.proofs.round.next.Goals as goal

pub put_all-requires-clause-passing : goal.put_all-requires-clause-passing
put_all-requires-clause-passing c p code is =
    (c.args.net.now.valid.codes p code
    (ap (λ (ps : List Process). slice_get (map code_of ps) p) (sym c.deref.ensures.value) ∙ is)).passes

pub returns-in_err-put_all-clause-long : goal.returns-in_err-put_all-clause-long
returns-in_err-put_all-clause-long c =
    let p = err_from_is_err_and c.from_residual-in_err-put_all.result c.from_residual-in_err-put_all.ensures.1 in
    let net = network_of c.args.net.now.program in
    let histories = c.args.histories.now in
    let start = c.deref_mut.ensures.value ∙ c.in_ok-after.ensures in
    let same =
    ap (λ (ps : List Process). put_by_all (map code_of ps) histories c.deref_mut.result.now) c.deref.ensures.value
    ∙ (ap (put_by_all net.codes histories) start
    ∙ put_by_all_is_next net c.args.net.now.valid c.args.inputs.now c.requires.fits histories) in
    rw (p.1, p.2) (λ h. subst (GoesPast c.args.limits.now) same (c.in_err-put_all.ensures.long (other_err _ _ h)))

pub returns-clause-next : goal.returns-clause-next
returns-clause-next c =
    let net = network_of c.args.net.now.program in
    let histories = c.args.histories.now in
    let start = c.deref_mut.ensures.value ∙ c.in_ok-after.ensures in
    let same =
    ap (λ (ps : List Process). put_by_all (map code_of ps) histories c.deref_mut.result.now) c.deref.ensures.value
    ∙ (ap (put_by_all net.codes histories) start
    ∙ put_by_all_is_next net c.args.net.now.valid c.args.inputs.now c.requires.fits histories) in
    let whole : take c.in_ok-after.after.len
    (c.put_all.new.after ++ drop (length c.put_all.new.after) c.in_ok-after.after.items) ≡ c.put_all.new.after =
    grind (arith, common_steps) in
    whole ∙ (c.in_ok-put_all.ensures.put ∙ same)

pub returns-clause-within : goal.returns-clause-within
returns-clause-within c = grind (arith, elements)
