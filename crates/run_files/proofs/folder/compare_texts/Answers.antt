use Rattle.std.proofs.Common.{Ok, refl, string_bytes}
use Rattle.std.proofs.lemmas.Result.{err_from_is_err_and, on_ok_weaker}
use Rattle.host.specs.Requests.{HasUnder, Read}
use Rattle.run_files.specs.Rules.{HasSameTexts}
use Rattle.run_files.specs.Wanted.{wanted_of}
use Rattle.run_files.proofs.Caused.{net_unlike, unlike_as}
use Rattle.run_files.proofs.Going.{goes_then, judged_goes, judged_inputs, judged_net, ready_goes, under_as}
use Rattle.run_files.proofs.folder.compare_texts.Goals as goal

pub returns-in_err-compare-clause-cause : goal.returns-in_err-compare-clause-cause
returns-in_err-compare-clause-cause g c =
    let p = err_from_is_err_and c.from_residual-in_err-compare.result c.from_residual-in_err-compare.ensures.1 in
    rw (p.1, p.2) (net_unlike _ _ _ _ _ _ c.requires.wanted
    (c.compare.ensures.goes.later _ (judged_net g.J.Judge.accepts _ _ _ _ _ c.requires.judged))
    (unlike_as _ _ _ _ _ c.in_ok-net.ensures c.in_err-compare.ensures.cause))

pub compare_or_replace-requires-clause-ready : goal.compare_or_replace-requires-clause-ready
compare_or_replace-requires-clause-ready g c κs within = ready_goes _ _ _ _ c.compare.ensures.goes c.requires.ready

pub compare_or_replace-requires-clause-held : goal.compare_or_replace-requires-clause-held
compare_or_replace-requires-clause-held g c κs within = c.compare.ensures.goes.held _ c.requires.held

pub compare_or_replace-requires-clause-judged : goal.compare_or_replace-requires-clause-judged
compare_or_replace-requires-clause-judged g c κs within = judged_goes _ _ _ _ _ _ _ c.compare.ensures.goes c.requires.judged

pub compare_or_replace-requires-clause-net : goal.compare_or_replace-requires-clause-net
compare_or_replace-requires-clause-net g c κs within = under_as _ _ _ _ _ _ c.in_ok-net.ensures refl c.in_ok-compare.ensures.same

pub returns-clause-goes : goal.returns-clause-goes
returns-clause-goes g c = goes_then _ _ _ _ _ c.compare.ensures.goes c.compare_or_replace.ensures.goes

pub returns-clause-same : goal.returns-clause-same
returns-clause-same g c =
    let goes = goes_then _ _ _ _ _ c.compare.ensures.goes c.compare_or_replace.ensures.goes in
    let log = g.H.Host.asked c.compare_or_replace.new.host in
    let folder = string_bytes c.args.folder.now in
    let Same = HasSameTexts (wanted_of c.args.names.now) folder log in
    let Read_ = HasUnder folder (Read (string_bytes c.in_ok-inputs.inputs) (Ok c.args.texts.inputs.now.items)) log in
    let texts : Read_ → Same = λ same. record {
      net = c.args.texts.net.now.items;
      inputs = c.args.texts.inputs.now.items;
      net_read = goes.later _ (judged_net g.J.Judge.accepts _ _ _ _ _ c.requires.judged);
      inputs_read = goes.later _ (judged_inputs g.J.Judge.accepts _ _ _ _ _ c.requires.judged);
      same_net = c.compare_or_replace.ensures.goes.under _ _ (under_as _ _ _ _ _ _ c.in_ok-net.ensures refl c.in_ok-compare.ensures.same);
      same_inputs = under_as _ _ _ _ _ _ c.in_ok-inputs.ensures refl same;
    } in
    on_ok_weaker c.compare_or_replace.result texts c.compare_or_replace.ensures.same
