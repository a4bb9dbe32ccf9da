use Rattle.std.proofs.Common.{refl, sym, ◌∙◌, codes, string_bytes}
use Rattle.std.proofs.lemmas.Result.{err_from_is_err_and}
use Rattle.run_files.specs.Causes.{inputs, IsCaused, IsUnlike}
use Rattle.run_files.specs.Wanted.{wanted_of}
use Rattle.run_files.specs.declared.fault.Refused.{Refused}
use Rattle.run_files.proofs.Caused.{inputs_changed, inputs_unreplaced, read_as, renamed_as, text_unread, unlike_as, unread_as}
use Rattle.run_files.proofs.Going.{goes_then, judged_goes, judged_inputs, ready_goes, under_as}
use Rattle.run_files.proofs.Left.{err_as}
use Rattle.run_files.proofs.folder.compare_or_replace.Goals as goal

pub returns-in_err-kept-clause-cause : goal.returns-in_err-kept-clause-cause
returns-in_err-kept-clause-cause g c =
    let p = err_from_is_err_and c.from_residual.result c.from_residual.ensures.1 in
    rw (p.1, p.2) (text_unread _ _ _ _ (codes "/inputs") _ _ c.requires.wanted inputs (unread_as _ _ _ _ c.requires.named c.in_err-kept.ensures.cause))

pub returns-clause-cause : goal.returns-clause-cause
returns-clause-cause g c =
    let judged = judged_goes _ _ _ _ _ _ _ c.read_held.ensures.goes c.requires.judged in
    inputs_changed _ _ _ _ judged.given _ _ c.differs.ensures c.requires.wanted judged.read
    (read_as _ _ _ _ c.requires.named c.in_ok-kept.ensures.has)
    (λ same. c.is_same.ensures.other c.if-is_same.false (same ∙ judged.inputs_text))
    (c.in_ok-has_grown.ensures.changed c.if-branch.false judged.given judged.judged)

pub replace_text-requires-clause-ready : goal.replace_text-requires-clause-ready
replace_text-requires-clause-ready g c κs within = ready_goes _ _ _ _ c.read_held.ensures.goes c.requires.ready

pub replace_text-requires-clause-grown : goal.replace_text-requires-clause-grown
replace_text-requires-clause-grown g c κs within =
    let judged = judged_goes _ _ _ _ _ _ _ c.read_held.ensures.goes c.requires.judged in record {
      given = judged.given;
      kept = c.in_ok-kept.kept.items;
      read = judged.read;
      text = judged.inputs_text;
      accepted = c.in_ok-has_grown.ensures.grown c.if-branch.true judged.given judged.judged;
      held = c.read_held.ensures.goes.held _ c.requires.held;
      same_net = under_as _ _ _ _ _ _ refl (sym judged.net_text) (c.read_held.ensures.goes.under _ _ c.requires.net);
      other_inputs = under_as _ _ _ _ _ _ c.requires.named refl c.in_ok-kept.ensures.read;
    }

pub returns-in_err-replace_text-clause-goes : goal.returns-in_err-replace_text-clause-goes
returns-in_err-replace_text-clause-goes g c = goes_then _ _ _ _ _ c.read_held.ensures.goes c.replace_text.ensures.goes

pub compare-requires-clause-held : goal.compare-requires-clause-held
compare-requires-clause-held g c κs within = c.replace_text.ensures.goes.held _ (c.read_held.ensures.goes.held _ c.requires.held)

pub returns-then-branch-clause-goes : goal.returns-then-branch-clause-goes
returns-then-branch-clause-goes g c =
    goes_then _ _ _ _ _ (goes_then _ _ _ _ _ c.read_held.ensures.goes c.replace_text.ensures.goes) c.compare.ensures.goes

pub returns-then-branch-clause-cause : goal.returns-then-branch-clause-cause
returns-then-branch-clause-cause g c =
    let replaced = c.in_ok-replace_text.ensures.renamed in
    let goes = goes_then _ _ _ _ _ (goes_then _ _ _ _ _ c.read_held.ensures.goes c.replace_text.ensures.goes) c.compare.ensures.goes in
    let log = g.H.Host.asked c.compare.new.host in
    err_as c.compare.result
    (λ (refused : Refused). IsUnlike (string_bytes c.args.path.now) c.args.texts.inputs.now.items log refused.fault)
    (λ (refused : Refused). IsCaused g.J.Judge.accepts (wanted_of c.args.names.now) log refused.fault)
    (λ refused unlike. inputs_unreplaced _ _ _ _ replaced.0 _ _ c.requires.wanted
    (renamed_as _ _ _ _ c.requires.named (c.compare.ensures.goes.later _ replaced.1))
    (goes.later _ (judged_inputs g.J.Judge.accepts _ _ _ _ _ c.requires.judged)) (unlike_as _ _ _ _ _ c.requires.named unlike))
    c.compare.ensures.cause
