use Rattle.std.proofs.Common.{inr, subst, Ok, List, ℕ}
use Rattle.host.specs.Requests.{Has, Wrote}
use Rattle.run_files.proofs.Caused.{failed_by}
use Rattle.run_files.proofs.Going.{goes_then, grown_goes, has_goes, ready_goes, synced_later}
use Rattle.run_files.proofs.folder.write_and_replace.Goals as goal

pub returns-in-Err-clause-cause : goal.returns-in-Err-clause-cause
returns-in-Err-clause-cause g c = failed_by _ _ _ _ _ _ c.refused_by.ensures c.in-Err.ensures.fault tt

pub settle_one-requires-after_bounds : goal.settle_one-requires-after_bounds
settle_one-requires-after_bounds g c κs within = ready_goes _ _ _ _ c.write.ensures.goes c.requires.ready

pub returns-in_err-settle_one-clause-goes : goal.returns-in_err-settle_one-clause-goes
returns-in_err-settle_one-clause-goes g c = goes_then _ _ _ _ _ c.write.ensures.goes c.settle_one.ensures.goes

pub rename_text-requires-clause-ready : goal.rename_text-requires-clause-ready
rename_text-requires-clause-ready g c κs within =
    ready_goes _ _ _ _ (goes_then _ _ _ _ _ c.write.ensures.goes c.settle_one.ensures.goes) c.requires.ready

pub rename_text-requires-clause-grown : goal.rename_text-requires-clause-grown
rename_text-requires-clause-grown g c κs within =
    let written = goes_then _ _ _ _ _ c.write.ensures.goes c.settle_one.ensures.goes in
    let P : List ℕ → Type 0 = λ at. Has (Wrote at c.args.text.now.items (Ok tt)) (g.H.Host.asked c.settle_one.new.host) in
    record {
      folder = _;
      inputs = c.args.text.now.items;
      grown = grown_goes _ _ _ _ _ _ written c.requires.grown;
      made = has_goes _ _ _ _ _ written c.requires.made;
      wrote = subst P c.requires.file (has_goes _ _ _ _ _ c.settle_one.ensures.goes c.in_default.ensures.wrote);
      named = c.requires.named;
    }

pub returns-in-Ok-clause-goes : goal.returns-in-Ok-clause-goes
returns-in-Ok-clause-goes g c =
    goes_then _ _ _ _ _ (goes_then _ _ _ _ _ c.write.ensures.goes c.settle_one.ensures.goes) c.rename_text.ensures.goes

pub returns-in-Ok-clause-synced : goal.returns-in-Ok-clause-synced
returns-in-Ok-clause-synced g c = synced_later _ _ _ _ c.rename_text.ensures.goes.later c.in_ok-settle_one.ensures.synced

pub returns-in-Err-rename_text-clause-goes : goal.returns-in-Err-rename_text-clause-goes
returns-in-Err-rename_text-clause-goes g c =
    goes_then _ _ _ _ _ (goes_then _ _ _ _ _ c.write.ensures.goes c.settle_one.ensures.goes) c.rename_text.ensures.goes

pub returns-in-Err-rename_text-clause-cause : goal.returns-in-Err-rename_text-clause-cause
returns-in-Err-rename_text-clause-cause g c =
    failed_by _ _ _ _ _ _ c.refused_by-in-Err-rename_text.ensures c.in-Err-rename_text.ensures.fault (inr (_, c.requires.wanted, c.requires.named))
