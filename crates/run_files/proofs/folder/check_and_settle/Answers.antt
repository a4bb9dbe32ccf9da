use Rattle.std.proofs.Common.{ap, subst, ◌∙◌, List, map, string_bytes}
use Rattle.std.specs.declared.alloc.Global.{Global}
use Rattle.std.specs.declared.string.String.{String}
use Rattle.run_files.specs.Syncing.{AreSyncedIf}
use Rattle.run_files.proofs.Going.{goes_then, in_any, ready_goes, same_goes, synced_both, synced_later}
use Rattle.run_files.proofs.folder.check_and_settle.Goals as goal

pub returns-in_err-paths-clause-goes : goal.returns-in_err-paths-clause-goes
returns-in_err-paths-clause-goes g c = c.compare_texts.ensures.goes

pub settle-requires-after_bounds : goal.settle-requires-after_bounds
settle-requires-after_bounds g c κs within = ready_goes _ _ _ _ c.compare_texts.ensures.goes c.requires.ready

pub returns-in_err-settle-clause-goes : goal.returns-in_err-settle-clause-goes
returns-in_err-settle-clause-goes g c =
    goes_then _ _ _ _ _ c.compare_texts.ensures.goes c.settle.ensures.goes

pub settle_one-requires-after_bounds : goal.settle_one-requires-after_bounds
settle_one-requires-after_bounds g c κs within = ready_goes _ _ _ _ (goes_then _ _ _ _ _ c.compare_texts.ensures.goes c.settle.ensures.goes) c.requires.ready

pub returns-in_err-settle_one-clause-goes : goal.returns-in_err-settle_one-clause-goes
returns-in_err-settle_one-clause-goes g c =
    goes_then _ _ _ _ _ (goes_then _ _ _ _ _ c.compare_texts.ensures.goes c.settle.ensures.goes) c.settle_one.ensures.goes

pub returns-in_err-home-clause-goes : goal.returns-in_err-home-clause-goes
returns-in_err-home-clause-goes g c =
    goes_then _ _ _ _ _ (goes_then _ _ _ _ _ c.compare_texts.ensures.goes c.settle.ensures.goes) c.settle_one.ensures.goes

pub settle_one-requires-2-after_bounds : goal.settle_one-requires-2-after_bounds
settle_one-requires-2-after_bounds g c κs within = ready_goes _ _ _ _ (goes_then _ _ _ _ _ (goes_then _ _ _ _ _ c.compare_texts.ensures.goes c.settle.ensures.goes) c.settle_one.ensures.goes) c.requires.ready

pub returns-clause-goes : goal.returns-clause-goes
returns-clause-goes g c =
    goes_then _ _ _ _ _ (goes_then _ _ _ _ _ (goes_then _ _ _ _ _ c.compare_texts.ensures.goes c.settle.ensures.goes) c.settle_one.ensures.goes) c.settle_one-2.ensures.goes

pub returns-clause-same : goal.returns-clause-same
returns-clause-same g c = in_any _ _ (λ done. same_goes _ _ _ _ _
    (goes_then _ _ _ _ _ c.settle.ensures.goes (goes_then _ _ _ _ _ c.settle_one.ensures.goes c.settle_one-2.ensures.goes))
    c.in_ok-compare_texts.ensures.same)

pub returns-clause-synced : goal.returns-clause-synced
returns-clause-synced g c = in_any _ _ (λ done. synced_both _ _ _ _
    (synced_later _ _ _ _ (goes_then _ _ _ _ _ c.settle_one.ensures.goes c.settle_one-2.ensures.goes).later
    (subst (λ paths. AreSyncedIf c.args.names.now.sync paths (g.H.Host.asked c.settle.new.host))
    (ap (λ (paths : List (String Global)). map (λ (path : String Global). string_bytes path) paths) c.deref.ensures.value ∙ c.in_ok-paths.ensures)
    c.in_ok-settle.ensures.synced))
    (synced_later _ _ _ _ c.settle_one-2.ensures.goes.later c.in_ok-settle_one.ensures.synced))
