use Rattle.std.proofs.Common.{subst, List, map, string_bytes, ◌++◌, ◌∷◌, []}
use Rattle.std.specs.declared.alloc.Global.{Global}
use Rattle.std.specs.declared.string.String.{String}
use Rattle.run_files.specs.Opening.{paths_in}
use Rattle.run_files.specs.Syncing.{AreSyncedIf}
use Rattle.run_files.proofs.Going.{goes_then, in_any, ready_goes, synced_later}
use Rattle.run_files.proofs.folder.open_locked.Goals as goal

pub open_each-requires-clause-ready : goal.open_each-requires-clause-ready
open_each-requires-clause-ready g c κs within = ready_goes _ _ _ _ c.check_and_settle.ensures.goes c.requires.ready

pub open_each-requires-clause-held : goal.open_each-requires-clause-held
open_each-requires-clause-held g c κs within = c.check_and_settle.ensures.goes.held _ c.requires.held

pub returns-clause-goes : goal.returns-clause-goes
returns-clause-goes g c = goes_then _ _ _ _ _ c.check_and_settle.ensures.goes c.open_each.ensures.goes

pub returns-clause-synced : goal.returns-clause-synced
returns-clause-synced g c = in_any _ _ (λ all. synced_later _ _ _ _ c.open_each.ensures.goes.later
    (subst (λ (outputs : List (String Global)). AreSyncedIf c.args.names.now.sync
    (paths_in (string_bytes c.args.folder.now) (map (λ (name : String Global). string_bytes name) outputs) ++ string_bytes c.args.folder.now ∷ [])
    (g.H.Host.asked c.check_and_settle.new.host))
    c.deref.ensures.value c.in_ok-check_and_settle.ensures.synced))
