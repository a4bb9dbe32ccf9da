use Rattle.std.proofs.Common.{[], ◌∷◌, ◌++◌, Result, Ok, Err, OnOk, ap, ◌∙◌}
use Rattle.slot_cell.specs.SplitCell.{disk_in}
use Rattle.protocol.specs.Node.Common.{cell_in}
use Rattle.world.proofs.closing.add_station.Goals as goal

-- what holds is so where a result is Ok, too
held : {A E : Type 0} (P : Type 0) (r : Result A E) → P → OnOk r P
held P (Ok x) p = p
held P (Err e) p = tt

pub returns-clause-disks : goal.returns-clause-disks
returns-clause-disks g c =
    held _ _ (c.in_ok-push.ensures.items
    ∙ ap (λ disk. c.args.disks.now.items ++ disk ∷ []) (c.close-2.ensures ∙ ap disk_in (c.close.ensures ∙ ap cell_in c.into_parts-store.ensures.store)))
