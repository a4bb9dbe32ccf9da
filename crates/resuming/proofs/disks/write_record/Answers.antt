use Rattle.std.proofs.Common.{refl, ◌∙◌, ap}
use Rattle.slot_cell.specs.SplitCell.{disk_in}
use Rattle.resuming.proofs.Written.{written}
use Rattle.resuming.proofs.disks.write_record.Goals as goal

pub returns-in-Ok-clause-written : goal.returns-in-Ok-clause-written
returns-in-Ok-clause-written g c =
    written (λ cell. refl) (λ cell. refl) (λ cell. refl) (λ cell. refl) (λ cell. refl) c.args.kept.now _ c.args.disk
    c.close-in-Ok.result c.in-Ok.store c.in-Ok.ensures.opened
    (c.close-in-Ok.ensures ∙ ap disk_in c.close.ensures)
