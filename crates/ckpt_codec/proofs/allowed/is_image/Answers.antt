use Rattle.std.proofs.Common.{option_copied}
use Rattle.ckpt_codec.specs.Testing.{process_list_fields, end_list_fields}
use Rattle.ckpt_codec.proofs.Testing.{not_first, others}
use Rattle.ckpt_codec.proofs.allowed.is_image.Goals as goal

pub returns-then-not-processes_stand : goal.returns-then-not-processes_stand
returns-then-not-processes_stand c =
    not_first (process_list_fields (option_copied c.args.like) c.args.image.now)
    (end_list_fields (option_copied c.args.like) c.args.image.now) _ c.processes_stand.ensures
    c.if-not-processes_stand.true

pub returns : goal.returns
returns c =
    others (process_list_fields (option_copied c.args.like) c.args.image.now)
    (end_list_fields (option_copied c.args.like) c.args.image.now) _ _ c.processes_stand.ensures
    c.if-not-processes_stand.false c.ends_stand.ensures
