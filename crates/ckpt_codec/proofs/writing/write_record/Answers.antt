use Rattle.std.proofs.Common.{◌++◌, List, ℕ, ap, ◌∙◌}
use Rattle.ckpt_codec.specs.Spelling.{spelling}
use Rattle.ckpt_codec.specs.declared.version.TheConstants.{VERSION}
use Rattle.ckpt_codec.proofs.Spelled.{record_short, is_text}
use Rattle.ckpt_codec.proofs.writing.write_record.Goals as goal

pub put_record-requires : goal.put_record-requires
put_record-requires c = record_short c.args.kept.now c.requires

pub returns : goal.returns
returns c =
    is_text c.args.kept.now c.put_record.new.out.items c.requires c.in_ok-put_record.ensures.fit
    (c.in_ok-put_record.ensures.put ∙ ap (λ (t : List ℕ). t ++ spelling VERSION c.args.kept.now) c.in_ok-out.ensures.items)
