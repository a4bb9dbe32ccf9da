use Rattle.std.proofs.Common.{◌++◌, List, ℕ, ap, ◌∙◌}
use Rattle.ckpt_codec.specs.HeaderText.{header_of}
use Rattle.ckpt_codec.specs.Spelling.{header_spelling}
use Rattle.ckpt_codec.proofs.Spelled.{short_front}
use Rattle.ckpt_codec.proofs.Versions.{is_header_in}
use Rattle.ckpt_codec.proofs.Headers.{told_is_header}
use Rattle.ckpt_codec.proofs.HeaderSizes.{header_is_short}
use Rattle.ckpt_codec.proofs.apart.write_header_in.Goals as goal

pub put_header-requires : goal.put_header-requires
put_header-requires c = short_front c.args.kept.now c.requires.kept

pub returns-clause-text : goal.returns-clause-text
returns-clause-text c =
    is_header_in c.args.version c.args.slot c.args.kept.now c.put_header.new.out.items c.requires.version.0
    c.requires.version.1 c.requires.few c.requires.slot c.requires.kept
    (c.in_ok-put_header.ensures
    ∙ ap (λ (t : List ℕ). t ++ header_spelling c.args.version c.args.slot c.args.kept.now) c.in_ok-out.ensures.items)

pub returns-clause-short : goal.returns-clause-short
returns-clause-short c =
    header_is_short (header_of c.args.slot c.args.kept.now) c.put_header.new.out.items
    (told_is_header c.args.version (header_of c.args.slot c.args.kept.now) c.put_header.new.out.items
    (returns-clause-text c))
