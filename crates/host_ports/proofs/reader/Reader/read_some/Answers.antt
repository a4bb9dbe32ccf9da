use Rattle.std.proofs.Common.{◌∙◌, ◌++◌, List, ℤ, sym, ap}
use Rattle.item_bytes.specs.Bytes.{items_of}
use Rattle.item_text.specs.Items.{read_bytes, reading}
use Rattle.host_ports.proofs.Reading.{bytes_read, so_where_both, so_where_ok, text_read}
use Rattle.host_ports.proofs.reader.Reader.read_some.Goals as goal

pub returns-in-OfText : goal.returns-in-OfText
returns-in-OfText c = so_where_ok c.read.result c.read.ensures.ok (λ read form came stood.
    text_read form came c.args.piece.now c.in-OfText.reader _ _ c.requires.some
    (read ∙ ap (λ (items : List ℤ). read_bytes c.args.piece.now (reading c.in-OfText.reader items)) c.requires.empty) (sym c.in-OfText.is ∙ stood))

pub returns-in-OfBytes : goal.returns-in-OfBytes
returns-in-OfBytes c = so_where_both c.read-in-OfBytes.result c.read-in-OfBytes.ensures.state c.read-in-OfBytes.ensures.items (λ on read form came stood.
    bytes_read form came c.args.piece.now c.in-OfBytes.reader _ _ on
    (read ∙ ap (λ (items : List ℤ). items ++ items_of (c.in-OfBytes.reader.kept ++ c.args.piece.now)) c.requires.empty) (sym c.in-OfBytes.is ∙ stood))
