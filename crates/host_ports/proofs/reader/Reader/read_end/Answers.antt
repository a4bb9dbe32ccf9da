use Rattle.std.proofs.Common.{◌∙◌, List, ℤ, [], ◌∷◌, sym, ap}
use Rattle.item_text.specs.Items.{read_bytes, reading}
use Rattle.host_ports.proofs.Reading.{so_where_ok, text_ended}
use Rattle.host_ports.proofs.reader.Reader.read_end.Goals as goal

pub returns-in-OfText : goal.returns-in-OfText
returns-in-OfText c = so_where_ok c.read.result c.read.ensures.ok (λ read form came stood.
    text_ended form came c.in-OfText.reader _ _
    (read ∙ ap (λ (items : List ℤ). read_bytes (32 ∷ []) (reading c.in-OfText.reader items)) c.requires.empty) (sym c.in-OfText.is ∙ stood))
