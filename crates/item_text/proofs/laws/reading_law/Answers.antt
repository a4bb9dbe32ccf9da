use Rattle.std.proofs.Common.{List, ℤ, [], refl, sym, ◌∙◌, subst}
use Rattle.item_text.proofs.Pieces.{read_bytes-append, read_bytes-added, read_bytes-stopped}
use Rattle.item_text.proofs.Counting.{fault_told}
use Rattle.item_text.proofs.Spelled.{lines_spell}
use Rattle.item_text.specs.declared.token.Token.TheVariants.{Between}
use Rattle.item_text.specs.Items.{reading, beginning, read_bytes}
use Rattle.item_text.specs.Texts.{IsItemsText}
use Rattle.item_text.proofs.Complete.{text_read}
use Rattle.item_text.proofs.Sound.{Read, text_is_read}
use Rattle.item_text.proofs.laws.reading_law.Goals as goal

pub returns-clause-pieces : goal.returns-clause-pieces
returns-clause-pieces c = read_bytes-append

pub returns-clause-added : goal.returns-clause-added
returns-clause-added c = read_bytes-added

pub returns-clause-exact : goal.returns-clause-exact
returns-clause-exact c = λ text items. (
  λ is. text_read items text [] _ is (record { token_is = refl; items_are = refl; no_fault = refl }),
  λ at. let read : Read text [] (read_bytes text (reading beginning [])).items =
      text_is_read text Between [] _ refl refl at.token_is at.no_fault in
      subst (λ (xs : List ℤ). IsItemsText xs text) (sym read.all_are ∙ at.items_are) read.is_text,
)

pub returns-clause-lines : goal.returns-clause-lines
returns-clause-lines c = lines_spell

pub returns-clause-stopped : goal.returns-clause-stopped
returns-clause-stopped c = read_bytes-stopped

pub returns-clause-fault : goal.returns-clause-fault
returns-clause-fault c = fault_told
