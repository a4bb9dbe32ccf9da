use Rattle.std.proofs.Common.{◌≡◌, length}
use Rattle.std.specs.Str.{IsUtf8}
use Rattle.net_text.specs.InputReading.{items_at}
use Rattle.net_text.proofs.Items.{after_found}
use Rattle.net_text.proofs.inputs.items.Given as goal

abbrev pub invariant-items : goal.invariant-items
invariant-items l =
    record { found : after_found l.items.items (items_at l.line l.rest) ≡ items_at l.line l.text; text : IsUtf8 l.rest }

abbrev pub decreases-items : goal.decreases-items
decreases-items l = length l.rest
