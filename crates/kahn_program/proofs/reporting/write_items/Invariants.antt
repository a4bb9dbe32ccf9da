use Rattle.std.proofs.Common.{◌≡◌, ◌++◌, drop, string_bytes}
use Rattle.kahn_program.specs.Report.{items_text}
use Rattle.kahn_program.proofs.reporting.write_items.Given as goal

abbrev pub invariant-loop-item : goal.invariant-loop-item
invariant-loop-item l =
    string_bytes l.text ++ items_text (drop l.item-index l.items) ≡ string_bytes l.initial.text ++ items_text l.items
