-- Lines are counted by their line feeds, and a fault tells its own.
use Rattle.std.proofs.Common.{◌≡◌, ℕ, ◌+◌, ◌-◌, ◌^◌, ◌≤◌, min, false, List, [], ◌∷◌, Some, None, is_some, inl, inr}
use Rattle.std.proofs.Common.{arith}
use Rattle.std.proofs.lemmas.Bool.{cases_Bool}
use Rattle.std.proofs.lemmas.Grind.{common_steps}
use Rattle.item_text.specs.declared.fault.ItemFault.{ItemFault}
use Rattle.item_text.specs.Faults.{line_of}
use Rattle.item_text.specs.Items.{Reading, read_byte, read_bytes, feed_count, reading, beginning}
use Rattle.item_text.proofs.Pieces.{read_bytes-stopped}

-- one byte where there was no fault
line_read : (byte : ℕ) (r : Reading) → is_some r.fault ≡ false → r.line ≤ 2 ^ 64 - 1
    → (read_byte byte r).line ≡ min (r.line + feed_count (byte ∷ [])) (2 ^ 64 - 1)
line_read byte r going few = grind (arith, common_steps)

fault_line : (byte : ℕ) (r : Reading) (fault : ItemFault) → r.fault ≡ None → (read_byte byte r).fault ≡ Some fault
    → line_of fault ≡ r.line
fault_line byte r fault going is = grind (arith, common_steps)

-- where no fault was met all line feeds were counted
pub lines_counted : (bytes : List ℕ) (r : Reading) → r.line ≤ 2 ^ 64 - 1 → (read_bytes bytes r).fault ≡ None
    → (read_bytes bytes r).line ≡ min (r.line + feed_count bytes) (2 ^ 64 - 1)
lines_counted [] r few going = omega arith
lines_counted (byte ∷ bytes) r few going =
    elim (cases_Bool (is_some r.fault)) as (λ _. (read_bytes (byte ∷ bytes) r).line
    ≡ min (r.line + feed_count (byte ∷ bytes)) (2 ^ 64 - 1)) [
      | inl stopped ↦ grind (arith, common_steps, read_bytes-stopped (byte ∷ bytes) r stopped)
      | inr goes ↦ grind (arith, common_steps, line_read byte r goes few, lines_counted bytes (read_byte byte r))
    ]

-- a fault is told with the line in which it stands
pub fault_told : (bytes : List ℕ) (byte : ℕ) (fault : ItemFault)
    → (read_bytes bytes (reading beginning [])).fault ≡ None
    → (read_byte byte (read_bytes bytes (reading beginning []))).fault ≡ Some fault
    → line_of fault ≡ min (1 + feed_count bytes) (2 ^ 64 - 1)
fault_told bytes byte fault going is =
    grind (
      arith,
      common_steps,
      fault_line byte (read_bytes bytes (reading beginning [])) fault going is,
      lines_counted bytes (reading beginning []) (omega arith) going,
    )
