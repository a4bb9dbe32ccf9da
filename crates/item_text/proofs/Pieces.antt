-- Reading doesn't depend on the pieces in which the bytes come, nor on the items that were read before, and ends at a
-- fault.
use Rattle.std.proofs.Common.{◌≡◌, ℕ, true, List, [], ◌∷◌, ◌++◌, ℤ, is_some, refl, sym, ap, ◌∙◌, arith}
use Rattle.std.proofs.lemmas.List.{append-nil}
use Rattle.std.proofs.lemmas.Grind.{common_steps}
use Rattle.item_text.specs.Items.{ReaderState, Reading, reading, read_byte, read_bytes, behind}

-- these bytes, and then those
pub read_bytes-append : (bytes more : List ℕ) (r : Reading)
    → read_bytes (bytes ++ more) r ≡ read_bytes more (read_bytes bytes r)
read_bytes-append [] more r = refl
read_bytes-append (byte ∷ bytes) more r = read_bytes-append bytes more (read_byte byte r)

read_byte-behind : (byte : ℕ) (before : List ℤ) (r : Reading)
    → read_byte byte (behind before r) ≡ behind before (read_byte byte r)
read_byte-behind byte before r = grind (arith, common_steps)

-- behind items that were read before
pub read_bytes-behind : (bytes : List ℕ) (before : List ℤ) (r : Reading)
    → read_bytes bytes (behind before r) ≡ behind before (read_bytes bytes r)
read_bytes-behind [] before r = refl
read_bytes-behind (byte ∷ bytes) before r =
    rw (read_byte-behind byte before r) (read_bytes-behind bytes before (read_byte byte r))

-- the same of a reader and the items that stand before
pub read_bytes-added : (bytes : List ℕ) (state : ReaderState) (before : List ℤ)
    → read_bytes bytes (reading state before) ≡ behind before (read_bytes bytes (reading state []))
read_bytes-added bytes state before =
    ap (λ (items : List ℤ). read_bytes bytes (reading state items)) (sym (append-nil before))
    ∙ read_bytes-behind bytes before (reading state [])

-- behind a fault
pub read_bytes-stopped : (bytes : List ℕ) (r : Reading) → is_some r.fault ≡ true → read_bytes bytes r ≡ r
read_bytes-stopped [] r stopped = refl
read_bytes-stopped (byte ∷ bytes) r stopped = rw stopped (read_bytes-stopped bytes r stopped)
