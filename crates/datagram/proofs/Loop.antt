-- Needs read one by one.
use Rattle.std.proofs.Common.{◌≡◌, ℕ, suc, ◌-◌, ◌+◌, ◌≤◌, ◌<◌, List, [], ◌∷◌, ◌++◌, Some, None, refl, sym, ap, ◌∙◌}
use Rattle.std.proofs.Common.{append_assoc, arith}
use Rattle.std.proofs.lemmas.List.{append-nil}
use Rattle.datagram.specs.declared.fault.PacketFault.{PacketFault}
use Rattle.datagram.specs.declared.fault.PacketFault.TheVariants.{NoMemory, BadPacket}
use Rattle.datagram.specs.declared.packet.Need.{Need}
use Rattle.datagram.specs.Reading.{◌>>=◌, Found, Fails, need_at, needs_at}

-- those read before, and those that follow
abbrev pub behind : List Need → Found (List Need) → Found (List Need)
behind before read = read >>= λ x. Some (before ++ x.0, x.1)

moved_over : (before : List Need) (need : Need) (read : Found (List Need))
    → behind before (read >>= λ x. Some (need ∷ x.0, x.1)) ≡ behind (before ++ need ∷ []) read
moved_over before need None = refl
moved_over before need (Some x) = ap (λ (needs : List Need). Some (needs, x.1)) (simp append_assoc)

-- one more was read
pub one_more : (before : List Need) (count i : ℕ) (text : List ℕ) (need : Need) (rest : List ℕ)
    (whole : Found (List Need)) → i < count
    → need_at text ≡ Some (need, rest) → behind before (needs_at (count - i) text) ≡ whole
    → behind (before ++ need ∷ []) (needs_at (count - (i + 1)) rest) ≡ whole
unfolding needs_at
one_more before count i text need rest whole lt found so_far =
    let left : count - i ≡ suc (count - (i + 1)) = omega arith in
    let step : behind before (needs_at (count - i) text)
    ≡ behind (before ++ need ∷ []) (needs_at (count - (i + 1)) rest)
    = rw (left, found) (moved_over before need (needs_at (count - (i + 1)) rest)) in
    sym step ∙ so_far

-- one can't be read
pub stops : (fault : PacketFault) (before : List Need) (count i : ℕ) (text : List ℕ) (whole : Found (List Need))
    → i < count
    → Fails fault (need_at text) → behind before (needs_at (count - i) text) ≡ whole → Fails fault whole
unfolding needs_at
stops NoMemory before count i text whole lt failed so_far = tt
stops BadPacket before count i text whole lt failed so_far =
    let left : count - i ≡ suc (count - (i + 1)) = omega arith in
    let none : behind before (needs_at (count - i) text) ≡ None = rw (left, failed) refl in
    sym so_far ∙ none

-- all were read
pub has_all : (before : List Need) (count i : ℕ) (text : List ℕ) (whole : Found (List Need)) → count ≤ i
    → behind before (needs_at (count - i) text) ≡ whole → whole ≡ Some (before, text)
unfolding needs_at
has_all before count i text whole le so_far =
    let left : count - i ≡ 0 = omega arith in
    let all : behind before (needs_at (count - i) text) ≡ Some (before, text)
    = rw left (ap (λ (needs : List Need). Some (needs, text)) (append-nil before)) in
    sym so_far ∙ all
