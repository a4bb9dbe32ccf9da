-- A frame that is begun by a length, the value that is put behind it, and the zeros that end it.
use Rattle.std.proofs.Common.{◌≡◌, ℕ, ◌+◌, ◌-◌, ◌≤◌, List, ◌++◌, length, take, drop, replicate}
use Rattle.std.proofs.Common.{refl, sym, ◌∙◌, ap, arith, length-append, length-drop}
use Rattle.std.proofs.lemmas.List.{take_at, drop_at, length-replicate, take-append-le, drop-append-le}
use Rattle.std.proofs.lemmas.List.{take_all}
use Rattle.std.specs.Int.{w64, from_be_bytes}
use Rattle.gate_cell.specs.declared.frame.TheConstants.{LENGTH_BYTES}
use Rattle.gate_cell.specs.Layout.{frame_size, length_in, IsFront, IsBegun, IsFrame}
use Rattle.gate_cell.specs.declared.TheConstants.{MAX_VALUE_BYTES}

-- a value behind its length is a frame that is begun
pub begun_with : (front value bytes : List ℕ) → IsFront (length value) front → bytes ≡ front ++ value
    → length value ≤ MAX_VALUE_BYTES → IsBegun bytes
begun_with front value bytes is_front is few =
    let long : length bytes ≡ LENGTH_BYTES + length value =
    ap (length {A = ℕ}) is ∙ omega (arith, length-append front value, is_front.long) in
    record {
      front = omega (arith, long);
      long = ap (λ (l : List ℕ). from_be_bytes w64 (take LENGTH_BYTES l)) is
          ∙ ap (from_be_bytes w64) (take_at front value LENGTH_BYTES is_front.long)
          ∙ is_front.says ∙ omega (arith, long);
      fits = omega (arith, long, few);
    }

-- and what stands behind its length is the value
pub value_behind : (front value bytes : List ℕ) → IsFront (length value) front → bytes ≡ front ++ value
    → drop LENGTH_BYTES bytes ≡ value
value_behind front value bytes is_front is =
    ap (drop LENGTH_BYTES) is ∙ drop_at front value LENGTH_BYTES is_front.long

module _ (begun ended : List ℕ) (had len : ℕ) (is_begun : IsBegun begun) (counted : had ≡ length begun)
    (len_is : len ≡ frame_size (had - LENGTH_BYTES))
    (is : ended ≡ take len begun ++ replicate (len - had) 0) where
  more : length begun ≤ len
  more = omega (arith, counted, len_is, is_begun.front)

  whole : ended ≡ begun ++ replicate (len - length begun) 0
  whole = is ∙ ap (λ n. take len begun ++ replicate (len - n) 0) counted
      ∙ ap (λ (l : List ℕ). l ++ replicate (len - length begun) 0) (take_all len begun more)

  count : length ended ≡ len
  count = ap (length {A = ℕ}) whole
      ∙ omega (
        arith,
        more,
        length-append begun (replicate (len - length begun) 0),
        length-replicate {A = ℕ} (len - length begun) 0,
      )

  value_len : length (drop LENGTH_BYTES begun) ≡ length begun - LENGTH_BYTES
  value_len = length-drop LENGTH_BYTES begun

  front : length_in ended ≡ length (drop LENGTH_BYTES begun)
  front = ap (λ (l : List ℕ). from_be_bytes w64 (take LENGTH_BYTES l)) whole
      ∙ ap (from_be_bytes w64) (take-append-le LENGTH_BYTES begun (replicate (len - length begun) 0) is_begun.front)
      ∙ is_begun.long ∙ sym value_len

  rest : drop LENGTH_BYTES ended ≡ drop LENGTH_BYTES begun ++ replicate (len - length begun) 0
  rest = ap (drop LENGTH_BYTES) whole
      ∙ drop-append-le LENGTH_BYTES begun (replicate (len - length begun) 0) is_begun.front

  pub is_ended : IsFrame (drop LENGTH_BYTES begun) ended
  is_ended = record {
    whole = count ∙ len_is ∙ ap frame_size (omega (arith, counted, value_len));
    long = front;
    holds = ap (λ n. take n (drop LENGTH_BYTES ended)) front ∙ ap (take (length (drop LENGTH_BYTES begun))) rest
        ∙ take_at (drop LENGTH_BYTES begun) (replicate (len - length begun) 0) (length (drop LENGTH_BYTES begun)) refl;
    zeros = ap (λ n. drop n ended) (omega (arith, value_len, is_begun.front))
        ∙ ap (drop (length begun)) whole ∙ drop_at begun (replicate (len - length begun) 0) (length begun) refl
        ∙ ap (λ n. replicate n 0) (omega (arith, count, value_len, is_begun.front));
  }
