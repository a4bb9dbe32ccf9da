-- Items that are written in one move, and by blocks.
use Rattle.std.proofs.Common.{◌≡◌, ◌+◌, ◌*◌, ◌-◌, ℕ, ℤ, List, [], ◌∷◌, ◌++◌, refl, sym, ap, ◌∙◌, length, take, drop, min, arith}
use Rattle.std.proofs.Common.{append_assoc}
use Rattle.std.specs.Prelude.{All, FitsSigned}
use Rattle.std.specs.Int.{w64, cast_unsigned}
use Rattle.std.specs.List.{flat_map, AllByRecursion}
use Rattle.std.proofs.Math.ListN.{drop_of_length-le}
use Rattle.std.proofs.lemmas.Int.{int_wrap_fits}
use Rattle.std.proofs.lemmas.List.{append-nil, length-drop, take_min}
use Rattle.std.proofs.lemmas.Grind.{flat_map-append}
use Rattle.std.proofs.Math.Seq.{take-add}
use Rattle.std.proofs.lemmas.List.Concat.{flat_map-cons}
use Rattle.std.proofs.lemmas.List.Elements.{recursion_from_All}
use Rattle.byteorder.specs.Endian.{big_bytes}
use Rattle.ckpt_codec.specs.Fields.{number_text}
use Rattle.ckpt_codec.specs.Spelling.{item_text, items_text}

abbrev written : ℤ → List ℕ
written z = big_bytes 8 (cast_unsigned w64 z)

one_written : (z : ℤ) → FitsSigned w64 z → written z ≡ item_text z
unfolding item_text number_text
one_written z fits = ap (λ (v : ℤ). big_bytes 8 (cast_unsigned w64 v)) (sym (int_wrap_fits w64 z fits))

each_written : (zs : List ℤ) → AllByRecursion (FitsSigned w64) zs → flat_map written zs ≡ items_text zs
each_written [] all = refl
each_written (z ∷ zs) all =
    flat_map-cons written z zs
    ∙ (ap (λ (t : List ℕ). t ++ flat_map written zs) (one_written z all.0)
    ∙ (ap (λ (t : List ℕ). item_text z ++ t) (each_written zs all.1)
    ∙ sym (flat_map-cons item_text z zs)))

-- bytes with all of them in the place of what stood behind the first ones
pub written_behind : (bytes : List ℕ) (start : ℕ) (zs : List ℤ) (mid : List ℕ) → All (FitsSigned w64) zs
    → length bytes ≡ start + 8 * length zs → mid ≡ flat_map written zs
    → take start bytes ++ (mid ++ drop (length bytes - start) (drop start bytes)) ≡ take start bytes ++ items_text zs
written_behind bytes start zs mid all room is =
    let none : drop (length bytes - start) (drop start bytes) ≡ [] =
    drop_of_length-le (drop start bytes) (omega (arith, length-drop start bytes)) in
    ap (λ (t : List ℕ). take start bytes ++ t)
    (ap (λ (t : List ℕ). mid ++ t) none ∙ (append-nil mid
    ∙ (is ∙ each_written zs (recursion_from_All (FitsSigned w64) zs all))))

-- once a block was put behind the blocks before it, so many items were put
pub next_block : (items : List ℤ) (block first last number : ℕ) (old had new : List ℕ) (part : List ℤ)
    → had ≡ old ++ items_text (take (block * number) items) → first ≡ block * number
    → last ≡ min (length items) (first + block)
    → part ≡ take (last - first) (drop first items) → new ≡ had ++ items_text part
    → new ≡ old ++ items_text (take (block * (number + 1)) items)
next_block items block first last number old had new part had_is first_is last_is part_is is =
    let rest = drop first items in
    let count : last - first ≡ min block (length rest) = grind (arith, last_is, length-drop first items) in
    let whole : part ≡ take block rest = part_is ∙ (ap (λ n. take n rest) count ∙ take_min block rest) in
    let more : take (block * (number + 1)) items ≡ take first items ++ take block rest =
    ap (λ n. take n items) (omega (arith, first_is)) ∙ take-add first block items in
    is ∙ (ap (λ (t : List ℕ). t ++ items_text part) had_is
    ∙ (append_assoc old (items_text (take (block * number) items)) (items_text part)
    ∙ ap (λ (t : List ℕ). old ++ t)
    (ap (λ n. items_text (take n items) ++ items_text part) (sym first_is)
    ∙ (ap (λ (zs : List ℤ). items_text (take first items) ++ items_text zs) whole
    ∙ (sym (flat_map-append item_text (take first items) (take block rest)) ∙ ap items_text (sym more))))))
