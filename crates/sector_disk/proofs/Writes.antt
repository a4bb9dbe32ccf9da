-- What a crash may leave after each call.
use Rattle.std.proofs.Common.{◌≡◌, inl, inr, ℕ, Bool, true, false, ◌+◌, ◌-◌, ◌*◌, ◌/◌, ◌<◌, ◌≤◌, List, ◌++◌, length}
use Rattle.std.proofs.Common.{get_or, take, drop, replicate, refl, sym, ◌∙◌, ap, subst, arith, length-drop, length-take}
use Rattle.std.proofs.lemmas.List.{get_or-take, get_or-drop, length-replicate}
use Rattle.std.proofs.lemmas.Bool.{cases_lt}
use Rattle.sector_disk.specs.Disk.{IsInRange, IsOverwritten, SameOutside, OneStepFrom}
use Rattle.sector_disk.specs.declared.TheConstants.{SECTOR_BYTES}
use Rattle.sector_disk.specs.Doubt.{marked}
use Rattle.sector_disk.specs.Images.{MayLeave}
use Rattle.sector_disk.proofs.Splice.{splice, length-spliced, take-spliced, drop-spliced, get_before, get_within}
use Rattle.sector_disk.proofs.Splice.{get_after}

pub overwritten_outside : (at : ℕ) (bytes old new : List ℕ) → at + length bytes ≤ length old
    → IsOverwritten old at bytes new → SameOutside at (length bytes) old new
overwritten_outside at bytes old new fits holds = record {
  front = ap (λ (l : List ℕ). take at l) holds ∙ take-spliced at (length bytes) old bytes fits refl;
  behind = ap (λ (l : List ℕ). drop (at + length bytes) l) holds ∙ drop-spliced at (length bytes) old bytes fits refl;
  same_size = ap length holds ∙ length-spliced at (length bytes) old bytes fits refl;
}

pub same_outside : (at n : ℕ) (c : List ℕ) → SameOutside at n c c
same_outside at n c = record { same_size = refl; front = refl; behind = refl }

module _ (first count : ℕ) (bytes after : List ℕ) (in_doubt : List Bool)
    (whole : length bytes ≡ SECTOR_BYTES * length in_doubt) (fits : first + count ≤ length in_doubt)
    (outside : SameOutside (SECTOR_BYTES * first) (SECTOR_BYTES * count) bytes after) where
  same_before : (i : ℕ) → i < SECTOR_BYTES * first → get_or after i 0 ≡ get_or bytes i 0
  same_before i lt =
      sym (get_or-take (SECTOR_BYTES * first) after i 0 lt) ∙ ap (λ (l : List ℕ). get_or l i 0) outside.front
      ∙ get_or-take (SECTOR_BYTES * first) bytes i 0 lt

  same_after : (i : ℕ) → SECTOR_BYTES * first + SECTOR_BYTES * count ≤ i → get_or after i 0 ≡ get_or bytes i 0
  same_after i le =
      let k = i - (SECTOR_BYTES * first + SECTOR_BYTES * count) in
      let at : SECTOR_BYTES * first + SECTOR_BYTES * count + k ≡ i = omega arith in
      ap (λ j. get_or after j 0) (sym at) ∙ sym (get_or-drop (SECTOR_BYTES * first + SECTOR_BYTES * count) after k 0)
      ∙ ap (λ (l : List ℕ). get_or l k 0) outside.behind
      ∙ get_or-drop (SECTOR_BYTES * first + SECTOR_BYTES * count) bytes k 0 ∙ ap (λ j. get_or bytes j 0) at

  -- an outcome after the write comes from one before it, in which the range is as it was
  pub write_follows : OneStepFrom (MayLeave bytes in_doubt) (MayLeave after (marked first count in_doubt))
      (SameOutside (SECTOR_BYTES * first) (SECTOR_BYTES * count))
  write_follows c left =
      let m = take (SECTOR_BYTES * count) (drop (SECTOR_BYTES * first) bytes) in
      let long : length c ≡ length bytes = left.size ∙ outside.same_size in
      let room : SECTOR_BYTES * first + SECTOR_BYTES * count ≤ length c = omega (arith, long, whole, fits) in
      let mid : length m ≡ SECTOR_BYTES * count =
      omega (
        arith,
        whole,
        fits,
        length-take (SECTOR_BYTES * count) (drop (SECTOR_BYTES * first) bytes),
        length-drop (SECTOR_BYTES * first) bytes,
      ) in
      let d = splice (SECTOR_BYTES * first) (SECTOR_BYTES * count) c m in
      let outside : (i : ℕ) → i < length bytes
      → get_or (marked first count in_doubt) (i / SECTOR_BYTES) false ≡ get_or in_doubt (i / SECTOR_BYTES) false
      → get_or after i 0 ≡ get_or bytes i 0
      → get_or in_doubt (i / SECTOR_BYTES) false ≡ false → get_or c i 0 ≡ get_or bytes i 0 = λ i lt flag same is.
      left.settled i (omega (arith, lt, outside.same_size)) (flag ∙ is) ∙ same in
      let settled : (i : ℕ) → i < length bytes → get_or in_doubt (i / SECTOR_BYTES) false ≡ false
      → get_or d i 0 ≡ get_or bytes i 0 = λ i lt is.
      elim (cases_lt i (SECTOR_BYTES * first)) [
        | inl below ↦ get_before (SECTOR_BYTES * first) (SECTOR_BYTES * count) c m room mid i 0 below
            ∙ outside i lt
            (get_before first count in_doubt (replicate count true) fits (length-replicate count true)
            (i / SECTOR_BYTES) false (omega arith)) (same_before i below) is
        | inr above ↦ elim (cases_lt i (SECTOR_BYTES * first + SECTOR_BYTES * count)) [
          | inl within ↦ get_within (SECTOR_BYTES * first) (SECTOR_BYTES * count) c m room mid i 0 above within
              ∙ get_or-take (SECTOR_BYTES * count) (drop (SECTOR_BYTES * first) bytes) (i - SECTOR_BYTES * first) 0
              (omega arith)
              ∙ get_or-drop (SECTOR_BYTES * first) bytes (i - SECTOR_BYTES * first) 0
              ∙ ap (λ j. get_or bytes j 0) (omega arith)
          | inr past ↦ get_after (SECTOR_BYTES * first) (SECTOR_BYTES * count) c m room mid i 0 past
              ∙ outside i lt
              (get_after first count in_doubt (replicate count true) fits (length-replicate count true)
              (i / SECTOR_BYTES) false (omega arith)) (same_after i past) is
        ]
      ] in (
        d,
        record {
          size = length-spliced (SECTOR_BYTES * first) (SECTOR_BYTES * count) c m room mid ∙ long;
          settled =
              settled;
        },
        record {
          front = sym (take-spliced (SECTOR_BYTES * first) (SECTOR_BYTES * count) c m room mid);
          behind = sym (drop-spliced (SECTOR_BYTES * first) (SECTOR_BYTES * count) c m room mid);
          same_size = sym (length-spliced (SECTOR_BYTES * first) (SECTOR_BYTES * count) c m room mid);
        },
      )

-- the same, as a write of so many bytes says it
pub write_crash : (first len : ℕ) (bytes after : List ℕ) (in_doubt flags : List Bool)
    → length bytes ≡ SECTOR_BYTES * length in_doubt → IsInRange (length in_doubt) first len
    → SameOutside (SECTOR_BYTES * first) len bytes after
    → flags ≡ take first in_doubt ++ replicate (len / SECTOR_BYTES) true ++ drop (first + len / SECTOR_BYTES) in_doubt
    → OneStepFrom (MayLeave bytes in_doubt) (MayLeave after flags) (SameOutside (SECTOR_BYTES * first) len)
write_crash first len bytes after in_doubt flags whole fits outside is =
    let count = len / SECTOR_BYTES in
    let size : SECTOR_BYTES * count ≡ len = omega (arith, fits.whole) in
    let room : first + count ≤ length in_doubt = omega (arith, fits.inside, size) in
    let outside' : SameOutside (SECTOR_BYTES * first) (SECTOR_BYTES * count) bytes after =
    subst (λ n. SameOutside (SECTOR_BYTES * first) n bytes after) (sym size) outside in
    let follows = write_follows first count bytes after in_doubt whole room outside' in
    subst (λ n. OneStepFrom (MayLeave bytes in_doubt) (MayLeave after flags) (SameOutside (SECTOR_BYTES * first) n))
    size
    (subst (λ (l : List Bool). OneStepFrom (MayLeave bytes in_doubt) (MayLeave after l)
    (SameOutside (SECTOR_BYTES * first) (SECTOR_BYTES * count))) (sym is) follows)
