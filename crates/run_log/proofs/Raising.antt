-- Lines in which it stands how often no event was made.
use Rattle.std.proofs.Common.{◌≡◌, ◌∙◌, ◌+◌, ◌++◌, ℕ, zero, suc, List, [], ◌∷◌, drop, get_or, Option, Some, None, slice_get, slice_set}
use Rattle.std.proofs.Common.{sum_by, refl, sym, ap, subst, arith}
use Rattle.std.proofs.Math.Seq.{drop-cons}
use Rattle.std.proofs.lemmas.List.Sums.{sum_by-set}
use Rattle.std.proofs.lemmas.Option.{get_or_from_slice_get, slice_get_within}
use Rattle.replay.specs.declared.kept.Silence.{Silence}
use Rattle.replay.specs.declared.kept.Silence.TheVariants.{Nothing, Late, NotYet, NoMore}
use Rattle.run_log.specs.Counts.{kind_of, numbers_in, events_in, nothings_in, not_yets_in, no_mores_in}
use Rattle.replay.specs.Replay.{Happening}
use Rattle.run_log.specs.Lines.{happenings, happenings_of}
use Rattle.run_log.specs.Numbers.{counted, numbers}
use Rattle.run_log.specs.declared.history.Line.{Line}
use Rattle.run_log.specs.declared.history.Line.TheVariants.{Few, Left, CameBack, Long, Silent, Widened}

-- ---- looking back

-- the rest from such a line on
pub from_here : (lines : List Line) (place : ℕ) (reason : Silence) (count : ℕ)
    → slice_get lines place ≡ Some (Silent reason count)
    → drop place lines ≡ Silent reason count ∷ drop (place + 1) lines
from_here lines place reason count there =
    let within = slice_get_within lines place (Silent reason count) there in
    let here = get_or_from_slice_get lines place (Silent reason count) (Silent reason count) there in
    let next : suc place ≡ place + 1 = omega arith in
    drop-cons lines place (Silent reason count) within
    ∙ (ap (λ (line : Line). line ∷ drop (suc place) lines) here
    ∙ ap (λ (n : ℕ). Silent reason count ∷ drop n lines) next)

-- ---- a count that rises

the_line : (one other : Line) → (let first : Option Line = Some one in let second : Option Line = Some other in first ≡ second)
    → one ≡ other
the_line one other same = cc

-- nothing else happened
pub same_happenings : (lines : List Line) (place : ℕ) (was now : Line) → slice_get lines place ≡ Some was
    → happenings_of now ≡ happenings_of was → happenings (slice_set lines place now) ≡ happenings lines
same_happenings [] place was now there same = absurd (cc)
same_happenings (line ∷ lines) zero was now there same =
    ap (λ (first : List Happening). first ++ happenings lines) (same ∙ ap happenings_of (sym (the_line line was there)))
same_happenings (line ∷ lines) (suc place) was now there same =
    ap (λ (rest : List Happening). happenings_of line ++ rest) (same_happenings lines place was now there same)

sum_with : (f : Line → ℕ) (lines : List Line) (place : ℕ) (was now : Line) → slice_get lines place ≡ Some was
    → sum_by f (slice_set lines place now) + f was ≡ sum_by f lines + f now
sum_with f lines place was now there =
    subst (λ (line : Line). sum_by f (slice_set lines place now) + f line ≡ sum_by f lines + f now)
    (get_or_from_slice_get lines place was was there)
    (sum_by-set f lines place now was (slice_get_within lines place was there))

pub same_numbers : (a b c d e p q r s t : ℕ) → a ≡ p → b ≡ q → c ≡ r → d ≡ s → e ≡ t
    → numbers a b c d e ≡ numbers p q r s t
same_numbers a b c d e p q r s t first second third fourth fifth =
    ap (λ (n : ℕ). numbers n b c d e) first
    ∙ (ap (λ (n : ℕ). numbers p n c d e) second
    ∙ (ap (λ (n : ℕ). numbers p q n d e) third
    ∙ (ap (λ (n : ℕ). numbers p q r n e) fourth ∙ ap (λ (n : ℕ). numbers p q r s n) fifth)))

abbrev raised : List Line → ℕ → Silence → ℕ → List Line
raised lines place reason count = slice_set lines place (Silent reason (count + 1))

numbers_raised : (lines : List Line) (place : ℕ) (reason : Silence) (count stops : ℕ)
    → slice_get lines place ≡ Some (Silent reason count)
    → numbers_in (raised lines place reason count) stops ≡ counted (kind_of reason) (numbers_in lines stops)
numbers_raised lines place reason count stops there =
    by reason (sums reason there events_in) (sums reason there nothings_in) (sums reason there not_yets_in)
    (sums reason there no_mores_in)
  where
    sums : (r : Silence) → slice_get lines place ≡ Some (Silent r count) → (f : Line → ℕ)
        → sum_by f (raised lines place r count) + f (Silent r count) ≡ sum_by f lines + f (Silent r (count + 1))
    sums r is f = sum_with f lines place (Silent r count) (Silent r (count + 1)) is

    by : (r : Silence)
        → sum_by events_in (raised lines place r count) + events_in (Silent r count)
        ≡ sum_by events_in lines + events_in (Silent r (count + 1))
        → sum_by nothings_in (raised lines place r count) + nothings_in (Silent r count)
        ≡ sum_by nothings_in lines + nothings_in (Silent r (count + 1))
        → sum_by not_yets_in (raised lines place r count) + not_yets_in (Silent r count)
        ≡ sum_by not_yets_in lines + not_yets_in (Silent r (count + 1))
        → sum_by no_mores_in (raised lines place r count) + no_mores_in (Silent r count)
        ≡ sum_by no_mores_in lines + no_mores_in (Silent r (count + 1))
        → numbers_in (raised lines place r count) stops ≡ counted (kind_of r) (numbers_in lines stops)
    by (Nothing node) a b c d =
        same_numbers _ _ _ _ _ _ _ _ _ _ (omega (arith, a)) (omega (arith, b)) (omega (arith, c)) (omega (arith, d)) refl
    by (Late node) a b c d =
        same_numbers _ _ _ _ _ _ _ _ _ _ (omega (arith, a)) (omega (arith, b)) (omega (arith, c)) (omega (arith, d)) refl
    by NotYet a b c d =
        same_numbers _ _ _ _ _ _ _ _ _ _ (omega (arith, a)) (omega (arith, b)) (omega (arith, c)) (omega (arith, d)) refl
    by NoMore a b c d =
        same_numbers _ _ _ _ _ _ _ _ _ _ (omega (arith, a)) (omega (arith, b)) (omega (arith, c)) (omega (arith, d)) refl

abbrev reason_in : Option Line → Silence
reason_in None = NoMore
reason_in (Some (Few rows)) = NoMore
reason_in (Some (Left node output times first)) = NoMore
reason_in (Some (CameBack node is_taken job)) = NoMore
reason_in (Some (Long long)) = NoMore
reason_in (Some (Silent reason count)) = reason
reason_in (Some (Widened channel)) = NoMore

-- where the line that is found is the one that is read
pub numbers_raised_there : (lines : List Line) (place found read : ℕ) (reason said : Silence)
    → slice_get lines place ≡ Some (Silent reason found) → slice_get lines place ≡ Some (Silent said read)
    → (stops : ℕ)
    → numbers_in (raised lines place said read) stops ≡ counted (kind_of reason) (numbers_in lines stops)
numbers_raised_there lines place found read reason said is there stops =
    subst (λ (r : Silence). numbers_in (raised lines place said read) stops ≡ counted (kind_of r) (numbers_in lines stops))
    (ap reason_in (sym there ∙ is)) (numbers_raised lines place said read stops there)

-- what is read at a place where something is found
pub found_line : (lines : List Line) (place count : ℕ) (reason : Silence) (line : Line)
    → slice_get lines place ≡ Some (Silent reason count) → line ≡ get_or lines place line
    → slice_get lines place ≡ Some line
found_line lines place count reason line is read =
    is ∙ ap Some (sym (read ∙ get_or_from_slice_get lines place (Silent reason count) line is))
