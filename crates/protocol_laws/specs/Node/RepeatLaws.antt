-- Laws of repetitions: where a process of a valid network stands, no more passes remain than a record holds.
use Rattle.std.proofs.Common.{◌≡◌, ℕ, ◌+◌, ◌-◌, ◌*◌, ◌==◌, ◌≤◌, Bool, true, false, cond, ◌&&◌, IsTrue}
use Rattle.std.proofs.Common.{List, [], ◌∷◌, length, leb, Option, Some, None, ℤ, refl, arith}
use Rattle.std.specs.Prelude.{nat_lt, slice_get}
use Rattle.std.specs.List.{AllZip}
use Rattle.std.proofs.lemmas.Bool.{false≢true}
use Rattle.std.proofs.lemmas.Bool.Decides.{nat_tests}
use Rattle.protocol.specs.Node.Common.{Code, Network, StandsAt, At, IsValid}
use Rattle.kahn_net.specs.Common.{Block, Nothing, GetThen, AssignThen, PutThen, StopThen, IfThen, RepeatThen, Point}
use Rattle.kahn_net.specs.Common.{sites_of, is_repeat_within, code_repeats_within}
use Rattle.kahn_net.specs.Repeats.{repeats_on, repeats_in_body, repeats_at, CanRemain}
use Rattle.kahn_net.specs.Repeats.{repeats_within, body_repeats_within}
use Rattle.kahn_net.specs.Laws.NextActs.{repeats_fit}
use Rattle.record.specs.Common.{MAX_TIMES, MAX_REPEATS}
use Rattle.kahn_net.specs.declared.limits.TheConstants.{MAX_NESTED_TIMES}

both_hold : (a b : Bool) → IsTrue (a && b) → IsTrue a × IsTrue b
both_hold true b h = (refl, h)
both_hold false b h = absurd (false≢true h)

within_bound : (a b : ℕ) → IsTrue (leb a b) → a ≤ b
within_bound a b h = grind (arith, nat_tests)

above_none : (a : ℕ) → IsTrue (nat_lt 0 a) → 1 ≤ a
above_none a h = grind (arith, nat_tests)

-- so many more may be opened, and each is made no more often than one may be
abbrev pub AreWithin : ℕ → List ℕ → Type 0
AreWithin open_yet [] = Unit {0}
AreWithin open_yet (times ∷ inner) = (1 ≤ open_yet) × (times ≤ MAX_TIMES) × AreWithin (open_yet - 1) inner

by_cond : (open_yet : ℕ) (t : Bool) (xs ys : List ℕ) → AreWithin open_yet xs → AreWithin open_yet ys
    → AreWithin open_yet (cond t xs ys)
by_cond open_yet true xs ys p q = p
by_cond open_yet false xs ys p q = q

-- the repetitions round a site of statements
round_site : (b : Block) (number site open_yet round : ℕ) → IsTrue (repeats_within open_yet round b)
    → AreWithin open_yet (repeats_on number b site)
round_site Nothing number site o m h = tt
round_site (GetThen x c rest) number site o m h =
    by_cond o (number == site) [] (repeats_on (number + 1) rest site) tt (round_site rest (number + 1) site o m h)
round_site (AssignThen x e rest) number site o m h = round_site rest number site o m h
round_site (PutThen e c rest) number site o m h =
    by_cond o (number == site) [] (repeats_on (number + 1) rest site) tt (round_site rest (number + 1) site o m h)
round_site (StopThen rest) number site o m h = round_site rest number site o m h
round_site (IfThen test first second rest) number site o m h =
    let p = both_hold (repeats_within o m first) (repeats_within o m second && repeats_within o m rest) h in
    let q = both_hold (repeats_within o m second) (repeats_within o m rest) p.1 in
    let two = number + sites_of first in
    let three = number + sites_of first + sites_of second in
    by_cond o (nat_lt site two) (repeats_on number first site)
    (cond (nat_lt site three) (repeats_on two second site) (repeats_on three rest site))
    (round_site first number site o m p.0)
    (by_cond o (nat_lt site three) (repeats_on two second site) (repeats_on three rest site)
    (round_site second two site o m q.0) (round_site rest three site o m q.1))
round_site (RepeatThen times body rest) number site o m h =
    let p = both_hold (is_repeat_within o m times)
    (repeats_within (o - 1) (m * times) body && repeats_within o m rest) h in
    let q = both_hold (repeats_within (o - 1) (m * times) body) (repeats_within o m rest) p.1 in
    let t1 = both_hold (nat_lt 0 o) (nat_lt 0 times && (leb times MAX_TIMES && leb (m * times) MAX_NESTED_TIMES)) p.0 in
    let t2 = both_hold (nat_lt 0 times) (leb times MAX_TIMES && leb (m * times) MAX_NESTED_TIMES) t1.1 in
    let t3 = both_hold (leb times MAX_TIMES) (leb (m * times) MAX_NESTED_TIMES) t2.1 in
    let behind = number + sites_of body in
    by_cond o (nat_lt site behind) (times ∷ repeats_on number body site) (repeats_on behind rest site)
    (above_none o t1.0, within_bound times MAX_TIMES t3.0, round_site body number site (o - 1) (m * times) q.0)
    (round_site rest behind site o m q.1)

in_body : (body : Option Block) (number site : ℕ) → IsTrue (body_repeats_within body)
    → AreWithin MAX_REPEATS (repeats_in_body number body site)
in_body None number site h = tt
in_body (Some b) number site h = round_site b number site MAX_REPEATS 1 h

-- and round a site of a process
in_code : (code : Code) (site : ℕ) → IsTrue (code_repeats_within code) → AreWithin MAX_REPEATS (repeats_at code site)
in_code code site h =
    let p = both_hold (repeats_within MAX_REPEATS 1 code.prelude) (body_repeats_within code.body) h in
    by_cond MAX_REPEATS (nat_lt site (sites_of code.prelude)) (repeats_on 0 code.prelude site)
    (repeats_in_body (sites_of code.prelude) code.body site) (round_site code.prelude 0 site MAX_REPEATS 1 p.0)
    (in_body code.body (sites_of code.prelude) site p.1)

-- from one to as many passes as a repetition may have
abbrev pub AreFew : List ℕ → Type 0
AreFew [] = Unit {0}
AreFew (passes ∷ inner) = (1 ≤ passes) × (passes ≤ MAX_TIMES) × AreFew inner

-- the passes that remain, of no more repetitions than may stand round a statement
pub record HasFewPasses (left : List ℕ) : Type 0 where
  pub count : length left ≤ MAX_REPEATS
  pub each : AreFew left

few_open : (open_yet : ℕ) (left times : List ℕ) → AreWithin open_yet times → AllZip CanRemain left times
    → (length left ≤ open_yet) × AreFew left
few_open o [] [] within fits = (omega arith, tt)
few_open o [] (t ∷ times) within fits = (omega arith, tt)
few_open o (k ∷ left) [] within fits = absurd fits
few_open o (k ∷ left) (t ∷ times) within fits =
    let r = few_open (o - 1) left times within.2 fits.1 in
    let some = within.0 in
    let most = within.1 in
    let least = fits.0.0 in
    let here = fits.0.1 in
    let long = r.0 in
    (omega (arith, some, long), (least, omega (arith, here, most), r.1))

-- wherever a process of a valid network stands at a point
pub passes_few : (net : Network) (p : ℕ) (code : Code) (inputs : List (List ℤ)) (m : ℕ) (point : Point) (vars : List ℤ)
    → IsValid net → slice_get net.codes p ≡ Some code → StandsAt code inputs m (At point vars)
    → HasFewPasses point.left
passes_few net p code inputs m point vars valid here stands =
    let r = few_open MAX_REPEATS point.left (repeats_at code point.site)
    (in_code code point.site (valid.codes p code here).repeats) (repeats_fit code inputs m point vars stands) in
    record { count = r.0; each = r.1 }
