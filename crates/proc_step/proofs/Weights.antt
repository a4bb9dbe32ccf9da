-- How many instructions a pass takes: none is carried out more often than repetitions may be made.
use Rattle.std.proofs.Common.{◌≡◌, ℕ, ◌+◌, ◌-◌, ◌*◌, ◌≤◌, Bool, true, false, ◌&&◌, IsTrue, Option, Some, None, []}
use Rattle.std.proofs.Common.{◌∷◌, ◌++◌, length, length-append, leb, refl, arith}
use Rattle.std.proofs.lemmas.Bool.{false≢true}
use Rattle.std.proofs.lemmas.Bool.Decides.{nat_tests}
use Rattle.std.specs.Prelude.{nat_lt}
use Rattle.kahn_net.specs.Common.{Block, Nothing, GetThen, AssignThen, PutThen, StopThen, IfThen, RepeatThen, Code}
use Rattle.kahn_net.specs.Common.{sites_of, is_repeat_within, code_repeats_within}
use Rattle.kahn_net.specs.Repeats.{repeats_within, body_repeats_within}
use Rattle.kahn_net.specs.declared.limits.TheConstants.{MAX_TIMES, MAX_NESTED_TIMES, MAX_REPEATS}
use Rattle.proc_code.specs.declared.instruction.Instruction.TheVariants.{Store, Put, JumpIfZero, Jump, Again}
use Rattle.proc_code.specs.Translation.{assign_code, expr_code, operand_of, if_code, repeat_code, block_code, loop_code, process_code}
use Rattle.proc_code.specs.Laws.Blocks.{most_of}
use Rattle.proc_code.specs.Laws.Resuming.{times_monotone}
use Rattle.proc_code.specs.Laws.Processes.{loop_most, process_most}

both_hold : (a b : Bool) → IsTrue (a && b) → IsTrue a × IsTrue b
both_hold true b h = (refl, h)
both_hold false b h = absurd (false≢true h)

within_bound : (a b : ℕ) → IsTrue (leb a b) → a ≤ b
within_bound a b h = grind (arith, nat_tests)

abbrev MOST : ℕ
MOST = MAX_NESTED_TIMES

block_few : (b : Block) (at site open_yet round : ℕ) → IsTrue (repeats_within open_yet round b) → round ≤ MOST
    → round * most_of b ≤ MOST * length (block_code at site b)
block_few Nothing at site o m h few = omega arith
block_few (GetThen x c rest) at site o m h few =
    let r = block_few rest (at + 1) (site + 1) o m h few in
    let split : m * (1 + most_of rest) ≡ m + m * most_of rest = omega arith in
    omega (arith, r, split, few)
block_few (AssignThen x e rest) at site o m h few =
    let c = assign_code x e in
    let r = block_few rest (at + length c) site o m h few in
    let n = length c in
    let mine : n * m ≤ n * MOST = (let a = times_monotone m MOST n few in
    let x1 : n * m ≡ m * n = omega arith in let x2 : n * MOST ≡ MOST * n = omega arith in omega (arith, a, x1, x2)) in
    let split : m * (n + most_of rest) ≡ n * m + m * most_of rest = omega arith in
    let later = block_code (at + length c) site rest in
    let long : length (c ++ later) ≡ length c + length later = length-append c later in
    omega (arith, r, mine, split, long, few)
block_few (PutThen e d rest) at site o m h few =
    let c = expr_code e ++ Put d site (operand_of e) ∷ [] in
    let r = block_few rest (at + length c) (site + 1) o m h few in
    let n = length (expr_code e) in
    let mine : n * m ≤ n * MOST = (let a = times_monotone m MOST n few in
    let x1 : n * m ≡ m * n = omega arith in let x2 : n * MOST ≡ MOST * n = omega arith in omega (arith, a, x1, x2)) in
    let split : m * (n + 1 + most_of rest) ≡ n * m + m + m * most_of rest = omega arith in
    let later = block_code (at + length c) (site + 1) rest in
    let long : length (c ++ later) ≡ length c + length later = length-append c later in
    let short : length c ≡ n + 1 = length-append (expr_code e) (Put d site (operand_of e) ∷ []) in
    omega (arith, r, mine, split, long, short, few)
block_few (StopThen rest) at site o m h few =
    let r = block_few rest (at + 1) site o m h few in
    let split : m * (1 + most_of rest) ≡ m + m * most_of rest = omega arith in
    omega (arith, r, split, few)
block_few (IfThen test first second rest) at site o m h few =
    let p = both_hold (repeats_within o m first) (repeats_within o m second && repeats_within o m rest) h in
    let q = both_hold (repeats_within o m second) (repeats_within o m rest) p.1 in
    let tc = expr_code test in
    let n = length tc in
    let one = at + n + 1 in
    let a = block_code one site first in
    let two = one + length a + 1 in
    let b = block_code two (site + sites_of first) second in
    let c = if_code at tc (operand_of test) (λ n. block_code n site first) (λ n. block_code n (site + sites_of first) second) in
    let later = block_code (at + length c) (site + sites_of first + sites_of second) rest in
    let r1 = block_few first one site o m p.0 few in
    let r2 = block_few second two (site + sites_of first) o m q.0 few in
    let r3 = block_few rest (at + length c) (site + sites_of first + sites_of second) o m q.1 few in
    let mine : n * m ≤ n * MOST = (let k = times_monotone m MOST n few in
    let x1 : n * m ≡ m * n = omega arith in let x2 : n * MOST ≡ MOST * n = omega arith in omega (arith, k, x1, x2)) in
    let split : m * (n + (1 + (most_of first + (1 + most_of second))) + most_of rest)
    ≡ n * m + m + m * most_of first + m + m * most_of second + m * most_of rest = omega arith in
    let long : length (c ++ later) ≡ length c + length later = length-append c later in
    let l1 = length-append tc (JumpIfZero two (operand_of test) ∷ (a ++ Jump (two + length b) ∷ b)) in
    let l2 = length-append a (Jump (two + length b) ∷ b) in
    omega (arith, r1, r2, r3, mine, split, long, l1, l2, few)
block_few (RepeatThen times body rest) at site o m h few =
    let p = both_hold (is_repeat_within o m times)
    (repeats_within (o - 1) (m * times) body && repeats_within o m rest) h in
    let q = both_hold (repeats_within (o - 1) (m * times) body) (repeats_within o m rest) p.1 in
    let t1 = both_hold (nat_lt 0 o) (nat_lt 0 times && (leb times MAX_TIMES && leb (m * times) MAX_NESTED_TIMES)) p.0 in
    let t2 = both_hold (nat_lt 0 times) (leb times MAX_TIMES && leb (m * times) MAX_NESTED_TIMES) t1.1 in
    let t3 = both_hold (leb times MAX_TIMES) (leb (m * times) MAX_NESTED_TIMES) t2.1 in
    let in_all : m * times ≤ MOST = within_bound (m * times) MAX_NESTED_TIMES t3.1 in
    let c = repeat_code at times (λ n. block_code n site body) in
    let b = block_code (at + 1) site body in
    let later = block_code (at + length c) (site + sites_of body) rest in
    let r1 = block_few body (at + 1) site (o - 1) (m * times) q.0 in_all in
    let r2 = block_few rest (at + length c) (site + sites_of body) o m q.1 few in
    let split : m * (1 + times * (most_of body + 1) + most_of rest)
    ≡ m + (m * times) * most_of body + m * times + m * most_of rest = omega arith in
    let long : length (c ++ later) ≡ length c + length later = length-append c later in
    let l1 = length-append b (Again (at + 1) ∷ []) in
    omega (arith, r1, r2, split, long, l1, few, in_all)

loop_few : (body : Option Block) (at site : ℕ) → IsTrue (body_repeats_within body)
    → loop_most body ≤ MOST * length (loop_code at site body)
loop_few None at site h = omega arith
loop_few (Some body) at site h =
    let r = block_few body at site MAX_REPEATS 1 h (omega arith) in
    let long = length-append (block_code at site body) (Jump at ∷ []) in
    omega (arith, r, long)

-- a pass takes no more instructions than so often each of the code's
pub process_few : (code : Code) → IsTrue (code_repeats_within code)
    → process_most code ≤ MOST * length (process_code code)
process_few code h =
    let p = both_hold (repeats_within MAX_REPEATS 1 code.prelude) (body_repeats_within code.body) h in
    let r = block_few code.prelude 0 0 MAX_REPEATS 1 p.0 (omega arith) in
    let at = length (block_code 0 0 code.prelude) in
    let l = loop_few code.body at (sites_of code.prelude) p.1 in
    let long = length-append (block_code 0 0 code.prelude) (loop_code at (sites_of code.prelude) code.body) in
    omega (arith, r, l, long)
