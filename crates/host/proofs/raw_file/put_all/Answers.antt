use Rattle.std.proofs.Common.{◌-◌, ◌<◌, ◌≤◌, ℕ, List, drop, take, length, arith, subst, sym}
use Rattle.host.proofs.Taking.{IsPutSoFar, some_taken, none_taken, zero_taken, no_place, whole_put, rest_from, part_length}
use Rattle.host.proofs.raw_file.put_all.Goals as goal

-- what is left isn't nothing
is_left : (from next to : ℕ) (bytes : List ℕ) → from ≤ next → next < to → to ≤ length bytes
    → next - from < length (drop from (take to bytes))
is_left from next to bytes ordered left there =
    subst (λ n. next - from < n) (sym (part_length from to bytes there)) (omega (arith, ordered, left))

pub loop-next-preserved : goal.loop-next-preserved
loop-next-preserved g c =
    let writes = g.F.RawFile.writes in
    let part = drop c.args.from (take c.args.to c.args.bytes.now.items) in
    let next = c.loop-next.next in
    let more = c.in-Some-write_at.count in
    let invariant = c.loop-next.invariant in
    let left = is_left c.args.from next c.args.to c.args.bytes.now.items invariant.ordered c.loop-next-test.true c.requires.there in
    record {
      ordered = omega (arith, invariant.ordered);
      there = omega (arith, c.in-Some-write_at.ensures.within, invariant.there);
      so_far = subst (λ (n : ℕ). IsPutSoFar c.args.at part n (writes c.args.file.now) (writes c.write_at.new.self))
          (omega (arith, invariant.ordered))
          (some_taken c.args.at part (next - c.args.from) more _ (writes c.loop-next.file) _ c.in-Some.place _
          (omega (arith, left)) c.in-Some.ensures.1
          (rest_from c.args.from next c.args.to c.args.bytes.now.items invariant.ordered)
          c.in-Some-write_at.ensures.asked invariant.so_far);
    }

pub returns-in_default : goal.returns-in_default
returns-in_default g c =
    let next = c.loop-next.next in
    let invariant = c.loop-next.invariant in
    no_place c.args.at _ (next - c.args.from) _ _
    (is_left c.args.from next c.args.to c.args.bytes.now.items invariant.ordered c.loop-next-test.true c.requires.there)
    (omega (arith, c.in_default.ensures)) invariant.so_far

pub returns-in_default-write_at : goal.returns-in_default-write_at
returns-in_default-write_at g c =
    let bytes = c.args.bytes.now.items in
    let next = c.loop-next.next in
    let invariant = c.loop-next.invariant in
    none_taken c.args.at (drop c.args.from (take c.args.to bytes)) (next - c.args.from) _ (g.F.RawFile.writes c.loop-next.file) _
    c.in-Some.place _ (is_left c.args.from next c.args.to bytes invariant.ordered c.loop-next-test.true c.requires.there)
    c.in-Some.ensures.1 (rest_from c.args.from next c.args.to bytes invariant.ordered)
    c.in_default-write_at.ensures.asked invariant.so_far

pub returns-then-count-eq0 : goal.returns-then-count-eq0
returns-then-count-eq0 g c =
    let bytes = c.args.bytes.now.items in
    let next = c.loop-next.next in
    let invariant = c.loop-next.invariant in
    zero_taken c.args.at (drop c.args.from (take c.args.to bytes)) (next - c.args.from) _ (g.F.RawFile.writes c.loop-next.file) _
    c.in-Some.place _ (is_left c.args.from next c.args.to bytes invariant.ordered c.loop-next-test.true c.requires.there)
    c.in-Some.ensures.1 (rest_from c.args.from next c.args.to bytes invariant.ordered)
    c.in-Some-write_at.count c.if-count-eq0.true c.in-Some-write_at.ensures.asked invariant.so_far

pub returns : goal.returns
returns g c =
    let bytes = c.args.bytes.now.items in
    let length_is = part_length c.args.from c.args.to bytes c.requires.there in
    let invariant = c.loop-next.invariant in
    whole_put c.args.at (drop c.args.from (take c.args.to bytes)) (c.loop-next.next - c.args.from) _ _
    (omega (arith, length_is, c.loop-next-test.false)) (omega (arith, length_is, invariant.there)) invariant.so_far
