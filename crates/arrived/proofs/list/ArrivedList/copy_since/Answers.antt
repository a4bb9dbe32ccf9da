use Rattle.std.proofs.Common.{rules, ◌≡◌, ◌+◌, ◌<◌, ◌++◌, [], ◌∷◌, ℕ, length, refl, arith}
use Rattle.arrived.proofs.Listing.{copied_next}
use Rattle.arrived.proofs.list.ArrivedList.copy_since.Goals as goal

pub loop-offset-preserved : goal.loop-offset-preserved
loop-offset-preserved c =
    let at : ℕ = c.min-first.result + c.loop-offset.offset in
    let test = c.loop-offset-test.true in
    let count = c.min-count.ensures in
    let rest = c.len-2.ensures in
    let below : at < length c.self.inside.items.items = omega (arith, test, count, rest) in
    let pushed : c.push.new.self.items ≡ c.loop-offset.items.items ++ c.index.result.now ∷ [] = search rules in
    copied_next c.self.inside.items.items c.loop-offset.items.items c.push.new.self.items c.index.result.now
    c.min-first.result c.loop-offset.offset at c.loop-offset.invariant refl below c.index.ensures pushed
