use Rattle.std.proofs.Common.{◌≡◌, ◌++◌, ◌∷◌, [], ℤ, refl, ap, ◌∙◌, rules, w64, FitsSigned}
use Rattle.std.proofs.lemmas.Result.{err_from_is_err_and}
use Rattle.std.proofs.lemmas.Int.{to_z-of_z}
use Rattle.ckpt_codec.specs.Reading.{item_at, each_as, unchanged, items_at}
use Rattle.ckpt_codec.proofs.Loop.{one_more, stops, has_all, starts}
use Rattle.ckpt_codec.proofs.processes.items_of.Goals as goal

pub loop-init : goal.loop-init
unfolding items_at
loop-init c =
    starts (each_as item_at) unchanged c.in_ok-items.items.items c.args.count tt c.args.bytes.now (search rules)

pub returns-in_err-item : goal.returns-in_err-item
returns-in_err-item c =
    let p = err_from_is_err_and c.from_residual-in_err-item.result c.from_residual-in_err-item.ensures.1 in
    rw (p.1, p.2)
    (stops c.in_err-item.field-0.0 (each_as item_at) unchanged c.loop.items.items c.args.count c.loop.counter tt
    c.loop.rest.now (items_at c.args.count c.args.bytes.now) ((each_as item_at) tt c.loop.rest.now)
    c.loop-test.true refl c.in_err-item.ensures c.loop.invariant)

pub loop-preserved : goal.loop-preserved
loop-preserved c =
    let f : FitsSigned w64 c.in_ok-item.item = search rules in
    let grown : c.push.new.self.items ≡ c.loop.items.items ++ c.in_ok-item.item ∷ [] =
    c.in_ok-push.ensures.items ∙ ap (λ (z : ℤ). c.loop.items.items ++ z ∷ []) (to_z-of_z w64 _ f) in
    one_more (each_as item_at) unchanged c.loop.items.items c.push.new.self.items c.args.count c.loop.counter tt
    c.loop.rest.now c.in_ok-item.item c.in_ok-item.after.now (items_at c.args.count c.args.bytes.now)
    ((each_as item_at) tt c.loop.rest.now) c.loop-test.true grown refl c.in_ok-item.ensures c.loop.invariant

pub returns : goal.returns
returns c =
    has_all (each_as item_at) unchanged c.loop.items.items c.args.count c.loop.counter tt c.loop.rest.now
    (items_at c.args.count c.args.bytes.now) c.loop-test.false c.loop.invariant
