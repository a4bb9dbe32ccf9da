use Rattle.std.proofs.Common.{◌≡◌, ◌≢◌, ◌∷◌, ◌++◌, arith, codes, string_bytes}
use Rattle.std.specs.Fmt.{decimal}
use Rattle.std.specs.declared.alloc.Global.{Global}
use Rattle.std.specs.declared.string.String.{String}
use Rattle.run_files.specs.Causes.{tried_name}
use Rattle.std.proofs.lemmas.Bool.Decides.{nat_tests}
use Rattle.run_files.proofs.Caused.{tried_first, tried_later}
use Rattle.run_files.proofs.Left.{ok_as}
use Rattle.run_files.proofs.happened.fresh_name.Goals as goal

pub returns-then-nth-eq0 : goal.returns-then-nth-eq0
returns-then-nth-eq0 c =
    let first : c.args.nth ≡ 0 = grind (arith, nat_tests, c.if-nth-eq0.true) in
    ok_as c.first_name.result (λ (name : String Global). string_bytes name ≡ c.args.stem.now ++ codes "." ++ c.args.ending.now)
    (λ (name : String Global). string_bytes name ≡ tried_name c.args.stem.now c.args.ending.now c.args.nth) (λ name is. tried_first c.args.stem.now c.args.ending.now _ _ first is) c.first_name.ensures

pub returns : goal.returns
returns c =
    let later : c.args.nth ≢ 0 = grind (arith, nat_tests, c.if-nth-eq0.false) in
    ok_as c.numbered_name.result
    (λ (name : String Global). string_bytes name ≡ c.args.stem.now ++ codes "." ++ c.args.ending.now ++ 46 ∷ decimal c.args.nth)
    (λ (name : String Global). string_bytes name ≡ tried_name c.args.stem.now c.args.ending.now c.args.nth) (λ name is. tried_later c.args.stem.now c.args.ending.now _ _ later is) c.numbered_name.ensures
