use Rattle.std.proofs.Common.{◌≡◌, length, sym, ◌∙◌, arith}
use Rattle.std.proofs.lemmas.Bool.{ne_eqb}
use Rattle.net_text.specs.InputLines.{is_space}
use Rattle.net_text.proofs.Runs.{run_is}
use Rattle.net_text.proofs.inputs.space_len.Goals as goal

pub returns-then-b-ne32 : goal.returns-then-b-ne32
returns-then-b-ne32 c =
    run_is is_space c.loop-i.i c.args.bytes.now (omega arith) c.loop-i.invariant (λ lt. ne_eqb _ 32 c.if-b-ne32.true)

pub returns : goal.returns
returns c =
    let last : c.loop-i.i ≡ length c.args.bytes.now = let h = c.loop-i.auto.i-end in let k = c.loop-i-test.false in
    omega arith in
    sym last ∙ run_is is_space c.loop-i.i c.args.bytes.now (omega arith) c.loop-i.invariant (λ lt. absurd (omega arith))
