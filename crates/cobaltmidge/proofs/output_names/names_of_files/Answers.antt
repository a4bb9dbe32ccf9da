use Rattle.std.proofs.Common.{arith}
use Rattle.cobaltmidge.proofs.Naming.{named_more, names_end, names_next}
use Rattle.cobaltmidge.proofs.output_names.names_of_files.Goals as goal

pub loop-number-preserved : goal.loop-number-preserved
loop-number-preserved c =
    let name = c.index-names-number in
    let here = c.loop-number-test.true in
    named_more _ _ _ _ _ _ c.in_ok-add_name.ensures
    (names_next c.args.channels.now c.args.names.now c.loop-number.number _ name.result here (omega (arith, here, c.requires)) name.is)
    c.loop-number.invariant

pub returns : goal.returns
returns c = names_end _ _ c.args.channels.now c.args.names.now c.loop-number.number c.loop-number-test.false c.loop-number.invariant
