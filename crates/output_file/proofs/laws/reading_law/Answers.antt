use Rattle.std.proofs.Common.{sym, ◌∙◌, arith}
use Rattle.output_file.proofs.Lining.{one_reading, bad_is_none, one_bad_line}
use Rattle.output_file.proofs.laws.reading_law.Goals as goal

pub returns-clause-one_way : goal.returns-clause-one_way
returns-clause-one_way c = λ bytes items others tail other p q.
    one_reading items others tail other p.each q.each p.cut_off q.cut_off (sym p.whole ∙ q.whole)

pub returns-clause-no_way : goal.returns-clause-no_way
returns-clause-no_way c = bad_is_none

pub returns-clause-one_fault : goal.returns-clause-one_fault
returns-clause-one_fault c = λ bytes line other p q.
    let same = one_bad_line p.before q.before p.line q.line p.after q.after p.each q.each p.one_line q.one_line p.no_item
    q.no_item (sym p.whole ∙ q.whole) in
    omega (arith, p.numbered, q.numbered, same)
