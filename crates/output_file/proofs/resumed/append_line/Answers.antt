use Rattle.std.proofs.Common.{arith, refl, rules, w64, FitsSigned}
use Rattle.std.proofs.lemmas.Int.{to_z-of_z}
use Rattle.std.proofs.lemmas.Grind.{elements}
use Rattle.output_file.proofs.resumed.append_line.Goals as goal

pub returns-then-not-add-clause-refused : goal.returns-then-not-add-clause-refused
returns-then-not-add-clause-refused g c = c.if-not-add.ensures.refused refl

pub returns-clause-added : goal.returns-clause-added
returns-clause-added g c =
    let f : FitsSigned w64 c.args.item = search rules in
    λ start before was. rw (← to_z-of_z w64 _ f) (c.if-not-add.ensures.added refl start before was)

pub returns-clause-cause : goal.returns-clause-cause
returns-clause-cause g c = grind (arith, elements)

pub returns-then-not-add-clause-cause : goal.returns-then-not-add-clause-cause
returns-then-not-add-clause-cause g c = grind (arith, elements)

pub returns-clause-no_memory : goal.returns-clause-no_memory
returns-clause-no_memory g c = grind (arith, elements)

pub returns-then-not-add-clause-no_memory : goal.returns-then-not-add-clause-no_memory
returns-then-not-add-clause-no_memory g c = grind (arith, elements)
