use Rattle.std.proofs.Common.{arith}
use Rattle.std.proofs.lemmas.Bool.Decides.{nat_tests}
use Rattle.kahn_net.proofs.Alike.{as_many, ifs_same, repeats_same, same_at}
use Rattle.kahn_net.proofs.same.+same_statements.Goals as goal

pub is_same_statement-returns-then-not-is_same_statements : goal.is_same_statement-returns-then-not-is_same_statements
is_same_statement-returns-then-not-is_same_statements t c =
    let both =
    ifs_same c.args.a.now c.args.b.now c.in-If.test c.in-If-b.e c.in-If.first c.in-If.second c.in-If-b.f
    c.in-If-b.g c.in-If.is c.in-If-b.is in
    grind (arith, both.0, both.1)

pub is_same_statement-returns-else-not-is_same_statements : goal.is_same_statement-returns-else-not-is_same_statements
is_same_statement-returns-else-not-is_same_statements t c =
    let both =
    ifs_same c.args.a.now c.args.b.now c.in-If.test c.in-If-b.e c.in-If.first c.in-If.second c.in-If-b.f
    c.in-If-b.g c.in-If.is c.in-If-b.is in
    grind (arith, both.0, both.1)

pub is_same_statement-returns-then-times-n : goal.is_same_statement-returns-then-times-n
is_same_statement-returns-then-times-n t c =
    let both =
    repeats_same c.args.a.now c.args.b.now c.in-Repeat.times c.in-Repeat-b.n c.in-Repeat.body c.in-Repeat-b.other
    c.in-Repeat.is c.in-Repeat-b.is in
    grind (arith, nat_tests, both.0, both.1)

pub is_same_statements-returns-then-a-b : goal.is_same_statements-returns-then-a-b
is_same_statements-returns-then-a-b t c = grind (arith, as_many c.args.a.now c.args.b.now)

pub is_same_statements-returns-then-not-is_same_statement : goal.is_same_statements-returns-then-not-is_same_statement
is_same_statements-returns-then-not-is_same_statement t c =
    let here =
    same_at c.args.a.now c.args.b.now c.loop-i.i c.index-a-i.result c.index-b-i.result (omega arith) (omega arith)
    c.index-a-i.is c.index-b-i.is in
    grind (arith, here.0, here.1)

pub is_same_statements-loop-i-preserved : goal.is_same_statements-loop-i-preserved
is_same_statements-loop-i-preserved t c =
    let here =
    same_at c.args.a.now c.args.b.now c.loop-i.i c.index-a-i.result c.index-b-i.result (omega arith) (omega arith)
    c.index-a-i.is c.index-b-i.is in
    grind (arith, here.0, here.1)
