use Rattle.std.proofs.Common.{ap, ◌∙◌}
use Rattle.std.specs.Prelude.{slice_get}
use Rattle.kahn_net.specs.Common.{network_of, standing_of}
use Rattle.net_check.specs.declared.net.Net.{Net}
use Rattle.approximations.proofs.Rests.{rests}
use Rattle.std.proofs.Common.{arith}
use Rattle.std.proofs.lemmas.Grind.{elements}
use Rattle.approximations.proofs.advance.advance.Goals as goal

pub returns-clause-all : goal.returns-clause-all
returns-clause-all c =
    rests (network_of c.args.net.now.value.program) c.args.net.now.value.valid c.args.process c.args.histories.now
    (standing_of c.loop-alloc.progress.state) c.loop-alloc.progress.got.items c.loop-alloc.added
    c.can_go_on.result c.loop-alloc.invariant.on
    (λ code its. c.can_go_on.ensures code
    (ap (λ (n : Net). slice_get (network_of n.program).codes c.args.process) c.deref.ensures ∙ its))
    c.loop-alloc-test.false

pub returns-then-not-branch-clause-short : goal.returns-then-not-branch-clause-short
returns-then-not-branch-clause-short c = grind (arith, elements)

pub returns-then-not-branch-clause-elsewhere : goal.returns-then-not-branch-clause-elsewhere
returns-then-not-branch-clause-elsewhere c = grind (arith, elements)

pub returns-then-not-branch-clause-long : goal.returns-then-not-branch-clause-long
returns-then-not-branch-clause-long c = grind (arith, elements)
