use Rattle.std.proofs.Common.{sym, ap, ◌∙◌, Err}
use Rattle.kahn_net.specs.Common.{network_of}
use Rattle.kahn_net.specs.Laws.Approximations.{solution_is_next, next_is_solution}
use Rattle.stream_eq.proofs.Lengths.{solution_within}
use Rattle.std.proofs.lemmas.Grind.{elements}
use Rattle.std.proofs.Common.{arith}
use Rattle.stream_eq.proofs.solution.solves.Goals as goal

pub returns-in-Ok-clause-answer : goal.returns-in-Ok-clause-answer
returns-in-Ok-clause-answer c =
    let net = network_of c.args.net.now.program in
    let valid = c.args.net.now.valid in
    let inputs = c.args.inputs.now in
    let histories = c.args.histories.now in
    let after = c.deref-in-Ok.ensures.value ∙ c.in-Ok.ensures.next in (
      λ h. next_is_solution net valid inputs histories (c.are_same.ensures.0 h ∙ after),
      λ s. c.are_same.ensures.1
          (solution_is_next net valid inputs histories s ∙ sym after),
    )

pub returns-in-Err-Long-clause-answer : goal.returns-in-Err-Long-clause-answer
returns-in-Err-Long-clause-answer c =
    let net = network_of c.args.net.now.program in (
      λ h. absurd (cc),
      λ s. absurd
          (solution_within net c.args.net.now.valid c.args.inputs.now c.args.histories.now c.deref.result.now
          (c.deref.ensures.value ∙ c.in_ok-limits.ensures)
          (c.in-Err-Long.ensures.long (ap Err c.in-Err-Long.field-0-is))
          s),
    )

pub returns-then-len-inputs-clause-answer : goal.returns-then-len-inputs-clause-answer
returns-then-len-inputs-clause-answer c = grind (arith, elements)
