use Rattle.net_check.proofs.Accepting.{no_input_fault, ok_unless}
use Rattle.net_check.proofs.binding.bind.Goals as goal

pub returns-clause-accepted : goal.returns-clause-accepted
returns-clause-accepted c =
    λ lists binds. ok_unless c.bind_in_order.result _ c.bind_in_order.ensures.fault
    (λ f h. no_input_fault _ _ _ lists f binds h)
