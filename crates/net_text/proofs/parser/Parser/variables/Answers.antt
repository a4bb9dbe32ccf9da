use Rattle.std.proofs.Common.{sym, ◌∙◌}
use Rattle.net_text.proofs.Loops.{variable_shortens}
use Rattle.net_text.proofs.Loops.{variables_more}
use Rattle.net_text.proofs.parser.Parser.variables.Goals as goal

pub loop-self-smaller : goal.loop-self-smaller
loop-self-smaller c =
    variable_shortens c.loop-self.self (c.in_ok-variable.variable, c.variable.new.self) c.in_ok-variable.ensures

pub loop-self-preserved : goal.loop-self-preserved
loop-self-preserved c =
    rw c.in_ok-push.ensures.items
    (sym (variables_more c.loop-self.variables.items c.in_ok-variable.variable c.loop-self.self c.variable.new.self
    (sym c.loop-self-test.ensures) c.in_ok-variable.ensures) ∙ c.loop-self.invariant)
