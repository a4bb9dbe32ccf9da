-- What is collected, in the words of checkpoints that several nodes take together.
use Rattle.std.specs.Prelude.{Option, option_map}
use Rattle.recovery_line.specs.Nodes.{Answer as Answered, Awaited, By_took, By_covered}
use Rattle.protocol.specs.Node.Collecting.{TookAnswer as Took}
use Rattle.protocol.specs.Node.Collecting as took
use Rattle.protocol.specs.Node.LiveView.{QuestionView}
use Rattle.decide_core.specs.declared.hearing.TookAnswer.{TookAnswer}
use Rattle.decide_core.specs.declared.hearing.TookAnswer.TheVariants as took_answer
use Rattle.decide_core.specs.declared.initiator.Answer.{Answer}
use Rattle.decide_core.specs.declared.initiator.Answer.TheVariants as answer
use Rattle.decide_core.specs.declared.initiator.Asked.{Asked}

abbrev pub answer_view : Answer → Answered
answer_view answer.Awaited = Awaited
answer_view answer.ByTook = By_took
answer_view answer.ByCovered = By_covered

abbrev pub asked_view : Asked → QuestionView
asked_view asked = record { count = asked.count; answer = answer_view asked.answer }

abbrev pub question_view : Option Asked → Option QuestionView
question_view question = option_map asked_view question

abbrev pub took_view : TookAnswer → Took
took_view took_answer.Ignores = took.Ignores
took_view took_answer.Joins = took.Joins
took_view took_answer.GivesUp = took.GivesUp
