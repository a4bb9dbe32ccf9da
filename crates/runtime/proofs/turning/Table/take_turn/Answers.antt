use Rattle.std.proofs.lemmas.Result.{on_ok_weaker}
use Rattle.run_log.specs.ArmedWorlds.{armed_view}
use Rattle.runtime.proofs.Turns.{not_late, turn_made, turn_rested, turn_widened}
use Rattle.runtime.proofs.turning.Table.take_turn.Goals as goal

pub returns-in-Reply-clause-turn : goal.returns-in-Reply-clause-turn
returns-in-Reply-clause-turn g c =
    let rooms = g.ThisRun.Run.rooms in
    let old = armed_view c.args.self.now.log.armed in
    let between = armed_view c.turn.new.self.log.armed in
    let new = armed_view c.follow.new.self.log.armed in
    on_ok_weaker c.follow.result
    (λ follows. turn_made rooms g.ThisRun.Run.script c.args.self.now.log.passed c.args.node old between new c.in_ok-answer.answer c.in-Reply.reply c.in-Reply.is
    c.in_ok-answer.ensures.turned follows)
    c.follow.ensures.follows

pub returns-in-Widened-clause-turn : goal.returns-in-Widened-clause-turn
returns-in-Widened-clause-turn g c =
    turn_widened g.ThisRun.Run.rooms g.ThisRun.Run.script c.args.self.now.log.passed c.args.node (armed_view c.args.self.now.log.armed) (armed_view c.turn.new.self.log.armed)
    c.in_ok-answer.answer _ c.in-Widened.is c.in_ok-answer.ensures.turned

pub returns-in-Nothing-clause-turn : goal.returns-in-Nothing-clause-turn
returns-in-Nothing-clause-turn g c =
    turn_rested g.ThisRun.Run.rooms g.ThisRun.Run.script c.args.self.now.log.passed c.args.node (armed_view c.args.self.now.log.armed) (armed_view c.turn.new.self.log.armed)
    c.in_ok-answer.answer c.in-Nothing.is c.in_ok-answer.ensures.turned

-- the lines that were late were passed before
pub unreachable-requires : goal.unreachable-requires
unreachable-requires g c =
    not_late g.ThisRun.Run.rooms g.ThisRun.Run.script c.args.self.now.log.passed c.args.node (armed_view c.args.self.now.log.armed)
    (armed_view c.turn.new.self.log.armed) c.in_ok-answer.answer c.in-Late.is c.requires.in_time c.in_ok-answer.ensures.turned
