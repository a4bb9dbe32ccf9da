use Rattle.std.proofs.Common.{◌∙◌, List, sym, subst}
use Rattle.journal.specs.Histories.{Begins, seen, written}
use Rattle.journal.specs.declared.journal.Reader.{Reader}
use Rattle.run_log.specs.Lines.{happenings}
use Rattle.journal.proofs.Moves.{begins_more}
use Rattle.journal.proofs.journal.Journal.show.Goals as goal
use Rattle.run_log.specs.declared.history.Line.{Line}

pub write-requires : goal.write-requires
write-requires c =
    let same = c.recall.ensures.written ∙ c.reader-fresh.ensures.written in
    record { grows = subst (λ (all : List Line). Begins all c.args.lines.now.items) (sym same) c.requires.grows }

pub returns-clause-began : goal.returns-clause-began
returns-clause-began c =
    subst (λ (reader : Reader). Begins (seen reader) (written c.args.self.now)) c.replace-former.ensures.value
    (subst (λ (all : List Line). Begins (seen c.replace-former.result) all) c.reader-fresh.ensures.written c.recall.ensures.begins)

pub returns-clause-begins : goal.returns-clause-begins
returns-clause-begins c =
    let before = subst (λ (reader : Reader). Begins (seen reader) (written c.args.self.now)) c.replace-former.ensures.value
    (subst (λ (all : List Line). Begins (seen c.replace-former.result) all) c.reader-fresh.ensures.written c.recall.ensures.begins) in
    subst (λ (all : List Line). Begins (seen c.args.reader.now) all) (sym (c.reader.ensures.seen ∙ c.write.ensures.written))
    (begins_more _ (happenings (written c.args.self.now)) _ before c.requires.grows)
