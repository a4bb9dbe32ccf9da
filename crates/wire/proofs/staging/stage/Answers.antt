use Rattle.wire.proofs.Seen.{on_ok_map}
use Rattle.wire.proofs.Staged.{staged_next}
use Rattle.wire.proofs.staging.stage.Goals as goal

pub returns-clause-ok : goal.returns-clause-ok
returns-clause-ok c =
    on_ok_map c.add.result c.add.ensures (λ sent.
    staged_next c.args.staged.now c.args.rules.now c.args.sending.from c.args.sending.to c.args.sending.packet
    c.args.round c.index-staged-sending.result
    c.add.new.self c.requires.there sent)
