use Rattle.std.proofs.Common.{map, subst}
use Rattle.std.proofs.lemmas.List.{take_rest}
use Rattle.ckpt_codec.specs.RecordText.{remaining}
use Rattle.ckpt_codec.proofs.Testing.{Tests, passes_not, passes_then}
use Rattle.ckpt_codec.proofs.allowed.+are_passes.Goals as goal

pub returns-then-not-passes_stand : goal.returns-then-not-passes_stand
returns-then-not-passes_stand t c =
    passes_not c.args.left.now _ _ c.in-len1-up.len_at_least c.passes_stand.ensures c.if-not-passes_stand.true

pub returns : goal.returns
returns t c =
    passes_then c.args.left.now _ _ c.in-len1-up.len_at_least c.passes_stand.ensures _ c.if-not-passes_stand.false
    (subst (λ xs. Tests c.are_passes.result (map remaining xs)) (take_rest c.args.left.now 1) c.are_passes.ensures)
