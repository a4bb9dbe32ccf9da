use Rattle.std.proofs.Common.{◌+◌, ◌<◌, ◌∙◌, ℕ, ap, sym, subst}
use Rattle.std.specs.Prelude.{sum_by}
use Rattle.ckpt_codec.specs.Common.{decided_below}
use Rattle.ckpt_codec.specs.Lengths.{decision_length}
use Rattle.ckpt_store.proofs.Decisions.{bytes_decided}
use Rattle.ckpt_store.proofs.deciding.decided_bytes.Goals as goal

pub returns-clause-value : goal.returns-clause-value
returns-clause-value c = λ nodes long.
    let below = c.bytes_below.ensures.value in
    let named = c.named_bytes.ensures.value c.args.number nodes long in
    ap (λ (n : ℕ). 1 + n + c.named_bytes.result) below
    ∙ (ap (λ (n : ℕ). 1 + sum_by decision_length (decided_below c.args.number c.args.decisions.now) + n) named
    ∙ bytes_decided c.args.number nodes c.args.decisions.now
    (subst (λ (n : ℕ). 0 < n) (sym long) c.requires.some.0))
