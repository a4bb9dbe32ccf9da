use Rattle.std.proofs.Common.{subst}
use Rattle.std.specs.Prelude.{◌↔◌, IsTrue}
use Rattle.ckpt_codec.specs.Fields.{IsAllowed}
use Rattle.ckpt_codec.specs.RecordText.{at_most}
use Rattle.ckpt_codec.proofs.Testing.{log_not, log_then}
use Rattle.ckpt_codec.proofs.allowed.is_log.Goals as goal

pub returns-then-not-base_stands : goal.returns-then-not-base_stands
returns-then-not-base_stands c =
    log_not c.args.limit c.args.from c.args.log.now
    _ (subst (λ n. IsTrue c.base_stands.result ↔ IsAllowed (at_most 8 c.args.limit n)) c.base.ensures
    c.base_stands.ensures) c.if-not-base_stands.true

pub returns : goal.returns
returns c =
    log_then c.args.limit c.args.from c.args.log.now
    _ (subst (λ n. IsTrue c.base_stands.result ↔ IsAllowed (at_most 8 c.args.limit n)) c.base.ensures
    c.base_stands.ensures) _ c.if-not-base_stands.false c.retained_stand.ensures
