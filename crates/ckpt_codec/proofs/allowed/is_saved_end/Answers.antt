use Rattle.std.proofs.Common.{option_copied, subst}
use Rattle.std.specs.Prelude.{◌↔◌, IsTrue}
use Rattle.record.specs.Common.{MAX_CHANNELS}
use Rattle.record.specs.declared.image.SavedEnd.{SavedEnd}
use Rattle.ckpt_codec.specs.Fields.{IsAllowed}
use Rattle.ckpt_codec.specs.RecordText.{at_most, between, wanted, wanted_or, role_of}
use Rattle.ckpt_codec.proofs.Testing.{as_found, saved_end_not, saved_end_then}
use Rattle.ckpt_codec.proofs.allowed.is_saved_end.Goals as goal

pub returns-then-not-role_stands : goal.returns-then-not-role_stands
returns-then-not-role_stands c =
    saved_end_not (option_copied c.args.like) c.args.least c.args.saved.now
    _ _ (as_found c.channel_of.result (wanted (λ (e : SavedEnd). e.channel) (option_copied c.args.like))
    (between 2 c.args.least MAX_CHANNELS c.args.saved.now.channel) _ c.channel_of.ensures c.channel_stands.ensures)
    c.if-not-channel_stands.false
    (as_found c.role_in.result (wanted (λ (e : SavedEnd). role_of e.end) (option_copied c.args.like))
    (at_most 1 2 (role_of c.args.saved.now.end)) _ c.role_in.ensures
    (subst (λ n. IsTrue c.role_stands.result ↔ IsAllowed (wanted_or c.role_in.result (at_most 1 2 n)))
    c.role_number.ensures c.role_stands.ensures)) c.if-not-role_stands.true

pub returns : goal.returns
returns c =
    saved_end_then (option_copied c.args.like) c.args.least c.args.saved.now
    _ _ (as_found c.channel_of.result (wanted (λ (e : SavedEnd). e.channel) (option_copied c.args.like))
    (between 2 c.args.least MAX_CHANNELS c.args.saved.now.channel) _ c.channel_of.ensures c.channel_stands.ensures)
    c.if-not-channel_stands.false
    (as_found c.role_in.result (wanted (λ (e : SavedEnd). role_of e.end) (option_copied c.args.like))
    (at_most 1 2 (role_of c.args.saved.now.end)) _ c.role_in.ensures
    (subst (λ n. IsTrue c.role_stands.result ↔ IsAllowed (wanted_or c.role_in.result (at_most 1 2 n)))
    c.role_number.ensures c.role_stands.ensures)) _ c.if-not-role_stands.false c.is_end.ensures
