use Rattle.std.proofs.Common.{◌≡◌, false, [], length, map, rules, sym, subst}
use Rattle.std.specs.Prelude.{◌↔◌, IsTrue}
use Rattle.record.specs.Common.{standing_in, MAX_REPEATS}
use Rattle.ckpt_codec.specs.Fields.{IsAllowed}
use Rattle.ckpt_codec.specs.RecordText.{at_most, mode_fields, remaining}
use Rattle.ckpt_codec.proofs.Testing.{Tests, mode_not, mode_deep, mode_then}
use Rattle.ckpt_codec.proofs.allowed.is_mode.Goals as goal

pub returns-then-not-site_stands : goal.returns-then-not-site_stands
returns-then-not-site_stands c =
    subst (λ m. Tests false (mode_fields (standing_in m []))) (sym c.in-At.is)
    (mode_not c.in-At.place _ c.site_stands.ensures c.if-not-site_stands.true)

pub returns-then-not-depth_stands : goal.returns-then-not-depth_stands
returns-then-not-depth_stands c =
    let long : c.len.result ≡ length c.in-At.place.left.items = search rules in
    subst (λ m. Tests false (mode_fields (standing_in m []))) (sym c.in-At.is)
    (mode_deep c.in-At.place _ c.site_stands.ensures _ c.if-not-site_stands.false
    (subst (λ n. IsTrue c.depth_stands.result ↔ IsAllowed (at_most 1 MAX_REPEATS n)) long c.depth_stands.ensures)
    c.if-not-depth_stands.true)

pub returns-else-not-depth_stands : goal.returns-else-not-depth_stands
returns-else-not-depth_stands c =
    let long : c.len.result ≡ length c.in-At.place.left.items = search rules in
    subst (λ m. Tests c.are_passes.result (mode_fields (standing_in m []))) (sym c.in-At.is)
    (mode_then c.in-At.place _ c.site_stands.ensures _ c.are_passes.result c.if-not-site_stands.false
    (subst (λ n. IsTrue c.depth_stands.result ↔ IsAllowed (at_most 1 MAX_REPEATS n)) long c.depth_stands.ensures)
    c.if-not-depth_stands.false
    (subst (λ xs. Tests c.are_passes.result (map remaining xs)) c.as_slice.ensures.value c.are_passes.ensures))
