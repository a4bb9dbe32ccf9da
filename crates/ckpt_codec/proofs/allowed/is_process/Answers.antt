use Rattle.std.proofs.Common.{◌≡◌, false, rules, ℤ, length, option_copied, subst, ap, ◌∙◌}
use Rattle.std.specs.Prelude.{◌↔◌, IsTrue}
use Rattle.kahn_net.specs.Common.{standing_of}
use Rattle.record.specs.Common.{MAX_PROCESSES, MAX_VARIABLES, SavedProcessView}
use Rattle.ckpt_codec.specs.Fields.{IsAllowed}
use Rattle.ckpt_codec.specs.RecordText.{at_most, between, wanted, wanted_or, variables_of, process_fields}
use Rattle.ckpt_codec.proofs.Testing.{Tests, as_found, mode_alone, variables_alone, process_not, process_then}
use Rattle.ckpt_codec.proofs.allowed.is_process.Goals as goal

pub returns-then-not-is_mode : goal.returns-then-not-is_mode
returns-then-not-is_mode c =
    subst (λ (p : SavedProcessView). Tests false (process_fields (option_copied c.args.like) c.args.least p))
    c.process.view_is
    (process_not (option_copied c.args.like) c.args.least
    (record { number = c.process.inside.number; standing = standing_of c.process.inside.state })
    _ _ (as_found c.number_of.result (wanted (λ (p : SavedProcessView). p.number) (option_copied c.args.like))
    (between 1 c.args.least MAX_PROCESSES c.process.inside.number) _ c.number_of.ensures c.number_stands.ensures)
    c.if-not-number_stands.false
    (subst (λ fs. Tests c.is_mode.result fs)
    (mode_alone c.process.inside.state.mode c.process.inside.state.variables.items) c.is_mode.ensures)
    c.if-not-is_mode.true)

pub returns : goal.returns
returns c =
    let long : c.len.result ≡ length c.process.inside.state.variables.items = search rules in
    subst (λ (p : SavedProcessView). Tests c.length_stands.result
    (process_fields (option_copied c.args.like) c.args.least p)) c.process.view_is
    (process_then (option_copied c.args.like) c.args.least
    (record { number = c.process.inside.number; standing = standing_of c.process.inside.state })
    _ _ (as_found c.number_of.result (wanted (λ (p : SavedProcessView). p.number) (option_copied c.args.like))
    (between 1 c.args.least MAX_PROCESSES c.process.inside.number) _ c.number_of.ensures c.number_stands.ensures)
    c.if-not-number_stands.false
    (subst (λ fs. Tests c.is_mode.result fs)
    (mode_alone c.process.inside.state.mode c.process.inside.state.variables.items) c.is_mode.ensures)
    _ c.if-not-is_mode.false
    (as_found c.variables_in.result
    (wanted (λ (p : SavedProcessView). length (variables_of p.standing)) (option_copied c.args.like))
    (at_most 1 MAX_VARIABLES (length (variables_of (standing_of c.process.inside.state)))) _ c.variables_in.ensures
    (subst (λ n. IsTrue c.length_stands.result
    ↔ IsAllowed (wanted_or c.variables_in.result (at_most 1 MAX_VARIABLES n)))
    (long ∙ ap (length {A = ℤ})
    (variables_alone c.process.inside.state.mode c.process.inside.state.variables.items)) c.length_stands.ensures)))
