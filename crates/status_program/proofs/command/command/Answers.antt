use Rattle.std.proofs.Common.{◌≡◌, ◌∙◌, ap, ap₂, codes, Ok, Err, Result}
use Rattle.std.specs.Prelude.{IfOk, IsOkAnd}
use Rattle.std.specs.declared.alloc.AllocError.{AllocError}
use Rattle.clap.specs.Simple.{app_of_fields}
use Rattle.clap.specs.Words.{App, Rule, app_of, new_app, with_rule}
use Rattle.stream_words.specs.CommandLine.{with_version}
use Rattle.status_program.specs.StatusWords.{kahnrun_status}
use Rattle.status_program.proofs.command.command.Goals as goal

-- one argument more, where there was a command line before
next : {C E F : Type 0} (app : C → App) (before : Result C E) (after : Result C F) (known : App) (rule other : Rule) → other ≡ rule
    → IfOk before (λ b. app b ≡ known) → IfOk after (λ c. IsOkAnd before (λ b. app c ≡ with_rule (app b) other))
    → IfOk after (λ c. app c ≡ with_rule known rule)
next app (Ok b) (Ok c) known rule other same is by = by ∙ ap₂ with_rule is same
next app (Err e) (Ok c) known rule other same is by = absurd by
next app before (Err e) known rule other same is by = tt

pub returns : goal.returns
unfolding kahnrun_status
returns c =
    let texts : app_of c.after_help-start.result ≡ app_of c.version.result =
    ap app_of_fields c.after_help-start.ensures ∙ ap app_of_fields c.about.ensures in
    let version : app_of c.version.result ≡ with_version (app_of c.new.result) = ap app_of_fields c.version.ensures in
    let start : app_of c.after_help-start.result ≡ with_version (new_app (codes "kahnrun")) =
    texts ∙ (version ∙ ap with_version c.new.ensures.app) in
    let status =
    next {E = AllocError} app_of (Ok c.after_help-start.result) c.and-with_status.result _ _ _ c.status.ensures.rule start
    (c.and-with_status.ensures c.status.ensures.here) in
    next app_of c.and-with_status.result c.and.result _ _ _ c.explain.ensures.rule status (c.and.ensures c.explain.ensures.here)
