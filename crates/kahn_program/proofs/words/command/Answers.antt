use Rattle.std.proofs.Common.{◌≡◌, ◌∙◌, ap, ap₂, codes, Ok, Err, Result}
use Rattle.std.specs.Prelude.{IfOk, IsOkAnd}
use Rattle.std.specs.declared.alloc.AllocError.{AllocError}
use Rattle.clap.specs.Simple.{app_of_fields}
use Rattle.clap.specs.Words.{App, Rule, app_of, new_app, with_rule}
use Rattle.kahn_program.specs.CommandLine.{kahnrun, with_version}
use Rattle.kahn_program.proofs.words.command.Goals as goal

-- one argument more, where there was a command line before
next : {C E F : Type 0} (app : C → App) (before : Result C E) (after : Result C F) (known : App) (rule other : Rule) → other ≡ rule
    → IfOk before (λ b. app b ≡ known) → IfOk after (λ c. IsOkAnd before (λ b. app c ≡ with_rule (app b) other))
    → IfOk after (λ c. app c ≡ with_rule known rule)
next app (Ok b) (Ok c) known rule other same is by = by ∙ ap₂ with_rule is same
next app (Err e) (Ok c) known rule other same is by = absurd by
next app before (Err e) known rule other same is by = tt

pub returns : goal.returns
unfolding kahnrun
returns c =
    let texts : app_of c.after_help-start.result ≡ app_of c.version.result =
    ap app_of_fields c.after_help-start.ensures ∙ ap app_of_fields c.about.ensures in
    let version : app_of c.version.result ≡ with_version (app_of c.new.result) = ap app_of_fields c.version.ensures in
    let start : app_of c.after_help-start.result ≡ with_version (new_app (codes "kahnrun")) =
    texts ∙ (version ∙ ap with_version c.new.ensures.app) in
    let net =
    next {E = AllocError} app_of (Ok c.after_help-start.result) c.and-net.result _ _ _ c.file.ensures.rule start (c.and-net.ensures c.file.ensures.here) in
    let inputs =
    next app_of c.and-net.result c.and-inputs.result _ _ _ c.file-2.ensures.rule net (c.and-inputs.ensures c.file-2.ensures.here) in
    let script =
    next app_of c.and-inputs.result c.and-script.result _ _ _ c.file_option.ensures.rule inputs (c.and-script.ensures c.file_option.ensures.here) in
    let state =
    next app_of c.and-script.result c.and-state.result _ _ _ c.file_option-2.ensures.rule script (c.and-state.ensures c.file_option-2.ensures.here) in
    let sync =
    next app_of c.and-state.result c.and-sync.result _ _ _ c.flag.ensures.rule state (c.and-sync.ensures c.flag.ensures.here) in
    let rounds =
    next app_of c.and-sync.result c.and-to_round.result _ _ _ c.rounds.ensures.rule sync (c.and-to_round.ensures c.rounds.ensures.here) in
    let items =
    next app_of c.and-to_round.result c.and-items.result _ _ _ c.number.ensures.rule rounds (c.and-items.ensures c.number.ensures.here) in
    let room =
    next app_of c.and-items.result c.and-channels.result _ _ _ c.room.ensures.rule items (c.and-channels.ensures c.room.ensures.here) in
    let plain =
    next app_of c.and-channels.result c.and-plain.result _ _ _ c.flag-2.ensures.rule room (c.and-plain.ensures c.flag-2.ensures.here) in
    let approx =
    next app_of c.and-plain.result c.and-approx.result _ _ _ c.number-2.ensures.rule plain (c.and-approx.ensures c.number-2.ensures.here) in
    let explain =
    next app_of c.and-approx.result c.and-explain.result _ _ _ c.flag-3.ensures.rule approx (c.and-explain.ensures c.flag-3.ensures.here) in
    let history =
    next app_of c.and-explain.result c.and-history.result _ _ _ c.file_option-3.ensures.rule explain (c.and-history.ensures c.file_option-3.ensures.here) in
    next app_of c.and-history.result c.and.result _ _ _ c.flag-4.ensures.rule history (c.and.ensures c.flag-4.ensures.here)
