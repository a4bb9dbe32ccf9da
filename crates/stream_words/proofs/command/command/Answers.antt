use Rattle.std.proofs.Common.{◌≡◌, ◌∙◌, ap, ap₂, codes, Ok, Err, Result}
use Rattle.std.specs.Prelude.{IfOk, IsOkAnd}
use Rattle.std.specs.declared.alloc.AllocError.{AllocError}
use Rattle.clap.specs.Simple.{app_of_fields}
use Rattle.clap.specs.Words.{App, Rule, app_of, new_app, with_rule}
use Rattle.stream_words.specs.CommandLine.{kahnrun_stream, with_version}
use Rattle.stream_words.proofs.command.command.Goals as goal

-- one argument more, where there was a command line before
next : {C E F : Type 0} (app : C → App) (before : Result C E) (after : Result C F) (known : App) (rule other : Rule) → other ≡ rule
    → IfOk before (λ b. app b ≡ known) → IfOk after (λ c. IsOkAnd before (λ b. app c ≡ with_rule (app b) other))
    → IfOk after (λ c. app c ≡ with_rule known rule)
next app (Ok b) (Ok c) known rule other same is by = by ∙ ap₂ with_rule is same
next app (Err e) (Ok c) known rule other same is by = absurd by
next app before (Err e) known rule other same is by = tt

pub returns : goal.returns
unfolding kahnrun_stream
returns c =
    let texts : app_of c.after_help-start.result ≡ app_of c.version.result =
    ap app_of_fields c.after_help-start.ensures ∙ ap app_of_fields c.about.ensures in
    let version : app_of c.version.result ≡ with_version (app_of c.new.result) = ap app_of_fields c.version.ensures in
    let start : app_of c.after_help-start.result ≡ with_version (new_app (codes "kahnrun")) =
    texts ∙ (version ∙ ap with_version c.new.ensures.app) in
    let net =
    next {E = AllocError} app_of (Ok c.after_help-start.result) c.and-with_net.result _ _ _ c.net.ensures.rule start
    (c.and-with_net.ensures c.net.ensures.here) in
    let inputs =
    next app_of c.and-with_net.result c.and-with_inputs.result _ _ _ c.inputs.ensures.rule net (c.and-with_inputs.ensures c.inputs.ensures.here) in
    let stream =
    next app_of c.and-with_inputs.result c.and-with_stream.result _ _ _ c.stream.ensures.rule inputs
    (c.and-with_stream.ensures c.stream.ensures.here) in
    let input =
    next app_of c.and-with_stream.result c.and-with_input.result _ _ _ c.input.ensures.rule stream (c.and-with_input.ensures c.input.ensures.here) in
    let binary =
    next app_of c.and-with_input.result c.and-with_binary.result _ _ _ c.binary.ensures.rule input
    (c.and-with_binary.ensures c.binary.ensures.here) in
    let room =
    next app_of c.and-with_binary.result c.and-with_room.result _ _ _ c.room.ensures.rule binary (c.and-with_room.ensures c.room.ensures.here) in
    next app_of c.and-with_room.result c.and.result _ _ _ c.explain.ensures.rule room (c.and.ensures c.explain.ensures.here)
