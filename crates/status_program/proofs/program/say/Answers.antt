use Rattle.std.proofs.Common.{◌≡◌, ◌∙◌, ◌∷◌, ap, ℕ, List, Ok}
use Rattle.std.specs.Prelude.{string_bytes}
use Rattle.host.specs.Requests.{Said}
use Rattle.status_program.specs.Told.{text_of}
use Rattle.status_program.proofs.Telling.{asked_said, asked_then, asked_words, failed_unsaid}
use Rattle.status_program.proofs.program.say.Goals as goal

pub returns-in-Ok-say-clause-asked : goal.returns-in-Ok-say-clause-asked
returns-in-Ok-say-clause-asked g c = asked_said (string_bytes c.args.options.now.folder) _ _ _ _ c.say.ensures

pub returns-in-Ok-say-clause-told : goal.returns-in-Ok-say-clause-told
returns-in-Ok-say-clause-told g c = λ ending is.
    let old = g.H.Host.asked c.args.host.now in
    let same : c.into_bytes.result.items ≡ text_of c.args.status.now = cc (c.into_bytes.ensures.value, c.in-Ok.ensures) in
    record {
      status = c.args.status.now;
      before = old;
      is = c.requires;
      said = c.in-Ok-say.ensures ∙ ap (λ (bytes : List ℕ). Said bytes (Ok tt) ∷ old) same;
      exit_is = c.status_of_ending.ensures;
    }

pub returns-clause-asked : goal.returns-clause-asked
returns-clause-asked g c =
    let folder = string_bytes c.args.options.now.folder in
    asked_then folder _ _ _ (asked_said folder _ _ _ _ c.say.ensures) (asked_words folder _ _ c.tell_words.ensures)

pub returns-clause-failed : goal.returns-clause-failed
returns-clause-failed g c = λ is.
    failed_unsaid (string_bytes c.args.options.now.folder) _ _ _ _ _ c.in-Err.ensures c.tell_words.ensures
