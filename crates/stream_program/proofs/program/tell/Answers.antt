use Rattle.std.proofs.Common.{◌∙◌, refl, ap}
use Rattle.std.specs.Prelude.{Ok, Err}
use Rattle.stream_program.specs.Causes.{told, untold}
use Rattle.stream_program.proofs.Causing.{told_first}
use Rattle.stream_program.proofs.Preparing.{prepares_then, prepares_told}
use Rattle.stream_program.proofs.program.tell.Goals as goal

pub returns-clause-prepares : goal.returns-clause-prepares
returns-clause-prepares g c =
    prepares_then _ _ _ (rw (c.tell.ensures) (prepares_told _ _ _)) c.tell_words.ensures

pub returns-in-Err-tell-clause-told : goal.returns-in-Err-tell-clause-told
returns-in-Err-tell-clause-told g c =
    untold c.in-Err-tell.field-0
    (told_first _ c.into_bytes-line.result.items _ (Err c.in-Err-tell.field-0) _ _ c.tell.ensures (ap (λ v. v.items) c.into_bytes-line.ensures.value ∙ c.in-Ok.ensures)
    c.in-Err-tell.is) refl

pub returns-clause-told : goal.returns-clause-told
returns-clause-told g c =
    told (c.tell_words.ensures.later _ (told_first _ c.into_bytes-line.result.items _ (Ok tt) _ _ c.tell.ensures
    (ap (λ v. v.items) c.into_bytes-line.ensures.value ∙ c.in-Ok.ensures) c.in-Ok-tell.is)) c.status.ensures
