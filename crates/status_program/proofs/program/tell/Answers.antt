use Rattle.std.proofs.Common.{inl, refl}
use Rattle.std.specs.Prelude.{string_bytes}
use Rattle.status_program.proofs.Telling.{asked_told, asked_then, asked_words, failed_told}
use Rattle.status_program.proofs.program.tell.Goals as goal

pub returns-after-options-clause-asked : goal.returns-after-options-clause-asked
returns-after-options-clause-asked g c =
    let folder = string_bytes c.args.options.now.folder in
    asked_then folder _ _ _ (asked_told folder _ _ _ _ c.tell.ensures) (asked_words folder _ _ c.tell_words.ensures)

pub returns-after-options-clause-failed : goal.returns-after-options-clause-failed
returns-after-options-clause-failed g c =
    failed_told (string_bytes c.args.options.now.folder) _ _ _ c.args.refused.fault c.into_bytes.result.items _ c.requires
    (cc (c.into_bytes.ensures.value, c.in-Ok.ensures.ok, c.line.ensures)) c.tell.ensures c.tell_words.ensures

pub returns-in-Err-clause-asked : goal.returns-in-Err-clause-asked
returns-in-Err-clause-asked g c = asked_told (string_bytes c.args.options.now.folder) _ _ _ _ c.tell.ensures

pub returns-in-Err-clause-failed : goal.returns-in-Err-clause-failed
returns-in-Err-clause-failed g c =
    failed_told (string_bytes c.args.options.now.folder) _ _ _ c.args.refused.fault c.into_bytes.result.items _ c.requires
    (cc (c.into_bytes.ensures.value, c.in-Ok.ensures.ok, c.line.ensures)) c.tell.ensures (inl refl)
