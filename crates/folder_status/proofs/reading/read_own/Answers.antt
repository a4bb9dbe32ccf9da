use Rattle.std.proofs.Common.{◌∙◌, inl, refl, subst, sym}
use Rattle.std.specs.Prelude.{string_bytes}
use Rattle.host.specs.Requests.{Has}
use Rattle.folder_status.specs.Files.{OnlyReads}
use Rattle.folder_status.proofs.Asked.{only_one}
use Rattle.folder_status.proofs.Held.{unread_by}
use Rattle.folder_status.proofs.reading.read_own.Goals as goal

pub returns-in-Ok-clause-asked : goal.returns-in-Ok-clause-asked
returns-in-Ok-clause-asked g c =
    subst (OnlyReads (string_bytes c.args.folder.now) (g.H.Host.asked c.args.host.now)) (sym c.read.ensures) (only_one _ _ _ _ c.requires)

pub returns-in-Err-clause-asked : goal.returns-in-Err-clause-asked
returns-in-Err-clause-asked g c =
    subst (OnlyReads (string_bytes c.args.folder.now) (g.H.Host.asked c.args.host.now)) (sym c.read.ensures) (only_one _ _ _ _ c.requires)

pub returns-in-Err-clause-cause : goal.returns-in-Err-clause-cause
returns-in-Err-clause-cause g c =
    unread_by (string_bytes c.args.folder.now) (string_bytes c.args.path.now) _ c.in-Err.fault _ c.requires
    (subst (Has _) (sym c.in-Err.ensures) (inl refl)) (c.refused.ensures ∙ c.of_unread.ensures)
