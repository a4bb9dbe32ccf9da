use Rattle.run_files.proofs.Caused.{unwritten_by}
use Rattle.std.proofs.Common.{refl, subst, sym, inl, Err, string_bytes}
use Rattle.host.specs.Requests.{Has, OpenedDevice}
use Rattle.std.proofs.lemmas.Grind.{elements}
use Rattle.std.proofs.Common.{arith}
use Rattle.run_files.proofs.happened.open_device.Goals as goal

pub returns-in-Err-clause-cause : goal.returns-in-Err-clause-cause
returns-in-Err-clause-cause g c =
    unwritten_by _ _ _ _ _ _ (OpenedDevice (string_bytes c.args.path.now) (Err c.in-Err.fault)) c.refused_by.ensures c.requires.wanted
    (subst (λ e. Has (OpenedDevice (string_bytes c.args.path.now) (Err c.in-Err.fault)) e) (sym c.in-Err.ensures.asked) (inl refl)) refl

pub returns-in-Ok-clause-goes : goal.returns-in-Ok-clause-goes
returns-in-Ok-clause-goes g c = grind (arith, elements)

pub returns-in-Err-clause-goes : goal.returns-in-Err-clause-goes
returns-in-Err-clause-goes g c = grind (arith, elements)
