use Rattle.run_files.proofs.Caused.{caused_as, failed_by}
use Rattle.run_files.specs.Causes.{no_folder}
use Rattle.run_files.specs.declared.fault.FilesFault.TheVariants.{OtherState}
use Rattle.std.proofs.Common.{string_bytes}
use Rattle.std.proofs.Common.{rules, subst, Err}
use Rattle.host.specs.Requests.{Has, Looked}
use Rattle.host.specs.declared.fault.HostFault.TheVariants as host
use Rattle.std.proofs.lemmas.Grind.{elements}
use Rattle.std.proofs.Common.{arith}
use Rattle.run_files.proofs.folder.is_made.Goals as goal

pub returns-in-Err-NoFolder-clause-cause : goal.returns-in-Err-NoFolder-clause-cause
returns-in-Err-NoFolder-clause-cause g c =
    let looked : Has (Looked (string_bytes c.in_ok-path.path) (Err host.NoFolder)) (g.H.Host.asked c.look.new.host) = grind (arith, elements) in
    caused_as _ _ _ _ OtherState c.refused_at.ensures (
      string_bytes c.args.folder.now,
      c.requires.wanted,
      no_folder (subst (λ p. Has (Looked p (Err host.NoFolder)) (g.H.Host.asked c.look.new.host)) c.in_ok-path.ensures looked),
    )

pub returns-clause-cause : goal.returns-clause-cause
returns-clause-cause g c = failed_by _ _ _ _ _ _ c.refused_by.ensures c.in-Err.ensures.fault tt
