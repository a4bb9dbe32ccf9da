use Rattle.run_files.proofs.Caused.{caused_as, failed_by}
use Rattle.std.proofs.Common.{rules, true, ◌≡◌, string_bytes}
use Rattle.run_files.specs.Places.{is_within}
use Rattle.run_files.specs.Causes.{in_folder}
use Rattle.run_files.specs.declared.fault.FilesFault.TheVariants.{Unwritten}
use Rattle.std.proofs.lemmas.Grind.{elements}
use Rattle.std.proofs.Common.{arith}
use Rattle.run_files.proofs.places.stay_outside.Goals as goal

pub returns-then-is_within-clause-cause : goal.returns-then-is_within-clause-cause
returns-then-is_within-clause-cause g c =
    let within : is_within (string_bytes c.in-Ok.other) (string_bytes c.args.at.now) ≡ true = search rules in
    caused_as _ _ _ _ Unwritten c.refused.ensures (
      string_bytes c.args.history.now,
      c.requires.wanted,
      in_folder (string_bytes c.args.folder.now) (string_bytes c.args.at.now) (string_bytes c.in-Ok.other) c.requires.state
          (c.place.ensures.goes.later _ c.requires.placed) c.in-Ok.ensures.placed within,
    )

pub returns-clause-cause : goal.returns-clause-cause
returns-clause-cause g c = failed_by _ _ _ _ _ _ c.refused_by.ensures c.in-Err.ensures.fault c.requires.state

pub returns-in-Ok-clause-apart : goal.returns-in-Ok-clause-apart
returns-in-Ok-clause-apart g c = grind (arith, elements)
