use Rattle.run_files.proofs.Caused.{caused_as, unwritten_by}
use Rattle.std.proofs.Common.{subst, Ok, string_bytes}
use Rattle.host.specs.Requests.{Has, Placed}
use Rattle.run_files.specs.Causes.{is_text}
use Rattle.run_files.specs.declared.fault.FilesFault.TheVariants.{Unwritten}
use Rattle.run_files.proofs.places.differ.Goals as goal

pub returns-then-is_same-clause-cause : goal.returns-then-is_same-clause-cause
returns-then-is_same-clause-cause g c =
    caused_as _ _ _ _ Unwritten c.refused_at.ensures (
      string_bytes c.args.history.now,
      c.requires.wanted,
      is_text (string_bytes c.args.name.now) (string_bytes c.args.at.now) c.requires.read (c.place.ensures.goes.later _ c.requires.placed)
          (subst (λ p. Has (Placed (string_bytes c.args.name.now) (Ok p)) (g.H.Host.asked c.place.new.host)) (c.is_same.ensures.same c.if-is_same.true)
          c.in-Ok.ensures.placed),
    )

pub returns-clause-cause : goal.returns-clause-cause
returns-clause-cause g c = unwritten_by _ _ _ _ _ _ _ c.refused_by.ensures c.requires.wanted c.in-Err.ensures.fault tt

pub returns-in-Ok-clause-apart : goal.returns-in-Ok-clause-apart
returns-in-Ok-clause-apart g c = (string_bytes c.in-Ok.other, c.in-Ok.ensures.placed, c.is_same.ensures.other c.if-is_same.false)
