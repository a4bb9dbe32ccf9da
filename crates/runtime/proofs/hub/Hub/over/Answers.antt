use Rattle.std.proofs.Common.{◌∙◌, List, sym, refl, subst}
use Rattle.journal.specs.Histories.{Begins}
use Rattle.run_log.specs.Lines.{happenings}
use Rattle.run_log.specs.declared.history.Line.{Line}
use Rattle.runtime.proofs.hub.Hub.over.Goals as goal

-- in the journal nothing is written yet
pub write-requires : goal.write-requires
write-requires g c = record {
  grows = λ keeps.
      subst (λ (all : List Line). Begins all c.args.log.lines.items) (sym c.requires.unwritten) ∣ (happenings c.args.log.lines.items, refl) ∣₁;
}

pub invariant_of-new : goal.invariant_of-new
invariant_of-new g c = record {
  begins = c.requires.begun;
  caused = λ stopped. sym c.requires.running ∙ stopped;
  same_rounds = c.requires.rounds;
  same_journal = c.write.ensures.same ∙ c.requires.journal;
  written = λ keeps. ∣ c.write.ensures.written keeps ∣₁;
  in_rounds = c.requires.in_rounds;
}
