use Rattle.std.proofs.Common.{◌≡◌, ◌∙◌, List, sym, ap, subst, slice_index_or}
use mathlib.Core.Logic.{∥∥₁_elim, ∥∥₁_prop}
use Rattle.journal.specs.Histories.{Begins, seen}
use Rattle.run_log.specs.declared.history.Line.{Line}
use Rattle.runtime.proofs.hub.Hub.close.Goals as goal

-- what a seat was shown begins what is written in the journal, and that is the history
pub returns-clause-shown : goal.returns-clause-shown
returns-clause-shown g c = λ keeps.
    let is = c.into_inner-log.result.written keeps in
    let shown = c.with_all-all.ensures.shown in
    let lines : c.close.result.1.lines.items ≡ c.into_inner-log.result.log.lines.items = ap (λ all. all.items) c.close.ensures.lines in (
      λ place none inside. ∥∥₁_elim is ∥∥₁_prop
          (λ same. subst (λ (all : List Line). Begins (seen (slice_index_or c.args.seats.items place none).reader) all) (same ∙ sym lines)
          (shown.0 place none inside)),
      ∥∥₁_elim is ∥∥₁_prop
          (λ same. subst (λ (all : List Line). Begins (seen c.args.driver.reader) all) (same ∙ sym lines) shown.1),
    )
