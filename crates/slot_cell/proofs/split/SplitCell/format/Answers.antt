use Rattle.std.proofs.Common.{List, ℕ, length, take, refl, ◌∙◌, ap, subst}
use Rattle.gate_cell.specs.Layout.{frame_size, named, IsFrame}
use Rattle.slot_cell.specs.SplitLayout.{whole_on}
use Rattle.slot_cell.specs.declared.TheConstants.{HEADER_SECTORS}
use Rattle.slot_cell.proofs.Heading.{laid_whole}
use Rattle.std.proofs.lemmas.Grind.{elements}
use Rattle.std.proofs.Common.{arith}
use Rattle.slot_cell.proofs.split.SplitCell.format.Goals as goal

pub returns-clause-formatted : goal.returns-clause-formatted
returns-clause-formatted g c =
    let D = g.D.Disk in
    let disk = c.args.disk in
    let new = c.lay_out.new.disk in
    let laid = c.in_default.ensures in
    let is = c.frame_into.ensures.holds in
    record {
      ready = refl;
      holds = ap (λ n. whole_on n (D.content new)) c.lay_out.ensures.setup.same_sectors
          ∙ laid_whole (D.sector_count disk) 0 _ (D.may_leave new) (D.content disk) (D.content new) _ c.args.value.now
          laid.settled laid.value is laid.behind;
      frame = subst (λ (v : List ℕ). IsFrame v (take (frame_size (length v)) (named HEADER_SECTORS (D.content new)))) is
          laid.frame;
      gate = laid.gate;
      uncounted = laid.uncounted;
      none_failed = laid.none_failed;
    }

pub returns-clause-failures : goal.returns-clause-failures
returns-clause-failures g c = grind (arith, elements)
