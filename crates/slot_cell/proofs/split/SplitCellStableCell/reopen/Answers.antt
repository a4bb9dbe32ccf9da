use Rattle.std.proofs.Common.{◌≤◌, ◌%◌, get_or, List, ℕ, sym, ◌∙◌, ap, subst, arith}
use Rattle.gate_cell.specs.Layout.{named, length_in, room_on, IsSettled}
use Rattle.gate_cell.proofs.Lift.{lifted_quiet}
use Rattle.gate_cell.proofs.Standing.{length_fits, settled_stands}
use Rattle.slot_cell.specs.SplitLayout.{slot_room_on, header_on, whole_on}
use Rattle.slot_cell.specs.declared.TheConstants.{HEADER_SECTORS}
use Rattle.std.proofs.lemmas.Grind.{common_steps}
use Rattle.slot_cell.proofs.split.SplitCellStableCell.reopen.Goals as goal

pub invariant_of-self-2 : goal.invariant_of-self-2
invariant_of-self-2 g c =
    let D = g.D.Disk in
    let self = c.args.self.now in
    let old = self.disk in
    let new = c.find_in.new.disk in
    let find = c.in_ok-found.ensures in
    let seen = c.find_in.ensures.looks.quiet.same in
    let fits =
    length_fits HEADER_SECTORS (D.content old)
    _ (self.stands (D.content old) (g.met.D.Disk.content_may_stay old)) in
    let settled : IsSettled (D.content new) (D.may_leave new) HEADER_SECTORS c.in_ok-found.found.active
    c.in_ok-found.found.value_len = record {
      durable = find.durable;
      gate = ap (λ (l : List ℕ). get_or l 0 0 % 2) seen ∙ find.active;
      long = ap (λ (l : List ℕ). length_in (named HEADER_SECTORS l)) seen ∙ find.long;
      fits = subst (λ n. n ≤ room_on HEADER_SECTORS) find.long fits;
    } in
    record {
      sectors = subst (λ n. 5 ≤ n) (sym c.find_in.ensures.setup.same_sectors) self.sectors;
      which = omega (arith, find.active);
      stands = settled_stands _ _ _ _ _ settled;
      settled = λ ok. settled;
    }

pub returns-clause-any_moment : goal.returns-clause-any_moment
returns-clause-any_moment g c =
    let D = g.D.Disk in
    let old = c.args.self.now.disk in
    let up =
    lifted_quiet header_on D.moment D.left_since D.sector_count old c.find_in.new.disk
    c.find_in.ensures.setup.same_sectors D.may_leave c.find_in.ensures.looks.any_moment in
    record { later = up.later; each = up.each; before = up.before; keeps = up.keeps }

pub returns-clause-beside : goal.returns-clause-beside
returns-clause-beside g c =
    let D = g.D.Disk in
    let old = c.args.self.now.disk in
    let new = c.find_in.new.disk in
    let looks = c.find_in.ensures.looks in
    let same = c.find_in.ensures.setup.same_sectors in
    let up = lifted_quiet whole_on D.moment D.left_since D.sector_count old new same D.may_leave looks.any_moment in
    record {
      same = ap (λ n. whole_on n (D.content new)) same ∙ ap (whole_on (D.sector_count old)) looks.quiet.same;
      same_slot_room = ap slot_room_on same;
      any_moment = record { later = up.later; each = up.each; before = up.before; keeps = up.keeps };
    }

pub returns-in_err-found-clause-any_moment : goal.returns-in_err-found-clause-any_moment
returns-in_err-found-clause-any_moment g c = grind (arith, common_steps)
