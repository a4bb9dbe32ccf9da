use Rattle.std.proofs.Common.{◌≡◌, ◌⊎◌, ◌≤◌, inl, refl, Some, List, ℕ, sym, ap, subst, arith, ◌-◌, length}
use Rattle.std.proofs.lemmas.Bool.{false≢true}
use Rattle.gate_cell.specs.Stands.{MayShow}
use Rattle.gate_cell.specs.Layout.{IsSettled}
use Rattle.gate_cell.proofs.Standing.{settled_stands}
use Rattle.gate_cell.proofs.Lift.{lifted}
use Rattle.slot_cell.specs.Whole.{LeftByPut, AsBefore}
use Rattle.slot_cell.specs.SplitLayout.{slot_room_on, header_on, whole_on}
use Rattle.slot_cell.specs.declared.TheConstants.{HEADER_SECTORS}
use Rattle.slot_cell.proofs.Heading.{header_run, whole_run, put_stands}
use Rattle.std.proofs.lemmas.Grind.{elements, pieces}
use Rattle.slot_cell.proofs.split.SplitCellStableCell.put.Goals as goal

pub returns-then-new-room_of-clause-beside : goal.returns-then-new-room_of-clause-beside
returns-then-new-room_of-clause-beside g c =
    let old = c.args.self.now.disk in
    record {
      same_slot_room = refl;
      any_moment = record {
        later = omega arith;
        each = λ left might. AsBefore (might.0, g.met.D.Disk.only_now old might.0 might.1, might.2);
        before = λ t left le had. inl had;
        keeps = λ t left le had. had;
      };
    }

pub invariant_of-self : goal.invariant_of-self
invariant_of-self g c =
    let D = g.D.Disk in
    let self = c.args.self.now in
    let old = self.disk in
    let new = c.put_value.new.disk in
    let value = c.args.new.now in
    let same = c.put_value.ensures.setup.same_sectors in
    let stays = g.met.D.Disk.content_may_stay old in
    let put = c.put_value.ensures.any_moment in
    record {
      sectors = subst (λ n. 5 ≤ n) (sym same) self.sectors;
      which = self.which;
      stands =
          put_stands D.moment D.left_since (D.may_leave old) (D.sector_count old) old new (D.content old) _ value
          c.frame_into.ensures.holds stays put (D.may_leave new) self.stands
          (λ x left. g.met.D.Disk.includes_now new (D.moment old) x put.later left);
      settled = λ ok. absurd (false≢true ok);
    }

pub returns-in_err-put_value-clause-any_moment : goal.returns-in_err-put_value-clause-any_moment
returns-in_err-put_value-clause-any_moment g c =
    let D = g.D.Disk in
    let self = c.args.self.now in
    let old = self.disk in
    let new = c.put_value.new.disk in
    let value = c.args.new.now in
    let same = c.put_value.ensures.setup.same_sectors in
    let stays = g.met.D.Disk.content_may_stay old in
    let put = c.put_value.ensures.any_moment in
    let run =
    header_run D.moment D.left_since (D.may_leave old) (D.sector_count old) old new (D.content old) _ value
    c.frame_into.ensures.holds stays put in
    let up =
    lifted header_on D.moment D.left_since D.sector_count old new same
    (λ left. MayShow header_on D.may_leave D.sector_count old left ⊎ (left ≡ Some value)) run in
    record { later = up.later; each = up.each; before = up.before; keeps = up.keeps }

pub returns-in_err-put_value-clause-beside : goal.returns-in_err-put_value-clause-beside
returns-in_err-put_value-clause-beside g c =
    let D = g.D.Disk in
    let self = c.args.self.now in
    let old = self.disk in
    let new = c.put_value.new.disk in
    let value = c.args.new.now in
    let same = c.put_value.ensures.setup.same_sectors in
    let stays = g.met.D.Disk.content_may_stay old in
    let put = c.put_value.ensures.any_moment in
    let run =
    whole_run D.moment D.left_since (D.may_leave old) (D.sector_count old) old new (D.content old) _ value
    c.frame_into.ensures.holds stays put in
    let up =
    lifted whole_on D.moment D.left_since D.sector_count old new same
    (LeftByPut (MayShow whole_on D.may_leave D.sector_count old) value) run in
    record {
      same_slot_room = ap slot_room_on same;
      any_moment =
          record { later = up.later; each = up.each; before = up.before; keeps = up.keeps };
    }

pub returns-clause-any_moment : goal.returns-clause-any_moment
returns-clause-any_moment g c =
    let D = g.D.Disk in
    let self = c.args.self.now in
    let old = self.disk in
    let new = c.put_value.new.disk in
    let value = c.args.new.now in
    let same = c.put_value.ensures.setup.same_sectors in
    let stays = g.met.D.Disk.content_may_stay old in
    let put = c.put_value.ensures.any_moment in
    let run =
    header_run D.moment D.left_since (D.may_leave old) (D.sector_count old) old new (D.content old) _ value
    c.frame_into.ensures.holds stays put in
    let up =
    lifted header_on D.moment D.left_since D.sector_count old new same
    (λ left. MayShow header_on D.may_leave D.sector_count old left ⊎ (left ≡ Some value)) run in
    record { later = up.later; each = up.each; before = up.before; keeps = up.keeps }

pub returns-clause-beside : goal.returns-clause-beside
returns-clause-beside g c =
    let D = g.D.Disk in
    let self = c.args.self.now in
    let old = self.disk in
    let new = c.put_value.new.disk in
    let value = c.args.new.now in
    let same = c.put_value.ensures.setup.same_sectors in
    let stays = g.met.D.Disk.content_may_stay old in
    let put = c.put_value.ensures.any_moment in
    let run =
    whole_run D.moment D.left_since (D.may_leave old) (D.sector_count old) old new (D.content old) _ value
    c.frame_into.ensures.holds stays put in
    let up =
    lifted whole_on D.moment D.left_since D.sector_count old new same
    (LeftByPut (MayShow whole_on D.may_leave D.sector_count old) value) run in
    record {
      same_slot_room = ap slot_room_on same;
      any_moment =
          record { later = up.later; each = up.each; before = up.before; keeps = up.keeps };
    }

pub invariant_of-self-2 : goal.invariant_of-self-2
invariant_of-self-2 g c =
    let D = g.D.Disk in
    let self = c.args.self.now in
    let new = c.put_value.new.disk in
    let settled =
    subst (λ (v : List ℕ). IsSettled (D.content new) (D.may_leave new) HEADER_SECTORS (1 - self.active) (length v))
    c.frame_into.ensures.holds c.in_ok-put_value.ensures.settled in
    record {
      sectors = subst (λ n. 5 ≤ n) (sym c.put_value.ensures.setup.same_sectors) self.sectors;
      which = omega arith;
      stands = settled_stands _ _ _ _ _ settled;
      settled = λ ok. settled;
    }

pub returns-clause-same_setup : goal.returns-clause-same_setup
returns-clause-same_setup g c =
    record {
      same_room = refl;
      same_faults = c.put_value.ensures.setup.same_faults;
      counts_on = omega (arith, c.in_ok-put_value.ensures.calls, g.met.D.Disk.is_countable c.args.self.now.disk);
    }

pub returns-clause-stopped : goal.returns-clause-stopped
returns-clause-stopped g c = grind (arith, elements)

pub returns-clause-gate : goal.returns-clause-gate
returns-clause-gate g c = grind (arith, elements)

pub returns-then-not-self-clause-any_moment : goal.returns-then-not-self-clause-any_moment
returns-then-not-self-clause-any_moment g c = search (pieces, arith) depth 5 fits 300

pub returns-clause-calls : goal.returns-clause-calls
returns-clause-calls g c = grind (arith, elements)

pub returns-then-new-room_of-clause-any_moment : goal.returns-then-new-room_of-clause-any_moment
returns-then-new-room_of-clause-any_moment g c = search (pieces, arith) depth 5 fits 300
