use Rattle.std.proofs.Common.{inl, arith}
use Rattle.slot_cell.proofs.Filling.{same_slot}
use Rattle.std.proofs.lemmas.Grind.{elements, pieces}
use Rattle.slot_cell.proofs.split.SplitCellSlotCell.fill.Goals as goal

pub returns-then-not-self-clause-any_moment : goal.returns-then-not-self-clause-any_moment
returns-then-not-self-clause-any_moment g c =
    let D = g.D.Disk in
    let old = c.args.self.now.disk in
    record {
      later = omega arith;
      each = λ left might. record {
        was = left;
        might = (might.0, g.met.D.Disk.only_now old might.0 might.1, might.2);
        torn =
            same_slot c.args.slot left;
      };
      before = λ t left le had. inl had;
      keeps = λ t left le had. had;
    }

pub returns-then-new-slot_room_of-clause-any_moment : goal.returns-then-new-slot_room_of-clause-any_moment
returns-then-new-slot_room_of-clause-any_moment g c =
    let D = g.D.Disk in
    let old = c.args.self.now.disk in
    record {
      later = omega arith;
      each = λ left might. record {
        was = left;
        might = (might.0, g.met.D.Disk.only_now old might.0 might.1, might.2);
        torn =
            same_slot c.args.slot left;
      };
      before = λ t left le had. inl had;
      keeps = λ t left le had. had;
    }

pub returns-in_err-frame-clause-any_moment : goal.returns-in_err-frame-clause-any_moment
returns-in_err-frame-clause-any_moment g c =
    let D = g.D.Disk in
    let old = c.args.self.now.disk in
    record {
      later = omega arith;
      each = λ left might. record {
        was = left;
        might = (might.0, g.met.D.Disk.only_now old might.0 might.1, might.2);
        torn =
            same_slot c.args.slot left;
      };
      before = λ t left le had. inl had;
      keeps = λ t left le had. had;
    }

-- behind that it is the fill of a frame
pub returns-clause-any_moment : goal.returns-clause-any_moment
returns-clause-any_moment g c = c.fill_framed.ensures.any_moment

pub returns-clause-same_setup : goal.returns-clause-same_setup
returns-clause-same_setup g c = c.fill_framed.ensures.same_setup

pub returns-clause-unchanged : goal.returns-clause-unchanged
returns-clause-unchanged g c = search (pieces, arith) depth 5 fits 300

pub returns-clause-ok : goal.returns-clause-ok
returns-clause-ok g c = grind (arith, elements)
