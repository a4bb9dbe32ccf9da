use Rattle.std.proofs.lemmas.Grind.{pieces}
use Rattle.std.proofs.Common.{◌≤◌, inl, refl, sym, ◌∙◌, ap, subst, arith}
use Rattle.std.proofs.lemmas.Bool.{false≢true}
use Rattle.gate_cell.specs.Layout.{value_in}
use Rattle.gate_cell.specs.Stands.{MayShow}
use Rattle.gate_cell.proofs.Lift.{lifted}
use Rattle.slot_cell.specs.Whole.{LeftByFill}
use Rattle.slot_cell.specs.SplitLayout.{whole_on}
use Rattle.slot_cell.proofs.Filling.{filling, same_slot, fill_run, then_filled, still_stands, still_settled}
use Rattle.std.proofs.lemmas.Grind.{elements}
use Rattle.slot_cell.proofs.split.SplitCellSlotCell.fill_framed.Goals as goal

pub returns-then-not-self-clause-any_moment : goal.returns-then-not-self-clause-any_moment
returns-then-not-self-clause-any_moment g c =
    let D = g.D.Disk in
    let old = c.args.self.now.disk in
    record {
      later = omega arith;
      each = λ left might. record {
        was = left;
        might = (might.0, g.met.D.Disk.only_now old might.0 might.1, might.2);
        torn =
            same_slot c.args.slot left;
      };
      before = λ t left le had. inl had;
      keeps = λ t left le had. had;
    }

pub returns-then-length_of-slot_room_of-clause-any_moment : goal.returns-then-length_of-slot_room_of-clause-any_moment
returns-then-length_of-slot_room_of-clause-any_moment g c =
    let D = g.D.Disk in
    let old = c.args.self.now.disk in
    record {
      later = omega arith;
      each = λ left might. record {
        was = left;
        might = (might.0, g.met.D.Disk.only_now old might.0 might.1, might.2);
        torn =
            same_slot c.args.slot left;
      };
      before = λ t left le had. inl had;
      keeps = λ t left le had. had;
    }

pub invariant_of-self : goal.invariant_of-self
invariant_of-self g c =
    let D = g.D.Disk in
    let self = c.args.self.now in
    let old = self.disk in
    let new = c.write_through.new.disk in
    let s = filling (D.sector_count old) c.args.slot _ _ _ (D.content old) (value_in c.args.frame.now) _ _ self.sectors
    c.requires.slot (g.met.D.Disk.is_whole old) c.requires.frame refl c.sectors-sectors.ensures c.slot_sectors_of.ensures
    c.slot_room_of.ensures
    (omega (arith, c.if-length_of-slot_room_of.false, c.length_of.ensures, c.requires.frame.long)) in
    let same = c.write_through.ensures.setup.same_sectors in
    let stays = g.met.D.Disk.content_may_stay old in
    record {
      sectors = subst (λ n. 5 ≤ n) (sym same) self.sectors;
      which = self.which;
      stands = still_stands _ _ _ _ _ _ s (D.may_leave new) (self.stands (D.content old) stays)
          (λ x left. c.write_through.ensures.any_moment.each x
          (g.met.D.Disk.includes_now new (D.moment old) x c.write_through.ensures.any_moment.later left));
      settled = λ ok. absurd (false≢true ok);
    }

pub returns-in_err-write_through-clause-any_moment : goal.returns-in_err-write_through-clause-any_moment
returns-in_err-write_through-clause-any_moment g c =
    let D = g.D.Disk in
    let self = c.args.self.now in
    let old = self.disk in
    let new = c.write_through.new.disk in
    let s = filling (D.sector_count old) c.args.slot _ _ _ (D.content old) (value_in c.args.frame.now) _ _ self.sectors
    c.requires.slot (g.met.D.Disk.is_whole old) c.requires.frame refl c.sectors-sectors.ensures c.slot_sectors_of.ensures
    c.slot_room_of.ensures
    (omega (arith, c.if-length_of-slot_room_of.false, c.length_of.ensures, c.requires.frame.long)) in
    let same = c.write_through.ensures.setup.same_sectors in
    let stays = g.met.D.Disk.content_may_stay old in
    let up =
    lifted whole_on D.moment D.left_since D.sector_count old new same
    (LeftByFill (MayShow whole_on D.may_leave D.sector_count old) c.args.slot)
    (fill_run _ _ _ _ _ _ s D.moment D.left_since (D.may_leave old) old new stays
    c.write_through.ensures.any_moment) in
    record { later = up.later; each = up.each; before = up.before; keeps = up.keeps }

pub invariant_of-self-2 : goal.invariant_of-self-2
invariant_of-self-2 g c =
    let D = g.D.Disk in
    let self = c.args.self.now in
    let old = self.disk in
    let new = c.write_through.new.disk in
    let s = filling (D.sector_count old) c.args.slot _ _ _ (D.content old) (value_in c.args.frame.now) _ _ self.sectors
    c.requires.slot (g.met.D.Disk.is_whole old) c.requires.frame refl c.sectors-sectors.ensures c.slot_sectors_of.ensures
    c.slot_room_of.ensures
    (omega (arith, c.if-length_of-slot_room_of.false, c.length_of.ensures, c.requires.frame.long)) in
    let same = c.write_through.ensures.setup.same_sectors in
    let stays = g.met.D.Disk.content_may_stay old in
    record {
      sectors = subst (λ n. 5 ≤ n) (sym same) self.sectors;
      which = self.which;
      stands = still_stands _ _ _ _ _ _ s (D.may_leave new) (self.stands (D.content old) stays)
          (λ x left. c.write_through.ensures.any_moment.each x
          (g.met.D.Disk.includes_now new (D.moment old) x c.write_through.ensures.any_moment.later left));
      settled =
          λ ok. still_settled _ _ _ _ _ _ s (D.may_leave old) (D.may_leave new) self.active self.header_len
          (D.content new) (self.settled c.if-not-self.false) c.in_ok-write_through.ensures.written
          c.in_ok-write_through.ensures.durable;
    }

pub returns-clause-ok : goal.returns-clause-ok
returns-clause-ok g c =
    let D = g.D.Disk in
    let self = c.args.self.now in
    let old = self.disk in
    let new = c.write_through.new.disk in
    let s = filling (D.sector_count old) c.args.slot _ _ _ (D.content old) (value_in c.args.frame.now) _ _ self.sectors
    c.requires.slot (g.met.D.Disk.is_whole old) c.requires.frame refl c.sectors-sectors.ensures c.slot_sectors_of.ensures
    c.slot_room_of.ensures
    (omega (arith, c.if-length_of-slot_room_of.false, c.length_of.ensures, c.requires.frame.long)) in
    let same = c.write_through.ensures.setup.same_sectors in
    let stays = g.met.D.Disk.content_may_stay old in
    ap (λ n. whole_on n (D.content new)) same
    ∙ then_filled _ _ _ _ _ _ s (D.content new) c.in_ok-write_through.ensures.written

pub returns-clause-any_moment : goal.returns-clause-any_moment
returns-clause-any_moment g c =
    let D = g.D.Disk in
    let self = c.args.self.now in
    let old = self.disk in
    let new = c.write_through.new.disk in
    let s = filling (D.sector_count old) c.args.slot _ _ _ (D.content old) (value_in c.args.frame.now) _ _ self.sectors
    c.requires.slot (g.met.D.Disk.is_whole old) c.requires.frame refl c.sectors-sectors.ensures c.slot_sectors_of.ensures
    c.slot_room_of.ensures
    (omega (arith, c.if-length_of-slot_room_of.false, c.length_of.ensures, c.requires.frame.long)) in
    let same = c.write_through.ensures.setup.same_sectors in
    let stays = g.met.D.Disk.content_may_stay old in
    let up =
    lifted whole_on D.moment D.left_since D.sector_count old new same
    (LeftByFill (MayShow whole_on D.may_leave D.sector_count old) c.args.slot)
    (fill_run _ _ _ _ _ _ s D.moment D.left_since (D.may_leave old) old new stays
    c.write_through.ensures.any_moment) in
    record { later = up.later; each = up.each; before = up.before; keeps = up.keeps }

pub returns-in_err-write_through-clause-same_setup : goal.returns-in_err-write_through-clause-same_setup
returns-in_err-write_through-clause-same_setup g c = search (pieces, arith) depth 5 fits 300

pub returns-clause-same_setup : goal.returns-clause-same_setup
returns-clause-same_setup g c = search (pieces, arith) depth 5 fits 300

pub overflow_add-slot : goal.overflow_add-slot
overflow_add-slot g c = grind (arith, elements)

pub write_through-requires-clause-in_range : goal.write_through-requires-clause-in_range
write_through-requires-clause-in_range g c = grind (arith, elements)

pub overflow_mul-slot : goal.overflow_mul-slot
overflow_mul-slot g c = grind (arith, elements)
