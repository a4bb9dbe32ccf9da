use Rattle.std.proofs.lemmas.Grind.{elements}
use Rattle.std.proofs.Common.{refl, ◌∙◌, ap, arith}
use Rattle.std.proofs.lemmas.List.{with_items_is}
use Rattle.gate_cell.proofs.Lift.{lifted_quiet}
use Rattle.slot_cell.specs.SplitLayout.{slot_room_on, whole_on}
use Rattle.slot_cell.proofs.Slotting.{holds_none, holds_read, two_looks}
use Rattle.std.proofs.lemmas.Grind.{pieces}
use Rattle.slot_cell.proofs.split.SplitCellSlotCell.slot.Goals as goal

pub returns-then-len-slot_room_of-clause-beside : goal.returns-then-len-slot_room_of-clause-beside
returns-then-len-slot_room_of-clause-beside g c =
    let D = g.D.Disk in
    let old = c.args.self.now.disk in
    let new = c.look.new.disk in
    let looks = c.look.ensures.looks in
    let same = c.look.ensures.setup.same_sectors in
    let up = lifted_quiet whole_on D.moment D.left_since D.sector_count old new same D.may_leave looks.any_moment in
    record {
      same = ap (λ n. whole_on n (D.content new)) same ∙ ap (whole_on (D.sector_count old)) looks.quiet.same;
      same_slot_room = ap slot_room_on same;
      any_moment = record { later = up.later; each = up.each; before = up.before; keeps = up.keeps };
    }

pub returns-then-len-slot_room_of-clause-too_large : goal.returns-then-len-slot_room_of-clause-too_large
returns-then-len-slot_room_of-clause-too_large g c =
    let D = g.D.Disk in
    let self = c.args.self.now in
    let old = self.disk in
    λ is. (
      c.if-not-self.false,
      holds_none (D.sector_count old) c.args.slot _ _ (D.content old) _ self.sectors
          c.requires c.sectors-sectors.ensures c.slot_sectors_of.ensures c.in_ok-look.ensures.bytes
          _ _ c.length_of-len.ensures c.slot_room_of.ensures c.if-len-slot_room_of.true,
    )

pub returns-in_err-frame-clause-beside : goal.returns-in_err-frame-clause-beside
returns-in_err-frame-clause-beside g c =
    let D = g.D.Disk in
    let old = c.args.self.now.disk in
    let new = c.look.new.disk in
    let looks = c.look.ensures.looks in
    let same = c.look.ensures.setup.same_sectors in
    let up = lifted_quiet whole_on D.moment D.left_since D.sector_count old new same D.may_leave looks.any_moment in
    record {
      same = ap (λ n. whole_on n (D.content new)) same ∙ ap (whole_on (D.sector_count old)) looks.quiet.same;
      same_slot_room = ap slot_room_on same;
      any_moment = record { later = up.later; each = up.each; before = up.before; keeps = up.keeps };
    }

pub returns-in_err-look-2-clause-beside : goal.returns-in_err-look-2-clause-beside
returns-in_err-look-2-clause-beside g c =
    let D = g.D.Disk in
    let old = c.args.self.now.disk in
    let mid = c.look.new.disk in
    let new = c.look-2.new.disk in
    let same = c.look-2.ensures.setup.same_sectors ∙ c.look.ensures.setup.same_sectors in
    let run =
    two_looks D.content D.may_leave D.moment D.left_since old mid new c.look.ensures.looks c.look-2.ensures.looks in
    let up = lifted_quiet whole_on D.moment D.left_since D.sector_count old new same D.may_leave run in
    record {
      same = ap (λ n. whole_on n (D.content new)) same
          ∙ ap (whole_on (D.sector_count old)) (c.look-2.ensures.looks.quiet.same ∙ c.look.ensures.looks.quiet.same);
      same_slot_room = ap slot_room_on same;
      any_moment = record { later = up.later; each = up.each; before = up.before; keeps = up.keeps };
    }

pub returns-clause-bytes : goal.returns-clause-bytes
returns-clause-bytes g c =
    let D = g.D.Disk in
    let self = c.args.self.now in
    let old = self.disk in
    holds_read (D.sector_count old) c.args.slot _ _ (D.content old) _ self.sectors c.requires c.sectors-sectors.ensures
    c.slot_sectors_of.ensures c.in_ok-look.ensures.bytes _ _ c.length_of-len.ensures c.slot_room_of.ensures
    _ _ _ _ _ c.look.ensures.looks.quiet.same c.if-len-slot_room_of.false
    (c.deref_mut.ensures.len ∙ c.in_ok-frame.ensures.len ∙ c.frame_len.ensures)
    (with_items_is c.in_ok-frame.frame c.look-2.new.into (c.look-2.auto.into ∙ c.deref_mut.ensures.len))
    c.in_ok-look-2.ensures.bytes
    c.unframed.ensures

pub returns-clause-beside : goal.returns-clause-beside
returns-clause-beside g c =
    let D = g.D.Disk in
    let old = c.args.self.now.disk in
    let mid = c.look.new.disk in
    let new = c.look-2.new.disk in
    let same = c.look-2.ensures.setup.same_sectors ∙ c.look.ensures.setup.same_sectors in
    let run =
    two_looks D.content D.may_leave D.moment D.left_since old mid new c.look.ensures.looks c.look-2.ensures.looks in
    let up = lifted_quiet whole_on D.moment D.left_since D.sector_count old new same D.may_leave run in
    record {
      same = ap (λ n. whole_on n (D.content new)) same
          ∙ ap (whole_on (D.sector_count old)) (c.look-2.ensures.looks.quiet.same ∙ c.look.ensures.looks.quiet.same);
      same_slot_room = ap slot_room_on same;
      any_moment = record { later = up.later; each = up.each; before = up.before; keeps = up.keeps };
    }

pub returns-clause-same_setup : goal.returns-clause-same_setup
returns-clause-same_setup g c =
    let D = g.D.Disk in
    let old = c.args.self.now.disk in
    record {
      same_room = refl;
      same_faults = c.look-2.ensures.setup.same_faults ∙ c.look.ensures.setup.same_faults;
      counts_on = omega (arith, c.look-2.ensures.calls, c.look.ensures.calls, g.met.D.Disk.is_countable old);
    }

pub returns-in_err-look-clause-beside : goal.returns-in_err-look-clause-beside
returns-in_err-look-clause-beside g c =
    let D = g.D.Disk in
    let old = c.args.self.now.disk in
    let new = c.look.new.disk in
    let looks = c.look.ensures.looks in
    let same = c.look.ensures.setup.same_sectors in
    let up = lifted_quiet whole_on D.moment D.left_since D.sector_count old new same D.may_leave looks.any_moment in
    record {
      same = ap (λ n. whole_on n (D.content new)) same ∙ ap (whole_on (D.sector_count old)) looks.quiet.same;
      same_slot_room = ap slot_room_on same;
      any_moment = record { later = up.later; each = up.each; before = up.before; keeps = up.keeps };
    }

pub returns-then-len-slot_room_of-clause-same_setup : goal.returns-then-len-slot_room_of-clause-same_setup
returns-then-len-slot_room_of-clause-same_setup g c =
    record {
      same_room = refl;
      same_faults = c.look.ensures.setup.same_faults;
      counts_on = omega (arith, c.look.ensures.calls, g.met.D.Disk.is_countable c.args.self.now.disk);
    }

pub returns-in_err-frame-clause-same_setup : goal.returns-in_err-frame-clause-same_setup
returns-in_err-frame-clause-same_setup g c =
    record {
      same_room = refl;
      same_faults = c.look.ensures.setup.same_faults;
      counts_on = omega (arith, c.look.ensures.calls, g.met.D.Disk.is_countable c.args.self.now.disk);
    }

pub returns-in_err-look-2-clause-same_setup : goal.returns-in_err-look-2-clause-same_setup
returns-in_err-look-2-clause-same_setup g c =
    record {
      same_room = refl;
      same_faults = c.look-2.ensures.setup.same_faults ∙ c.look.ensures.setup.same_faults;
      counts_on = omega (
        arith,
        c.look-2.ensures.calls,
        c.look.ensures.calls,
        g.met.D.Disk.is_countable c.args.self.now.disk,
      );
    }

pub look-requires-2 : goal.look-requires-2
look-requires-2 g c = grind (arith, elements)

pub unframed-requires : goal.unframed-requires
unframed-requires g c = grind (arith, elements)

pub returns-clause-unchanged : goal.returns-clause-unchanged
returns-clause-unchanged g c = grind (arith, elements)

pub invariant_of-self-2 : goal.invariant_of-self-2
invariant_of-self-2 g c = search (pieces, arith) depth 5 fits 300

pub returns-clause-stopped : goal.returns-clause-stopped
returns-clause-stopped g c = grind (arith, elements)

pub invariant_of-self-in-Break-branch-2 : goal.invariant_of-self-in-Break-branch-2
invariant_of-self-in-Break-branch-2 g c = search (pieces, arith) depth 5 fits 300

pub returns-then-not-self-clause-beside : goal.returns-then-not-self-clause-beside
returns-then-not-self-clause-beside g c = search (pieces, arith) depth 5 fits 300

pub returns-then-len-slot_room_of-clause-stopped : goal.returns-then-len-slot_room_of-clause-stopped
returns-then-len-slot_room_of-clause-stopped g c = grind (arith, elements)

pub returns-clause-cause : goal.returns-clause-cause
returns-clause-cause g c = search (pieces, arith) depth 5 fits 300

pub invariant_of-self-then-len-slot_room_of : goal.invariant_of-self-then-len-slot_room_of
invariant_of-self-then-len-slot_room_of g c = search (pieces, arith) depth 5 fits 300
