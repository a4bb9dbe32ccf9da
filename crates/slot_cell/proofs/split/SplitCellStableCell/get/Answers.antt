use Rattle.std.proofs.lemmas.Grind.{pieces, elements}
use Rattle.std.proofs.Common.{◌∙◌, ap, arith}
use Rattle.std.proofs.lemmas.List.{with_items_is}
use Rattle.gate_cell.proofs.ReadBack.{read_value}
use Rattle.gate_cell.proofs.Lift.{lifted_quiet}
use Rattle.slot_cell.specs.SplitLayout.{slot_room_on, header_on, whole_on}
use Rattle.slot_cell.specs.declared.TheConstants.{HEADER_SECTORS}
use Rattle.slot_cell.proofs.split.SplitCellStableCell.get.Goals as goal

pub returns-clause-any_moment : goal.returns-clause-any_moment
returns-clause-any_moment g c =
    let D = g.D.Disk in
    let old = c.args.self.now.disk in
    let up =
    lifted_quiet header_on D.moment D.left_since D.sector_count old c.look.new.disk
    c.look.ensures.setup.same_sectors D.may_leave c.look.ensures.looks.any_moment in
    record { later = up.later; each = up.each; before = up.before; keeps = up.keeps }

pub returns-in_err-look-clause-beside : goal.returns-in_err-look-clause-beside
returns-in_err-look-clause-beside g c =
    let D = g.D.Disk in
    let old = c.args.self.now.disk in
    let new = c.look.new.disk in
    let looks = c.look.ensures.looks in
    let same = c.look.ensures.setup.same_sectors in
    let up = lifted_quiet whole_on D.moment D.left_since D.sector_count old new same D.may_leave looks.any_moment in
    record {
      same = ap (λ n. whole_on n (D.content new)) same ∙ ap (whole_on (D.sector_count old)) looks.quiet.same;
      same_slot_room = ap slot_room_on same;
      any_moment = record { later = up.later; each = up.each; before = up.before; keeps = up.keeps };
    }

pub returns-clause-beside : goal.returns-clause-beside
returns-clause-beside g c =
    let D = g.D.Disk in
    let old = c.args.self.now.disk in
    let new = c.look.new.disk in
    let looks = c.look.ensures.looks in
    let same = c.look.ensures.setup.same_sectors in
    let up = lifted_quiet whole_on D.moment D.left_since D.sector_count old new same D.may_leave looks.any_moment in
    record {
      same = ap (λ n. whole_on n (D.content new)) same ∙ ap (whole_on (D.sector_count old)) looks.quiet.same;
      same_slot_room = ap slot_room_on same;
      any_moment = record { later = up.later; each = up.each; before = up.before; keeps = up.keeps };
    }

pub returns-clause-value : goal.returns-clause-value
returns-clause-value g c =
    let D = g.D.Disk in
    let self = c.args.self.now in
    let old = self.disk in
    let ready = self.settled c.if-not-self.false in
    read_value HEADER_SECTORS self.active self.header_len _ _ (D.content old) _ _ _ (omega arith) ready.gate ready.long
    ready.fits
    c.area_of.ensures
    (c.deref_mut.ensures.len ∙ c.in_ok-frame.ensures.len ∙ c.frame_len.ensures)
    (with_items_is c.in_ok-frame.frame c.look.new.into (c.look.auto.into ∙ c.deref_mut.ensures.len))
    c.in_ok-look.ensures.bytes
    c.unframed.ensures

pub returns-in_err-frame-clause-any_moment : goal.returns-in_err-frame-clause-any_moment
returns-in_err-frame-clause-any_moment g c = search (pieces, arith) depth 5 fits 300

pub returns-clause-same_setup : goal.returns-clause-same_setup
returns-clause-same_setup g c = search (pieces, arith) depth 5 fits 300

pub unframed-requires : goal.unframed-requires
unframed-requires g c = grind (arith, elements)

pub returns-in_err-frame-clause-beside : goal.returns-in_err-frame-clause-beside
returns-in_err-frame-clause-beside g c = search (pieces, arith) depth 5 fits 300

pub returns-then-not-self-clause-beside : goal.returns-then-not-self-clause-beside
returns-then-not-self-clause-beside g c = search (pieces, arith) depth 5 fits 300

pub returns-then-not-self-clause-any_moment : goal.returns-then-not-self-clause-any_moment
returns-then-not-self-clause-any_moment g c = search (pieces, arith) depth 5 fits 300

pub returns-in_err-look-clause-any_moment : goal.returns-in_err-look-clause-any_moment
returns-in_err-look-clause-any_moment g c = search (pieces, arith) depth 5 fits 300
