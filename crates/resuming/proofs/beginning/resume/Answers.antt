use Rattle.std.proofs.Common.{◌≡◌, ap, ◌∙◌}
use Rattle.kahn_net.specs.Syntax.{network_of}
use Rattle.net_check.specs.declared.net.Net.{Net}
use Rattle.rerun.specs.Whole.{inputs_in, net_in, table_in}
use Rattle.resuming.proofs.Begun.{left_there, records_there_are, same_failures, same_rooms}
use Rattle.resuming.proofs.beginning.resume.Goals as goal

pub open-requires : goal.open-requires
open-requires g c =
    let rerun = c.args.rerun.now in
    let same_net : network_of c.in-Ok-Ok.net.value.program ≡ net_in rerun =
    ap (λ (net : Net). network_of net.program) c.in-Ok-Ok.ensures ∙ c.net.ensures in
    let same_inputs : c.in-Ok-Ok.inputs ≡ inputs_in rerun = c.in-Ok-Ok.ensures' ∙ (c.deref.ensures ∙ c.inputs.ensures) in
    record {
      left = rw (same_net, same_inputs)
          (left_there g.D.Disk.sector_count g.D.Disk.content g.D.Disk.may_leave g.D.Disk.armed g.D.Disk.failure_count
          (net_in rerun) (table_in rerun) g.O.Outlet.taken (inputs_in rerun) rerun.net.value.valid rerun.fits
          rerun.ordered rerun.reached c.args.disks.items c.in-Ok.written.items c.args.outputs.items c.requires.each
          c.in-Ok.ensures.written c.requires.listed c.requires.agree);
    }

pub returns-in-Ok-open-clause-made : goal.returns-in-Ok-open-clause-made
returns-in-Ok-open-clause-made g c =
    let rerun = c.args.rerun.now in
    let made = c.in-Ok-open.ensures.made in
    let written = c.in-Ok.ensures.written in
    let same_net : network_of c.in-Ok-Ok.net.value.program ≡ net_in rerun =
    ap (λ (net : Net). network_of net.program) c.in-Ok-Ok.ensures ∙ c.net.ensures in
    let same_inputs : c.in-Ok-Ok.inputs ≡ inputs_in rerun = c.in-Ok-Ok.ensures' ∙ (c.deref.ensures ∙ c.inputs.ensures) in
    let records = records_there_are g.D.Disk.sector_count g.D.Disk.content g.D.Disk.may_leave g.D.Disk.armed
    g.D.Disk.failure_count (net_in rerun) (table_in rerun) g.O.Outlet.taken (inputs_in rerun) rerun.net.value.valid
    rerun.fits rerun.ordered rerun.reached c.args.disks.items c.in-Ok.written.items c.args.outputs.items
    c.requires.each written c.requires.listed c.requires.agree in
    let failures = same_failures g.D.Disk.sector_count g.D.Disk.content g.D.Disk.may_leave g.D.Disk.armed
    g.D.Disk.failure_count (net_in rerun) (table_in rerun) 0 c.args.disks.items c.in-Ok.written.items written in
    let rooms = same_rooms g.D.Disk.sector_count g.D.Disk.content g.D.Disk.may_leave g.D.Disk.armed
    g.D.Disk.failure_count (net_in rerun) (table_in rerun) 0 c.args.disks.items c.in-Ok.written.items written in
    record {
      opening = rw (same_net, same_inputs, records, failures) at made.opening;
      opens = rw (same_net, same_inputs, records) at made.opens;
      same_left = made.same_left;
      fresh_inputs = made.fresh_inputs;
      room = made.room ∙ rooms;
    }
