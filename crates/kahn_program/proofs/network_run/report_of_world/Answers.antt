use Rattle.std.proofs.Common.{◌∙◌, ℕ, ℤ, List, ap, length}
use Rattle.protocol.specs.World.Common.{released_of}
use Rattle.cobaltmidge.specs.Common.{world_of}
use Rattle.kahn_program.specs.Report.{output_count, report_text}
use Rattle.kahn_program.specs.Runs.{first_items}
use Rattle.kahn_program.proofs.Released.{counted_streams, reported}
use Rattle.kahn_program.proofs.network_run.report_of_world.Goals as goal

pub report-requires : goal.report-requires
report-requires g c =
    let f = λ (channel : ℕ). first_items c.cut-cut.result
    (released_of channel (world_of c.args.world.now).stations) in
    ap (length {A = List ℤ}) (c.deref.ensures.value ∙ c.in_ok-streams.ensures)
    ∙ (counted_streams f 0 c.as_slice-channels.result.now ∙ ap output_count c.as_slice-channels.ensures.value)

pub returns : goal.returns
returns g c =
    let net = c.args.net.now in
    let told = c.is_whole-complete.result in
    reported net c.as_slice-channels.result.now c.args.items c.cut-cut.result c.in_ok-streams.streams.items
    (world_of c.args.world.now) c.in_ok-bytes.bytes.items c.complete.result told
    c.as_slice-channels.ensures.value c.cut-cut.ensures c.in_ok-streams.ensures c.is_whole-complete.ensures
    (c.in_ok-bytes.ensures
    ∙ ap (λ (l : List (List ℤ)). report_text net.program.channels.items net.channel_names.items l told)
    c.deref.ensures.value) c.complete.ensures.quiet
