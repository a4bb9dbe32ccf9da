use Rattle.std.proofs.Common.{◌≡◌, subst, sym}
use Rattle.std.proofs.Math.Logic.{∥∥₁_map}
use Rattle.std.specs.Prelude.{option_map}
use Rattle.protocol.specs.Node.Common.{Net}
use Rattle.live.specs.LiveViews.{world_on}
use Rattle.stream_program.specs.Streamed.{spoken_names}
use Rattle.stream_program.proofs.Causing.{stop_as, stopped_by}
use Rattle.stream_program.proofs.Opening.{stand_as}
use Rattle.stream_program.proofs.Preparing.{run_by_streams, ended_by, said_by}
use Rattle.stream_program.proofs.program.run.Goals as goal

pub run_streams-requires-clause-stand : goal.run_streams-requires-clause-stand
run_streams-requires-clause-stand g c κs within =
    stand_as g.H.Host.source_number (g.H.Host.asked c.args.host) c.args.begun.ports.items _ _ (sym c.form_of.ensures) c.requires.stand

pub returns-clause-asked : goal.returns-clause-asked
returns-clause-asked g c = run_by_streams c.args.options.now _ _ c.run_streams.ensures.asked c.requires.asked

pub returns-clause-right : goal.returns-clause-right
returns-clause-right g c =
    let spoken = subst (λ (net : Net). option_map (λ names. names.now) c.spoken_names.result ≡ spoken_names c.args.options.now.bare net.channel_names.items)
    c.deref.ensures c.spoken_names.ensures in
    ∥∥₁_map c.run_streams.ensures.asked (λ on.
    said_by c.args.options.now c.args.network.now.net.value (world_on c.args.begun.live) (world_on c.run_streams.new.live) _ _ _ _
    on.later c.requires.net_read c.requires.first c.requires.net c.form_of.ensures spoken c.run_streams.ensures.right)

pub returns-clause-ended : goal.returns-clause-ended
returns-clause-ended g c =
    let spoken = subst (λ (net : Net). option_map (λ names. names.now) c.spoken_names.result ≡ spoken_names c.args.options.now.bare net.channel_names.items)
    c.deref.ensures c.spoken_names.ensures in
    ended_by c.args.options.now c.args.network.now.net.value (world_on c.args.begun.live) (world_on c.run_streams.new.live) _ _
    c.args.begun.ports.items _ _ c.run_streams.result.0 (∥∥₁_map c.run_streams.ensures.asked (λ on. on.later)) c.requires.net_read
    c.requires.first c.requires.net c.form_of.ensures spoken c.requires.opened c.run_streams.ensures.ended c.run_streams.ensures.all

pub returns-clause-cause : goal.returns-clause-cause
returns-clause-cause g c =
    stopped_by c.args.options.now c.args.network.now.net.value (world_on c.args.begun.live) _ _ c.run_streams.result.0
    (∥∥₁_map c.run_streams.ensures.asked (λ on. on.later)) c.requires.net_read c.requires.first c.requires.net
    (stop_as (world_on c.args.begun.live) (g.H.Host.asked c.run_streams.result.1) c.run_streams.result.0 _ _ c.form_of.ensures c.run_streams.ensures.failed)
