use Rattle.std.proofs.Common.{refl}
use Rattle.stream_program.specs.Causes.{misasked, not_made, unopened}
use Rattle.stream_program.specs.Streamed.{IsOpeningOf, IsRunFor, opens}
use Rattle.stream_program.proofs.Causing.{are_opened_by, opening_by, unopened_by}
use Rattle.stream_program.proofs.Opening.{stand_as}
use Rattle.stream_program.proofs.Preparing.{inputs_read_still, net_read_still, prepares_by, prepares_then}
use Rattle.stream_program.proofs.program.begin.Goals as goal

pub returns-in-Err-clause-cause : goal.returns-in-Err-clause-cause
returns-in-Err-clause-cause g c =
    rw (c.silent.ensures) (misasked c.args.read.now.network.net.value c.requires.net_read refl c.in-Err.ensures.misasked)

pub returns-in-Err-open_live-clause-cause : goal.returns-in-Err-open_live-clause-cause
returns-in-Err-open_live-clause-cause g c = rw (c.silent-in-Err-open_live.ensures) (not_made c.in-Err-open_live.ensures.fault)

pub returns-in-Ok-open_ports-clause-prepares : goal.returns-in-Ok-open_ports-clause-prepares
returns-in-Ok-open_ports-clause-prepares g c =
    prepares_then _ _ _ c.first_inputs.ensures.prepares
    (prepares_by (IsOpeningOf c.deref.result.now) (IsRunFor c.args.options.now) _ _
    (λ r is. opens (opening_by c.args.options.now.sources.items _ r c.deref.ensures.value is)) c.open_ports.ensures.prepares)

pub returns-in-Ok-open_ports-clause-first : goal.returns-in-Ok-open_ports-clause-first
returns-in-Ok-open_ports-clause-first g c =
    rw (c.in-Ok-open_live.ensures.world.1) (inputs_read_still _ _ _ _ _ c.open_ports.ensures.prepares.later c.in-Ok-first_inputs.ensures.first)

pub returns-in-Ok-open_ports-clause-opened : goal.returns-in-Ok-open_ports-clause-opened
returns-in-Ok-open_ports-clause-opened g c =
    are_opened_by c.args.read.now.network.net.value c.args.options.now.sources.items c.deref.result.now c.in-Ok.numbers.items c.deref-2.result.now
    _ _ c.deref.ensures.value c.deref-2.ensures.value c.in-Ok.ensures.each c.in-Ok-open_ports.ensures.opened

pub returns-clause-prepares : goal.returns-clause-prepares
returns-clause-prepares g c =
    prepares_then _ _ _ c.first_inputs.ensures.prepares
    (prepares_by (IsOpeningOf c.deref.result.now) (IsRunFor c.args.options.now) _ _
    (λ r is. opens (opening_by c.args.options.now.sources.items _ r c.deref.ensures.value is)) c.open_ports.ensures.prepares)

pub returns-clause-cause : goal.returns-clause-cause
returns-clause-cause g c =
    rw (c.silent-in-Err-open_ports.ensures) (unopened c.args.read.now.network.net.value c.in-Ok.numbers.items
    (net_read_still _ _ _ _ c.open_ports.ensures.prepares.later (net_read_still _ _ _ _ c.first_inputs.ensures.prepares.later c.requires.net_read))
    refl c.in-Ok.ensures.each (unopened_by c.args.options.now.sources.items c.deref.result.now c.in-Ok.numbers.items c.deref-2.result.now _ _
    c.deref.ensures.value c.deref-2.ensures.value c.in-Err-open_ports.ensures.unread))

pub returns-in-Ok-open_ports-clause-stand : goal.returns-in-Ok-open_ports-clause-stand
returns-in-Ok-open_ports-clause-stand g c =
    stand_as g.H.Host.source_number (g.H.Host.asked c.open_ports.new.host) c.in-Ok-open_ports.ports.items _ _ c.form_of.ensures
    c.in-Ok-open_ports.ensures.stand
