use Rattle.std.proofs.Common.{◌≡◌, ◌∙◌, List, subst, sym, ap}
use Rattle.std.specs.Prelude.{option_map}
use Rattle.kahn_net.specs.declared.limits.TheConstants.{MAX_CHANNELS}
use Rattle.live.specs.LiveViews.{taken_of, world_on}
use Rattle.outside.specs.declared.departure.Departure.{Departure}
use Rattle.sector_disk.specs.Past.{states_of}
use Rattle.stream_run.specs.Linked.{IsPutAsTaken}
use Rattle.stream_host.specs.Streams.{IsFresh}
use Rattle.stream_host.proofs.Right.{all_ended, is_all, is_right, none_put, so_where_well, stops_so}
use Rattle.stream_host.proofs.running.run_streams.Goals as goal

pub stream-ended-requires-clause-put : goal.stream-ended-requires-clause-put
stream-ended-requires-clause-put g c =
    subst (λ (left : List Departure). IsPutAsTaken left (taken_of c.args.live.now) (world_on c.args.live.now)) (sym c.new-ports.ensures.none)
    (none_put c.args.live.now.taken MAX_CHANNELS (world_on c.args.live.now) c.requires.untouched.0)

pub returns-clause-asked : goal.returns-clause-asked
returns-clause-asked g c =
    let ports = c.stream-ended.new.outside in
    let begun : ports.fixed.begun.value ≡ c.args.host = ap (λ fixed. fixed.begun.value) c.stream-ended.ensures.fixed ∙ c.new-ports.ensures.fixed.1 in
    rw (c.into_host.ensures, ← begun) ports.asked_on

pub returns-clause-right : goal.returns-clause-right
returns-clause-right g c =
    let ports = c.stream-ended.new.outside in
    let form : ports.fixed.form ≡ c.args.form = ap (λ fixed. fixed.form) c.stream-ended.ensures.fixed ∙ c.new-ports.ensures.fixed.0 in
    let first : IsFresh (g.H.Host.asked c.new-ports.result.host) = rw (c.new-ports.ensures.host) c.requires.fresh in
    let names = ap (λ fixed. option_map (λ names. names.now) fixed.names) c.stream-ended.ensures.fixed ∙ c.new-ports.ensures.fixed.2 in
    rw (c.into_host.ensures, ← form, ← names) (record {
      left = states_of ports.put;
      waiting = ports.text.items;
      right = is_right _ _ _ _ _ (states_of ports.put) ports.text.items (g.H.Host.asked c.new-ports.result.host) (g.H.Host.asked ports.host) first
          c.stream-ended.ensures.gone_on c.stream-ended.ensures.came c.stream-ended.ensures.part ports.spoken;
    })

pub returns-clause-all : goal.returns-clause-all
returns-clause-all g c =
    let ports = c.stream-ended.new.outside in
    let form : ports.fixed.form ≡ c.args.form = ap (λ fixed. fixed.form) c.stream-ended.ensures.fixed ∙ c.new-ports.ensures.fixed.0 in
    let first : IsFresh (g.H.Host.asked c.new-ports.result.host) = rw (c.new-ports.ensures.host) c.requires.fresh in
    let names = ap (λ fixed. option_map (λ names. names.now) fixed.names) c.stream-ended.ensures.fixed ∙ c.new-ports.ensures.fixed.2 in
    rw (c.into_host.ensures, ← form, ← names) (so_where_well c.stream-ended.result c.stream-ended.ensures.fed c.stream-ended.ensures.all
    c.stream-ended.ensures.whole c.stream-ended.ensures.shown (λ fed all whole shown.
    is_all _ _ _ _ _ (states_of ports.put) (g.H.Host.asked c.new-ports.result.host) (g.H.Host.asked ports.host) first
    c.stream-ended.ensures.gone_on fed c.stream-ended.ensures.came c.stream-ended.ensures.part all whole shown))

pub returns-clause-failed : goal.returns-clause-failed
returns-clause-failed g c =
    let ports = c.stream-ended.new.outside in
    let form : ports.fixed.form ≡ c.args.form = ap (λ fixed. fixed.form) c.stream-ended.ensures.fixed ∙ c.new-ports.ensures.fixed.0 in
    let first : IsFresh (g.H.Host.asked c.new-ports.result.host) = rw (c.new-ports.ensures.host) c.requires.fresh in
    rw (c.into_host.ensures, ← form) (stops_so _ ports.fixed.form (g.H.Host.asked c.new-ports.result.host) (g.H.Host.asked ports.host) (world_on c.args.live.now)
    c.stream-ended.result first c.stream-ended.ensures.failed)

pub returns-clause-ended : goal.returns-clause-ended
returns-clause-ended g c =
    let ports = c.stream-ended.new.outside in
    let form : ports.fixed.form ≡ c.args.form = ap (λ fixed. fixed.form) c.stream-ended.ensures.fixed ∙ c.new-ports.ensures.fixed.0 in
    let given : ports.fixed.given.value.items ≡ c.args.ports.items =
    ap (λ fixed. fixed.given.value.items) c.stream-ended.ensures.fixed ∙ c.new-ports.ensures.fixed.3 in
    rw (c.into_host.ensures, ← form) (all_ended ports.fixed.form _ _ (world_on c.args.live.now) (world_on c.stream-ended.new.live) (g.H.Host.asked ports.host) c.stream-ended.result
    given ports.given c.stream-ended.ensures.gone_on.same_net c.stream-ended.ensures.ended)
