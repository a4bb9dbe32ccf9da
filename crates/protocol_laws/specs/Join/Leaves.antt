-- An item that leaves, and the log that lets go of it, are steps of the abstract machine.
use Rattle.std.proofs.Common.{◌≡◌, ◌≢◌, ◌⊎◌, inl, inr, ℕ, zero, suc, ◌+◌, ◌<◌, ◌≤◌, List, ℤ, [], ◌∷◌}
use Rattle.std.proofs.Common.{length}
use Rattle.std.proofs.Common.{map}
use Rattle.std.proofs.Common.{Some, option_map, refl, sym, ap, ◌∙◌, arith}
use Rattle.std.specs.Prelude.{◌==◌, slice_get, slice_set, find, IsTrue}
use Rattle.std.proofs.Math.Path.{fun_ext}
use Rattle.std.proofs.lemmas.Option.{slice_get_within}
use Rattle.kahn_net.specs.Laws.Prefixes.{prefix_length}
use Rattle.protocol.specs.Node.Common.{Network, trimmed_image, base_of, sent_of, port_on, producer_of, consumer_of}
use Rattle.protocol.specs.Node.Common.{Runs, RunningView, running_node, running_in, current_log}
use Rattle.recovery_line.proofs.Basics.{one_inside, same_or_other}
use Rattle.recovery_line.specs.Images.{IsOutput}
use Rattle.protocol.specs.World.Common.{NodeStep, image_seen, record_seen, Packet, Step, Leads, live_seen}
use Rattle.protocol.specs.World.Common.{node_seen, world_seen, output_of, outputs_of, AreSound, IsNumbered}
use Rattle.protocol.specs.World.Common.{StationInvariant, OutputView, net_seen, outlets_seen, released_of}
use Rattle.protocol.specs.World.Common.{ReplyView, is_output, outputs_on, OutletView, StationView, next_release}
use Rattle.recovery_line.specs.Nodes.{Release, Trim, Released}
use Rattle.recovery_line.specs.Worlds.{Acts}
use Rattle.protocol_laws.specs.Join.Crossings.{is_it}
use Rattle.protocol_laws.specs.Join.Cuts.{cut_trims}
use Rattle.protocol_laws.specs.Join.Leading.{leads_by, leads_then, acts, node_at, only_here, same_records, set_there, set_again}
use Rattle.protocol.specs.Node.Layout as layout
use Rattle.protocol_laws.specs.Node.NumberedLaws.{where_mark}
use Rattle.protocol.specs.World.Steps.{IsReleaseAt}
use Rattle.protocol_laws.specs.World.HandedLaws.{next_waits, took_begins, took_one, took_or_not}
use Rattle.protocol_laws.specs.World.OutputLaws.{output_of_node, same_output, map_at}
use Rattle.protocol_laws.specs.World.ShownLaws.{shown_at}

-- ---- what has left by a channel

output_seen : (net : Network) (home c : ℕ) → IsTrue (is_output net home c) → IsOutput (net_seen net) c home
output_seen net home c passes =
    let is = output_of_node net home c passes in
    record {
      from = ap (producer_of net) is.there
          ∙ is_it home (layout.node_at net is.channel.producer) (ap (port_on net home) is.producer ∙ is.here);
      to = ap (consumer_of net) is.there ∙ ap (layout.node_at net) is.outside;
    }

-- it goes by the outlets alone
left_by_outlets : (c : ℕ) (stations : List StationView) (k : ℕ) (y z : StationView) → y.outlets ≡ z.outlets
    → released_of c (slice_set stations k y) ≡ released_of c (slice_set stations k z)
left_by_outlets c [] k y z same = refl
left_by_outlets c (s ∷ stations) zero y z same = rw same
left_by_outlets c (s ∷ stations) (suc k) y z same = rw (left_by_outlets c stations k y z same)

-- an outlet of another channel doesn't count
find_elsewhere : (d : ℕ) (outlets : List OutletView) (place : ℕ) (x y : OutletView)
    → slice_get outlets place ≡ Some x → x.channel ≢ d → y.channel ≢ d
    → find (λ (o : OutletView). o.channel == d) (slice_set outlets place y)
    ≡ find (λ (o : OutletView). o.channel == d) outlets
find_elsewhere d [] place x y there one other = refl
find_elsewhere d (o ∷ outlets) zero x y there one other = grind arith
find_elsewhere d (o ∷ outlets) (suc place) x y there one other = rw (find_elsewhere d outlets place x y there one other)

left_elsewhere : (d : ℕ) (stations : List StationView) (k : ℕ) (x y : StationView) → slice_get stations k ≡ Some x
    → find (λ (o : OutletView). o.channel == d) y.outlets ≡ find (λ (o : OutletView). o.channel == d) x.outlets
    → released_of d (slice_set stations k y) ≡ released_of d stations
left_elsewhere d [] k x y there same = refl
left_elsewhere d (s ∷ stations) zero x y there same = let here : s ≡ x = cc in rw (here, same)
left_elsewhere d (s ∷ stations) (suc k) x y there same = rw (left_elsewhere d stations k x y there same)

-- ---- what is shown of a sound station's outlet

module _ (net : Network) (inputs : List (List ℤ)) (stations : List StationView) (k : ℕ) (station : StationView)
    (there : slice_get stations k ≡ Some station) (numbered : IsNumbered stations)
    (sound : AreSound net inputs stations) (place : ℕ) (outlet : OutletView)
    (outlet_there : slice_get station.outlets place ≡ Some outlet) where
  listed : map (λ (o : OutputView). o.channel) (outputs_of station.outlets) ≡ outputs_on net station.node.kept.node
  listed = (sound k station there).kept.listed

  pub is_output_here : IsTrue (is_output net k outlet.channel)
  is_output_here =
      let output = map_at output_of station.outlets place outlet outlet_there in
      let marked = where_mark _ (is_output net station.node.kept.node) 0 _ _ place (output_of outlet) listed output in
      rw (numbered k station there).1 at marked.0

  -- what has left by its channel is what it took
  pub left_is : released_of outlet.channel stations ≡ outlet.taken
  left_is =
      let is = output_of_node net k outlet.channel is_output_here in
      let at = shown_at net inputs stations numbered sound k outlet.channel
      (slice_get_within stations k station there) is_output_here
      (slice_get_within net.channels outlet.channel is.channel is.there) in
      at.shown.shows
      ∙ ap (λ (o : OutletView). o.taken)
      (same_outlet at.station (one_inside at.here there) at.shown.place at.shown.outlet at.shown.there
      at.shown.channel)
    where
      same_outlet : (s : StationView) → s ≡ station → (j : ℕ) (o : OutletView) → slice_get s.outlets j ≡ Some o
          → o.channel ≡ outlet.channel → o ≡ outlet
      same_outlet s is j o at same =
          let found : slice_get station.outlets j ≡ Some o = cc in
          let places : j ≡ place =
          same_output net station.node.kept.node (outputs_of station.outlets) listed j place (output_of o)
          (output_of outlet) (map_at output_of station.outlets j o found)
          (map_at output_of station.outlets place outlet outlet_there) same in
          cc

-- ---- one station of several lets an item go

module _ (net : Network) (inputs : List (List ℤ)) (stations : List StationView) (k : ℕ) (old new : StationView)
    (there : slice_get stations k ≡ Some old) (sent : List Packet) (numbered : IsNumbered stations)
    (sound : AreSound net inputs stations) (numbered_then : IsNumbered (slice_set stations k new))
    (sound_then : AreSound net inputs (slice_set stations k new)) (round place : ℕ) (answer : ReplyView)
    (step : IsReleaseAt round place old answer new) (next : next_release round old ≡ Some place)
    (running : RunningView) (runs : old.node.mode ≡ Runs running) where
  inv : StationInvariant net inputs old
  inv = sound k old there

  output : IsOutput (net_seen net) step.outlet.channel k
  output =
      output_seen net k step.outlet.channel
      (is_output_here net inputs stations k old there numbered sound place step.outlet step.there)

  new_there : slice_get (slice_set stations k new) k ≡ Some new
  new_there = set_there stations k old new there

  outlets_then : new.outlets ≡ slice_set old.outlets place step.later
  outlets_then = rw step.same

  later_there : slice_get new.outlets place ≡ Some step.later
  later_there = rw outlets_then (set_there old.outlets place step.outlet step.later step.there)

  left_before : outlets_seen stations step.outlet.channel ≡ length step.outlet.taken
  left_before = rw (left_is net inputs stations k old there numbered sound place step.outlet step.there)

  left_then : released_of step.outlet.channel (slice_set stations k new) ≡ step.later.taken
  left_then =
      rw step.handed.channel at
      (left_is net inputs (slice_set stations k new) k new new_there numbered_then sound_then place step.later later_there)

  other_then : (d : ℕ) → d ≢ step.outlet.channel
      → find (λ (o : OutletView). o.channel == d) (slice_set old.outlets place step.later)
      ≡ find (λ (o : OutletView). o.channel == d) old.outlets
  other_then d other =
      find_elsewhere d old.outlets place step.outlet step.later step.there (λ e. other (sym e))
      (λ e. other (sym e ∙ step.handed.channel))

  -- the item has left, and the log still has it
  half : StationView
  half = record old { outlets = slice_set old.outlets place step.later }

  half_other : (d : ℕ) → d ≢ step.outlet.channel
      → outlets_seen (slice_set stations k half) d ≡ outlets_seen stations d
  unfolding half
  half_other d other = rw (left_elsewhere d stations k old half there (other_then d other))

  half_here : outlets_seen (slice_set stations k half) step.outlet.channel ≡ length step.later.taken
  unfolding half
  half_here = rw (left_by_outlets step.outlet.channel stations k half new (sym outlets_then), left_then)

  covered : length step.outlet.taken < sent_of old.node.kept.permanent step.outlet.channel
  covered = next_waits round place old step.outlet next step.there

  lets_go : (left : ℕ → ℕ) → length step.later.taken ≤ left step.outlet.channel
      → length step.outlet.taken ≤ length step.later.taken → length step.later.taken ≤ length step.outlet.taken + 1
      → NodeStep (net_seen net) k (node_seen old left) (node_seen new left)
  lets_go left enough more few =
      let now = inv.runs (running_node old.node.kept old.node.version running)
      (ap (running_in old.node.kept old.node.version) runs) in
      let gap : base_of running.current step.outlet.channel ≤ length step.outlet.taken =
      (now.sound.covered place (output_of step.outlet)
      (map_at output_of old.outlets place step.outlet step.there)).no_gap in
      let ahead : sent_of old.node.kept.permanent step.outlet.channel ≤ sent_of running.current step.outlet.channel =
      now.order.current_ahead.sent step.outlet.channel in
      rw (step.same, runs)
      (Trim step.outlet.channel (length step.later.taken) (image_seen running.current)
      (image_seen (trimmed_image step.outlet.channel (length step.later.taken) running.current))
      (option_map live_seen running.live) (Released output enough)
      (cut_trims (length step.later.taken) step.outlet.channel running.current (record_seen old.node.kept)
      (option_map live_seen running.live) left (omega (arith, gap, more)) (omega (arith, few, covered, ahead))))

  item_leaves : length step.later.taken ≡ length step.outlet.taken + 1
      → Step (net_seen net) (world_seen stations sent) (world_seen (slice_set stations k half) sent)
  unfolding half
  item_leaves one =
      Acts k (only_here stations k old half there sent)
      (rw (node_at stations sent k old there, node_at (slice_set stations k half) sent k half (set_there stations k old half there))
      (Release step.outlet.channel (image_seen running.current) (option_map live_seen running.live) (record {
        output = output;
        running = rw runs;
        covered = omega (arith, left_before, covered);
        longer = omega (arith, left_before, half_here, one);
        others = half_other;
        mode = refl;
        disk = refl;
      })))

  taken_leads : length step.later.taken ≡ length step.outlet.taken + 1
      → Leads (net_seen net) (world_seen stations sent) (world_seen (slice_set stations k new) sent)
  unfolding half
  taken_leads one =
      rw (set_again stations k half new) at
      (leads_then (net_seen net) (world_seen stations sent) (world_seen (slice_set stations k half) sent)
      (world_seen (slice_set (slice_set stations k half) k new) sent)
      (leads_by (net_seen net) (world_seen stations sent) (world_seen (slice_set stations k half) sent)
      (item_leaves one))
      (acts (slice_set stations k half) k half new (set_there stations k old half there) (net_seen net) sent
      (fun_ext same_left)
      (lets_go (outlets_seen (slice_set stations k half)) (omega (arith, half_here))
      (omega (arith, one)) (omega (arith, one))))
      (same_records (slice_set stations k half) k half new (set_there stations k old half there) (rw step.same)))
    where
      same_left : (d : ℕ) → outlets_seen (slice_set (slice_set stations k half) k new) d
          ≡ outlets_seen (slice_set stations k half) d
      same_left d = rw (set_again stations k half new, left_by_outlets d stations k new half outlets_then)

  missed_leads : length step.later.taken ≡ length step.outlet.taken
      → Leads (net_seen net) (world_seen stations sent) (world_seen (slice_set stations k new) sent)
  missed_leads none =
      leads_by (net_seen net) (world_seen stations sent) (world_seen (slice_set stations k new) sent)
      (acts stations k old new there (net_seen net) sent (fun_ext same)
      (lets_go (outlets_seen stations) (omega (arith, left_before, none)) (omega (arith, none))
      (omega (arith, none))))
    where
      same : (d : ℕ) → outlets_seen (slice_set stations k new) d ≡ outlets_seen stations d
      same d = elim (same_or_other d step.outlet.channel) [
        | inl here ↦ rw (here, left_then) (none ∙ sym left_before)
        | inr other ↦ rw (left_elsewhere d stations k old new there (rw outlets_then (other_then d other)))
      ]

  -- whatever came of it
  pub release_leads : Leads (net_seen net) (world_seen stations sent) (world_seen (slice_set stations k new) sent)
  release_leads =
      let log = current_log step.outlet.channel old.node.mode in
      let took = took_or_not round log step.outlet answer step.later step.handed in
      let begins = took_begins log step.outlet.taken step.later.taken took in
      elim (one_or_none (length step.outlet.taken) (length step.later.taken)
      (prefix_length step.outlet.taken step.later.taken begins)
      (took_one log step.outlet.taken step.later.taken took)) [
        | inl one ↦ taken_leads one
        | inr none ↦ missed_leads none
      ]
    where
      one_or_none : (a b : ℕ) → a ≤ b → b ≤ a + 1 → (b ≡ a + 1) ⊎ (b ≡ a)
      one_or_none a b low high = grind arith
