-- A node that cuts the log of a channel to another node stays sound, wherever it is cut.
use Rattle.std.proofs.Common.{◌≡◌, ◌≢◌, ℕ, false, ℤ, List, Option, Some, None, refl, sym, ap}
use Rattle.std.proofs.Common.{◌∙◌, arith}
use Rattle.std.specs.Prelude.{slice_get}
use Rattle.std.proofs.Math.Logic.{∥∥₁_map}
use Rattle.std.proofs.lemmas.Bool.{ne_eqb}
use Rattle.protocol.specs.Node.Common.{Network, approximation, Channel, Outside, trimmed_image, base_in, base_of}
use Rattle.protocol.specs.Node.Common.{log_at, End, consumer_of, port_on, producer_of, RunningNode}
use Rattle.protocol.specs.World.Common.{IsCross, OutputView, net_seen, HasCome, IsSound}
use Rattle.protocol.specs.Node.Layout.{is_node, node_at}
use Rattle.protocol.specs.Node.Trimming.{with_current}
use Rattle.protocol_laws.specs.Node.TrimLaws.{laid_out_trimmed, links_trimmed, counts_trimmed, logs_trimmed, job_trimmed}
use Rattle.protocol_laws.specs.Node.TrimLaws.{image_trimmed, end_elsewhere}
use Rattle.protocol_laws.specs.World.OutputLaws.{output_here}

-- a channel of the network whose items a process of another node gets
pub record GoesElsewhere (net : Network) (home c : ℕ) : Type 0 where
  pub channel : Channel
  pub there : slice_get net.channels c ≡ Some channel
  pub away : port_on net home channel.consumer ≡ false
  pub inside : channel.consumer ≢ Outside

pub cross_elsewhere : (net : Network) (home to c : ℕ) → IsCross (net_seen net) c home to → GoesElsewhere net home c
cross_elsewhere net home to c cross = by (slice_get net.channels c) refl cross.from cross.to
  where
    by : (o : Option Channel) → slice_get net.channels c ≡ o → producer_of net o ≡ Some home
        → consumer_of net o ≡ Some to → GoesElsewhere net home c
    by None is from goes = absurd (cc)
    by (Some channel) is from goes = record {
      channel = channel;
      there = is;
      away = ap (is_node home) goes ∙ ne_eqb to home (λ same. cross.apart (sym same));
      inside = λ outside. (let none : node_at net channel.consumer ≡ None = ap (node_at net) outside in absurd (cc));
    }

module _ (net : Network) (inputs : List (List ℤ)) (node : RunningNode) (outputs : List OutputView) (c position : ℕ)
    (goes : GoesElsewhere net node.kept.node c) (sound : IsSound net inputs node outputs) where
  -- no output is of that channel
  cut_apart : (j : ℕ) (output : OutputView) → slice_get outputs j ≡ Some output → output.channel ≢ c
  cut_apart j output is same =
      let there = output_here net node.kept.node outputs sound.listed j output is in
      let both : Some there.channel ≡ Some goes.channel =
      sym there.there ∙ (ap (slice_get net.channels) same ∙ goes.there) in
      let one : there.channel ≡ goes.channel = cc in
      goes.inside (ap (λ (x : Channel). x.consumer) (sym one) ∙ there.outside)

  base_stays : (d : ℕ) → d ≢ c → base_of (trimmed_image c position node.current) d ≡ base_of node.current d
  base_stays d other = ap (λ (o : Option End). base_in (log_at o)) (end_elsewhere c position node.current d other)

  come_cut : HasCome net inputs node outputs
      → HasCome net inputs (with_current (trimmed_image c position node.current) node) outputs
  come_cut come = record {
    reached = record {
      n = come.reached.n;
      permanent_acts = come.reached.permanent_acts;
      held_acts = come.reached.held_acts;
      current_acts = come.reached.current_acts;
      permanent = come.reached.permanent;
      held = come.reached.held;
      current =
          image_trimmed net (approximation net inputs come.reached.n) come.reached.current_acts c position node.current
          come.reached.current;
      held_after = come.reached.held_after;
      current_after = come.reached.current_after;
    };
    inboxes = come.inboxes;
    out = λ job out. job_trimmed net node.kept.node inputs c position goes.channel node.current node.inboxes job
        sound.kept.laid_out goes.there goes.away (come.out job out);
    released = come.released;
  }

  pub sound_cut : IsSound net inputs (with_current (trimmed_image c position node.current) node) outputs
  sound_cut = record {
    listed = sound.listed;
    kept = record {
      laid_out = laid_out_trimmed net node.kept.node c position node.current sound.kept.laid_out;
      counts =
          counts_trimmed net node.kept.node inputs c position goes.channel node.current sound.kept.laid_out goes.there
          goes.away sound.kept.counts;
      logs = logs_trimmed c position node.current sound.kept.logs;
      links = links_trimmed net node.kept.node c position node sound.kept.links;
    };
    covered = λ j output is. (
        let at = sound.covered j output is in
        let base = base_stays output.channel (cut_apart j output is) in
        let gap = at.no_gap in
        record { no_gap = omega (arith, base, gap); covered = at.covered });
    come = ∥∥₁_map sound.come come_cut;
  }
