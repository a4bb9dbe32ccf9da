-- Laws of an item that leaves: there is one where the permanent image covers more than has left, and what is true of a
-- station stays so.
use Rattle.std.proofs.Common.{◌≡◌, ◌≢◌, ◌⊎◌, inl, inr, ℕ, ◌<◌, ◌≤◌, ℤ, List, length, Option, Some, None, refl, ap}
use Rattle.std.proofs.Common.{subst, ◌∙◌, arith}
use Rattle.std.specs.Prelude.{slice_get, slice_set}
use Rattle.std.proofs.Math.Logic.{∥∥₁_map}
use Rattle.std.proofs.Math.Nat.{min-le_right}
use Rattle.std.proofs.lemmas.List.{length-take}
use Rattle.protocol.specs.Node.Common.{Network, sent_on, approximation, Channel, Process, LogState, IsLogOf}
use Rattle.protocol.specs.Node.Common.{ImageView, RunningNode, log_of, log_at, base_in, base_of, sent_in, sent_of}
use Rattle.protocol.specs.Node.Common.{trimmed_image, port_on, HasNext, acts_of, End, AreInOrder, IsPrefix}
use Rattle.protocol.specs.Node.Trimming.{with_current}
use Rattle.protocol_laws.specs.Node.TrimLaws.{laid_out_trimmed, links_trimmed, counts_trimmed, logs_trimmed, job_trimmed}
use Rattle.protocol_laws.specs.Node.TrimLaws.{image_trimmed, base_trimmed, end_elsewhere}
use Rattle.protocol_laws.specs.Node.ReleaseLaws.{log_stands}
use Rattle.protocol.specs.World.Common.{OutputView, HasCome, IsSound}
use Rattle.protocol.specs.World.Sound.{OutputIsSound, OutputsAreSound}
use Rattle.protocol_laws.specs.World.OutputLaws.{IsOutputOf, output_here, set_cases, set_keeps, same_output}

-- Where a trimmed log begins

-- any other log begins where it began
base_elsewhere : (c position : ℕ) (image : ImageView) (d : ℕ) → d ≢ c
    → base_of (trimmed_image c position image) d ≡ base_of image d
base_elsewhere c position image d other =
    ap (λ (o : Option End). base_in (log_at o))
    (end_elsewhere c position image d other)

-- a beginning is no longer than the whole
pub beginning_length : (taken whole : List ℤ) → IsPrefix taken whole → length taken ≤ length whole
beginning_length taken whole is =
    let count = length-take (length taken) whole in
    let few = min-le_right (length taken) (length whole) in
    omega (arith, ap (length {A = ℤ}) is, count, few)

module _ (net : Network) (inputs : List (List ℤ)) (node : RunningNode) (outputs : List OutputView) where
  -- The next item

  -- where the permanent image covers more than has left, the log has the item that comes next
  pub has_next : (j : ℕ) (output : OutputView) → IsSound net inputs node outputs → AreInOrder node.kept node.current
      → slice_get outputs j ≡ Some output
      → length output.taken < sent_of node.kept.permanent output.channel
      → HasNext (log_of node.current output.channel) (length output.taken)
  has_next j output sound order is more =
      at (log_of node.current output.channel) (sound.covered j output is).no_gap ahead
    where
      ahead : length output.taken < sent_of node.current output.channel
      ahead = let later = order.current_ahead.sent output.channel in omega (arith, more, later)

      at : (o : Option LogState) → base_in o ≤ length output.taken → length output.taken < sent_in o
          → HasNext o (length output.taken)
      at None gap few = omega (arith, few)
      at (Some log) gap few = record { no_gap = gap; within = omega (arith, few) }

  -- After an item left, or all that the outlet took of it

  module _ (j : ℕ) (output : OutputView) (taken : List ℤ) (sound : IsSound net inputs node outputs)
      (is : slice_get outputs j ≡ Some output)
      (longer : IsPrefix output.taken taken)
      (covers : length taken ≤ sent_of node.kept.permanent output.channel)
      (goes_on : (log : LogState) (history : List ℤ) → log_of node.current output.channel ≡ Some log
      → IsLogOf log history → IsPrefix output.taken history → IsPrefix taken history)
      (logged : log_of node.current output.channel ≢ None) where
    covered_then : OutputsAreSound (with_current (trimmed_image output.channel (length taken) node.current) node)
        (slice_set outputs j (record { channel = output.channel; taken = taken }))
    covered_then i one there = at (set_cases outputs j i (record { channel = output.channel; taken = taken }) one there)
      where
        at : ((i ≡ j) × (◌≡◌ {A = OutputView} (record { channel = output.channel; taken = taken }) one))
            ⊎ ((i ≢ j) × (slice_get outputs i ≡ Some one))
            → OutputIsSound (with_current (trimmed_image output.channel (length taken) node.current) node) one
        at (inl here) =
            let gap = (sound.covered j output is).no_gap in
            let more = beginning_length output.taken taken longer in
            let before : base_of node.current output.channel ≤ length taken = omega (arith, gap, more) in
            subst (λ (o : OutputView). OutputIsSound
            (with_current (trimmed_image output.channel (length taken) node.current) node) o) here.1
            (record {
              no_gap = base_trimmed output.channel (length taken) node.current output.channel before;
              covered =
                  covers;
            })
        at (inr other) =
            let before = sound.covered i one other.1 in
            let apart : one.channel ≢ output.channel =
            (λ e. other.0 (same_output net node.kept.node outputs sound.listed i j one output other.1 is e)) in
            let base = base_elsewhere output.channel (length taken) node.current one.channel apart in
            let gap = before.no_gap in
            record { no_gap = omega (arith, base, gap); covered = before.covered }

    released_then : (come : HasCome net inputs node outputs) (i p : ℕ) (one : OutputView) (channel : Channel)
        → slice_get (slice_set outputs j (record { channel = output.channel; taken = taken })) i ≡ Some one
        → slice_get net.channels one.channel ≡ Some channel → channel.producer ≡ Process p
        → IsPrefix one.taken
        (sent_on one.channel (acts_of net (approximation net inputs come.reached.n) come.reached.current_acts p))
    released_then come i p one channel there on from =
        at (set_cases outputs j i (record { channel = output.channel; taken = taken }) one there)
      where
        by_log : (o : Option LogState) → log_of node.current output.channel ≡ o
            → slice_get net.channels output.channel ≡ Some channel
            → IsPrefix taken
            (sent_on output.channel
            (acts_of net (approximation net inputs come.reached.n) come.reached.current_acts p))
        by_log None has on' = absurd (logged has)
        by_log (Some log) has on' =
            goes_on log
            (sent_on output.channel
            (acts_of net (approximation net inputs come.reached.n) come.reached.current_acts p)) has
            (log_stands net (approximation net inputs come.reached.n) come.reached.current_acts node.current
            output.channel p channel log come.reached.current on' from has)
            (come.released j p output channel is on' from)

        at : ((i ≡ j) × (◌≡◌ {A = OutputView} (record { channel = output.channel; taken = taken }) one))
            ⊎ ((i ≢ j) × (slice_get outputs i ≡ Some one))
            → IsPrefix one.taken
            (sent_on one.channel
            (acts_of net (approximation net inputs come.reached.n) come.reached.current_acts p))
        at (inr other) = come.released i p one channel other.1 on from
        at (inl here) =
            let number : output.channel ≡ one.channel = ap (λ (o : OutputView). o.channel) here.1 in
            subst (λ (o : OutputView). IsPrefix o.taken
            (sent_on o.channel
            (acts_of net (approximation net inputs come.reached.n) come.reached.current_acts p))) here.1
            (by_log (log_of node.current output.channel) refl (ap (slice_get net.channels) number ∙ on))

    -- it is of a channel that goes outside
    there : IsOutputOf net node.kept.node output.channel
    there = output_here net node.kept.node outputs sound.listed j output is

    come_then : HasCome net inputs node outputs
        → HasCome net inputs (with_current (trimmed_image output.channel (length taken) node.current) node)
        (slice_set outputs j (record { channel = output.channel; taken = taken }))
    come_then come = record {
      reached = record {
        n = come.reached.n;
        permanent_acts = come.reached.permanent_acts;
        held_acts = come.reached.held_acts;
        current_acts = come.reached.current_acts;
        permanent = come.reached.permanent;
        held = come.reached.held;
        current =
            image_trimmed net (approximation net inputs come.reached.n) come.reached.current_acts output.channel
            (length taken) node.current come.reached.current;
        held_after = come.reached.held_after;
        current_after = come.reached.current_after;
      };
      inboxes = come.inboxes;
      out = λ job out. job_trimmed net node.kept.node inputs output.channel (length taken) there.channel node.current
          node.inboxes job sound.kept.laid_out there.there (ap (port_on net node.kept.node) there.outside)
          (come.out job out);
      released = released_then come;
    }

    -- what has left stays a beginning, and is covered; and no log begins behind it
    pub sound_released : IsSound net inputs
        (with_current (trimmed_image output.channel (length taken) node.current) node)
        (slice_set outputs j (record { channel = output.channel; taken = taken }))
    sound_released = record {
      listed =
          set_keeps (λ (o : OutputView). o.channel) outputs j output
          (record { channel = output.channel; taken = taken }) is refl ∙ sound.listed;
      kept = record {
        laid_out = laid_out_trimmed net node.kept.node output.channel (length taken) node.current sound.kept.laid_out;
        counts =
            counts_trimmed net node.kept.node inputs output.channel (length taken) there.channel node.current
            sound.kept.laid_out there.there (ap (port_on net node.kept.node) there.outside) sound.kept.counts;
        logs = logs_trimmed output.channel (length taken) node.current sound.kept.logs;
        links = links_trimmed net node.kept.node output.channel (length taken) node sound.kept.links;
      };
      covered = covered_then;
      come = ∥∥₁_map sound.come come_then;
    }
