-- A turn that comes back is work of the abstract machine.
use Rattle.std.proofs.Common.{◌≡◌, ◌⊎◌, inl, inr, ℕ, ◌<◌, ◌≤◌, Bool, true, false, eqb, List, ℤ, length, get_or, Option}
use Rattle.std.proofs.Common.{Some, None}
use Rattle.std.proofs.Common.{option_map, refl, sym, ap, ◌∙◌, arith}
use Rattle.std.specs.Prelude.{slice_get, find, IsTrue}
use Rattle.std.proofs.lemmas.Option.{slice_get_cases}
use Rattle.protocol.specs.Node.Common.{role_of, Standing, Code, Network, Channel, Port, Outside, Process, end_of}
use Rattle.protocol.specs.Node.Common.{received_of, received_at, log_at, base_in, base_of, sent_in, sent_of}
use Rattle.protocol.specs.Node.Common.{ImageView, End, Receives, Sends, Both, SavedEnd, LogState, log_end, taken_from}
use Rattle.protocol.specs.Node.Common.{put_on, saved_pushed, saved_counted, installed, producer_of, consumer_of}
use Rattle.protocol.specs.Node.Common.{has_process, has_end, port_on, role_by, IsLaidOut, CountsAreWithin}
use Rattle.ckpt_codec.specs.Common.{pushed, counted}
use Rattle.recovery_line.specs.Images.{IsLocal}
use Rattle.protocol.specs.World.Common.{Mode, NodeStep, image_seen, Record, net_seen}
use Rattle.recovery_line.specs.Nodes.{LetsGoOfGot, Live, Work}
use Rattle.protocol_laws.specs.Join.Crossings.{is_it, it_is}
use Rattle.protocol.specs.Node.Layout.{node_at}
use Rattle.protocol_laws.specs.Node.FitLaws.{behind_installed}
use Rattle.protocol_laws.specs.Node.ImageLaws.{end_of_changed, entry_of, map_twice}
use Rattle.protocol_laws.specs.Node.InnerLaws.{inner_there}
use Rattle.protocol_laws.specs.Node.NumberedLaws.{where_mark}

both_roles : (puts gets : Bool) → 2 ≡ role_by puts gets → (puts ≡ true) × (gets ≡ true)
both_roles true true is = (refl, refl)
both_roles true false is = absurd (cc)
both_roles false gets is = absurd (cc)

module _ (net : Network) (home : ℕ) (inputs : List (List ℤ)) where
  -- a channel of which an image has both ends stays on its node
  both_local : (image : ImageView) (c received : ℕ) (log : LogState) → IsLaidOut net home image
      → end_of image c ≡ Some (Both received log) → IsLocal (net_seen net) c home
  both_local image c received log laid both = by (slice_get_cases net.channels c).1
    where
      by : ((x : Channel) × (c < length net.channels) × (slice_get net.channels c ≡ Some x)
          × (get_or net.channels c x ≡ x)) ⊎ ((length net.channels ≤ c) × (slice_get net.channels c ≡ None))
          → IsLocal (net_seen net) c home
      by (inr past) =
          let entry = entry_of image c (Both received log) both in
          let mark = where_mark (λ (s : SavedEnd). s.channel) (has_end net home) 0 (length net.channels) image.ends
          entry.place entry.saved laid.ends entry.is in
          let same : entry.saved.channel ≡ c = entry.channel in
          absurd (omega (arith, mark.2, same, past.0))
      by (inl there) =
          let entry = entry_of image c (Both received log) both in
          let role = laid.roles entry.place entry.saved there.0 entry.is
          (ap (slice_get net.channels) entry.channel ∙ there.2) in
          let ends = both_roles (port_on net home there.0.producer) (port_on net home there.0.consumer)
          (sym (ap role_of entry.is_end) ∙ role) in
          record {
            from = ap (producer_of net) there.2 ∙ is_it home (node_at net there.0.producer) ends.0;
            to = ap (consumer_of net) there.2 ∙ is_it home (node_at net there.0.consumer) ends.1;
          }

  -- of such a channel it got no more than it put, and no less than its log let go of
  local_within : (image : ImageView) (c : ℕ) → IsLaidOut net home image → CountsAreWithin net inputs image
      → IsLocal (net_seen net) c home
      → (base_of image c ≤ received_of image c) × (received_of image c ≤ sent_of image c)
  local_within image c laid counts local = by (slice_get net.channels c) refl local.from local.to
    where
      process_of : (port : Port) → node_at net port ≡ Some home
          → (a : ℕ) × (port ≡ Process a) × IsTrue (has_process net home a)
      process_of Outside there = absurd (cc)
      process_of (Process a) there =
          (a, refl, it_is home (option_map (λ (c : Code). c.node) (slice_get net.codes a)) there)

      by : (o : Option Channel) → slice_get net.channels c ≡ o → producer_of net o ≡ Some home
          → consumer_of net o ≡ Some home
          → (base_of image c ≤ received_of image c) × (received_of image c ≤ sent_of image c)
      by None on from to = absurd (cc)
      by (Some channel) on from to =
          let producer = process_of channel.producer from in
          let consumer = process_of channel.consumer to in
          let here = inner_there net home inputs image c producer.0 consumer.0 channel laid counts on producer.1
          producer.2 consumer.1 consumer.2 in
          let received : received_of image c ≡ here.received = ap received_at here.there in
          let base : base_of image c ≡ here.log.base = ap (λ (o : Option End). base_in (log_at o)) here.there in
          let sent : sent_of image c ≡ log_end here.log = ap (λ (o : Option End). sent_in (log_at o)) here.there in
          let low = here.within.from_base in
          let high = here.within.to_end in
          (omega (arith, received, base, low), omega (arith, received, sent, high))

  module _ (process : ℕ) (after : Standing) (taken : List ℕ) (sent : List (List ℤ)) (image : ImageView)
      (laid : IsLaidOut net home image)
      (laid_then : IsLaidOut net home (installed net.channels process after taken sent image))
      (counts_then : CountsAreWithin net inputs (installed net.channels process after taken sent image)) where
    end_then : (c : ℕ) → end_of (installed net.channels process after taken sent image) c
        ≡ option_map (λ (s : SavedEnd). (saved_counted net.channels process taken
        (saved_pushed net.channels process sent s)).end) (find (λ (s : SavedEnd). eqb s.channel c) image.ends)
    end_then c =
        end_of_changed image (installed net.channels process after taken sent image) c
        (λ (s : SavedEnd). saved_counted net.channels process taken (saved_pushed net.channels process sent s))
        (λ s. refl)
        (map_twice (saved_pushed net.channels process sent) (saved_counted net.channels process taken) image.ends)

    base_after : (c : ℕ) → LetsGoOfGot (net_seen net) home (image_seen image)
        (image_seen (installed net.channels process after taken sent image)) c
    base_after c = by (find (λ (s : SavedEnd). eqb s.channel c) image.ends) refl
      where
        goes : (s : SavedEnd) (received : ℕ) (log : LogState)
            → find (λ (x : SavedEnd). eqb x.channel c) image.ends ≡ Some s → s.end ≡ Both received log
            → LetsGoOfGot (net_seen net) home (image_seen image)
            (image_seen (installed net.channels process after taken sent image)) c
        goes s received log found both =
            let local = both_local image c received log laid
            (ap (option_map (λ (x : SavedEnd). x.end)) found ∙ ap (λ (e : End). Some e) both) in
            inr (
              local,
              (behind_installed net.channels process after taken sent image).base c,
              (local_within (installed net.channels process after taken sent image) c laid_then counts_then local).0,
            )

        -- where its end isn't one of both kinds, its log begins where it did
        stays : (s : SavedEnd) (e : End) → find (λ (x : SavedEnd). eqb x.channel c) image.ends ≡ Some s → s.end ≡ e
            → base_in (log_at (Some (counted (taken_from net.channels process taken s.channel)
            (pushed (put_on net.channels process sent s.channel) e)))) ≡ base_in (log_at (Some e))
            → LetsGoOfGot (net_seen net) home (image_seen image)
            (image_seen (installed net.channels process after taken sent image)) c
        stays s e found is same = inl (
            ap (λ (o : Option End). base_in (log_at o)) (end_then c ∙ ap (option_map (λ (x : SavedEnd).
            (saved_counted net.channels process taken (saved_pushed net.channels process sent x)).end)) found)
            ∙ (ap (λ (x : End). base_in (log_at (Some (counted (taken_from net.channels process taken s.channel)
            (pushed (put_on net.channels process sent s.channel) x))))) is
            ∙ (same ∙ sym (ap (λ (o : Option End). base_in (log_at o))
            (ap (option_map (λ (x : SavedEnd). x.end)) found ∙ ap (λ (x : End). Some x) is)))))

        by_end : (s : SavedEnd) (e : End) → s.end ≡ e → find (λ (x : SavedEnd). eqb x.channel c) image.ends ≡ Some s
            → LetsGoOfGot (net_seen net) home (image_seen image)
            (image_seen (installed net.channels process after taken sent image)) c
        by_end s (Receives received) is found = stays s (Receives received) found is refl
        by_end s (Sends log) is found = stays s (Sends log) found is refl
        by_end s (Both received log) is found = goes s received log found is

        by : (o : Option SavedEnd) → find (λ (x : SavedEnd). eqb x.channel c) image.ends ≡ o
            → LetsGoOfGot (net_seen net) home (image_seen image)
            (image_seen (installed net.channels process after taken sent image)) c
        by None found = inl (
            ap (λ (o : Option End). base_in (log_at o)) (end_then c ∙ ap (option_map (λ (x : SavedEnd).
            (saved_counted net.channels process taken (saved_pushed net.channels process sent x)).end)) found)
            ∙ sym (ap (λ (o : Option End). base_in (log_at o)) (ap (option_map (λ (x : SavedEnd). x.end)) found)))
        by (Some s) found = by_end s s.end refl found

    pub turn_works : (kept : Record) (live : Option Live) (left : ℕ → ℕ)
        → NodeStep (net_seen net) home
        (record { disk = kept; mode = Mode.Running (image_seen image) live; outlets = left })
        (record {
          disk = kept;
          mode = Mode.Running (image_seen (installed net.channels process after taken sent image)) live;
          outlets = left;
        })
    turn_works kept live left =
        Work (image_seen image) (image_seen (installed net.channels process after taken sent image)) live (record {
          same = record { disk = refl; outlets = refl };
          was = refl;
          now = refl;
          received = (behind_installed net.channels process after taken sent image).received;
          base = base_after;
          sent = (behind_installed net.channels process after taken sent image).sent;
          local = λ c is.
              (local_within (installed net.channels process after taken sent image) c laid_then counts_then is).1;
        })
