-- In the abstract machine a run may begin there.
use Rattle.std.proofs.Common.{◌≡◌, ◌⊎◌, inl, inr, ℕ, zero, suc, ◌<◌, ◌≤◌, true, ℤ, List, [], ◌∷◌, length, get_or}
use Rattle.std.proofs.Common.{replicate, Option, Some, None, refl, sym, ap, subst, ◌∙◌, arith}
use Rattle.std.specs.Prelude.{option_map, slice_get, slice_index, IsTrue}
use Rattle.std.proofs.Math.Path.{fun_ext}
use Rattle.std.proofs.lemmas.Option.{slice_get_cases, slice_get_within}
use Rattle.protocol.specs.Join.Seen.{mode_or_new, modes_seen, world_seen}
use Rattle.protocol.specs.Node.Common.{base_in, Channel, Code, Fits, IsValid, log_of, LogState}
use Rattle.protocol.specs.Node.Common.{Network, node_count, Outside, port_on, Port, Process, RecordView, sent_in}
use Rattle.protocol.specs.Node.Layout.{consumer_of, node_at, producer_of}
use Rattle.protocol.specs.World.Common.{image_seen, is_output, net_seen, outlets_seen, OutletView, OutputView, records_of, records_seen}
use Rattle.protocol.specs.World.Common.{StationView}
use Rattle.protocol.specs.World.RecoveryLine.{record_or_new}
use Rattle.protocol_laws.specs.Join.Crossings.{it_is}
use Rattle.protocol_laws.specs.Node.ImageLaws.{map_got}
use Rattle.protocol_laws.specs.Node.PlaceLaws.{node_below}
use Rattle.protocol_laws.specs.World.OutputLaws.{map_at, output_there}
use Rattle.protocol_laws.specs.World.ShownLaws.{shown_at}
use Rattle.recovery_line.specs.Images.{Image, IsOutput}
use Rattle.recovery_line.specs.Records.{new_record, Record}
use Rattle.recovery_line.specs.Starts.{IsLine, IsStart, IsUnbegun}
use Rattle.rerun.specs.Places.{IsPlace}
use Rattle.rerun.specs.Tables.{TableView, IsInOrder, log_on}
use Rattle.retained.specs.LogState.{log_end}
use Rattle.resuming.proofs.Images.{logged_there, received_there}
use Rattle.resuming.proofs.Standing.{own_agree}
use Rattle.resuming.proofs.Stations.{as_many, is_there, numbered, outlet_there, sound, station_is, station_there}
use Rattle.resuming.proofs.Stations.{stations_there}
use Rattle.resuming.specs.Images.{image_of, record_of}
use Rattle.resuming.specs.Resuming.{MayResume}
use Rattle.starting_again.specs.WasLeft.{outputs_at}

-- ---- where a channel runs

-- a channel that is put on at a node, or got from there
record EndAt (net : Network) (c p : ℕ) (o : Option Channel) (port : Channel → Port) : Type 0 where
  pub channel : Channel
  pub there : o ≡ Some channel
  pub process : ℕ
  pub is : port channel ≡ Process process
  pub on : port_on net p (port channel) ≡ true
  pub below : p < node_count net

-- a node at which a process is is one of the network's
node_is_there : (net : Network) (r p : ℕ) → node_at net (Process r) ≡ Some p → p < node_count net
node_is_there net r p at = by (slice_get net.codes r) refl at
  where
    by : (o : Option Code) → slice_get net.codes r ≡ o → option_map (λ (x : Code). x.node) o ≡ Some p
        → p < node_count net
    by None is at = absurd (cc)
    by (Some code) is at =
        let same : code.node ≡ p = cc in
        subst (λ (n : ℕ). n < node_count net) same (node_below net r code is)

producer_at : (net : Network) (c p : ℕ) → (net_seen net).producer c ≡ Some p
    → EndAt net c p (slice_get net.channels c) (λ channel. channel.producer)
producer_at net c p from = by (slice_get net.channels c) refl from
  where
    of_port : (channel : Channel) → slice_get net.channels c ≡ Some channel → (port : Port) → channel.producer ≡ port
        → node_at net port ≡ Some p → EndAt net c p (slice_get net.channels c) (λ channel. channel.producer)
    of_port channel there Outside is at = absurd (cc)
    of_port channel there (Process r) is at = record {
      channel = channel;
      there = there;
      process = r;
      is = is;
      on = ap (port_on net p) is ∙ it_is p (node_at net (Process r)) at;
      below = node_is_there net r p at;
    }

    by : (o : Option Channel) → slice_get net.channels c ≡ o → producer_of net o ≡ Some p
        → EndAt net c p (slice_get net.channels c) (λ channel. channel.producer)
    by None there from = absurd (cc)
    by (Some channel) there from = of_port channel there channel.producer refl from

consumer_at : (net : Network) (c p : ℕ) → (net_seen net).consumer c ≡ Some p
    → EndAt net c p (slice_get net.channels c) (λ channel. channel.consumer)
consumer_at net c p to = by (slice_get net.channels c) refl to
  where
    of_port : (channel : Channel) → slice_get net.channels c ≡ Some channel → (port : Port) → channel.consumer ≡ port
        → node_at net port ≡ Some p → EndAt net c p (slice_get net.channels c) (λ channel. channel.consumer)
    of_port channel there Outside is at = absurd (cc)
    of_port channel there (Process r) is at = record {
      channel = channel;
      there = there;
      process = r;
      is = is;
      on = ap (port_on net p) is ∙ it_is p (node_at net (Process r)) at;
      below = node_is_there net r p at;
    }

    by : (o : Option Channel) → slice_get net.channels c ≡ o → consumer_of net o ≡ Some p
        → EndAt net c p (slice_get net.channels c) (λ channel. channel.consumer)
    by None there to = absurd (cc)
    by (Some channel) there to = of_port channel there channel.consumer refl to

-- in a valid network a channel without a consumer's node goes outside
goes_outside : (net : Network) → IsValid net → (c : ℕ) (channel : Channel) → slice_get net.channels c ≡ Some channel
    → consumer_of net (Some channel) ≡ None → channel.consumer ≡ Outside
goes_outside net valid c channel there none = by channel.consumer refl none
  where
    by : (port : Port) → channel.consumer ≡ port → node_at net port ≡ None → channel.consumer ≡ Outside
    by Outside is none = is
    by (Process r) is none = in_codes (slice_get_cases net.codes r).1
      where
        in_codes : ((x : Code) × (r < length net.codes) × (slice_get net.codes r ≡ Some x) × (get_or net.codes r x ≡ x))
            ⊎ ((length net.codes ≤ r) × (slice_get net.codes r ≡ None)) → channel.consumer ≡ Outside
        in_codes (inl code) =
            let some : node_at net (Process r) ≡ Some (code.0.node) = ap (option_map (λ (x : Code). x.node)) code.2 in
            let bad : None ≡ Some (code.0.node) = sym none ∙ some in
            absurd (cc)
        in_codes (inr past) =
            let below = valid.consumer_is_here c r channel there is in absurd (omega (arith, below, past.0))

-- ---- what is seen of the nodes

module _ (net : Network) (inputs : List (List ℤ)) (t : TableView) (outputs : List OutputView) (valid : IsValid net)
    (fits : Fits net inputs) (ordered : IsInOrder net inputs t) (may : MayResume net inputs t outputs)
    (place : IsPlace net inputs t) where
  abbrev stations : List StationView
  stations = stations_there net t outputs

  abbrev seen : ℕ → Record
  seen = records_seen (records_of stations)

  abbrev images : ℕ → Image
  images k = (seen k).permanent

  record_at : (k : ℕ) → k < node_count net → slice_get (records_of stations) k ≡ Some (record_of net t k)
  record_at k below =
      map_at (λ (s : StationView). s.node.kept) stations k (station_there net t outputs k)
      (is_there net t outputs k below)

  image_at : (k : ℕ) → k < node_count net → images k ≡ image_seen (image_of net t k)
  image_at k below = ap (λ (o : Option RecordView). (record_or_new o).permanent) (record_at k below)

  -- a new record, but for its image
  new_but : (k : ℕ) → record new_record { permanent = images k } ≡ seen k
  new_but k = by (slice_get (records_of stations) k) refl
    where
      none : (count x : ℕ) → slice_index (replicate count 0) x ≡ 0
      none zero x = refl
      none (suc count) zero = refl
      none (suc count) (suc x) = none count x

      by : (o : Option RecordView) → slice_get (records_of stations) k ≡ o
          → record new_record { permanent = (record_or_new o).permanent } ≡ record_or_new o
      by None is = refl
      by (Some kept) is =
          let had = map_got (λ (s : StationView). s.node.kept) stations k kept is in
          let same : record_of net t k ≡ kept =
          sym (ap (λ (s : StationView). s.node.kept) (station_is net t outputs k had.0 had.1).1) ∙ had.2 in
          subst (λ (r : RecordView). record new_record { permanent = (record_or_new (Some r)).permanent }
          ≡ record_or_new (Some r)) same (fresh (node_count net))
        where
          fresh : (count : ℕ)
              → record new_record { permanent = image_seen (image_of net t k) }
              ≡ record_or_new (Some (record {
                node = k;
                epoch = 0;
                highest = replicate count 0;
                decisions = [];
                permanent = image_of net t k;
                tentative = None;
              }))
          fresh count = rw (fun_ext (none count)) refl

  unbegun : (k : ℕ) → IsUnbegun images (modes_seen stations) k
  unbegun k = by (slice_get stations k) refl
    where
      by : (o : Option StationView) → slice_get stations k ≡ o → IsUnbegun images (modes_seen stations) k
      by None is =
          let none : slice_get (records_of stations) k ≡ None = nothing stations k is in
          inr (ap mode_or_new is, ap (λ (r : Option RecordView). (record_or_new r).permanent) none)
        where
          nothing : (xs : List StationView) (j : ℕ) → slice_get xs j ≡ None → slice_get (records_of xs) j ≡ None
          nothing [] j none = refl
          nothing (x ∷ xs) zero none = absurd (cc)
          nothing (x ∷ xs) (suc j) none = nothing xs j none
      by (Some station) is =
          inl (ap mode_or_new is
          ∙ ap (λ (s : StationView). mode_or_new (Some s)) (station_is net t outputs k station is).1)

  -- ---- counts

  got_at : (c q : ℕ) → (net_seen net).consumer c ≡ Some q → (images q).received c ≡ slice_index t.got c
  got_at c q to =
      let end = consumer_at net c q to in
      ap (λ (i : Image). i.received c) (image_at q end.below) ∙ received_there net t q c end.channel end.there end.on

  put_at : (c p : ℕ) → (net_seen net).producer c ≡ Some p → (images p).sent c ≡ log_end (log_on t c)
  put_at c p from =
      let end = producer_at net c p from in
      ap (λ (i : Image). i.sent c) (image_at p end.below)
      ∙ ap sent_in (logged_there net t p c end.channel end.there end.on)

  base_at : (c p : ℕ) → (net_seen net).producer c ≡ Some p → (images p).base c ≡ (log_on t c).base
  base_at c p from =
      let end = producer_at net c p from in
      ap (λ (i : Image). i.base c) (image_at p end.below)
      ∙ ap base_in (logged_there net t p c end.channel end.there end.on)

  -- what was got stands in the log, or right behind it
  got_in_log : (c p q : ℕ) → (net_seen net).producer c ≡ Some p → (net_seen net).consumer c ≡ Some q
      → ((log_on t c).base ≤ (images q).received c) × ((images q).received c ≤ log_end (log_on t c))
  got_in_log c p q from to =
      let producer = producer_at net c p from in
      let consumer = consumer_at net c q to in
      let one : Some producer.channel ≡ Some consumer.channel = sym producer.there ∙ consumer.there in
      let same : producer.channel ≡ consumer.channel = cc in
      let log = ordered.of_link c producer.process consumer.process producer.channel producer.there producer.is
      (ap (λ (x : Channel). x.consumer) same ∙ consumer.is) in
      let got = got_at c q to in
      let low = log.from_base in
      let high = log.to_end in
      (omega (arith, got, low), omega (arith, got, high))

  -- what has left of an output stands in the log, or right behind it
  left_in_log : (c p : ℕ) → IsOutput (net_seen net) c p
      → ((log_on t c).base ≤ outlets_seen stations c) × (outlets_seen stations c ≤ log_end (log_on t c))
  left_in_log c p out =
      let end = producer_at net c p out.from in
      let outside : end.channel.consumer ≡ Outside =
      goes_outside net valid c end.channel end.there (ap (consumer_of net) (sym end.there) ∙ out.to) in
      let passes : IsTrue (is_output net p c) =
      output_there net p c end.process end.channel end.there outside end.is
      (ap (port_on net p) (sym end.is) ∙ end.on) in
      let below = end.below in
      let count = as_many net t outputs in
      let shown = shown_at net inputs stations (numbered net t outputs)
      (sound net t outputs inputs valid fits ordered may place) p c (omega (arith, below, count)) passes
      (slice_get_within net.channels c end.channel end.there) in
      let same : shown.station ≡ station_there net t outputs p =
      (station_is net t outputs p shown.station shown.here).1 in
      let at : slice_get (station_there net t outputs p).outlets shown.shown.place ≡ Some shown.shown.outlet =
      subst (λ (s : StationView). slice_get s.outlets shown.shown.place ≡ Some shown.shown.outlet) same
      shown.shown.there in
      let given = map_got outlet_there (outputs_at net p outputs) shown.shown.place shown.shown.outlet at in
      let agrees = own_agree net inputs t outputs valid fits ordered may place p shown.shown.place given.0 given.1 in
      let channel : given.0.channel ≡ c =
      ap (λ (o : OutletView). o.channel) given.2 ∙ shown.shown.channel in
      let taken : outlets_seen stations c ≡ length given.0.taken =
      ap length (shown.shown.shows ∙ sym (ap (λ (o : OutletView). o.taken) given.2)) in
      let low = agrees.in_log.from_base in
      let high = agrees.in_log.to_end in
      let log = ap (log_on t) channel in
      let base = ap (λ (l : LogState). l.base) log in
      let end_is = ap log_end log in
      (omega (arith, taken, low, base), omega (arith, taken, high, end_is))

  line : IsLine (net_seen net) images (outlets_seen stations)
  line = record {
    sound = record {
      no_orphan = λ c p q from to.
          (let high = (got_in_log c p q from to).1 in let put = put_at c p from in omega (arith, high, put));
      nothing_lost = λ c p q from to.
          (let low = (got_in_log c p q from to).0 in let base = base_at c p from in omega (arith, low, base));
      outputs = λ c p out.
          (let low = (left_in_log c p out).0 in let base = base_at c p out.from in omega (arith, low, base));
    };
    covered = λ c p out.
        (let high = (left_in_log c p out).1 in let put = put_at c p out.from in omega (arith, high, put));
    logs = λ c p. within c p (slice_get (records_of stations) p);
  }
    where
      of_log : (o : Option LogState) → base_in o ≤ sent_in o
      of_log None = omega arith
      of_log (Some log) = omega arith

      within : (c p : ℕ) (o : Option RecordView)
          → (record_or_new o).permanent.base c ≤ (record_or_new o).permanent.sent c
      within c p None = omega arith
      within c p (Some kept) = of_log (log_of kept.permanent c)

  pub start : IsStart (net_seen net) (world_seen stations [])
  start = record {
    images = images;
    modes = modes_seen stations;
    outlets = outlets_seen stations;
    line = line;
    unbegun = unbegun;
    is = sym (rw (fun_ext new_but) refl);
  }
