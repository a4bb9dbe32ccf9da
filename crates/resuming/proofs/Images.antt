-- The image of a node where processes were run again: it is laid out for the network, counts what was got, and its logs
-- are those of what was put.
use Rattle.std.proofs.Common.{◌≡◌, ◌⊎◌, inl, inr, ℕ, zero, suc, ◌+◌, ◌<◌, ◌≤◌, Bool, true, false, ℤ, List, [], ◌∷◌, length, get_or, Some, refl}
use Rattle.std.proofs.Common.{sym, ap, subst, ◌∙◌, arith}
use Rattle.std.specs.Prelude.{◌==◌, ◌||◌, slice_get, slice_index, IsTrue}
use Rattle.std.proofs.lemmas.Option.{slice_get_within}
use Rattle.protocol.specs.Node.Common.{Code, Network, Channel, Port, Outside, Process, MAX_COUNT}
use Rattle.protocol.specs.Node.Common.{has_process, has_end, port_on, role_by, role_of, is_counting, received_at}
use Rattle.protocol.specs.Node.Common.{received_of, log_at, log_of, end_of, CountIsWithin, CountsAreWithin, IsLaidOut, LogsAreWithin}
use Rattle.protocol.specs.Node.Common.{LogState, log_end, IsLogOf, SavedProcessView, SavedEnd, End, Receives}
use Rattle.protocol.specs.Node.Layout.{channel_on}
use Rattle.protocol_laws.specs.Node.CountLaws.{count_limit, receives_within, sends_within, both_within}
use Rattle.protocol_laws.specs.Node.ImageLaws.{channel_of_entry}
use Rattle.protocol_laws.specs.Node.InnerLaws.{end_there}
use Rattle.protocol_laws.specs.Node.OpeningLaws.{IsOwn, own_entry, entry_there, entry_numbers}
use Rattle.record.specs.Common.{AreAscending}
use Rattle.record.specs.Laws.Ascent.{ascend_behind}
use Rattle.rerun.specs.Rerunning.{Stage}
use Rattle.rerun.specs.Soundness.{Matches}
use Rattle.rerun.specs.Tables.{TableView, IsAt, IsInOrder, log_on}
use Rattle.resuming.proofs.Lists.{index_at}
use Rattle.resuming.specs.Images.{end_on, image_end, image_ends, image_of, image_processes, KeepsShares, standing_in}

-- the entry of a process
abbrev process_on : TableView → ℕ → Code → SavedProcessView
process_on t number code = record { number = number; standing = standing_in t.standings number }

module _ (net : Network) (t : TableView) (home : ℕ) where
  role_there : (puts gets : Bool) (got : ℕ) (log : LogState) → role_of (image_end puts gets got log) ≡ role_by puts gets
  role_there true true got log = refl
  role_there true false got log = refl
  role_there false gets got log = refl

  -- at an end that is on the node there is a process
  port_is : (port : Port) → port_on net home port ≡ true → (p : ℕ) × (port ≡ Process p)
  port_is Outside on = absurd (cc)
  port_is (Process p) on = (p, refl)

  own_process : (k : ℕ) (saved : SavedProcessView) → slice_get (image_of net t home).processes k ≡ Some saved
      → IsOwn (process_on t) 0 net.codes saved
  own_process =
      own_entry (λ (code : Code). code.node == home) (process_on t) (image_processes t.standings home) (λ number. refl)
      (λ number code codes. refl) 0 net.codes

  -- an entry is of its own channel
  own_end : (k : ℕ) (saved : SavedEnd) (channel : Channel) → slice_get (image_of net t home).ends k ≡ Some saved
      → slice_get net.channels saved.channel ≡ Some channel → saved ≡ end_on net t.got t.logs home saved.channel channel
  own_end k saved channel is on =
      entry_there (λ (channel : Channel). channel_on net home (Some channel)) (end_on net t.got t.logs home)
      (image_ends net t.got t.logs home) (λ number. refl) (λ number channel channels. refl) (λ (s : SavedEnd). s.channel)
      (λ number channel. refl) net.channels k saved channel is on

  pub laid_out : IsLaidOut net home (image_of net t home)
  laid_out = record {
    processes =
        entry_numbers (λ (code : Code). code.node == home) (process_on t) (image_processes t.standings home) (λ number. refl)
        (λ number code codes. refl) (λ (s : SavedProcessView). s.number) (λ number code. refl) (has_process net home) 0
        net.codes (λ j code is. (let sum : 0 + j ≡ j = omega arith in rw (sum, is) refl));
    ends =
        entry_numbers (λ (channel : Channel). channel_on net home (Some channel)) (end_on net t.got t.logs home)
        (image_ends net t.got t.logs home) (λ number. refl) (λ number channel channels. refl) (λ (s : SavedEnd). s.channel)
        (λ number channel. refl) (has_end net home) 0 net.channels
        (λ j channel is. (let sum : 0 + j ≡ j = omega arith in rw (sum, is) refl));
    roles = λ k saved channel is on.
        ap (λ (s : SavedEnd). role_of s.end) (own_end k saved channel is on)
        ∙ role_there (port_on net home channel.producer) (port_on net home channel.consumer)
        (slice_index t.got saved.channel) (log_on t saved.channel);
  }

  -- what the image has of a channel of which the node has an end
  is_end : (c : ℕ) (channel : Channel) → slice_get net.channels c ≡ Some channel
      → IsTrue (channel_on net home (Some channel))
      → end_of (image_of net t home) c
      ≡ Some (image_end (port_on net home channel.producer) (port_on net home channel.consumer) (slice_index t.got c)
      (log_on t c))
  is_end c channel there on =
      let of = end_there net home (image_of net t home) c channel laid_out there on in
      let own = own_end of.at of.saved channel of.entry (ap (slice_get net.channels) of.is_channel ∙ there) in
      of.there
      ∙ ap (λ (e : End). Some e)
      (sym of.is_end
      ∙ (ap (λ (s : SavedEnd). s.end) own ∙ ap (λ (n : ℕ). (end_on net t.got t.logs home n channel).end) of.is_channel))

  gets_there : (puts gets : Bool) → gets ≡ true → (got : ℕ) (log : LogState)
      → received_at (Some (image_end puts gets got log)) ≡ got
  gets_there true true is got log = refl
  gets_there true false is got log = absurd (cc)
  gets_there false gets is got log = refl

  puts_there : (puts gets : Bool) → puts ≡ true → (got : ℕ) (log : LogState)
      → log_at (Some (image_end puts gets got log)) ≡ Some log
  puts_there true true is got log = refl
  puts_there true false is got log = refl
  puts_there false gets is got log = absurd (cc)

  either_on : (puts gets : Bool) → (puts ≡ true) ⊎ (gets ≡ true) → (puts || gets) ≡ true
  either_on true gets is = refl
  either_on false gets (inl bad) = absurd (cc)
  either_on false gets (inr is) = is

  -- where a process of the node gets from a channel, the image counts what was got there
  pub received_there : (c : ℕ) (channel : Channel) → slice_get net.channels c ≡ Some channel
      → port_on net home channel.consumer ≡ true → received_of (image_of net t home) c ≡ slice_index t.got c
  received_there c channel there gets =
      let puts = port_on net home channel.producer in
      ap received_at
      (is_end c channel there (either_on puts (port_on net home channel.consumer) (inr gets)))
      ∙ gets_there puts (port_on net home channel.consumer) gets (slice_index t.got c) (log_on t c)

  -- and where one puts on it, the image has its log
  pub logged_there : (c : ℕ) (channel : Channel) → slice_get net.channels c ≡ Some channel
      → port_on net home channel.producer ≡ true → log_of (image_of net t home) c ≡ Some (log_on t c)
  logged_there c channel there puts =
      let gets = port_on net home channel.consumer in
      ap log_at (is_end c channel there (either_on (port_on net home channel.producer) gets (inl puts)))
      ∙ puts_there (port_on net home channel.producer) gets puts (slice_index t.got c) (log_on t c)

  module _ (inputs : List (List ℤ)) where
    pub counts : IsInOrder net inputs t → CountsAreWithin net inputs (image_of net t home)
    counts ordered k saved is =
        let there = channel_of_entry net home (image_of net t home) k saved laid_out is in
        subst (CountIsWithin net inputs saved.channel)
        (sym (ap (λ (s : SavedEnd). s.end) (own_end k saved there.0 is there.1)))
        (at there.0 there.1 (port_on net home there.0.producer) (port_on net home there.0.consumer) refl refl)
      where
        few : (channel : Channel) (port : Port) → slice_get net.channels saved.channel ≡ Some channel
            → channel.producer ≡ port
            → slice_index t.got saved.channel
            ≤ count_limit inputs saved.channel port (Receives (slice_index t.got saved.channel))
        few channel Outside on from = ordered.of_input saved.channel channel on from
        few channel (Process q) on from = ordered.counted saved.channel

        at : (channel : Channel) → slice_get net.channels saved.channel ≡ Some channel → (puts gets : Bool)
            → port_on net home channel.producer ≡ puts → port_on net home channel.consumer ≡ gets
            → CountIsWithin net inputs saved.channel
            (image_end puts gets (slice_index t.got saved.channel) (log_on t saved.channel))
        at channel on false gets from to =
            receives_within net inputs saved.channel (slice_index t.got saved.channel)
            (λ other here. few other other.producer here refl)
        at channel on true false from to = sends_within net inputs saved.channel (log_on t saved.channel)
        at channel on true true from to =
            let producer = port_is channel.producer from in
            let consumer = port_is channel.consumer to in
            both_within net inputs saved.channel (slice_index t.got saved.channel) (log_on t saved.channel)
            (ordered.of_link saved.channel producer.0 consumer.0 channel on producer.1 consumer.1)

    -- a log that keeps to its share is within its limits, since each log of the table ends at a count
    pub logs_within : IsInOrder net inputs t → KeepsShares (image_of net t home) → LogsAreWithin (image_of net t home)
    logs_within ordered keeps k saved log is has =
        let there = channel_of_entry net home (image_of net t home) k saved laid_out is in
        let own = ap (λ (x : SavedEnd). x.end) (own_end k saved there.0 is there.1) in
        let same : log_on t saved.channel ≡ log =
        at (port_on net home there.0.producer) (port_on net home there.0.consumer)
        (ap (λ (e : End). log_at (Some e)) (sym own) ∙ has) in
        record {
          count = keeps k saved log is has;
          last = subst (λ (l : LogState). log_end l ≤ MAX_COUNT) same (ordered.within saved.channel).last;
        }
      where
        at : (puts gets : Bool)
            → log_at (Some (image_end puts gets (slice_index t.got saved.channel) (log_on t saved.channel))) ≡ Some log
            → log_on t saved.channel ≡ log
        at true true is = cc
        at true false is = cc
        at false gets is = absurd (cc)

    -- it has what the stage has of which the table is in memory
    module _ (s : Stage) (is_at : IsAt net inputs t s) where
      processes : (k : ℕ) (saved : SavedProcessView) → slice_get (image_of net t home).processes k ≡ Some saved
          → saved.standing ≡ s.standing saved.number
      processes k saved is =
          let own = own_process k saved is in
          let sum : 0 + own.0 ≡ own.0 = omega arith in
          let stands : standing_in t.standings own.0 ≡ s.standing own.0 =
          index_at t.standings own.0 (s.standing own.0) _
          (is_at.standings own.0 (slice_get_within net.codes own.0 own.1 own.2)) in
          ap (λ (p : SavedProcessView). p.standing) own.3
          ∙ (ap (standing_in t.standings) sum
          ∙ (stands ∙ ap s.standing (sym (ap (λ (p : SavedProcessView). p.number) own.3 ∙ sum))))

      received : (k : ℕ) (saved : SavedEnd) → slice_get (image_of net t home).ends k ≡ Some saved
          → is_counting saved.end ≡ true → received_at (Some (saved.end)) ≡ s.got saved.channel
      received k saved is counting =
          let there = channel_of_entry net home (image_of net t home) k saved laid_out is in
          let own = ap (λ (x : SavedEnd). x.end) (own_end k saved there.0 is there.1) in
          ap (λ (e : End). received_at (Some e)) own
          ∙ (at (port_on net home there.0.producer) (port_on net home there.0.consumer)
          (sym (ap is_counting own) ∙ counting)
          ∙ is_at.got saved.channel (slice_get_within net.channels saved.channel there.0 there.1))
        where
          at : (puts gets : Bool)
              → is_counting (image_end puts gets (slice_index t.got saved.channel) (log_on t saved.channel)) ≡ true
              → received_at (Some (image_end puts gets (slice_index t.got saved.channel) (log_on t saved.channel)))
              ≡ slice_index t.got saved.channel
          at true true counts = refl
          at true false counts = absurd (cc)
          at false gets counts = refl

      retained : (k : ℕ) (log : LogState) (saved : SavedEnd) → slice_get (image_of net t home).ends k ≡ Some saved
          → log_at (Some (saved.end)) ≡ Some log → IsLogOf log (s.put saved.channel)
      retained k log saved is has =
          let there = channel_of_entry net home (image_of net t home) k saved laid_out is in
          let own = ap (λ (x : SavedEnd). x.end) (own_end k saved there.0 is there.1) in
          at there.0 there.1 (port_on net home there.0.producer) (port_on net home there.0.consumer) refl
          (ap (λ (e : End). log_at (Some e)) (sym own) ∙ has)
        where
          at : (channel : Channel) → slice_get net.channels saved.channel ≡ Some channel → (puts gets : Bool)
              → port_on net home channel.producer ≡ puts
              → log_at (Some (image_end puts gets (slice_index t.got saved.channel) (log_on t saved.channel)))
              ≡ Some log
              → IsLogOf log (s.put saved.channel)
          at channel on false gets from logs = absurd (cc)
          at channel on true false from logs =
              let producer = port_is channel.producer from in
              let same : log_on t saved.channel ≡ log = cc in
              subst (λ (l : LogState). IsLogOf l (s.put saved.channel)) same
              (is_at.logs saved.channel producer.0 channel on producer.1)
          at channel on true true from logs =
              let producer = port_is channel.producer from in
              let same : log_on t saved.channel ≡ log = cc in
              subst (λ (l : LogState). IsLogOf l (s.put saved.channel)) same
              (is_at.logs saved.channel producer.0 channel on producer.1)

      pub matches : Matches net s (image_of net t home)
      matches = record { processes = processes; received = received; retained = retained }

-- ---- its ends stand in order of their channels

ends_above : (net : Network) (got : List ℕ) (logs : List LogState) (home number : ℕ) (channels : List Channel) (k : ℕ)
    (d : SavedEnd) → k < length (image_ends net got logs home number channels)
    → number ≤ (get_or (image_ends net got logs home number channels) k d).channel
ends_above net got logs home number [] k d within = absurd (omega (arith, within))
ends_above net got logs home number (channel ∷ channels) zero d within =
    grind (arith, ends_above net got logs home (suc number) channels zero d)
ends_above net got logs home number (channel ∷ channels) (suc k) d within =
    grind (
      arith,
      ends_above net got logs home (suc number) channels k d,
      ends_above net got logs home (suc number) channels (suc k) d,
    )

pub ascends : (net : Network) (got : List ℕ) (logs : List LogState) (home number : ℕ) (channels : List Channel)
    → AreAscending (image_ends net got logs home number channels)
ascends net got logs home number [] = λ i j d less within. absurd (omega (arith, within))
ascends net got logs home number (channel ∷ channels) =
    let rest = ascends net got logs home (suc number) channels in
    let more = ascend_behind (end_on net got logs home number channel) _
    (λ k d within. omega (arith, ends_above net got logs home (suc number) channels k d within)) rest in
    grind (arith, rest, more)
