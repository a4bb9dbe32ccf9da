-- Where nothing is left to do, the streams that left are whole.
use Rattle.std.proofs.Common.{◌≡◌, inl, inr, ℕ, zero, suc, ◌+◌, ◌-◌, ◌<◌, ◌≤◌, Bool, ◌&&◌, ◌==◌, ℤ}
use Rattle.std.proofs.Common.{List, [], ◌∷◌, ◌++◌, length, take, Option, Some, None, refl, sym, ap, ◌∙◌}
use Rattle.std.proofs.Common.{arith}
use Rattle.std.specs.Prelude.{slice_get, min, IsTrue}
use Rattle.std.proofs.Math.Logic.{∥∥₁_map, ∥∥₁_map₂}
use Rattle.std.proofs.Math.Nat.{min-eq_left}
use Rattle.std.proofs.lemmas.Bool.{and_parts, eq-eqb, eqb-true, leb-true}
use Rattle.std.proofs.lemmas.List.{take-append-le, length-append}
use Rattle.std.proofs.lemmas.Option.{slice_get_cases, slice_get_within}
use Rattle.protocol.specs.Node.Common.{history_of, IsPrefix, Fits, node_count, Code, Network, IsValid, Step, StandsAt}
use Rattle.protocol.specs.Node.Common.{process_trace, sent_on, got_on, approximation, Channel, Port, Outside, Process}
use Rattle.protocol.specs.Node.Common.{SavedProcessView, ImageView, RecordView, ModeView}
use Rattle.protocol.specs.Node.Common.{RunningNode, running_in, running_of, received_of, sent_of}
use Rattle.protocol.specs.Node.Common.{SavedEnd, is_none, first_acts, has_process}
use Rattle.kahn_net.specs.Streams.{ArePrefixes}
use Rattle.kahn_net.specs.Common.{code_gets, HasPassingLoop, left_after, IsReached, Next, Gets, Puts, NoNext, next_of}
use Rattle.kahn_net.specs.Laws.Approximations.{next_histories_past, approximation_grows}
use Rattle.kahn_net.specs.Laws.Prefixes.{prefix_refl, prefix_nil, prefix_along}
use Rattle.kahn_net.specs.Laws.Streams.{longer_process, stands_on}
use Rattle.kahn_net.specs.Laws.Got.{reads}
use Rattle.kahn_net.specs.NextActs.{Begins}
use Rattle.kahn_net.specs.Laws.Rests.{IsStuck, acts_at_rest}
use Rattle.kahn_net.specs.Laws.Fixpoints.{put_so_far, put_by_now, put_by_now-at, put_by_now_past, prefix_whole}
use Rattle.kahn_net.specs.Laws.Fixpoints.{settled_is_reached, settled_rests}
use Rattle.protocol_laws.specs.Node.NumberedLaws.{where_there}
use Rattle.protocol_laws.specs.Node.PlaceLaws.{node_below}
use Rattle.protocol_laws.specs.Node.InnerLaws.{end_there, consumer_on, outer_within}
use Rattle.protocol_laws.specs.Node.LiftLaws.{act_count, on_next, acts_on_next}
use Rattle.protocol_laws.specs.Node.ReachedLaws.{input_stays, received_stands}
use Rattle.protocol_laws.specs.Node.ReleaseLaws.{acts_put_prefix}
use Rattle.protocol_laws.specs.Node.SentLaws.{sent_stands}
use Rattle.std.specs.List.{list_all}
use Rattle.protocol.specs.World.Common.{outputs_of, AreSound, IsNumbered, StationInvariant, WorldInvariant}
use Rattle.protocol.specs.World.Common.{OutputView, StationView, WorldView, HasCome, IsSound, are_quiet}
use Rattle.protocol_laws.specs.World.OutputLaws.{output_here}
use Rattle.protocol.specs.World.Quiet.{put_on_by, got_all, has_got_all, can_rest, is_at_rest}
use Rattle.protocol.specs.World.Quiet.{are_at_rest, has_been_put, have_been_put, have_all_left, is_quiet}
use Rattle.protocol.specs.World.Quiet.{is_quiet_at, is_quiet_of, is_node_quiet, AreAll, AreWhole}

-- What the tests say

-- a test by recursion that a list passes is passed by each element
each_passes : {A : Type 0} (test : A → Bool) (all : List A → Bool)
    → ((x : A) (xs : List A) → all (x ∷ xs) ≡ (test x && all xs)) → (xs : List A) (k : ℕ) (x : A)
    → IsTrue (all xs) → slice_get xs k ≡ Some x → IsTrue (test x)
each_passes test all step [] k x passes is = absurd cc
each_passes test all step (y ∷ xs) zero x passes is = grind (arith, step y xs)
each_passes test all step (y ∷ xs) (suc k) x passes is =
    each_passes test all step xs k x (and_parts (test y) (all xs) (rw step at passes)).1 is

-- each outlet has as many items as were put
pub left_at : (image : ImageView) (outputs : List OutputView) (j : ℕ) (output : OutputView)
    → IsTrue (have_all_left image outputs) → slice_get outputs j ≡ Some output
    → length output.taken ≡ sent_of image output.channel
left_at image outputs j output all is =
    eqb-true (length output.taken) (sent_of image output.channel)
    (each_passes (λ (o : OutputView). length o.taken == sent_of image o.channel) (have_all_left image) (λ x xs. refl)
    outputs j output all is)

-- where nothing is left to do at a node, its processes are at rest, what it received was put, and all that it put has
-- left
record IsAtEnd (net : Network) (inputs : List (List ℤ)) (stations : List StationView) (node : RunningNode)
    (outputs : List OutputView) : Type 0 where
  pub rest : IsTrue (are_at_rest net inputs stations node.current node.current.processes)
  pub put : IsTrue (have_been_put net stations node.current node.current.ends)
  pub left : IsTrue (have_all_left node.current outputs)

end_of_quiet : (net : Network) (inputs : List (List ℤ)) (stations : List StationView) (node : RunningNode)
    (outputs : List OutputView) → IsTrue (is_quiet net inputs stations node outputs)
    → IsAtEnd net inputs stations node outputs
end_of_quiet net inputs stations node outputs quiet =
    let all = (and_parts (is_none node.out) _ quiet).1 in
    let first = and_parts (have_all_left node.current outputs) _ all in
    let last = and_parts (are_at_rest net inputs stations node.current node.current.processes) _ first.1 in
    record { rest = last.0; put = last.1; left = first.0 }

-- and it runs
runs_there : (net : Network) (inputs : List (List ℤ)) (stations : List StationView) (o : Option RunningNode)
    (outputs : List OutputView) → IsTrue (is_quiet_at net inputs stations o outputs)
    → (node : RunningNode) × (o ≡ Some node) × IsAtEnd net inputs stations node outputs
runs_there net inputs stations None outputs quiet = absurd (cc)
runs_there net inputs stations (Some node) outputs quiet =
    (node, refl, end_of_quiet net inputs stations node outputs quiet)

-- so it is at each station
pub all_at : {A : Type 0} (test : A → Bool) (xs : List A) (k : ℕ) (x : A) → IsTrue (list_all test xs)
    → slice_get xs k ≡ Some x → IsTrue (test x)
all_at test xs k x all is = each_passes test (list_all test) (λ y ys. refl) xs k x all is

-- Where nothing is left to do in a world, nothing is at a node of it, so that it may be asked first.
pub quiet_first : (world : WorldView) (number : ℕ) → (is_node_quiet world number && are_quiet world) ≡ are_quiet world
quiet_first world number =
    both (is_node_quiet world number) (are_quiet world) (there (slice_get world.stations number) refl)
  where
    there : (o : Option StationView) → slice_get world.stations number ≡ o → IsTrue (are_quiet world)
        → IsTrue (is_quiet_of world o)
    there None is all = refl
    there (Some station) is all =
        all_at (λ (s : StationView). is_quiet_at world.net world.inputs world.stations (running_of s.node)
        (outputs_of s.outlets)) world.stations number station all is

    both : (one all : Bool) → (IsTrue all → IsTrue one) → (one && all) ≡ all
    both one all h = grind (arith, h)

-- One process of a node

-- On these histories a process of a node has made so many acts: it stands there in the node's image, which counts what
-- these acts got and put, and no more of an input than it has; and what has left of its outputs is a beginning of what
-- they put.
record ProcessStands (net : Network) (inputs histories : List (List ℤ)) (made p : ℕ) (image : ImageView)
    (outputs : List OutputView) : Type 0 where
  pub place : ℕ
  pub saved : SavedProcessView
  pub there : slice_get image.processes place ≡ Some saved
  pub number : saved.number ≡ p
  pub stands : (code : Code) → slice_get net.codes p ≡ Some code → StandsAt code histories made saved.standing
  pub received : (c : ℕ) (channel : Channel) → slice_get net.channels c ≡ Some channel → channel.consumer ≡ Process p
      → received_of image c ≡ length (got_on c (first_acts (slice_get net.codes p) histories made))
  pub sent : (c : ℕ) (channel : Channel) → slice_get net.channels c ≡ Some channel → channel.producer ≡ Process p
      → sent_of image c ≡ length (sent_on c (first_acts (slice_get net.codes p) histories made))
  pub few : (c : ℕ) (channel : Channel) → slice_get net.channels c ≡ Some channel → channel.producer ≡ Outside
      → channel.consumer ≡ Process p → received_of image c ≤ length (history_of inputs c)
  pub ends : (c : ℕ) (channel : Channel) → slice_get net.channels c ≡ Some channel → channel.consumer ≡ Process p
      → (k : ℕ) × (saved : SavedEnd) × (slice_get image.ends k ≡ Some saved) × (saved.channel ≡ c)
  pub released : (j : ℕ) (output : OutputView) (channel : Channel) → slice_get outputs j ≡ Some output
      → slice_get net.channels output.channel ≡ Some channel → channel.producer ≡ Process p
      → IsPrefix output.taken (sent_on output.channel (first_acts (slice_get net.codes p) histories made))

-- the same of the n-th approximation, whatever number of acts it is
abbrev HasMade : Network → List (List ℤ) → ℕ → ℕ → ImageView → List OutputView → Type 0
HasMade net inputs n p image outputs =
    (made : ℕ) × ProcessStands net inputs (approximation net inputs n) made p image outputs

module _ (net : Network) (inputs : List (List ℤ)) (valid : IsValid net) (fits : Fits net inputs) where
  -- so it is where the node is sound
  made_now : (node : RunningNode) (outputs : List OutputView) → IsSound net inputs node outputs
      → (come : HasCome net inputs node outputs) → (p : ℕ) → IsTrue (has_process net node.kept.node p)
      → HasMade net inputs come.reached.n p node.current outputs
  made_now node outputs sound come p own = (
    come.reached.current_acts p,
    record {
      place = saved_there.0;
      saved = saved_there.1;
      there = saved_there.2;
      number = saved_there.3;
      stands = λ code there. rw saved_there.3 at
          (come.reached.current.processes saved_there.0 saved_there.1 code saved_there.2 (rw saved_there.3 there));
      received =
          λ c channel is to. received_stands net node.kept.node (approximation net inputs come.reached.n)
          come.reached.current_acts node.current c p channel come.reached.current sound.kept.laid_out is to own;
      sent = λ c channel is from. sent_stands net node.kept.node (approximation net inputs come.reached.n)
          come.reached.current_acts node.current c p channel come.reached.current sound.kept.laid_out is from own;
      few = λ c channel is from to. outer_within net node.kept.node inputs node.current c p channel sound.kept.laid_out
          sound.kept.counts is from to own;
      ends = λ c channel is
          to. (let end =
          end_there net node.kept.node node.current c channel sound.kept.laid_out is
          (consumer_on net node.kept.node p channel to own) in (end.at, end.saved, end.entry, end.is_channel));
      released = λ j output channel. come.released j p output channel;
    },
  )
    where
      saved_there : (k : ℕ) × (saved : SavedProcessView) × (slice_get node.current.processes k ≡ Some saved)
          × (saved.number ≡ p)
      saved_there =
          let within : p < length net.codes = grind (arith, slice_get_within net.codes p) in
          where_there (λ (s : SavedProcessView). s.number) (has_process net node.kept.node) 0 (length net.codes) p
          node.current.processes sound.kept.laid_out.processes own (omega arith) (omega (arith, within))

  -- the acts are the same on the next approximation
  same_acts : (n made p : ℕ)
      → first_acts (slice_get net.codes p) (approximation net inputs (suc n))
      (on_next net (approximation net inputs n) (λ q. made) p)
      ≡ first_acts (slice_get net.codes p) (approximation net inputs n) made
  same_acts n made p = acts_on_next net inputs valid fits n (λ q. made) p

  made_next : (n p : ℕ) (image : ImageView) (outputs : List OutputView) → HasMade net inputs n p image outputs
      → HasMade net inputs (suc n) p image outputs
  made_next n p image outputs has = (
    on_next net (approximation net inputs n) (λ q. has.0) p,
    record {
      place = has.1.place;
      saved = has.1.saved;
      there = has.1.there;
      number = has.1.number;
      stands = λ code there. (
          let here = has.1.stands code there in
          let same : min has.0 (act_count (slice_get net.codes p) (approximation net inputs n)) ≡ has.0 =
          rw there (min-eq_left here.within) in
          rw same
          (stands_on code (approximation net inputs n) (approximation net inputs (suc n)) has.0 has.1.saved.standing
          (valid.codes p code there).passes (approximation_grows net valid inputs fits n) here));
      received = λ c channel is to. rw (same_acts n has.0 p) (has.1.received c channel is to);
      sent = λ c channel is from. rw (same_acts n has.0 p) (has.1.sent c channel is from);
      few = has.1.few;
      ends = has.1.ends;
      released = λ j output channel there is from. rw (same_acts n has.0 p) (has.1.released j output channel there is from);
    },
  )

  -- and on each later one
  made_later : (m k p : ℕ) (image : ImageView) (outputs : List OutputView) → HasMade net inputs m p image outputs
      → HasMade net inputs (m + k) p image outputs
  made_later m zero p image outputs has = let sum : m + 0 ≡ m = omega arith in rw sum has
  made_later m (suc k) p image outputs has =
      let sum : m + suc k ≡ suc (m + k) = omega arith in
      rw sum (made_next (m + k) p image outputs (made_later m k p image outputs has))

  -- All stations on one approximation

  -- each process of a station has come so far
  abbrev StationMade : StationView → ℕ → Type 0
  StationMade station n =
      (node : RunningNode) → running_of station.node ≡ Some node → (p : ℕ)
      → IsTrue (has_process net station.node.kept.node p)
      → HasMade net inputs n p node.current (outputs_of station.outlets)

  abbrev AllMade : List StationView → ℕ → Type 0
  AllMade stations n = (i : ℕ) (station : StationView) → slice_get stations i ≡ Some station → StationMade station n

  station_later : (station : StationView) (m n : ℕ) → m ≤ n → StationMade station m → StationMade station n
  station_later station m n later made node is p own =
      let sum : m + (n - m) ≡ n = omega (arith, later) in
      rw sum at (made_later m (n - m) p node.current (outputs_of station.outlets) (made node is p own))

  -- of one that runs the record is its own
  runs_with : (kept : RecordView) (version : ℕ) (m : ModeView) (node : RunningNode)
      → running_in kept version m ≡ Some node → node.kept ≡ kept
  runs_with kept version m node is = grind arith

  station_made : (station : StationView) → StationInvariant net inputs station → ∥ ((n : ℕ) × StationMade station n) ∥₁
  station_made station inv = at (running_of station.node) refl
    where
      at : (o : Option RunningNode) → running_of station.node ≡ o → ∥ ((n : ℕ) × StationMade station n) ∥₁
      at None off = ∣ (0, λ node is p own. absurd cc) ∣₁
      at (Some run) on =
          let home = runs_with station.node.kept station.node.version station.node.mode run on in
          ∥∥₁_map (inv.runs run on).sound.come (λ come. (
            come.reached.n,
            λ node is p own. (
                let same : run ≡ node = cc in
                rw (← same)
                (made_now run (outputs_of station.outlets) (inv.runs run on).sound come p (rw home own))),
          ))

  all_made_there : (stations : List StationView) → AreSound net inputs stations → ∥ ((n : ℕ) × AllMade stations n) ∥₁
  all_made_there [] sound = ∣ (0, λ i station is. absurd (cc)) ∣₁
  all_made_there (s ∷ stations) sound =
      ∥∥₁_map₂ (station_made s (sound 0 s refl)) (all_made_there stations (λ i station is. sound (suc i) station is))
      (λ one others. (one.0 + others.0, at one.0 others.0 one.1 others.1))
    where
      at : (m k : ℕ) → StationMade s m → AllMade stations k → AllMade (s ∷ stations) (m + k)
      at m k one others zero station is =
          let same : s ≡ station = cc in rw (← same) (station_later s m (m + k) (omega arith) one)
      at m k one others (suc i) station is = station_later station k (m + k) (omega arith) (others i station is)

  -- A world at rest

  module _ (stations : List StationView) (count : length stations ≡ node_count net) (numbered : IsNumbered stations)
      (sound : AreSound net inputs stations)
      (quiet : IsTrue
      (list_all
      (λ (station : StationView). is_quiet_at net inputs stations (running_of station.node)
      (outputs_of station.outlets)) stations)) (n : ℕ) (all : AllMade stations n) where
    -- the approximation on which all stand
    abbrev base : List (List ℤ)
    base = approximation net inputs n

    -- the node of a process runs, and the process has come there
    record Found (code : Code) (p made : ℕ) : Type 0 where
      pub station : StationView
      pub node : RunningNode
      pub here : slice_get stations code.node ≡ Some station
      pub runs : running_of station.node ≡ Some node
      pub ended : IsAtEnd net inputs stations node (outputs_of station.outlets)
      pub stands : ProcessStands net inputs base made p node.current (outputs_of station.outlets)

    found_at : (p : ℕ) (code : Code) → slice_get net.codes p ≡ Some code → (made : ℕ) × Found code p made
    found_at p code there = elim (slice_get_cases stations code.node).1 [
      | inl at ↦
          let home : code.node ≡ at.0.node.kept.node = sym (numbered code.node at.0 at.2).1 in
          let own : IsTrue (has_process net at.0.node.kept.node p) =
          rw there (eq-eqb code.node at.0.node.kept.node home) in
          let run = runs_there net inputs stations (running_of at.0.node) (outputs_of at.0.outlets)
          (all_at (λ (s : StationView). is_quiet_at net inputs stations (running_of s.node) (outputs_of s.outlets))
          stations code.node at.0 quiet at.2) in
          let made = all code.node at.0 at.2 run.0 run.1 p own in (
            made.0,
            record { station = at.0; node = run.0; here = at.2; runs = run.1; ended = run.2; stands = made.1 },
          )
      | inr past ↦ absurd (let few = node_below net p code there in omega (arith, few, count, past.0))
    ]

    found_of : (p : ℕ) → (made : ℕ) × ((code : Code) → slice_get net.codes p ≡ Some code → Found code p made)
    found_of p = at (slice_get net.codes p) refl
      where
        at : (o : Option Code) → slice_get net.codes p ≡ o
            → (made : ℕ) × ((code : Code) → slice_get net.codes p ≡ Some code → Found code p made)
        at None none = (0, λ code there. absurd cc)
        at (Some x) is = (
          (found_at p x is).0,
          λ code there. (let same : x ≡ code = cc in rw (← same) (found_at p x is).1),
        )

    -- how many acts each process has made, and which
    abbrev made_by : ℕ → ℕ
    made_by p = (found_of p).0

    abbrev made : ℕ → List Step
    made p = first_acts (slice_get net.codes p) base (made_by p)

    found : (p : ℕ) (code : Code) → slice_get net.codes p ≡ Some code → Found code p (made_by p)
    found p code there = (found_of p).1 code there

    -- what is on each channel by now
    abbrev now : List (List ℤ)
    now = put_by_now net inputs made

    -- the next approximation has that, and may have more
    now_within : ArePrefixes now (approximation net inputs (suc n))
    now_within = record {
      at = λ c. elim (slice_get_cases net.channels c).1 [
        | inl here ↦ prefix_along _ _ _ _ (put_by_now-at net inputs made c here.0 here.2) refl
            (by_port c here.0 here.2 here.0.producer refl)
        | inr past ↦ prefix_nil _ _ (put_by_now_past net inputs made c past.0)
      ];
    }
      where
        by_port : (c : ℕ) (channel : Channel) → slice_get net.channels c ≡ Some channel → (port : Port)
            → channel.producer ≡ port
            → IsPrefix (put_so_far inputs made c port) (history_of (approximation net inputs (suc n)) c)
        by_port c channel is Outside from =
            rw (input_stays net inputs (suc n) c channel is from) (prefix_refl (history_of inputs c))
        by_port c channel is (Process p) from = acts_put_prefix net inputs n made_by c p channel is from

    -- what the tests count as put on a channel is what its process put
    put_counts : (c q : ℕ) (channel : Channel) → slice_get net.channels c ≡ Some channel → channel.producer ≡ Process q
        → put_on_by stations c (slice_get net.codes q) ≡ length (sent_on c (made q))
    put_counts c q channel is from = elim (slice_get_cases net.codes q).1 [
      | inl there ↦
          let f = found q there.0 there.2 in
          ap (put_on_by stations c) there.2 ∙ rw (f.here, f.runs) (f.stands.sent c channel is from)
      | inr past ↦ absurd (let below = valid.producer_is_here c q channel is from in omega (arith, below, past.0))
    ]

    -- A process of the network

    module _ (p : ℕ) (code : Code) (there : slice_get net.codes p ≡ Some code) where
      abbrev passing : HasPassingLoop code
      passing = (valid.codes p code there).passes

      abbrev f : Found code p (made_by p)
      f = found p code there

      abbrev image : ImageView
      image = f.node.current

      stands_here : StandsAt code base (made_by p) f.stands.saved.standing
      stands_here = f.stands.stands code there

      -- its acts are the same on the next approximation
      made_there : take (made_by p) (process_trace code (approximation net inputs (suc n))).steps ≡ made p
      made_there =
          let longer =
          longer_process code base (approximation net inputs (suc n)) passing
          (approximation_grows net valid inputs fits n) in
          rw (there, longer.steps)
          (take-append-le (made_by p) (process_trace code base).steps longer.more stands_here.within)

      -- it got of a channel as many items as its image counts
      got_there : (c : ℕ) (channel : Channel) → slice_get net.channels c ≡ Some channel → IsTrue (code_gets c code)
          → received_of image c ≡ length (got_on c (made p))
      got_there c channel is gets = f.stands.received c channel is ((valid.consumer c p channel code is there).0 gets)

      -- and no more than is there
      got_few : (c : ℕ) → IsTrue (code_gets c code) → length (got_on c (made p)) ≤ length (history_of now c)
      got_few c gets = elim (slice_get_cases net.channels c).1 [
        | inl here ↦
            let count = got_there c here.0 here.2 gets in
            let few = by_port here.0 here.2 here.0.producer refl in
            rw (put_by_now-at net inputs made c here.0 here.2) (omega (arith, count, few))
        | inr past ↦ let none = no_channel past.0 in omega (arith, none)
      ]
        where
          by_port : (channel : Channel) → slice_get net.channels c ≡ Some channel → (port : Port)
              → channel.producer ≡ port → received_of image c ≤ length (put_so_far inputs made c port)
          by_port channel is Outside from =
              f.stands.few c channel is from ((valid.consumer c p channel code is there).0 gets)
          by_port channel is (Process q) from =
              let end = f.stands.ends c channel is ((valid.consumer c p channel code is there).0 gets) in
              let test = each_passes
              (λ (s : SavedEnd). has_been_put net stations image s.channel (slice_get net.channels s.channel))
              (have_been_put net stations image) (λ x xs. refl) image.ends end.0 end.1 f.ended.put end.2 in
              let few = leb-true (received_of image c) (put_on_by stations c (slice_get net.codes q))
              (rw (end.3, is, from) at test) in
              let put = put_counts c q channel is from in
              omega (arith, few, put)

          -- of a channel that isn't there nothing is got
          no_channel : length net.channels ≤ c → length (got_on c (made p)) ≡ 0
          no_channel past =
              let steps = take (made_by p) (process_trace code (approximation net inputs (suc n))).steps in
              let left = history_of (left_after steps (approximation net inputs (suc n))) c in
              let front : [] ≡ got_on c steps ++ left =
              sym (next_histories_past net inputs base c past)
              ∙ reads code (approximation net inputs (suc n)) (made_by p) c in
              let count : 0 ≡ length (got_on c steps ++ left) = rw (← front) in
              let sum = length-append (got_on c steps) left in
              let none : length (got_on c steps) ≡ 0 = omega (arith, count, sum) in
              rw made_there at none

      -- where it can rest, it is stuck on what is there by now
      stuck : (next : Next) → IsTrue (can_rest net inputs stations image next) → IsStuck code now (made p) next
      stuck Begins rest = absurd (cc)
      stuck (Puts c) rest = absurd (cc)
      stuck NoNext rest = tt
      stuck (Gets c) rest = by_channel (slice_get net.channels c) refl rest
        where
          by_port : (channel : Channel) → slice_get net.channels c ≡ Some channel → (port : Port)
              → channel.producer ≡ port → IsTrue (got_all net inputs stations image c port)
              → received_of image c ≡ length (put_so_far inputs made c port)
          by_port channel is Outside from all = eqb-true (received_of image c) (length (history_of inputs c)) all
          by_port channel is (Process q) from all =
              eqb-true (received_of image c) (put_on_by stations c (slice_get net.codes q)) all
              ∙ put_counts c q channel is from

          by_channel : (o : Option Channel) → slice_get net.channels c ≡ o
              → IsTrue (has_got_all net inputs stations image c o) → IsTrue (code_gets c code)
              → length (history_of now c) ≤ length (got_on c (made p))
          by_channel None is all gets = absurd (cc)
          by_channel (Some channel) is all gets =
              let count = got_there c channel is gets in
              let got = by_port channel is channel.producer refl all in
              let put : length (history_of now c) ≡ length (put_so_far inputs made c channel.producer) =
              ap (length {A = ℤ}) (put_by_now-at net inputs made c channel is) in
              omega (arith, count, got, put)

      -- so it makes on that the acts that it has made, and no more
      all_made : (process_trace code now).steps ≡ made p
      all_made =
          let standing = f.stands.saved.standing in
          let can : IsTrue (can_rest net inputs stations image (next_of code standing)) =
          rw (f.stands.number, there) at
          (each_passes (is_at_rest net inputs stations image) (are_at_rest net inputs stations image) (λ x xs. refl)
          image.processes f.stands.place f.stands.saved f.ended.rest f.stands.there) in
          acts_at_rest code now (approximation net inputs (suc n)) (made_by p) standing passing now_within
          (stands_on code base (approximation net inputs (suc n)) (made_by p) standing passing
          (approximation_grows net valid inputs fits n) stands_here)
          (λ c gets. rw made_there (got_few c gets)) (rw made_there (stuck (next_of code standing) can))
          ∙ made_there

    -- The network

    -- what is on each channel by now is the approximation at which they rest
    settled : approximation net inputs (suc n) ≡ now
    settled = settled_is_reached net inputs made valid fits (λ p code there. all_made p code there) n now_within

    -- an output that has all that was put has its channel's history there
    taken_whole : (i : ℕ) (station : StationView) → slice_get stations i ≡ Some station
        → AreAll net inputs (outputs_of station.outlets) (suc n)
    taken_whole i station at j output is =
        let there =
        output_here net station.node.kept.node (outputs_of station.outlets) (sound i station at).kept.listed j
        output is in
        elim (slice_get_cases net.codes there.process).1 [
          | inl code ↦
              let f = found there.process code.0 code.2 in
              let on : code.0.node ≡ station.node.kept.node =
              eqb-true code.0.node station.node.kept.node (rw code.2 at there.here) in
              let place : code.0.node ≡ i = on ∙ (numbered i station at).1 in
              let same : f.station ≡ station = cc in
              let has : slice_get (outputs_of f.station.outlets) j ≡ Some output = rw same is in
              let count = left_at f.node.current (outputs_of f.station.outlets) j output f.ended.left has in
              let put = f.stands.sent output.channel there.channel there.there there.producer in
              rw (settled, put_by_now-at net inputs made output.channel there.channel there.there, there.producer)
              (prefix_whole output.taken (sent_on output.channel (made there.process))
              (f.stands.released j output there.channel has there.there there.producer) (omega (arith, count, put)))
          | inr past ↦ absurd (let below =
              valid.producer_is_here output.channel there.process there.channel there.there there.producer in
              omega (arith, below, past.0))
        ]

    whole_there : (m : ℕ) × IsReached net inputs m
        × ((i : ℕ) (station : StationView) → slice_get stations i ≡ Some station
        → AreAll net inputs (outputs_of station.outlets) m)
    whole_there = (
      suc n,
      settled_rests net inputs made valid fits (λ p code there. all_made p code there) n now_within,
      taken_whole,
    )

-- where nothing is left to do in a world, the streams that left are whole
pub quiet_is_whole : (world : WorldView) → WorldInvariant world → IsTrue (are_quiet world) → AreWhole world
quiet_is_whole world inv quiet =
    ∥∥₁_map (all_made_there world.net world.inputs inv.valid inv.fits world.stations inv.stations)
    (λ all. whole_there world.net world.inputs inv.valid inv.fits world.stations inv.count inv.numbered inv.stations
    quiet all.0 all.1)
