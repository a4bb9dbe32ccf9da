-- When nothing is left to do in a world on later inputs.
use Rattle.std.proofs.Common.{◌≡◌, ℕ, zero, suc, ◌≤◌, Bool, false, ◌&&◌, ℤ, List, [], ◌∷◌, length, Option, Some, None}
use Rattle.std.proofs.Common.{refl, sym, ap, subst, ◌∙◌, arith}
use Rattle.std.specs.List.{list_all}
use Rattle.std.specs.Prelude.{◌==◌, IsTrue, slice_get}
use Rattle.std.proofs.lemmas.Bool.{eqb-true}
use Rattle.kahn_net.specs.Common.{Gets, Next, NoNext, Puts}
use Rattle.kahn_net.specs.Laws.Fixpoints.{prefix_whole}
use Rattle.kahn_net.specs.Laws.Prefixes.{prefix_length}
use Rattle.kahn_net.specs.NextActs.{Begins}
use Rattle.kahn_net.specs.Streams.{ArePrefixes}
use Rattle.protocol.specs.Node.Choosing.{next_at}
use Rattle.protocol.specs.Node.Common.{Both, Channel, CountIsWithin, CountsAreWithin, End, end_of, history_of}
use Rattle.protocol.specs.Node.Common.{ImageView, is_none, IsLaidOut, Network, Outside, Port, port_on, received_at}
use Rattle.protocol.specs.Node.Common.{received_of, Receives, role_by, role_of, RunningNode, running_of}
use Rattle.protocol.specs.Node.Common.{SavedProcessView, Sends}
use Rattle.protocol.specs.World.Common.{are_quiet, IsSound, outputs_of, OutputView, StationView, WorldInvariant}
use Rattle.protocol.specs.World.Common.{WorldView}
use Rattle.protocol.specs.World.Quiet.{are_at_rest, can_rest, has_got_all, have_all_left, have_been_put, is_at_rest}
use Rattle.protocol.specs.World.Quiet.{is_quiet, is_quiet_at}
use Rattle.protocol_laws.specs.Node.ImageLaws.{entry_of}
use Rattle.protocol_laws.specs.World.QuietLaws.{all_at}
use Rattle.growing.specs.LaterInputs.{AreLaterInputs, NoneWaitsForMore, with_inputs}
use Rattle.growing.specs.Laws.{QuietWhereNoneWaits}

-- two tests that agree on each element of a list
tests_agree : {A : Type 0} (one other : A → Bool) (xs : List A)
    → ((k : ℕ) (x : A) → slice_get xs k ≡ Some x → one x ≡ other x) → list_all one xs ≡ list_all other xs
tests_agree one other [] agree = refl
tests_agree one other (x ∷ xs) agree =
    ap (λ (b : Bool). b && list_all one xs) (agree zero x refl)
    ∙ ap (λ (b : Bool). other x && b) (tests_agree one other xs (λ k. agree (suc k)))

-- all processes are at rest where each of them is
rest_is_all : (net : Network) (inputs : List (List ℤ)) (stations : List StationView) (image : ImageView)
    (processes : List SavedProcessView)
    → are_at_rest net inputs stations image processes ≡ list_all (is_at_rest net inputs stations image) processes
rest_is_all net inputs stations image [] = refl
rest_is_all net inputs stations image (saved ∷ processes) =
    ap (λ (b : Bool). is_at_rest net inputs stations image saved && b)
    (rest_is_all net inputs stations image processes)

-- of the four things that make a node quiet, the third
rest_of_quiet : (out left rest put : Bool) → IsTrue (out && (left && (rest && put))) → IsTrue rest
rest_of_quiet out left rest put quiet = grind (arith, quiet)

-- ---- where no process waits for more, it is all the same

module _ (world : WorldView) (inputs : List (List ℤ)) (none : NoneWaitsForMore world inputs) where
  same_received : (image : ImageView) (c : ℕ) (o : Option Channel)
      → ((channel : Channel) → o ≡ Some channel → channel.producer ≡ Outside
      → history_of inputs c ≡ history_of world.inputs c)
      → has_got_all world.net inputs world.stations image c o
      ≡ has_got_all world.net world.inputs world.stations image c o
  same_received image c None same = refl
  same_received image c (Some channel) same = let outside = same channel refl in grind (arith, outside)

  same_can_rest : (image : ImageView) (next : Next)
      → ((c : ℕ) (channel : Channel) → next ≡ Gets c → slice_get world.net.channels c ≡ Some channel
      → channel.producer ≡ Outside → history_of inputs c ≡ history_of world.inputs c)
      → can_rest world.net inputs world.stations image next ≡ can_rest world.net world.inputs world.stations image next
  same_can_rest image Begins same = refl
  same_can_rest image (Gets c) same =
      same_received image c (slice_get world.net.channels c) (λ channel. same c channel refl)
  same_can_rest image (Puts c) same = refl
  same_can_rest image NoNext same = refl

  same_quiet_at : (i : ℕ) (station : StationView) → slice_get world.stations i ≡ Some station → (o : Option RunningNode)
      → running_of station.node ≡ o → (outputs : List OutputView)
      → is_quiet_at world.net inputs world.stations o outputs
      ≡ is_quiet_at world.net world.inputs world.stations o outputs
  same_quiet_at i station there None runs outputs = refl
  same_quiet_at i station there (Some node) runs outputs =
      ap (λ (rest : Bool). is_none node.out && (have_all_left node.current outputs
      && (rest && have_been_put world.net world.stations node.current node.current.ends)))
      (rest_is_all world.net inputs world.stations node.current node.current.processes
      ∙ (tests_agree _ _ node.current.processes (λ k saved is. same_can_rest node.current
      (next_at (slice_get world.net.codes saved.number) saved.standing)
      (λ c channel gets. none i k c station node saved channel there runs is gets))
      ∙ sym (rest_is_all world.net world.inputs world.stations node.current node.current.processes)))

  same_quiet : are_quiet (with_inputs inputs world) ≡ are_quiet world
  same_quiet =
      tests_agree _ _ world.stations
      (λ i station there. same_quiet_at i station there (running_of station.node) refl (outputs_of station.outlets))

-- ---- where nothing is left to do on later inputs, nobody waits for one that has got more

module _ (net : Network) (home : ℕ) (before after : List (List ℤ)) (longer : ArePrefixes before after)
    (image : ImageView) (laid : IsLaidOut net home image) (counts : CountsAreWithin net before image) (c : ℕ)
    (channel : Channel) (there : slice_get net.channels c ≡ Some channel) (outside : channel.producer ≡ Outside) where
  -- what its image received of an input there was before
  received_before : received_of image c ≤ length (history_of before c)
  received_before = at (end_of image c) refl
    where
      counted : (end : End) → role_of end ≡ role_by false (port_on net home channel.consumer)
          → CountIsWithin net before c end → received_at (Some end) ≤ length (history_of before c)
      counted (Receives received) role within = within.of_input channel received there outside refl
      counted (Sends log) role within = absurd (cc)
      counted (Both received log) role within = absurd (cc)

      at : (o : Option End) → end_of image c ≡ o → received_at o ≤ length (history_of before c)
      at None is = omega arith
      at (Some end) is =
          let entry = entry_of image c end is in
          let role =
          laid.roles entry.place entry.saved channel entry.is (ap (slice_get net.channels) entry.channel ∙ there) in
          let by_ports : role_of end ≡ role_by false (port_on net home channel.consumer) =
          ap role_of (sym entry.is_end)
          ∙ (role ∙ ap (λ (port : Port). role_by (port_on net home port) (port_on net home channel.consumer))
          outside) in
          counted end by_ports
          (subst (CountIsWithin net before c) entry.is_end
          (subst (λ (d : ℕ). CountIsWithin net before d entry.saved.end) entry.channel
          (counts entry.place entry.saved entry.is)))

  -- so where it received all that there is now, no more has come
  none_came : IsTrue (received_of image c == length (history_of after c)) → history_of after c ≡ history_of before c
  none_came all =
      let received = eqb-true (received_of image c) (length (history_of after c)) all in
      let few = received_before in
      let more = prefix_length _ _ (longer.at c) in
      sym (prefix_whole (history_of before c) (history_of after c) (longer.at c) (omega (arith, received, few, more)))

module _ (world : WorldView) (inputs : List (List ℤ)) (inv : WorldInvariant world)
    (later : AreLaterInputs world.net world.inputs inputs) (quiet : IsTrue (are_quiet (with_inputs inputs world))) where
  none_waits : NoneWaitsForMore world inputs
  none_waits i k c station node saved channel there runs is gets on outside =
      none_came world.net node.kept.node world.inputs inputs later.longer node.current sound.kept.laid_out
      sound.kept.counts c channel on outside received_all
    where
      sound : IsSound world.net world.inputs node (outputs_of station.outlets)
      sound = ((inv.stations i station there).runs node runs).sound

      quiet_here : IsTrue (is_quiet world.net inputs world.stations node (outputs_of station.outlets))
      quiet_here =
          ap (λ (o : Option RunningNode). is_quiet_at world.net inputs world.stations o (outputs_of station.outlets))
          (sym runs)
          ∙ all_at (λ (s : StationView). is_quiet_at world.net inputs world.stations (running_of s.node)
          (outputs_of s.outlets)) world.stations i station quiet there

      rests : IsTrue (is_at_rest world.net inputs world.stations node.current saved)
      rests =
          all_at (is_at_rest world.net inputs world.stations node.current) node.current.processes k saved
          (sym (rest_is_all world.net inputs world.stations node.current node.current.processes)
          ∙ rest_of_quiet (is_none node.out) (have_all_left node.current (outputs_of station.outlets))
          (are_at_rest world.net inputs world.stations node.current node.current.processes)
          (have_been_put world.net world.stations node.current node.current.ends) quiet_here) is

      received_all : IsTrue (received_of node.current c == length (history_of inputs c))
      received_all = grind (arith, rests, gets, on, outside)

pub quiet_where_none_waits : QuietWhereNoneWaits
quiet_where_none_waits world inputs inv later = (
  λ quiet. (let none = none_waits world inputs inv later quiet in (sym (same_quiet world inputs none) ∙ quiet, none)),
  λ before. same_quiet world inputs before.1 ∙ before.0,
)
