-- Laws of the ends of a channel by where its items come from: an input's counts, and those of a channel that stays on
-- the node.
use Rattle.std.proofs.Common.{◌≡◌, ℕ, ◌+◌, ◌<◌, ◌≤◌, Bool, true, false, List, ℤ, length, Some, refl, sym, ap, subst}
use Rattle.std.proofs.Common.{◌∙◌, arith}
use Rattle.std.specs.Prelude.{slice_get, IsTrue, ◌||◌}
use Rattle.std.proofs.lemmas.Option.{slice_get_within}
use Rattle.protocol.specs.Node.Common.{history_of, Network, Channel, Port, Outside, Process, LogState, IsInLog}
use Rattle.protocol.specs.Node.Common.{ImageView, end_of, received_at, received_of, SavedEnd, End, Receives, Sends}
use Rattle.protocol.specs.Node.Common.{Both, role_of, has_process, has_end, port_on, role_by, is_counting, IsLaidOut}
use Rattle.protocol.specs.Node.Common.{CountIsWithin, CountsAreWithin, is_logging}
use Rattle.protocol.specs.Node.Layout.{channel_on, role_here}
use Rattle.protocol_laws.specs.Node.ImageLaws.{end_at, entry_of}
use Rattle.protocol_laws.specs.Node.NumberedLaws.{where_there}

-- what an image has of a channel of which its node has an end
pub record EndOf (net : Network) (home : ℕ) (image : ImageView) (c : ℕ) (channel : Channel) : Type 0 where
  pub end : End
  pub there : end_of image c ≡ Some end
  pub role : role_of end ≡ role_here net home channel
  pub at : ℕ
  pub saved : SavedEnd
  pub entry : slice_get image.ends at ≡ Some saved
  pub is_end : saved.end ≡ end
  pub is_channel : saved.channel ≡ c

pub end_there : (net : Network) (home : ℕ) (image : ImageView) (c : ℕ) (channel : Channel) → IsLaidOut net home image
    → slice_get net.channels c ≡ Some channel → IsTrue (channel_on net home (Some channel))
    → EndOf net home image c channel
end_there net home image c channel laid is on =
    let below : c < 0 + length net.channels =
    (let within = slice_get_within net.channels c channel is in omega (arith, within)) in
    let found =
    where_there (λ (s : SavedEnd). s.channel) (has_end net home) 0 (length net.channels) c image.ends laid.ends
    (ap (channel_on net home) is ∙ on) (omega arith) below in
    record {
      end = found.1.end;
      there = ap (end_of image) (sym found.3) ∙ end_at net home image found.0 found.1 laid found.2;
      role = laid.roles found.0 found.1 channel found.2 (ap (slice_get net.channels) found.3 ∙ is);
      at = found.0;
      saved = found.1;
      entry = found.2;
      is_end = refl;
      is_channel = found.3;
    }

-- where a process of the node gets from the channel, or puts on it, the node has an end of it
gets_on : (puts gets : Bool) → gets ≡ true → (puts || gets) ≡ true
gets_on true gets is = refl
gets_on false gets is = is

pub consumer_on : (net : Network) (home p : ℕ) (channel : Channel) → channel.consumer ≡ Process p
    → IsTrue (has_process net home p) → IsTrue (channel_on net home (Some channel))
consumer_on net home p channel to here =
    gets_on (port_on net home channel.producer) (port_on net home channel.consumer) (ap (port_on net home) to ∙ here)

pub producer_on : (net : Network) (home p : ℕ) (channel : Channel) → channel.producer ≡ Process p
    → IsTrue (has_process net home p) → IsTrue (channel_on net home (Some channel))
producer_on net home p channel from here =
    ap (λ (b : Bool). b || port_on net home channel.consumer) (ap (port_on net home) from ∙ here)

-- an end at which a process of the node gets counts, and one at which one puts has a log
counts_by : (end : End) (puts : Bool) → role_of end ≡ role_by puts true → is_counting end ≡ true
counts_by (Receives received) puts role = refl
counts_by (Sends log) true role = absurd (cc)
counts_by (Sends log) false role = absurd (cc)
counts_by (Both received log) puts role = refl

pub counts_there : (net : Network) (home p : ℕ) (channel : Channel) (end : End) → channel.consumer ≡ Process p
    → IsTrue (has_process net home p) → role_of end ≡ role_here net home channel → is_counting end ≡ true
counts_there net home p channel end to here role =
    counts_by end (port_on net home channel.producer)
    (role ∙ ap (role_by (port_on net home channel.producer)) (ap (port_on net home) to ∙ here))

logs_by : (end : End) (gets : Bool) → role_of end ≡ role_by true gets → is_logging end ≡ true
logs_by (Receives received) true role = absurd (cc)
logs_by (Receives received) false role = absurd (cc)
logs_by (Sends log) gets role = refl
logs_by (Both received log) gets role = refl

pub logs_there : (net : Network) (home p : ℕ) (channel : Channel) (end : End) → channel.producer ≡ Process p
    → IsTrue (has_process net home p) → role_of end ≡ role_here net home channel → is_logging end ≡ true
logs_there net home p channel end from here role =
    logs_by end (port_on net home channel.consumer)
    (role ∙ ap (λ (b : Bool). role_by b (port_on net home channel.consumer)) (ap (port_on net home) from ∙ here))

-- and its count is within what there is
pub count_there : (net : Network) (home : ℕ) (inputs : List (List ℤ)) (image : ImageView) (c : ℕ) (channel : Channel)
    → CountsAreWithin net inputs image → (of : EndOf net home image c channel) → CountIsWithin net inputs c of.end
count_there net home inputs image c channel counts of =
    subst (λ (d : ℕ). CountIsWithin net inputs d of.end) of.is_channel
    (subst (CountIsWithin net inputs of.saved.channel) of.is_end (counts of.at of.saved of.entry))

-- no more was received of an input than it has
outer_count : (net : Network) (inputs : List (List ℤ)) (c : ℕ) (channel : Channel) (gets : Bool) (end : End)
    → slice_get net.channels c ≡ Some channel → channel.producer ≡ Outside → role_of end ≡ role_by false gets
    → CountIsWithin net inputs c end
    → received_at (Some end) ≤ length (history_of inputs c)
outer_count net inputs c channel gets (Receives received) is from role within =
    within.of_input channel received is from refl
outer_count net inputs c channel gets (Sends log) is from role within = absurd (cc)
outer_count net inputs c channel gets (Both received log) is from role within = absurd (cc)

pub outer_within : (net : Network) (home : ℕ) (inputs : List (List ℤ)) (image : ImageView) (c p : ℕ)
    (channel : Channel) → IsLaidOut net home image → CountsAreWithin net inputs image
    → slice_get net.channels c ≡ Some channel
    → channel.producer ≡ Outside → channel.consumer ≡ Process p → IsTrue (has_process net home p)
    → received_of image c ≤ length (history_of inputs c)
outer_within net home inputs image c p channel laid counts is from to here =
    let of = end_there net home image c channel laid is (consumer_on net home p channel to here) in
    let role : role_of of.end ≡ role_by false (port_on net home channel.consumer) =
    of.role ∙ ap (λ (port : Port). role_by (port_on net home port) (port_on net home channel.consumer)) from in
    let few =
    outer_count net inputs c channel (port_on net home channel.consumer) of.end is from role
    (count_there net home inputs image c channel counts of) in
    let same : received_of image c ≡ received_at (Some (of.end)) = ap received_at of.there in
    omega (arith, few, same)

-- A channel between two processes of the node: what was received of it is in its log.
pub record StaysHere (image : ImageView) (c : ℕ) : Type 0 where
  pub received : ℕ
  pub log : LogState
  pub there : end_of image c ≡ Some (Both received log)
  pub within : IsInLog log received

both_there : (net : Network) (inputs : List (List ℤ)) (image : ImageView) (c : ℕ) (end : End)
    → end_of image c ≡ Some end → role_of end ≡ 2 → CountIsWithin net inputs c end → StaysHere image c
both_there net inputs image c (Receives received) there role within = absurd (cc)
both_there net inputs image c (Sends log) there role within = absurd (cc)
both_there net inputs image c (Both received log) there role within =
    record { received = received; log = log; there = there; within = within.in_log received log refl }

pub inner_there : (net : Network) (home : ℕ) (inputs : List (List ℤ)) (image : ImageView) (c p q : ℕ)
    (channel : Channel) → IsLaidOut net home image → CountsAreWithin net inputs image
    → slice_get net.channels c ≡ Some channel
    → channel.producer ≡ Process p → IsTrue (has_process net home p) → channel.consumer ≡ Process q
    → IsTrue (has_process net home q) → StaysHere image c
inner_there net home inputs image c p q channel laid counts is from puts to gets =
    let of = end_there net home image c channel laid is (producer_on net home p channel from puts) in
    both_there net inputs image c of.end of.there
    (of.role
    ∙ (ap (λ (b : Bool). role_by b (port_on net home channel.consumer)) (ap (port_on net home) from ∙ puts)
    ∙ ap (role_by true) (ap (port_on net home) to ∙ gets)))
    (count_there net home inputs image c channel counts of)

-- a channel that goes elsewhere has no end that receives what it sends
not_both : (puts : Bool) → ¬ (2 ≡ role_by puts false)
not_both true e = absurd (cc)
not_both false e = absurd (cc)

pub output_apart : (net : Network) (home : ℕ) (image : ImageView) (c received : ℕ) (channel : Channel) (log : LogState)
    → IsLaidOut net home image → slice_get net.channels c ≡ Some channel → port_on net home channel.consumer ≡ false
    → ¬ (end_of image c ≡ Some (Both received log))
output_apart net home image c received channel log laid is away both =
    let entry = entry_of image c (Both received log) both in
    let role = laid.roles entry.place entry.saved channel entry.is (ap (slice_get net.channels) entry.channel ∙ is) in
    not_both (port_on net home channel.producer)
    (sym (ap role_of entry.is_end) ∙ (role ∙ ap (role_by (port_on net home channel.producer)) away))
