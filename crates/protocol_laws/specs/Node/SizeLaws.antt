-- Laws of sizes: an image of a valid network whose logs keep to their share is within bounds, so that a record of two
-- such images fits.
use Rattle.std.proofs.Common.{◌≡◌, ℕ, suc, ◌+◌, ◌<◌, ◌≤◌, Bool, true, false, cond, ℤ, List, [], ◌∷◌, ◌++◌, length}
use Rattle.std.proofs.Common.{length-append, Some, arith}
use Rattle.std.specs.Prelude.{slice_get, nat_lt}
use Rattle.std.proofs.Math.Logic.{∥∥₁_elim}
use Rattle.std.proofs.Math.Bridge.{le_prop}
use Rattle.std.proofs.lemmas.List.{length-replicate}
use Rattle.protocol.specs.Node.Common.{Network, Standing, At, IsValid, approximation, MAX_NODES, SavedProcessView}
use Rattle.protocol.specs.Node.Common.{ImageView, RecordView, SavedEnd, variables_of, DecisionView, highest_seen}
use Rattle.protocol.specs.Node.Common.{with_decision, MAX_DECISIONS, MAX_RETAINED_ITEMS, RunningNode, HasReached}
use Rattle.protocol.specs.Node.Common.{ImageStands, IsLaidOut, LogsAreWithin, opening_image, opening_record}
use Rattle.protocol.specs.Node.Common.{has_process, has_end}
use Rattle.record.specs.Common.{NotBegun, Done, MAX_REPEATS}
use Rattle.ckpt_codec.specs.Common.{MAX_VARIABLES, decided_below, decided_by}
use Rattle.ckpt_codec.specs.SizeLaws.{IsImageWithin, IsRecordWithin, within_tentative, within_decision, left_of}
use Rattle.protocol.specs.Node.Starting.{with_own}
use Rattle.protocol_laws.specs.Node.OpeningLaws.{reached_opening, laid_out_opening, logs_opening}
use Rattle.protocol_laws.specs.Node.NumberedLaws.{where_count}
use Rattle.protocol_laws.specs.Node.SharingLaws.{items_fit}
use Rattle.protocol_laws.specs.Node.LikeLaws.{HasShortSite, standing_short}

-- each process of an image that stands there has no more variables than a network allows
variables_few : (net : Network) (home : ℕ) (histories : List (List ℤ)) (made : ℕ → ℕ) (image : ImageView) → IsValid net
    → IsLaidOut net home image → ImageStands net histories made image
    → (k : ℕ) (saved : SavedProcessView) → slice_get image.processes k ≡ Some saved
    → length (variables_of saved.standing) ≤ MAX_VARIABLES
variables_few net home histories made image valid laid stands k saved is =
    (standing_short net home histories made image valid laid stands k saved is).variables

-- and no more repetitions round where it stands
depth_few : (standing : Standing) → HasShortSite standing → length (left_of standing) ≤ MAX_REPEATS
depth_few (NotBegun vars) short = omega arith
depth_few (At point vars) short = short.1.count
depth_few (Done vars) short = omega arith

repeats_few : (net : Network) (home : ℕ) (histories : List (List ℤ)) (made : ℕ → ℕ) (image : ImageView) → IsValid net
    → IsLaidOut net home image → ImageStands net histories made image
    → (k : ℕ) (saved : SavedProcessView) → slice_get image.processes k ≡ Some saved
    → length (left_of saved.standing) ≤ MAX_REPEATS
repeats_few net home histories made image valid laid stands k saved is =
    depth_few saved.standing (standing_short net home histories made image valid laid stands k saved is).site

-- an image of a valid network, whose logs keep to their share, is within the bounds of which a record holds two
pub image_within : (net : Network) (home : ℕ) (histories : List (List ℤ)) (made : ℕ → ℕ) (image : ImageView)
    → IsValid net → IsLaidOut net home image → ImageStands net histories made image → LogsAreWithin image
    → IsImageWithin MAX_RETAINED_ITEMS image
image_within net home histories made image valid laid stands logs =
    let processes =
    where_count (λ (s : SavedProcessView). s.number) (has_process net home) 0 (length net.codes) image.processes
    laid.processes in
    let ends =
    where_count (λ (s : SavedEnd). s.channel) (has_end net home) 0 (length net.channels) image.ends laid.ends in
    let codes = valid.process_count in
    let channels = valid.channel_count in
    record {
      processes = omega (arith, processes, codes);
      variables = variables_few net home histories made image valid laid stands;
      passes = repeats_few net home histories made image valid laid stands;
      ends = omega (arith, ends, channels);
      items = items_fit image (λ k saved log is has. (logs k saved log is has).count);
    }

-- and so is a node's current image, however far it has come
pub current_within : (net : Network) (home : ℕ) (inputs : List (List ℤ)) (node : RunningNode) → IsValid net
    → IsLaidOut net home node.current → LogsAreWithin node.current → ∥ HasReached net inputs node ∥₁
    → IsImageWithin MAX_RETAINED_ITEMS node.current
current_within net home inputs node valid laid logs reached = record {
  processes =
      (let count =
      where_count (λ (s : SavedProcessView). s.number) (has_process net home) 0 (length net.codes)
      node.current.processes laid.processes in
      let few = valid.process_count in
      omega (arith, count, few));
  variables = λ k saved is.
      ∥∥₁_elim reached le_prop
      (λ come. variables_few net home (approximation net inputs come.n) come.current_acts node.current valid laid
      come.current k saved is);
  passes = λ k saved is.
      ∥∥₁_elim reached le_prop
      (λ come. repeats_few net home (approximation net inputs come.n) come.current_acts node.current valid laid
      come.current k saved is);
  ends =
      (let count =
      where_count (λ (s : SavedEnd). s.channel) (has_end net home) 0 (length net.channels) node.current.ends
      laid.ends in
      let few = valid.channel_count in
      omega (arith, count, few));
  items = items_fit node.current (λ k saved log is has. (logs k saved log is has).count);
}

-- The node's records

-- the record of a node before its first event
pub opening_within : (net : Network) (nodes number : ℕ) → IsValid net → nodes ≤ MAX_NODES
    → IsRecordWithin MAX_RETAINED_ITEMS (opening_record net nodes number)
opening_within net nodes number valid few =
    let reached = reached_opening net [] nodes number in
    record {
      nodes = (let same : length (opening_record net nodes number).highest ≡ nodes = length-replicate nodes 0 in
          omega (arith, same, few));
      decided = omega arith;
      decisions = λ k d is. absurd (cc);
      permanent =
          image_within net number (approximation net [] reached.n) reached.permanent_acts (opening_image net number)
          valid (laid_out_opening net number) reached.permanent (logs_opening net number);
      tentative = λ t is. absurd (cc);
    }

-- the record of a start
pub own_within : (node : ℕ) (image : ImageView) (kept : RecordView) → IsImageWithin MAX_RETAINED_ITEMS image
    → IsRecordWithin MAX_RETAINED_ITEMS kept → IsRecordWithin MAX_RETAINED_ITEMS (with_own node image kept)
own_within node image kept here within =
    within_tentative MAX_RETAINED_ITEMS kept within node (highest_seen node kept + 1) image here

-- the record of a decision, where there is room for one more
below_few : (number : ℕ) (decisions : List DecisionView)
    → length (decided_below number decisions) ≤ length decisions
below_few number [] = omega arith
below_few number (d ∷ decisions) = by (nat_lt d.number number) (below_few number decisions)
  where
    by : (b : Bool) → length (decided_below number decisions) ≤ length decisions
        → length (cond b (d ∷ decided_below number decisions) (decided_below number decisions))
        ≤ suc (length decisions)
    by true rest = omega (arith, rest)
    by false rest = omega (arith, rest)

decided_few : (number : ℕ) (nodes : List ℕ) (decisions : List DecisionView) → length decisions < MAX_DECISIONS
    → length (decided_by number nodes decisions) ≤ MAX_DECISIONS
decided_few number [] decisions room = omega (arith, room)
decided_few number (p ∷ nodes) decisions room =
    let few = below_few number decisions in
    let one : DecisionView = record { number = number; participants = p ∷ nodes } in
    let sum : length (decided_below number decisions ++ one ∷ []) ≡ length (decided_below number decisions) + 1 =
    length-append (decided_below number decisions) (one ∷ []) in
    omega (arith, few, sum, room)

pub decided_within : (number : ℕ) (nodes : List ℕ) (kept : RecordView) → length nodes ≤ MAX_NODES
    → length kept.decisions < MAX_DECISIONS → IsRecordWithin MAX_RETAINED_ITEMS kept
    → IsRecordWithin MAX_RETAINED_ITEMS (with_decision number nodes kept)
decided_within number nodes kept few room within =
    within_decision MAX_RETAINED_ITEMS kept within number nodes few (decided_few number nodes kept.decisions room)
