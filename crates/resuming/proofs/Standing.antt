-- Each node can start again from its record.
use Rattle.std.proofs.Common.{◌≡◌, ℕ, zero, suc, ◌+◌, ◌<◌, ◌≤◌, ◌&&◌, nat_lt, nat_le, ℤ, List, [], ◌∷◌, length, map}
use Rattle.std.proofs.Common.{replicate, Some, None, refl, ap, subst, ◌∙◌, arith}
use Rattle.std.specs.Prelude.{filter, slice_get}
use Rattle.std.proofs.Math.Logic.{∥∥₁_elim}
use Rattle.std.proofs.Props.{props}
use Rattle.std.proofs.lemmas.List.{length-replicate}
use Rattle.std.proofs.lemmas.List.Elements.{All-nil, All-cons}
use Rattle.ckpt_codec.specs.Common.{AreAllowed, at_most, count, Field, image_fields, IsAllowed}
use Rattle.ckpt_codec.specs.RecordText.{any, flag, version_field}
use Rattle.ckpt_codec.specs.SizeLaws.{IsRecordWithin}
use Rattle.ckpt_codec.specs.declared.lengths.TheConstants.{MAX_RETAINED_ITEMS}
use Rattle.ckpt_codec.specs.declared.version.TheConstants.{VERSION}
use Rattle.ckpt_store.proofs.Parts.{whole}
use Rattle.kahn_net.specs.Laws.Approximations.{approximations_grow}
use Rattle.kahn_net.specs.Laws.Prefixes.{prefix_trans}
use Rattle.kahn_net.specs.Streams.{IsPrefix, history_of}
use Rattle.protocol.specs.Join.Joined.{KeepsNodes}
use Rattle.protocol.specs.Node.Common.{approximation, acts_of, base_in, base_of, Channel, Fits, IsValid, Network}
use Rattle.protocol.specs.Node.Common.{node_count, port_on, Process, sent_in, sent_of, sent_on, ImageStands, IsRecord}
use Rattle.protocol.specs.Node.Common.{MAX_DECISIONS, MAX_NODES}
use Rattle.protocol.specs.World.Common.{is_output, OutputView, outputs_on, RecordIsSound}
use Rattle.protocol.specs.World.RecordSound.{CoversAll, ImageIsSound, RecordHasCome}
use Rattle.protocol_laws.specs.Node.LikeLaws.{image_allowed}
use Rattle.protocol_laws.specs.Node.PlaceLaws.{nodes_few}
use Rattle.protocol_laws.specs.Node.SizeLaws.{image_within}
use Rattle.protocol_laws.specs.World.OutputLaws.{IsOutputOf, output_here}
use Rattle.rerun.proofs.Turning.{images, put_below}
use Rattle.rerun.specs.Places.{IsPlace}
use Rattle.rerun.specs.Tables.{TableView, IsInOrder, log_on}
use Rattle.retained.specs.LogState.{log_end}
use Rattle.resuming.proofs.Images.{counts, laid_out, logged_there, logs_within, matches}
use Rattle.resuming.proofs.Lists.{kept_from, shorter}
use Rattle.resuming.specs.Images.{image_of, KeepsShares, record_of}
use Rattle.resuming.specs.Resuming.{Agrees, MayResume}
use Rattle.starting_again.proofs.Leaving.{outputs_of_node}
use Rattle.starting_again.specs.WasLeft.{outputs_at}

channels_at : (net : Network) (home : ℕ) (outputs : List OutputView)
    → map (λ (output : OutputView). output.channel) (outputs_at net home outputs)
    ≡ filter (is_output net home) (map (λ (output : OutputView). output.channel) outputs)
channels_at net home [] = refl
channels_at net home (x ∷ outputs) =
    let rest = channels_at net home outputs in
    grind (arith, rest)

pub stands : (net : Network) (inputs : List (List ℤ)) (t : TableView) (place : IsPlace net inputs t) (home : ℕ)
    → ImageStands net (approximation net inputs place.n) place.made (image_of net t home)
stands net inputs t place home =
    images net inputs place.n place.made place.stage (image_of net t home) place.sound
    (matches net t home inputs place.stage place.is_at)

pub within : (net : Network) (inputs : List (List ℤ)) (t : TableView) → IsValid net → IsInOrder net inputs t
    → IsPlace net inputs t → (home : ℕ) → KeepsShares (image_of net t home)
    → IsRecordWithin MAX_RETAINED_ITEMS (record_of net t home)
within net inputs t valid ordered place home shares = record {
  nodes =
      (let same : length (record_of net t home).highest ≡ node_count net = length-replicate (node_count net) 0 in
      let few = nodes_few net valid in
      omega (arith, same, few));
  decided = omega arith;
  decisions = λ k d is. absurd (cc);
  permanent =
      image_within net home (approximation net inputs place.n) place.made (image_of net t home) valid
      (laid_out net t home) (stands net inputs t place home) (logs_within net t home inputs ordered shares);
  tentative = λ held is. absurd (cc);
}

module _ (net : Network) (inputs : List (List ℤ)) (t : TableView) (outputs : List OutputView) (valid : IsValid net)
    (fits : Fits net inputs) (ordered : IsInOrder net inputs t) (may : MayResume net inputs t outputs)
    (place : IsPlace net inputs t) where
  -- the outputs of a node
  pub own_listed : (home : ℕ)
      → map (λ (output : OutputView). output.channel) (outputs_at net home outputs) ≡ outputs_on net home
  own_listed home =
      channels_at net home outputs ∙ (ap (filter (is_output net home)) may.listed ∙ outputs_of_node net home)

  pub own_agree : (home j : ℕ) (output : OutputView) → slice_get (outputs_at net home outputs) j ≡ Some output
      → Agrees net inputs t output
  own_agree home j output is =
      let there = kept_from (λ (o : OutputView). is_output net home o.channel) outputs j output is in
      may.agree there.0 output there.1

  here : (home j : ℕ) (output : OutputView) → slice_get (outputs_at net home outputs) j ≡ Some output
      → IsOutputOf net home output.channel
  here home j output is = output_here net home (outputs_at net home outputs) (own_listed home) j output is

  -- the image has the log of each
  base_there : (home c : ℕ) → IsOutputOf net home c → base_of (image_of net t home) c ≡ (log_on t c).base
  base_there home c of =
      ap base_in (logged_there net t home c of.channel of.there (ap (port_on net home) of.producer ∙ of.here))

  sent_there : (home c : ℕ) → IsOutputOf net home c → sent_of (image_of net t home) c ≡ log_end (log_on t c)
  sent_there home c of =
      ap sent_in (logged_there net t home c of.channel of.there (ap (port_on net home) of.producer ∙ of.here))

  image_sound : (home : ℕ) → home < node_count net
      → ImageIsSound net home inputs (image_of net t home) (outputs_at net home outputs)
  image_sound home below = record {
    laid_out = laid_out net t home;
    counts = counts net t home inputs ordered;
    logs = logs_within net t home inputs ordered (may.shares home below);
    no_gap = λ j output is.
        (let base = base_there home output.channel (here home j output is) in
        let from = (own_agree home j output is).in_log.from_base in
        omega (arith, base, from));
  }

  covered : (home : ℕ) → CoversAll (image_of net t home) (outputs_at net home outputs)
  covered home j output is =
      let sent = sent_there home output.channel (here home j output is) in
      let to = (own_agree home j output is).in_log.to_end in
      omega (arith, sent, to)

  -- what has left is a beginning of what was put
  begins : (c p : ℕ) (channel : Channel) (items : List ℤ) → slice_get net.channels c ≡ Some channel
      → channel.producer ≡ Process p → length items ≤ log_end (log_on t c)
      → (m : ℕ) × IsPrefix items (history_of (approximation net inputs m) c)
      → IsPrefix items (place.stage.put c)
  begins c p channel items is from few stream =
      let n = suc place.n in
      let both = stream.0 + n in
      let long = (place.is_at.logs c p channel is from).count in
      shorter items (place.stage.put c) (history_of (approximation net inputs both) c)
      (prefix_trans _ _ _ stream.1 ((approximations_grow net valid inputs fits stream.0 both (omega arith)).at c))
      (prefix_trans _ _ _
      (put_below net inputs valid fits place.n place.made place.stage place.sound c channel is)
      ((approximations_grow net valid inputs fits n both (omega arith)).at c))
      (omega (arith, few, long))

  come : (home : ℕ) → RecordHasCome net inputs (record_of net t home) (outputs_at net home outputs)
  come home = record {
    n = place.n;
    permanent_acts = place.made;
    held_acts = place.made;
    permanent = stands net inputs t place home;
    held = λ tentative is. absurd (cc);
    held_after = λ p. omega arith;
    released = λ j p output channel is on from. released j p output channel is on from;
  }
    where
      released : (j p : ℕ) (output : OutputView) (channel : Channel)
          → slice_get (outputs_at net home outputs) j ≡ Some output
          → slice_get net.channels output.channel ≡ Some channel → channel.producer ≡ Process p
          → IsPrefix output.taken (sent_on output.channel (acts_of net (approximation net inputs place.n) place.made p))
      released j p output channel is on from =
          let agrees = own_agree home j output is in
          subst (IsPrefix output.taken) (place.sound.put output.channel p channel on from)
          (∥∥₁_elim agrees.stream (hlevel props)
          (begins output.channel p channel output.taken on from agrees.in_log.to_end))

  pub record_sound : (home : ℕ) → home < node_count net
      → RecordIsSound net inputs (record_of net t home) (outputs_at net home outputs)
  record_sound home below = record {
    listed = own_listed home;
    permanent = image_sound home below;
    held = λ tentative is. absurd (cc);
    ahead = λ tentative is. absurd (cc);
    covered = covered home;
    epoch = omega arith;
    bounded = within net inputs t valid ordered place home (may.shares home below);
    come = ∣ come home ∣₁;
  }

-- and what it keeps may be said to other nodes
pub keeps_nodes : (net : Network) (t : TableView) (home : ℕ) → KeepsNodes net home (record_of net t home)
keeps_nodes net t home = record {
  listed = length-replicate (node_count net) 0;
  held = λ held is. absurd (cc);
  decisions = λ i d is. absurd (cc);
  room = λ held is own. absurd (cc);
}

-- ---- the record may be written

one_field : (field : Field) → IsAllowed field → AreAllowed (field ∷ [])
one_field field is = All-cons IsAllowed field [] is (All-nil IsAllowed)

entries_allowed : (nodes : ℕ) → AreAllowed (map count (replicate nodes 0))
entries_allowed zero = All-nil IsAllowed
entries_allowed (suc nodes) = All-cons IsAllowed (count 0) _ (omega arith, refl) (entries_allowed nodes)

module _ (net : Network) (inputs : List (List ℤ)) (t : TableView) (valid : IsValid net) (fits : Fits net inputs)
    (ordered : IsInOrder net inputs t) (place : IsPlace net inputs t) (home : ℕ)
    (shares : KeepsShares (image_of net t home)) where
  image_may : AreAllowed (image_fields None (image_of net t home))
  image_may =
      image_allowed net home inputs (approximation net inputs place.n) place.made (image_of net t home) valid fits.few
      (laid_out net t home) (stands net inputs t place home) (counts net t home inputs ordered)
      (logs_within net t home inputs ordered shares)

  pub may_be_written : home < node_count net → IsRecord (record_of net t home)
  may_be_written below =
      let few = nodes_few net valid in
      let many : length (record_of net t home).highest ≡ node_count net = length-replicate (node_count net) 0 in
      let version : IsAllowed (version_field VERSION) = (omega arith, refl) in
      let epoch : IsAllowed (count 0) = (omega arith, refl) in
      let own : IsAllowed (any 1 home) = (omega arith, refl) in
      let last : Field =
      record {
        width = 1;
        allows = λ v. nat_lt home v && nat_le v MAX_NODES;
        value = length (record_of net t home).highest;
      } in
      let lengths : IsAllowed last = (omega arith, grind arith) in
      whole (record_of net t home) (record {
        head = search (All-cons IsAllowed, All-nil IsAllowed, version, own, epoch, lengths);
        entries = entries_allowed (node_count net);
        decisions = one_field (at_most 1 MAX_DECISIONS 0) (omega arith, refl);
        permanent = image_may;
        tentative = one_field (flag 0) (omega arith, refl);
      })
