-- What a stored image received of each channel is a count, since its spelling has no greater number there.
use Rattle.std.proofs.Common.{◌≡◌, ℕ, suc, ◌≤◌, ◌++◌, Bool, true, false, cond, eqb, List, [], ◌∷◌, Option, Some, None, arith}
use Rattle.std.proofs.Common.{inl, inr, option_map, length, map, subst}
use Rattle.std.specs.Prelude.{find, nat_le, slice_index}
use Rattle.std.specs.List.{AllByRecursion}
use Rattle.std.proofs.lemmas.Bool.Decides.{leb_tells}
use Rattle.std.proofs.lemmas.List.Elements.{recursion_from_All}
use Rattle.kahn_net.specs.declared.limits.TheConstants.{MAX_COUNT, MAX_CHANNELS, MAX_PROCESSES}
use Rattle.record.specs.Ends.{received_at}
use Rattle.record.specs.ImageView.{ImageView}
use Rattle.record.specs.RecordView.{RecordView}
use Rattle.record.specs.declared.record.Tentative.{Tentative}
use Rattle.record.specs.declared.image.End.{End}
use Rattle.record.specs.declared.image.End.TheVariants.{Receives, Sends, Both}
use Rattle.record.specs.declared.image.SavedEnd.{SavedEnd}
use Rattle.ckpt_codec.specs.Fields.{AreAllowed, Field, IsAllowed}
use Rattle.ckpt_codec.specs.RecordText.{at_most, end_fields, ends_fields, ends_in, image_fields, processes_fields}
use Rattle.ckpt_codec.specs.RecordText.{IsRecord, count, decisions_fields, head_fields, most_decisions, processes_in}
use Rattle.ckpt_codec.specs.RecordText.{record_fields, rest_of, tentative_fields, wanted, wanted_or}
use Rattle.protocol.specs.Node.Recovering.{IsRestorable}

-- (as in protocol_laws, which isn't below this crate)
below : (a b : ℕ) → nat_le a b ≡ true → a ≤ b
below a b is = elim (leb_tells a b) [ inl yes_it ↦ yes_it.1 | inr not_it ↦ absurd (let e = not_it.0 in cc) ]

-- what stands behind some fields
behind : (xs ys : List Field) → AllByRecursion IsAllowed (xs ++ ys) → AllByRecursion IsAllowed ys
behind [] ys all = all
behind (x ∷ xs) ys all = behind xs ys all.1

end_count : (end : End) (more : List Field) → AllByRecursion IsAllowed (end_fields end ++ more)
    → received_at (Some end) ≤ MAX_COUNT
end_count (Receives received) more all = below received MAX_COUNT all.0.1
end_count (Sends log) more all = omega arith
end_count (Both received log) more all = below received MAX_COUNT all.0.1

ends_count : (like : Option (List SavedEnd)) (least : ℕ) (ends : List SavedEnd) (c : ℕ)
    → AllByRecursion IsAllowed (ends_fields like least ends)
    → received_at (option_map (λ (s : SavedEnd). s.end) (find (λ (s : SavedEnd). eqb s.channel c) ends)) ≤ MAX_COUNT
ends_count like least [] c all = omega arith
ends_count like least (e ∷ ends) c all =
    by (eqb e.channel c)
    (ends_count (rest_of like) (suc e.channel) ends c
    (behind (end_fields e.end) (ends_fields (rest_of like) (suc e.channel) ends) all.1.1))
  where
    by : (b : Bool)
        → received_at (option_map (λ (s : SavedEnd). s.end) (find (λ (s : SavedEnd). eqb s.channel c) ends)) ≤ MAX_COUNT
        → received_at
        (option_map (λ (s : SavedEnd). s.end) (cond b (Some e) (find (λ (s : SavedEnd). eqb s.channel c) ends)))
        ≤ MAX_COUNT
    by true rest = end_count e.end (ends_fields (rest_of like) (suc e.channel) ends) all.1.1
    by false rest = rest

-- what stands before some
ahead : (xs ys : List Field) → AllByRecursion IsAllowed (xs ++ ys) → AllByRecursion IsAllowed xs
ahead [] ys all = tt
ahead (x ∷ xs) ys all = (all.0, ahead xs ys all.1)

-- an image that may be written
image_counts : (like : Option ImageView) (image : ImageView) → AllByRecursion IsAllowed (image_fields like image)
    → IsRestorable image
image_counts like image allowed c =
    ends_count (ends_in like) 0 image.ends c
    (behind
    (wanted_or (wanted (λ (i : ImageView). length i.processes) like) (at_most 1 MAX_PROCESSES (length image.processes))
    ∷ processes_fields (processes_in like) 0 image.processes)
    (wanted_or (wanted (λ (i : ImageView). length i.ends) like) (at_most 2 MAX_CHANNELS (length image.ends))
    ∷ ends_fields (ends_in like) 0 image.ends) allowed).1

-- The images of a record may be restored, and its epoch is a count.
pub record HasCounts (kept : RecordView) : Type 0 where
  pub permanent : IsRestorable kept.permanent
  pub held : (held : Tentative) → kept.tentative ≡ Some held → IsRestorable held.image
  pub epoch : kept.epoch ≤ MAX_COUNT

held_counts : (highest : List ℕ) (permanent : ImageView) (t : Option Tentative) (held : Tentative) → t ≡ Some held
    → AllByRecursion IsAllowed (tentative_fields highest permanent t) → IsRestorable held.image
held_counts highest permanent None held is all = absurd (cc)
held_counts highest permanent (Some t) held is all =
    let same : t ≡ held = cc in
    subst (λ (h : Tentative). IsRestorable h.image) same (image_counts (Some permanent) t.image all.1.1.1)

counts_in : (version : ℕ) (kept : RecordView) → AreAllowed (record_fields version kept) → HasCounts kept
counts_in version kept allowed =
    let all = recursion_from_All IsAllowed (record_fields version kept) allowed in
    let decisions = decisions_fields (most_decisions version) kept.node (length kept.highest)
    (slice_index kept.highest kept.node) kept.decisions in
    let images = image_fields None kept.permanent in
    let tentative = tentative_fields kept.highest kept.permanent kept.tentative in
    let rest = behind decisions (images ++ tentative)
    (behind (map count kept.highest) (decisions ++ (images ++ tentative))
    (behind (head_fields version kept) (map count kept.highest ++ (decisions ++ (images ++ tentative))) all)) in
    record {
      permanent = image_counts None kept.permanent (ahead images tentative rest);
      held = λ held is.
          held_counts kept.highest kept.permanent kept.tentative held is (behind images tentative rest);
      epoch = below kept.epoch MAX_COUNT all.1.1.0.1;
    }

-- as they are of a record that may be written
pub record_counts : (kept : RecordView) → IsRecord kept → HasCounts kept
record_counts kept allowed = counts_in _ kept allowed
