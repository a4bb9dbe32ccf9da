-- Where a node stands it stands on longer histories too: its images, its inboxes, and what has left of its outputs.
--
-- `protocol_laws` has such laws of an approximation and the next one on the same inputs (`acts_on_next`, `far_on_next`
-- and `stands_on_next` of `LiftLaws`, `inbox_further` and `inboxes_on_next` of `LinkLaws`). Those are cases of the ones
-- here, which are of any histories of which the ones are prefixes of the others. What is wanted here is an
-- approximation and the one of the same number on later inputs. They are proved in the same way.
use Rattle.std.proofs.Common.{◌≡◌, ℕ, zero, suc, ℤ, List, [], ◌∷◌, length, take, drop, Option, Some, None, refl, sym}
use Rattle.std.proofs.Common.{ap, subst, ◌∙◌, arith}
use Rattle.std.specs.Prelude.{min, slice_get}
use Rattle.std.proofs.Math.Nat.{min-eq_left, min-le_right}
use Rattle.std.proofs.lemmas.List.{take-append-le, take_min}
use Rattle.kahn_net.specs.Laws.Prefixes.{prefix_length, prefix_trans}
use Rattle.kahn_net.specs.Laws.Streams.{longer_process, stands_on}
use Rattle.kahn_net.specs.Streams.{ArePrefixes}
use Rattle.protocol.specs.Node.Common.{acts_of, Code, first_acts, got_on, ImageStands, ImageView, InboxesStand, IsLogOf}
use Rattle.protocol.specs.Node.Common.{IsPrefix, IsValid, Network, process_trace, sent_on, StandsAt, Step}
use Rattle.protocol.specs.Node.Reached.{IsAsFar}
use Rattle.protocol.specs.declared.links.Inbox.{Inbox}
use Rattle.protocol_laws.specs.Node.LiftLaws.{act_count, on_next}
use Rattle.window_link.specs.Laws.Holding.{holds_longer}

-- ---- beginnings of prefixes

pub prefix_taken : (k : ℕ) (xs ys : List ℤ) → IsPrefix xs ys → IsPrefix (take k xs) (take k ys)
prefix_taken zero xs ys front = refl
prefix_taken (suc k) [] ys front = refl
prefix_taken (suc k) (x ∷ xs) [] front = absurd (cc)
prefix_taken (suc k) (x ∷ xs) (y ∷ ys) front =
    let rest : xs ≡ take (length xs) ys = cc in
    let later : take k xs ≡ take (length (take k xs)) (take k ys) = prefix_taken k xs ys rest in
    cc

-- `prefix_behind` of `protocol_laws` has it where the prefix has all that is dropped.
pub prefix_dropped : (k : ℕ) (xs ys : List ℤ) → IsPrefix xs ys → IsPrefix (drop k xs) (drop k ys)
prefix_dropped zero xs ys front = front
prefix_dropped (suc k) [] ys front = refl
prefix_dropped (suc k) (x ∷ xs) [] front = absurd (cc)
prefix_dropped (suc k) (x ∷ xs) (y ∷ ys) front =
    let rest : xs ≡ take (length xs) ys = cc in prefix_dropped k xs ys rest

module _ (net : Network) (valid : IsValid net) (small big : List (List ℤ)) (longer : ArePrefixes small big) where
  -- ---- what processes have made

  -- Of the acts that there are on the shorter histories, as many as were made are the same on the longer ones.
  pub acts_stay : (made : ℕ → ℕ) (p : ℕ) → acts_of net big (on_next net small made) p ≡ acts_of net small made p
  acts_stay made p = at (slice_get net.codes p) refl
    where
      at : (o : Option Code) → slice_get net.codes p ≡ o
          → first_acts o big (min (made p) (act_count o small)) ≡ first_acts o small (made p)
      at None there = refl
      at (Some code) there =
          let steps = (process_trace code small).steps in
          let more = longer_process code small big (valid.codes p code there).passes longer in
          ap (take (min (made p) (length steps))) more.steps
          ∙ (take-append-le (min (made p) (length steps)) steps more.more (min-le_right (made p) (length steps))
          ∙ take_min (made p) steps)

  pub far_stays : (made later : ℕ → ℕ) → IsAsFar made later → IsAsFar (on_next net small made) (on_next net small later)
  far_stays made later far p = let more = far p in omega (arith, more)

  pub image_stays : (made : ℕ → ℕ) (image : ImageView) → ImageStands net small made image
      → ImageStands net big (on_next net small made) image
  image_stays made image stands = record {
    processes = λ k saved code is there. (
        let here = stands.processes k saved code is there in
        let same : on_next net small made saved.number ≡ made saved.number =
        ap (λ (o : Option Code). min (made saved.number) (act_count o small)) there ∙ min-eq_left here.within in
        subst (λ (m : ℕ). StandsAt code big m saved.standing) (sym same)
        (stands_on code small big (made saved.number) saved.standing (valid.codes saved.number code there).passes
        longer here));
    ends = λ k saved channel is on. (
        let end = stands.ends k saved channel is on in
        record {
          received =
              λ p to counting. end.received p to counting
              ∙ ap (λ (steps : List Step). length (got_on saved.channel steps)) (sym (acts_stay made p));
          retained =
              λ p log from has. subst (λ (steps : List Step). IsLogOf log (sent_on saved.channel steps))
              (sym (acts_stay made p)) (end.retained p log from has);
        });
  }

  -- what has left of an output is a beginning of what its process has put
  pub put_stays : (c p : ℕ) (made : ℕ → ℕ) (taken : List ℤ) → IsPrefix taken (sent_on c (acts_of net small made p))
      → IsPrefix taken (sent_on c (acts_of net big (on_next net small made) p))
  put_stays c p made taken = subst (λ (steps : List Step). IsPrefix taken (sent_on c steps)) (sym (acts_stay made p))

  -- ---- what has come

  pub inboxes_stay : (inboxes : List Inbox) → InboxesStand small inboxes → InboxesStand big inboxes
  inboxes_stay inboxes stand k inbox is =
      let here = stand k inbox is in
      let front = longer.at inbox.channel in
      let few = here.within in
      let more = prefix_length _ _ front in
      record {
        within = omega (arith, few, more);
        items = prefix_trans inbox.log.items _ _ here.items (prefix_dropped inbox.log.base _ _ front);
        held = holds_longer _ _ inbox.window front here.held;
      }
