-- Laws of what a node's logs hold: the last items of a beginning of each channel's history.
use Rattle.std.proofs.Common.{◌≡◌, ℕ, suc, ◌≤◌, ℤ, List, [], ◌++◌, take, drop, Option, Some, None, refl, sym, ap, subst}
use Rattle.std.proofs.Common.{◌∙◌}
use Rattle.std.specs.Prelude.{slice_get}
use Rattle.std.proofs.lemmas.List.{take-append-drop, take-take}
use Rattle.protocol.specs.Node.Common.{history_of, IsPrefix, Code, Network, Step, process_trace, sent_on}
use Rattle.protocol.specs.Node.Common.{approximation, Channel, Port, Process, LogState, IsLogOf, ImageView}
use Rattle.protocol.specs.Node.Common.{RunningNode, end_of, log_at, log_of, End, first_acts, acts_of, ImageStands}
use Rattle.protocol.specs.Node.Common.{HasReached}
use Rattle.kahn_net.specs.Laws.Prefixes.{prefix_nil, prefix_along, prefix_trans, prefix_of}
use Rattle.kahn_net.specs.Laws.Puts.{sent_on-append}
use Rattle.kahn_net.specs.Approximations.{next_history, output_at}
use Rattle.kahn_net.specs.Laws.Approximations.{next_histories-at}
use Rattle.protocol.specs.Node.Reached.{HasComeOn}
use Rattle.protocol_laws.specs.Node.ImageLaws.{entry_of}

-- what the first acts of a process put is a front of what it puts
pub put_is_prefix : (code : Option Code) (histories : List (List ℤ)) (m c : ℕ)
    → IsPrefix (sent_on c (first_acts code histories m)) (output_at code histories c)
put_is_prefix None histories m c = prefix_nil [] [] refl
put_is_prefix (Some code) histories m c = prefix_of (record {
  rest = sent_on c (drop m (process_trace code histories).steps);
  is =
      ap (sent_on c) (sym (take-append-drop m (process_trace code histories).steps))
      ∙ sent_on-append c (take m (process_trace code histories).steps) (drop m (process_trace code histories).steps);
})

-- and so of its channel's next history
pub acts_put_prefix : (net : Network) (inputs : List (List ℤ)) (n : ℕ) (made : ℕ → ℕ) (c p : ℕ) (channel : Channel)
    → slice_get net.channels c ≡ Some channel → channel.producer ≡ Process p
    → IsPrefix (sent_on c (acts_of net (approximation net inputs n) made p))
    (history_of (approximation net inputs (suc n)) c)
acts_put_prefix net inputs n made c p channel is from =
    prefix_along _ _ _ _ refl
    (next_histories-at net inputs (approximation net inputs n) c channel is
    ∙ ap (λ (port : Port). next_history net.codes inputs (approximation net inputs n) c port) from)
    (put_is_prefix (slice_get net.codes p) (approximation net inputs n) (made p) c)

-- the log of an image holds what its producer's acts put
pub log_entry : (image : ImageView) (c : ℕ) (log : LogState) → log_of image c ≡ Some log
    → (end : End) × (end_of image c ≡ Some end) × (log_at (Some end) ≡ Some log)
log_entry image c log has = at (end_of image c) refl has
  where
    at : (o : Option End) → end_of image c ≡ o → log_at o ≡ Some log
        → (end : End) × (end_of image c ≡ Some end) × (log_at (Some end) ≡ Some log)
    at None is e = absurd (cc)
    at (Some end) is e = (end, is, e)

pub log_stands : (net : Network) (histories : List (List ℤ)) (made : ℕ → ℕ) (image : ImageView) (c p : ℕ)
    (channel : Channel) (log : LogState) → ImageStands net histories made image
    → slice_get net.channels c ≡ Some channel → channel.producer ≡ Process p → log_of image c ≡ Some log
    → IsLogOf log (sent_on c (acts_of net histories made p))
log_stands net histories made image c p channel log stands is from has =
    let found = log_entry image c log has in
    let entry = entry_of image c found.0 found.1 in
    let end = stands.ends entry.place entry.saved channel entry.is (ap (slice_get net.channels) entry.channel ∙ is) in
    subst (λ (d : ℕ). IsLogOf log (sent_on d (acts_of net histories made p))) entry.channel
    (end.retained p log from (ap (λ (e : End). log_at (Some e)) entry.is_end ∙ found.2))

-- What has left the system stays a beginning of what was put

-- the acts of before are a front of those of later
acts_are_front : (code : Option Code) (histories : List (List ℤ)) (m n c : ℕ) → m ≤ n
    → IsPrefix (sent_on c (first_acts code histories m)) (sent_on c (first_acts code histories n))
acts_are_front None histories m n c le = prefix_nil [] [] refl
acts_are_front (Some code) histories m n c le =
    let front : take m (take n (process_trace code histories).steps) ≡ take m (process_trace code histories).steps =
    take-take m n (process_trace code histories).steps le in
    prefix_of (record {
      rest = sent_on c (drop m (take n (process_trace code histories).steps));
      is =
          ap (sent_on c) (sym (take-append-drop m (take n (process_trace code histories).steps)))
          ∙ (sent_on-append c (take m (take n (process_trace code histories).steps))
          (drop m (take n (process_trace code histories).steps))
          ∙ ap (λ (steps : List Step). sent_on c steps
          ++ sent_on c (drop m (take n (process_trace code histories).steps))) front);
    })

pub acts_grow : (net : Network) (histories : List (List ℤ)) (made later : ℕ → ℕ) (c p : ℕ) → made p ≤ later p
    → IsPrefix (sent_on c (acts_of net histories made p)) (sent_on c (acts_of net histories later p))
acts_grow net histories made later c p far = acts_are_front (slice_get net.codes p) histories (made p) (later p) c far

-- a beginning of a beginning
beginning_of_whole : (taken part whole : List ℤ) → IsPrefix part whole → IsPrefix taken part → IsPrefix taken whole
beginning_of_whole taken part whole front begins =
    prefix_trans taken part whole begins front

-- what left is still a beginning of what the process put, once the node has come on
pub beginning_stays : (net : Network) (inputs : List (List ℤ)) (old new : RunningNode)
    (before : HasReached net inputs old) (after : HasReached net inputs new) (c p : ℕ) (taken : List ℤ)
    → HasComeOn net inputs old new before after
    → IsPrefix taken (sent_on c (acts_of net (approximation net inputs before.n) before.current_acts p))
    → IsPrefix taken (sent_on c (acts_of net (approximation net inputs after.n) after.current_acts p))
beginning_stays net inputs old new before after c p taken on begins =
    subst (λ (n : ℕ). IsPrefix taken (sent_on c (acts_of net (approximation net inputs n) after.current_acts p)))
    (sym on.same)
    (beginning_of_whole taken
    _ _ (acts_are_front (slice_get net.codes p) (approximation net inputs before.n) (before.current_acts p)
    (after.current_acts p) c (on.further p)) begins)
