-- Laws of a later approximation: a node that stands on one stands on the next, and what it has at hand comes next
-- there.
use Rattle.std.proofs.Common.{◌≡◌, inl, inr, ℕ, suc, ◌+◌, ◌-◌, ◌≤◌, Bool, true, false, ℤ, List, [], ◌++◌, length, take}
use Rattle.std.proofs.Common.{drop, Option, Some, None, refl, sym, ap, ◌∙◌, arith}
use Rattle.std.specs.Prelude.{slice_get, min, IsTrue}
use Rattle.std.proofs.Math.Nat.{min-eq_left}
use Rattle.std.proofs.lemmas.List.{get_or_past, take-append-drop, take-append-le, take_min, drop-drop, drop-append-le}
use Rattle.std.proofs.lemmas.Option.{slice_get_cases}
use Rattle.protocol.specs.Node.Common.{history_of, IsPrefix, Fits, Code, Network, IsValid, process_trace, sent_on}
use Rattle.protocol.specs.Node.Common.{got_on, approximation, Channel, Port, Outside, Process, LogState, items_since}
use Rattle.protocol.specs.Node.Common.{ImageView, received_of, log_at, log_of, Tentative, inbox_log, next_in_log}
use Rattle.protocol.specs.Node.Common.{next_items, items_from, RunningNode, first_acts, acts_of, ImageStands}
use Rattle.protocol.specs.Node.Common.{HasReached, IsLaidOut, CountsAreWithin, InboxIsSound, InboxesStand, has_process}
use Rattle.protocol.specs.Node.Common.{role_of}
use Rattle.kahn_net.specs.Laws.Approximations.{approximation_grows}
use Rattle.kahn_net.specs.Laws.Prefixes.{prefix_nil, prefix_of, prefix_trans, followed}
use Rattle.kahn_net.specs.Laws.Streams.{longer_process, stands_on}
use Rattle.proc_step.specs.Turns.{AreNext}
use Rattle.protocol.specs.Node.Reached.{IsAsFar}
use Rattle.protocol_laws.specs.Node.InnerLaws.{end_there, consumer_on, inner_there}
use Rattle.protocol_laws.specs.Node.ReachedLaws.{input_stays, items_of_channel, length-items_from, received_stands}
use Rattle.protocol_laws.specs.Node.LinkLaws.{inbox_of, inboxes_on_next}
use Rattle.protocol_laws.specs.Node.ReleaseLaws.{acts_put_prefix, log_stands}
use Rattle.protocol.specs.declared.links.Inbox.{Inbox}
use Rattle.protocol.specs.declared.limits.TheConstants.{MAX_JOB_ITEMS}

-- how many acts a process has on these histories
abbrev pub act_count : Option Code → List (List ℤ) → ℕ
act_count None histories = 0
act_count (Some code) histories = length (process_trace code histories).steps

-- the acts that were made, of those that there are on these histories
abbrev pub on_next : Network → List (List ℤ) → (ℕ → ℕ) → ℕ → ℕ
on_next net histories made p = min (made p) (act_count (slice_get net.codes p) histories)

-- on these histories, what a process has at hand comes next
abbrev pub IsAtHand : Network → List (List ℤ) → List (List ℤ) → (ℕ → ℕ) → ImageView → List Inbox → ℕ → Type 0
IsAtHand net inputs histories made image inboxes p =
    AreNext (items_from inputs image inboxes p 0 net.channels) histories (acts_of net histories made p)

module _ (net : Network) (inputs : List (List ℤ)) (valid : IsValid net) (fits : Fits net inputs) (n : ℕ) where
  -- the acts are the same on the next approximation
  pub acts_on_next : (made : ℕ → ℕ) (p : ℕ)
      → acts_of net (approximation net inputs (suc n)) (on_next net (approximation net inputs n) made) p
      ≡ acts_of net (approximation net inputs n) made p
  acts_on_next made p = at (slice_get net.codes p) refl
    where
      at : (o : Option Code) → slice_get net.codes p ≡ o
          → first_acts o (approximation net inputs (suc n)) (min (made p) (act_count o (approximation net inputs n)))
          ≡ first_acts o (approximation net inputs n) (made p)
      at None there = refl
      at (Some code) there =
          let steps = (process_trace code (approximation net inputs n)).steps in
          let longer =
          longer_process code (approximation net inputs n) (approximation net inputs (suc n))
          (valid.codes p code there).passes (approximation_grows net valid inputs fits n) in
          let few : min (made p) (length steps) ≤ length steps = omega arith in
          rw (longer.steps, take-append-le (min (made p) (length steps)) steps longer.more few, take_min) refl

  pub far_on_next : (made later : ℕ → ℕ) → IsAsFar made later
      → IsAsFar (on_next net (approximation net inputs n) made) (on_next net (approximation net inputs n) later)
  far_on_next made later far p = omega (arith, far p)

  pub stands_on_next : (made : ℕ → ℕ) (image : ImageView) → ImageStands net (approximation net inputs n) made image
      → ImageStands net (approximation net inputs (suc n)) (on_next net (approximation net inputs n) made) image
  stands_on_next made image stands = record {
    processes = λ k saved code is there. (
        let here = stands.processes k saved code is there in
        rw (there, min-eq_left here.within)
        (stands_on code (approximation net inputs n) (approximation net inputs (suc n)) (made saved.number)
        saved.standing (valid.codes saved.number code there).passes (approximation_grows net valid inputs fits n)
        here));
    ends = λ k saved channel is on. (
        let end = stands.ends k saved channel is on in
        record {
          received = λ p to counting. rw (acts_on_next made p) (end.received p to counting);
          retained = λ p log from has. rw (acts_on_next made p) (end.retained p log from has);
        });
  }

  -- what a process of the node has at hand comes next, once it has made its acts
  pub next_are_at_hand : (home : ℕ) (made : ℕ → ℕ) (image : ImageView) (inboxes : List Inbox)
      → ImageStands net (approximation net inputs n) made image → IsLaidOut net home image
      → CountsAreWithin net inputs image
      → ((k : ℕ) (inbox : Inbox) → slice_get inboxes k ≡ Some inbox → InboxIsSound image inbox)
      → InboxesStand (approximation net inputs n) inboxes
      → (p : ℕ) → IsTrue (has_process net home p)
      → IsAtHand net inputs (approximation net inputs (suc n)) (on_next net (approximation net inputs n) made)
      image inboxes p
  next_are_at_hand home made image inboxes stands laid counts begin stand p here c =
      elim (slice_get_cases net.channels c).1 [
        | inl here ↦ by_channel here.0 here.2
        | inr past ↦ let count = length-items_from inputs image inboxes p 0 net.channels in
            prefix_nil _ left
            (get_or_past (items_from inputs image inboxes p 0 net.channels) c [] (omega (arith, count, past.0)))
      ]
    where
      whole : List ℤ
      whole = history_of (approximation net inputs (suc n)) c

      left : List ℤ
      left = drop
          (length (got_on c
          (acts_of net (approximation net inputs (suc n)) (on_next net (approximation net inputs n) made) p))) whole

      front : (k : ℕ) (xs : List ℤ) → IsPrefix (take k xs) xs
      front k xs = prefix_of (record { rest = drop k xs; is = sym (take-append-drop k xs) })

      -- what is left behind what the image says was received
      left_is : (channel : Channel) → slice_get net.channels c ≡ Some channel → channel.consumer ≡ Process p
          → left ≡ drop (received_of image c) whole
      left_is channel is to =
          rw (
            acts_on_next made p,
            received_stands net home (approximation net inputs n) made image c p channel stands laid is to here,
          ) refl

      by_producer : (channel : Channel) → slice_get net.channels c ≡ Some channel → channel.consumer ≡ Process p
          → (port : Port) → channel.producer ≡ port
          → IsPrefix (next_items inputs image inboxes c port) left
      by_producer channel is to Outside from =
          rw (left_is channel is to, input_stays net inputs (suc n) c channel is from)
          (front MAX_JOB_ITEMS (drop (received_of image c) (history_of inputs c)))
      by_producer channel is to (Process q) from = by_home (has_process net home q) refl
        where
          -- what a process of another node put comes from the inbox, if it is there
          by_inbox : (o : Option LogState) → inbox_log inboxes c ≡ o
              → IsPrefix (next_in_log (received_of image c) o) left
          by_inbox None none = prefix_nil [] left refl
          by_inbox (Some log) has =
              let of = inbox_of inboxes c log has in
              let sound = begin of.at of.inbox of.there in
              let begins : log.base ≡ received_of image c = cc (sound.begins) in
              let later = inboxes_on_next net inputs n inboxes valid fits stand of.at of.inbox of.there in
              let from_base : IsPrefix log.items (drop log.base whole) = rw (of.is_channel, of.is_log) at later.items in
              let none : log.base - log.base ≡ 0 = omega arith in
              rw (left_is channel is to, ← begins, none)
              (prefix_trans (take MAX_JOB_ITEMS log.items) log.items (drop log.base whole)
              (front MAX_JOB_ITEMS log.items) from_base)

          -- and what a process of the node put comes from its end's log
          by_home : (b : Bool) → has_process net home q ≡ b
              → IsPrefix (next_items inputs image inboxes c (Process q)) left
          by_home true puts =
              let stays = inner_there net home inputs image c q p channel laid counts is from puts to here in
              let in_log = stays.within in
              let put : List ℤ = sent_on c (acts_of net (approximation net inputs n) made q) in
              let log : log_of image c ≡ Some (stays.log) = ap log_at stays.there in
              let of = log_stands net (approximation net inputs n) made image c q channel stays.log stands is from log in
              let sum : stays.log.base + (stays.received - stays.log.base) ≡ stays.received = omega arith in
              let since : items_since stays.log stays.received ≡ drop stays.received put = rw (of.items, drop-drop, sum) refl in
              let more = followed put whole (acts_put_prefix net inputs n made c q channel is from) in
              let few : stays.received ≤ length put = omega (arith, of.count) in
              let rest : drop stays.received whole ≡ drop stays.received put ++ more.rest =
              ap (drop stays.received) more.is ∙ drop-append-le stays.received put more.rest few in
              rw (left_is channel is to, stays.there, since, rest)
              (prefix_trans (take MAX_JOB_ITEMS (drop stays.received put)) (drop stays.received put)
              (drop stays.received put ++ more.rest) (front MAX_JOB_ITEMS (drop stays.received put))
              (prefix_of (record { rest = more.rest; is = refl })))
          by_home false puts =
              let of = end_there net home image c channel laid is (consumer_on net home p channel to here) in
              let role : role_of of.end ≡ 0 = simp (from, puts) at of.role in
              let none : log_of image c ≡ None = rw of.there (grind arith) in
              rw none (by_inbox (inbox_log inboxes c) refl)

      by_channel : (channel : Channel) → slice_get net.channels c ≡ Some channel
          → IsPrefix (history_of (items_from inputs image inboxes p 0 net.channels) c) left
      by_channel channel is =
          let gets = λ (to : channel.consumer ≡ Process p). by_producer channel is to channel.producer refl in
          let none = prefix_nil [] left refl in
          rw (items_of_channel net inputs image inboxes p c channel is) (grind (arith, gets, none))

-- a node that has come so far on one approximation has come so far on the next
abbrev pub reached_on_next : (net : Network) (inputs : List (List ℤ)) (node : RunningNode) → IsValid net
    → Fits net inputs → HasReached net inputs node → HasReached net inputs node
reached_on_next net inputs node valid fits reached = record {
  n = suc reached.n;
  permanent_acts = on_next net (approximation net inputs reached.n) reached.permanent_acts;
  held_acts = on_next net (approximation net inputs reached.n) reached.held_acts;
  current_acts = on_next net (approximation net inputs reached.n) reached.current_acts;
  permanent =
      stands_on_next net inputs valid fits reached.n reached.permanent_acts node.kept.permanent reached.permanent;
  held = λ (tentative : Tentative) is. stands_on_next net inputs valid fits reached.n reached.held_acts tentative.image
      (reached.held tentative is);
  current = stands_on_next net inputs valid fits reached.n reached.current_acts node.current reached.current;
  held_after = far_on_next net inputs valid fits reached.n reached.permanent_acts reached.held_acts reached.held_after;
  current_after =
      far_on_next net inputs valid fits reached.n reached.held_acts reached.current_acts reached.current_after;
}
