-- What one node keeps when a packet comes to it.
use Rattle.std.proofs.Common.{◌≡◌, None, ◌⊎◌, inl, inr, ℕ, true, Some, refl, sym, ap, ◌∙◌}
use Rattle.std.specs.Prelude.{◌≢◌}
use Rattle.recovery_line.specs.Images.{Image, Net}
use Rattle.recovery_line.specs.Records.{Holds}
use Rattle.recovery_line.specs.Nodes.{Live, Mode, Down, In_doubt, Running, current_of, live_of, Node, Unwritten}
use Rattle.recovery_line.specs.Packets.{Packet, Kept, Ask, Took, Covered, Query, Commit, Ended, Settled, after_verdict}
use Rattle.recovery_line.specs.Packets.{HearsAsk, HearsCommit, HearsEnded, HearsSettled, Hears, IsByOther}
use Rattle.recovery_line.specs.Invariant.{IsImageOf, Permanent, Held, Current, NodeOk}
use Rattle.recovery_line.proofs.Basics.{not_in_doubt, same_or_other, some_not_none, one_inside, same_initiator}
use Rattle.recovery_line.proofs.OneNode.{down_not_doubt, images_stay_ok, trims_ok, ImageGoes, image_goes_ok}
use Rattle.recovery_line.proofs.OneNode.{BecomesPermanent, becomes_permanent_ok, CurrentIsTaken, current_is_taken_ok}

-- a verdict starts nothing, and a node that was in doubt then runs on its permanent image
pub live_after : (m : Mode) (i : Image) (live : Live) → live_of (after_verdict m i) ≡ Some live → live_of m ≡ Some live
live_after Down i live is = absurd (some_not_none refl is)
live_after In_doubt i live is = absurd (some_not_none refl is)
live_after (Running current o) i live is = is

pub current_after : (m : Mode) (i j : Image) → current_of (after_verdict m i) ≡ Some j
    → (current_of m ≡ Some j) ⊎ (j ≡ i)
current_after Down i j is = absurd (some_not_none refl is)
current_after In_doubt i j is = inr (one_inside is refl)
current_after (Running current o) i j is = inl is

-- nothing is live at a node that holds an image of this instance
abbrev pub NothingLive : Node → ℕ → ℕ → Type 0
NothingLive a x n = (i : Image) → Holds a.disk x n i → (live : Live) → live_of a.mode ≡ Some live → ⊥

pub verdict_known : (m : Mode) (i : Image) → after_verdict m i ≢ In_doubt
verdict_known Down i same = down_not_doubt same
verdict_known In_doubt i same = not_in_doubt (Running i None) i None refl same
verdict_known (Running current o) i same = not_in_doubt (Running current o) current o refl same

pub commit_permanent : (net : Net) (k : ℕ) (a b : Node) (x n : ℕ) → NodeOk net k a → NothingLive a x n
    → (s : HearsCommit a b x n) → BecomesPermanent k a b x n s.image
commit_permanent net k a b x n ok free s = record {
  held = s.settles.held;
  permanent = s.settles.permanent;
  free = s.settles.free;
  highest = s.settles.highest;
  decided = λ m now. ok.used m (rw (s.settles.decided) at now);
  outlets = s.outlets;
  current =
      λ j now. elim (current_after a.mode b.disk.permanent j (rw (s.mode) at now))
      [ inl old ↦ inl old | inr is ↦ inr (is ∙ s.settles.permanent) ];
  none_live =
      λ live now. free s.image s.settles.held live (live_after a.mode b.disk.permanent live (rw (s.mode) at now));
  known = λ now. verdict_known a.mode b.disk.permanent (sym s.mode ∙ now);
}

pub ended_goes : (k : ℕ) (a b : Node) (x n : ℕ) → NothingLive a x n → (s : HearsEnded a b x n)
    → ImageGoes k a b x n s.image
ended_goes k a b x n free s = record {
  drops = s.drops;
  outlets = s.outlets;
  current =
      λ j now. elim (current_after a.mode b.disk.permanent j (rw (s.mode) at now))
      [ inl old ↦ inl old | inr is ↦ inr (is ∙ s.drops.permanent) ];
  none_live = λ live now. free s.image s.drops.held live (live_after a.mode b.disk.permanent live (rw (s.mode) at now));
  known = λ now. verdict_known a.mode b.disk.permanent (sym s.mode ∙ now);
}

pub ask_takes : (net : Net) (k : ℕ) (a b : Node) (x n c m : ℕ) → NodeOk net k a → (s : HearsAsk net k a b x n c m)
    → CurrentIsTaken k a b x n s.current
ask_takes net k a b x n c m ok s = record {
  takes = s.takes;
  running = ap current_of s.running;
  still = ap current_of s.mode ∙ ap current_of s.running;
  outlets = s.outlets;
  own = λ live now. let own = ok.own live (sym (ap live_of s.mode) ∙ now) in absurd (some_not_none s.takes.free own.1);
}

confirms_ok : (net : Net) (k : ℕ) (a b : Node) (p n : ℕ) → NodeOk net k a → HearsSettled a b p n → NodeOk net k b
confirms_ok net k a b p n ok s = record {
  tentative =
      λ x m i held. rw (s.confirms.highest, s.confirms.permanent)
      (ok.tentative x m i (sym s.confirms.tentative ∙ held));
  current = λ i now. rw (s.confirms.permanent) (ok.current i (sym (ap current_of s.mode) ∙ now));
  latest = λ x m i j held now. ok.latest x m i j (sym s.confirms.tentative ∙ held) (sym (ap current_of s.mode) ∙ now);
  used = λ m now. rw (s.confirms.highest) (ok.used m (before m now));
  older = λ m j i held now. ok.older m j i (sym s.confirms.tentative ∙ held) (before j now);
  own = λ live now. let own = ok.own live (sym (ap live_of s.mode) ∙ now) in (own.0, s.confirms.tentative ∙ own.1);
  local = λ c i is image. ok.local c i is (was i image);
  output = λ c i is image. rw (s.outlets) (ok.output c i is (was i image));
  covered = λ c is. rw (s.outlets, s.confirms.permanent) (ok.covered c is);
  log = λ c i image. ok.log c i (was i image);
  doubt = λ now. let in_doubt = ok.doubt (sym s.mode ∙ now) in
      (in_doubt.0, in_doubt.1, in_doubt.2, in_doubt.3, s.confirms.tentative ∙ in_doubt.4);
}
  where
    before : (m : ℕ) → b.disk.decided m ≡ true → a.disk.decided m ≡ true
    before m now =
        elim (same_or_other m n)
        [ inl this ↦ rw this (s.confirms.less (rw this at now)) | inr other ↦ sym (s.confirms.others m other).0 ∙ now ]

    was : (i : Image) → IsImageOf b i → IsImageOf a i
    was i (Permanent same) = Permanent (sym s.confirms.permanent ∙ same)
    was i (Held x m held) = Held x m (sym s.confirms.tentative ∙ held)
    was i (Current now) = Current (sym (ap current_of s.mode) ∙ now)

-- the live instance has another state, and its number
answer_ok : (net : Net) (k : ℕ) (a b : Node) (current : Image) (before later : Live) → NodeOk net k a → Unwritten a b
    → a.mode ≡ Running current (Some before) → b.mode ≡ Running current (Some later)
    → later.number ≡ before.number → NodeOk net k b
answer_ok net k a b current before later ok same was now number =
    images_stay_ok net k a b ok same (ap current_of now ∙ sym (ap current_of was)) own
    (not_in_doubt b.mode current (Some later) now)
  where
    own : (live : Live) → live_of b.mode ≡ Some live → (i : Image) × Holds a.disk k live.number i
    own live is =
        let this : live ≡ later = one_inside is (ap live_of now) in
        let old = ok.own before (ap live_of was) in
        (old.0, rw (this, number) old.1)

-- what a verdict that comes has to bring
abbrev pub Free : Packet → Node → Type 0
Free (Commit x p n) a = NothingLive a x n
Free (Ended x p n) a = NothingLive a x n
Free packet a = Unit {0}

pub hears_ok : (net : Net) (k : ℕ) (packet : Packet) (a b : Node) → NodeOk net k a → Free packet a
    → Hears net k packet a b → NodeOk net k b
hears_ok net k (Kept c m) a b ok free s = trims_ok net k a b c m s.before s.later s.live ok s.trims
    (λ is. absurd (s.cross.apart (one_inside is.to s.cross.to)))
    (λ is. absurd (some_not_none is.to s.cross.to))
hears_ok net k (Ask x n c m) a b ok free s =
    current_is_taken_ok net k a b x n s.current ok (ask_takes net k a b x n c m ok s)
hears_ok net k (Took x n c m needs) a b ok free s =
    answer_ok net k a b s.1.current s.1.before s.1.later ok s.1.same s.1.was s.1.now s.1.number_same
hears_ok net k (Covered x n c m) a b ok free s =
    answer_ok net k a b s.1.current s.1.before s.1.later ok s.1.same s.1.was s.1.now s.1.number_same
hears_ok net k (Query p x n) a b ok free s = absurd s
hears_ok net k (Commit x p n) a b ok free s =
    becomes_permanent_ok net k a b x n s.1.image ok (commit_permanent net k a b x n ok free s.1)
hears_ok net k (Ended x p n) a b ok free s = image_goes_ok net k a b x n s.1.image ok (ended_goes k a b x n free s.1)
hears_ok net k (Settled p x n) a b ok free s = confirms_ok net k a b p n ok s.1

-- a node that holds an image of another's instance has nothing live
free_by_other : (net : Net) (k x n : ℕ) (a : Node) → NodeOk net k a → k ≢ x → NothingLive a x n
free_by_other net k x n a ok other i held live is = let own = ok.own live is in
    other (same_initiator a.disk k live.number x n own.0 i own.1 held)

pub node_hears_ok : (net : Net) (k : ℕ) (packet : Packet) (a b : Node) → NodeOk net k a → IsByOther k packet
    → Hears net k packet a b → NodeOk net k b
node_hears_ok net k (Kept c m) a b ok other s = hears_ok net k (Kept c m) a b ok tt s
node_hears_ok net k (Ask x n c m) a b ok other s = hears_ok net k (Ask x n c m) a b ok tt s
node_hears_ok net k (Took x n c m needs) a b ok other s = hears_ok net k (Took x n c m needs) a b ok tt s
node_hears_ok net k (Covered x n c m) a b ok other s = hears_ok net k (Covered x n c m) a b ok tt s
node_hears_ok net k (Query p x n) a b ok other s = absurd s
node_hears_ok net k (Commit x p n) a b ok other s =
    hears_ok net k (Commit x p n) a b ok (free_by_other net k x n a ok other) s
node_hears_ok net k (Ended x p n) a b ok other s =
    hears_ok net k (Ended x p n) a b ok (free_by_other net k x n a ok other) s
node_hears_ok net k (Settled p x n) a b ok other s = hears_ok net k (Settled p x n) a b ok tt s
