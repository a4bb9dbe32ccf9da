-- No log that leads to another node is trimmed further than that node's permanent image got.
use Rattle.std.proofs.Common.{◌≡◌, inl, inr, ℕ, ◌≤◌, Some, None, refl, sym, ap, ◌∙◌, arith}
use Rattle.recovery_line.specs.Images.{Image, Net, IsCross}
use Rattle.recovery_line.specs.Nodes.{Running, current_of, Node, Unneeded, Got, Released, NodeStep, Work, Trim, Release}
use Rattle.recovery_line.specs.Nodes.{Roll_back, Crash, Restore, Forget, Doubt, Start, Give_up, Conclude}
use Rattle.recovery_line.specs.Packets.{Packet, Kept, Ask, Took, Covered, Query, Commit, Ended, Settled, Hears}
use Rattle.recovery_line.specs.Worlds.{World, node_of}
use Rattle.recovery_line.specs.Invariant.{IsImageOf, Permanent, Held, Current, NodeOk}
use Rattle.recovery_line.proofs.Basics.{same_or_other, some_not_none, one_inside, current_is}
use Rattle.recovery_line.proofs.OneNode.{image_was_there, permanent_was_there, taken_was_there, forget_goes}
use Rattle.recovery_line.proofs.OneNode.{give_up_goes, start_takes, conclude_permanent}
use Rattle.recovery_line.proofs.OneHears.{Free, commit_permanent, ended_goes, ask_takes}

-- an image of the node before, whose logs to other nodes reached no further back
pub record Reaches (net : Net) (k : ℕ) (a : Node) (i : Image) : Type 0 where
  pub image : Image
  pub is : IsImageOf a image
  pub base : (c q : ℕ) → IsCross net c k q → i.base c ≤ image.base c

itself : (net : Net) (k : ℕ) (a : Node) (i : Image) → IsImageOf a i → Reaches net k a i
itself net k a i is = record { image = i; is = is; base = λ c q cross. omega arith }

-- where the record stays, whatever becomes current
with_record : (net : Net) (k : ℕ) (a b : Node) → b.disk ≡ a.disk
    → ((j : Image) → current_of b.mode ≡ Some j → Reaches net k a j) → (i : Image) → IsImageOf b i → Reaches net k a i
with_record net k a b same current i (Permanent is) = itself net k a i (Permanent (rw same at is))
with_record net k a b same current i (Held x n held) = itself net k a i (Held x n (rw same at held))
with_record net k a b same current i (Current now) = current i now

-- it is as before, or the permanent image, or none
as_before : (net : Net) (k : ℕ) (a b : Node) → b.disk ≡ a.disk → current_of b.mode ≡ current_of a.mode → (i : Image)
    → IsImageOf b i → Reaches net k a i
as_before net k a b same mode = with_record net k a b same (λ j now. itself net k a j (Current (sym mode ∙ now)))

on_permanent : (net : Net) (k : ℕ) (a b : Node) → b.disk ≡ a.disk → b.mode ≡ Running a.disk.permanent None
    → (i : Image) → IsImageOf b i → Reaches net k a i
on_permanent net k a b same mode =
    with_record net k a b same
    (λ j now. itself net k a j (Permanent (sym (current_is b.mode a.disk.permanent j None mode now))))

without : (net : Net) (k : ℕ) (a b : Node) → b.disk ≡ a.disk → current_of b.mode ≡ None → (i : Image) → IsImageOf b i
    → Reaches net k a i
without net k a b same mode = with_record net k a b same (λ j now. absurd (some_not_none mode now))

-- a log that was trimmed by itself leads to no other node
not_cross : (net : Net) (k : ℕ) (a : Node) (current : Image) (c to q : ℕ) → Unneeded net k a current c to
    → IsCross net c k q → ⊥
not_cross net k a current c to q (Got local le) cross = cross.apart (one_inside local.to cross.to)
not_cross net k a current c to q (Released output le) cross = some_not_none output.to cross.to

pub step_reaches : (net : Net) (k : ℕ) (a b : Node) → NodeOk net k a → NodeStep net k a b → (i : Image) → IsImageOf b i
    → Reaches net k a i
step_reaches net k a b ok (Work before later live s) = with_record net k a b s.same.disk (λ j now. record {
  image = before;
  is = Current (ap current_of s.was);
  base = λ c q cross. let this = current_is b.mode later j live s.now now in rw this (elim (s.base c) [
    | inl stays ↦ (omega arith)
    | inr goes ↦ absurd (cross.apart (one_inside goes.0.to cross.to))
  ]);
})
step_reaches net k a b ok (Trim c to before later live bound s) = with_record net k a b s.same.disk (λ j now. record {
  image = before;
  is = Current (ap current_of s.was);
  base = λ d q cross. let this = current_is b.mode later j live s.now now in rw this (elim (same_or_other d c) [
    | inl same ↦ absurd (not_cross net k a before c to q bound (rw same at cross))
    | inr other ↦ let same = s.others d other in omega arith
  ]);
})
step_reaches net k a b ok (Release c current live s) = as_before net k a b s.disk (ap current_of s.mode)
step_reaches net k a b ok (Roll_back current live s) = on_permanent net k a b s.same.disk s.now
step_reaches net k a b ok (Crash s) = without net k a b s.same.disk (ap current_of s.now)
step_reaches net k a b ok (Restore s) = on_permanent net k a b s.same.disk s.now
step_reaches net k a b ok (Forget x n image s) =
    λ i is. itself net k a i (image_was_there k a b x n image (forget_goes k a b x n image s) i is)
step_reaches net k a b ok (Doubt x n image s) = without net k a b s.same.disk (ap current_of s.now)
step_reaches net k a b ok (Start current live s) =
    λ i is. itself net k a i (taken_was_there k a b k live.number current (start_takes net k a b current live s) i is)
step_reaches net k a b ok (Give_up current image live s) =
    λ i is. itself net k a i (image_was_there k a b k live.number image (give_up_goes k a b current image live s) i is)
step_reaches net k a b ok (Conclude current image live s) =
    λ i is. itself net k a i
    (permanent_was_there k a b k live.number image (conclude_permanent net k a b current image live ok s) i is)

-- a Kept that came bounds the one log that it trims
pub record Bounded (net : Net) (k : ℕ) (w : World) (i : Image) : Type 0 where
  pub base : (c q : ℕ) → IsCross net c k q → i.base c ≤ (w.records q).permanent.received c

pub settled_was_there : (a b : Node) → b.disk.permanent ≡ a.disk.permanent → b.disk.tentative ≡ a.disk.tentative
    → b.mode ≡ a.mode → (i : Image) → IsImageOf b i → IsImageOf a i
settled_was_there a b permanent tentative mode i (Permanent same) = Permanent (sym permanent ∙ same)
settled_was_there a b permanent tentative mode i (Held x n held) = Held x n (sym tentative ∙ held)
settled_was_there a b permanent tentative mode i (Current now) = Current (sym (ap current_of mode) ∙ now)

-- the images of a node to which a packet comes that trims nothing
module _ (net : Net) (w : World) (k : ℕ) (b : Node) (ok : NodeOk net k (node_of w k))
    (logs : (i : Image) → IsImageOf (node_of w k) i → Bounded net k w i) where
  bounded : (i : Image) → Reaches net k (node_of w k) i → Bounded net k w i
  bounded i reaches =
      record {
        base = λ c q cross. let one = reaches.base c q cross in let two =
            (logs reaches.image reaches.is).base c q cross in omega arith;
      }

  pub step_bounded : NodeStep net k (node_of w k) b → (i : Image) → IsImageOf b i → Bounded net k w i
  step_bounded s i is = bounded i (step_reaches net k (node_of w k) b ok s i is)

  pub hears_bounded : (packet : Packet) → Free packet (node_of w k)
      → ((c m : ℕ) → packet ≡ Kept c m → (q : ℕ) → IsCross net c k q → m ≤ (w.records q).permanent.received c)
      → Hears net k packet (node_of w k) b → (i : Image) → IsImageOf b i → Bounded net k w i
  hears_bounded (Kept c m) free says s = with_bound
    where
      before : Bounded net k w s.before
      before = logs s.before (Current (ap current_of s.trims.was))

      with_bound : (i : Image) → IsImageOf b i → Bounded net k w i
      with_bound i (Permanent is) = logs i (Permanent (rw (s.trims.same.disk) at is))
      with_bound i (Held x n held) = logs i (Held x n (rw (s.trims.same.disk) at held))
      with_bound i (Current now) = let this = current_is b.mode s.later i s.live s.trims.now now in record {
        base = λ d q cross. rw this (elim (same_or_other d c) [
          | inl same ↦ let one = s.trims.base in let two = says c m refl q (rw same at cross) in rw same (omega arith)
          | inr other ↦ let one = s.trims.others d other in let two = before.base d q cross in omega arith
        ]);
      }
  hears_bounded (Ask x n c m) free says s =
      λ i is. logs i
      (taken_was_there k (node_of w k) b x n s.current (ask_takes net k (node_of w k) b x n c m ok s) i is)
  hears_bounded (Took x n c m needs) free says s =
      λ i is. bounded i
      (as_before net k (node_of w k) b s.1.same.disk (ap current_of s.1.now ∙ sym (ap current_of s.1.was)) i is)
  hears_bounded (Covered x n c m) free says s =
      λ i is. bounded i
      (as_before net k (node_of w k) b s.1.same.disk (ap current_of s.1.now ∙ sym (ap current_of s.1.was)) i is)
  hears_bounded (Query p x n) free says s = absurd s
  hears_bounded (Commit x p n) free says s =
      λ i is. logs i
      (permanent_was_there k (node_of w k) b x n s.1.image (commit_permanent net k (node_of w k) b x n ok free s.1) i
      is)
  hears_bounded (Ended x p n) free says s =
      λ i is. logs i (image_was_there k (node_of w k) b x n s.1.image (ended_goes k (node_of w k) b x n free s.1) i is)
  hears_bounded (Settled p x n) free says s =
      λ i is. logs i (settled_was_there (node_of w k) b s.1.confirms.permanent s.1.confirms.tentative s.1.mode i is)
