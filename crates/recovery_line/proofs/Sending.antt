-- What a node sends is true when it is sent.
use Rattle.std.proofs.Common.{◌≡◌, inl, inr, ℕ, ◌≤◌, Option, sym, ◌∙◌, arith}
use Rattle.recovery_line.specs.Images.{Image, Net, IsCross}
use Rattle.recovery_line.specs.Records.{Holds}
use Rattle.recovery_line.specs.Nodes.{Awaited}
use Rattle.recovery_line.specs.Packets.{Packet, Kept, Ask, Took, Covered, Query, Commit, Ended, Settled}
use Rattle.recovery_line.specs.Worlds.{World, SendsKept, SendsAsk, SendsTook, SendsCommit, MaySend}
use Rattle.recovery_line.specs.Invariant.{AskSays, TookSays, CommitSays, Says, Consistent}
use Rattle.recovery_line.proofs.Basics.{false_true, same_or_other, one_inside}

module _ (net : Net) (w : World) (ok : Consistent net w) where
  -- whoever holds an image has seen its number
  seen : (p x n : ℕ) (i : Image) → Holds (w.records p) x n i → n ≤ (w.records p).highest x
  seen p x n i held = let one = ((ok.nodes p).tentative x n i held).0 in omega arith

  kept_says : (c m : ℕ) → SendsKept net w c m → (p q : ℕ) → IsCross net c p q → m ≤ (w.records q).permanent.received c
  kept_says c m s p q cross = let same = one_inside cross.to s.to in rw same (let one = s.count in omega arith)

  ask_says : (x n c m : ℕ) → SendsAsk w x n c m → (p : ℕ) → AskSays w x n c m p
  ask_says x n c m s p = record {
    used = let one = ok.agreed.live x s.live s.is in let two = seen x x s.live.number one.0 one.1.held in let three =
        s.number in omega arith;
    asked = λ live is number. let same = one_inside is s.is in (Awaited, rw same s.asked);
    closed = λ decided. let one = ok.agreed.live x s.live s.is in
        absurd (false_true (sym one.1.undecided ∙ (rw (s.number) decided)));
  }

  took_says : (x n c m : ℕ) (needs : ℕ → Option ℕ) → SendsTook net w x n c m needs → (p q : ℕ) → IsCross net c p q
      → TookSays net w x n c m p needs
  took_says x n c m needs s p q cross = rw (one_inside cross.from s.cross.from) (record {
    seen = seen s.node x n s.image s.held;
    while_live = λ live is number.
        let ask = (ok.packets (Ask x n c m) s.asked s.node s.to s.cross).asked live is number in
        let one = ok.agreed.live x live is in
        let was = one.1.witnessed c m ask.0 ask.1 in
        let from : was.0 ≡ s.node = one_inside was.3.from s.cross.from in
        record {
          other = rw from at was.7;
          answer = ask.0;
          asked = ask.1;
          image = s.image;
          held = s.held;
          above =
              s.above;
          within = s.within;
          needs_of = s.needs_of;
        };
  })

  commit_says : (x p n : ℕ) → SendsCommit w x p n → CommitSays w x p n
  commit_says x p n s = record {
    seen = elim s.why [
      | inl named ↦ ok.agreed.named x n p s.decided named
      | inr query ↦ ok.packets (Query p x n) query
    ];
    held = λ i held. (
      s.decided,
      elim (same_or_other p x) [
        | inl this ↦ let one = (ok.nodes x).older n n i (rw this at held) s.decided in absurd (omega arith)
        | inr other ↦ ok.agreed.holders x n p i other held s.decided
      ],
    );
  }

pub is_true_when_sent : (net : Net) (w : World) (packet : Packet) → Consistent net w → MaySend net w packet
    → Says net w packet
is_true_when_sent net w (Kept c m) ok s = kept_says net w ok c m s
is_true_when_sent net w (Ask x n c m) ok s = λ p q cross. ask_says net w ok x n c m s p
is_true_when_sent net w (Took x n c m needs) ok s = took_says net w ok x n c m needs s
is_true_when_sent net w (Covered x n c m) ok s = λ p q cross. let ask = ok.packets (Ask x n c m) s.asked p q cross in
    let same = one_inside cross.from s.from in record { used = ask.used; asked = ask.asked; put = rw same s.put }
is_true_when_sent net w (Query p x n) ok s = seen net w ok p x n s.image s.held
is_true_when_sent net w (Commit x p n) ok s = commit_says net w ok x p n s
is_true_when_sent net w (Ended x p n) ok s = record { used = s.used; undecided = s.undecided; closed = s.closed }
is_true_when_sent net w (Settled p x n) ok s = record { seen = s.seen; free = s.free }
