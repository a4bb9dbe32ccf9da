-- What every step leaves true of the world after it: enough for what a packet says to stay true.
use Rattle.std.proofs.Common.{◌≡◌, ◌⊎◌, inl, inr, ℕ, ◌<◌, ◌≤◌, true, false, Option, Some, None, sym, ◌∙◌, subst, arith}
use Rattle.std.specs.Prelude.{◌≢◌}
use Rattle.recovery_line.specs.Images.{Image, AtMost, Net, IsCross}
use Rattle.recovery_line.specs.Records.{Holds}
use Rattle.recovery_line.specs.Nodes.{Answer, Live}
use Rattle.recovery_line.specs.Packets.{Packet, Kept, Ask, Took, Covered, Query, Commit, Ended, Settled}
use Rattle.recovery_line.specs.Worlds.{World, IsLive}
use Rattle.recovery_line.specs.Line.{NotBehind, Over}
use Rattle.recovery_line.specs.Invariant.{AskSays, CoveredSays, TookWhileLive, TookSays, CommitSays, SettledSays, Says}
use Rattle.recovery_line.specs.Laws.{Needed}
use Rattle.recovery_line.proofs.Basics.{false_true, either}

-- The instance was live before it was decided: each question was met by an image or answered by a node
-- that has seen it, and all whom the decision names are takers, which hold it.
pub record WasLive (net : Net) (w v : World) (x n : ℕ) : Type 0 where
  pub live : Live
  pub is : IsLive w x live
  pub number : live.number ≡ n
  pub met : (c p q m : ℕ) (answer : Answer) → IsCross net c p q → live.asks c ≡ Some (m, answer)
      → (n ≤ (w.records p).highest x) ⊎ (m ≤ (w.records p).permanent.sent c)
  pub held : (p : ℕ) → (v.records x).named n p ≡ true
      → (i : Image) × Holds (w.records p) x n i × Holds (v.records p) x n i
  pub takers : (p : ℕ) → (v.records x).named n p ≡ true → live.takes p ≡ true

-- The instance was live before, with these questions or fewer, and whoever else held an image still does.
pub record StillLive (w v : World) (x : ℕ) (now : Live) : Type 0 where
  pub live : Live
  pub is : IsLive w x live
  pub number : live.number ≡ now.number
  pub asks : (c m : ℕ) (answer : Answer) → live.asks c ≡ Some (m, answer)
      → (later : Answer) × (now.asks c ≡ Some (m, later))
  pub holders : (p : ℕ) (i : Image) → p ≢ x → Holds (w.records p) x now.number i
      → Holds (v.records p) x now.number i × ((v.records p).permanent ≡ (w.records p).permanent)

-- an image newly held has a number above the highest seen, and is the node's own or needed
pub record Begins (net : Net) (w v : World) (k x n : ℕ) (i : Image) : Type 0 where
  pub above : (w.records k).highest x < n
  pub why : (k ≡ x) ⊎ Needed net w v k x n i

-- what becomes of a tentative image
pub data Fate (w v : World) (k x n : ℕ) (i : Image) : Type 0 where
  Stays : Holds (v.records k) x n i → Fate w v k x n i
  Settles : (v.records k).tentative ≡ None → (v.records k).permanent ≡ i → Fate w v k x n i
  Goes : (w.records x).decided n ≡ false → Fate w v k x n i

-- a permanent image stays, or was held for an instance that wasn't over
abbrev pub Replaced : World → World → ℕ → Type 0
Replaced w v k =
    ((v.records k).permanent ≡ (w.records k).permanent)
    ⊎ ((x : ℕ) × (n : ℕ) × Holds (w.records k) x n (v.records k).permanent × (Over w x n → ⊥))

pub record Grows (net : Net) (w v : World) : Type 0 where
  pub permanent : (k : ℕ) → AtMost (w.records k).permanent (v.records k).permanent
  pub highest : (k y : ℕ) → (w.records k).highest y ≤ (v.records k).highest y
  pub begins : (k x n : ℕ) (i : Image) → Holds (v.records k) x n i → Holds (w.records k) x n i ⊎ Begins net w v k x n i
  pub fate : (k x n : ℕ) (i : Image) → Holds (w.records k) x n i → Fate w v k x n i
  pub replaced : (k : ℕ) → Replaced w v k
  pub committed : (x n : ℕ) → (v.records x).decided n ≡ true → ((w.records x).decided n ≡ true) ⊎ WasLive net w v x n
  pub names : (x n p : ℕ) (i : Image) → (w.records x).decided n ≡ true → (w.records x).named n p ≡ true
      → Holds (v.records p) x n i → ((v.records x).decided n ≡ true) × ((v.records x).named n p ≡ true)
  pub live : (x : ℕ) (now : Live) → IsLive v x now → StillLive w v x now ⊎ ((w.records x).highest x < now.number)
  pub line : NotBehind w.records v.records

ask_stays : (net : Net) (w v : World) → Grows net w v → (x n c m p q : ℕ) → IsCross net c p q → AskSays w x n c m p
    → AskSays v x n c m p
ask_stays net w v g x n c m p q cross says = record {
  used = let one = says.used in let two = g.highest x x in omega arith;
  asked = λ live is number. still live number (g.live x live is);
  closed = λ now. closed (g.committed x n now);
}
  where
    still : (live : Live) → live.number ≡ n → StillLive w v x live ⊎ ((w.records x).highest x < live.number)
        → (answer : Answer) × (live.asks c ≡ Some (m, answer))
    still live number (inl old) = let was = says.asked old.live old.is (old.number ∙ number) in old.asks c m was.0 was.1
    still live number (inr new) = let one = says.used in absurd (omega arith)

    rises : (n ≤ (w.records p).highest x) ⊎ (m ≤ (w.records p).permanent.sent c)
        → (n ≤ (v.records p).highest x) ⊎ (m ≤ (v.records p).permanent.sent c)
    rises (inl seen) = let one = g.highest p x in inl (omega arith)
    rises (inr put) = let one = (g.permanent p c).2 in inr (omega arith)

    closed : ((w.records x).decided n ≡ true) ⊎ WasLive net w v x n
        → (n ≤ (v.records p).highest x) ⊎ (m ≤ (v.records p).permanent.sent c)
    closed (inl before) = rises (says.closed before)
    closed (inr now) = let ask = says.asked now.live now.is now.number in rises (now.met c p q m ask.0 cross ask.1)

covered_stays : (net : Net) (w v : World) → Grows net w v → (x n c m p : ℕ) → CoveredSays w x n c m p
    → CoveredSays v x n c m p
covered_stays net w v g x n c m p says = record {
  used = let one = says.used in let two = g.highest x x in omega arith;
  asked = λ live is number. still live number (g.live x live is);
  put = let one = says.put in let two = (g.permanent p c).2 in omega arith;
}
  where
    still : (live : Live) → live.number ≡ n → StillLive w v x live ⊎ ((w.records x).highest x < live.number)
        → (answer : Answer) × (live.asks c ≡ Some (m, answer))
    still live number (inl old) = let was = says.asked old.live old.is (old.number ∙ number) in old.asks c m was.0 was.1
    still live number (inr new) = let one = says.used in absurd (omega arith)

took_stays : (net : Net) (w v : World) → ((p x : ℕ) → (w.records p).highest x ≤ (w.records x).highest x) → Grows net w v
    → (x n c m p : ℕ) (needs : ℕ → Option ℕ) → TookSays net w x n c m p needs → TookSays net v x n c m p needs
took_stays net w v used g x n c m p needs says = record {
  seen = let one = says.seen in let two = g.highest p x in omega arith;
  while_live = λ live is number. still live number (g.live x live is);
}
  where
    still : (live : Live) → live.number ≡ n → StillLive w v x live ⊎ ((w.records x).highest x < live.number)
        → TookWhileLive net v x n c m p needs live
    still live number (inr new) = let one = says.seen in let two = used p x in absurd (omega arith)
    still live number (inl old) =
        let was = says.while_live old.live old.is (old.number ∙ number) in
        let ask = old.asks c m was.answer was.asked in
        let on =
        old.holders p was.image was.other
        (subst (λ (j : ℕ). Holds (w.records p) x j was.image) (sym number) was.held) in
        record {
          other = was.other;
          answer = ask.0;
          asked = ask.1;
          image = was.image;
          held = subst (λ (j : ℕ). Holds (v.records p) x j was.image) number on.0;
          above = rw (on.1) was.above;
          within = was.within;
          needs_of = rw (on.1) was.needs_of;
        }

commit_stays : (net : Net) (w v : World) → Grows net w v → (x p n : ℕ) → CommitSays w x p n → CommitSays v x p n
commit_stays net w v g x p n says = record {
  seen = let one = says.seen in let two = g.highest p x in omega arith;
  held = λ i holds. held i holds (g.begins p x n i holds);
}
  where
    held : (i : Image) → Holds (v.records p) x n i → Holds (w.records p) x n i ⊎ Begins net w v p x n i
        → ((v.records x).decided n ≡ true) × ((v.records x).named n p ≡ true)
    held i holds (inl before) = let told = says.held i before in g.names x n p i told.0 told.1 holds
    held i holds (inr new) = let one = says.seen in let two = new.above in absurd (omega arith)

settled_stays : (net : Net) (w v : World) → Grows net w v → (p x n : ℕ) → SettledSays w p x n → SettledSays v p x n
settled_stays net w v g p x n says = record {
  seen = let one = says.seen in let two = g.highest p x in omega arith;
  free = λ i holds. free i (g.begins p x n i holds);
}
  where
    free : (i : Image) → Holds (w.records p) x n i ⊎ Begins net w v p x n i → ⊥
    free i (inl before) = says.free i before
    free i (inr new) = let one = says.seen in let two = new.above in omega arith

pub over_stays : (net : Net) (w v : World) → Grows net w v → (x n : ℕ) → Over w x n → Over v x n
over_stays net w v g x n over = record {
  used = let one = over.used in let two = g.highest x x in omega arith;
  undecided = undecided (either ((v.records x).decided n));
  closed = λ live is number. closed live number (g.live x live is);
}
  where
    begins : ((w.records x).decided n ≡ true) ⊎ WasLive net w v x n → (v.records x).decided n ≡ false
    begins (inl before) = absurd (false_true (sym over.undecided ∙ before))
    begins (inr now) = absurd (over.closed now.live now.is now.number)

    undecided : ((v.records x).decided n ≡ true) ⊎ ((v.records x).decided n ≡ false) → (v.records x).decided n ≡ false
    undecided (inl now) = begins (g.committed x n now)
    undecided (inr never) = never

    closed : (live : Live) → live.number ≡ n → StillLive w v x live ⊎ ((w.records x).highest x < live.number) → ⊥
    closed live number (inl old) = over.closed old.live old.is (old.number ∙ number)
    closed live number (inr new) = let one = over.used in omega arith

pub stays_true : (net : Net) (w v : World) → ((p x : ℕ) → (w.records p).highest x ≤ (w.records x).highest x)
    → Grows net w v → (packet : Packet) → Says net w packet → Says net v packet
stays_true net w v used g (Kept c m) says = λ p q cross. let one = says p q cross in let two = (g.permanent q c).0 in
    omega arith
stays_true net w v used g (Ask x n c m) says = λ p q cross. ask_stays net w v g x n c m p q cross (says p q cross)
stays_true net w v used g (Took x n c m needs) says =
    λ p q cross. took_stays net w v used g x n c m p needs (says p q cross)
stays_true net w v used g (Covered x n c m) says = λ p q cross. covered_stays net w v g x n c m p (says p q cross)
stays_true net w v used g (Query p x n) says = let one = g.highest p x in omega arith
stays_true net w v used g (Commit x p n) says = commit_stays net w v g x p n says
stays_true net w v used g (Ended x p n) says = over_stays net w v g x n says
stays_true net w v used g (Settled p x n) says = settled_stays net w v g p x n says
