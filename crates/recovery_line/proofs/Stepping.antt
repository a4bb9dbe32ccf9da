-- Each step, put together: the world grows, and stays consistent.
use Rattle.std.proofs.Common.{◌≡◌, inl, inr, ℕ, ◌≤◌, Option, Some, None, sym, ap, ◌∙◌, subst, arith}
use Rattle.std.proofs.Math.Path.{fun_ext}
use Rattle.std.specs.Prelude.{◌≢◌}
use Rattle.recovery_line.specs.Images.{Image, Net, IsCross, IsOutput}
use Rattle.recovery_line.specs.Records.{Holds}
use Rattle.recovery_line.specs.Moves.{Drops}
use Rattle.recovery_line.specs.Nodes.{Awaited, Live, Mode, Running, live_of, Node, NodeStep, Work, Trim, Release}
use Rattle.recovery_line.specs.Nodes.{Roll_back, Crash, Restore, Forget, Doubt, Start, Give_up, Conclude}
use Rattle.recovery_line.specs.Packets.{Packet, Kept, Ask, Took, Covered, Query, Commit, Ended, Settled, HearsAsk}
use Rattle.recovery_line.specs.Packets.{HearsTook, HearsCovered, HearsCommit, HearsEnded, HearsSettled, Hears}
use Rattle.recovery_line.specs.Worlds.{World, node_of, IsLive, InFlight, OnlyAt, Sends, Step, Acts, Comes, Send}
use Rattle.recovery_line.specs.Line.{Over}
use Rattle.recovery_line.specs.Invariant.{IsImageOf, Permanent, Held, Current, NodeOk, LiveOk, Agreed, AskSays}
use Rattle.recovery_line.specs.Invariant.{CoveredSays, TookWhileLive, TookSays, CommitSays, SettledSays, Says}
use Rattle.recovery_line.specs.Invariant.{Consistent}
use Rattle.recovery_line.specs.Laws.{Wanted, Needed}
use Rattle.recovery_line.proofs.Basics.{false_true, either, same_or_other, some_not_none, same_initiator, same_number}
use Rattle.recovery_line.proofs.Basics.{live_is}
use Rattle.recovery_line.proofs.OneNode.{record_stays_ok, current_fits, node_step_ok, node_step_grows}
use Rattle.recovery_line.proofs.OneNode.{node_step_outlets}
use Rattle.recovery_line.proofs.OneHears.{NothingLive, Free, live_after, hears_ok}
use Rattle.recovery_line.proofs.Grows.{Grows, stays_true}
use Rattle.recovery_line.proofs.Frames.{everywhere}
use Rattle.recovery_line.proofs.Quiet.{Quiet, quiet_grows, quiet_agrees, hears_grows, hears_agrees}
use Rattle.recovery_line.proofs.Quiet as quiet
use Rattle.recovery_line.proofs.Going.{leaves_grows, leaves_agrees}
use Rattle.recovery_line.proofs.Going as going
use Rattle.recovery_line.proofs.Settling.{confirmed_grows, confirmed_agrees}
use Rattle.recovery_line.proofs.Settling as settling
use Rattle.recovery_line.proofs.Taking.{start_grows, start_agrees, ask_grows, ask_agrees}
use Rattle.recovery_line.proofs.Confirming.{confirms_grows, confirms_agrees}
use Rattle.recovery_line.proofs.Deciding.{decides_grows, decides_agrees}
use Rattle.recovery_line.proofs.Hearing.{same_count, covered_asks, covered_live_ok, took_asks, took_live_ok}
use Rattle.recovery_line.proofs.Logs.{Bounded, step_bounded, hears_bounded}
use Rattle.recovery_line.proofs.Sending.{is_true_when_sent}

pub record Advances (net : Net) (w v : World) : Type 0 where
  pub grows : Grows net w v
  pub agreed : Agreed net v

-- what is live was live, if that is so at the node of the step
live_before : (w v : World) (k : ℕ) → OnlyAt w v k → ((live : Live) → IsLive v k live → IsLive w k live)
    → (y : ℕ) (live : Live) → IsLive v y live → IsLive w y live
live_before w v k at here y live is = elim (same_or_other y k) [
  | inl this ↦ rw this (here live (rw this at is))
  | inr other ↦ rw (at.modes y other) at is
]

-- the records stay, if the one at the node of the step does
pub records_stay : (w v : World) (k : ℕ) → OnlyAt w v k → v.records k ≡ w.records k → v.records ≡ w.records
records_stay w v k at same = fun_ext (everywhere (λ r. r) w v k at.records same)

quietly : (net : Net) (w v : World) (k : ℕ) → Agreed net w → OnlyAt w v k → v.records k ≡ w.records k
    → ((live : Live) → IsLive v k live → IsLive w k live) → Advances net w v
quietly net w v k ok at same here = record { grows = quiet_grows net w v s; agreed = quiet_agrees net w v ok s }
  where
    s : Quiet w v
    s = record { records = records_stay w v k at same; live = live_before w v k at here }

-- an own image goes, of which the instance isn't decided
forgets : (net : Net) (w v : World) (k n : ℕ) (image : Image) → Agreed net w → NodeOk net k (node_of w k)
    → OnlyAt w v k → Drops (w.records k) (v.records k) k n image → live_of (v.modes k) ≡ None → Advances net w v
forgets net w v k n image ok node at drops none =
    record { grows = leaves_grows net w v k k n image ok s; agreed = leaves_agrees net w v k k n image ok s }
  where
    s : going.Leaves w v k k n image
    s = record {
      only = at.records;
      drops = drops;
      undecided = elim (either ((w.records k).decided n)) [
        | inr never ↦ never
        | inl now ↦ let one = node.older n n image drops.held now in absurd (omega arith)
      ];
      live = live_before w v k at (λ live is. absurd (some_not_none none is));
      closed = λ live is. absurd (some_not_none none is);
    }

acts : (net : Net) (w v : World) (k : ℕ) → Consistent net w → OnlyAt w v k → NodeStep net k (node_of w k) (node_of v k)
    → Advances net w v
acts net w v k ok at (Work before later live s) =
    quietly net w v k ok.agreed at s.same.disk (λ l is. ap live_of s.was ∙ live_is (v.modes k) later live l s.now is)
acts net w v k ok at (Trim c to before later live bound s) =
    quietly net w v k ok.agreed at s.same.disk (λ l is. ap live_of s.was ∙ live_is (v.modes k) later live l s.now is)
acts net w v k ok at (Release c current live s) =
    quietly net w v k ok.agreed at s.disk (λ l is. sym (ap live_of s.mode) ∙ is)
acts net w v k ok at (Roll_back current live s) =
    quietly net w v k ok.agreed at s.same.disk (λ l is. absurd (some_not_none (ap live_of s.now) is))
acts net w v k ok at (Crash s) =
    quietly net w v k ok.agreed at s.same.disk (λ l is. absurd (some_not_none (ap live_of s.now) is))
acts net w v k ok at (Restore s) =
    quietly net w v k ok.agreed at s.same.disk (λ l is. absurd (some_not_none (ap live_of s.now) is))
acts net w v k ok at (Forget x n image s) =
    forgets net w v k n image ok.agreed (ok.nodes k) at
    (subst (λ (y : ℕ). Drops (w.records k) (v.records k) y n image) s.own s.drops) (ap live_of s.now)
acts net w v k ok at (Doubt x n image s) =
    quietly net w v k ok.agreed at s.same.disk (λ l is. absurd (some_not_none (ap live_of s.now) is))
acts net w v k ok at (Start current live s) = record {
  grows = start_grows net w v k current live ok.agreed ok.nodes at.records s.takes s.asks s.nobody (ap live_of s.now)
      others;
  agreed =
      start_agrees net w v k current live ok.agreed ok.nodes at.records s.takes s.asks s.nobody (ap live_of s.now)
      others;
}
  where
    others : (y : ℕ) (l : Live) → y ≢ k → IsLive v y l → IsLive w y l
    others y l other is = rw (at.modes y other) at is
acts net w v k ok at (Give_up current image live s) =
    forgets net w v k live.number image ok.agreed (ok.nodes k) at s.drops (ap live_of s.now)
acts net w v k ok at (Conclude current image live s) = record {
  grows = decides_grows net w v k image live ok.agreed ok.nodes at.records (ap live_of s.was) s.answered s.decides
      others;
  agreed =
      decides_agrees net w v k image live ok.agreed ok.nodes at.records (ap live_of s.was) s.answered s.decides others;
}
  where
    others : (y : ℕ) (l : Live) → IsLive v y l → (y ≢ k) × IsLive w y l
    others y l is = elim (same_or_other y k) [
      | inl this ↦ absurd (some_not_none (ap live_of s.now) (rw this at is))
      | inr other ↦ (other, rw (at.modes y other) at is)
    ]

-- while the instance is live, the count of an Ask was received by one of its images
pub wanted : (net : Net) (w : World) (x n c m p q : ℕ) → Agreed net w → IsCross net c p q → AskSays w x n c m p
    → (live : Live) → IsLive w x live → live.number ≡ n → Wanted net w x n c m
wanted net w x n c m p q ok cross says live is number =
    let ask = says.asked live is number in
    let one = ok.live x live is in
    let was = one.1.witnessed c m ask.0 ask.1 in
    record {
      live = live;
      is = is;
      number = number;
      by = was.1;
      to = was.3.to;
      image = was.2;
      held = subst (λ (j : ℕ). Holds (w.records was.1) x j was.2) number was.5;
      one_of = was.4;
      received = was.6;
    }

asked : (net : Net) (w v : World) (k x n c m : ℕ) → Consistent net w → OnlyAt w v k → InFlight w (Ask x n c m)
    → HearsAsk net k (node_of w k) (node_of v k) x n c m → Advances net w v
asked net w v k x n c m ok at flight s = record {
  grows = ask_grows net w v k x n c m s.to s.current ok.agreed says at.records s.takes s.cross s.above why same;
  agreed = ask_agrees net w v k x n c m s.to s.current ok.agreed says at.records s.takes s.cross s.above why same;
}
  where
    says : AskSays w x n c m k
    says = ok.packets (Ask x n c m) flight k s.to s.cross

    why : Needed net w v k x n s.current
    why = record {
      channel = c;
      count = m;
      to = s.to;
      cross = s.cross;
      asked = flight;
      above = s.above;
      within = s.within;
      wanted = wanted net w x n c m k s.to ok.agreed s.cross says;
    }

    same : (y : ℕ) (live : Live) → IsLive v y live → IsLive w y live
    same = live_before w v k at (λ live is. sym (ap live_of s.mode) ∙ is)

-- an answer comes: the questions of the live instance change
answered : (net : Net) (w v : World) (k : ℕ) (current : Image) (before later : Live) → Agreed net w → OnlyAt w v k
    → v.records k ≡ w.records k → w.modes k ≡ Running current (Some before) → v.modes k ≡ Running current (Some later)
    → later.number ≡ before.number
    → ((c m : ℕ) (answer : _) → before.asks c ≡ Some (m, answer) → (next : _) × (later.asks c ≡ Some (m, next)))
    → ((own : Image) → LiveOk net w.records k own before → LiveOk net w.records k own later) → Advances net w v
answered net w v k current before later ok at same was now number asks fine = record {
  grows = hears_grows net w v k before later s;
  agreed = let one = ok.live k before (ap live_of was) in
      hears_agrees net w v k one.0 before later ok s (fine one.0 one.1);
}
  where
    s : quiet.Learns w v k before later
    s = record {
      records = records_stay w v k at same;
      was = ap live_of was;
      now = ap live_of now;
      number = number;
      asks = asks;
      others = λ y live other is. rw (at.modes y other) at is;
    }

took : (net : Net) (w v : World) (k n c m : ℕ) (needs : ℕ → Option ℕ) → Agreed net w → OnlyAt w v k
    → (s : HearsTook net k (node_of w k) (node_of v k) n c needs) → TookSays net w k n c m s.from needs
    → Advances net w v
took net w v k n c m needs ok at s says =
    answered net w v k s.current s.before s.later ok at s.same.disk s.was s.now s.number_same
    (took_asks net w v k n c needs own s told own_ok) fine
  where
    before : IsLive w k s.before
    before = ap live_of s.was

    own : Image
    own = (ok.live k s.before before).0

    own_ok : LiveOk net w.records k own s.before
    own_ok = (ok.live k s.before before).1

    says_m : TookWhileLive net w k s.before.number c m s.from needs s.before
    says_m =
        subst (λ (j : ℕ). TookWhileLive net w k j c m s.from needs s.before) (sym s.number)
        (says.while_live s.before before s.number)

    told : TookWhileLive net w k s.before.number c s.count s.from needs s.before
    told = subst (λ (j : ℕ). TookWhileLive net w k s.before.number c j s.from needs s.before)
        (same_count m s.count says_m.answer s.answer says_m.asked s.asked) says_m

    fine : (i : Image) → LiveOk net w.records k i s.before → LiveOk net w.records k i s.later
    fine i is = took_live_ok net w v k n c needs i s told is

covered : (net : Net) (w v : World) (k n c m : ℕ) → Agreed net w → OnlyAt w v k
    → (s : HearsCovered (node_of w k) (node_of v k) n c) → ((p q : ℕ) → IsCross net c p q → CoveredSays w k n c m p)
    → Advances net w v
covered net w v k n c m ok at s says =
    answered net w v k s.current s.before s.later ok at s.same.disk s.was s.now s.number_same
    (covered_asks net w v k n c (ok.live k s.before before).0 s put (ok.live k s.before before).1)
    (λ i is. covered_live_ok net w v k n c i s put is)
  where
    before : IsLive w k s.before
    before = ap live_of s.was

    put : (p q : ℕ) → IsCross net c p q → s.count ≤ (w.records p).permanent.sent c
    put p q cross =
        let told = says p q cross in
        let ask = told.asked s.before before s.number in
        let count = same_count m s.count ask.0 Awaited ask.1 s.asked in
        let one = told.put in
        omega arith

committed : (net : Net) (w v : World) (k x n : ℕ) → Consistent net w → OnlyAt w v k
    → (s : HearsCommit (node_of w k) (node_of v k) x n) → CommitSays w x k n → Advances net w v
committed net w v k x n ok at s says =
    record {
      grows = confirmed_grows net w v k x n s.image ok.agreed c;
      agreed =
          confirmed_agrees net w v k x n s.image ok.agreed c;
    }
  where
    c : settling.Confirmed w v k x n s.image
    c = record {
      only = at.records;
      settles = s.settles;
      decided = (says.held s.image s.settles.held).0;
      after = ((ok.nodes k).tentative x n s.image s.settles.held).1;
      live = live_before w v k at
          (λ live is. live_after (w.modes k) (v.records k).permanent live (sym (ap live_of s.mode) ∙ is));
    }

ended : (net : Net) (w v : World) (k x n : ℕ) → Agreed net w → OnlyAt w v k
    → HearsEnded (node_of w k) (node_of v k) x n → Over w x n → Advances net w v
ended net w v k x n ok at s over =
    record { grows = leaves_grows net w v k x n s.image ok l; agreed = leaves_agrees net w v k x n s.image ok l }
  where
    before : (y : ℕ) (live : Live) → IsLive v y live → IsLive w y live
    before =
        live_before w v k at
        (λ live is. live_after (w.modes k) (v.records k).permanent live (sym (ap live_of s.mode) ∙ is))

    l : going.Leaves w v k x n s.image
    l = record {
      only = at.records;
      drops = s.drops;
      undecided = over.undecided;
      live = before;
      closed =
          λ live is. over.closed live (before x live is);
    }

settled : (net : Net) (w v : World) (k p n : ℕ) → Consistent net w → OnlyAt w v k
    → HearsSettled (node_of w k) (node_of v k) p n → SettledSays w p k n → Advances net w v
settled net w v k p n ok at s says = record {
  grows = confirms_grows net w v k p n ok.agreed ok.nodes says at.records s.confirms same;
  agreed = confirms_agrees net w v k p n ok.agreed ok.nodes says at.records s.confirms same;
}
  where
    same : (y : ℕ) (live : Live) → IsLive v y live → IsLive w y live
    same = live_before w v k at (λ live is. sym (ap live_of s.mode) ∙ is)

comes : (net : Net) (w v : World) (k : ℕ) (packet : Packet) → Consistent net w → OnlyAt w v k → InFlight w packet
    → Hears net k packet (node_of w k) (node_of v k) → Advances net w v
comes net w v k (Kept c m) ok at flight s =
    quietly net w v k ok.agreed at s.trims.same.disk
    (λ l is. ap live_of s.trims.was ∙ live_is (v.modes k) s.later s.live l s.trims.now is)
comes net w v k (Ask x n c m) ok at flight s = asked net w v k x n c m ok at flight s
comes net w v k (Took x n c m needs) ok at flight s =
    took net w v k n c m needs ok.agreed at s.1
    (subst (λ (y : ℕ). TookSays net w y n c m s.1.from needs) s.0
    (ok.packets (Took x n c m needs) flight s.1.from s.1.to s.1.cross))
comes net w v k (Covered x n c m) ok at flight s =
    covered net w v k n c m ok.agreed at s.1
    (λ p q cross. subst (λ (y : ℕ). CoveredSays w y n c m p) s.0 (ok.packets (Covered x n c m) flight p q cross))
comes net w v k (Query p x n) ok at flight s = absurd s
comes net w v k (Commit x p n) ok at flight s =
    committed net w v k x n ok at s.1 (subst (λ (j : ℕ). CommitSays w x j n) s.0 (ok.packets (Commit x p n) flight))
comes net w v k (Ended x p n) ok at flight s = ended net w v k x n ok.agreed at s.1 (ok.packets (Ended x p n) flight)
comes net w v k (Settled p x n) ok at flight s =
    settled net w v k p n ok at s.1 (subst (λ (y : ℕ). SettledSays w p y n) s.0 (ok.packets (Settled p x n) flight))

sends : (net : Net) (w v : World) → Agreed net w → Sends net w v → Advances net w v
sends net w v ok s = record { grows = quiet_grows net w v q; agreed = quiet_agrees net w v ok q }
  where
    q : Quiet w v
    q = record
        { records = s.records; live = λ y live is. ap (λ (modes : ℕ → Mode). live_of (modes y)) (sym s.modes) ∙ is }

pub advances : (net : Net) (w v : World) → Consistent net w → Step net w v → Advances net w v
advances net w v ok (Acts k at s) = acts net w v k ok at s
advances net w v ok (Comes k packet flight at s) = comes net w v k packet ok at flight s
advances net w v ok (Send s) = sends net w v ok.agreed s

-- another node is as it was, and so are its outlets
other_ok : (net : Net) (w v : World) (k : ℕ) → Consistent net w → OnlyAt w v k → ((c : ℕ) → w.outlets c ≤ v.outlets c)
    → ((c j : ℕ) → j ≢ k → IsOutput net c j → v.outlets c ≡ w.outlets c)
    → (j : ℕ) → j ≢ k → NodeOk net j (node_of v j)
other_ok net w v k ok at grows outlets j other =
    record_stays_ok net j (node_of w j) (node_of v j) (ok.nodes j) (record {
      disk = at.records j other;
      outlets = grows;
      covered = λ c is. let same = outlets c j other is in let one = (ok.nodes j).covered c is in omega arith;
      current =
          λ i now. current_fits net j (node_of w j) (node_of v j) i (ok.nodes j) grows (rw (at.modes j other) at now);
      own = λ live is. (ok.nodes j).own live (rw (at.modes j other) at is);
      doubt = λ now. (ok.nodes j).doubt (rw (at.modes j other) at now);
    })

-- the images of another node are those that it had
other_images : (w v : World) (k j : ℕ) → OnlyAt w v k → j ≢ k → (i : Image) → IsImageOf (node_of v j) i
    → IsImageOf (node_of w j) i
other_images w v k j at other i (Permanent same) = Permanent (rw (at.records j other) at same)
other_images w v k j at other i (Held x n held) = Held x n (rw (at.records j other) at held)
other_images w v k j at other i (Current now) = Current (rw (at.modes j other) at now)

-- what is left to show of a step at one node: that node, its logs and the outlets
consistent_at : (net : Net) (w v : World) (k : ℕ) → Consistent net w → OnlyAt w v k → Advances net w v
    → NodeOk net k (node_of v k) → ((i : Image) → IsImageOf (node_of v k) i → Bounded net k w i)
    → ((c : ℕ) → w.outlets c ≤ v.outlets c) → ((c j : ℕ) → j ≢ k → IsOutput net c j → v.outlets c ≡ w.outlets c)
    → Consistent net v
consistent_at net w v k ok at advance node bounded grows outlets = record {
  nodes = λ j. elim (same_or_other j k)
      [ inl this ↦ rw this node | inr other ↦ other_ok net w v k ok at grows outlets j other ];
  agreed = advance.agreed;
  logs = λ c p q i cross is.
      let rises = (advance.grows.permanent q c).0 in
      elim (same_or_other p k) [
        | inl this ↦ let one = (bounded i (rw this at is)).base c q (rw this at cross) in omega arith
        | inr other ↦ let one = ok.logs c p q i cross (other_images w v k p at other i is) in omega arith
      ];
  packets =
      λ packet flight. stays_true net w v ok.agreed.highest advance.grows packet
      (ok.packets packet (at.flight packet flight));
}

logs_at : (net : Net) (w : World) (k : ℕ) → Consistent net w → (i : Image) → IsImageOf (node_of w k) i
    → Bounded net k w i
logs_at net w k ok i is = record { base = λ c q cross. ok.logs c k q i cross is }

-- no packet that comes changes an outlet
pub hears_outlets : (net : Net) (k : ℕ) (packet : Packet) (a b : Node) → Hears net k packet a b → b.outlets ≡ a.outlets
hears_outlets net k (Kept c m) a b s = s.trims.same.outlets
hears_outlets net k (Ask x n c m) a b s = s.outlets
hears_outlets net k (Took x n c m needs) a b s = s.1.same.outlets
hears_outlets net k (Covered x n c m) a b s = s.1.same.outlets
hears_outlets net k (Query p x n) a b s = absurd s
hears_outlets net k (Commit x p n) a b s = s.1.outlets
hears_outlets net k (Ended x p n) a b s = s.1.outlets
hears_outlets net k (Settled p x n) a b s = s.1.outlets

-- what a Kept says bounds the log that it trims
kept_says : (net : Net) (w : World) (k : ℕ) (packet : Packet) → Says net w packet → (c m : ℕ) → packet ≡ Kept c m
    → (q : ℕ) → IsCross net c k q → m ≤ (w.records q).permanent.received c
kept_says net w k packet says c m this q cross = told k q cross
  where
    told : Says net w (Kept c m)
    told = rw this at says

-- a node that holds an image of a committed instance, or of one that is over, has nothing live
committed_free : (net : Net) (w : World) (k x n : ℕ) → Agreed net w → CommitSays w x k n → NothingLive (node_of w k) x n
committed_free net w k x n ok says i held live is =
    let own = (ok.live k live is).1 in
    let this = same_initiator (w.records k) k live.number x n (ok.live k live is).0 i own.held held in
    let number = same_number (w.records k) k live.number x n (ok.live k live is).0 i own.held held in
    false_true (sym own.undecided ∙ (rw (← this, ← number) at (says.held i held).0))

over_free : (net : Net) (w : World) (k x n : ℕ) → Agreed net w → Over w x n → NothingLive (node_of w k) x n
over_free net w k x n ok over i held live is =
    let own = (ok.live k live is).1 in
    let this = same_initiator (w.records k) k live.number x n (ok.live k live is).0 i own.held held in
    over.closed live (rw this at is) (same_number (w.records k) k live.number x n (ok.live k live is).0 i own.held held)

verdict_free : (net : Net) (w : World) (k : ℕ) (packet : Packet) (a b : Node) → Agreed net w → Says net w packet
    → Hears net k packet a b → Free packet (node_of w k)
verdict_free net w k (Kept c m) a b ok says s = tt
verdict_free net w k (Ask x n c m) a b ok says s = tt
verdict_free net w k (Took x n c m needs) a b ok says s = tt
verdict_free net w k (Covered x n c m) a b ok says s = tt
verdict_free net w k (Query p x n) a b ok says s = tt
verdict_free net w k (Commit x p n) a b ok says s =
    committed_free net w k x n ok (subst (λ (j : ℕ). CommitSays w x j n) s.0 says)
verdict_free net w k (Ended x p n) a b ok says s = over_free net w k x n ok says
verdict_free net w k (Settled p x n) a b ok says s = tt

pub step_consistent : (net : Net) (w v : World) → Consistent net w → Step net w v → Consistent net v
step_consistent net w v ok (Acts k at s) =
    consistent_at net w v k ok at (acts net w v k ok at s)
    (node_step_ok net k (node_of w k) (node_of v k) (ok.nodes k) s)
    (step_bounded net w k (node_of v k) (ok.nodes k) (logs_at net w k ok) s)
    (node_step_grows net k (node_of w k) (node_of v k) (ok.nodes k) s).1
    (node_step_outlets net k (node_of w k) (node_of v k) s)
step_consistent net w v ok (Comes k packet flight at s) =
    consistent_at net w v k ok at (comes net w v k packet ok at flight s)
    (hears_ok net k packet (node_of w k) (node_of v k) (ok.nodes k) free s)
    (hears_bounded net w k (node_of v k) (ok.nodes k) (logs_at net w k ok) packet free
    (kept_says net w k packet (ok.packets packet flight)) s)
    (λ c. let e = ap (λ (f : ℕ → ℕ). f c) same in omega arith) (λ c j other is. ap (λ (f : ℕ → ℕ). f c) same)
  where
    same : v.outlets ≡ w.outlets
    same = hears_outlets net k packet (node_of w k) (node_of v k) s

    free : Free packet (node_of w k)
    free = verdict_free net w k packet (node_of w k) (node_of v k) ok.agreed (ok.packets packet flight) s
step_consistent net w v ok (Send s) = record {
  nodes = λ j. rw (s.records, s.modes, s.outlets) (ok.nodes j);
  agreed = (sends net w v ok.agreed s).agreed;
  logs = rw (s.records, s.modes, s.outlets) ok.logs;
  packets = λ packet flight. elim (s.flight packet flight) [
    | inl before ↦ stays_true net w v ok.agreed.highest (sends net w v ok.agreed s).grows packet
        (ok.packets packet before)
    | inr new ↦ stays_true net w v ok.agreed.highest (sends net w v ok.agreed s).grows packet
        (is_true_when_sent net w packet ok new)
  ];
}
