-- Each step writes at most one record, and not in the step that appends to an outlet.
use Rattle.std.proofs.Common.{◌≡◌, ◌⊎◌, inl, inr, ℕ, ap}
use Rattle.recovery_line.specs.Images.{Net}
use Rattle.recovery_line.specs.Records.{Record}
use Rattle.recovery_line.specs.Moves.{Move, Take, Decide, Settle, Drop, Confirm}
use Rattle.recovery_line.specs.Nodes.{Node, NodeStep, Work, Trim, Release, Roll_back, Crash, Restore, Forget, Doubt}
use Rattle.recovery_line.specs.Nodes.{Start, Give_up, Conclude}
use Rattle.recovery_line.specs.Packets.{Packet, Kept, Ask, Took, Covered, Query, Commit, Ended, Settled, Hears}
use Rattle.recovery_line.specs.Worlds.{World, node_of, OnlyAt, Step, Acts, Comes, Send}
use Rattle.recovery_line.specs.Laws.{AtMostOneMove}
use Rattle.recovery_line.proofs.Stepping.{records_stay}

-- the record stays, or is written once while the outlets stay
Once : Node → Node → Type 0
Once a b = (b.disk ≡ a.disk) ⊎ (Move a.disk b.disk × (b.outlets ≡ a.outlets))

step_once : (net : Net) (k : ℕ) (a b : Node) → NodeStep net k a b → Once a b
unfolding Once
step_once net k a b (Work before later live s) = inl s.same.disk
step_once net k a b (Trim c to before later live bound s) = inl s.same.disk
step_once net k a b (Release c current live s) = inl s.disk
step_once net k a b (Roll_back current live s) = inl s.same.disk
step_once net k a b (Crash s) = inl s.same.disk
step_once net k a b (Restore s) = inl s.same.disk
step_once net k a b (Forget x n image s) = inr (Drop x n image s.drops, s.outlets)
step_once net k a b (Doubt x n image s) = inl s.same.disk
step_once net k a b (Start current live s) = inr (Take k live.number current s.takes, s.outlets)
step_once net k a b (Give_up current image live s) = inr (Drop k live.number image s.drops, s.outlets)
step_once net k a b (Conclude current image live s) = inr (Decide k live.number image live.takes s.decides, s.outlets)

hears_once : (net : Net) (k : ℕ) (packet : Packet) (a b : Node) → Hears net k packet a b → Once a b
unfolding Once
hears_once net k (Kept c m) a b s = inl s.trims.same.disk
hears_once net k (Ask x n c m) a b s = inr (Take x n s.current s.takes, s.outlets)
hears_once net k (Took x n c m needs) a b s = inl s.1.same.disk
hears_once net k (Covered x n c m) a b s = inl s.1.same.disk
hears_once net k (Query p x n) a b s = absurd s
hears_once net k (Commit x p n) a b s = inr (Settle x n s.1.image s.1.settles, s.1.outlets)
hears_once net k (Ended x p n) a b s = inr (Drop x n s.1.image s.1.drops, s.1.outlets)
hears_once net k (Settled p x n) a b s = inr (Confirm n p s.1.confirms, s.1.outlets)

moves : (w v : World) (k : ℕ) → OnlyAt w v k → Once (node_of w k) (node_of v k) → AtMostOneMove w v
unfolding Once
moves w v k at (inl same) =
    record { node = k; others = at.records; move = inl same; either = inl (records_stay w v k at same) }
moves w v k at (inr one) = record { node = k; others = at.records; move = inr one.0; either = inr one.1 }

pub moves_at_most_once : (net : Net) (w v : World) → Step net w v → AtMostOneMove w v
moves_at_most_once net w v (Acts k at s) = moves w v k at (step_once net k (node_of w k) (node_of v k) s)
moves_at_most_once net w v (Comes k packet flight at s) =
    moves w v k at (hears_once net k packet (node_of w k) (node_of v k) s)
moves_at_most_once net w v (Send s) = record {
  node = 0;
  others = λ j other. ap (λ (records : ℕ → Record). records j) s.records;
  move = inl (ap (λ (records : ℕ → Record). records 0) s.records);
  either = inl s.records;
}
