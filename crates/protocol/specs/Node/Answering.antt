-- A node is asked to take part in another's checkpoint.
use Rattle.std.specs.Prelude.{◌==◌, ℕ, nat_lt, nat_le, Bool, true, false, ◌&&◌, not, if◌then◌else◌, List, [], ◌∷◌}
use Rattle.std.specs.Prelude.{Option, Some}
use Rattle.std.specs.Prelude.{None}
use Rattle.datagram.specs.declared.packet.Body.TheVariants.{Took, Covered, Refused}
use Rattle.datagram.specs.declared.packet.Packet.{Packet}
use Rattle.datagram.specs.declared.packet.Reason.{Reason}
use Rattle.datagram.specs.declared.packet.Reason.TheVariants.{Busy, Behind, Recovering, TooLarge}
use Rattle.ckpt_codec.specs.Common.{Network, sent_of, highest_seen, with_tentative, RecordView, Tentative}
use Rattle.protocol.specs.Node.Needs.{held_needs}
use Rattle.protocol.specs.Node.Modes.{with_kept}
use Rattle.protocol.specs.Node.NodeView.{NodeView, ModeView, Down, InDoubt, Runs}
use Rattle.protocol.specs.Node.Plans.{Prospect, Planned}

-- exactly the image of this instance is held
abbrev pub holds : ℕ → ℕ → Option Tentative → Bool
holds initiator number None = false
holds initiator number (Some held) = (held.initiator == initiator) && (held.number == number)

-- What it does: nothing; it says that its permanent image has put so many items; that it took part before; it takes
-- part now; or it takes none, for a reason.
pub data AskAnswer : Type 0 where
  Silent : AskAnswer
  CoveredBefore : AskAnswer
  TookBefore : AskAnswer
  TakesNow : AskAnswer
  Declines : (reason : Reason) → AskAnswer

-- why a node that holds another image takes no part: it waits for the verdict since it came back, or has just taken
-- that one
abbrev pub holding_reason : ModeView → Reason
holding_reason Down = Busy
holding_reason InDoubt = Recovering
holding_reason (Runs running) = Busy

-- Of this many items of a channel. Where an image is held: that of the instance has to have put them.
abbrev pub answer_of_holder : ℕ → ℕ → ModeView → Bool → Tentative → AskAnswer
answer_of_holder c m mode true held = if nat_le m (sent_of held.image c) then TookBefore else Declines Behind
answer_of_holder c m mode false held = Declines (holding_reason mode)

-- where none is: the node has to have put them by now
abbrev pub answer_of_free : ℕ → ℕ → ModeView → AskAnswer
answer_of_free c m Down = Silent
answer_of_free c m InDoubt = Silent
answer_of_free c m (Runs running) = if nat_lt (sent_of running.current c) m then Declines Behind else TakesNow

abbrev pub answer_above : ℕ → ℕ → ℕ → ℕ → ModeView → Option Tentative → AskAnswer
answer_above x n c m mode None = answer_of_free c m mode
answer_above x n c m mode (Some held) = answer_of_holder c m mode (holds x n (Some held)) held

-- a number that was seen, of an instance that isn't held any more
abbrev pub is_past : ℕ → ℕ → RecordView → Bool
is_past x n kept = nat_le n (highest_seen x kept) && not (holds x n kept.tentative)

-- The answer of a node with this record to the question of initiator x, for its instance n, whether it keeps m items of
-- channel c for good. The first rule that holds counts: a past number gets none; then what the permanent image has put
-- is covered; then the image of the instance is held; then another; then nothing is held. (That the record with a new
-- image is too large shows only when it is put.)
abbrev pub answer_to_ask : ℕ → ℕ → ℕ → ℕ → RecordView → ModeView → AskAnswer
answer_to_ask x n c m kept mode =
    if is_past x n kept then Silent
    else (if nat_le m (sent_of kept.permanent c) then CoveredBefore else answer_above x n c m mode kept.tentative)

-- ---- the event

-- the record with what the node has now as the image of the instance
abbrev pub with_current_as : ℕ → ℕ → ModeView → RecordView → RecordView
with_current_as x n Down kept = kept
with_current_as x n InDoubt kept = kept
with_current_as x n (Runs running) kept = with_tentative x n running.current kept

abbrev pub takes_now : AskAnswer → Bool
takes_now Silent = false
takes_now CoveredBefore = false
takes_now TookBefore = false
takes_now TakesNow = true
takes_now (Declines reason) = false

-- the record after the answer
abbrev pub kept_then : ℕ → ℕ → AskAnswer → ModeView → RecordView → RecordView
kept_then x n Silent mode kept = kept
kept_then x n CoveredBefore mode kept = kept
kept_then x n TookBefore mode kept = kept
kept_then x n TakesNow mode kept = with_current_as x n mode kept
kept_then x n (Declines reason) mode kept = kept

-- it took part, with the needs of the image that it holds
abbrev pub took_packet : Network → ℕ → ℕ → ℕ → ℕ → ℕ → RecordView → Packet
took_packet net home x n c m kept =
    record { from = home; to = x; body = Took n c m (held_needs net home kept.permanent kept.tentative) }

-- what a node with this record says to whoever asked it to take part, by its answer
abbrev pub answer_packets : Network → ℕ → ℕ → ℕ → ℕ → ℕ → RecordView → AskAnswer → List Packet
answer_packets net home x n c m kept Silent = []
answer_packets net home x n c m kept CoveredBefore = record { from = home; to = x; body = Covered n c m } ∷ []
answer_packets net home x n c m kept TookBefore = took_packet net home x n c m kept ∷ []
answer_packets net home x n c m kept TakesNow = took_packet net home x n c m kept ∷ []
answer_packets net home x n c m kept (Declines reason) =
    record { from = home; to = x; body = Refused n c reason } ∷ []

-- what is done by this answer; it takes no part where its record would be too large
abbrev pub answering : Network → ℕ → ℕ → ℕ → ℕ → ℕ → AskAnswer → NodeView → Prospect
answering net home x n c m answer node =
    Planned (record {
      node = with_kept (kept_then x n answer node.mode node.kept) node;
      puts = takes_now answer;
      grows = takes_now answer;
      packets = answer_packets net home x n c m (kept_then x n answer node.mode node.kept) answer;
      refused = record { from = home; to = x; body = Refused n c TooLarge } ∷ [];
    })

-- what becomes of a node that is asked to take part in instance n of initiator x, for m items of channel c
abbrev pub ask_prospect : Network → ℕ → ℕ → ℕ → ℕ → ℕ → NodeView → Prospect
ask_prospect net home x n c m node = answering net home x n c m (answer_to_ask x n c m node.kept node.mode) node
