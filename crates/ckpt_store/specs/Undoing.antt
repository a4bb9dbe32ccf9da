-- What takes a move back.
use Rattle.std.specs.Prelude.{◌≡◌, ◌<◌, length}
use Rattle.ckpt_codec.specs.Common.{RecordView}
use Rattle.ckpt_codec.specs.Lengths.{with_decided}
use Rattle.ckpt_store.specs.Restoring.{untaken, demoted, with_held, lowered}
use Rattle.ckpt_store.specs.declared.undo.Undo.{Undo}
use Rattle.ckpt_store.specs.declared.undo.Undo.TheVariants.{Take, Promote, Decide, GiveUp, Settle, Raise}

-- the record that was changed, with its parts given back
abbrev pub undone : Undo → RecordView → RecordView
undone (Take initiator entry) kept = untaken initiator entry kept
undone (Promote initiator number permanent) kept = demoted initiator number permanent kept
undone (Decide initiator number permanent decisions) kept =
    demoted initiator number permanent (with_decided decisions.items kept)
undone (GiveUp held) kept = with_held held kept
undone (Settle decisions) kept = with_decided decisions.items kept
undone (Raise own) kept = lowered own kept

-- it has the entry that is given back
abbrev pub IsUndoable : Undo → RecordView → Type 0
IsUndoable (Take initiator entry) kept = initiator < length kept.highest
IsUndoable (Promote initiator number permanent) kept = Unit {0}
IsUndoable (Decide initiator number permanent decisions) kept = Unit {0}
IsUndoable (GiveUp held) kept = Unit {0}
IsUndoable (Settle decisions) kept = Unit {0}
IsUndoable (Raise own) kept = Unit {0}

-- this takes the new record back to the old one
pub record TakesBack (old new : RecordView) (undo : Undo) : Type 0 where
  pub applies : IsUndoable undo new
  pub gives : undone undo new ≡ old
