-- A record with parts of it as they were before a move.
use Rattle.std.specs.Prelude.{ℕ, ◌-◌, ◌==◌, if◌then◌else◌, Bool, false, Option, Some, None, slice_set}
use Rattle.ckpt_codec.specs.Common.{ImageView, RecordView, Tentative}

-- without a tentative image, and with this entry
abbrev pub untaken : ℕ → ℕ → RecordView → RecordView
untaken initiator entry kept = record kept { highest = slice_set kept.highest initiator entry; tentative = None }

-- with the permanent image as the tentative one, and this one as the permanent one
abbrev pub demoted : ℕ → ℕ → ImageView → RecordView → RecordView
demoted initiator number permanent kept = record kept {
  permanent = permanent;
  tentative = Some (record { initiator = initiator; number = number; image = kept.permanent });
}

-- with this tentative image, or none
abbrev pub with_held : Option Tentative → RecordView → RecordView
with_held held kept = record kept { tentative = held }

-- what is held of the node's own instance
abbrev pub is_own : ℕ → Option Tentative → Bool
is_own node None = false
is_own node (Some held) = held.initiator == node

abbrev pub own_in : ℕ → Option Tentative → Option Tentative
own_in node held = if is_own node held then held else None

-- what was held besides, where nothing was
abbrev pub held_or : Option Tentative → Option Tentative → Option Tentative
held_or None held = held
held_or (Some own) held = Some own

-- in the epoch before, with this tentative image where there is one
abbrev pub lowered : Option Tentative → RecordView → RecordView
lowered own kept = record kept { epoch = kept.epoch - 1; tentative = held_or own kept.tentative }
