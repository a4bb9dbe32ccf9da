-- What a log is: the last items of a history, and how many came before them.
use Rattle.std.specs.Prelude.{◌≡◌, ◌⊎◌, ℕ, ◌+◌, ◌-◌, ◌<◌, ◌≤◌, nat_lt, if◌then◌else◌, List, ℤ, length, take, drop}
use Rattle.std.specs.Prelude.{Option, None, slice_get}
use Rattle.std.specs.Option.{option_to_list}
use Rattle.kahn_net.specs.declared.limits.TheConstants.{MAX_COUNT}
use Rattle.retained.specs.declared.log.TheConstants.{MAX_LOG_ITEMS}

-- the log of a channel: the items from the position `base` on
pub record LogState : Type 0 where
  pub base : ℕ
  pub items : List ℤ

-- the position behind the last item of a log
abbrev pub log_end : LogState → ℕ
log_end log = log.base + length log.items

-- what is true of every log
pub record IsWithinLimits (log : LogState) : Type 0 where
  pub count : length log.items ≤ MAX_LOG_ITEMS
  pub last : log_end log ≤ MAX_COUNT

-- no item fits
abbrev pub IsFull : LogState → Type 0
IsFull log = (length log.items ≡ MAX_LOG_ITEMS) ⊎ (log_end log ≡ MAX_COUNT)

-- so many items more don't all fit
abbrev pub Overfills : LogState → ℕ → Type 0
Overfills log count = (MAX_LOG_ITEMS < length log.items + count) ⊎ (MAX_COUNT < log_end log + count)

-- the position of an item or the end
pub record IsInLog (log : LogState) (position : ℕ) : Type 0 where
  pub from_base : log.base ≤ position
  pub to_end : position ≤ log_end log

-- the item at a position of the history, where the log has it
abbrev pub item_at : LogState → ℕ → Option ℤ
item_at log position = if nat_lt position log.base then None else slice_get log.items (position - log.base)

-- the same as a list: that item, or none
abbrev pub items_at : LogState → ℕ → List ℤ
items_at log position = option_to_list (item_at log position)

-- the items from a position on
abbrev pub items_since : LogState → ℕ → List ℤ
items_since log position = drop (position - log.base) log.items

-- the log without what lies before a position of it
abbrev pub trimmed : LogState → ℕ → LogState
trimmed log position = record { base = position; items = drop (position - log.base) log.items }

-- the log without what lies from a position of it on
abbrev pub cut_at : LogState → ℕ → LogState
cut_at log position = record { base = log.base; items = take (position - log.base) log.items }

-- a log holds this history from the log's base on
pub record IsLogOf (log : LogState) (history : List ℤ) : Type 0 where
  pub count : length history ≡ log_end log
  pub items : log.items ≡ drop log.base history
