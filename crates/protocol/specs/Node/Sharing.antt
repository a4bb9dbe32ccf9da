-- How many items each log of an image may have: an equal share of those for which a record has room, and no more than
-- the room that the world gives its channel.
use Rattle.std.specs.Prelude.{◌≡◌, ℕ, ◌≤◌, ◌*◌, ◌/◌, min, Bool, true, false, List, length, replicate, All, slice_index, slice_set}
use Rattle.std.specs.List.{count_by}
use Rattle.kahn_net.specs.declared.limits.TheConstants.{MAX_CHANNELS}
use Rattle.ckpt_codec.specs.Common.{LogState, ImageView, SavedEnd, Receives, Sends, MAX_COUNT}
use Rattle.retained.specs.LogState.{log_end}
use Rattle.record.specs.declared.image.End.{End}
use Rattle.record.specs.declared.image.End.TheVariants.{Both}
use Rattle.ckpt_codec.specs.declared.lengths.TheConstants.{MAX_RETAINED_ITEMS}
use Rattle.protocol.specs.declared.limits.TheConstants.{MIN_ROOM}

-- an end has a log of what is put there
abbrev pub is_logging : End → Bool
is_logging (Receives received) = false
is_logging (Sends log) = true
is_logging (Both received log) = true

abbrev pub has_log : SavedEnd → Bool
has_log saved = is_logging saved.end

-- how many ends of an image have a log
abbrev pub log_count : ImageView → ℕ
log_count image = count_by has_log image.ends

-- the most items that each log of an image may have, so that a record with two images fits
abbrev pub log_share : ImageView → ℕ
log_share image = MAX_RETAINED_ITEMS / log_count image

-- a room that a channel may be given: from `MIN_ROOM` to `MAX_RETAINED_ITEMS` items
abbrev pub IsRoom : ℕ → Type 0
IsRoom room = (MIN_ROOM ≤ room) × (room ≤ MAX_RETAINED_ITEMS)

-- the rooms of a world's channels: one for each number that a channel may have
pub record AreRooms (rooms : List ℕ) : Type 0 where
  pub count : length rooms ≡ MAX_CHANNELS
  pub each : All IsRoom rooms

-- the same room for each
abbrev pub even_rooms : ℕ → List ℕ
even_rooms room = replicate MAX_CHANNELS room

-- twice the room of a channel, and no more than a record has
abbrev pub wider : ℕ → ℕ
wider room = min (room * 2) MAX_RETAINED_ITEMS

-- rooms of which this channel has twice what it had, and no more than a record has
abbrev pub wider_at : ℕ → List ℕ → List ℕ
wider_at channel rooms = slice_set rooms channel (wider (slice_index rooms channel))

-- as far as its room a log may be filled, and no further than its share
abbrev pub share_in : List ℕ → ℕ → ℕ → ℕ
share_in rooms share channel = min (slice_index rooms channel) share

-- How far a job may fill the log of each channel, where the world gives its channels these rooms: the places that a log
-- has for a job are those up to this. A log may have more already, since its room may have been lowered; then it has no
-- place.
abbrev pub retained_share : List ℕ → ImageView → ℕ → ℕ
retained_share rooms image = share_in rooms (log_share image)

-- how far the log of each channel may be filled, where all have as much room as a record has
abbrev pub full_share : ImageView → ℕ → ℕ
full_share image channel = log_share image

-- a log has no more items than its share, and its end is a number that a count may have
pub record IsWithinShare (share : ℕ) (log : LogState) : Type 0 where
  pub count : length log.items ≤ share
  pub last : log_end log ≤ MAX_COUNT
