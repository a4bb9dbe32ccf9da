-- What an image says of a channel.
use Rattle.std.specs.Prelude.{ℕ, eqb, Option, Some, None, option_map, find}
use Rattle.retained.specs.LogState.{LogState, log_end}
use Rattle.record.specs.ImageView.{ImageView}
use Rattle.record.specs.declared.image.SavedEnd.{SavedEnd}
use Rattle.record.specs.declared.image.End.{End}
use Rattle.record.specs.declared.image.End.TheVariants.{Receives, Sends, Both}

-- the end of this channel, where there is one: the first of the list
abbrev pub end_of : ImageView → ℕ → Option End
end_of image channel =
    option_map (λ (saved : SavedEnd). saved.end) (find (λ (saved : SavedEnd). eqb saved.channel channel) image.ends)

-- the items that this end received
abbrev pub received_at : Option End → ℕ
received_at None = 0
received_at (Some (Receives received)) = received
received_at (Some (Sends log)) = 0
received_at (Some (Both received log)) = received

-- the log that this end retains
abbrev pub log_at : Option End → Option LogState
log_at None = None
log_at (Some (Receives received)) = None
log_at (Some (Sends log)) = Some log
log_at (Some (Both received log)) = Some log

-- how many items came before a log, and how many with it
abbrev pub base_in : Option LogState → ℕ
base_in None = 0
base_in (Some log) = log.base

abbrev pub sent_in : Option LogState → ℕ
sent_in None = 0
sent_in (Some log) = log_end log

-- how many items an image has received of a channel: 0 where it has no such end
abbrev pub received_of : ImageView → ℕ → ℕ
received_of image channel = received_at (end_of image channel)

-- the log in an image of what was put on a channel
abbrev pub log_of : ImageView → ℕ → Option LogState
log_of image channel = log_at (end_of image channel)

-- how many items an image has put on a channel: those before its log and those in it, and 0 where it has no such end
abbrev pub sent_of : ImageView → ℕ → ℕ
sent_of image channel = sent_in (log_of image channel)

-- how many items were put on this channel before those that its log retains
abbrev pub base_of : ImageView → ℕ → ℕ
base_of image channel = base_in (log_of image channel)
