-- What the changes of an image make of it.
use Rattle.std.specs.Prelude.{ℕ, ◌+◌, ◌++◌, ◌==◌, nat_lt, if◌then◌else◌, ℤ, List, map, Option, Some, None}
use Rattle.retained.specs.LogState.{LogState, Overfills, log_end, trimmed}
use Rattle.record.specs.ImageView.{ImageView}
use Rattle.record.specs.declared.image.SavedEnd.{SavedEnd}
use Rattle.record.specs.declared.image.End.{End}
use Rattle.record.specs.declared.image.End.TheVariants.{Receives, Sends, Both}

-- a log with these items behind its own
abbrev pub log_with : List ℤ → LogState → LogState
log_with items log = record { base = log.base; items = log.items ++ items }

-- an end of a channel after these items were put
abbrev pub pushed : List ℤ → End → End
pushed items (Receives received) = Receives received
pushed items (Sends log) = Sends (log_with items log)
pushed items (Both received log) = Both received (log_with items log)

-- what is put on this end fits its log
abbrev pub LogTakes : ℕ → Option LogState → Type 0
LogTakes count None = Unit {0}
LogTakes count (Some log) = ¬ (Overfills log count)

-- a log from a position on, where that is one of its positions or its end, and else as it was
abbrev pub trimmed_log : ℕ → LogState → LogState
trimmed_log position log =
    if nat_lt position log.base then log else (if nat_lt (log_end log) position then log else trimmed log position)

-- an end of a channel after so many items were got; one that stays on the node retains none of them
abbrev pub counted : ℕ → End → End
counted count (Receives received) = Receives (received + count)
counted count (Sends log) = Sends log
counted count (Both received log) = Both (received + count) (trimmed_log (received + count) log)

abbrev pub trimmed_end : ℕ → End → End
trimmed_end position (Receives received) = Receives received
trimmed_end position (Sends log) = Sends (trimmed_log position log)
trimmed_end position (Both received log) = Both received (trimmed_log position log)

abbrev pub trimmed_saved : ℕ → ℕ → SavedEnd → SavedEnd
trimmed_saved channel position saved =
    record {
      channel = saved.channel;
      end =
          if saved.channel == channel then trimmed_end position saved.end else saved.end;
    }

-- an image whose log of this channel begins at this position
abbrev pub trimmed_image : ℕ → ℕ → ImageView → ImageView
trimmed_image channel position image =
    record { processes = image.processes; ends = map (trimmed_saved channel position) image.ends }
