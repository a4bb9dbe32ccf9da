-- The text of a history: a line for each event, in the order in which they were made.
use Rattle.std.specs.Prelude.{ℕ, List, [], ◌++◌, codes}
use Rattle.std.specs.Fmt.{decimal}
use Rattle.std.specs.List.{flat_map}
use Rattle.protocol.specs.Node.Common.{Net}
use Rattle.replay.specs.Replay.{Happening, Made, Silent, Widened}
use Rattle.replay.specs.declared.kept.Maker.{Maker}
use Rattle.replay.specs.declared.kept.Maker.TheVariants.{Node, Driver}
use Rattle.history_text.specs.Events.{event_text, words_text}
use Rattle.history_text.specs.Headers.{header_text}
use Rattle.history_text.specs.Replies.{reply_text}
use Rattle.history_text.specs.declared.entry.EntryWords.{EntryWords}

abbrev pub maker_text : Maker → List ℕ
maker_text (Node node) = decimal node
maker_text Driver = codes "driver"

-- who made an event, this event, and this answer
abbrev pub line_of : Maker → List ℕ → List ℕ → List ℕ
line_of maker event answer = maker_text maker ++ codes " " ++ event ++ codes ": " ++ answer

-- what the code keeps of a line until it is written
abbrev pub entry_text : EntryWords → List ℕ
entry_text entry = line_of entry.maker (words_text entry.event) (reply_text entry.answer.later entry.answer.reply)

-- An event has a line, and so has that a channel got more room, by its number. That none was made isn't told.
abbrev pub happening_text : Happening → List ℕ
happening_text (Made maker event answer) = line_of maker (event_text event) (reply_text 0 answer) ++ codes "\n"
happening_text (Silent reason) = []
happening_text (Widened channel) = codes "widened " ++ decimal channel ++ codes "\n"

abbrev pub happenings_text : List Happening → List ℕ
happenings_text happened = flat_map happening_text happened

-- the text of a network and of what happened in a run of it, a line for each event
abbrev pub history_text : Net → List Happening → List ℕ
history_text net happened = header_text net ++ happenings_text happened
