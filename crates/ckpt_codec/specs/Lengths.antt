-- How many bytes spell a record, part by part.
use Rattle.std.specs.Prelude.{ℕ, ◌+◌, ◌*◌, List, length, sum_by, Option, Some, None}
use Rattle.record.specs.Common.{Standing, NotBegun, At, Done, DecisionView, SavedProcessView, ImageView, RecordView}
use Rattle.record.specs.declared.image.SavedEnd.{SavedEnd}
use Rattle.record.specs.declared.image.End.{End}
use Rattle.record.specs.declared.image.End.TheVariants.{Receives, Sends, Both}
use Rattle.record.specs.declared.record.Tentative.{Tentative}
use Rattle.ckpt_codec.specs.RecordText.{variables_of, record_text}
use Rattle.ckpt_codec.specs.declared.version.TheConstants.{VERSION}

abbrev pub mode_length : Standing → ℕ
mode_length (NotBegun vars) = 1
mode_length (At point vars) = 6 + 2 * length point.left
mode_length (Done vars) = 1

abbrev pub process_length : SavedProcessView → ℕ
process_length process = 2 + mode_length process.standing + 8 * length (variables_of process.standing)

abbrev pub end_length : End → ℕ
end_length (Receives received) = 8
end_length (Sends log) = 12 + 8 * length log.items
end_length (Both received log) = 20 + 8 * length log.items

abbrev pub saved_end_length : SavedEnd → ℕ
saved_end_length saved = 3 + end_length saved.end

abbrev pub image_length : ImageView → ℕ
image_length image = 3 + sum_by process_length image.processes + sum_by saved_end_length image.ends

abbrev pub decision_length : DecisionView → ℕ
decision_length d = 9 + length d.participants

abbrev pub decisions_length : List DecisionView → ℕ
decisions_length ds = 1 + sum_by decision_length ds

abbrev pub tentative_length : Option Tentative → ℕ
tentative_length None = 1
tentative_length (Some t) = 10 + image_length t.image

-- a record but for its decisions
abbrev pub undecided_length : RecordView → ℕ
undecided_length kept = 11 + 8 * length kept.highest + image_length kept.permanent + tentative_length kept.tentative

abbrev pub record_length : RecordView → ℕ
record_length kept = undecided_length kept + decisions_length kept.decisions

-- how many bytes spell a record
unfoldable pub spelled_length : RecordView → ℕ
spelled_length kept = length (record_text VERSION kept)

-- the record with these decisions in the place of its own
abbrev pub with_decided : List DecisionView → RecordView → RecordView
with_decided decisions kept = record kept { decisions = decisions }
