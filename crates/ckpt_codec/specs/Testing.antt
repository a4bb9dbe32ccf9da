-- Parts of images, as they are tested one by one.
use Rattle.std.specs.Prelude.{ℕ, List, [], ◌∷◌, length, map, Option, Some, None}
use Rattle.record.specs.Common.{MAX_PROCESSES, MAX_CHANNELS, LogState, ImageView}
use Rattle.ckpt_codec.specs.Fields.{Field}
use Rattle.ckpt_codec.specs.RecordText.{at_most, wanted, wanted_or, retained_count, item, processes_in, ends_in}
use Rattle.ckpt_codec.specs.RecordText.{processes_fields, ends_fields}

-- the parts that are to be matched; none where there is no first image
abbrev pub listed : {A : Type 0} → Option (List A) → List A
listed None = []
listed (Some xs) = xs

-- a log whose base is at most this, and whose end is at least that
abbrev pub log_fields : ℕ → ℕ → LogState → List Field
log_fields limit from log =
    at_most 8 limit log.base ∷ retained_count log.base from (length log.items) ∷ map item log.items

-- the processes of an image like this one, where there is one, with how many there are; and the same of the ends
abbrev pub process_list_fields : Option ImageView → ImageView → List Field
process_list_fields like image =
    wanted_or (wanted (λ (i : ImageView). length i.processes) like) (at_most 1 MAX_PROCESSES (length image.processes))
    ∷ processes_fields (processes_in like) 0 image.processes

abbrev pub end_list_fields : Option ImageView → ImageView → List Field
end_list_fields like image =
    wanted_or (wanted (λ (i : ImageView). length i.ends) like) (at_most 2 MAX_CHANNELS (length image.ends))
    ∷ ends_fields (ends_in like) 0 image.ends
