-- An image of the same shape as the permanent one, which may be written alone, may be written beside it.
use Rattle.std.proofs.Common.{◌≡◌, ℕ, suc, Bool, List, [], ◌∷◌, ◌++◌, length, map, Some, None, sym, ◌∙◌, ap}
use Rattle.std.proofs.lemmas.Bool.{eq-eqb}
use Rattle.std.proofs.lemmas.List.{length-map}
use Rattle.std.proofs.lemmas.List.Elements.{All-nil, All-cons, All-head, All-tail, All-append}
use Rattle.ckpt_codec.specs.Common.{SavedProcessView, ImageView, SavedEnd, MAX_PROCESSES, MAX_CHANNELS, MAX_VARIABLES}
use Rattle.ckpt_codec.specs.Common.{Field, IsAllowed, AreAllowed, at_most, image_fields}
use Rattle.ckpt_codec.specs.RecordText.{between, exactly, item, mode_fields, variables_of, process_fields}
use Rattle.ckpt_codec.specs.RecordText.{processes_fields, role_of, end_fields, saved_end_fields, ends_fields}
use Rattle.ckpt_store.specs.Shapes.{process_numbers, variable_counts, channel_numbers, roles, HasShapeOf}
use Rattle.ckpt_store.specs.Spelling.{IsLike}
use Rattle.ckpt_store.proofs.Parts.{all_front, all_back}

-- a field whose value is the one that is wanted
as_wanted : (width n like : ℕ) (allows : ℕ → Bool) → n ≡ like
    → IsAllowed (record { width = width; allows = allows; value = n }) → IsAllowed (exactly width like n)
as_wanted width n like allows same field = (field.0, eq-eqb n like same)

first_is : (m n : ℕ) (ms ns : List ℕ) → m ∷ ms ≡ n ∷ ns → m ≡ n
first_is m n ms ns e = cc

rest_is : (m n : ℕ) (ms ns : List ℕ) → m ∷ ms ≡ n ∷ ns → ms ≡ ns
rest_is m n ms ns e = cc

process_alike : (least : ℕ) (like p : SavedProcessView) → p.number ≡ like.number
    → length (variables_of p.standing) ≡ length (variables_of like.standing) → AreAllowed (process_fields None least p)
    → AreAllowed (process_fields (Some like) least p)
process_alike least like p number variables all =
    let first : Field = between 1 least MAX_PROCESSES p.number in
    let counted : Field = at_most 1 MAX_VARIABLES (length (variables_of p.standing)) in
    let values : List Field = map item (variables_of p.standing) in
    let behind = All-tail IsAllowed first (mode_fields p.standing ++ counted ∷ values) all in
    let last = all_back IsAllowed (mode_fields p.standing) (counted ∷ values) behind in
    let wanted : List Field =
    exactly 1 (length (variables_of like.standing)) (length (variables_of p.standing)) ∷ values in
    All-cons IsAllowed (exactly 1 like.number p.number) (mode_fields p.standing ++ wanted)
    (as_wanted 1 p.number like.number first.allows number
    (All-head IsAllowed first (mode_fields p.standing ++ counted ∷ values) all))
    (All-append IsAllowed (mode_fields p.standing) wanted
    (all_front IsAllowed (mode_fields p.standing) (counted ∷ values) behind)
    (All-cons IsAllowed (exactly 1 (length (variables_of like.standing)) (length (variables_of p.standing))) values
    (as_wanted 1 (length (variables_of p.standing)) (length (variables_of like.standing)) counted.allows variables
    (All-head IsAllowed counted values last)) (All-tail IsAllowed counted values last)))

processes_alike : (least : ℕ) (likes ps : List SavedProcessView) → process_numbers ps ≡ process_numbers likes
    → variable_counts ps ≡ variable_counts likes → AreAllowed (processes_fields None least ps)
    → AreAllowed (processes_fields (Some likes) least ps)
processes_alike least likes [] numbers variables all = All-nil IsAllowed
processes_alike least [] (p ∷ ps) numbers variables all = all
processes_alike least (like ∷ likes) (p ∷ ps) numbers variables all =
    All-append IsAllowed (process_fields (Some like) least p) (processes_fields (Some likes) (suc p.number) ps)
    (process_alike least like p (first_is p.number like.number (process_numbers ps) (process_numbers likes) numbers)
    (first_is _ _ (variable_counts ps) (variable_counts likes) variables)
    (all_front IsAllowed (process_fields None least p) (processes_fields None (suc p.number) ps) all))
    (processes_alike (suc p.number) likes ps
    (rest_is p.number like.number (process_numbers ps) (process_numbers likes) numbers)
    (rest_is _ _ (variable_counts ps) (variable_counts likes) variables)
    (all_back IsAllowed (process_fields None least p) (processes_fields None (suc p.number) ps) all))

end_alike : (least : ℕ) (like e : SavedEnd) → e.channel ≡ like.channel → role_of e.end ≡ role_of like.end
    → AreAllowed (saved_end_fields None least e) → AreAllowed (saved_end_fields (Some like) least e)
end_alike least like e channel role all =
    let first : Field = between 2 least MAX_CHANNELS e.channel in
    let second : Field = at_most 1 2 (role_of e.end) in
    let behind = All-tail IsAllowed first (second ∷ end_fields e.end) all in
    All-cons IsAllowed (exactly 2 like.channel e.channel)
    (exactly 1 (role_of like.end) (role_of e.end) ∷ end_fields e.end)
    (as_wanted 2 e.channel like.channel first.allows channel
    (All-head IsAllowed first (second ∷ end_fields e.end) all))
    (All-cons IsAllowed (exactly 1 (role_of like.end) (role_of e.end)) (end_fields e.end)
    (as_wanted 1 (role_of e.end) (role_of like.end) second.allows role
    (All-head IsAllowed second (end_fields e.end) behind)) (All-tail IsAllowed second (end_fields e.end) behind))

ends_alike : (least : ℕ) (likes es : List SavedEnd) → channel_numbers es ≡ channel_numbers likes
    → roles es ≡ roles likes → AreAllowed (ends_fields None least es) → AreAllowed (ends_fields (Some likes) least es)
ends_alike least likes [] channels same_roles all = All-nil IsAllowed
ends_alike least [] (e ∷ es) channels same_roles all = all
ends_alike least (like ∷ likes) (e ∷ es) channels same_roles all =
    All-append IsAllowed (saved_end_fields (Some like) least e) (ends_fields (Some likes) (suc e.channel) es)
    (end_alike least like e (first_is e.channel like.channel (channel_numbers es) (channel_numbers likes) channels)
    (first_is _ _ (roles es) (roles likes) same_roles)
    (all_front IsAllowed (saved_end_fields None least e) (ends_fields None (suc e.channel) es) all))
    (ends_alike (suc e.channel) likes es
    (rest_is e.channel like.channel (channel_numbers es) (channel_numbers likes) channels)
    (rest_is _ _ (roles es) (roles likes) same_roles)
    (all_back IsAllowed (saved_end_fields None least e) (ends_fields None (suc e.channel) es) all))

-- as many as of the other, from their numbers
same_length : {A : Type 0} (f : A → ℕ) (xs ys : List A) → map f xs ≡ map f ys → length xs ≡ length ys
same_length f xs ys same = sym (length-map xs f) ∙ ap (length {A = ℕ}) same ∙ length-map ys f

pub like_of : (permanent image : ImageView) → AreAllowed (image_fields None image) → HasShapeOf permanent image
    → IsLike permanent image
like_of permanent image all shape =
    let processes : Field = at_most 1 MAX_PROCESSES (length image.processes) in
    let ends : Field = at_most 2 MAX_CHANNELS (length image.ends) in
    let front : List Field = processes ∷ processes_fields None 0 image.processes in
    let back : List Field = ends ∷ ends_fields None 0 image.ends in
    let a = all_front IsAllowed front back all in
    let b = all_back IsAllowed front back all in
    record {
      allowed =
          All-append IsAllowed
          (exactly 1 (length permanent.processes) (length image.processes)
          ∷ processes_fields (Some permanent.processes) 0 image.processes)
          (exactly 2 (length permanent.ends) (length image.ends) ∷ ends_fields (Some permanent.ends) 0 image.ends)
          (All-cons IsAllowed (exactly 1 (length permanent.processes) (length image.processes))
          (processes_fields (Some permanent.processes) 0 image.processes)
          (as_wanted 1 (length image.processes) (length permanent.processes) processes.allows
          (same_length (λ (p : SavedProcessView). p.number) image.processes permanent.processes shape.numbers)
          (All-head IsAllowed processes (processes_fields None 0 image.processes) a))
          (processes_alike 0 permanent.processes image.processes shape.numbers shape.variables
          (All-tail IsAllowed processes (processes_fields None 0 image.processes) a)))
          (All-cons IsAllowed (exactly 2 (length permanent.ends) (length image.ends))
          (ends_fields (Some permanent.ends) 0 image.ends)
          (as_wanted 2 (length image.ends) (length permanent.ends) ends.allows
          (same_length (λ (e : SavedEnd). e.channel) image.ends permanent.ends shape.channels)
          (All-head IsAllowed ends (ends_fields None 0 image.ends) b))
          (ends_alike 0 permanent.ends image.ends shape.channels shape.roles
          (All-tail IsAllowed ends (ends_fields None 0 image.ends) b)));
    }
