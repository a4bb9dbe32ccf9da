-- An image that is like another one, which may stand as a first one, may stand as one itself.
use Rattle.std.proofs.Common.{◌≡◌, ℕ, suc, Bool, List, [], ◌∷◌, ◌++◌, length, map, sym, subst}
use Rattle.std.specs.Prelude.{Some, None}
use Rattle.std.proofs.lemmas.Bool.{eqb-true}
use Rattle.std.proofs.lemmas.List.Elements.{All-nil, All-cons, All-head, All-tail, All-append}
use Rattle.ckpt_codec.specs.Common.{SavedProcessView, ImageView, SavedEnd, MAX_PROCESSES, MAX_CHANNELS, MAX_VARIABLES}
use Rattle.ckpt_codec.specs.Common.{Field, IsAllowed, AreAllowed, at_most, image_fields}
use Rattle.ckpt_codec.specs.RecordText.{between, exactly, item, mode_fields, variables_of, process_fields}
use Rattle.ckpt_codec.specs.RecordText.{processes_fields, role_of, end_fields, saved_end_fields, ends_fields}
use Rattle.ckpt_store.proofs.Parts.{all_front, all_back}

-- a field with the value of another one, which may stand there, may stand there
like_field : (width n like : ℕ) (allows : ℕ → Bool)
    → IsAllowed (record { width = width; allows = allows; value = like }) → IsAllowed (exactly width like n)
    → IsAllowed (record { width = width; allows = allows; value = n })
like_field width n like allows first second =
    let same : like ≡ n = sym (eqb-true n like second.1) in
    subst (λ v. IsAllowed (record { width = width; allows = allows; value = v })) same first

-- and both have the same value
same_value : (width n like : ℕ) → IsAllowed (exactly width like n) → n ≡ like
same_value width n like second = eqb-true n like second.1

-- a process like another one
process_allowed : (least : ℕ) (like p : SavedProcessView) → AreAllowed (process_fields None least like)
    → AreAllowed (process_fields (Some like) least p) → AreAllowed (process_fields None least p)
process_allowed least like p first second =
    let counted : SavedProcessView → ℕ = λ (q : SavedProcessView). length (variables_of q.standing) in
    let values : SavedProcessView → List Field = λ (q : SavedProcessView). map item (variables_of q.standing) in
    let number : ℕ → Field = λ n. between 1 least MAX_PROCESSES n in
    let behind : SavedProcessView → List Field =
    λ (q : SavedProcessView). at_most 1 MAX_VARIABLES (counted q) ∷ values q in
    let like_behind : List Field = exactly 1 (counted like) (counted p) ∷ values p in
    let first_behind =
    all_back IsAllowed (mode_fields like.standing) (behind like)
    (All-tail IsAllowed (number like.number) (mode_fields like.standing ++ behind like) first) in
    let rest = All-tail IsAllowed (exactly 1 like.number p.number) (mode_fields p.standing ++ like_behind) second in
    let second_behind = all_back IsAllowed (mode_fields p.standing) like_behind rest in
    All-cons IsAllowed (number p.number) (mode_fields p.standing ++ behind p)
    (like_field 1 p.number like.number (number 0).allows
    (All-head IsAllowed (number like.number) (mode_fields like.standing ++ behind like) first)
    (All-head IsAllowed (exactly 1 like.number p.number) (mode_fields p.standing ++ like_behind) second))
    (All-append IsAllowed (mode_fields p.standing) (behind p)
    (all_front IsAllowed (mode_fields p.standing) like_behind rest)
    (All-cons IsAllowed (at_most 1 MAX_VARIABLES (counted p)) (values p)
    (like_field 1 (counted p) (counted like) (at_most 1 MAX_VARIABLES 0).allows
    (All-head IsAllowed (at_most 1 MAX_VARIABLES (counted like)) (values like) first_behind)
    (All-head IsAllowed (exactly 1 (counted like) (counted p)) (values p) second_behind))
    (All-tail IsAllowed (exactly 1 (counted like) (counted p)) (values p) second_behind)))

process_number : (least : ℕ) (like p : SavedProcessView) → AreAllowed (process_fields (Some like) least p)
    → p.number ≡ like.number
process_number least like p second =
    let like_behind : List Field =
    exactly 1 (length (variables_of like.standing)) (length (variables_of p.standing))
    ∷ map item (variables_of p.standing) in
    same_value 1 p.number like.number
    (All-head IsAllowed (exactly 1 like.number p.number) (mode_fields p.standing ++ like_behind) second)

processes_allowed : (least : ℕ) (likes ps : List SavedProcessView) → AreAllowed (processes_fields None least likes)
    → AreAllowed (processes_fields (Some likes) least ps) → AreAllowed (processes_fields None least ps)
processes_allowed least likes [] first second = All-nil IsAllowed
processes_allowed least [] (p ∷ ps) first second = second
processes_allowed least (like ∷ likes) (p ∷ ps) first second =
    let here =
    all_front IsAllowed (process_fields (Some like) least p) (processes_fields (Some likes) (suc p.number) ps)
    second in
    let there =
    all_back IsAllowed (process_fields (Some like) least p) (processes_fields (Some likes) (suc p.number) ps)
    second in
    let first_here =
    all_front IsAllowed (process_fields None least like) (processes_fields None (suc like.number) likes) first in
    let first_there =
    all_back IsAllowed (process_fields None least like) (processes_fields None (suc like.number) likes) first in
    let same : like.number ≡ p.number = sym (process_number least like p here) in
    All-append IsAllowed (process_fields None least p) (processes_fields None (suc p.number) ps)
    (process_allowed least like p first_here here)
    (processes_allowed (suc p.number) likes ps
    (subst (λ n. AreAllowed (processes_fields None (suc n) likes)) same first_there) there)

-- an end of a channel like another one
end_allowed : (least : ℕ) (like e : SavedEnd) → AreAllowed (saved_end_fields None least like)
    → AreAllowed (saved_end_fields (Some like) least e) → AreAllowed (saved_end_fields None least e)
end_allowed least like e first second =
    let number : ℕ → Field = λ n. between 2 least MAX_CHANNELS n in
    let role : ℕ → Field = λ n. at_most 1 2 n in
    let like_role : Field = exactly 1 (role_of like.end) (role_of e.end) in
    let first_behind = All-tail IsAllowed (number like.channel) (role (role_of like.end) ∷ end_fields like.end) first in
    let behind = All-tail IsAllowed (exactly 2 like.channel e.channel) (like_role ∷ end_fields e.end) second in
    All-cons IsAllowed (number e.channel) (role (role_of e.end) ∷ end_fields e.end)
    (like_field 2 e.channel like.channel (number 0).allows
    (All-head IsAllowed (number like.channel) (role (role_of like.end) ∷ end_fields like.end) first)
    (All-head IsAllowed (exactly 2 like.channel e.channel) (like_role ∷ end_fields e.end) second))
    (All-cons IsAllowed (role (role_of e.end)) (end_fields e.end)
    (like_field 1 (role_of e.end) (role_of like.end) (role 0).allows
    (All-head IsAllowed (role (role_of like.end)) (end_fields like.end) first_behind)
    (All-head IsAllowed like_role (end_fields e.end) behind))
    (All-tail IsAllowed like_role (end_fields e.end) behind))

end_number : (least : ℕ) (like e : SavedEnd) → AreAllowed (saved_end_fields (Some like) least e)
    → e.channel ≡ like.channel
end_number least like e second =
    same_value 2 e.channel like.channel
    (All-head IsAllowed (exactly 2 like.channel e.channel)
    (exactly 1 (role_of like.end) (role_of e.end) ∷ end_fields e.end) second)

ends_allowed : (least : ℕ) (likes es : List SavedEnd) → AreAllowed (ends_fields None least likes)
    → AreAllowed (ends_fields (Some likes) least es) → AreAllowed (ends_fields None least es)
ends_allowed least likes [] first second = All-nil IsAllowed
ends_allowed least [] (e ∷ es) first second = second
ends_allowed least (like ∷ likes) (e ∷ es) first second =
    let here =
    all_front IsAllowed (saved_end_fields (Some like) least e) (ends_fields (Some likes) (suc e.channel) es)
    second in
    let there =
    all_back IsAllowed (saved_end_fields (Some like) least e) (ends_fields (Some likes) (suc e.channel) es)
    second in
    let first_here =
    all_front IsAllowed (saved_end_fields None least like) (ends_fields None (suc like.channel) likes) first in
    let first_there =
    all_back IsAllowed (saved_end_fields None least like) (ends_fields None (suc like.channel) likes) first in
    let same : like.channel ≡ e.channel = sym (end_number least like e here) in
    All-append IsAllowed (saved_end_fields None least e) (ends_fields None (suc e.channel) es)
    (end_allowed least like e first_here here)
    (ends_allowed (suc e.channel) likes es (subst (λ n. AreAllowed (ends_fields None (suc n) likes)) same first_there)
    there)

-- an image like another one
pub image_allowed : (like image : ImageView) → AreAllowed (image_fields None like)
    → AreAllowed (image_fields (Some like) image) → AreAllowed (image_fields None image)
image_allowed like image first second =
    let processes : ℕ → Field = λ n. at_most 1 MAX_PROCESSES n in
    let ends : ℕ → Field = λ n. at_most 2 MAX_CHANNELS n in
    let first_processes : List Field = processes (length like.processes) ∷ processes_fields None 0 like.processes in
    let first_ends : List Field = ends (length like.ends) ∷ ends_fields None 0 like.ends in
    let like_processes : Field = exactly 1 (length like.processes) (length image.processes) in
    let like_ends : Field = exactly 2 (length like.ends) (length image.ends) in
    let second_processes : List Field = processes_fields (Some like.processes) 0 image.processes in
    let second_ends : List Field = ends_fields (Some like.ends) 0 image.ends in
    let a = all_front IsAllowed first_processes first_ends first in
    let b = all_back IsAllowed first_processes first_ends first in
    let c = all_front IsAllowed (like_processes ∷ second_processes) (like_ends ∷ second_ends) second in
    let d = all_back IsAllowed (like_processes ∷ second_processes) (like_ends ∷ second_ends) second in
    All-append IsAllowed (processes (length image.processes) ∷ processes_fields None 0 image.processes)
    (ends (length image.ends) ∷ ends_fields None 0 image.ends)
    (All-cons IsAllowed (processes (length image.processes)) (processes_fields None 0 image.processes)
    (like_field 1 (length image.processes) (length like.processes) (processes 0).allows
    (All-head IsAllowed (processes (length like.processes)) (processes_fields None 0 like.processes) a)
    (All-head IsAllowed like_processes second_processes c))
    (processes_allowed 0 like.processes image.processes
    (All-tail IsAllowed (processes (length like.processes)) (processes_fields None 0 like.processes) a)
    (All-tail IsAllowed like_processes second_processes c)))
    (All-cons IsAllowed (ends (length image.ends)) (ends_fields None 0 image.ends)
    (like_field 2 (length image.ends) (length like.ends) (ends 0).allows
    (All-head IsAllowed (ends (length like.ends)) (ends_fields None 0 like.ends) b)
    (All-head IsAllowed like_ends second_ends d))
    (ends_allowed 0 like.ends image.ends
    (All-tail IsAllowed (ends (length like.ends)) (ends_fields None 0 like.ends) b)
    (All-tail IsAllowed like_ends second_ends d)))
