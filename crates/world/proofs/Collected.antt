-- What a loop collects of a list: what it has, and then what is to come, is always the same.
use Rattle.std.proofs.Common.{◌≡◌, ◌++◌, ◌∷◌, [], List, sym, ap, ◌∙◌}
use Rattle.std.specs.Prelude.{map}
use Rattle.std.specs.List.{flat_map}
use Rattle.std.proofs.lemmas.List.{append_assoc, append-nil}

-- one element more, of which one thing is collected
pub one_more : {A B : Type 0} (f : A → B) (had has total : List B) (x : A) (more whole : List A)
    → has ≡ had ++ f x ∷ [] → whole ≡ x ∷ more → had ++ map f whole ≡ total → has ++ map f more ≡ total
one_more f had has total x more whole is steps kept =
    ap (λ l. l ++ map f more) is ∙ append_assoc had (f x ∷ []) (map f more)
    ∙ ap (λ l. had ++ map f l) (sym steps) ∙ kept

-- one of which a list is collected
pub one_list_more : {A B : Type 0} (f : A → List B) (had has total : List B) (x : A) (more whole : List A)
    → has ≡ had ++ f x → whole ≡ x ∷ more → had ++ flat_map f whole ≡ total → has ++ flat_map f more ≡ total
one_list_more f had has total x more whole is steps kept =
    ap (λ l. l ++ flat_map f more) is ∙ append_assoc had (f x) (flat_map f more)
    ∙ ap (λ l. had ++ flat_map f l) (sym steps) ∙ kept

-- none are to come
pub all_lists : {A B : Type 0} (f : List A → List B) (has total : List B) (rest : List A) → f [] ≡ [] → rest ≡ []
    → has ++ f rest ≡ total → has ≡ total
all_lists f has total rest nothing none kept =
    sym (append-nil has) ∙ ap (λ l. has ++ l) (sym nothing) ∙ ap (λ l. has ++ f l) (sym none) ∙ kept
