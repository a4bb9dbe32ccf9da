-- One path more, on the way through the files of a folder.
use Rattle.std.proofs.Common.{◌≡◌, ◌∙◌, sym, ap, ℕ, ◌+◌, ◌<◌, ◌≤◌, List, [], ◌∷◌, ◌++◌, drop, get_or, length, map, append_assoc, append-nil, string_bytes}
use Rattle.std.proofs.lemmas.List.{at_drop_more, drop_all, map-append}
use Rattle.std.specs.declared.alloc.Global.{Global}
use Rattle.std.specs.declared.string.String.{String}
use Rattle.run_files.specs.Opening.{path_in}

abbrev texts : List (String Global) → List (List ℕ)
texts names = map (λ (name : String Global). string_bytes name) names

-- the paths of what is still to come begin with the next one
pub paths_next : (folder : List ℕ) (outputs : List (String Global)) (i : ℕ) (output : String Global) → i < length outputs
    → output ≡ get_or outputs i output
    → map (path_in folder) (map (λ (name : String Global). string_bytes name) (drop i outputs))
    ≡ path_in folder (string_bytes output) ∷ map (path_in folder) (map (λ (name : String Global). string_bytes name) (drop (i + 1) outputs))
paths_next folder outputs i output within is =
    at_drop_more (λ (rest : List (String Global)). map (path_in folder) (texts rest)) outputs i output within
    ∙ ap (λ (it : String Global). path_in folder (string_bytes it) ∷ map (path_in folder) (texts (drop (i + 1) outputs))) (sym is)

-- what was listed, and then the next one
pub listed_more : (before after : List (String Global)) (path : String Global) (next : List ℕ) (rest now whole : List (List ℕ))
    → after ≡ before ++ path ∷ [] → string_bytes path ≡ next → now ≡ next ∷ rest
    → map (λ (name : String Global). string_bytes name) before ++ now ≡ whole
    → map (λ (name : String Global). string_bytes name) after ++ rest ≡ whole
listed_more before after path next rest now whole pushed is more h =
    ap (λ (x : List (String Global)). texts x ++ rest) pushed
    ∙ (ap (λ (x : List (List ℕ)). x ++ rest) (map-append (λ (name : String Global). string_bytes name) before (path ∷ []))
    ∙ (append_assoc (texts before) (string_bytes path ∷ []) rest
    ∙ (ap (λ (x : List ℕ). texts before ++ (x ∷ rest)) is
    ∙ (ap (λ (x : List (List ℕ)). texts before ++ x) (sym more) ∙ h))))

-- behind the last output nothing is to come
pub paths_end : (listed whole : List (List ℕ)) (folder : List ℕ) (outputs : List (String Global)) (i : ℕ) → length outputs ≤ i
    → listed ++ map (path_in folder) (map (λ (name : String Global). string_bytes name) (drop i outputs)) ≡ whole → listed ≡ whole
paths_end listed whole folder outputs i past is =
    sym (append-nil listed)
    ∙ (ap (λ (x : List (String Global)). listed ++ map (path_in folder) (texts x)) (sym (drop_all i outputs past)) ∙ is)

-- the names of what was opened, and those of what is still to be opened
pub names_more : (before after : List (List ℕ)) (name : String Global) (rest next : List (String Global)) (whole : List (List ℕ))
    → after ≡ before ++ string_bytes name ∷ [] → next ≡ name ∷ rest
    → before ++ map (λ (name : String Global). string_bytes name) next ≡ whole
    → after ++ map (λ (name : String Global). string_bytes name) rest ≡ whole
names_more before after name rest next whole is more h =
    ap (λ (x : List (List ℕ)). x ++ texts rest) is
    ∙ (append_assoc before (string_bytes name ∷ []) (texts rest)
    ∙ (ap (λ (x : List (String Global)). before ++ texts x) (sym more) ∙ h))
