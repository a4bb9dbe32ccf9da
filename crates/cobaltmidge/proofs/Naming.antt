-- One channel more, on the way through the names of the outputs' files.
use Rattle.std.proofs.Common.{◌≡◌, ◌∙◌, sym, ap, refl, ℕ, ◌+◌, ◌<◌, ◌≤◌, List, [], ◌∷◌, ◌++◌, drop, get_or, length, append_assoc, append-nil}
use Rattle.std.proofs.lemmas.List.{at_drop_more, drop_all}
use Rattle.net_text.specs.Names.{NameTree}
use Rattle.protocol.specs.Node.Common.{Channel, Port, Outside, Process}
use Rattle.cobaltmidge.specs.FileNames.{file_names, name_if_output}

-- an output's name stands in front of the others
in_front : (port : Port) (name : NameTree) (names : List (List ℕ)) → name_if_output port name names ≡ name_if_output port name [] ++ names
in_front Outside name names = refl
in_front (Process p) name names = refl

pub names_next : (cs : List Channel) (ns : List NameTree) (i : ℕ) (d : Channel) (n : NameTree) → i < length cs → i < length ns
    → n ≡ get_or ns i n
    → file_names (drop i cs) (drop i ns)
    ≡ name_if_output (get_or cs i d).consumer n [] ++ file_names (drop (i + 1) cs) (drop (i + 1) ns)
names_next cs ns i d n h k is =
    let rest = file_names (drop (i + 1) cs) (drop (i + 1) ns) in
    at_drop_more (λ (x : List Channel). file_names x (drop i ns)) cs i d h
    ∙ (at_drop_more (λ (x : List NameTree). file_names (get_or cs i d ∷ drop (i + 1) cs) x) ns i n k
    ∙ (in_front (get_or cs i d).consumer (get_or ns i n) rest
    ∙ ap (λ (x : NameTree). name_if_output (get_or cs i d).consumer x [] ++ rest) (sym is)))

-- behind the last channel nothing is to come
pub names_end : (files whole : List (List ℕ)) (cs : List Channel) (ns : List NameTree) (i : ℕ) → length cs ≤ i
    → files ++ file_names (drop i cs) (drop i ns) ≡ whole → files ≡ whole
names_end files whole cs ns i past is =
    sym (append-nil files) ∙ (ap (λ (x : List Channel). files ++ file_names x (drop i ns)) (sym (drop_all i cs past)) ∙ is)

-- what was listed, and then the next one
pub named_more : (before after next rest whole now : List (List ℕ)) → after ≡ before ++ next → now ≡ next ++ rest
    → before ++ now ≡ whole → after ++ rest ≡ whole
named_more before after next rest whole now a b h =
    ap (λ (x : List (List ℕ)). x ++ rest) a ∙ (append_assoc before next rest ∙ (ap (λ (x : List (List ℕ)). before ++ x) (sym b) ∙ h))
