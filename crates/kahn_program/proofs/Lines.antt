-- One channel more, on the way through the channels of a network.
use Rattle.std.proofs.Common.{◌≡◌, ◌∙◌, sym, ap, ℕ, ◌+◌, ◌<◌, List, ℤ, ◌∷◌, ◌++◌, drop, get_or, length, append_assoc}
use Rattle.std.proofs.lemmas.List.{at_drop_more}
use Rattle.net_text.specs.Names.{NameTree}
use Rattle.protocol.specs.Node.Common.{Channel, Port}
use Rattle.kahn_program.specs.Report.{one_if_output, output_count, output_line, output_lines, next_line, line_if_output}

pub count_at : (cs : List Channel) (i : ℕ) (d : Channel) (port : Port) → i < length cs
    → (get_or cs i d).consumer ≡ port → output_count (drop i cs) ≡ one_if_output port (output_count (drop (i + 1) cs))
count_at cs i d port h is =
    at_drop_more output_count cs i d h ∙ ap (λ (p : Port). one_if_output p (output_count (drop (i + 1) cs))) is

pub lines_at : (cs : List Channel) (ns : List NameTree) (ss : List (List ℤ)) (i : ℕ) (d : Channel) (n : NameTree)
    (port : Port) → i < length cs → i < length ns → (get_or cs i d).consumer ≡ port
    → output_lines (drop i cs) (drop i ns) ss
    ≡ line_if_output port (get_or ns i n) ss (output_lines (drop (i + 1) cs) (drop (i + 1) ns))
lines_at cs ns ss i d n port h k is =
    at_drop_more (λ (x : List Channel). output_lines x (drop i ns) ss) cs i d h
    ∙ (at_drop_more (λ (x : List NameTree). output_lines (get_or cs i d ∷ drop (i + 1) cs) x ss) ns i n k
    ∙ ap (λ (p : Port). line_if_output p (get_or ns i n) ss (output_lines (drop (i + 1) cs) (drop (i + 1) ns))) is)

pub line_at : (name : NameTree) (ss : List (List ℤ)) (j : ℕ) (s : List ℤ) (go : List (List ℤ) → List ℕ) → j < length ss
    → next_line name (drop j ss) go ≡ output_line name (get_or ss j s) ++ go (drop (j + 1) ss)
line_at name ss j s go h = at_drop_more (λ (x : List (List ℤ)). next_line name x go) ss j s h

-- what was written, and then the next line
pub written_more : (before after line rest whole now : List ℕ) → after ≡ before ++ line → now ≡ line ++ rest
    → before ++ now ≡ whole → after ++ rest ≡ whole
written_more before after line rest whole now a b h =
    ap (λ (x : List ℕ). x ++ rest) a ∙ (append_assoc before line rest ∙ (ap (λ (x : List ℕ). before ++ x) (sym b) ∙ h))
