-- A script has one list of lines, or one fault.
use Rattle.std.proofs.Common.{◌≡◌, ℕ, suc, ◌<◌, ◌≤◌, ◌+◌, ◌==◌, true, List, [], ◌∷◌, ◌++◌, drop, length, take}
use Rattle.std.proofs.Common.{refl, ap, arith, sym, ◌∙◌, subst, Option, Some, None, inl, inr, ◌⊎◌}
use Rattle.std.proofs.Common.{Bor, get_or, map, add-one, drop-cons}
use Rattle.std.proofs.Math.Seq.{take-suc}
use Rattle.std.proofs.lemmas.List.{map-append, take-append-drop, length-map, length-take-le}
use Rattle.std.specs.List.{slice_split}
use Rattle.std.specs.Str.Lines.{strip_carriage_return}
use Rattle.net_text.specs.InputLines.{IsBlank, lines_of}
use Rattle.fail_script.specs.declared.act.ScriptLine.{ScriptLine}
use Rattle.fail_script.specs.declared.fault.ScriptFault.{ScriptFault}
use Rattle.fail_script.specs.declared.fault.ScriptFault.TheVariants.{NoMemory, BadLine, UnknownNode}
use Rattle.fail_script.specs.declared.limits.TheConstants.{BEYOND_NODES, MAX_SCRIPT_BYTES}
use Rattle.fail_script.specs.Lines.{words_of, form_of, IsActText, IsLineText, HasForm, IsInNetwork, AreScriptLines}
use Rattle.fail_script.specs.Lines.{last_round}
use Rattle.fail_script.specs.Lines.{IsFormless, NamesNoNode, IsBadLine, IsScript, IsScriptFault}
use Rattle.fail_script.specs.Reading.{cut, act_in, is_in_network, IsTextRead, IsTextFault, IsLinesFault, lines_with}
use Rattle.fail_script.specs.Reading.{round_after}
use Rattle.fail_script.proofs.Acts.{act_reads}
use Rattle.fail_script.proofs.Forms.{inside, same_form}
use Rattle.fail_script.proofs.LineLaws.{head_of, tail_of, same_round, within_network, network_seen}

-- a right line more
pub grows : (nodes round : ℕ) (texts : List (List ℕ)) (lines : List ScriptLine) (text : List ℕ) (line : ScriptLine)
    → AreScriptLines nodes round texts lines → HasForm (last_round round lines) text line → IsInNetwork nodes line.act
    → AreScriptLines nodes round (texts ++ text ∷ []) (lines ++ line ∷ [])
grows nodes round [] lines text line are form within =
    inr (
      line,
      [],
      ap (λ ls. ls ++ line ∷ []) are,
      subst (λ ls. HasForm (last_round round ls) text line) are form,
      within,
      refl,
    )
grows nodes round (t ∷ texts) lines text line (inl blank) form within =
    inl (blank.0, grows nodes round texts lines text line blank.1 form within)
grows nodes round (t ∷ texts) lines text line (inr are) form within =
    inr (
      are.0,
      are.1 ++ line ∷ [],
      ap (λ ls. ls ++ line ∷ []) are.2,
      are.3,
      are.4,
      grows nodes are.0.round texts are.1 text line are.5
          (subst (λ ls. HasForm (last_round round ls) text line) are.2 form) within,
    )

-- a blank line more
pub grows_blank : (nodes round : ℕ) (texts : List (List ℕ)) (lines : List ScriptLine) (text : List ℕ)
    → AreScriptLines nodes round texts lines → IsBlank text → AreScriptLines nodes round (texts ++ text ∷ []) lines
grows_blank nodes round [] lines text are blank = inl (blank, are)
grows_blank nodes round (t ∷ texts) lines text (inl is) blank =
    inl (is.0, grows_blank nodes round texts lines text is.1 blank)
grows_blank nodes round (t ∷ texts) lines text (inr are) blank =
    inr (are.0, are.1, are.2, are.3, are.4, grows_blank nodes are.0.round texts are.1 text are.5 blank)

pub last_of : (round : ℕ) (lines : List ScriptLine) (line : ScriptLine)
    → last_round round (lines ++ line ∷ []) ≡ line.round
last_of round [] line = refl
last_of round (l ∷ lines) line = last_of l.round lines line

-- the acts of one text are read alike
same_cut : (words : List (List ℕ)) (v w : ScriptLine) → IsLineText v words → IsLineText w words → cut v.act ≡ cut w.act
same_cut words v w one other =
    let a = act_reads v.act one.others one.act in
    let b = act_reads w.act one.others
    (subst (λ ws. IsActText w.act ws) (tail_of (sym other.parts ∙ one.parts)) other.act) in
    ap (inside (cut v.act))
    (sym a.gives ∙ ap (λ f. act_in f one.others) (same_form (form_of v.act) (form_of w.act) one.others a.has b.has)
    ∙ b.gives)

-- so a right text is one line
one_line : (nodes round : ℕ) (text : List ℕ) (v w : ScriptLine) → nodes ≤ BEYOND_NODES → HasForm round text v
    → HasForm round text w → IsInNetwork nodes v.act → IsInNetwork nodes w.act → v ≡ w
one_line nodes round text v w few one other inside_one inside_other =
    let rounds = same_round (words_of text) v w one.words other.words in
    let acts =
    sym (within_network nodes v.act few (network_seen nodes v.act few inside_one)).0
    ∙ same_cut (words_of text) v w one.words other.words
    ∙ (within_network nodes w.act few (network_seen nodes w.act few inside_other)).0 in
    ap (λ r. record { round = r; act = v.act }) rounds ∙ ap (λ a. record { round = w.round; act = a }) acts

-- of one text, either all that it says is in the network or nothing is
both_within : (nodes : ℕ) (words : List (List ℕ)) (v w : ScriptLine) → nodes ≤ BEYOND_NODES → IsLineText v words
    → IsLineText w words → IsInNetwork nodes w.act → IsInNetwork nodes v.act
both_within nodes words v w few one other is =
    (within_network nodes v.act few
    (subst (λ a. is_in_network nodes a ≡ true) (sym (same_cut words v w one other))
    (network_seen nodes w.act few is))).1

-- right lines are one list
pub one_list : (nodes round : ℕ) (texts : List (List ℕ)) (xs ys : List ScriptLine) → nodes ≤ BEYOND_NODES
    → AreScriptLines nodes round texts xs → AreScriptLines nodes round texts ys → xs ≡ ys
one_list nodes round [] xs ys few one other = one ∙ sym other
one_list nodes round (t ∷ texts) xs ys few (inl one) (inl other) = one_list nodes round texts xs ys few one.1 other.1
one_list nodes round (t ∷ texts) xs ys few (inl one) (inr other) = absurd (other.3.shown one.0)
one_list nodes round (t ∷ texts) xs ys few (inr one) (inl other) = absurd (one.3.shown other.0)
one_list nodes round (t ∷ texts) xs ys few (inr one) (inr other) =
    let line = one_line nodes round t one.0 other.0 few one.3 other.3 one.4 other.4 in
    let others =
    one_list nodes one.0.round texts one.1 other.1 few one.5
    (subst (λ l. AreScriptLines nodes l.round texts other.1) (sym line) other.5) in
    one.2 ∙ ap (λ l. l ∷ one.1) line ∙ ap (λ ls. other.0 ∷ ls) others ∙ sym other.2

-- what stands behind right lines
behind : (nodes round : ℕ) (before after : List (List ℕ)) (read all : List ScriptLine) → nodes ≤ BEYOND_NODES
    → AreScriptLines nodes round before read → AreScriptLines nodes round (before ++ after) all
    → (rest : List ScriptLine) × AreScriptLines nodes (last_round round read) after rest
behind nodes round [] after read all few one other =
    (all, subst (λ ls. AreScriptLines nodes (last_round round ls) after all) (sym one) other)
behind nodes round (t ∷ before) after read all few (inl one) (inl other) =
    behind nodes round before after read all few one.1 other.1
behind nodes round (t ∷ before) after read all few (inl one) (inr other) = absurd (other.3.shown one.0)
behind nodes round (t ∷ before) after read all few (inr one) (inl other) = absurd (one.3.shown other.0)
behind nodes round (t ∷ before) after read all few (inr one) (inr other) =
    let line = one_line nodes round t one.0 other.0 few one.3 other.3 one.4 other.4 in
    let h =
    behind nodes one.0.round before after one.1 other.1 few one.5
    (subst (λ l. AreScriptLines nodes l.round (before ++ after) other.1) (sym line) other.5) in
    (h.0, subst (λ ls. AreScriptLines nodes (last_round round ls) after h.0) (sym one.2) h.1)

-- a line that isn't right is none of right ones
pub formless_fails : (nodes round : ℕ) (text : List ℕ) (texts : List (List ℕ)) (lines : List ScriptLine)
    → IsFormless round text
    → AreScriptLines nodes round (text ∷ texts) lines → ⊥
formless_fails nodes round text texts lines bad (inl blank) = bad.0 blank.0
formless_fails nodes round text texts lines bad (inr are) = bad.1 are.0 are.3

pub no_node_fails : (nodes round : ℕ) (text : List ℕ) (texts : List (List ℕ)) (lines : List ScriptLine)
    → nodes ≤ BEYOND_NODES
    → NamesNoNode nodes round text → AreScriptLines nodes round (text ∷ texts) lines → ⊥
no_node_fails nodes round text texts lines few bad (inl blank) = bad.1.shown blank.0
no_node_fails nodes round text texts lines few bad (inr are) =
    bad.2 (both_within nodes (words_of text) bad.0 are.0 few bad.1.words are.3.words are.4)

formless_has_node : (nodes round : ℕ) (text : List ℕ) → IsFormless round text → NamesNoNode nodes round text → ⊥
formless_has_node nodes round text bad other = bad.1 other.0 other.1

-- ---- where two lists of lines are cut

data Cuts (before after others behind : List (List ℕ)) (x y : List ℕ) : Type 0 where
  Same : before ≡ others → x ≡ y → Cuts before after others behind x y
  Earlier : (middle : List (List ℕ)) → others ≡ before ++ x ∷ middle → Cuts before after others behind x y
  Later : (middle : List (List ℕ)) → before ≡ others ++ y ∷ middle → Cuts before after others behind x y

cuts : (before after others behind : List (List ℕ)) (x y : List ℕ) → before ++ x ∷ after ≡ others ++ y ∷ behind
    → Cuts before after others behind x y
cuts [] after [] behind x y e = Same refl (head_of e)
cuts [] after (o ∷ others) behind x y e = Earlier others (ap (λ w. w ∷ others) (sym (head_of e)))
cuts (b ∷ before) after [] behind x y e = Later before (ap (λ w. w ∷ before) (head_of e))
cuts (b ∷ before) after (o ∷ others) behind x y e = deeper (cuts before after others behind x y (tail_of e))
  where
    deeper : Cuts before after others behind x y → Cuts (b ∷ before) after (o ∷ others) behind x y
    deeper (Same all same) = Same (ap (λ w. w ∷ before) (head_of e) ∙ ap (λ ws. o ∷ ws) all) same
    deeper (Earlier middle all) =
        Earlier middle (ap (λ w. w ∷ others) (sym (head_of e)) ∙ ap (λ ws. b ∷ ws) all)
    deeper (Later middle all) = Later middle (ap (λ w. w ∷ before) (head_of e) ∙ ap (λ ws. o ∷ ws) all)

-- what is bad in a line is bad behind no right lines
abbrev Fails : (nodes : ℕ) → (ℕ → List ℕ → Type 0) → Type 0
Fails nodes IsBad =
    (round : ℕ) (text : List ℕ) (texts : List (List ℕ)) (lines : List ScriptLine) → IsBad round text
    → AreScriptLines nodes round (text ∷ texts) lines → ⊥

record AtOnePlace (number other : ℕ) (IsBad IsOther : ℕ → List ℕ → Type 0) : Type 0 where
  pub same : number ≡ other
  pub round : ℕ
  pub text : List ℕ
  pub bad : IsBad round text
  pub also : IsOther round text

within_right : (nodes : ℕ) (before others middle : List (List ℕ)) (x : List ℕ) (read all : List ScriptLine)
    → nodes ≤ BEYOND_NODES → AreScriptLines nodes 0 before read → AreScriptLines nodes 0 others all
    → others ≡ before ++ x ∷ middle
    → (rest : List ScriptLine) × AreScriptLines nodes (last_round 0 read) (x ∷ middle) rest
within_right nodes before others middle x read all few one other e =
    behind nodes 0 before (x ∷ middle) read all few one (subst (λ ts. AreScriptLines nodes 0 ts all) e other)

-- two bad lines are one
one_place : (nodes : ℕ) (texts : List (List ℕ)) (number other : ℕ) (IsBad IsOther : ℕ → List ℕ → Type 0)
    → nodes ≤ BEYOND_NODES → Fails nodes IsBad → Fails nodes IsOther → IsBadLine nodes texts number IsBad
    → IsBadLine nodes texts other IsOther → AtOnePlace number other IsBad IsOther
one_place nodes texts number other IsBad IsOther few fails also one two =
    placed (cuts one.before one.after two.before two.after one.line two.line (sym one.parts ∙ two.parts))
  where
    placed : Cuts one.before one.after two.before two.after one.line two.line → AtOnePlace number other IsBad IsOther
    placed (Earlier middle e) =
        let h = within_right nodes one.before two.before middle one.line one.read two.read few one.right two.right e in
        absurd (fails (last_round 0 one.read) one.line middle h.0 one.bad h.1)
    placed (Later middle e) =
        let h = within_right nodes two.before one.before middle two.line two.read one.read few two.right one.right e in
        absurd (also (last_round 0 two.read) two.line middle h.0 two.bad h.1)
    placed (Same e line) =
        let read =
        one_list nodes 0 two.before one.read two.read few
        (subst (λ ts. AreScriptLines nodes 0 ts one.read) e one.right) two.right in
        record {
          same = one.number_is ∙ ap (λ ts. suc (length ts)) e ∙ sym two.number_is;
          round = last_round 0 one.read;
          text = one.line;
          bad = one.bad;
          also =
              subst (λ ls. IsOther (last_round 0 ls) one.line) (sym read)
              (subst (λ t. IsOther (last_round 0 two.read) t) (sym line) two.bad);
        }

no_node_is_bad : (nodes : ℕ) → nodes ≤ BEYOND_NODES → Fails nodes (NamesNoNode nodes)
no_node_is_bad nodes few round text texts lines bad are = no_node_fails nodes round text texts lines few bad are

-- lines have one fault
pub one_fault : (nodes : ℕ) (texts : List (List ℕ)) (fault other : ScriptFault) → nodes ≤ BEYOND_NODES
    → IsLinesFault nodes texts fault → IsLinesFault nodes texts other
    → (fault ≡ NoMemory) ⊎ ((other ≡ NoMemory) ⊎ (other ≡ fault))
one_fault nodes texts NoMemory other few one two = inl refl
one_fault nodes texts fault NoMemory few one two = inr (inl refl)
one_fault nodes texts (BadLine a) (BadLine b) few one two =
    let h = one_place nodes texts a b IsFormless IsFormless few (formless_fails nodes) (formless_fails nodes) one two in
    inr (inr (ap BadLine (sym h.same)))
one_fault nodes texts (BadLine a) (UnknownNode b) few one two =
    let h =
    one_place nodes texts a b IsFormless (NamesNoNode nodes) few (formless_fails nodes) (no_node_is_bad nodes few) one
    two in
    absurd (formless_has_node nodes h.round h.text h.bad h.also)
one_fault nodes texts (UnknownNode a) (BadLine b) few one two =
    let h =
    one_place nodes texts a b (NamesNoNode nodes) IsFormless few (no_node_is_bad nodes few) (formless_fails nodes) one
    two in
    absurd (formless_has_node nodes h.round h.text h.also h.bad)
one_fault nodes texts (UnknownNode a) (UnknownNode b) few one two =
    let h =
    one_place nodes texts a b (NamesNoNode nodes) (NamesNoNode nodes) few (no_node_is_bad nodes few)
    (no_node_is_bad nodes few)
    one two in
    inr (inr (ap UnknownNode (sym h.same)))

-- and right lines have none
right_or_bad : (nodes : ℕ) (texts : List (List ℕ)) (number : ℕ) (IsBad : ℕ → List ℕ → Type 0) (lines : List ScriptLine)
    → nodes ≤ BEYOND_NODES → Fails nodes IsBad → IsBadLine nodes texts number IsBad
    → AreScriptLines nodes 0 texts lines → ⊥
right_or_bad nodes texts number IsBad lines few fails bad are =
    let h = within_right nodes bad.before texts bad.after bad.line bad.read lines few bad.right are bad.parts in
    fails (last_round 0 bad.read) bad.line bad.after h.0 bad.bad h.1

pub right_has_no_fault : (nodes : ℕ) (texts : List (List ℕ)) (lines : List ScriptLine) (fault : ScriptFault)
    → nodes ≤ BEYOND_NODES
    → AreScriptLines nodes 0 texts lines → IsLinesFault nodes texts fault → fault ≡ NoMemory
right_has_no_fault nodes texts lines NoMemory few are is = refl
right_has_no_fault nodes texts lines (BadLine n) few are is =
    absurd (right_or_bad nodes texts n IsFormless lines few (formless_fails nodes) is are)
right_has_no_fault nodes texts lines (UnknownNode n) few are is =
    absurd (right_or_bad nodes texts n (NamesNoNode nodes) lines few (no_node_is_bad nodes few) is are)

-- ---- the loop over lines

-- the fault of the next text is that of all
pub fault_at : (nodes : ℕ) (before after : List (List ℕ)) (text : List ℕ) (read : List ScriptLine) (fault : ScriptFault)
    → AreScriptLines nodes 0 before read → IsTextFault nodes (suc (length before)) (last_round 0 read) text fault
    → IsLinesFault nodes (before ++ text ∷ after) fault
fault_at nodes before after text read NoMemory are is = tt
fault_at nodes before after text read (BadLine n) are is =
    record {
      before = before;
      line = text;
      after = after;
      parts = refl;
      number_is = is.0;
      read = read;
      right =
          are;
      bad = is.1;
    }
fault_at nodes before after text read (UnknownNode n) are is =
    record {
      before = before;
      line = text;
      after = after;
      parts = refl;
      number_is = is.0;
      read = read;
      right =
          are;
      bad = is.1;
    }

-- the next text is read
pub one_more : (nodes round : ℕ) (before : List (List ℕ)) (text : List ℕ) (read : List ScriptLine)
    (line : Option ScriptLine)
    → AreScriptLines nodes 0 before read → round ≡ last_round 0 read → IsTextRead nodes round text line
    → AreScriptLines nodes 0 (before ++ text ∷ []) (lines_with line read)
    × (round_after round line ≡ last_round 0 (lines_with line read))
one_more nodes round before text read None are same is = (grows_blank nodes 0 before read text are is, same)
one_more nodes round before text read (Some line) are same is = (
  grows nodes 0 before read text line are (subst (λ r. HasForm r text line) same is.0) is.1,
  sym (last_of 0 read line),
)

-- ---- texts as parts of a script

abbrev pub texts_of : List (Bor (List ℕ)) → List (List ℕ)
texts_of parts = map (λ part. strip_carriage_return part.now) parts

next_text : (parts : List (Bor (List ℕ))) (i : ℕ) (d : Bor (List ℕ)) → i < length parts
    → texts_of (take (i + 1) parts) ≡ texts_of (take i parts) ++ strip_carriage_return (get_or parts i d).now ∷ []
next_text parts i d within =
    ap (λ k. texts_of (take k parts)) (add-one i) ∙ ap texts_of (take-suc parts i d within)
    ∙ map-append (λ part. strip_carriage_return part.now) (take i parts) (get_or parts i d ∷ [])

all_texts : (parts : List (Bor (List ℕ))) (i : ℕ) (d : Bor (List ℕ)) → i < length parts
    → texts_of parts
    ≡ texts_of (take i parts) ++ strip_carriage_return (get_or parts i d).now ∷ texts_of (drop (suc i) parts)
all_texts parts i d within =
    ap texts_of (sym (take-append-drop i parts))
    ∙ map-append (λ part. strip_carriage_return part.now) (take i parts) (drop i parts)
    ∙ ap (λ ps. texts_of (take i parts) ++ texts_of ps) (drop-cons parts i d within)

-- one turn of the loop
pub turn_goes_on : (nodes round : ℕ) (parts : List (Bor (List ℕ))) (i : ℕ) (d : Bor (List ℕ)) (text : List ℕ)
    (read now : List ScriptLine) (line : Option ScriptLine) (after : ℕ) → i < length parts
    → text ≡ strip_carriage_return (get_or parts i d).now
    → AreScriptLines nodes 0 (texts_of (take i parts)) read × (round ≡ last_round 0 read)
    → IsTextRead nodes round text line → now ≡ lines_with line read → after ≡ round_after round line
    → AreScriptLines nodes 0 (texts_of (take (i + 1) parts)) now × (after ≡ last_round 0 now)
turn_goes_on nodes round parts i d text read now line after within is so_far told lines rounds =
    let h =
    one_more nodes round (texts_of (take i parts)) (strip_carriage_return (get_or parts i d).now) read line so_far.0
    so_far.1
    (subst (λ t. IsTextRead nodes round t line) is told) in (
      subst (λ ts. AreScriptLines nodes 0 ts now) (sym (next_text parts i d within))
          (subst
          (λ ls. AreScriptLines nodes 0 (texts_of (take i parts) ++ strip_carriage_return (get_or parts i d).now ∷ [])
          ls)
          (sym lines) h.0),
      rounds ∙ h.1 ∙ ap (last_round 0) (sym lines),
    )

pub turn_fails : (nodes round : ℕ) (parts : List (Bor (List ℕ))) (i : ℕ) (d : Bor (List ℕ)) (text : List ℕ)
    (read : List ScriptLine) (fault : ScriptFault) → i < length parts
    → text ≡ strip_carriage_return (get_or parts i d).now
    → AreScriptLines nodes 0 (texts_of (take i parts)) read × (round ≡ last_round 0 read)
    → IsTextFault nodes (i + 1) round text fault → IsLinesFault nodes (texts_of parts) fault
turn_fails nodes round parts i d text read fault within is so_far told =
    let number : i + 1 ≡ suc (length (texts_of (take i parts))) =
    add-one i
    ∙ ap suc
    (sym (length-map (take i parts) (λ part. strip_carriage_return part.now)
    ∙ length-take-le i parts (omega (arith, within)))) in
    let here =
    subst (λ n. IsTextFault nodes n (last_round 0 read) (strip_carriage_return (get_or parts i d).now) fault) number
    (subst (λ r. IsTextFault nodes (i + 1) r (strip_carriage_return (get_or parts i d).now) fault) so_far.1
    (subst (λ t. IsTextFault nodes (i + 1) round t fault) is told)) in
    subst (λ ts. IsLinesFault nodes ts fault) (sym (all_texts parts i d within))
    (fault_at nodes (texts_of (take i parts)) (texts_of (drop (suc i) parts)) _ read fault so_far.0 here)

-- ---- the whole script

pub parts_are_lines : (parts : List (Bor (List ℕ))) (text : List ℕ)
    → map (λ part. part.now) parts ≡ slice_split (λ b. b == 10) text
    → texts_of parts ≡ lines_of text
parts_are_lines parts text e = in_turn parts ∙ ap (map strip_carriage_return) e
  where
    in_turn : (ps : List (Bor (List ℕ))) → texts_of ps ≡ map strip_carriage_return (map (λ part. part.now) ps)
    in_turn [] = refl
    in_turn (p ∷ ps) = ap (λ ts. strip_carriage_return p.now ∷ ts) (in_turn ps)

script_fault : (nodes : ℕ) (text : List ℕ) (fault : ScriptFault) → length text ≤ MAX_SCRIPT_BYTES
    → IsLinesFault nodes (lines_of text) fault → IsScriptFault nodes text fault
script_fault nodes text NoMemory small is = tt
script_fault nodes text (BadLine n) small is = inr (small, is)
script_fault nodes text (UnknownNode n) small is = (small, is)

lines_fault : (nodes : ℕ) (text : List ℕ) (fault : ScriptFault) → length text ≤ MAX_SCRIPT_BYTES
    → IsScriptFault nodes text fault → IsLinesFault nodes (lines_of text) fault
lines_fault nodes text NoMemory small is = tt
lines_fault nodes text (BadLine n) small (inl is) = absurd (omega (arith, small, is.0))
lines_fault nodes text (BadLine n) small (inr is) = is.1
lines_fault nodes text (UnknownNode n) small is = is.1

pub told_fault : (nodes : ℕ) (texts : List (List ℕ)) (text : List ℕ) (fault : ScriptFault) → texts ≡ lines_of text
    → length text ≤ MAX_SCRIPT_BYTES → IsLinesFault nodes texts fault → IsScriptFault nodes text fault
told_fault nodes texts text fault same small is =
    script_fault nodes text fault small (subst (λ ts. IsLinesFault nodes ts fault) same is)

pub told_once : (nodes : ℕ) (texts : List (List ℕ)) (text : List ℕ) (told : ScriptFault) → nodes ≤ BEYOND_NODES
    → texts ≡ lines_of text → length text ≤ MAX_SCRIPT_BYTES → IsLinesFault nodes texts told
    → (fault : ScriptFault) → IsScriptFault nodes text fault → (fault ≡ NoMemory) ⊎ ((told ≡ NoMemory) ⊎ (told ≡ fault))
told_once nodes texts text told few same small is fault other =
    one_fault nodes (lines_of text) fault told few (lines_fault nodes text fault small other)
    (subst (λ ts. IsLinesFault nodes ts told) same is)

pub told_no_script : (nodes : ℕ) (texts : List (List ℕ)) (text : List ℕ) (told : ScriptFault) → nodes ≤ BEYOND_NODES
    → texts ≡ lines_of text → IsLinesFault nodes texts told → (lines : List ScriptLine) → IsScript nodes text lines
    → told ≡ NoMemory
told_no_script nodes texts text told few same is lines script =
    right_has_no_fault nodes (lines_of text) lines told few script.lines_are
    (subst (λ ts. IsLinesFault nodes ts told) same is)

pub read_script : (nodes : ℕ) (texts : List (List ℕ)) (text : List ℕ) (lines : List ScriptLine) → texts ≡ lines_of text
    → length text ≤ MAX_SCRIPT_BYTES → AreScriptLines nodes 0 texts lines → IsScript nodes text lines
read_script nodes texts text lines same small are =
    record { small = small; lines_are = subst (λ ts. AreScriptLines nodes 0 ts lines) same are }

pub read_no_fault : (nodes : ℕ) (texts : List (List ℕ)) (text : List ℕ) (lines : List ScriptLine) → nodes ≤ BEYOND_NODES
    → texts ≡ lines_of text → length text ≤ MAX_SCRIPT_BYTES → AreScriptLines nodes 0 texts lines
    → (fault : ScriptFault) → IsScriptFault nodes text fault → fault ≡ NoMemory
read_no_fault nodes texts text lines few same small are fault is =
    right_has_no_fault nodes (lines_of text) lines fault few (subst (λ ts. AreScriptLines nodes 0 ts lines) same are)
    (lines_fault nodes text fault small is)

pub read_once : (nodes : ℕ) (texts : List (List ℕ)) (text : List ℕ) (lines : List ScriptLine) → nodes ≤ BEYOND_NODES
    → texts ≡ lines_of text → AreScriptLines nodes 0 texts lines → (others : List ScriptLine)
    → IsScript nodes text others
    → lines ≡ others
read_once nodes texts text lines few same are others script =
    one_list nodes 0 (lines_of text) lines others few (subst (λ ts. AreScriptLines nodes 0 ts lines) same are)
    script.lines_are
