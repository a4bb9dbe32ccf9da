-- What is read of a line is what it says, and what it says is read.
use Rattle.std.proofs.Common.{◌≡◌, ℕ, ◌<◌, ◌≤◌, ◌&&◌, ◌||◌, true, false, nat_lt, List, [], ◌∷◌, drop, Bor, length}
use Rattle.std.proofs.Common.{get_or, map, take, take_all, ◌-◌}
use Rattle.std.proofs.Common.{rules, tests, refl, ap, arith, sym, ◌∙◌, subst, Some, None, inl, inr}
use Rattle.std.proofs.lemmas.Bool.{and_parts, both_ways}
use Rattle.std.proofs.Math.Bool.{or-true}
use Rattle.net_text.specs.Numbers.{numeral_value}
use Rattle.std.specs.List.{list_all}
use Rattle.net_text.specs.InputLines.{IsBlank, is_space, is_comment}
use Rattle.fail_script.specs.declared.act.Act.{Act}
use Rattle.fail_script.specs.declared.act.Act.TheVariants.{Lose, Repeat, Delay, Crash, CrashAtDelivery, StopAtCall}
use Rattle.fail_script.specs.declared.act.Act.TheVariants.{FailCall, Start}
use Rattle.fail_script.specs.declared.act.ScriptLine.{ScriptLine}
use Rattle.fail_script.specs.declared.words.Form.{Form}
use Rattle.fail_script.specs.declared.limits.TheConstants.{MAX_ROUND, BEYOND_NODES}
use Rattle.fail_script.specs.Lines.{words_of, form_of, IsActText, IsLineText, HasForm, IsInNetwork}
use Rattle.fail_script.specs.Lines.{IsFormless, NamesNoNode}
use Rattle.fail_script.specs.Reading.{has_form, act_in, number_in, node_cut, cut, is_in_network, IsLineRead, IsTextRead}
use Rattle.fail_script.proofs.Acts.{act_read, act_reads, number_read}
use Rattle.fail_script.proofs.Forms.{same_form}

pub head_of : {x y : List ℕ} {xs ys : List (List ℕ)} → x ∷ xs ≡ y ∷ ys → x ≡ y
head_of {x} e = ap (first x) e
  where
    first : List ℕ → List (List ℕ) → List ℕ
    first other [] = other
    first other (w ∷ ws) = w

pub tail_of : {x y : List ℕ} {xs ys : List (List ℕ)} → x ∷ xs ≡ y ∷ ys → xs ≡ ys
tail_of e = ap (drop 1) e

-- words whose act has no form write no line
pub none_by_form : (round : List ℕ) (others : List (List ℕ)) → ((f : Form) → has_form f others → ⊥)
    → IsLineRead (round ∷ others) None
none_by_form round others none v text =
    let read = act_reads v.act text.others text.act in
    none (form_of v.act) (subst (λ ws. has_form (form_of v.act) ws) (sym (tail_of text.parts)) read.has)

-- nor do those of a form whose numbers aren't right
pub none_by_act : (round : List ℕ) (others : List (List ℕ)) (f : Form) → has_form f others → act_in f others ≡ None
    → IsLineRead (round ∷ others) None
none_by_act round others f has none v text =
    let at_others = subst (λ ws. IsActText v.act ws) (sym (tail_of text.parts)) text.act in
    let read = act_reads v.act others at_others in
    let form = same_form f (form_of v.act) others has read.has in
    absurd (neither (sym none ∙ ap (λ g. act_in g others) form ∙ read.gives))
  where
    neither : {A : Type 0} {x : A} → None ≡ Some x → ⊥
    neither e = absurd cc

pub some_line : (round : List ℕ) (others : List (List ℕ)) (f : Form) (line : ScriptLine)
    → number_in 0 MAX_ROUND round ≡ Some line.round → has_form f others → act_in f others ≡ Some line.act
    → IsLineRead (round ∷ others) (Some line)
some_line round others f line at has gives =
    let is = number_read 0 MAX_ROUND round line.round at in
    let act = act_read f others line.act has gives in (
      record { round = line.round; act = act.0 },
      record {
        round = round;
        others = others;
        parts = refl;
        round_is = (is.numeral, is.value);
        in_range = is.below;
        act = act.1;
      },
      ap (λ a. record { round = line.round; act = a }) act.2,
    )

-- a line has one round
pub same_round : (words : List (List ℕ)) (v w : ScriptLine) → IsLineText v words → IsLineText w words
    → v.round ≡ w.round
same_round words v w one other =
    sym one.round_is.1 ∙ ap numeral_value (head_of (sym one.parts ∙ other.parts)) ∙ other.round_is.1

-- a node that is read is the node, where it is among no more than there may be
node_within : (node nodes : ℕ) → nodes ≤ BEYOND_NODES → node_cut node < nodes → (node_cut node ≡ node) × (node < nodes)
node_within node nodes few less = (omega (arith, few, less), omega (arith, few, less))

node_beyond : (node nodes : ℕ) → node < nodes → nodes ≤ BEYOND_NODES → node_cut node < nodes
node_beyond node nodes less few = omega (arith, less, few)

ltb_true : (a b : ℕ) → nat_lt a b ≡ true → a < b
ltb_true a b e = search (rules, e)

true_ltb : (a b : ℕ) → a < b → nat_lt a b ≡ true
true_ltb a b less = search (rules, tests)

one_node : (node nodes : ℕ) → nodes ≤ BEYOND_NODES → nat_lt (node_cut node) nodes ≡ true
    → (node_cut node ≡ node) × (node < nodes)
one_node node nodes few e = node_within node nodes few (ltb_true (node_cut node) nodes e)

two_nodes : (from to nodes : ℕ) → nodes ≤ BEYOND_NODES
    → (nat_lt (node_cut from) nodes && nat_lt (node_cut to) nodes) ≡ true
    → (node_cut from ≡ from) × (node_cut to ≡ to) × (from < nodes) × (to < nodes)
two_nodes from to nodes few e =
    let parts = and_parts (nat_lt (node_cut from) nodes) (nat_lt (node_cut to) nodes) e in
    let a = one_node from nodes few parts.0 in
    let b = one_node to nodes few parts.1 in
    (a.0, b.0, a.1, b.1)

-- an act whose nodes, as they are read, are in the network is the act as read
pub within_network : (nodes : ℕ) (act : Act) → nodes ≤ BEYOND_NODES → is_in_network nodes (cut act) ≡ true
    → (cut act ≡ act) × IsInNetwork nodes act
within_network nodes (Lose from to count) few e =
    let h = two_nodes from to nodes few e in
    (ap (λ a. Lose a (node_cut to) count) h.0 ∙ ap (λ b. Lose from b count) h.1, (h.2, h.3))
within_network nodes (Repeat from to count) few e =
    let h = two_nodes from to nodes few e in
    (ap (λ a. Repeat a (node_cut to) count) h.0 ∙ ap (λ b. Repeat from b count) h.1, (h.2, h.3))
within_network nodes (Delay from to count rounds) few e =
    let h = two_nodes from to nodes few e in
    (ap (λ a. Delay a (node_cut to) count rounds) h.0 ∙ ap (λ b. Delay from b count rounds) h.1, (h.2, h.3))
within_network nodes (Crash node fill rounds) few e =
    let h = one_node node nodes few e in (ap (λ k. Crash k fill rounds) h.0, h.1)
within_network nodes (CrashAtDelivery node count fill rounds) few e =
    let h = one_node node nodes few e in (ap (λ k. CrashAtDelivery k count fill rounds) h.0, h.1)
within_network nodes (StopAtCall node count fill rounds) few e =
    let h = one_node node nodes few e in (ap (λ k. StopAtCall k count fill rounds) h.0, h.1)
within_network nodes (FailCall node count) few e =
    let h = one_node node nodes few e in (ap (λ k. FailCall k count) h.0, h.1)
within_network nodes (Start node) few e = let h = one_node node nodes few e in (ap Start h.0, h.1)

both_true : (a b : ℕ) (nodes : ℕ) → nodes ≤ BEYOND_NODES → a < nodes → b < nodes
    → (nat_lt (node_cut a) nodes && nat_lt (node_cut b) nodes) ≡ true
both_true a b nodes few x y =
    rw (
      true_ltb (node_cut a) nodes (node_beyond a nodes x few),
      true_ltb (node_cut b) nodes
          (node_beyond b nodes y few),
    ) refl

-- and an act in the network is read so
pub network_seen : (nodes : ℕ) (act : Act) → nodes ≤ BEYOND_NODES → IsInNetwork nodes act
    → is_in_network nodes (cut act) ≡ true
network_seen nodes (Lose from to count) few is = both_true from to nodes few is.0 is.1
network_seen nodes (Repeat from to count) few is = both_true from to nodes few is.0 is.1
network_seen nodes (Delay from to count rounds) few is = both_true from to nodes few is.0 is.1
network_seen nodes (Crash node fill rounds) few is = true_ltb (node_cut node) nodes (node_beyond node nodes is few)
network_seen nodes (CrashAtDelivery node count fill rounds) few is =
    true_ltb (node_cut node) nodes (node_beyond node nodes is few)
network_seen nodes (StopAtCall node count fill rounds) few is =
    true_ltb (node_cut node) nodes (node_beyond node nodes is few)
network_seen nodes (FailCall node count) few is = true_ltb (node_cut node) nodes (node_beyond node nodes is few)
network_seen nodes (Start node) few is = true_ltb (node_cut node) nodes (node_beyond node nodes is few)

-- ---- what is read of a line's text

pub shown_is : (text : List ℕ) → (list_all is_space text || is_comment text) ≡ false → IsBlank text → ⊥
shown_is text e (inl spaces) = both_ways _ e (rw spaces refl)
shown_is text e (inr comment) = both_ways _ e (rw comment (or-true (list_all is_space text)))

-- no line is written
pub formless : (round : ℕ) (text : List ℕ) → (IsBlank text → ⊥) → IsLineRead (words_of text) None
    → IsFormless round text
formless round text shown none = (shown, λ line has. none line has.words)

read_form : (round : ℕ) (text : List ℕ) (line : ScriptLine) → (IsBlank text → ⊥)
    → (read : IsLineRead (words_of text) (Some line))
    → round ≤ line.round → HasForm round text read.0
read_form round text line shown read late =
    record { shown = shown; words = read.1; not_before = subst (λ r. round ≤ r) (sym (ap (λ l. l.round) read.2)) late }

-- a line is written that names a node which isn't there
pub no_node : (nodes round : ℕ) (text : List ℕ) (line : ScriptLine) → nodes ≤ BEYOND_NODES → (IsBlank text → ⊥)
    → IsLineRead (words_of text) (Some line) → round ≤ line.round → is_in_network nodes line.act ≡ false
    → NamesNoNode nodes round text
no_node nodes round text line few shown read late out = (
  read.0,
  read_form round text line shown read late,
  λ is. both_ways (is_in_network nodes line.act) out
      (subst (λ a. is_in_network nodes a ≡ true) (ap (λ l. l.act) read.2) (network_seen nodes read.0.act few is)),
)

-- a line is written, and it is right
pub line_stands : (nodes round : ℕ) (text : List ℕ) (line : ScriptLine) → nodes ≤ BEYOND_NODES → (IsBlank text → ⊥)
    → IsLineRead (words_of text) (Some line) → round ≤ line.round → is_in_network nodes line.act ≡ true
    → IsTextRead nodes round text (Some line)
line_stands nodes round text line few shown read late within =
    let acts = ap (λ l. l.act) read.2 in
    let is = within_network nodes read.0.act few (subst (λ a. is_in_network nodes a ≡ true) (sym acts) within) in
    let same : read.0 ≡ line =
    ap (λ a. record { round = read.0.round; act = a }) (sym is.0) ∙ read.2 in (
      subst (λ l. HasForm round text l) same (read_form round text line shown read late),
      subst (λ l. IsInNetwork nodes l.act) same is.1,
    )

-- the first word, and the others
pub words_in_two : (ws : List (Bor (List ℕ))) (other : Bor (List ℕ)) → 1 ≤ length ws
    → (get_or ws 0 other).now ∷ map (λ w. w.now) (take (length ws - 1) (drop 1 ws)) ≡ map (λ w. w.now) ws
words_in_two [] other some = absurd (omega arith)
words_in_two (w ∷ ws) other some =
    ap (λ rest. w.now ∷ map (λ w. w.now) rest) (take_all (length (w ∷ ws) - 1) ws (omega arith))
