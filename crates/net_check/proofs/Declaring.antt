-- What is declared so far, and one declaration more.
use Rattle.std.proofs.Common.{◌≡◌, ℕ, zero, suc, ◌+◌, ◌<◌, List, [], ◌∷◌, ◌++◌, length, get_or, map, take, drop, Some}
use Rattle.std.proofs.Common.{refl, sym, ap, ◌∙◌, subst, arith, slice_get, ◌⊎◌, inl, inr}
use Rattle.std.proofs.lemmas.List.{length_push, take_more}
use Rattle.net_text.specs.Names.{NameTree}
use Rattle.net_text.specs.Trees.{ProcessTree, DeclarationTree}
use Rattle.net_text.specs.declared.tree.ChannelText.{ChannelText}
use Rattle.net_text.specs.declared.tree.VariableText.{VariableText}
use Rattle.net_check.specs.Resolution.{Reads, AllDifferent, channels_of, processes_of, channel_names, process_names}
use Rattle.net_check.specs.Resolution.{variable_names}
use Rattle.net_check.specs.NetFaults.{SecondUse, HasTwiceNamed, two_channels, two_processes, two_variables}
use Rattle.net_check.specs.NetFaults.{HasPastLimit, many_channels, many_processes, many_variables}
use Rattle.net_check.specs.Ready.{AreDeclared, IsReady, FaultOfProcess, FaultAtProcess}
use Rattle.net_check.specs.declared.fault.NetFault.{NetFault}
use Rattle.net_check.proofs.Places.{got_at, got_map, got_push_cases, got_append_left, got_seam, read_of, reads_from}
use Rattle.net_check.proofs.Places.{reads_within}
use Rattle.kahn_net.specs.declared.limits.TheConstants.{MAX_CHANNELS, MAX_PROCESSES, MAX_VARIABLES}

reads_left : {A : Type 0} (f : A → NameTree) (xs ys : List A) (i : ℕ) (t : List ℕ) → Reads (map f xs) i t
    → Reads (map f (xs ++ ys)) i t
reads_left f xs ys i t h = let r = read_of f xs i t h in
    reads_from f (xs ++ ys) i r.0 (got_append_left xs ys i r.0 r.1) ∙ ap Some r.2

reads_push_cases : {A : Type 0} (f : A → NameTree) (xs : List A) (x : A) (i : ℕ) (t : List ℕ)
    → Reads (map f (xs ++ x ∷ [])) i t → (Reads (map f xs) i t) ⊎ ((i ≡ length xs) × ((f x).text ≡ t))
reads_push_cases f xs x i t h =
    let r = read_of f (xs ++ x ∷ []) i t h in
    elim (got_push_cases xs x i r.0 r.1) [
      | inl g ↦ inl (reads_from f xs i r.0 g ∙ ap Some r.2)
      | inr g ↦ inr (g.0, ap (λ (z : _). (f z).text) g.1 ∙ r.2)
    ]

pub different_push : {A : Type 0} (f : A → NameTree) (xs : List A) (x : A) → AllDifferent (map f xs)
    → ((i : ℕ) → Reads (map f xs) i (f x).text → ⊥) → AllDifferent (map f (xs ++ x ∷ []))
different_push f xs x apart fresh i j t hi hj =
    elim (reads_push_cases f xs x i t hi) [
      | inl a ↦ elim (reads_push_cases f xs x j t hj) [
        | inl b ↦ apart i j t a b
        | inr b ↦ absurd (fresh i (a ∙ ap Some (sym b.1)))
      ]
      | inr a ↦ elim (reads_push_cases f xs x j t hj) [
        | inl b ↦ absurd (fresh j (b ∙ ap Some (sym a.1)))
        | inr b ↦ a.0 ∙ sym b.0
      ]
    ]

pub second_use : {A : Type 0} (f : A → NameTree) (xs more : List A) (x : A) (i : ℕ) → Reads (map f xs) i (f x).text
    → SecondUse (map f (xs ++ x ∷ more)) (f x).line
second_use f xs more x i h = record {
  first = i;
  second = length xs;
  name = f x;
  order = reads_within f xs i (f x).text h;
  before = reads_left f xs (x ∷ more) i (f x).text h;
  here = got_map f (xs ++ x ∷ more) (length xs) x (got_seam xs x more);
  at = refl;
}

pub whole_at : {A : Type 0} (xs : List A) (i : ℕ) (x : A) → i < length xs → x ≡ get_or xs i x
    → xs ≡ take i xs ++ x ∷ drop (i + 1) xs
whole_at [] i x lt e = absurd (omega arith)
whole_at (y ∷ ys) zero x lt e = ap (λ (z : _). z ∷ ys) (sym e)
whole_at (y ∷ ys) (suc i) x lt e = let k : suc i + 1 ≡ suc (i + 1) = omega arith in
    rw k (ap (λ (z : List _). y ∷ z) (whole_at ys i x (omega arith) e))

pub declared_channel : (cs : List ChannelText) (ps : List ProcessTree) (c : ChannelText) → AreDeclared cs ps
    → ((i : ℕ) → Reads (channel_names cs) i c.name.text → ⊥) → length cs < 256 → AreDeclared (cs ++ c ∷ []) ps
declared_channel cs ps c d fresh few = record {
  few_channels = let e = length_push cs c in omega arith;
  few_processes = d.few_processes;
  channels_differ = different_push (λ (x : ChannelText). x.name) cs c d.channels_differ fresh;
  processes_differ = d.processes_differ;
  ready = d.ready;
}

pub declared_process : (cs : List ChannelText) (ps : List ProcessTree) (p : ProcessTree) → AreDeclared cs ps
    → ((i : ℕ) → Reads (process_names ps) i p.name.text → ⊥) → length ps < 64 → IsReady p
    → AreDeclared cs (ps ++ p ∷ [])
declared_process cs ps p d fresh few ready = record {
  few_channels = d.few_channels;
  few_processes = let e = length_push ps p in omega arith;
  channels_differ = d.channels_differ;
  processes_differ = different_push (λ (x : ProcessTree). x.name) ps p d.processes_differ fresh;
  ready = λ k process h. elim (got_push_cases ps p k process h)
      [ inl g ↦ d.ready k process g | inr g ↦ subst IsReady g.1 ready ];
}

pub twice_channel : (cs : List ChannelText) (c : ChannelText) (i : ℕ) → Reads (channel_names cs) i c.name.text
    → (text : List DeclarationTree) (more : List ChannelText) → channels_of text ≡ cs ++ c ∷ more
    → HasTwiceNamed text c.name.line
twice_channel cs c i h text more e =
    two_channels
    (subst (λ (xs : List ChannelText). SecondUse (channel_names xs) c.name.line) (sym e)
    (second_use (λ (x : ChannelText). x.name) cs more c i h))

pub twice_process : (ps : List ProcessTree) (p : ProcessTree) (i : ℕ) → Reads (process_names ps) i p.name.text
    → (text : List DeclarationTree) (more : List ProcessTree) → processes_of text ≡ ps ++ p ∷ more
    → HasTwiceNamed text p.name.line
twice_process ps p i h text more e =
    two_processes
    (subst (λ (xs : List ProcessTree). SecondUse (process_names xs) p.name.line) (sym e)
    (second_use (λ (x : ProcessTree). x.name) ps more p i h))

pub twice_variable : (vs : List VariableText) (k : ℕ) (v : VariableText) (i : ℕ) → k < length vs → v ≡ get_or vs k v
    → Reads (variable_names (take k vs)) i v.name.text → SecondUse (variable_names vs) v.name.line
twice_variable vs k v i lt e h =
    subst (λ (xs : List VariableText). SecondUse (variable_names xs) v.name.line) (sym (whole_at vs k v lt e))
    (second_use (λ (x : VariableText). x.name) (take k vs) (drop (k + 1) vs) v i h)

pub twice_variable_of : (process : ProcessTree) (vs : List VariableText) (k : ℕ) (v : VariableText) (i : ℕ)
    → process.variables ≡ vs → k < length vs → v ≡ get_or vs k v → Reads (variable_names (take k vs)) i v.name.text
    → (text : List DeclarationTree) (p : ℕ) → slice_get (processes_of text) p ≡ Some process
    → HasTwiceNamed text v.name.line
twice_variable_of process vs k v i same lt e h text p here =
    two_variables p process here
    (subst (λ (xs : List VariableText). SecondUse (variable_names xs) v.name.line) (sym same)
    (twice_variable vs k v i lt e h))

pub many_variables_of : (process : ProcessTree) (vs : List VariableText) (k : ℕ) (v : VariableText)
    → process.variables ≡ vs → k < length vs → v ≡ get_or vs k v → k ≡ MAX_VARIABLES
    → (text : List DeclarationTree) (p : ℕ) → slice_get (processes_of text) p ≡ Some process → HasPastLimit text v.line
many_variables_of process vs k v same lt e n text p here =
    many_variables p process v here
    (subst (λ (xs : List VariableText). slice_get xs MAX_VARIABLES ≡ Some v) (sym same)
    (subst (λ (m : ℕ). slice_get vs m ≡ Some v) n (got_at vs k v lt e))) refl

pub different_more : (vs : List VariableText) (k : ℕ) (v : VariableText) → k < length vs → v ≡ get_or vs k v
    → AllDifferent (variable_names (take k vs)) → ((i : ℕ) → Reads (variable_names (take k vs)) i v.name.text → ⊥)
    → AllDifferent (variable_names (take (k + 1) vs))
different_more vs k v lt e apart fresh =
    let w : take (k + 1) vs ≡ take k vs ++ v ∷ [] =
    take_more vs k v lt ∙ ap (λ (x : VariableText). take k vs ++ x ∷ []) (sym e) in
    subst (λ (xs : List VariableText). AllDifferent (variable_names xs)) (sym w)
    (different_push (λ (x : VariableText). x.name) (take k vs) v apart fresh)

pub fault_here : (ps : List ProcessTree) (p : ProcessTree) (f : NetFault) → FaultOfProcess p f → FaultAtProcess ps p f
fault_here ps p f h text more e =
    h text (length ps) (ap (λ (xs : List ProcessTree). slice_get xs (length ps)) e ∙ got_seam ps p more)

pub many_channels_at : (cs : List ChannelText) (c : ChannelText) → length cs ≡ MAX_CHANNELS
    → (text : List DeclarationTree) (more : List ChannelText) → channels_of text ≡ cs ++ c ∷ more
    → HasPastLimit text c.line
many_channels_at cs c n text more e =
    many_channels c
    (ap (λ (xs : List ChannelText). slice_get xs MAX_CHANNELS) e
    ∙ subst (λ (k : ℕ). slice_get (cs ++ c ∷ more) k ≡ Some c) n (got_seam cs c more)) refl

pub many_processes_at : (ps : List ProcessTree) (p : ProcessTree) → length ps ≡ MAX_PROCESSES
    → (text : List DeclarationTree) (more : List ProcessTree) → processes_of text ≡ ps ++ p ∷ more
    → HasPastLimit text p.line
many_processes_at ps p n text more e =
    many_processes p
    (ap (λ (xs : List ProcessTree). slice_get xs MAX_PROCESSES) e
    ∙ subst (λ (k : ℕ). slice_get (ps ++ p ∷ more) k ≡ Some p) n (got_seam ps p more)) refl
