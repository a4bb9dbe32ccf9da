-- A line more, and the faults of lines.
use Rattle.std.proofs.Common.{◌≡◌, ◌∙◌, sym, ap, subst, refl, ℕ, ℤ, zero, suc, ◌<◌, ◌≤◌, List, [], ◌∷◌, ◌++◌, length}
use Rattle.std.proofs.Common.{map, slice_get, Some, arith, inl, inr, ◌⊎◌, Bool, true, false}
use Rattle.std.proofs.lemmas.Bool.{false≢true}
use Rattle.std.proofs.lemmas.Option.{slice_get_within}
use Rattle.net_text.specs.Names.{NameTree}
use Rattle.std.proofs.lemmas.List.{append-nil, map-append}
use Rattle.std.proofs.Common.{append_assoc}
use Rattle.net_text.specs.Trees.{InputTree, input_tree}
use Rattle.net_text.specs.declared.raw_inputs.InputLine.{InputLine}
use Rattle.net_check.specs.declared.fault.NetFault.{NetFault}
use Rattle.net_check.specs.declared.fault.NetFault.TheVariants.{NoMemory, TwiceNamed, UnknownName, Limit}
use Rattle.kahn_net.specs.declared.program.Channel.{Channel}
use Rattle.kahn_net.specs.declared.program.Port.TheVariants.{Outside, Process}
use Rattle.kahn_net.specs.Common.{Network, Fits}
use Rattle.net_check.specs.NetFaults.{SecondUse}
use Rattle.net_check.specs.Resolution.{AllDifferent, Reads}
use Rattle.net_check.specs.Binding.{Binds, HasInputFault, IsGiven, IsInput, line_names}
use Rattle.net_check.specs.Bound.{AreBound, AreNamed, BindsLine, LineFault}
use Rattle.net_check.proofs.Places.{got_append_left, got_push_cases, got_seam, got_set_here, got_set_there}
use Rattle.net_check.proofs.Places.{length-set_at, read_of, reads_from, same_got, same_or_not}
use Rattle.net_check.proofs.Claiming.{reads_same}
use Rattle.net_check.proofs.Declaring.{different_push, second_use}
use Rattle.kahn_net.specs.declared.limits.TheConstants.{MAX_HISTORY_ITEMS}

true_is_no_false : Some true ≡ Some false → ⊥
true_is_no_false e = false≢true (let k : true ≡ false = cc in sym k)

module _ (names : List NameTree) (net : Network) (lines : List InputTree) (line : InputTree) (lists : List (List ℤ))
    (named : List Bool) (lists' : List (List ℤ)) (named' : List Bool) (differ : AllDifferent names)
    (b : AreBound names net lines lists named) (s : BindsLine names net line lists named lists' named') where
  within : s.c < length named
  within = slice_get_within named s.c false s.fresh

  mark_here : slice_get named' s.c ≡ Some true
  mark_here = ap (λ (xs : List Bool). slice_get xs s.c) s.mark ∙ got_set_here named s.c true within

  mark_there : (d : ℕ) → (s.c ≡ d → ⊥) → slice_get named' d ≡ slice_get named d
  mark_there d other = ap (λ (xs : List Bool). slice_get xs d) s.mark ∙ got_set_there named s.c d true other

  list_here : slice_get lists' s.c ≡ Some line.items
  list_here =
      ap (λ (xs : List (List ℤ)). slice_get xs s.c) s.list
      ∙ got_set_here lists s.c line.items (let w = within in let n = b.count in let m = b.marks in omega arith)

  list_there : (d : ℕ) → (s.c ≡ d → ⊥) → slice_get lists' d ≡ slice_get lists d
  list_there d other = ap (λ (xs : List (List ℤ)). slice_get xs d) s.list ∙ got_set_there lists s.c d line.items other

  -- no earlier line names this input
  unnamed : (i : ℕ) (l : InputTree) (d : ℕ) → slice_get lines i ≡ Some l → Reads names d l.name.text → s.c ≡ d → ⊥
  unnamed i l d h reads e =
      true_is_no_false (sym (b.marked i l d h reads) ∙ subst (λ (k : ℕ). slice_get named k ≡ Some false) e s.fresh)

  mark_kept : (d : ℕ) → slice_get named d ≡ Some true → slice_get named' d ≡ Some true
  mark_kept d h =
      elim (same_or_not s.c d)
      [ inl e ↦ subst (λ (k : ℕ). slice_get named' k ≡ Some true) e mark_here | inr e ↦ mark_there d e ∙ h ]

  pub bound_push : AreBound names net (lines ++ line ∷ []) lists' named'
  bound_push = record {
    count = ap length s.list ∙ length-set_at lists s.c line.items ∙ b.count;
    marks = ap length s.mark ∙ length-set_at named s.c true ∙ b.marks;
    given = λ i l h. elim (got_push_cases lines line i l h) [
      | inl g ↦ let k = b.given i l g in
          record {
            c = k.c;
            reads = k.reads;
            input = k.input;
            items =
                list_there k.c (unnamed i l k.c g k.reads) ∙ k.items;
            few = k.few;
          }
      | inr g ↦ subst (λ (x : InputTree). IsGiven names net lists' x) g.1 record
          { c = s.c; reads = s.reads; input = s.input; items = list_here; few = s.few }
    ];
    marked = λ i l d h reads. elim (got_push_cases lines line i l h) [
      | inl g ↦ mark_kept d (b.marked i l d g reads)
      | inr g ↦ subst (λ (k : ℕ). slice_get named' k ≡ Some true)
          (differ s.c d line.name.text s.reads (reads ∙ ap (λ (x : InputTree). Some x.name.text) (sym g.1))) mark_here
    ];
    once = different_push (λ (x : InputTree). x.name) lines line b.once (λ i h.
        let r = read_of (λ (x : InputTree). x.name) lines i line.name.text h in
        unnamed i r.0 s.c r.1 (s.reads ∙ ap Some (sym r.2)) refl);
    by = λ d h. elim (same_or_not s.c d) [
      | inl e ↦ record {
        i = length lines;
        line = line;
        here = got_seam lines line [];
        reads =
            subst (λ (k : ℕ). Reads names k line.name.text) e s.reads;
      }
      | inr e ↦ let k = b.by d (sym (mark_there d e) ∙ h) in
          record { i = k.i; line = k.line; here = got_append_left lines (line ∷ []) k.i k.line k.here; reads = k.reads }
    ];
    input = λ d h. elim (same_or_not s.c d) [
      | inl e ↦ subst (λ (k : ℕ). IsInput net k) e s.input
      | inr e ↦ b.input d (sym (mark_there d e) ∙ h)
    ];
    empty = λ d h. elim (same_or_not s.c d) [
      | inl e ↦ absurd (true_is_no_false (subst (λ (k : ℕ). Some true ≡ slice_get named' k) e (sym mark_here) ∙ h))
      | inr e ↦ list_there d e ∙ b.empty d (sym (mark_there d e) ∙ h)
    ];
    few = λ d items h. elim (same_or_not s.c d) [
      | inl e ↦ subst (λ (xs : List ℤ). length xs ≤ MAX_HISTORY_ITEMS)
          (same_got lists' s.c line.items items list_here
          (subst (λ (k : ℕ). slice_get lists' k ≡ Some items) (sym e) h)) s.few
      | inr e ↦ b.few d items (sym (list_there d e) ∙ h)
    ];
  }

-- a fault of a line is one of the lines
pub line_fault_in : (names : List NameTree) (net : Network) (lines : List InputTree) (line : InputTree)
    (more all : List InputTree) (lists : List (List ℤ)) (named : List Bool) (f : NetFault) → lines ++ line ∷ more ≡ all
    → AreBound names net lines lists named → LineFault names net line named f → HasInputFault names net all f
line_fault_in names net lines line more all lists named NoMemory e b h = tt
line_fault_in names net lines line more all lists named (UnknownName at) e b h =
    record {
      i = length lines;
      line = line;
      here =
          ap (λ (xs : List InputTree). slice_get xs (length lines)) (sym e) ∙ got_seam lines line more;
      other = h.0;
      there =
          h.1;
    }
line_fault_in names net lines line more all lists named (TwiceNamed at) e b h =
    let k = b.by h.0.0 h.0.2 in
    let r = reads_from (λ (x : InputTree). x.name) lines k.i k.line k.here
    ∙ ap Some (reads_same names h.0.0 k.line.name.text line.name.text k.reads h.0.1) in
    subst (λ (xs : List InputTree). SecondUse (line_names xs) at) e
    (subst (λ (n : ℕ). SecondUse (line_names (lines ++ line ∷ more)) n) h.1
    (second_use (λ (x : InputTree). x.name) lines more line k.i r))
line_fault_in names net lines line more all lists named (Limit at) e b h =
    record {
      i = length lines;
      line = line;
      here =
          ap (λ (xs : List InputTree). slice_get xs (length lines)) (sym e) ∙ got_seam lines line more;
      many = h.0;
      there =
          h.1;
    }
line_fault_in names net lines line more all lists named _ e b h = absurd h

mark_at : (named : List Bool) (c : ℕ) → c < length named
    → (slice_get named c ≡ Some true) ⊎ (slice_get named c ≡ Some false)
mark_at [] c lt = absurd (omega arith)
mark_at (true ∷ xs) zero lt = inl refl
mark_at (false ∷ xs) zero lt = inr refl
mark_at (x ∷ xs) (suc c) lt = mark_at xs c (omega arith)

pub all_bound : (names : List NameTree) (net : Network) (lines : List InputTree) (lists : List (List ℤ))
    (named : List Bool) → AreBound names net lines lists named → AreNamed net.channels named
    → Binds names net lines lists
all_bound names net lines lists named b all = record {
  count = b.count;
  given = b.given;
  named = λ c input. b.by c (all c input.channel input.here input.outside);
  once = b.once;
  elsewhere =
      λ c channel items hc hi
      other. elim (mark_at named c
      (let lt = slice_get_within net.channels c channel hc in let m = b.marks in omega arith)) [
        | inl k ↦ let i = b.input c k in
            absurd (other
            (ap (λ (x : Channel). x.producer) (same_got net.channels c channel i.channel hc i.here) ∙ i.outside))
        | inr k ↦ same_got lists c items [] hi (b.empty c k)
      ];
}

pub bound_fits : (names : List NameTree) (net : Network) (lines : List InputTree) (lists : List (List ℤ))
    → Binds names net lines lists
    → ((c : ℕ) (items : List ℤ) → slice_get lists c ≡ Some items → length items ≤ MAX_HISTORY_ITEMS) → Fits net lists
bound_fits names net lines lists b few = record {
  count = b.count;
  few = λ c items is. let short = few c items is in omega (arith, short);
  inside =
      λ c channel items hc hi p e. b.elsewhere c channel items hc hi
      (λ o. let k : Process p ≡ Outside = sym e ∙ o in absurd (cc));
}

pub lines_next : (ys rest rest' : List InputLine) (l : InputLine) (all : List InputTree) → rest ≡ l ∷ rest'
    → map input_tree ys ++ map input_tree rest ≡ all → map input_tree (ys ++ l ∷ []) ++ map input_tree rest' ≡ all
lines_next ys rest rest' l all e h =
    ap (λ (xs : List InputTree). xs ++ map input_tree rest') (map-append input_tree ys (l ∷ []))
    ∙ append_assoc (map input_tree ys) (input_tree l ∷ []) (map input_tree rest')
    ∙ ap (λ (xs : List InputLine). map input_tree ys ++ map input_tree xs) (sym e) ∙ h

pub line_at : (ys rest rest' : List InputLine) (l : InputLine) (all : List InputTree) → rest ≡ l ∷ rest'
    → map input_tree ys ++ map input_tree rest ≡ all → map input_tree ys ++ input_tree l ∷ map input_tree rest' ≡ all
line_at ys rest rest' l all e h = ap (λ (xs : List InputLine). map input_tree ys ++ map input_tree xs) (sym e) ∙ h

pub lines_end : (ys rest : List InputLine) (all : List InputTree) → rest ≡ []
    → map input_tree ys ++ map input_tree rest ≡ all → map input_tree ys ≡ all
lines_end ys rest all e h =
    sym (append-nil (map input_tree ys)) ∙ ap (λ (xs : List InputLine). map input_tree ys ++ map input_tree xs) (sym e)
    ∙ h

pub map_same : (xs : List InputLine) → map (λ (x : InputLine). x) xs ≡ xs
map_same [] = refl
map_same (x ∷ xs) = ap (λ (ys : List InputLine). x ∷ ys) (map_same xs)
