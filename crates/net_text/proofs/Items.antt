-- The items of a line, one after another.
use Rattle.std.proofs.Common.{◌≡◌, ℕ, zero, suc, ◌+◌, ◌<◌, ◌≤◌, Bool, true, false, cond, ltb, List, [], ◌∷◌, ◌++◌}
use Rattle.std.proofs.Common.{length, take, drop, get_or, Option, Some, None, Result, Ok, Err, ℤ, refl, sym, ap, subst}
use Rattle.std.proofs.Common.{◌∙◌, append_assoc, arith, length-drop, drop-cons, add-one, map}
use Rattle.std.specs.Prelude.{◌==◌, slice_index}
use Rattle.std.specs.Char.{is_ascii_digit}
use Rattle.std.proofs.lemmas.Bool.{eq-eqb, ne_eqb, le-ltb}
use Rattle.std.proofs.lemmas.List.{append-nil, drop_all}
use Rattle.net_text.specs.InputLines.{is_space}
use Rattle.net_text.specs.Numbers.{numeral_value}
use Rattle.net_text.specs.InputReading.{Fails, Gives, run, signed, sign_len, item_in, item_at, items_from, items_at}
use Rattle.net_text.specs.InputReading.{after_name, entry_at, with_entry, line_at, lines_at}
use Rattle.net_text.specs.Names.{NameTree}
use Rattle.net_text.specs.Spellings.{starts_word, continues_word}
use Rattle.net_text.specs.Trees.{InputTree}
use Rattle.net_text.proofs.Runs.{run_le}
use Rattle.net_text.specs.declared.fault.TextFault.{TextFault}
use Rattle.net_text.specs.declared.fault.TextFault.TheVariants.{NoMemory, BadToken, Unexpected, NumberRange, TooLong}
use Rattle.net_text.specs.declared.limits.TheConstants.{MAX_NAME_BYTES}
use Rattle.net_text.proofs.Sequences.{same_on, same_value, went_on}
use Rattle.net_text.specs.Results.{◌>>=◌}

-- what was found before, and what is found now
abbrev pub after_found : List ℤ → Result (List ℤ) TextFault → Result (List ℤ) TextFault
after_found front read = read >>= λ xs. Ok (front ++ xs)

abbrev pub with_item : ℤ → Result (List ℤ) TextFault → Result (List ℤ) TextFault
with_item first read = read >>= λ others. Ok (first ∷ others)

cond_same : {A : Type 0} (b : Bool) (w x y : A) → x ≡ y → cond b w x ≡ cond b w y
cond_same true w x y e = refl
cond_same false w x y e = e

-- an item takes a byte at least
pub item_shortens : (line : ℕ) (bytes : List ℕ) (x : ℤ × List ℕ) → item_at line bytes ≡ Ok x → length x.1 < length bytes
unfolding item_at
item_shortens line bytes x e =
    by_digits (run is_ascii_digit (drop (sign_len bytes) bytes)) (run_le is_ascii_digit (drop (sign_len bytes) bytes)) e
  where
    by_digits : (n : ℕ) → n ≤ length (drop (sign_len bytes) bytes)
        → item_in line (slice_index bytes 0 == 45) (sign_len bytes) n bytes ≡ Ok x → length x.1 < length bytes
    by_digits zero le h = absurd cc
    by_digits (suc n) le h =
        let some : (suc n == 0) ≡ false = ne_eqb (suc n) 0 (λ e. omega arith) in
        let h' = rw some at h in
        let s = signed (slice_index bytes 0 == 45) (numeral_value (take (suc n) (drop (sign_len bytes) bytes))) line in
        let a = went_on s (λ v. Ok (v, drop (sign_len bytes + suc n) bytes)) x h' in
        let made : ℤ × List ℕ = (a.0, drop (sign_len bytes + suc n) bytes) in
        let rest = ap (λ (p : ℤ × List ℕ). length p.1) (same_value made x a.2) in
        let l = length-drop (sign_len bytes + suc n) bytes in
        let k = length-drop (sign_len bytes) bytes in
        omega arith

-- more turns than there are bytes change nothing
items_same : (line n m : ℕ) (bytes : List ℕ) → length bytes < n → length bytes < m
    → items_from line n bytes ≡ items_from line m bytes
items_same line zero m bytes h k = absurd (omega arith)
items_same line (suc n) zero bytes h k = absurd (omega arith)
items_same line (suc n) (suc m) bytes h k =
    let gap = run is_space bytes in
    let le = run_le is_space bytes in
    let l = length-drop gap bytes in
    cond_same (gap == length bytes) _ _ _ (cond_same (gap == 0) _ _ _
    (same_on (item_at line (drop gap bytes)) (λ first. with_item first.0 (items_from line n first.1))
    (λ first. with_item first.0 (items_from line m first.1)) (λ x e.
    let less = item_shortens line (drop gap bytes) x e in
    ap (with_item x.0) (items_same line n m x.1 (omega arith) (omega arith)))))

-- past the spaces an item is read, and then those behind it
pub items_turn : (line : ℕ) (bytes : List ℕ) → (run is_space bytes ≡ length bytes → ⊥) → (run is_space bytes ≡ 0 → ⊥)
    → items_at line bytes ≡ (item_at line (drop (run is_space bytes) bytes) >>= λ x. with_item x.0 (items_at line x.1))
unfolding items_at
items_turn line bytes some gap =
    let not_all : (run is_space bytes == length bytes) ≡ false = ne_eqb _ _ some in
    let not_none : (run is_space bytes == 0) ≡ false = ne_eqb _ _ gap in
    let l = length-drop (run is_space bytes) bytes in
    rw (not_all, not_none)
    (same_on (item_at line (drop (run is_space bytes) bytes))
    (λ first. with_item first.0 (items_from line (length bytes) first.1))
    (λ x. with_item x.0 (items_from line (suc (length x.1)) x.1)) (λ x e.
    let less = item_shortens line (drop (run is_space bytes) bytes) x e in
    ap (with_item x.0) (items_same line (length bytes) (suc (length x.1)) x.1 (omega arith) (omega arith))))

items_step : (line : ℕ) (bytes : List ℕ) (x : ℤ × List ℕ) → (run is_space bytes ≡ length bytes → ⊥)
    → (run is_space bytes ≡ 0 → ⊥) → item_at line (drop (run is_space bytes) bytes) ≡ Ok x
    → items_at line bytes ≡ with_item x.0 (items_at line x.1)
items_step line bytes x some gap e = items_turn line bytes some gap ∙ rw e refl

regroup : (front : List ℤ) (x : ℤ) (read : Result (List ℤ) TextFault)
    → after_found front (with_item x read) ≡ after_found (front ++ x ∷ []) read
regroup front x (Ok xs) = ap (λ (ys : List ℤ). let r : Result (List ℤ) TextFault = Ok ys in r) (simp append_assoc)
regroup front x (Err e) = refl

-- a turn of the loop
pub items_more : (line : ℕ) (front : List ℤ) (bytes : List ℕ) (x : ℤ × List ℕ)
    → (run is_space bytes ≡ length bytes → ⊥) → (run is_space bytes ≡ 0 → ⊥)
    → item_at line (drop (run is_space bytes) bytes) ≡ Ok x
    → after_found front (items_at line bytes) ≡ after_found (front ++ x.0 ∷ []) (items_at line x.1)
items_more line front bytes x some gap e =
    ap (after_found front) (items_step line bytes x some gap e) ∙ regroup front x.0 (items_at line x.1)

-- a failure stays one, whatever would come after it
pub fails_then : {A B : Type 0} (e : TextFault) (r : Result A TextFault) (f : A → Result B TextFault) → Fails e r
    → Fails e (r >>= f)
fails_then NoMemory r f h = tt
fails_then (BadToken line) r f h = rw h refl
fails_then (Unexpected line) r f h = rw h refl
fails_then (NumberRange line) r f h = rw h refl
fails_then (TooLong line) r f h = rw h refl

pub fails_along : {A : Type 0} (e : TextFault) (r s : Result A TextFault) → r ≡ s → Fails e r → Fails e s
fails_along NoMemory r s k h = tt
fails_along (BadToken line) r s k h = sym k ∙ h
fails_along (Unexpected line) r s k h = sym k ∙ h
fails_along (NumberRange line) r s k h = sym k ∙ h
fails_along (TooLong line) r s k h = sym k ∙ h

-- ---- a name and what follows it

abbrev entry_with : List ℕ → ℕ → List ℤ → InputTree
entry_with name line items = record { name = record { text = name; line = line }; items = items }

pub after_name_is : (line len : ℕ) (text : List ℕ) → len ≤ MAX_NAME_BYTES → (len ≡ length text → ⊥)
    → get_or text len 0 ≡ 58
    → after_name line len text
    ≡ (items_at line (drop (suc len) text) >>= λ items. Ok (entry_with (take len text) line items))
unfolding after_name
after_name_is line len text short some colon =
    let is_short : ltb MAX_NAME_BYTES len ≡ false = le-ltb MAX_NAME_BYTES len short in
    let goes_on : (len == length text) ≡ false = ne_eqb len (length text) some in
    let is_colon : (slice_index text len == 58) ≡ true = eq-eqb _ _ colon in
    rw (is_short, goes_on, is_colon) refl

pub after_name_done : (line len : ℕ) (text rest : List ℕ) (name : NameTree) (items : List ℤ) → len ≤ MAX_NAME_BYTES
    → (len ≡ length text → ⊥) → get_or text len 0 ≡ 58 → rest ≡ drop (suc len) text → items_at line rest ≡ Ok items
    → name ≡ record { text = take len text; line = line }
    → after_name line len text ≡ Ok (record { name = name; items = items })
after_name_done line len text rest name items short some colon rest_is read name_is =
    after_name_is line len text short some colon ∙ rw (← rest_is, read, name_is) refl

pub after_name_fails : (e : TextFault) (line len : ℕ) (text rest : List ℕ) → len ≤ MAX_NAME_BYTES
    → (len ≡ length text → ⊥) → get_or text len 0 ≡ 58 → rest ≡ drop (suc len) text → Fails e (items_at line rest)
    → Fails e (after_name line len text)
after_name_fails e line len text rest short some colon rest_is h =
    fails_along e _ (after_name line len text) (sym (after_name_is line len text short some colon))
    (fails_then e (items_at line (drop (suc len) text)) (λ items. Ok (entry_with (take len text) line items))
    (subst (λ (t : List ℕ). Fails e (items_at line t)) rest_is h))

pub entry_along : {X : Type 0} (view : X → InputTree) (r : Result X TextFault) (line n : ℕ) (text : List ℕ)
    → starts_word (get_or text 0 0) ≡ true → n ≡ run continues_word text → Gives view r (after_name line n text)
    → Gives view r (entry_at line text)
unfolding entry_at
entry_along view r line n text start is h = rw (start, ← is) h

-- ---- lines

abbrev pub after_entries : List InputTree → Result (List InputTree) TextFault → Result (List InputTree) TextFault
after_entries front read = read >>= λ es. Ok (front ++ es)

abbrev before_entries : Option InputTree → Result (List InputTree) TextFault → Result (List InputTree) TextFault
before_entries e read = read >>= λ others. Ok (with_entry e others)

entries_regroup : (front : List InputTree) (e : Option InputTree) (read : Result (List InputTree) TextFault)
    → after_entries front (before_entries e read) ≡ after_entries (front ++ with_entry e []) read
entries_regroup front None (Ok es) =
    ap (λ (xs : List InputTree). let r : Result (List InputTree) TextFault = Ok (xs ++ es) in r)
    (sym (append-nil front))
entries_regroup front (Some e) (Ok es) =
    ap (λ (ys : List InputTree). let r : Result (List InputTree) TextFault = Ok ys in r) (simp append_assoc)
entries_regroup front e (Err f) = refl

pub lines_more : (number : ℕ) (front : List InputTree) (line : List ℕ) (lines : List (List ℕ)) (e : Option InputTree)
    → line_at number line ≡ Ok e
    → after_entries front (lines_at number (line ∷ lines))
    ≡ after_entries (front ++ with_entry e []) (lines_at (suc number) lines)
unfolding lines_at
lines_more number front line lines e h = rw h (entries_regroup front e (lines_at (suc number) lines))

pub lines_end : (number : ℕ) (front : List InputTree) → after_entries front (lines_at number []) ≡ Ok front
unfolding lines_at
lines_end number front =
    ap (λ (xs : List InputTree). let r : Result (List InputTree) TextFault = Ok xs in r) (append-nil front)

pub lines_fail : (e : TextFault) (number : ℕ) (front : List InputTree) (line : List ℕ) (lines : List (List ℕ))
    (all : Result (List InputTree) TextFault) → Fails e (line_at number line)
    → after_entries front (lines_at number (line ∷ lines)) ≡ all → Fails e all
unfolding lines_at
lines_fail e number front line lines all h so_far =
    fails_along e (after_entries front (lines_at number (line ∷ lines))) all so_far
    (fails_then e (lines_at number (line ∷ lines)) (λ es. Ok (front ++ es))
    (fails_then e (line_at number line) (λ x. before_entries x (lines_at (suc number) lines)) h))

pub lines_next : {B : Type 0} → (f : B → List ℕ) (parts : List B) (i : ℕ) (d : B) (line : List ℕ) → i < length parts
    → line ≡ f (get_or parts i d) → map f (drop i parts) ≡ line ∷ map f (drop (suc i) parts)
lines_next f parts i d line lt is =
    ap (map f) (drop-cons parts i d lt) ∙ ap (λ (l : List ℕ). l ∷ map f (drop (suc i) parts)) (sym is)

-- the loop over the lines: a failure, a turn, and the end
pub loop_fails : {B : Type 0}
    → (f : B → List ℕ) (parts : List B) (i : ℕ) (d : B) (line : List ℕ) (front : List InputTree) (e : TextFault)
    (all : Result (List InputTree) TextFault) → i < length parts → line ≡ f (get_or parts i d)
    → Fails e (line_at (i + 1) line) → after_entries front (lines_at (suc i) (map f (drop i parts))) ≡ all → Fails e all
loop_fails f parts i d line front e all lt is h so_far =
    lines_fail e (suc i) front line (map f (drop (suc i) parts)) all
    (subst (λ (n : ℕ). Fails e (line_at n line)) (add-one i) h)
    (ap (λ (ls : List (List ℕ)). after_entries front (lines_at (suc i) ls)) (sym (lines_next f parts i d line lt is))
    ∙ so_far)

pub loop_goes_on : {B : Type 0}
    → (f : B → List ℕ) (parts : List B) (i : ℕ) (d : B) (line : List ℕ) (front : List InputTree) (e : Option InputTree)
    (all : Result (List InputTree) TextFault) → i < length parts → line ≡ f (get_or parts i d)
    → line_at (i + 1) line ≡ Ok e → after_entries front (lines_at (suc i) (map f (drop i parts))) ≡ all
    → after_entries (front ++ with_entry e []) (lines_at (suc (i + 1)) (map f (drop (i + 1) parts))) ≡ all
loop_goes_on f parts i d line front e all lt is h so_far =
    rw (add-one i)
    (sym (lines_more (suc i) front line (map f (drop (suc i) parts)) e
    (subst (λ (n : ℕ). line_at n line ≡ Ok e) (add-one i) h))
    ∙ ap (λ (ls : List (List ℕ)). after_entries front (lines_at (suc i) ls)) (sym (lines_next f parts i d line lt is))
    ∙ so_far)

pub loop_ends : {B : Type 0}
    → (f : B → List ℕ) (parts : List B) (i : ℕ) (front : List InputTree) (all : Result (List InputTree) TextFault)
    → length parts ≤ i → after_entries front (lines_at (suc i) (map f (drop i parts))) ≡ all → all ≡ Ok front
loop_ends f parts i front all le so_far =
    sym so_far ∙ ap (λ (ls : List _). after_entries front (lines_at (suc i) (map f ls))) (drop_all i parts le)
    ∙ lines_end (suc i) front
