-- The fault that ends the reading of a line has the line's number.
use Rattle.std.proofs.Common.{◌≡◌, ℕ, zero, suc, ◌+◌, ◌^◌, Bool, true, false, cond, ◌||◌, ltb, leb, List, [], ◌∷◌}
use Rattle.std.proofs.Common.{length, take, drop, Some, None, Result, Ok, Err, ℤ, refl, subst}
use Rattle.std.specs.Prelude.{◌==◌, slice_index}
use Rattle.std.specs.Char.{is_ascii_digit}
use Rattle.net_text.specs.Numbers.{numeral_value}
use Rattle.net_text.specs.Spellings.{starts_word, continues_word}
use Rattle.net_text.specs.Trees.{InputTree}
use Rattle.net_text.specs.InputLines.{is_space, is_comment}
use Rattle.net_text.specs.InputReading.{run, signed, sign_len, item_at, items_from, items_at, after_name, entry_at}
use Rattle.net_text.specs.InputReading.{line_at}
use Rattle.net_text.proofs.InputLaws.{err_is, no_fault}
use Rattle.net_text.specs.declared.fault.TextFault.{TextFault}
use Rattle.net_text.specs.declared.fault.TextFault.TheVariants.{NoMemory, BadToken, Unexpected, NumberRange, TooLong}
use Rattle.net_text.specs.declared.limits.TheConstants.{MAX_NAME_BYTES}
use Rattle.net_text.specs.Results.{◌>>=◌}

-- a fault on this line
unfoldable pub IsOn : ℕ → TextFault → Type 0
IsOn line NoMemory = ⊥
IsOn line (BadToken at) = at ≡ line
IsOn line (Unexpected at) = at ≡ line
IsOn line (NumberRange at) = at ≡ line
IsOn line (TooLong at) = at ≡ line

-- the faults of a choice are those of its two sides
pick_fault : {A : Type 0} (line : ℕ) (b : Bool) (x y : Result A TextFault) (f : TextFault)
    → ((g : TextFault) → x ≡ Err g → IsOn line g) → ((g : TextFault) → y ≡ Err g → IsOn line g) → cond b x y ≡ Err f
    → IsOn line f
pick_fault line true x y f h k e = h f e
pick_fault line false x y f h k e = k f e

bind_fault : {A B : Type 0} (line : ℕ) (r : Result A TextFault) (next : A → Result B TextFault) (f : TextFault)
    → ((g : TextFault) → r ≡ Err g → IsOn line g) → ((x : A) (g : TextFault) → next x ≡ Err g → IsOn line g)
    → (r >>= next) ≡ Err f → IsOn line f
bind_fault line (Ok x) next f h k e = k x f e
bind_fault line (Err d) next f h k e = subst (IsOn line) (err_is d f e) (h d refl)

bad_on : {A : Type 0} (line : ℕ) (g : TextFault)
    → (let left : Result A TextFault = Err (BadToken line) in left ≡ Err g) → IsOn line g
unfolding IsOn
bad_on line g e = subst (IsOn line) (err_is (BadToken line) g e) refl

range_on : {A : Type 0} (line : ℕ) (g : TextFault)
    → (let left : Result A TextFault = Err (NumberRange line) in left ≡ Err g) → IsOn line g
unfolding IsOn
range_on line g e = subst (IsOn line) (err_is (NumberRange line) g e) refl

ended_on : {A : Type 0} (line : ℕ) (g : TextFault)
    → (let left : Result A TextFault = Err (Unexpected line) in left ≡ Err g) → IsOn line g
unfolding IsOn
ended_on line g e = subst (IsOn line) (err_is (Unexpected line) g e) refl

long_on : {A : Type 0} (line : ℕ) (g : TextFault)
    → (let left : Result A TextFault = Err (TooLong line) in left ≡ Err g) → IsOn line g
unfolding IsOn
long_on line g e = subst (IsOn line) (err_is (TooLong line) g e) refl

signed_on : (minus : Bool) (n line : ℕ) (f : TextFault) → signed minus n line ≡ Err f → IsOn line f
signed_on true n line f e = pick_fault line (leb n (2 ^ 63)) _ _ f (λ g h. absurd (no_fault _ g h)) (range_on line) e
signed_on false n line f e = pick_fault line (ltb n (2 ^ 63)) _ _ f (λ g h. absurd (no_fault _ g h)) (range_on line) e

item_on : (line : ℕ) (bytes : List ℕ) (f : TextFault) → item_at line bytes ≡ Err f → IsOn line f
unfolding item_at
item_on line bytes f e =
    let minus = slice_index bytes 0 == 45 in
    let sign = sign_len bytes in
    let n = run is_ascii_digit (drop sign bytes) in
    pick_fault line (n == 0) (Err (BadToken line))
    (signed minus (numeral_value (take n (drop sign bytes))) line >>= λ v. Ok (v, drop (sign + n) bytes)) f
    (bad_on line)
    (λ g h. bind_fault line (signed minus (numeral_value (take n (drop sign bytes))) line)
    (λ v. Ok (v, drop (sign + n) bytes)) g (signed_on minus (numeral_value (take n (drop sign bytes))) line)
    (λ x k i. absurd (no_fault _ k i)) h) e

items_from_on : (line n : ℕ) (bytes : List ℕ) (f : TextFault) → items_from line n bytes ≡ Err f → IsOn line f
items_from_on line zero bytes f e = absurd (no_fault _ f e)
items_from_on line (suc n) bytes f e =
    let gap = run is_space bytes in
    let next = λ (first : ℤ × List ℕ). items_from line n first.1 >>= λ others. Ok (first.0 ∷ others) in
    pick_fault line (gap == length bytes) (Ok [])
    (cond (gap == 0) (Err (BadToken line)) (item_at line (drop gap bytes) >>= next)) f
    (λ g h. absurd (no_fault _ g h))
    (λ g h. pick_fault line (gap == 0) (Err (BadToken line)) (item_at line (drop gap bytes) >>= next) g (bad_on line)
    (λ k i. bind_fault line (item_at line (drop gap bytes)) next k (item_on line (drop gap bytes))
    (λ x j l. bind_fault line (items_from line n x.1) (λ others. Ok (x.0 ∷ others)) j (items_from_on line n x.1)
    (λ o p q. absurd (no_fault _ p q)) l) i) h) e

items_on : (line : ℕ) (bytes : List ℕ) (f : TextFault) → items_at line bytes ≡ Err f → IsOn line f
unfolding items_at
items_on line bytes f e = items_from_on line (suc (length bytes)) bytes f e

entry_on : (line : ℕ) (bytes : List ℕ) (f : TextFault) → entry_at line bytes ≡ Err f → IsOn line f
unfolding entry_at after_name
entry_on line bytes f e =
    let n = run continues_word bytes in
    let made = λ (items : List ℤ). let t : InputTree =
    record { name = record { text = take n bytes; line = line }; items = items } in
    let r : Result InputTree TextFault = Ok t in r in
    let colon = cond (slice_index bytes n == 58) (items_at line (drop (suc n) bytes) >>= made) (Err (BadToken line)) in
    let goes_on = cond (n == length bytes) (Err (Unexpected line)) colon in
    pick_fault line (starts_word (slice_index bytes 0)) (cond (ltb MAX_NAME_BYTES n) (Err (TooLong line)) goes_on)
    (Err (BadToken line)) f
    (λ g h. pick_fault line (ltb MAX_NAME_BYTES n) (Err (TooLong line)) goes_on g (long_on line)
    (λ k i. pick_fault line (n == length bytes) (Err (Unexpected line)) colon k (ended_on line)
    (λ j l. pick_fault line (slice_index bytes n == 58) (items_at line (drop (suc n) bytes) >>= made)
    (Err (BadToken line)) j
    (λ o p. bind_fault line (items_at line (drop (suc n) bytes)) made o (items_on line (drop (suc n) bytes))
    (λ x q r. absurd (no_fault _ q r)) p)
    (bad_on line) l) i) h)
    (bad_on line) e

pub line_on : (number : ℕ) (line : List ℕ) (f : TextFault) → line_at number line ≡ Err f → IsOn number f
unfolding line_at
line_on number line f e =
    pick_fault number ((run is_space line == length line) || is_comment line) (Ok None)
    (entry_at number line >>= λ x. Ok (Some x)) f (λ g h. absurd (no_fault _ g h))
    (λ g h. bind_fault number (entry_at number line) (λ x. Ok (Some x)) g (entry_on number line)
    (λ x k i. absurd (no_fault _ k i)) h) e
