-- The words of a line, as a walk over its bytes finds them.
use Rattle.std.proofs.Common.{◌≡◌, ℕ, ◌<◌, ◌≤◌, ◌+◌, ◌-◌, ◌==◌, ◌⊎◌, Bool, true, false, cond, not, add-one, drop-cons}
use Rattle.std.proofs.Common.{List, [], ◌∷◌, ◌++◌, length, drop, get_or, refl, ap, arith, sym, ◌∙◌, subst, inl, inr}
use Rattle.std.proofs.Common.{Bor, map, Some, Result, Ok, Err, OnOk}
use Rattle.std.specs.List.{slice_split, slice_range, slice_get, filter, All}
use Rattle.std.specs.Option.{option_map}
use Rattle.std.specs.Str.{bytes_eq}
use Rattle.std.proofs.lemmas.Option.{slice_get-map, slice_get-get_or}
use Rattle.std.proofs.lemmas.Slice.Eq.{bytes_eq-Decides}
use Rattle.std.proofs.lemmas.List.{take-append-drop, append_assoc, append-nil, drop-drop, get_or-take, get_or-drop}
use Rattle.std.proofs.lemmas.List.{length-take-le, length-drop, length-map, take_all, get_or_default}
use Rattle.std.proofs.lemmas.List.Splits.{slice_split_none, slice_split_at}
use Rattle.std.proofs.lemmas.Bool.{cases_lt}
use Rattle.net_text.specs.InputLines.{is_space}
use Rattle.fail_script.specs.Lines.{words_of}
use Rattle.fail_script.specs.Reading.{word_in}

-- What is found of a line up to a place: these words. Behind them no space stands from `start` on.
pub record IsReadTo (line : List ℕ) (words : List (List ℕ)) (start at : ℕ) : Type 0 where
  pub order : start ≤ at
  pub plain : (k d : ℕ) → start ≤ k → k < at → is_space (get_or line k d) ≡ false
  pub words_are : words ++ words_of (drop start line) ≡ words_of line

pub at_front : (line : List ℕ) → IsReadTo line [] 0 0
at_front line = record { order = omega arith; plain = λ k d above below. absurd (omega arith); words_are = refl }

-- a byte that is no space goes on with the word
pub goes_on : (line : List ℕ) (words : List (List ℕ)) (start at : ℕ) → at < length line
    → is_space (get_or line at 0) ≡ false → IsReadTo line words start at → IsReadTo line words start (at + 1)
goes_on line words start at within here read =
    record {
      order = (let order = read.order in omega arith);
      plain = λ k d above below. further k d above (cases_lt k at) below;
      words_are = read.words_are;
    }
  where
    here_at : (k : ℕ) → at ≤ k → k < at + 1 → at ≡ k
    here_at k past below = omega arith

    further : (k d : ℕ) → start ≤ k → (k < at) ⊎ (at ≤ k) → k < at + 1 → is_space (get_or line k d) ≡ false
    further k d above (inl less) below = read.plain k d above less
    further k d above (inr past) below =
        subst (λ i. is_space (get_or line i d) ≡ false) (here_at k past below)
        (ap is_space (get_or_default line at d 0 within) ∙ here)

-- the first part that is split off is a word, unless it is empty
split_off : (part : List ℕ) (parts : List (List ℕ))
    → filter (λ p. not (length p == 0)) (part ∷ parts) ≡ word_in part ++ filter (λ p. not (length p == 0)) parts
split_off part parts = either (length part == 0) (filter (λ p. not (length p == 0)) parts)
  where
    either : (empty : Bool) (words : List (List ℕ))
        → cond (not empty) (part ∷ words) words ≡ cond empty [] (part ∷ []) ++ words
    either true words = refl
    either false words = refl

-- no space stands between the two places
all_plain : (line : List ℕ) (words : List (List ℕ)) (start at : ℕ) → at ≤ length line → IsReadTo line words start at
    → All (λ b. is_space b ≡ false) (slice_range line start at)
all_plain line words start at within read k d less =
    subst (λ b. is_space b ≡ false) (sym (get_or-take (at - start) (drop start line) k d near ∙ get_or-drop start line k d))
    (read.plain (start + k) d (omega arith) (omega (arith, near, order)))
  where
    order : start ≤ at
    order = read.order

    long : at - start ≤ length (drop start line)
    long = rw (length-drop start line) (omega (arith, within, order))

    near : k < at - start
    near = subst (λ n. k < n) (length-take-le (at - start) (drop start line) long) less

-- at a space the word ends, if one stands there
pub past_space : (line : List ℕ) (words now : List (List ℕ)) (start at : ℕ) → at < length line
    → is_space (get_or line at 0) ≡ true → IsReadTo line words start at
    → now ≡ words ++ word_in (slice_range line start at) → IsReadTo line now (at + 1) (at + 1)
past_space line words now start at within space read now_is =
    record {
      order = omega arith;
      plain = λ k e above below. absurd (omega arith);
      words_are =
          ap (λ ws. ws ++ words_of (drop (at + 1) line)) now_is
          ∙ append_assoc words (word_in (slice_range line start at)) (words_of (drop (at + 1) line))
          ∙ ap (λ ws. words ++ ws) (sym found) ∙ read.words_are;
    }
  where
    order : start ≤ at
    order = read.order

    behind : start + (at - start) ≡ at
    behind = omega (arith, order)

    parts : drop start line ≡ slice_range line start at ++ get_or line at 0 ∷ drop (at + 1) line
    parts =
        sym (take-append-drop (at - start) (drop start line))
        ∙ ap (λ rest. slice_range line start at ++ rest)
        (drop-drop (at - start) start line ∙ ap (λ k. drop k line) behind ∙ drop-cons line at 0 within
        ∙ ap (λ k. get_or line at 0 ∷ drop k line) (sym (add-one at)))

    found : words_of (drop start line) ≡ word_in (slice_range line start at) ++ words_of (drop (at + 1) line)
    found =
        ap words_of parts
        ∙ ap (filter (λ p. not (length p == 0)))
        (slice_split_at is_space (slice_range line start at) (get_or line at 0) (drop (at + 1) line)
        (all_plain line words start at (omega arith) read) space)
        ∙ split_off (slice_range line start at) (slice_split is_space (drop (at + 1) line))

-- the last word ends with the line
pub all_read : (line : List ℕ) (words now : List (List ℕ)) (start : ℕ) → IsReadTo line words start (length line)
    → now ≡ words ++ word_in (slice_range line start (length line)) → now ≡ words_of line
all_read line words now start read now_is =
    now_is ∙ ap (λ part. words ++ word_in part) whole ∙ ap (λ ws. words ++ ws) (sym last) ∙ read.words_are
  where
    whole : slice_range line start (length line) ≡ drop start line
    whole = take_all (length line - start) (drop start line) (rw (length-drop start line) (omega arith))

    plain : All (λ b. is_space b ≡ false) (drop start line)
    plain =
        subst (All (λ b. is_space b ≡ false)) whole (all_plain line words start (length line) (omega arith) read)

    last : words_of (drop start line) ≡ word_in (drop start line)
    last =
        ap (filter (λ p. not (length p == 0))) (slice_split_none is_space (drop start line) plain)
        ∙ split_off (drop start line) [] ∙ append-nil (word_in (drop start line))

pub all_read_where : {E : Type 0} → (r : Result (Unit {0}) E) (line : List ℕ) (words now : List (List ℕ)) (start at : ℕ)
    → length line ≤ at → at ≤ length line → IsReadTo line words start at
    → OnOk r (now ≡ words ++ word_in (slice_range line start (length line))) → OnOk r (now ≡ words_of line)
all_read_where (Err e) line words now start at past within read now_is = tt
all_read_where (Ok x) line words now start at past within read now_is =
    all_read line words now start (subst (IsReadTo line words start) (omega (arith, past, within)) read) now_is

-- a word of a line, by its bytes
pub word_is : (words : List (Bor (List ℕ))) (i : ℕ) (d : Bor (List ℕ)) (r : Bool) (w : List ℕ) → i < length words
    → r ≡ bytes_eq (get_or words i d).now w → r ≡ true → slice_get (map (λ w. w.now) words) i ≡ Some w
word_is words i d r w within is holds =
    slice_get-map (λ w. w.now) words i ∙ ap (option_map (λ w. w.now)) (slice_get-get_or words i d within)
    ∙ ap Some ((bytes_eq-Decides (get_or words i d).now w).0 (sym is ∙ holds))

pub how_many : {n : ℕ} (words : List (Bor (List ℕ))) → length words ≡ n → length (map (λ w. w.now) words) ≡ n
how_many words long = length-map words (λ w. w.now) ∙ long
