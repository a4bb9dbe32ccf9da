-- What the code reads of a line's words is what they say.
use Rattle.std.proofs.Common.{◌≡◌, ◌≢◌, ℕ, ◌≤◌, ◌==◌, ◌&&◌, Bool, true, false, cond, nat_le}
use Rattle.std.proofs.Common.{List, [], ◌∷◌, length, rules, tests, refl, ap, arith, sym, ◌∙◌, subst}
use Rattle.std.proofs.Common.{Option, Some, None, codes, min}
use Rattle.std.specs.List.{slice_get}
use Rattle.std.proofs.lemmas.Bool.{eqb-false, ne_eqb, and_parts}
use Rattle.std.proofs.lemmas.Option.{get_or_from_slice_get}
use Rattle.net_text.specs.Numbers.{is_numeral, numeral_value}
use Rattle.fail_script.specs.declared.act.Act.{Act}
use Rattle.fail_script.specs.declared.act.Act.TheVariants.{Lose, Repeat, Delay, Crash, CrashAtDelivery, StopAtCall}
use Rattle.fail_script.specs.declared.act.Act.TheVariants.{FailCall, Start}
use Rattle.fail_script.specs.declared.words.Form.{Form}
use Rattle.fail_script.specs.declared.words.Form.TheVariants as form
use Rattle.fail_script.specs.declared.limits.TheConstants.{MAX_COUNT, MAX_FILL, MAX_ROUNDS, BEYOND_NODES}
use Rattle.fail_script.specs.Lines.{IsNumeralOf, AreNumeralsOf, IsActText, words_with, form_of, numbers_of, IsInRange}
use Rattle.fail_script.specs.Lines.{IsCount, AreRounds}
use Rattle.fail_script.proofs.Forms.{inside}
use Rattle.fail_script.specs.Reading.{has_form, word, act_in, node_in, number_in, packet_in, crash_in, node_cut, cut}
use Rattle.fail_script.specs.Reading.{◌>>=◌}

bound : {A B : Type 0} (o : Option A) (f : A → Option B) (y : B) → (o >>= f) ≡ Some y
    → (x : A) × (o ≡ Some x) × (f x ≡ Some y)
bound None f y e = absurd cc
bound (Some x) f y e = (x, refl, e)

-- what a test lets through
kept : {A : Type 0} (test : Bool) (x y : A) → cond test (Some x) None ≡ Some y → (test ≡ true) × (x ≡ y)
kept true x y e = (refl, ap (inside x) e)
kept false x y e = absurd cc

kept_else : {A : Type 0} (test : Bool) (x y : A) → cond test None (Some x) ≡ Some y → (test ≡ false) × (x ≡ y)
kept_else false x y e = (refl, ap (inside x) e)
kept_else true x y e = absurd cc

pub node_read : (w : List ℕ) (a : ℕ) → node_in w ≡ Some a → (is_numeral w ≡ true) × (node_cut (numeral_value w) ≡ a)
node_read w a e = kept (is_numeral w) (min (numeral_value w) BEYOND_NODES) a e

pub record IsNumber (least greatest : ℕ) (w : List ℕ) (n : ℕ) : Type 0 where
  pub numeral : is_numeral w ≡ true
  pub value : numeral_value w ≡ n
  pub above : least ≤ n
  pub below : n ≤ greatest

pub number_read : (least greatest : ℕ) (w : List ℕ) (n : ℕ) → number_in least greatest w ≡ Some n
    → IsNumber least greatest w n
number_read least greatest w n e =
    let h = kept _ (numeral_value w) n e in
    let parts = and_parts (is_numeral w) _ h.0 in
    let bounds = and_parts (nat_le (numeral_value w) greatest) (nat_le least (numeral_value w)) parts.1 in
    record {
      numeral = parts.0;
      value = h.1;
      above = subst (λ k. least ≤ k) h.1 (search (rules, bounds.1));
      below = subst (λ k. k ≤ greatest) h.1 (search (rules, bounds.0));
    }

node_reads : (w : List ℕ) (a : ℕ) → IsNumeralOf w a → node_in w ≡ Some (node_cut a)
node_reads w a is = rw is.0 (ap (λ v. Some (node_cut v)) is.1)

pub number_reads : (least greatest : ℕ) (w : List ℕ) (n : ℕ) → IsNumeralOf w n → least ≤ n → n ≤ greatest
    → number_in least greatest w ≡ Some n
number_reads least greatest w n is above below =
    rw (is.0, within (numeral_value w) least greatest (rw is.1 above) (rw is.1 below)) (ap Some is.1)
  where
    within : (v least greatest : ℕ) → least ≤ v → v ≤ greatest → (nat_le v greatest && nat_le least v) ≡ true
    within v least greatest above below = search (rules, tests)

record IsPacketOf (from to count : List ℕ) (p : ℕ × ℕ × ℕ) : Type 0 where
  sender : is_numeral from ≡ true
  receiver : is_numeral to ≡ true
  sender_is : node_cut (numeral_value from) ≡ p.0
  receiver_is : node_cut (numeral_value to) ≡ p.1
  apart : numeral_value from ≢ numeral_value to
  counted : IsNumber 1 MAX_COUNT count p.2

packet_read : (from to count : List ℕ) (p : ℕ × ℕ × ℕ) → packet_in from to count ≡ Some p → IsPacketOf from to count p
packet_read from to count p e =
    let a = bound (node_in from) _ p e in
    let b = bound (node_in to) _ p a.2 in
    let n = bound (number_in 1 MAX_COUNT count) _ p b.2 in
    let last = kept_else (numeral_value from == numeral_value to) (a.0, b.0, n.0) p n.2 in
    let sender = node_read from a.0 a.1 in
    let receiver = node_read to b.0 b.1 in
    record {
      sender = sender.0;
      receiver = receiver.0;
      sender_is = sender.1 ∙ ap (λ q. q.0) last.1;
      receiver_is = receiver.1 ∙ ap (λ q. q.1) last.1;
      apart = eqb-false _ _ last.0;
      counted =
          subst (λ k. IsNumber 1 MAX_COUNT count k) (ap (λ q. q.2) last.1) (number_read 1 MAX_COUNT count n.0 n.1);
    }

crash_read : (fill rounds : List ℕ) (c : ℕ × ℕ) → crash_in fill rounds ≡ Some c
    → IsNumber 0 MAX_FILL fill c.0 × IsNumber 1 MAX_ROUNDS rounds c.1
crash_read fill rounds c e =
    let f = bound (number_in 0 MAX_FILL fill) _ c e in
    let r = bound (number_in 1 MAX_ROUNDS rounds) _ c f.2 in
    let both = ap (inside c) r.2 in (
      subst (λ k. IsNumber 0 MAX_FILL fill k) (ap (λ q. q.0) both) (number_read 0 MAX_FILL fill f.0 f.1),
      subst (λ k. IsNumber 1 MAX_ROUNDS rounds k) (ap (λ q. q.1) both) (number_read 1 MAX_ROUNDS rounds r.0 r.1),
    )

packet_reads : (from to count : List ℕ) (a b n : ℕ) → IsNumeralOf from a → IsNumeralOf to b → IsNumeralOf count n
    → a ≢ b → IsCount n → packet_in from to count ≡ Some (node_cut a, node_cut b, n)
packet_reads from to count a b n x y z apart counted =
    rw (
      node_reads from a x,
      node_reads to b y,
      number_reads 1 MAX_COUNT count n z counted.0 counted.1,
      x.1,
      y.1,
      ne_eqb a b apart,
    ) refl

crash_reads : (fill rounds : List ℕ) (f r : ℕ) → IsNumeralOf fill f → IsNumeralOf rounds r → f ≤ MAX_FILL → AreRounds r
    → crash_in fill rounds ≡ Some (f, r)
crash_reads fill rounds f r x y small within =
    rw (number_reads 0 MAX_FILL fill f x (omega arith) small, number_reads 1 MAX_ROUNDS rounds r y within.0 within.1)
    refl

-- a list of words, one by one
two : (ws : List (List ℕ)) → length ws ≡ 2 → ws ≡ word ws 0 ∷ word ws 1 ∷ []
two [] long = absurd (omega arith)
two (a ∷ []) long = absurd (omega arith)
two (a ∷ b ∷ []) long = refl
two (a ∷ b ∷ c ∷ ws) long = absurd (omega arith)

four : (ws : List (List ℕ)) → length ws ≡ 4 → ws ≡ word ws 0 ∷ word ws 1 ∷ word ws 2 ∷ word ws 3 ∷ []
four [] long = absurd (omega arith)
four (a ∷ []) long = absurd (omega arith)
four (a ∷ b ∷ []) long = absurd (omega arith)
four (a ∷ b ∷ c ∷ []) long = absurd (omega arith)
four (a ∷ b ∷ c ∷ d ∷ []) long = refl
four (a ∷ b ∷ c ∷ d ∷ e ∷ ws) long = absurd (omega arith)

five : (ws : List (List ℕ)) → length ws ≡ 5 → ws ≡ word ws 0 ∷ word ws 1 ∷ word ws 2 ∷ word ws 3 ∷ word ws 4 ∷ []
five [] long = absurd (omega arith)
five (a ∷ []) long = absurd (omega arith)
five (a ∷ b ∷ []) long = absurd (omega arith)
five (a ∷ b ∷ c ∷ []) long = absurd (omega arith)
five (a ∷ b ∷ c ∷ d ∷ []) long = absurd (omega arith)
five (a ∷ b ∷ c ∷ d ∷ e ∷ []) long = refl
five (a ∷ b ∷ c ∷ d ∷ e ∷ f ∷ ws) long = absurd (omega arith)

six : (ws : List (List ℕ)) → length ws ≡ 6
    → ws ≡ word ws 0 ∷ word ws 1 ∷ word ws 2 ∷ word ws 3 ∷ word ws 4 ∷ word ws 5 ∷ []
six [] long = absurd (omega arith)
six (a ∷ []) long = absurd (omega arith)
six (a ∷ b ∷ []) long = absurd (omega arith)
six (a ∷ b ∷ c ∷ []) long = absurd (omega arith)
six (a ∷ b ∷ c ∷ d ∷ []) long = absurd (omega arith)
six (a ∷ b ∷ c ∷ d ∷ e ∷ []) long = absurd (omega arith)
six (a ∷ b ∷ c ∷ d ∷ e ∷ f ∷ []) long = refl
six (a ∷ b ∷ c ∷ d ∷ e ∷ f ∷ g ∷ ws) long = absurd (omega arith)

word_at : (ws : List (List ℕ)) (i : ℕ) (w : List ℕ) → slice_get ws i ≡ Some w → word ws i ≡ w
word_at ws i w e = get_or_from_slice_get ws i w [] e

abbrev pub IsReadAs : Act → List (List ℕ) → Type 0
IsReadAs act words = (v : Act) × IsActText v words × (cut v ≡ act)

numeral_of : {least greatest n : ℕ} (w : List ℕ) → IsNumber least greatest w n → IsNumeralOf w n
numeral_of w is = (is.numeral, is.value)

read_lose : (ws : List (List ℕ)) (act : Act) → has_form form.Lose ws → act_in form.Lose ws ≡ Some act → IsReadAs act ws
read_lose ws act has e =
    let p = bound (packet_in (word ws 1) (word ws 2) (word ws 3)) _ act e in
    let is = packet_read (word ws 1) (word ws 2) (word ws 3) p.0 p.1 in (
      Lose (numeral_value (word ws 1)) (numeral_value (word ws 2)) p.0.2,
      (
        word ws 1 ∷ word ws 2 ∷ word ws 3 ∷ [],
        four ws has.0 ∙ ap (λ w. w ∷ word ws 1 ∷ word ws 2 ∷ word ws 3 ∷ []) (word_at ws 0 _ has.1),
        ((is.sender, refl), ((is.receiver, refl), (numeral_of _ is.counted, tt))),
        (is.apart, (is.counted.above, is.counted.below)),
      ),
      ap (λ a. Lose a (node_cut (numeral_value (word ws 2))) p.0.2) is.sender_is
          ∙ ap (λ b. Lose p.0.0 b p.0.2) is.receiver_is ∙ ap (inside act) p.2,
    )

read_repeat : (ws : List (List ℕ)) (act : Act) → has_form form.Repeat ws → act_in form.Repeat ws ≡ Some act
    → IsReadAs act ws
read_repeat ws act has e =
    let p = bound (packet_in (word ws 1) (word ws 2) (word ws 3)) _ act e in
    let is = packet_read (word ws 1) (word ws 2) (word ws 3) p.0 p.1 in (
      Repeat (numeral_value (word ws 1)) (numeral_value (word ws 2)) p.0.2,
      (
        word ws 1 ∷ word ws 2 ∷ word ws 3 ∷ [],
        four ws has.0 ∙ ap (λ w. w ∷ word ws 1 ∷ word ws 2 ∷ word ws 3 ∷ []) (word_at ws 0 _ has.1),
        ((is.sender, refl), ((is.receiver, refl), (numeral_of _ is.counted, tt))),
        (is.apart, (is.counted.above, is.counted.below)),
      ),
      ap (λ a. Repeat a (node_cut (numeral_value (word ws 2))) p.0.2) is.sender_is
          ∙ ap (λ b. Repeat p.0.0 b p.0.2) is.receiver_is ∙ ap (inside act) p.2,
    )

read_delay : (ws : List (List ℕ)) (act : Act) → has_form form.Delay ws → act_in form.Delay ws ≡ Some act
    → IsReadAs act ws
read_delay ws act has e =
    let p = bound (packet_in (word ws 1) (word ws 2) (word ws 3)) _ act e in
    let is = packet_read (word ws 1) (word ws 2) (word ws 3) p.0 p.1 in
    let r = bound (number_in 1 MAX_ROUNDS (word ws 4)) _ act p.2 in
    let late = number_read 1 MAX_ROUNDS (word ws 4) r.0 r.1 in (
      Delay (numeral_value (word ws 1)) (numeral_value (word ws 2)) p.0.2 r.0,
      (
        word ws 1 ∷ word ws 2 ∷ word ws 3 ∷ word ws 4 ∷ [],
        five ws has.0 ∙ ap (λ w. w ∷ word ws 1 ∷ word ws 2 ∷ word ws 3 ∷ word ws 4 ∷ []) (word_at ws 0 _ has.1),
        ((is.sender, refl), ((is.receiver, refl), (numeral_of _ is.counted, (numeral_of _ late, tt)))),
        (is.apart, (is.counted.above, is.counted.below), (late.above, late.below)),
      ),
      ap (λ a. Delay a (node_cut (numeral_value (word ws 2))) p.0.2 r.0) is.sender_is
          ∙ ap (λ b. Delay p.0.0 b p.0.2 r.0) is.receiver_is ∙ ap (inside act) r.2,
    )

read_crash : (ws : List (List ℕ)) (act : Act) → has_form form.Crash ws → act_in form.Crash ws ≡ Some act
    → IsReadAs act ws
read_crash ws act has e =
    let k = bound (node_in (word ws 1)) _ act e in
    let node = node_read (word ws 1) k.0 k.1 in
    let c = bound (crash_in (word ws 3) (word ws 4)) _ act k.2 in
    let is = crash_read (word ws 3) (word ws 4) c.0 c.1 in (
      Crash (numeral_value (word ws 1)) c.0.0 c.0.1,
      (
        word ws 1 ∷ word ws 3 ∷ word ws 4 ∷ [],
        five ws has.0 ∙ ap (λ w. w ∷ word ws 1 ∷ word ws 2 ∷ word ws 3 ∷ word ws 4 ∷ []) (word_at ws 0 _ has.1)
            ∙ ap (λ w. codes "crash" ∷ word ws 1 ∷ w ∷ word ws 3 ∷ word ws 4 ∷ []) (word_at ws 2 _ has.2),
        ((node.0, refl), (numeral_of _ is.0, (numeral_of _ is.1, tt))),
        (is.0.below, (is.1.above, is.1.below)),
      ),
      ap (λ a. Crash a c.0.0 c.0.1) node.1 ∙ ap (inside act) c.2,
    )

read_delivery : (ws : List (List ℕ)) (act : Act) → has_form form.CrashAtDelivery ws
    → act_in form.CrashAtDelivery ws ≡ Some act
    → IsReadAs act ws
read_delivery ws act has e =
    let k = bound (node_in (word ws 1)) _ act e in
    let node = node_read (word ws 1) k.0 k.1 in
    let n = bound (number_in 1 MAX_COUNT (word ws 3)) _ act k.2 in
    let counted = number_read 1 MAX_COUNT (word ws 3) n.0 n.1 in
    let c = bound (crash_in (word ws 4) (word ws 5)) _ act n.2 in
    let is = crash_read (word ws 4) (word ws 5) c.0 c.1 in (
      CrashAtDelivery (numeral_value (word ws 1)) n.0 c.0.0 c.0.1,
      (
        word ws 1 ∷ word ws 3 ∷ word ws 4 ∷ word ws 5 ∷ [],
        six ws has.0
            ∙ ap (λ w. w ∷ word ws 1 ∷ word ws 2 ∷ word ws 3 ∷ word ws 4 ∷ word ws 5 ∷ []) (word_at ws 0 _ has.1)
            ∙ ap (λ w. codes "crash" ∷ word ws 1 ∷ w ∷ word ws 3 ∷ word ws 4 ∷ word ws 5 ∷ []) (word_at ws 2 _ has.2),
        ((node.0, refl), (numeral_of _ counted, (numeral_of _ is.0, (numeral_of _ is.1, tt)))),
        ((counted.above, counted.below), is.0.below, (is.1.above, is.1.below)),
      ),
      ap (λ a. CrashAtDelivery a n.0 c.0.0 c.0.1) node.1 ∙ ap (inside act) c.2,
    )

read_stop : (ws : List (List ℕ)) (act : Act) → has_form form.StopAtCall ws → act_in form.StopAtCall ws ≡ Some act
    → IsReadAs act ws
read_stop ws act has e =
    let k = bound (node_in (word ws 1)) _ act e in
    let node = node_read (word ws 1) k.0 k.1 in
    let n = bound (number_in 1 MAX_COUNT (word ws 3)) _ act k.2 in
    let counted = number_read 1 MAX_COUNT (word ws 3) n.0 n.1 in
    let c = bound (crash_in (word ws 4) (word ws 5)) _ act n.2 in
    let is = crash_read (word ws 4) (word ws 5) c.0 c.1 in (
      StopAtCall (numeral_value (word ws 1)) n.0 c.0.0 c.0.1,
      (
        word ws 1 ∷ word ws 3 ∷ word ws 4 ∷ word ws 5 ∷ [],
        six ws has.0
            ∙ ap (λ w. w ∷ word ws 1 ∷ word ws 2 ∷ word ws 3 ∷ word ws 4 ∷ word ws 5 ∷ []) (word_at ws 0 _ has.1)
            ∙ ap (λ w. codes "crash" ∷ word ws 1 ∷ w ∷ word ws 3 ∷ word ws 4 ∷ word ws 5 ∷ []) (word_at ws 2 _ has.2),
        ((node.0, refl), (numeral_of _ counted, (numeral_of _ is.0, (numeral_of _ is.1, tt)))),
        ((counted.above, counted.below), is.0.below, (is.1.above, is.1.below)),
      ),
      ap (λ a. StopAtCall a n.0 c.0.0 c.0.1) node.1 ∙ ap (inside act) c.2,
    )

read_fail : (ws : List (List ℕ)) (act : Act) → has_form form.FailCall ws → act_in form.FailCall ws ≡ Some act
    → IsReadAs act ws
read_fail ws act has e =
    let k = bound (node_in (word ws 1)) _ act e in
    let node = node_read (word ws 1) k.0 k.1 in
    let n = bound (number_in 1 MAX_COUNT (word ws 3)) _ act k.2 in
    let counted = number_read 1 MAX_COUNT (word ws 3) n.0 n.1 in (
      FailCall (numeral_value (word ws 1)) n.0,
      (
        word ws 1 ∷ word ws 3 ∷ [],
        four ws has.0 ∙ ap (λ w. w ∷ word ws 1 ∷ word ws 2 ∷ word ws 3 ∷ []) (word_at ws 0 _ has.1)
            ∙ ap (λ w. codes "fail" ∷ word ws 1 ∷ w ∷ word ws 3 ∷ []) (word_at ws 2 _ has.2),
        ((node.0, refl), (numeral_of _ counted, tt)),
        (counted.above, counted.below),
      ),
      ap (λ a. FailCall a n.0) node.1 ∙ ap (inside act) n.2,
    )

read_start : (ws : List (List ℕ)) (act : Act) → has_form form.Start ws → act_in form.Start ws ≡ Some act
    → IsReadAs act ws
read_start ws act has e =
    let k = bound (node_in (word ws 1)) _ act e in
    let node = node_read (word ws 1) k.0 k.1 in (
      Start (numeral_value (word ws 1)),
      (word ws 1 ∷ [], two ws has.0 ∙ ap (λ w. w ∷ word ws 1 ∷ []) (word_at ws 0 _ has.1), ((node.0, refl), tt), tt),
      ap Start node.1 ∙ ap (inside act) k.2,
    )

-- what is read of words is what they say, but for nodes beyond all
pub act_read : (f : Form) (ws : List (List ℕ)) (act : Act) → has_form f ws → act_in f ws ≡ Some act → IsReadAs act ws
act_read form.Lose ws act has e = read_lose ws act has e
act_read form.Repeat ws act has e = read_repeat ws act has e
act_read form.Delay ws act has e = read_delay ws act has e
act_read form.Crash ws act has e = read_crash ws act has e
act_read form.CrashAtDelivery ws act has e = read_delivery ws act has e
act_read form.StopAtCall ws act has e = read_stop ws act has e
act_read form.FailCall ws act has e = read_fail ws act has e
act_read form.Start ws act has e = read_start ws act has e

-- the words of an act have its form, and are read as the act but for nodes beyond all
pub record IsRead (act : Act) (ws : List (List ℕ)) : Type 0 where
  pub has : has_form (form_of act) ws
  pub gives : act_in (form_of act) ws ≡ Some (cut act)

reads_lose : (a b c : ℕ) (xs : List (List ℕ)) → AreNumeralsOf xs (a ∷ b ∷ c ∷ [])
    → IsInRange (Lose a b c) → IsRead (Lose a b c) (words_with form.Lose xs)
reads_lose a b c [] are within = absurd are
reads_lose a b c (x ∷ []) are within = absurd are.1
reads_lose a b c (x ∷ y ∷ []) are within = absurd are.1.1
reads_lose a b c (x ∷ y ∷ z ∷ []) are within =
    record {
      has = (refl, refl);
      gives = rw (packet_reads x y z a b c are.0 are.1.0 are.1.1.0 within.0 within.1) refl;
    }
reads_lose a b c (x ∷ y ∷ z ∷ (v ∷ vs)) are within = absurd are.1.1.1

reads_repeat : (a b c : ℕ) (xs : List (List ℕ)) → AreNumeralsOf xs (a ∷ b ∷ c ∷ [])
    → IsInRange (Repeat a b c) → IsRead (Repeat a b c) (words_with form.Repeat xs)
reads_repeat a b c [] are within = absurd are
reads_repeat a b c (x ∷ []) are within = absurd are.1
reads_repeat a b c (x ∷ y ∷ []) are within = absurd are.1.1
reads_repeat a b c (x ∷ y ∷ z ∷ []) are within =
    record {
      has = (refl, refl);
      gives = rw (packet_reads x y z a b c are.0 are.1.0 are.1.1.0 within.0 within.1) refl;
    }
reads_repeat a b c (x ∷ y ∷ z ∷ (v ∷ vs)) are within = absurd are.1.1.1

reads_delay : (a b c d : ℕ) (xs : List (List ℕ)) → AreNumeralsOf xs (a ∷ b ∷ c ∷ d ∷ [])
    → IsInRange (Delay a b c d) → IsRead (Delay a b c d) (words_with form.Delay xs)
reads_delay a b c d [] are within = absurd are
reads_delay a b c d (x ∷ []) are within = absurd are.1
reads_delay a b c d (x ∷ y ∷ []) are within = absurd are.1.1
reads_delay a b c d (x ∷ y ∷ z ∷ []) are within = absurd are.1.1.1
reads_delay a b c d (x ∷ y ∷ z ∷ u ∷ []) are within =
    record {
      has = (refl, refl);
      gives = rw (
        packet_reads x y z a b c are.0 are.1.0 are.1.1.0 within.0 within.1,
        number_reads 1 MAX_ROUNDS u d are.1.1.1.0 within.2.0 within.2.1,
      ) refl;
    }
reads_delay a b c d (x ∷ y ∷ z ∷ u ∷ (v ∷ vs)) are within = absurd are.1.1.1.1

reads_crash : (a b c : ℕ) (xs : List (List ℕ)) → AreNumeralsOf xs (a ∷ b ∷ c ∷ [])
    → IsInRange (Crash a b c) → IsRead (Crash a b c) (words_with form.Crash xs)
reads_crash a b c [] are within = absurd are
reads_crash a b c (x ∷ []) are within = absurd are.1
reads_crash a b c (x ∷ y ∷ []) are within = absurd are.1.1
reads_crash a b c (x ∷ y ∷ z ∷ []) are within =
    record {
      has = (refl, refl, refl);
      gives = rw (node_reads x a are.0, crash_reads y z b c are.1.0 are.1.1.0 within.0 within.1) refl;
    }
reads_crash a b c (x ∷ y ∷ z ∷ (v ∷ vs)) are within = absurd are.1.1.1

reads_delivery : (a b c d : ℕ) (xs : List (List ℕ)) → AreNumeralsOf xs (a ∷ b ∷ c ∷ d ∷ [])
    → IsInRange (CrashAtDelivery a b c d) → IsRead (CrashAtDelivery a b c d) (words_with form.CrashAtDelivery xs)
reads_delivery a b c d [] are within = absurd are
reads_delivery a b c d (x ∷ []) are within = absurd are.1
reads_delivery a b c d (x ∷ y ∷ []) are within = absurd are.1.1
reads_delivery a b c d (x ∷ y ∷ z ∷ []) are within = absurd are.1.1.1
reads_delivery a b c d (x ∷ y ∷ z ∷ u ∷ []) are within =
    record {
      has = (refl, refl, refl);
      gives = rw (
        node_reads x a are.0,
        number_reads 1 MAX_COUNT y b are.1.0 within.0.0 within.0.1,
        crash_reads z u c d are.1.1.0 are.1.1.1.0 within.1 within.2,
      ) refl;
    }
reads_delivery a b c d (x ∷ y ∷ z ∷ u ∷ (v ∷ vs)) are within = absurd are.1.1.1.1

reads_stop : (a b c d : ℕ) (xs : List (List ℕ)) → AreNumeralsOf xs (a ∷ b ∷ c ∷ d ∷ [])
    → IsInRange (StopAtCall a b c d) → IsRead (StopAtCall a b c d) (words_with form.StopAtCall xs)
reads_stop a b c d [] are within = absurd are
reads_stop a b c d (x ∷ []) are within = absurd are.1
reads_stop a b c d (x ∷ y ∷ []) are within = absurd are.1.1
reads_stop a b c d (x ∷ y ∷ z ∷ []) are within = absurd are.1.1.1
reads_stop a b c d (x ∷ y ∷ z ∷ u ∷ []) are within =
    record {
      has = (refl, refl, refl);
      gives = rw (
        node_reads x a are.0,
        number_reads 1 MAX_COUNT y b are.1.0 within.0.0 within.0.1,
        crash_reads z u c d are.1.1.0 are.1.1.1.0 within.1 within.2,
      ) refl;
    }
reads_stop a b c d (x ∷ y ∷ z ∷ u ∷ (v ∷ vs)) are within = absurd are.1.1.1.1

reads_fail : (a b : ℕ) (xs : List (List ℕ)) → AreNumeralsOf xs (a ∷ b ∷ [])
    → IsInRange (FailCall a b) → IsRead (FailCall a b) (words_with form.FailCall xs)
reads_fail a b [] are within = absurd are
reads_fail a b (x ∷ []) are within = absurd are.1
reads_fail a b (x ∷ y ∷ []) are within =
    record {
      has = (refl, refl, refl);
      gives = rw (node_reads x a are.0, number_reads 1 MAX_COUNT y b are.1.0 within.0 within.1) refl;
    }
reads_fail a b (x ∷ y ∷ (v ∷ vs)) are within = absurd are.1.1

reads_start : (a : ℕ) (xs : List (List ℕ)) → AreNumeralsOf xs (a ∷ [])
    → IsInRange (Start a) → IsRead (Start a) (words_with form.Start xs)
reads_start a [] are within = absurd are
reads_start a (x ∷ []) are within =
    record {
      has = (refl, refl);
      gives = rw (node_reads x a are.0) refl;
    }
reads_start a (x ∷ (v ∷ vs)) are within = absurd are.1

reads_numerals : (act : Act) (xs : List (List ℕ)) → AreNumeralsOf xs (numbers_of act) → IsInRange act
    → IsRead act (words_with (form_of act) xs)
reads_numerals (Lose from to count) xs are within = reads_lose from to count xs are within
reads_numerals (Repeat from to count) xs are within = reads_repeat from to count xs are within
reads_numerals (Delay from to count rounds) xs are within = reads_delay from to count rounds xs are within
reads_numerals (Crash node fill rounds) xs are within = reads_crash node fill rounds xs are within
reads_numerals (CrashAtDelivery node count fill rounds) xs are within =
    reads_delivery node count fill rounds xs are within
reads_numerals (StopAtCall node count fill rounds) xs are within = reads_stop node count fill rounds xs are within
reads_numerals (FailCall node count) xs are within = reads_fail node count xs are within
reads_numerals (Start node) xs are within = reads_start node xs are within

pub act_reads : (act : Act) (ws : List (List ℕ)) → IsActText act ws → IsRead act ws
act_reads act ws text =
    subst (λ all. IsRead act all) (sym text.1) (reads_numerals act text.0 text.2 text.3)
