-- Bytes that the host takes piece by piece.
use Rattle.std.proofs.Common.{◌≡◌, ◌⊎◌, ℕ, ◌+◌, ◌^◌, ◌≤◌, ◌<◌, List, [], ◌∷◌, ◌++◌, length, take, drop, Option, Some, None, true, false}
use Rattle.std.proofs.Common.{◌-◌, refl, ap, ◌∙◌, sym, subst, inl, inr, append_assoc, append-nil, true≢false, arith, Bool, IsTrue}
use Rattle.std.proofs.Math.Seq.{take-add, take-length}
use Rattle.std.proofs.lemmas.List.{drop-drop, length-take-le, length-drop}
use Rattle.host.specs.Writes.{Write, Wrote, Synced, taken, ArePuts, HasTakenNone, IsPut, IsPutAndSynced}

-- these calls were made for the first of these bytes, and the host took so many
pub record IsPutSoFar (at : ℕ) (bytes : List ℕ) (count : ℕ) (old new : List Write) : Type 0 where
  pub calls : List Write
  pub log : new ≡ calls ++ old
  pub puts : ArePuts at bytes calls
  pub so_far : taken calls ≡ take count bytes

-- nothing was asked yet
pub none_put : (at : ℕ) (bytes : List ℕ) (old : List Write) → IsPutSoFar at bytes 0 old old
none_put at bytes old = record { calls = []; log = refl; puts = tt; so_far = refl }

taken_count : (bytes : List ℕ) (count : ℕ) (calls : List Write) → count ≤ length bytes → taken calls ≡ take count bytes
    → length (taken calls) ≡ count
taken_count bytes count calls fits so_far = ap length so_far ∙ length-take-le count bytes fits

-- the rest was asked for, and the host took so much of it
abbrev asked_once : (at : ℕ) (bytes : List ℕ) (count : ℕ) (old before new : List Write) (here : ℕ) (these : List ℕ) (took : Option ℕ)
    (after : ℕ) → count ≤ length bytes → here ≡ at + count → these ≡ drop count bytes → new ≡ Wrote here these took ∷ before
    → ((calls : List Write) → taken calls ≡ take count bytes
    → taken (Wrote here these took ∷ calls) ≡ take after bytes)
    → IsPutSoFar at bytes count old before → IsPutSoFar at bytes after old new
asked_once at bytes count old before new here these took after fits place rest is more so =
    let so_long = taken_count bytes count so.calls fits so.so_far in
    record {
      calls = Wrote here these took ∷ so.calls;
      log = is ∙ ap (λ (log : List Write). Wrote here these took ∷ log) so.log;
      puts = (place ∙ ap (λ n. at + n) (sym so_long), rest ∙ ap (λ n. drop n bytes) (sym so_long), so.puts);
      so_far = more so.calls so.so_far;
    }

pub some_taken : (at : ℕ) (bytes : List ℕ) (count more : ℕ) (old before new : List Write) (here : ℕ) (these : List ℕ)
    → count ≤ length bytes → here ≡ at + count → these ≡ drop count bytes → new ≡ Wrote here these (Some more) ∷ before
    → IsPutSoFar at bytes count old before → IsPutSoFar at bytes (count + more) old new
some_taken at bytes count more old before new here these fits place rest is so =
    asked_once at bytes count old before new here these (Some more) (count + more) fits place rest is
    (λ calls so_far. ap (λ (front : List ℕ). front ++ take more these) so_far
    ∙ ap (λ (left : List ℕ). take count bytes ++ take more left) rest ∙ sym (take-add count more bytes)) so

-- all were taken
pub whole_put : (at : ℕ) (bytes : List ℕ) (count : ℕ) (old new : List Write) → length bytes ≤ count → count ≤ length bytes
    → IsPutSoFar at bytes count old new → IsPut at bytes true old new
whole_put at bytes count old new over fits so =
    let so_long = taken_count bytes count so.calls fits so.so_far in
    let all : count ≡ length bytes = omega (arith, over, fits) in
    record {
      calls = so.calls;
      log = so.log;
      puts = so.puts;
      begun = so.so_far ∙ ap (λ n. take n bytes) (sym so_long);
      whole = λ done. so.so_far ∙ ap (λ n. take n bytes) all ∙ take-length bytes;
      refused = λ done. absurd (true≢false done);
    }

-- a beginning was taken, and the newest call took none of the rest, or there was none
part_put : (at : ℕ) (bytes : List ℕ) (count : ℕ) (old new : List Write) → count < length bytes
    → (so : IsPutSoFar at bytes count old new) → HasTakenNone so.calls ⊎ (2 ^ 64 ≤ at + count) → IsPut at bytes false old new
part_put at bytes count old new fits so why =
    let so_long = taken_count bytes count so.calls (omega (arith, fits)) so.so_far in
    record {
      calls = so.calls;
      log = so.log;
      puts = so.puts;
      begun = so.so_far ∙ ap (λ n. take n bytes) (sym so_long);
      whole = λ done. absurd (true≢false (sym done));
      refused = λ done. (
        subst (λ n. n < length bytes) (sym so_long) fits,
        subst (λ n. HasTakenNone so.calls ⊎ (2 ^ 64 ≤ at + n)) (sym so_long) why,
      );
    }

pub no_place : (at : ℕ) (bytes : List ℕ) (count : ℕ) (old new : List Write) → count < length bytes → 2 ^ 64 ≤ at + count
    → IsPutSoFar at bytes count old new → IsPut at bytes false old new
no_place at bytes count old new fits beyond so = part_put at bytes count old new fits so (inr beyond)

pub none_taken : (at : ℕ) (bytes : List ℕ) (count : ℕ) (old before new : List Write) (here : ℕ) (these : List ℕ)
    → count < length bytes → here ≡ at + count → these ≡ drop count bytes → new ≡ Wrote here these None ∷ before
    → IsPutSoFar at bytes count old before → IsPut at bytes false old new
none_taken at bytes count old before new here these fits place rest is so =
    part_put at bytes count old new fits
    (asked_once at bytes count old before new here these None count (omega (arith, fits)) place rest is (λ calls so_far. so_far) so)
    (inl tt)

pub zero_taken : (at : ℕ) (bytes : List ℕ) (count : ℕ) (old before new : List Write) (here : ℕ) (these : List ℕ)
    → count < length bytes → here ≡ at + count → these ≡ drop count bytes → (none : ℕ) → none ≡ 0
    → new ≡ Wrote here these (Some none) ∷ before → IsPutSoFar at bytes count old before → IsPut at bytes false old new
zero_taken at bytes count old before new here these fits place rest none zero is so =
    part_put at bytes count old new fits
    (asked_once at bytes count old before new here these (Some none) count (omega (arith, fits)) place rest is
    (λ calls so_far. ap (λ n. taken calls ++ take n these) zero ∙ append-nil (taken calls) ∙ so_far) so)
    (inl zero)

-- what is left from a place on
pub rest_from : (from next to : ℕ) (bytes : List ℕ) → from ≤ next
    → drop next (take to bytes) ≡ drop (next - from) (drop from (take to bytes))
rest_from from next to bytes ordered =
    ap (λ n. drop n (take to bytes)) (omega (arith, ordered)) ∙ sym (drop-drop (next - from) from (take to bytes))

pub part_length : (from to : ℕ) (bytes : List ℕ) → to ≤ length bytes → length (drop from (take to bytes)) ≡ to - from
part_length from to bytes there = length-drop from (take to bytes) ∙ ap (λ n. n - from) (length-take-le to bytes there)

taken_append : (calls old : List Write) → taken (calls ++ old) ≡ taken old ++ taken calls
taken_append [] old = sym (append-nil (taken old))
taken_append (Wrote at bytes (Some count) ∷ calls) old =
    ap (λ (front : List ℕ). front ++ take count bytes) (taken_append calls old)
    ∙ append_assoc (taken old) (taken calls) (take count bytes)
taken_append (Wrote at bytes None ∷ calls) old = taken_append calls old
taken_append (Synced done ∷ calls) old = taken_append calls old

put_taken : (at : ℕ) (bytes : List ℕ) (old new : List Write) → IsPut at bytes true old new → taken new ≡ taken old ++ bytes
put_taken at bytes old new put =
    ap taken put.log ∙ taken_append put.calls old ∙ ap (λ (front : List ℕ). taken old ++ front) (put.whole refl)

-- of a put that is done the host took each byte
pub put_and_synced_taken : (at : ℕ) (bytes : List ℕ) (waits done : Bool) (old new : List Write)
    → IsPutAndSynced at bytes waits done old new → IsTrue done → taken new ≡ taken old ++ bytes
put_and_synced_taken at bytes true true old new asked done = ap taken asked.2 ∙ put_taken at bytes old asked.0 asked.1
put_and_synced_taken at bytes false true old new asked done = put_taken at bytes old new asked
put_and_synced_taken at bytes waits false old new asked done = absurd (true≢false (sym done))
