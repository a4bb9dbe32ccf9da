-- Lines that are put, and what stands in the file then.
use Rattle.std.proofs.Common.{◌≡◌, inl, inr, min, ℕ, ◌+◌, ◌≤◌, ℤ, Bool, true, false, List, [], ◌∷◌, ◌++◌, length, take, drop, arith}
use Rattle.std.proofs.Common.{refl, sym, ◌∙◌, ap, subst, append_assoc}
use Rattle.std.specs.Prelude.{not, ◌&&◌, ◌||◌, ◌==◌, ◌^◌, ◌⊎◌, Option, Some, None, is_some, is_ok, Result, Err, IsOk, if◌then◌else◌}
use Rattle.outlet.specs.declared.fault.OutletFault.{OutletFault}
use Rattle.outlet.specs.declared.fault.OutletFault.TheVariants.{NoMemory, Failed}
use Rattle.std.proofs.Math.Seq.{take-length, take-append-add}
use Rattle.std.proofs.Math.ListN.{drop_of_length-le}
use Rattle.std.proofs.lemmas.Bool.{eqb-true}
use Rattle.std.proofs.lemmas.List.{length-append, append-nil, take-append-drop, take-append-le, drop-append-le, take_min}
use Rattle.std.specs.Fmt.{signed_decimal}
use Rattle.output_file.specs.Lines.{item_line, lines_of, AreItems}
use Rattle.host.specs.LineRequests.{Request, Put, Synced, MayBeLeft, bytes_put, has_failed, go_on_from, with_bytes, content_after}
use Rattle.output_file.specs.Writing.{IsWritten, OutputView, HasSameItems, Appends}
use Rattle.output_file.proofs.Lining.{lines_append, BeginsSo, any_beginning}

both_true : (a b : Bool) → (a && b) ≡ true → (a ≡ true) × (b ≡ true)
both_true true b is = (refl, is)
both_true false b is = absurd (cc)

-- bytes that are put right behind the content
behind : (content bytes : List ℕ) (at : ℕ) → at ≡ length content → with_bytes content at bytes ≡ content ++ bytes
behind content bytes at e =
    let front : take at content ≡ content = ap (λ (n : ℕ). take n content) e ∙ take-length content in
    let rest : drop (at + length bytes) content ≡ [] = drop_of_length-le content (omega (arith, e)) in
    ap (λ (xs : List ℕ). xs ++ bytes ++ drop (at + length bytes) content) front
    ∙ ap (λ (xs : List ℕ). content ++ bytes ++ xs) rest
    ∙ append-nil (content ++ bytes)

-- a file that did what it was asked has the bytes that were put behind what it held
pub put_behind : (content : List ℕ) (asked : List Request) → go_on_from (length content) asked ≡ true
    → content_after content asked ≡ content ++ bytes_put asked
put_behind content [] on = sym (append-nil content)
put_behind content (Put at bytes done ∷ earlier) on =
    let one = both_true ((at == length content + length (bytes_put earlier)) && not (has_failed earlier))
    (go_on_from (length content) earlier) on in
    let two = both_true (at == length content + length (bytes_put earlier)) (not (has_failed earlier)) one.0 in
    let place : at ≡ length content + length (bytes_put earlier) = eqb-true _ _ two.0 in
    let before = put_behind content earlier one.1 in
    ap (λ (xs : List ℕ). with_bytes xs at bytes) before
    ∙ behind (content ++ bytes_put earlier) bytes at (place ∙ sym (length-append content (bytes_put earlier)))
    ∙ append_assoc content (bytes_put earlier) bytes
put_behind content (Synced done ∷ earlier) on = put_behind content earlier on

-- one item's line later
pub one_line_more : (start : ℕ) (lines : List ℕ) (asked : List Request) (end next : ℕ) (block after digits : List ℕ)
    (broken : Bool) (item : ℤ) → IsWritten start lines asked end block broken
    → digits ≡ signed_decimal item → after ≡ block ++ digits ++ 10 ∷ [] → next ≡ end + (length digits + 1)
    → IsWritten start (lines ++ item_line item) asked next after broken
one_line_more start lines asked end next block after digits broken item was is added ends = record {
  put = ap (λ (xs : List ℕ). bytes_put asked ++ xs) added
      ∙ ap (λ (xs : List ℕ). bytes_put asked ++ xs) (append_assoc block digits (10 ∷ []))
      ∙ sym (append_assoc (bytes_put asked) block (digits ++ 10 ∷ []))
      ∙ ap (λ (xs : List ℕ). xs ++ (digits ++ 10 ∷ [])) was.put
      ∙ ap (λ (xs : List ℕ). lines ++ (xs ++ 10 ∷ [])) is;
  order = was.order;
  ends = omega (
    arith,
    ends,
    was.ends,
    ap length is,
    length-append lines (item_line item),
    length-append (signed_decimal item) (10 ∷ []),
  );
  failed = was.failed;
}

-- the lines of the held items, those that were put and those that wait are the lines of all items
pub put_or_waiting : (items : List ℤ) (held : ℕ) (asked : List Request) (end : ℕ) (block : List ℕ) (broken : Bool)
    → IsWritten (length (lines_of (take held items))) (lines_of (drop held items)) asked end block broken
    → lines_of (take held items) ++ bytes_put asked ++ block ≡ lines_of items
put_or_waiting items held asked end block broken was =
    append_assoc (lines_of (take held items)) (bytes_put asked) block
    ∙ ap (λ (xs : List ℕ). lines_of (take held items) ++ xs) was.put
    ∙ sym (lines_append (take held items) (drop held items))
    ∙ ap lines_of (take-append-drop held items)

-- where nothing waits, all lines were put
pub all_put : (items : List ℤ) (held : ℕ) (asked : List Request) (end : ℕ) (block : List ℕ) (broken : Bool)
    → IsWritten (length (lines_of (take held items))) (lines_of (drop held items)) asked end block broken → block ≡ []
    → lines_of (take held items) ++ bytes_put asked ≡ lines_of items
all_put items held asked end block broken was empty =
    sym (append-nil (lines_of (take held items) ++ bytes_put asked))
    ∙ ap (λ (xs : List ℕ). lines_of (take held items) ++ bytes_put asked ++ xs) (sym empty)
    ∙ put_or_waiting items held asked end block broken was

-- a beginning of these bytes
record Begins (left all : List ℕ) : Type 0 where
  pub size : ℕ
  pub front : left ≡ take size all

begins_more : (left all more : List ℕ) → Begins left all → Begins left (all ++ more)
begins_more left all more b =
    let size : ℕ = min b.size (length all) in
    record {
      size = size;
      front = b.front ∙ sym (take_min b.size all) ∙ sym (take-append-le size all more (omega arith));
    }

-- what a kill leaves is a beginning of what was to be there
left_begins : (content : List ℕ) (asked : List Request) (left : List ℕ) → go_on_from (length content) asked ≡ true
    → MayBeLeft content asked left → Begins left (content ++ bytes_put asked)
left_begins content [] left on is = record {
  size = length content;
  front = is ∙ sym (take-length content) ∙ ap (take (length content)) (sym (append-nil content));
}
left_begins content (Put at bytes done ∷ earlier) left on (inl before) =
    let one = both_true ((at == length content + length (bytes_put earlier)) && not (has_failed earlier))
    (go_on_from (length content) earlier) on in
    subst (Begins left) (append_assoc content (bytes_put earlier) bytes)
    (begins_more left (content ++ bytes_put earlier) bytes (left_begins content earlier left one.1 before))
left_begins content (Put at bytes done ∷ earlier) left on (inr cut) =
    let one = both_true ((at == length content + length (bytes_put earlier)) && not (has_failed earlier))
    (go_on_from (length content) earlier) on in
    let two = both_true (at == length content + length (bytes_put earlier)) (not (has_failed earlier)) one.0 in
    let place : at ≡ length content + length (bytes_put earlier) = eqb-true _ _ two.0 in
    let all : List ℕ = content ++ bytes_put earlier in
    record {
      size = length all + cut.0;
      front = cut.1
          ∙ ap (λ (xs : List ℕ). with_bytes xs at (take cut.0 bytes)) (put_behind content earlier one.1)
          ∙ behind all (take cut.0 bytes) at (place ∙ sym (length-append content (bytes_put earlier)))
          ∙ sym (take-append-add all bytes cut.0)
          ∙ ap (take (length all + cut.0)) (append_assoc content (bytes_put earlier) bytes);
    }
left_begins content (Synced done ∷ earlier) left on before = left_begins content earlier left on before

-- and so it reads as a beginning of the items
pub left_reads : (items : List ℤ) (held : ℕ) (asked : List Request) (waiting left : List ℕ) → AreItems items
    → go_on_from (length (lines_of (take held items))) asked ≡ true
    → lines_of (take held items) ++ bytes_put asked ++ waiting ≡ lines_of items
    → MayBeLeft (lines_of (take held items)) asked left → BeginsSo items left
left_reads items held asked waiting left each on all may =
    let part = subst (Begins left) all
    (begins_more left (lines_of (take held items) ++ bytes_put asked) waiting
    (left_begins (lines_of (take held items)) asked left on may)) in
    subst (BeginsSo items) (sym part.front) (any_beginning items part.size each)

-- what fits is added
pub with_room : {A E : Type 0} (r : Result A E) (now more old : List ℕ) → IsOk r
    → now ≡ (if is_ok r then more else old) → now ≡ more
with_room r now more old ok e = e ∙ ap (λ (b : Bool). if b then more else old) ok

-- what it is not to refuse
pub not_refusing : (broken : Bool) (difference : Option ℕ) → (broken || is_some difference) ≡ false
    → (broken ≡ false) × (difference ≡ None)
not_refusing false None is = (refl, refl)
not_refusing false (Some d) is = absurd (cc)
not_refusing true d is = absurd (cc)

-- one item more behind those held
pub written_more : (items now : List ℤ) (held : ℕ) (item : ℤ) (asked : List Request) (end : ℕ) (block : List ℕ)
    (broken : Bool) → held ≤ length items → now ≡ items ++ item ∷ []
    → IsWritten (length (lines_of (take held items))) (lines_of (drop held items) ++ item_line item) asked end block broken
    → IsWritten (length (lines_of (take held now))) (lines_of (drop held now)) asked end block broken
written_more items now held item asked end block broken le pushed was =
    let front : take held items ≡ take held now =
    sym (take-append-le held items (item ∷ []) le) ∙ ap (take held) (sym pushed) in
    let back : lines_of (drop held items) ++ item_line item ≡ lines_of (drop held now) =
    ap (λ (xs : List ℕ). lines_of (drop held items) ++ xs) (sym (append-nil (item_line item)))
    ∙ sym (lines_append (drop held items) (item ∷ []))
    ∙ ap lines_of (sym (drop-append-le held items (item ∷ []) le) ∙ ap (drop held) (sym pushed)) in
    subst (λ (xs : List ℕ). IsWritten (length (lines_of (take held now))) xs asked end block broken) back
    (subst (λ (xs : List ℤ). IsWritten (length (lines_of xs)) (lines_of (drop held items) ++ item_line item) asked end block
    broken) front was)

-- the bytes of all lines
pub all_bytes : (items : List ℤ) (held : ℕ) (asked : List Request) (end : ℕ) (block : List ℕ) (broken : Bool)
    → IsWritten (length (lines_of (take held items))) (lines_of (drop held items)) asked end block broken
    → end ≡ length (lines_of items)
all_bytes items held asked end block broken was = was.ends
    ∙ sym (length-append (lines_of (take held items)) (lines_of (drop held items)))
    ∙ ap length (sym (lines_append (take held items) (drop held items)))
    ∙ ap (λ (xs : List ℤ). length (lines_of xs)) (take-append-drop held items)

-- a refusal of what was to be appended
pub refused_append : (old new : OutputView) (item : ℤ) (fault : OutletFault) → (fault ≡ NoMemory → new ≡ old)
    → HasSameItems old new
    → (fault ≡ Failed
    → (new.broken ≡ true) ⊎ (2 ^ 64 ≤ length (lines_of old.items) + length (item_line item)))
    → Appends old item (Err fault) new
refused_append old new item NoMemory memory same cause = memory refl
refused_append old new item Failed memory same cause = (same, cause refl)

-- outlets that are seen alike
pub same_output : {items others : List ℤ} {held count : ℕ} {difference : Option ℕ} {differing : Option ℤ} {broken other : Bool}
    {block before : List ℕ} {asked earlier : List Request} → items ≡ others → broken ≡ other → block ≡ before
    → asked ≡ earlier
    → ◌≡◌ {A = OutputView} (record {
      items = items;
      held = held;
      count = count;
      difference = difference;
      differing = differing;
      broken = broken;
      block = block;
      asked = asked;
    }) (record {
      items = others;
      held = held;
      count = count;
      difference = difference;
      differing = differing;
      broken = other;
      block = before;
      asked = earlier;
    })
same_output a b c d = cc

-- what is written for items is written for the same items
pub written_alike : (items now : List ℤ) (held : ℕ) (asked : List Request) (end : ℕ) (block : List ℕ) (broken : Bool)
    → now ≡ items
    → IsWritten (length (lines_of (take held items))) (lines_of (drop held items)) asked end block broken
    → IsWritten (length (lines_of (take held now))) (lines_of (drop held now)) asked end block broken
written_alike items now held asked end block broken same was =
    subst (λ (xs : List ℤ). IsWritten (length (lines_of (take held xs))) (lines_of (drop held xs)) asked end block broken)
    (sym same) was
