-- A reader has read what came, whatever its form.
use Rattle.std.proofs.Common.{◌≡◌, ◌∙◌, ◌<◌, ℕ, Bool, false, if◌then◌else◌, List, [], ◌∷◌, ◌++◌, ℤ, Option, None, length, refl, sym, subst, ap, append-nil, append_assoc, arith}
use Rattle.std.proofs.lemmas.Bool.Decides.{nat_tests}
use Rattle.std.specs.Prelude.{Err, Ok, OnOk, option_map, Result}
use Rattle.item_text.specs.Items.{beginning, behind, read_bytes, reading, Reading, ReaderState}
use Rattle.item_text.proofs.Pieces.{read_bytes-added, read_bytes-append, read_bytes-behind}
use Rattle.item_bytes.specs.Bytes.{items_of, rest_of}
use Rattle.item_bytes.specs.Reader as eights
use Rattle.item_bytes.proofs.Pieces.{cut_so, items_pieces, reads_then}
use Rattle.kahn_net.specs.Laws.Prefixes.{prefix_of}
use Rattle.kahn_net.specs.Streams.{IsPrefix}
use Rattle.host_ports.specs.Forms.{fault_by, fault_in, IsReadAs, is_end, items_by, reader_by, read_text, state_in, with_end}
use Rattle.host_ports.specs.declared.fault.BadItem.TheVariants.{Cut}
use Rattle.host_ports.specs.declared.form.Form.{Form}
use Rattle.host_ports.specs.declared.form.Form.TheVariants.{Decimal, Binary}
use Rattle.host_ports.specs.declared.reader.Reader.TheVariants.{OfText, OfBytes}

-- a piece of some bytes isn't the end
pub not_end : (piece : List ℕ) → 0 < length piece → is_end piece ≡ false
not_end piece some = grind (arith, nat_tests)

-- what is read of a text from one place on
text_from : (more : List ℕ) (before : Reading) (old new : ReaderState) (items : List ℤ) → old ≡ state_in before
    → reading new items ≡ read_bytes more (reading old []) → read_bytes more before ≡ reading new (before.items ++ items)
text_from more before old new items stood read =
    ap (λ (state : ReaderState). read_bytes more (reading state before.items)) (sym stood)
    ∙ (read_bytes-added more old before.items ∙ ap (behind before.items) (sym read))

text_more : (came piece : List ℕ) → 0 < length piece → read_text (came ++ piece) (is_end piece) ≡ read_bytes piece (read_text came false)
text_more came piece some =
    ap (read_text (came ++ piece)) (not_end piece some)
    ∙ (ap (λ (all : List ℕ). read_bytes all (reading beginning [])) (append-nil (came ++ piece) ∙ ap (λ (first : List ℕ). first ++ piece) (sym (append-nil came)))
    ∙ read_bytes-append (came ++ []) piece (reading beginning []))

text_end : (came : List ℕ) → read_text (came ++ []) (is_end []) ≡ read_bytes (32 ∷ []) (read_text came false)
text_end came = read_bytes-append (came ++ []) (32 ∷ []) (reading beginning [])

text_is : (came piece : List ℕ) (new : ReaderState) (items : List ℤ)
    → read_text (came ++ piece) (is_end piece) ≡ reading new ((read_text came false).items ++ items) → IsReadAs Decimal came piece (OfText new) items
text_is came piece new items is =
    record { reader_is = ap (λ (r : Reading). OfText (state_in r)) (sym is); items_are = ap (λ (r : Reading). r.items) is }

-- the text of a piece
pub text_read : (form : Form) (came piece : List ℕ) (old new : ReaderState) (items : List ℤ) → 0 < length piece
    → reading new items ≡ read_bytes piece (reading old []) → OfText old ≡ reader_by form came false → IsReadAs form came piece (OfText new) items
text_read Decimal came piece old new items some read stood =
    let state : old ≡ state_in (read_text came false) = cc in
    text_is came piece new items (text_more came piece some ∙ text_from piece (read_text came false) old new items state read)
text_read Binary came piece old new items some read stood = absurd cc

-- its end
pub text_ended : (form : Form) (came : List ℕ) (old new : ReaderState) (items : List ℤ)
    → reading new items ≡ read_bytes (32 ∷ []) (reading old []) → OfText old ≡ reader_by form came false → IsReadAs form came [] (OfText new) items
text_ended Decimal came old new items read stood =
    let state : old ≡ state_in (read_text came false) = cc in
    text_is came [] new items (text_end came ∙ text_from (32 ∷ []) (read_text came false) old new items state read)
text_ended Binary came old new items read stood = absurd cc

-- the bytes of a piece
pub bytes_read : (form : Form) (came piece : List ℕ) (old new : eights.ReaderState) (items : List ℤ) → new ≡ eights.read_on old piece
    → items ≡ items_of (old.kept ++ piece) → OfBytes old ≡ reader_by form came false → IsReadAs form came piece (OfBytes new) items
bytes_read Decimal came piece old new items on read stood = absurd cc
bytes_read Binary came piece old new items on read stood =
    let state : old ≡ eights.read_on eights.beginning came = cc in
    record {
      reader_is = ap OfBytes (on ∙ (ap (λ (s : eights.ReaderState). eights.read_on s piece) state ∙ reads_then eights.beginning came piece));
      items_are = items_pieces came piece
          ∙ ap (λ (more : List ℤ). items_of came ++ more) (ap (λ (s : eights.ReaderState). items_of (s.kept ++ piece)) (sym state) ∙ sym read);
    }

-- their end
pub bytes_ended : (form : Form) (came : List ℕ) (old new : eights.ReaderState) (items : List ℤ) → new ≡ old → items ≡ []
    → OfBytes old ≡ reader_by form came false → IsReadAs form came [] (OfBytes new) items
bytes_ended Decimal came old new items on none stood = absurd cc
bytes_ended Binary came old new items on none stood =
    let state : old ≡ eights.read_on eights.beginning came = cc in
    record {
      reader_is = ap OfBytes (on ∙ (state ∙ ap (eights.read_on eights.beginning) (sym (append-nil came))));
      items_are = ap items_of (append-nil came) ∙ (sym (append-nil (items_of came)) ∙ ap (λ (more : List ℤ). items_of came ++ more) (sym none));
    }

-- a reader knows what is wrong with what came
pub told_by : (form : Form) (came : List ℕ) (ended : Bool) → fault_in (reader_by form came ended) ended ≡ fault_by form came ended
told_by Decimal came ended = refl
told_by Binary came ended = ap (λ (item : Option ℕ). if ended then option_map Cut item else None) (cut_so came)

-- ---- whatever comes, the items that came before are a beginning of all

text_grows : (more : List ℕ) (r : Reading) → IsPrefix r.items (read_bytes more r).items
text_grows more r =
    let none : Reading = record { token = r.token; line = r.line; items = []; fault = r.fault } in
    let same : behind r.items none ≡ r = ap (λ (items : List ℤ). record { token = r.token; line = r.line; items = items; fault = r.fault }) (append-nil r.items) in
    let read = ap (read_bytes more) (sym same) ∙ read_bytes-behind more r.items none in
    prefix_of (record { rest = (read_bytes more none).items; is = ap (λ (x : Reading). x.items) read })

pub grows : (form : Form) (came piece : List ℕ) (ended : Bool) → IsPrefix (items_by form came false) (items_by form (came ++ piece) ended)
grows Decimal came piece ended =
    let tail = if ended then 32 ∷ [] else [] in
    let all : with_end (came ++ piece) ended ≡ (came ++ []) ++ (piece ++ tail) =
    append_assoc came piece tail ∙ ap (λ (first : List ℕ). first ++ (piece ++ tail)) (sym (append-nil came)) in
    let read : read_text (came ++ piece) ended ≡ read_bytes (piece ++ tail) (read_text came false) =
    ap (λ (bytes : List ℕ). read_bytes bytes (reading beginning [])) all ∙ read_bytes-append (came ++ []) (piece ++ tail) (reading beginning []) in
    subst (λ (r : Reading). IsPrefix (read_text came false).items r.items) (sym read) (text_grows (piece ++ tail) (read_text came false))
grows Binary came piece ended = prefix_of (record { rest = items_of (rest_of came ++ piece); is = items_pieces came piece })

-- what follows from what holds of a success
pub so_where_ok : {T E A B : Type 0} (result : Result T E) → OnOk result A → (A → B) → OnOk result B
so_where_ok {T} {E} {A} {B} (Ok value) is so = so is
so_where_ok {T} {E} {A} {B} (Err fault) is so = tt

pub so_where_both : {T E A B C : Type 0} (result : Result T E) → OnOk result A → OnOk result B → (A → B → C) → OnOk result C
so_where_both {T} {E} {A} {B} {C} (Ok value) a b so = so a b
so_where_both {T} {E} {A} {B} {C} (Err fault) a b so = tt
