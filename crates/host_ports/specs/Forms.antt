-- How items are spelled outside, and what the bytes say that came of a source.
use Rattle.std.specs.Prelude.{◌≡◌, ℕ, ℤ, Bool, false, ◌==◌, if◌then◌else◌, List, [], ◌∷◌, ◌++◌, Option, None, length, option_map}
use Rattle.item_text.specs.Items.{beginning, read_bytes, reading, ReaderState, Reading}
use Rattle.item_text.specs.Faults as text_fault
use Rattle.item_bytes.specs.Bytes.{cut_in, items_of}
use Rattle.item_bytes.specs.Reader as eights
use Rattle.host_ports.specs.declared.fault.BadItem.{BadItem}
use Rattle.host_ports.specs.declared.fault.BadItem.TheVariants.{InText, Cut}
use Rattle.host_ports.specs.declared.form.Form.{Form}
use Rattle.host_ports.specs.declared.form.Form.TheVariants.{Decimal, Binary}
use Rattle.host_ports.specs.declared.reader.Reader.{Reader}
use Rattle.host_ports.specs.declared.reader.Reader.TheVariants.{OfText, OfBytes}

-- decimal text that came: its end, where it ended, is read as a space
abbrev pub with_end : List ℕ → Bool → List ℕ
with_end came ended = came ++ (if ended then 32 ∷ [] else [])

-- how far it is read
abbrev pub read_text : List ℕ → Bool → Reading
read_text came ended = read_bytes (with_end came ended) (reading beginning [])

-- the items of what came
abbrev pub items_by : Form → List ℕ → Bool → List ℤ
items_by Decimal came ended = (read_text came ended).items
items_by Binary came ended = items_of came

-- what is wrong with it: text that no item has there, or bytes that end within an item
abbrev pub fault_by : Form → List ℕ → Bool → Option BadItem
fault_by Decimal came ended = option_map InText (read_text came ended).fault
fault_by Binary came ended = if ended then option_map Cut (cut_in came) else None

-- ---- a reader

abbrev pub state_in : Reading → ReaderState
state_in r = record { token = r.token; line = r.line; fault = r.fault }

-- one that has read what came
abbrev pub reader_by : Form → List ℕ → Bool → Reader
reader_by Decimal came ended = OfText (state_in (read_text came ended))
reader_by Binary came ended = OfBytes (eights.read_on eights.beginning came)

-- what a reader finds wrong with what came, which has ended or hasn't
abbrev pub fault_in : Reader → Bool → Option BadItem
fault_in (OfText reader) ended = option_map InText reader.fault
fault_in (OfBytes reader) ended = if ended then option_map Cut (eights.cut_of reader) else None

-- nothing comes any more
abbrev pub is_end : List ℕ → Bool
is_end piece = length piece == 0

-- A reader has read a piece more, or the end, and these items with it.
pub record IsReadAs (form : Form) (came piece : List ℕ) (reader : Reader) (items : List ℤ) : Type 0 where
  pub reader_is : reader ≡ reader_by form (came ++ piece) (is_end piece)
  pub items_are : items_by form (came ++ piece) (is_end piece) ≡ items_by form came false ++ items

-- the number of a refusal
abbrev pub bad_number : BadItem → ℕ
bad_number (InText fault) = text_fault.number_of fault
bad_number (Cut item) = 30
