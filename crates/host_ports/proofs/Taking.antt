-- What came of a source last stands behind what came before.
use Rattle.std.proofs.Common.{◌≡◌, ◌≢◌, ◌∙◌, ◌==◌, ◌||◌, ℕ, Bool, true, false, if◌then◌else◌, List, ℤ, ◌∷◌, ◌++◌, refl, subst, sym, ap, ap₂, arith}
use Rattle.std.proofs.lemmas.Bool.Decides.{nat_tests}
use Rattle.std.specs.Prelude.{None, Option, Result, Ok, Err, is_some}
use Rattle.host.specs.Requests.{Request, Took}
use Rattle.host.specs.Sources.{has_ended, taken_from}
use Rattle.host.specs.declared.fault.HostFault.{HostFault}
use Rattle.kahn_net.specs.Laws.Prefixes.{prefix_refl}
use Rattle.kahn_net.specs.Streams.{IsPrefix}
use Rattle.host_ports.specs.Forms.{fault_by, fault_in, is_end, IsReadAs, items_by, reader_by}
use Rattle.host_ports.specs.Ports.{ended_well, fault_from, IsPortFault, IsReadOn, items_from, PortStands}
use Rattle.host_ports.specs.declared.fault.BadItem.{BadItem}
use Rattle.host_ports.specs.declared.fault.PortFault.{PortFault}
use Rattle.host_ports.specs.declared.fault.PortFault.TheVariants.{NoMemory}
use Rattle.host_ports.specs.declared.form.Form.{Form}
use Rattle.host_ports.specs.declared.port.Port.{Port}
use Rattle.host_ports.proofs.Reading.{grows, told_by}

same_number : (input : ℕ) → (input == input) ≡ true
same_number input = grind (arith, nat_tests)

-- a piece stands behind those before
came_more : (input : ℕ) (e : List Request) (piece : List ℕ) → taken_from input (Took input (Ok piece) ∷ e) ≡ taken_from input e ++ piece
came_more input e piece = rw (same_number input) refl

or_false : (b : Bool) → (b || false) ≡ b
or_false true = refl
or_false false = refl

-- and is the end, or isn't
ended_so : (input : ℕ) (e : List Request) (piece : List ℕ) → has_ended input e ≡ false
    → has_ended input (Took input (Ok piece) ∷ e) ≡ is_end piece
ended_so input e piece opened = rw (same_number input, opened) (or_false (is_end piece))

items_now : (form : Form) (input : ℕ) (e : List Request) (piece : List ℕ) → has_ended input e ≡ false
    → items_from form input (Took input (Ok piece) ∷ e) ≡ items_by form (taken_from input e ++ piece) (is_end piece)
items_now form input e piece opened = ap₂ (items_by form) (came_more input e piece) (ended_so input e piece opened)

-- it came to its end, and all of it was read
none_well : (fault : Option BadItem) (ended : Bool) → fault ≡ None → ended ≡ true → (if is_some fault then false else ended) ≡ true
none_well fault ended none is = rw (none, is) refl

pub well : (form : Form) (input : ℕ) (e : List Request) → has_ended input e ≡ true → fault_from form input e ≡ None → ended_well form input e ≡ true
well form input e ended none = none_well (fault_from form input e) (has_ended input e) none ended

-- what a source's reader finds is what the log has
pub told_from : {S : Type 0} (form : Form) (e : List Request) (input : ℕ) (port : Port S) → PortStands form e input port → port.is_lost ≡ false
    → fault_in port.reader port.has_ended ≡ fault_from form input e
told_from {S} form e input port stands kept =
    ap₂ fault_in (stands.read kept) stands.ended ∙ told_by form (taken_from input e) (has_ended input e)

-- a source that isn't lost is read on
pub read_on : {S : Type 0} (form : Form) (e now : List Request) (input : ℕ) (piece : List ℕ) (old new : Port S) (items : List ℤ) (more : Bool)
    → now ≡ Took input (Ok piece) ∷ e → PortStands form e input old → old.has_ended ≡ false → old.is_lost ≡ false
    → new.has_ended ≡ is_end piece → new.is_lost ≡ false
    → ((form : Form) (came : List ℕ) → old.reader ≡ reader_by form came false → IsReadAs form came piece new.reader items)
    → (more ≡ false → (is_end piece ≡ true) × (fault_in new.reader new.has_ended ≡ None)) → IsReadOn form e now input new items (Ok more)
read_on {S} form e now input piece old new items more asked stands opened kept ended stays read ends =
    let still : has_ended input e ≡ false = sym stands.ended ∙ opened in
    let stood : old.reader ≡ reader_by form (taken_from input e) false = stands.read kept ∙ ap (reader_by form (taken_from input e)) still in
    let is = read form (taken_from input e) stood in
    let stand : PortStands form (Took input (Ok piece) ∷ e) input new = record {
      ended = ended ∙ sym (ended_so input e piece still);
      read = λ here. is.reader_is ∙ sym (ap₂ (reader_by form) (came_more input e piece) (ended_so input e piece still));
    } in
    subst (λ (after : List Request). IsReadOn form e after input new items (Ok more)) (sym asked) (record {
      stands = stand;
      came = items_now form input e piece still
          ∙ (is.items_are ∙ ap (λ (closed : Bool). items_by form (taken_from input e) closed ++ items) (sym still));
      lost = tt;
      kept = tt;
      end = λ no. well form input (Took input (Ok piece) ∷ e) (ended_so input e piece still ∙ (ends no).0)
          (sym (told_from form (Took input (Ok piece) ∷ e) input new stand stays) ∙ (ends no).1);
      failed = tt;
    })

items_grow : (form : Form) (input : ℕ) (e : List Request) (piece : List ℕ) → has_ended input e ≡ false
    → IsPrefix (items_from form input e) (items_from form input (Took input (Ok piece) ∷ e))
items_grow form input e piece opened =
    rw (items_now form input e piece opened, opened) (grows form (taken_from input e) piece (is_end piece))

-- one that is lost stands to the log as well
pub read_lost : {S : Type 0} (form : Form) (e now : List Request) (input : ℕ) (piece : List ℕ) (old new : Port S) (items : List ℤ) (fault : PortFault)
    → now ≡ Took input (Ok piece) ∷ e → PortStands form e input old → old.has_ended ≡ false → new.has_ended ≡ is_end piece
    → new.is_lost ≡ true → fault ≡ NoMemory → IsReadOn form e now input new items (Err fault)
read_lost {S} form e now input piece old new items fault asked stands opened ended lost told =
    let still : has_ended input e ≡ false = sym stands.ended ∙ opened in
    subst (λ (after : List Request). IsReadOn form e after input new items (Err fault)) (sym asked) (record {
      stands = record {
        ended = ended ∙ sym (ended_so input e piece still);
        read = λ here. absurd cc;
      };
      came = tt;
      lost = items_grow form input e piece still;
      kept = λ other. absurd (other told);
      end = tt;
      failed = rw told tt;
    })

-- and so does one that the host couldn't read
pub unread : {S : Type 0} (form : Form) (e now : List Request) (input : ℕ) (refusal : HostFault) (port : Port S) (items : List ℤ) (fault : PortFault)
    → now ≡ Took input (Err refusal) ∷ e → PortStands form e input port → IsPortFault form now fault
    → IsReadOn form e now input port items (Err fault)
unread {S} form e now input refusal port items fault asked stands told =
    record {
      stands = rw asked (record { ended = stands.ended; read = stands.read });
      came = tt;
      lost = rw asked (prefix_refl (items_from form input e));
      kept = rw asked (λ other. refl);
      end = tt;
      failed = told;
    }

-- ---- nothing else came

other_number : (input other : ℕ) → other ≢ input → (other == input) ≡ false
other_number input other apart = grind (arith, nat_tests)

pub other_taken : (input other : ℕ) (e : List Request) (answer : Result (List ℕ) HostFault) → other ≢ input
    → taken_from other (Took input answer ∷ e) ≡ taken_from other e
other_taken input other e (Ok piece) apart = rw (other_number input other apart) refl
other_taken input other e (Err fault) apart = refl

pub other_end : (input other : ℕ) (e : List Request) (answer : Result (List ℕ) HostFault) → other ≢ input
    → has_ended other (Took input answer ∷ e) ≡ has_ended other e
other_end input other e (Ok piece) apart = rw (other_number input other apart) refl
other_end input other e (Err fault) apart = refl

-- so what follows from what came and the end is the same
pub other_same : {A : Type 0} (f : List ℕ → Bool → A) (input other : ℕ) (e : List Request) (answer : Result (List ℕ) HostFault) → other ≢ input
    → f (taken_from other (Took input answer ∷ e)) (has_ended other (Took input answer ∷ e)) ≡ f (taken_from other e) (has_ended other e)
other_same {A} f input other e answer apart = ap₂ f (other_taken input other e answer apart) (other_end input other e answer apart)

pub other_well : (form : Form) (input other : ℕ) (e : List Request) (answer : Result (List ℕ) HostFault) → other ≢ input
    → ended_well form other (Took input answer ∷ e) ≡ ended_well form other e
other_well form input other e answer apart =
    other_same (λ (came : List ℕ) (ended : Bool). if is_some (fault_by form came ended) then false else ended) input other e answer apart

pub other_items : (form : Form) (input other : ℕ) (e : List Request) (answer : Result (List ℕ) HostFault) → other ≢ input
    → items_from form other (Took input answer ∷ e) ≡ items_from form other e
other_items form input other e answer apart = other_same (items_by form) input other e answer apart
