-- One source was read on, and the others stand as they did.
use Rattle.std.proofs.Common.{◌≡◌, ◌≢◌, ◌<◌, ◌∙◌, ◌⊎◌, inl, inr, ⊎_elim, ℕ, zero, suc, Bool, true, false, List, [], ◌∷◌, Option, Some, None, length, refl, sym, ap, arith}
use Rattle.std.proofs.lemmas.Option.{slice_get_read}
use Rattle.std.specs.Prelude.{slice_get, slice_set, get_or, if◌then◌else◌, is_some, IfOk, IfSome, Result, Ok, Err}
use Rattle.host.specs.Requests.{Request, Took}
use Rattle.host.specs.Sources.{has_ended}
use Rattle.host.specs.declared.fault.HostFault.{HostFault}
use Rattle.host_ports.proofs.Taking.{other_end, other_items, other_same, other_well, told_from, well}
use Rattle.host_ports.specs.Forms.{reader_by}
use Rattle.host_ports.specs.Ports.{ended_well, has_source, HaveTheSame, is_at_end, IsFaultOf, IsOpenOrNot, IsPortFault, items_from, PortIsFor, PortsStand, fault_from}
use Rattle.host_ports.specs.declared.fault.BadItem.{BadItem}
use Rattle.host_ports.specs.declared.form.Form.{Form}
use Rattle.host_ports.specs.declared.fault.PortFault.{PortFault}
use Rattle.host_ports.specs.declared.port.Port.{Port}

-- the slot of an input
pub slot_is : {S : Type 0} (ports : List (Option (Port S))) (number input count : ℕ) (slot : Option (Port S)) → number ≡ input
    → count ≡ length ports → number < count → slot ≡ get_or ports number slot → slice_get ports input ≡ Some slot
slot_is {S} ports number input count slot same all few is =
    rw (← same) (slice_get_read ports count number slot all few is)

-- an input whose source has no more, or that has none, is at its end
pub at_end_by : {S : Type 0} (form : Form) (source_number : S → ℕ) (e : List Request) (ports : List (Option (Port S))) (input : ℕ)
    (slot : Option (Port S)) → slice_get ports input ≡ Some slot → PortsStand form source_number e ports → IsOpenOrNot false slot
    → is_at_end (slice_get ports input) (ended_well form input e) ≡ true
at_end_by {S} form source_number e ports input None here stand is = rw here refl
at_end_by {S} form source_number e ports input (Some port) here stand is =
    let stands = (stand input port here).stands in
    rw here (well form input e (sym stands.ended ∙ is.0) (sym (told_from form e input port stands is.1) ∙ is.2))

-- one that may have more isn't
closed_or : (fault : Option BadItem) (ended : Bool) → ended ≡ false → (if is_some fault then false else ended) ≡ false
closed_or None ended opened = opened
closed_or (Some fault) ended opened = refl

open_by : (form : Form) (input : ℕ) (e : List Request) → has_ended input e ≡ false → ended_well form input e ≡ false
open_by form input e opened = closed_or (fault_from form input e) (has_ended input e) opened

pub not_at_end : {S : Type 0} (form : Form) (source_number : S → ℕ) (e : List Request) (ports : List (Option (Port S))) (input : ℕ) (port : Port S)
    → slice_get ports input ≡ Some (Some port) → PortsStand form source_number e ports → port.has_ended ≡ false
    → is_at_end (slice_get ports input) (ended_well form input e) ≡ false
not_at_end {S} form source_number e ports input port here stand opened =
    rw here (open_by form input e (sym (stand input port here).stands.ended ∙ opened))

-- why it can't be read on
pub fault_by : {S : Type 0} (form : Form) (source_number : S → ℕ) (e : List Request) (ports : List (Option (Port S))) (input : ℕ)
    (slot : Option (Port S)) (fault : PortFault) → slice_get ports input ≡ Some slot → PortsStand form source_number e ports → slot ≢ None
    → IfSome slot (λ port. IsFaultOf input port fault) → IsPortFault form e fault
fault_by {S} form source_number e ports input None fault here stand some is = absurd (some refl)
fault_by {S} form source_number e ports input (Some port) fault here stand some is = is form e (stand input port here).stands

-- ---- a slot is filled anew

set_at : {A : Type 0} (xs : List A) (place : ℕ) (old new : A) → slice_get xs place ≡ Some old → slice_get (slice_set xs place new) place ≡ Some new
set_at {A} [] place old new here = absurd cc
set_at {A} (x ∷ xs) zero old new here = refl
set_at {A} (x ∷ xs) (suc place) old new here = set_at xs place old new here

pub set_apart : {A : Type 0} (xs : List A) (place k : ℕ) (new : A) → k ≢ place → slice_get (slice_set xs place new) k ≡ slice_get xs k
set_apart {A} [] place k new apart = refl
set_apart {A} (x ∷ xs) zero zero new apart = absurd (apart refl)
set_apart {A} (x ∷ xs) zero (suc k) new apart = refl
set_apart {A} (x ∷ xs) (suc place) zero new apart = refl
set_apart {A} (x ∷ xs) (suc place) (suc k) new apart = set_apart xs place k new (λ same. apart (ap suc same))

-- what is in a slot that was emptied and filled
pub refilled_at : {A : Type 0} (xs : List A) (place : ℕ) (old none new : A) → slice_get xs place ≡ Some old
    → slice_get (slice_set (slice_set xs place none) place new) place ≡ Some new
refilled_at {A} xs place old none new here = set_at (slice_set xs place none) place none new (set_at xs place old none here)

pub refilled_apart : {A : Type 0} (xs : List A) (place k : ℕ) (none new : A) → k ≢ place
    → slice_get (slice_set (slice_set xs place none) place new) k ≡ slice_get xs k
refilled_apart {A} xs place k none new apart = set_apart (slice_set xs place none) place k new apart ∙ set_apart xs place k none apart

other_stands : {S : Type 0} (form : Form) (source_number : S → ℕ) (e : List Request) (input other : ℕ) (answer : Result (List ℕ) HostFault) (port : Port S)
    → other ≢ input → PortIsFor form source_number e other port → PortIsFor form source_number (Took input answer ∷ e) other port
other_stands {S} form source_number e input other answer port apart is =
    record {
      number = is.number;
      stands = record {
        ended = is.stands.ended ∙ sym (other_end input other e answer apart);
        read = λ kept. is.stands.read kept ∙ sym (other_same (reader_by form) input other e answer apart);
      };
    }

less : {m n : ℕ} → suc m ≡ suc n → m ≡ n
less {m} {n} same = omega (arith, same)

pub same_or : (m n : ℕ) → (m ≡ n) ⊎ (m ≢ n)
same_or zero zero = inl refl
same_or zero (suc n) = inr (λ same. absurd (omega (arith, same)))
same_or (suc m) zero = inr (λ same. absurd (omega (arith, same)))
same_or (suc m) (suc n) = ⊎_elim (λ same. inl (ap suc same)) (λ other. inr (λ same. other (less same))) (same_or m n)

by_place : {S : Type 0} (form : Form) (source_number : S → ℕ) (e : List Request) (ports : List (Option (Port S))) (input : ℕ) (old new : Port S)
    (answer : Result (List ℕ) HostFault) → slice_get ports input ≡ Some (Some old) → PortsStand form source_number e ports
    → PortIsFor form source_number (Took input answer ∷ e) input new → (k : ℕ) (port : Port S)
    → slice_get (slice_set (slice_set ports input None) input (Some new)) k ≡ Some (Some port)
    → (k ≡ input) ⊎ (k ≢ input) → PortIsFor form source_number (Took input answer ∷ e) k port
by_place {S} form source_number e ports input old new answer here stand is k port there (inl same) =
    let at : slice_get (slice_set (slice_set ports input None) input (Some new)) input ≡ Some (Some port) = rw same at there in
    let filled = refilled_at ports input (Some old) None (Some new) here in
    let one : new ≡ port = cc in
    rw (same, ← one) is
by_place {S} form source_number e ports input old new answer here stand is k port there (inr apart) =
    other_stands form source_number e input k answer port apart
    (stand k port (sym (refilled_apart ports input k None (Some new) apart) ∙ there))

pub stand_on : {S : Type 0} (form : Form) (source_number : S → ℕ) (e : List Request) (ports : List (Option (Port S))) (input : ℕ) (old new : Port S)
    (answer : Result (List ℕ) HostFault) → slice_get ports input ≡ Some (Some old) → PortsStand form source_number e ports
    → PortIsFor form source_number (Took input answer ∷ e) input new
    → PortsStand form source_number (Took input answer ∷ e) (slice_set (slice_set ports input None) input (Some new))
stand_on {S} form source_number e ports input old new answer here stand is = λ k port there.
    by_place form source_number e ports input old new answer here stand is k port there (same_or k input)

-- the input has its source still, and so have the others
given_at : {S : Type 0} (given ports : List (Option (Port S))) (input : ℕ) (old new : Port S) → slice_get ports input ≡ Some (Some old)
    → HaveTheSame given ports → (k : ℕ) → (k ≡ input) ⊎ (k ≢ input)
    → has_source (slice_get (slice_set (slice_set ports input None) input (Some new)) k) ≡ has_source (slice_get given k)
given_at {S} given ports input old new here same k (inl is) =
    let filled = refilled_at ports input (Some old) None (Some new) here in
    rw (is, filled) (sym (ap has_source here) ∙ same input)
given_at {S} given ports input old new here same k (inr apart) =
    rw (refilled_apart ports input k None (Some new) apart) (same k)

pub given_on : {S : Type 0} (given ports : List (Option (Port S))) (input : ℕ) (old new : Port S) → slice_get ports input ≡ Some (Some old)
    → HaveTheSame given ports → HaveTheSame given (slice_set (slice_set ports input None) input (Some new))
given_on {S} given ports input old new here same = λ k. given_at given ports input old new here same k (same_or k input)

-- ---- what is told of the input, and of the others

pub end_on : {S : Type 0} (slot : Option (Option (Port S))) (port : Port S) (ended : Bool) (result : Result Bool PortFault)
    → slot ≡ Some (Some port) → IfOk result (λ more. more ≡ false → ended ≡ true)
    → IfOk result (λ more. more ≡ false → is_at_end slot ended ≡ true)
end_on {S} slot port ended (Ok more) here is = λ no. rw here (is no)
end_on {S} slot port ended (Err fault) here is = tt

pub others_on : {S : Type 0} (form : Form) (e : List Request) (ports : List (Option (Port S))) (input : ℕ) (new : Port S)
    (answer : Result (List ℕ) HostFault) (other : ℕ) → other ≢ input
    → (items_from form other (Took input answer ∷ e) ≡ items_from form other e)
    × (is_at_end (slice_get (slice_set (slice_set ports input None) input (Some new)) other) (ended_well form other (Took input answer ∷ e))
    ≡ is_at_end (slice_get ports other) (ended_well form other e))
others_on {S} form e ports input new answer other apart = (
  other_items form input other e answer apart,
  rw (refilled_apart ports input other None (Some new) apart, other_well form input other e answer apart) refl,
)
