-- The first crash that is armed for each delivery.
use Rattle.std.specs.Prelude.{◌≡◌, ◌==◌, ◌&&◌, ℕ, Bool, List}
use Rattle.std.specs.HashMap.{HashMap, get}
use Rattle.replay.specs.Armed.{first_crash}
use Rattle.replay.specs.declared.kept.ArmedCrash.{ArmedCrash}
use Rattle.run_log.specs.declared.armed_crashes.Delivery.{Delivery}

abbrev pub is_same : Delivery → Delivery → Bool
is_same one other = one.node == other.node && one.number == other.number

abbrev pub delivery_of : ℕ → ℕ → Delivery
delivery_of node number = record { node = node; number = number }

-- it has the first one for each delivery for which one is armed
abbrev pub HasFirsts : {S : Type 0} → List ArmedCrash → HashMap Delivery ArmedCrash S → Type 0
HasFirsts crashes firsts =
    (node number : ℕ) → get is_same firsts (delivery_of node number) ≡ first_crash node number crashes
