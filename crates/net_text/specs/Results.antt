-- Readers one after another: the first one that fails ends the reading.
use Rattle.std.specs.Prelude.{Result, Ok, Err}

infixl 10 ◌>>=◌
abbrev pub ◌>>=◌ : {A B E : Type 0} → Result A E → (A → Result B E) → Result B E
(Ok given) >>= next = next given
(Err fault) >>= next = Err fault
