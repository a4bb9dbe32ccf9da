-- What readers one after another come to.
use Rattle.std.proofs.Common.{◌≡◌, Result, Ok, Err, refl}
use Rattle.net_text.specs.Results.{◌>>=◌}

-- both went well: what the first one gave, and what the next one made of that
pub went_on : {A B E : Type 0} (step : Result A E) (next : A → Result B E) (found : B) → (step >>= next) ≡ Ok found
    → (given : A) × (step ≡ Ok given) × (next given ≡ Ok found)
went_on (Ok given) next found both = (given, refl, both)
went_on (Err fault) next found both = absurd cc

-- two readers agree after a step where they agree on all that it may give
pub same_on : {A B E : Type 0} (step : Result A E) (next other : A → Result B E)
    → ((given : A) → step ≡ Ok given → next given ≡ other given) → (step >>= next) ≡ (step >>= other)
same_on (Ok given) next other agree = agree given refl
same_on (Err fault) next other agree = refl

-- what is read is one value
pub same_value : {A E : Type 0} (x y : A) → (let left : Result A E = Ok x in left ≡ Ok y) → x ≡ y
same_value x y is = cc
