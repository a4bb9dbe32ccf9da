-- The same error, where the other answer would have another type.
use Rattle.std.proofs.Common.{◌≡◌, Result, Err, ap}

pub other_err : {T U E : Type 0} (a b : E) → ◌≡◌ {A = Result T E} (Err a) (Err b) → ◌≡◌ {A = Result U E} (Err a) (Err b)
other_err {T} {U} {E} a b h = let same : a ≡ b = cc in ap (λ (e : E). let r : Result U E = Err e in r) same
