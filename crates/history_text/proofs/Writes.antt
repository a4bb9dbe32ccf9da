-- What is written piece by piece.
use Rattle.std.proofs.Common.{◌≡◌, refl, sym, subst, ◌∙◌, ap, ℕ, List, [], ◌++◌, append_assoc, append-nil}
use Rattle.std.specs.Io.KnownBytes.{Appends}
use Rattle.std.proofs.KnownBytes.{Appends-nil, Appends-trans}
use Rattle.std.specs.Prelude.{Option}

-- something was written, and with this rest it is the whole
abbrev pub WroteUpTo : Option (List ℕ) → Option (List ℕ) → List ℕ → List ℕ → Type 0
WroteUpTo before now rest whole = (done : List ℕ) × Appends before now done × (done ++ rest ≡ whole)

pub nothing_yet : (before : Option (List ℕ)) (whole : List ℕ) → WroteUpTo before before whole whole
nothing_yet before whole = ([], Appends-nil before, refl)

pub one_more : (before now then_ : Option (List ℕ)) (line rest next whole : List ℕ)
    → WroteUpTo before now rest whole → Appends now then_ line → rest ≡ line ++ next
    → WroteUpTo before then_ next whole
one_more before now then_ line rest next whole so_far more splits = (
  so_far.0 ++ line,
  Appends-trans before now then_ so_far.0 line so_far.1 more,
  append_assoc so_far.0 line next ∙ (ap (λ (x : List ℕ). so_far.0 ++ x) (sym splits) ∙ so_far.2),
)

pub all_written : (before now : Option (List ℕ)) (rest whole : List ℕ) → WroteUpTo before now rest whole → rest ≡ []
    → Appends before now whole
all_written before now rest whole so_far none =
    subst (λ (x : List ℕ). Appends before now x)
    (sym (append-nil so_far.0) ∙ (ap (λ (x : List ℕ). so_far.0 ++ x) (sym none) ∙ so_far.2)) so_far.1
