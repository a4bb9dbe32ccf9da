-- An answer that is taken apart where what is wanted of it ends.
use Rattle.std.proofs.Common.{rules, ℕ, List, [], ◌∷◌, ◌++◌, ◌≡◌, ◌≢◌, ◌<◌, length, nat_eq, slice_index_or, false}
use Rattle.std.proofs.Common.{true≢false, sym, ◌∙◌, ap, inl, inr, arith}
use Rattle.std.specs.Prelude.{IsTrue}
use Rattle.std.proofs.lemmas.List.{append_cancel_left, append-nil}
use Rattle.std.proofs.lemmas.Bool.Decides.{Decides-eqb}
use Rattle.wanted.specs.Wanted.{Begins}

pub nothing_follows : (first came rest : List ℕ) → came ≡ first ++ rest → length rest < 1 → Begins first came
nothing_follows first came [] e below = inl (e ∙ append-nil first)
nothing_follows first came (next ∷ rest) e below = absurd (omega (arith, below))

-- what follows can't be both nothing and something
following : (first came : List ℕ) (next : ℕ) (rest : List ℕ) → came ≡ first ++ next ∷ rest → Begins first came
    → next ≡ 32
following first came next rest e (inl same) =
    let nothing : next ∷ rest ≡ [] =
    append_cancel_left first (next ∷ rest) [] (sym e ∙ same ∙ sym (append-nil first)) in
    absurd (cc)
following first came next rest e (inr (behind, same)) =
    let both : next ∷ rest ≡ 32 ∷ behind = append_cancel_left first (next ∷ rest) (32 ∷ behind) (sym e ∙ same) in
    cc

pub something_follows : (first came rest : List ℕ) → came ≡ first ++ rest → 0 < length rest
    → (IsTrue (nat_eq (slice_index_or rest 0 0) 32) → Begins first came)
    × (Begins first came → IsTrue (nat_eq (slice_index_or rest 0 0) 32))
something_follows first came [] e some = absurd (omega (arith, some))
something_follows first came (next ∷ rest) e some = (
  (λ t. let space : next ≡ 32 = search (rules, t) in inr (rest, e ∙ ap (λ n. first ++ n ∷ rest) space)),
  λ b. let space : next ≡ 32 = following first came next rest e b in search (rules, Decides-eqb, space),
)

pub nothing_begins : (first came : List ℕ) → ((rest : List ℕ) → came ≢ first ++ rest)
    → (IsTrue false → Begins first came) × (Begins first came → IsTrue false)
nothing_begins first came never = (
  (λ f. absurd (true≢false (sym f))),
  λ b. absurd
      (elim b [ inl same ↦ never [] (same ∙ sym (append-nil first)) | inr further ↦ never (32 ∷ further.0) further.1 ]),
)
