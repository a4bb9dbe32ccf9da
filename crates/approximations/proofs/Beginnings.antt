-- At first no process has begun.
use Rattle.std.proofs.Common.{◌≡◌, ◌⊎◌, inl, inr, ℕ, zero, suc, ◌<◌, ◌≤◌, ℤ, List, [], ◌∷◌, ◌++◌, length, map}
use Rattle.std.proofs.Common.{replicate, refl, sym, ap, ◌∙◌, subst, arith}
use Rattle.std.specs.Prelude.{slice_get, slice_index, Some}
use Rattle.std.proofs.lemmas.Bool.{cases_lt}
use Rattle.std.proofs.lemmas.List.{get_or_past, get_or-replicate, length-replicate, length-map}
use Rattle.kahn_net.specs.Common.{history_of, Code, Network, Standing, IsValid, Fits, code_of, standing_of}
use Rattle.kahn_net.specs.Processes.{NotBegun}
use Rattle.kahn_net.specs.Laws.Approximations.{inner_empty}
use Rattle.kahn_net.specs.declared.program.Channel.{Channel}
use Rattle.kahn_net.specs.declared.program.Port.TheVariants.{Process}
use Rattle.kahn_net.specs.declared.program.Process.{Process as ProcessText}
use Rattle.approximations.specs.Progress.{HasMade, AreOn, ProgressView, progress_view, beginning_of}
use Rattle.approximations.specs.declared.progress.Progress.{Progress}

zero_in : (k c : ℕ) → slice_index (replicate k 0) c ≡ 0
zero_in k c = at (cases_lt c k)
  where
    at : (c < k) ⊎ (k ≤ c) → slice_index (replicate k 0) c ≡ 0
    at (inl below) = get_or-replicate k c 0 0 below
    at (inr past) = get_or_past (replicate k 0) c 0 (omega (arith, past, length-replicate {A = ℕ} k 0))

-- the process at this place and its code
at_both : (all : List Progress) (processes : List ProcessText) (k p : ℕ) (progress : Progress) (code : Code)
    → map progress_view all ≡ map (beginning_of k) processes → slice_get all p ≡ Some progress
    → slice_get (map code_of processes) p ≡ Some code
    → (standing_of progress.state ≡ NotBegun code.vars) × (progress.got.items ≡ replicate k 0)
at_both [] processes k p progress code e is there = absurd (cc)
at_both (x ∷ all) [] k p progress code e is there = absurd (cc)
at_both (x ∷ all) (q ∷ processes) k zero progress code e is there =
    let first : progress_view x ≡ beginning_of k q = cc in
    let this : x ≡ progress = cc in
    let its : code_of q ≡ code = cc in (
      ap (λ (y : Progress). standing_of y.state) (sym this)
          ∙ (ap (λ (v : ProgressView). v.standing) first ∙ ap (λ (y : Code). NotBegun y.vars) its),
      ap (λ (y : Progress). y.got.items) (sym this) ∙ ap (λ (v : ProgressView). v.got) first,
    )
at_both (x ∷ all) (q ∷ processes) k (suc p) progress code e is there =
    let rest : map progress_view all ≡ map (beginning_of k) processes = cc in
    at_both all processes k p progress code rest is there

nothing_made : (net : Network) (p : ℕ) (code : Code) (here : List (List ℤ)) (got : List ℕ)
    → ((c : ℕ) → slice_index got c ≡ 0)
    → ((c : ℕ) (channel : Channel) → slice_get net.channels c ≡ Some channel → channel.producer ≡ Process p
    → history_of here c ≡ []) → HasMade net p code here (NotBegun code.vars) got []
nothing_made net p code here got none empty = record {
  m = 0;
  stands = record { within = omega arith; here = (refl, refl) };
  got_is = none;
  put_is = λ c channel is from. ap (λ (x : List ℤ). x ++ []) (empty c channel is from);
}

pub begin_on : (net : Network) (processes : List ProcessText) (all : List Progress) (here inputs : List (List ℤ)) (k : ℕ)
    → IsValid net → Fits net inputs → net.codes ≡ map code_of processes → here ≡ inputs → k ≡ length net.channels
    → map progress_view all ≡ map (beginning_of k) processes → AreOn net here all []
begin_on net processes all here inputs k valid fits codes same wide views = record {
  count = sym (length-map all progress_view)
      ∙ (ap (length {A = ProgressView}) views
      ∙ (length-map processes (beginning_of k)
      ∙ (sym (length-map processes code_of) ∙ ap (length {A = Code}) (sym codes))));
  each = λ p progress is. (
    count_at p progress is,
    (λ code there.
        let both = at_both all processes k p progress code views is (ap (λ (xs : List Code). slice_get xs p) (sym codes) ∙ there) in
        ∣ subst (λ (s : Standing). HasMade net p code here s progress.got.items []) (sym both.0)
        (nothing_made net p code here progress.got.items
        (λ c. ap (λ (xs : List ℕ). slice_index xs c) both.1 ∙ zero_in k c)
        (λ c channel at from. ap (λ (h : List (List ℤ)). history_of h c) same
        ∙ inner_empty net valid inputs fits c p channel at from)) ∣₁),
  );
}
  where
    counted : (all : List Progress) (processes : List ProcessText) (p : ℕ) (progress : Progress)
        → map progress_view all ≡ map (beginning_of k) processes → slice_get all p ≡ Some progress
        → length progress.got.items ≡ k
    counted [] processes p progress e is = absurd (cc)
    counted (x ∷ all) [] p progress e is = absurd (cc)
    counted (x ∷ all) (q ∷ processes) zero progress e is =
        let first : progress_view x ≡ beginning_of k q = cc in
        let this : x ≡ progress = cc in
        ap (λ (y : Progress). length y.got.items) (sym this)
        ∙ (ap (λ (v : ProgressView). length v.got) first ∙ length-replicate {A = ℕ} k 0)
    counted (x ∷ all) (q ∷ processes) (suc p) progress e is =
        let rest : map progress_view all ≡ map (beginning_of k) processes = cc in
        counted all processes p progress rest is

    count_at : (p : ℕ) (progress : Progress) → slice_get all p ≡ Some progress
        → length progress.got.items ≡ length net.channels
    count_at p progress is = counted all processes p progress views is ∙ wide
