-- Of a list of codes that are those of processes, each is its process's own.
use Rattle.std.proofs.Common.{◌≡◌, ℕ, zero, suc, List, [], ◌∷◌, map, length, get_or, ap, ◌<◌, arith, Some, None}
use Rattle.std.proofs.Common.{refl, sym, ◌∙◌}
use Rattle.std.specs.Prelude.{slice_get}
use Rattle.std.proofs.lemmas.List.{length-map}
use Rattle.std.proofs.lemmas.Option.{slice_get-get_or, slice_get_within}
use Rattle.kahn_net.specs.Syntax.{Code as Syntax}
use Rattle.proc_code.specs.declared.code.Code.{Code}
use Rattle.proc_code.specs.CodeView.{code_view}
use Rattle.proc_code.specs.Translation.{FlatCode, flat_code}

heads : (a b : FlatCode) (xs ys : List FlatCode) → a ∷ xs ≡ b ∷ ys → a ≡ b
heads a b xs ys e = cc

tails : (a b : FlatCode) (xs ys : List FlatCode) → a ∷ xs ≡ b ∷ ys → xs ≡ ys
tails a b xs ys e = cc

pub own_code : (codes : List Code) (processes : List Syntax) → map code_view codes ≡ map flat_code processes
    → (n : ℕ) (code : Code) (process : Syntax) → slice_get codes n ≡ Some code → slice_get processes n ≡ Some process
    → code_view code ≡ flat_code process
own_code [] processes e zero code process is its = absurd (cc)
own_code [] processes e (suc n) code process is its = absurd (cc)
own_code (c ∷ codes) [] e n code process is its = absurd (cc)
own_code (c ∷ codes) (p ∷ processes) e zero code process is its =
    let same : c ≡ code = cc in
    let its_own : p ≡ process = cc in
    let both = heads (code_view c) (flat_code p) (map code_view codes) (map flat_code processes) e in
    subst_both c code p process same its_own both
  where
    subst_both : (c code : Code) (p process : Syntax) → c ≡ code → p ≡ process → code_view c ≡ flat_code p
        → code_view code ≡ flat_code process
    subst_both c code p process same its_own both = rw (sym same, sym its_own) both
own_code (c ∷ codes) (p ∷ processes) e (suc n) code process is its =
    own_code codes processes
    (tails (code_view c) (flat_code p) (map code_view codes) (map flat_code processes) e) n code process is its

-- where there is no code, there is no process
pub no_code : (codes : List Code) (processes : List Syntax) → map code_view codes ≡ map flat_code processes
    → (n : ℕ) → slice_get codes n ≡ None → slice_get processes n ≡ None
no_code [] [] e zero none = refl
no_code [] [] e (suc n) none = refl
no_code [] (p ∷ processes) e n none = absurd (cc)
no_code (c ∷ codes) [] e n none = absurd (cc)
no_code (c ∷ codes) (p ∷ processes) e zero none = absurd (cc)
no_code (c ∷ codes) (p ∷ processes) e (suc n) none =
    no_code codes processes
    (tails (code_view c) (flat_code p) (map code_view codes) (map flat_code processes) e) n none

-- as many codes as processes
pub as_many : (codes : List Code) (processes : List Syntax) → map code_view codes ≡ map flat_code processes
    → length codes ≡ length processes
as_many codes processes e =
    sym (length-map codes code_view) ∙ (ap (length {A = FlatCode}) e ∙ length-map processes flat_code)

-- of a process that is there, the code at its number is there, and is its own
pub code_within : (codes : List Code) (processes : List Syntax) → map code_view codes ≡ map flat_code processes
    → (n : ℕ) (process : Syntax) → slice_get processes n ≡ Some process → n < length codes
code_within codes processes e n process its =
    let there = slice_get_within processes n process its in omega (arith, as_many codes processes e, there)

pub code_there : (codes : List Code) (processes : List Syntax) → map code_view codes ≡ map flat_code processes
    → (n : ℕ) (code : Code) (process : Syntax) → code ≡ get_or codes n code → slice_get processes n ≡ Some process
    → code_view code ≡ flat_code process
code_there codes processes e n code process is its =
    own_code codes processes e n code process
    (slice_get-get_or codes n code (code_within codes processes e n process its) ∙ ap Some (sym is)) its
