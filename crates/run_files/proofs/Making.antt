-- A folder that is made: it gets its name, or is taken away.
use Rattle.std.proofs.Common.{◌≡◌, ◌⊎◌, inl, inr, ◌≤◌, ℕ, Some, Bool, List, Ok, Result, length, map, subst, string_bytes}
use Rattle.std.specs.Prelude.{IfOk}
use Rattle.std.specs.declared.alloc.Global.{Global}
use Rattle.std.specs.declared.string.String.{String}
use Rattle.host.specs.Requests.{Request, Has, MadeFolder, Renamed}
use Rattle.run_files.specs.Opening.{IsFileMade, IsNewFolder, OfEach, OfFirst, paths_in}
use Rattle.run_files.specs.Removing.{IsCleared, IsFileRemoved, IsFolderRemoved}
use Rattle.run_files.specs.Leftovers.{AreGone, IsFirst, IsNamed}
use Rattle.run_files.specs.Rules.{Given, GoesOn, GoesWith}
use Rattle.run_files.specs.Wanted.{Wanted}
use Rattle.run_files.proofs.Going.{first_all, none_left, with_goes, with_then}

-- what is so where there is an answer is so of this one
pub of_answer : {F : Type 0} (result : Result Bool F) (named : Bool) (P : Bool → Type 0) → result ≡ Ok named → IfOk result P → P named
of_answer {F} result named P is h = let Q : Result Bool F → Type 0 = λ r. IfOk r P in subst Q is h

module _ (making folder : List ℕ) (outputs : List (List ℕ)) (count : ℕ) (paths : List (String Global)) (e : List Request) where
  pub new_folder : Has (MadeFolder making (Ok tt)) e → OfFirst IsFileMade count paths e → length paths ≤ count
      → map (λ (path : String Global). string_bytes path) paths ≡ paths_in making outputs → Has (Renamed making folder (Ok tt)) e
      → IsNewFolder folder outputs e
  new_folder made files all are renamed = record {
    making = making;
    made = made;
    files = subst (λ (ps : List (List ℕ)). OfEach IsFileMade ps e) are (first_all IsFileMade count paths e files all);
    renamed = renamed;
  }

  pub cleared : Has (MadeFolder making (Ok tt)) e → OfFirst IsFileRemoved count paths e → length paths ≤ count
      → map (λ (path : String Global). string_bytes path) paths ≡ paths_in making outputs → IsFolderRemoved making e → IsCleared outputs e
  cleared made files all are removed = record {
    making = making;
    made = made;
    files = subst (λ (ps : List (List ℕ)). OfEach IsFileRemoved ps e) are (first_all IsFileRemoved count paths e files all);
    folder = removed;
  }

module _ (accepts : Given → Type 0) (o : Wanted) (making : List ℕ) (count : ℕ) (paths : List (String Global)) where
  -- a folder that was made, and then files in it: all of that is taken away
  pub all_cleared : (a b c d : List Request) → GoesWith (IsNamed (Some making)) accepts o a b → GoesWith (IsFirst count paths) accepts o b c
      → GoesOn accepts o c d → AreGone (IsNamed (Some making)) d → AreGone (IsFirst count paths) d → GoesOn accepts o a d
  all_cleared a b c d made filled cleared folder files =
      let P : List ℕ → Type 0 = λ p. IsNamed (Some making) p ⊎ IsFirst count paths p in
      none_left accepts o P a d
      (with_goes accepts o P a c d
      (with_then accepts o (IsNamed (Some making)) (IsFirst count paths) P a b c (λ p is. inl is) (λ p is. inr is) made filled) cleared)
      (λ p is left. elim is [ inl it ↦ folder p it left | inr it ↦ files p it left ])
