-- What was read of a folder, and what is asked besides.
use Rattle.std.proofs.Common.{◌∙◌, inr, List, [], ◌∷◌, ◌++◌, ℕ, refl, sym, ap, subst, append_assoc, Result}
use Rattle.std.specs.List.{AllByRecursion}
use Rattle.host.specs.Requests.{Has, Read, Request}
use Rattle.host.specs.declared.fault.HostFault.{HostFault}
use Rattle.folder_status.specs.Files.{IsOwnFile, IsReadOf, OnlyReads}

pub only_none : (folder : List ℕ) (e : List Request) → OnlyReads folder e e
only_none folder e = record { reads = []; grown = refl; each = tt }

pub only_one : (folder path : List ℕ) (answer : Result (List ℕ) HostFault) (e : List Request) → IsOwnFile folder path
    → OnlyReads folder e (Read path answer ∷ e)
only_one folder path answer e own = record { reads = Read path answer ∷ []; grown = refl; each = ((path, answer, refl, own), tt) }

all_of_both : {X : Type 0} (P : X → Type 0) (xs ys : List X) → AllByRecursion P xs → AllByRecursion P ys → AllByRecursion P (xs ++ ys)
all_of_both {X} P [] ys one two = two
all_of_both {X} P (x ∷ xs) ys one two = (one.0, all_of_both P xs ys one.1 two)

pub only_then : (folder : List ℕ) (first second third : List Request) → OnlyReads folder first second → OnlyReads folder second third
    → OnlyReads folder first third
only_then folder first second third before after = record {
  reads = after.reads ++ before.reads;
  grown = after.grown
      ∙ (ap (λ (e : List Request). after.reads ++ e) before.grown ∙ sym (append_assoc after.reads before.reads first));
  each = all_of_both (IsReadOf folder) after.reads before.reads after.each before.each;
}

had_behind : (r : Request) (reads e : List Request) → Has r e → Has r (reads ++ e)
had_behind r [] e had = had
had_behind r (s ∷ reads) e had = inr (had_behind r reads e had)

-- what was asked was asked still
pub had_still : (folder : List ℕ) (old new : List Request) (r : Request) → OnlyReads folder old new → Has r old → Has r new
had_still folder old new r only had = subst (Has r) (sym only.grown) (had_behind r only.reads old had)
