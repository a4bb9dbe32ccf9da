-- What is asked of a host where a folder is told of.
use Rattle.std.proofs.Common.{◌≡◌, ◌∙◌, inl, inr, ℕ, List, [], ◌∷◌, ◌++◌, Err, refl, sym, ap, subst, append_assoc}
use Rattle.std.specs.List.{AllByRecursion}
use Rattle.folder_status.proofs.Asked.{only_none, only_then}
use Rattle.folder_status.specs.Causes.{fault_line, IsCaused}
use Rattle.folder_status.specs.Files.{IsReadOf, OnlyReads}
use Rattle.folder_status.specs.declared.fault.StatusFault.{StatusFault}
use Rattle.host.specs.Answers.{Answer}
use Rattle.host.specs.Requests.{Request, Said, Told}
use Rattle.host.specs.declared.fault.HostFault.{HostFault}
use Rattle.status_program.specs.Told.{HasFailed, IsAllAsked, IsAsked, MayTell, no_memory, refused, unsaid}

reads_are_asked : (folder : List ℕ) (reads : List Request) → AllByRecursion (IsReadOf folder) reads → AllByRecursion (IsAsked folder) reads
reads_are_asked folder [] are = tt
reads_are_asked folder (r ∷ reads) are = (inl are.0, reads_are_asked folder reads are.1)

-- who reads asks nothing else
pub asked_reads : (folder : List ℕ) (old new : List Request) → OnlyReads folder old new → IsAllAsked folder old new
asked_reads folder old new only = record { asked = only.reads; grown = only.grown; each = reads_are_asked folder only.reads only.each }

pub asked_none : (folder : List ℕ) (e : List Request) → IsAllAsked folder e e
asked_none folder e = record { asked = []; grown = refl; each = tt }

pub asked_said : (folder bytes : List ℕ) (answer : Answer) (old new : List Request) → new ≡ Said bytes answer ∷ old → IsAllAsked folder old new
asked_said folder bytes answer old new is = record { asked = Said bytes answer ∷ []; grown = is; each = (inr (bytes, answer, inl refl), tt) }

pub asked_told : (folder bytes : List ℕ) (answer : Answer) (old new : List Request) → new ≡ Told bytes answer ∷ old → IsAllAsked folder old new
asked_told folder bytes answer old new is = record { asked = Told bytes answer ∷ []; grown = is; each = (inr (bytes, answer, inr refl), tt) }

all_of_both : (folder : List ℕ) (xs ys : List Request) → AllByRecursion (IsAsked folder) xs → AllByRecursion (IsAsked folder) ys
    → AllByRecursion (IsAsked folder) (xs ++ ys)
all_of_both folder [] ys one two = two
all_of_both folder (x ∷ xs) ys one two = (one.0, all_of_both folder xs ys one.1 two)

pub asked_then : (folder : List ℕ) (first second third : List Request) → IsAllAsked folder first second → IsAllAsked folder second third
    → IsAllAsked folder first third
asked_then folder first second third before after = record {
  asked = after.asked ++ before.asked;
  grown = after.grown
      ∙ (ap (λ (e : List Request). after.asked ++ e) before.grown ∙ sym (append_assoc after.asked before.asked first));
  each = all_of_both folder after.asked before.asked after.each before.each;
}

pub asked_words : (folder : List ℕ) (old new : List Request) → MayTell old new → IsAllAsked folder old new
asked_words folder old new (inl same) = record { asked = []; grown = same; each = tt }
asked_words folder old new (inr told) = asked_told folder told.0 told.1 old new told.2

-- ---- failures

-- what stands behind more requests
pub failed_before : (folder : List ℕ) (first old new : List Request) → OnlyReads folder first old → HasFailed folder old new → HasFailed folder first new
failed_before folder first old new only (refused fault before answer caused may) = refused fault before answer caused may
failed_before folder first old new only (unsaid bytes fault before may) = unsaid bytes fault before may
failed_before folder first old new only (no_memory reads) = no_memory (only_then folder first old new only reads)

pub failed_untold : (folder : List ℕ) (e : List Request) → HasFailed folder e e
failed_untold folder e = no_memory (only_none folder e)

-- a line was told, and then words, or none
pub failed_told : (folder : List ℕ) (old between new : List Request) (fault : StatusFault) (line : List ℕ) (answer : Answer) → IsCaused folder old fault
    → line ≡ fault_line fault → between ≡ Told line answer ∷ old → MayTell between new → HasFailed folder old new
failed_told folder old between new fault line answer caused is told may =
    refused fault old answer caused
    (subst (λ (e : List Request). MayTell e new) (told ∙ ap (λ (l : List ℕ). Told l answer ∷ old) is) may)

-- the text wasn't said, and then words were told, or none
pub failed_unsaid : (folder : List ℕ) (old between new : List Request) (bytes : List ℕ) (fault : HostFault) → between ≡ Said bytes (Err fault) ∷ old
    → MayTell between new → HasFailed folder old new
failed_unsaid folder old between new bytes fault said may =
    unsaid bytes fault old (subst (λ (e : List Request). MayTell e new) said may)
