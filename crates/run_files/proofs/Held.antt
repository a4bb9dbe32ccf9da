-- The files of a folder, one after another.
use Rattle.std.proofs.Common.{◌≡◌, ◌∙◌, inl, inr, ap, sym, subst, ℕ, List, [], ◌∷◌, ◌++◌, length, string_bytes}
use Rattle.std.proofs.lemmas.List.{map-append}
use Rattle.host.specs.Requests.{Request, Later}
use Rattle.host.specs.declared.line_file.LineFile.{Ghosts as FileWords}
use Rattle.run_files.specs.Opening.{AreHeldAs, IsCutTo, IsHeldAs, opened_names}
use Rattle.run_files.specs.declared.held_file.HeldFile.{HeldFile}
use Rattle.run_files.specs.declared.held_file.OpenedName.{OpenedName}

-- the names of one more
pub names_opened : (opened after : List OpenedName) (one : OpenedName) → after ≡ opened ++ one ∷ []
    → opened_names after ≡ opened_names opened ++ string_bytes one.name ∷ []
names_opened opened after one is =
    ap (λ (all : List OpenedName). opened_names all) is ∙ map-append (λ (it : OpenedName). string_bytes it.name) opened (one ∷ [])

cut_later : (name : List ℕ) (len size : ℕ) (old new : List Request) → Later old new → IsCutTo name len size old → IsCutTo name len size new
cut_later name len size old new later (inl within) = inl within
cut_later name len size old new later (inr asked) = inr (later _ asked)

module _ {F : Type 0} {file : FileWords F} where
  held_later : (one : OpenedName) (held : HeldFile F file) (old new : List Request) → Later old new → IsHeldAs one held old
      → IsHeldAs one held new
  held_later one held old new later it = record {
    named = it.named;
    lines = it.lines;
    cut = cut_later (string_bytes one.name) held.held.bytes (length one.bytes.value.items) old new later it.cut;
  }

  pub all_held_later : (opened : List OpenedName) (files : List (HeldFile F file)) (old new : List Request) → Later old new
      → AreHeldAs opened files old → AreHeldAs opened files new
  all_held_later [] [] old new later are = tt
  all_held_later [] (held ∷ files) old new later are = are
  all_held_later (one ∷ opened) [] old new later are = are
  all_held_later (one ∷ opened) (held ∷ files) old new later are =
      (held_later one held old new later are.0, all_held_later opened files old new later are.1)

  pub held_more : (opened : List OpenedName) (files : List (HeldFile F file)) (one : OpenedName) (held : HeldFile F file)
      (old new : List Request) → Later old new → AreHeldAs opened files old → IsHeldAs one held new
      → AreHeldAs (opened ++ one ∷ []) (files ++ held ∷ []) new
  held_more [] [] one held old new later are is = (is, tt)
  held_more [] (other ∷ files) one held old new later are is = absurd are
  held_more (another ∷ opened) [] one held old new later are is = absurd are
  held_more (another ∷ opened) (other ∷ files) one held old new later are is =
      (held_later another other old new later are.0, held_more opened files one held old new later are.1 is)

  -- in the words of two lists that were made longer
  pub held_longer : (opened after : List OpenedName) (files behind : List (HeldFile F file)) (one : OpenedName) (held : HeldFile F file)
      (old new : List Request) → after ≡ opened ++ one ∷ [] → behind ≡ files ++ held ∷ [] → Later old new → AreHeldAs opened files old
      → IsHeldAs one held new → AreHeldAs after behind new
  held_longer opened after files behind one held old new first second later are is =
      let P : List OpenedName → Type 0 = λ all. AreHeldAs all behind new in
      let Q : List (HeldFile F file) → Type 0 = λ all. AreHeldAs (opened ++ one ∷ []) all new in
      subst P (sym first) (subst Q (sym second) (held_more opened files one held old new later are is))
