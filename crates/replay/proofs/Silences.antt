-- What was said where no event was made holds until the next event.
use Rattle.std.proofs.Common.{◌≡◌, ◌∙◌, ◌⊎◌, ℕ, Bool, true, List, [], ◌∷◌, ◌++◌, length, refl, sym, ap, subst, inl, inr}
use Rattle.std.proofs.Common.{⊎_elim, arith}
use Rattle.std.proofs.lemmas.List.{length-append}
use Rattle.protocol.specs.Node.Common.{RecordView}
use Rattle.replay.specs.Armed.{ArmedView}
use Rattle.replay.specs.Laws.{no_event, SilencesStay}
use Rattle.replay.specs.Replay.{Happening, Made, Silent, Widened, Happens, IsSilence, at_first, and_then, passed_after}
use Rattle.replay.specs.declared.kept.ScriptedEvent.{ScriptedEvent}
use Rattle.replay.specs.declared.kept.Silence.{Silence}

-- ---- lists that end with one more

abbrev first_or : Happening → List Happening → Happening
first_or other [] = other
first_or other (x ∷ xs) = x

abbrev but_first : List Happening → List Happening
but_first [] = []
but_first (x ∷ xs) = xs

-- where a list is another with one more at its end, a part that ends it is either that one alone, or ends with it
last_of : (front : List Happening) (last : Happening) (before : List Happening) (at : Happening) (rest : List Happening)
    → front ++ last ∷ [] ≡ before ++ at ∷ rest
    → ((rest ≡ []) × (last ≡ at))
    ⊎ ((shorter : List Happening) × (rest ≡ shorter ++ last ∷ []) × (front ≡ before ++ at ∷ shorter))
last_of [] last [] at rest same = inl (sym (ap but_first same), ap (first_or last) same)
last_of [] last (y ∷ before) at rest same =
    (let long = ap (length {A = Happening}) (ap but_first same) in absurd (omega (arith, length-append before (at ∷ rest))))
last_of (x ∷ front) last [] at rest same =
    inr (front, sym (ap but_first same), ap (λ (h : Happening). h ∷ front) (ap (first_or last) same))
last_of (x ∷ front) last (y ∷ before) at rest same =
    let first : x ≡ y = ap (first_or last) same in
    ⊎_elim (λ alone. inl alone)
    (λ more. inr (
      more.0,
      more.1,
      ap (λ (h : Happening). h ∷ front) first ∙ ap (λ (hs : List Happening). y ∷ hs) more.2,
    ))
    (last_of front last before at rest (ap but_first same))

no_event_apart : (front : List Happening) (last : Happening) → no_event (front ++ last ∷ []) ≡ true
    → (no_event front ≡ true) × (no_event (last ∷ []) ≡ true)
no_event_apart [] last none = (refl, none)
no_event_apart (Made maker event answer ∷ front) last none = absurd (cc)
no_event_apart (Silent reason ∷ front) last none = no_event_apart front last none
no_event_apart (Widened channel ∷ front) last none = absurd (cc)

-- ---- one happening

-- where no event is made, what holds before holds afterwards
holds_on : (fits : List (RecordView → Bool)) (script : List ScriptedEvent) (next : Happening) (passed after : ℕ)
    (old new : ArmedView) (reason : Silence) → no_event (next ∷ []) ≡ true → Happens fits script next passed old new
    → after ≡ passed_after next passed → IsSilence script reason passed old.world → IsSilence script reason after new.world
holds_on fits script (Made maker event answer) passed after old new reason none happens count holds = absurd (cc)
holds_on fits script (Silent other) passed after old new reason none happens count holds =
    subst (λ (n : ℕ). IsSilence script reason n new.world) (sym count)
    (subst (λ (a : ArmedView). IsSilence script reason passed a.world) (sym happens.1) holds)
holds_on fits script (Widened channel) passed after old new reason none happens count holds = absurd (cc)

-- and so does what is said there
said_holds : (fits : List (RecordView → Bool)) (script : List ScriptedEvent) (passed after : ℕ) (old new : ArmedView)
    (reason : Silence) → Happens fits script (Silent reason) passed old new → after ≡ passed
    → IsSilence script reason after new.world
said_holds fits script passed after old new reason happens count =
    subst (λ (n : ℕ). IsSilence script reason n new.world) (sym count)
    (subst (λ (a : ArmedView). IsSilence script reason passed a.world) (sym happens.1) happens.0)

-- ---- all of them

pub silences_stay : SilencesStay
silences_stay fits script opening _ _ _ (at_first armed same) before rest reason is none =
    (let long = ap (length {A = Happening}) is in absurd (omega (arith, length-append before (Silent reason ∷ rest))))
silences_stay fits script opening _ _ _ (and_then front all next passed after old new run happens longer count) before
    rest reason is none =
    ⊎_elim
    (λ alone. said_holds fits script passed after old new reason
    (subst (λ (h : Happening). Happens fits script h passed old new) alone.1 happens)
    (count ∙ ap (λ (h : Happening). passed_after h passed) alone.1))
    (λ more. let apart = no_event_apart more.0 next (ap no_event (sym more.1) ∙ none) in
    holds_on fits script next passed after old new reason apart.1 happens count
    (silences_stay fits script opening front passed old run before more.0 reason more.2 apart.0))
    (last_of front next before (Silent reason) rest (sym longer ∙ is))
