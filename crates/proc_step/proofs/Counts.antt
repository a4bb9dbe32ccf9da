-- What a turn took and sent, channel by channel.
use Rattle.std.proofs.Common.{◌≡◌, ◌≢◌, ◌⊎◌, inl, inr, ℕ, zero, suc, ◌-◌, ◌<◌, ◌≤◌, Bool, true, false, cond, eqb, List}
use Rattle.std.proofs.Common.{ℤ, [], ◌∷◌, ◌++◌, length, refl, sym, ap, ◌∙◌, append_assoc, append-nil, arith}
use Rattle.std.specs.Prelude.{slice_index}
use Rattle.std.proofs.lemmas.List.{length-append, length-set, get_or_past, get_or-replicate, length-replicate}
use Rattle.std.proofs.lemmas.Bool.{cases_lt}
use Rattle.std.proofs.lemmas.Bool.Decides.{eqb_tells}
use Rattle.kahn_net.specs.Common.{history_of, Got, Sent, Step, sent_on, put_by, put_after, left_by, left_after}
use Rattle.kahn_net.specs.Statements.{Act}
use Rattle.kahn_net.specs.Processes.{sent_by}
use Rattle.kahn_net.specs.Laws.Puts.{put_after-at, length-put_after}
use Rattle.proc_step.specs.Turns.{CanBeMade, CanAllBeMade, nothing_sent}
use Rattle.proc_step.specs.Parts.{taken_of}

pub length-left_after : (steps : List Step) (unread : List (List ℤ)) → length (left_after steps unread) ≡ length unread
length-left_after [] unread = refl
length-left_after (s ∷ steps) unread = length-left_after steps (left_by s.act unread) ∙ by s.act
  where
    by : (a : Act) → length (left_by a unread) ≡ length unread
    by (Got c item) = length-set unread c _
    by (Sent c item) = refl

-- the counts are those of the items gone
pub taken_at : (items left : List (List ℤ)) (c : ℕ) → length left ≡ length items
    → slice_index (taken_of items left) c ≡ length (history_of items c) - length (history_of left c)
taken_at [] left c e = let none : 0 - length (history_of left c) ≡ 0 = omega arith in sym none
taken_at (x ∷ items) [] c e = absurd (cc)
taken_at (x ∷ items) (y ∷ left) zero e = refl
taken_at (x ∷ items) (y ∷ left) (suc c) e = taken_at items left c (omega (arith, e))

-- so many were taken as were got
pub taken_is : (items : List (List ℤ)) (steps : List Step) (got : ℕ → List ℤ) (c : ℕ)
    → ((d : ℕ) → history_of items d ≡ got d ++ history_of (left_after steps items) d)
    → slice_index (taken_of items (left_after steps items)) c ≡ length (got c)
taken_is items steps got c h =
    let e = taken_at items (left_after steps items) c (length-left_after steps items) in
    let n = length-append (got c) (history_of (left_after steps items) c) in
    let k : length (history_of items c) ≡ length (got c ++ history_of (left_after steps items) c) =
    ap (length {A = ℤ}) (h c) in
    e ∙ omega (arith, n, k)

-- where there is no room, nothing is sent
pub nothing_past : (steps : List Step) (room : List ℕ) (left sent : List (List ℤ)) (c : ℕ) → length room ≤ c
    → CanAllBeMade steps room left sent → sent_on c steps ≡ []
nothing_past [] room left sent c h m = refl
nothing_past (s ∷ steps) room left sent c h m =
    at s.act m.0 (nothing_past steps room (left_by s.act left) (put_by s.act sent) c h m.1)
  where
    at : (a : Act) → CanBeMade a room left sent → sent_on c steps ≡ [] → sent_by c a (sent_on c steps) ≡ []
    at (Got d item) can later = later
    at (Sent d item) can later = elsewhere (eqb_tells d c)
      where
        elsewhere : ((eqb d c ≡ true) × (d ≡ c)) ⊎ ((eqb d c ≡ false) × (d ≢ c))
            → sent_by c (Sent d item) (sent_on c steps) ≡ []
        elsewhere (inl same) = let none : slice_index room d ≡ 0 = get_or_past room d 0 (omega (arith, same.1)) in
            absurd (omega (arith, none))
        elsewhere (inr other) = ap (λ (b : Bool). cond b (item ∷ sent_on c steps) (sent_on c steps)) other.0 ∙ later

-- what was sent is what the acts send
pub sent_is : (steps : List Step) (room : List ℕ) (left : List (List ℤ)) (c : ℕ)
    → CanAllBeMade steps room left (nothing_sent room)
    → history_of (put_after steps (nothing_sent room)) c ≡ sent_on c steps
sent_is steps room left c m = at (cases_lt c (length room))
  where
    len : length (nothing_sent room) ≡ length room
    len = length-replicate (length room) []

    at : (c < length room) ⊎ (length room ≤ c) → history_of (put_after steps (nothing_sent room)) c ≡ sent_on c steps
    at (inl below) =
        put_after-at steps (nothing_sent room) c (omega (arith, len, below))
        ∙ ap (λ (x : List ℤ). x ++ sent_on c steps) (get_or-replicate (length room) c [] [] below)
    at (inr past) =
        get_or_past (put_after steps (nothing_sent room)) c []
        (omega (arith, length-put_after steps (nothing_sent room), len, past))
        ∙ sym (nothing_past steps room left (nothing_sent room) c past m)

-- one list more is counted
pub counted_more : (taken pushed whole : List ℕ) (items left : List ℤ) (all rests all' rests' : List (List ℤ))
    → all ≡ items ∷ all' → rests ≡ left ∷ rests' → pushed ≡ taken ++ (length items - length left) ∷ []
    → taken ++ taken_of all rests ≡ whole → pushed ++ taken_of all' rests' ≡ whole
counted_more taken pushed whole items left all rests all' rests' a b p h =
    ap (λ (x : List ℕ). x ++ taken_of all' rests') p
    ∙ (append_assoc taken ((length items - length left) ∷ []) (taken_of all' rests')
    ∙ (ap (λ (x : List (List ℤ)). taken ++ taken_of x (left ∷ rests')) (sym a)
    ∙ (ap (λ (x : List (List ℤ)). taken ++ taken_of all x) (sym b) ∙ h)))

-- none more where either list is through
pub counted_all : {P Q : Type 0} (taken whole : List ℕ) (all rests : List (List ℤ)) → (P → length all ≡ 0)
    → (Q → length rests ≡ 0) → P ⊎ Q → taken ++ taken_of all rests ≡ whole → taken ≡ whole
counted_all taken whole [] rests f g through h = sym (append-nil taken) ∙ h
counted_all taken whole (x ∷ all) [] f g through h = sym (append-nil taken) ∙ h
counted_all taken whole (x ∷ all) (y ∷ rests) f g (inl p) h = absurd (omega (arith, f p))
counted_all taken whole (x ∷ all) (y ∷ rests) f g (inr q) h = absurd (omega (arith, g q))
