-- What a process did stays so where another one goes on, and on the next approximation.
use Rattle.std.proofs.Common.{◌≡◌, ◌⊎◌, inl, inr, ℕ, zero, suc, ◌+◌, ◌<◌, ◌≤◌, ℤ, List, [], ◌∷◌, ◌++◌, length, take}
use Rattle.std.proofs.Common.{get_or, set, refl, sym, ap, ◌∙◌, subst, arith, append-nil, replicate}
use Rattle.std.proofs.Math.Logic.{∥∥₁_map}
use Rattle.std.specs.Prelude.{slice_get, Some, None}
use Rattle.std.proofs.lemmas.Bool.{cases_lt}
use Rattle.std.proofs.lemmas.List.{take-append-le, ext_get_or, get_or_past, get_or-replicate, length-replicate, length-set}
use Rattle.std.proofs.lemmas.Option.{slice_get_cases}
use Rattle.kahn_net.specs.Common.{history_of, Code, Network, Step, Standing, process_trace, sent_on, HasPassingLoop, IsValid, Fits}
use Rattle.kahn_net.specs.Common.{approximation, standing_of}
use Rattle.kahn_net.specs.Processes.{got_on, output_of}
use Rattle.kahn_net.specs.Approximations.{next_history, output_at}
use Rattle.kahn_net.specs.Streams.{ArePrefixes}
use Rattle.kahn_net.specs.Laws.Streams.{longer_process, stands_on}
use Rattle.kahn_net.specs.Laws.Approximations.{length-next_from, next_histories-at}
use Rattle.kahn_net.specs.declared.program.Channel.{Channel}
use Rattle.kahn_net.specs.declared.program.Port.{Port}
use Rattle.kahn_net.specs.declared.program.Port.TheVariants.{Outside, Process}
use Rattle.approximations.specs.Adding.{IsAdded}
use Rattle.approximations.specs.Progress.{HasMade, IsOn, AreOn, AreShortWith, HasPutAll, HaveAllPut, IsSameElsewhere, IsInside}
use Rattle.approximations.specs.declared.progress.Progress.{Progress}

-- where the same was added to its channels
pub made_along : (net : Network) (p : ℕ) (code : Code) (here : List (List ℤ)) (standing : Standing) (got : List ℕ)
    (added added' : List (List ℤ))
    → ((c : ℕ) (channel : Channel) → slice_get net.channels c ≡ Some channel → channel.producer ≡ Process p
    → history_of added' c ≡ history_of added c)
    → HasMade net p code here standing got added → HasMade net p code here standing got added'
made_along net p code here standing got added added' same made = record {
  m = made.m;
  stands = made.stands;
  got_is = made.got_is;
  put_is = λ c channel is from. ap (λ (x : List ℤ). history_of here c ++ x) (same c channel is from)
      ∙ made.put_is c channel is from;
}

-- no channel is put on by two processes
pub not_both : (p q : ℕ) (port : Port) → (q ≡ p → ⊥) → port ≡ Process q → port ≡ Process p → ⊥
not_both p q port other is bad = let same : Process q ≡ Process p = sym is ∙ bad in other (cc)

-- the next approximation, where all went on as far as they could
pub code_there : (net : Network) → IsValid net → (c p : ℕ) (channel : Channel) → slice_get net.channels c ≡ Some channel
    → channel.producer ≡ Process p → (code : Code) × (slice_get net.codes p ≡ Some code)
code_there net valid c p channel is from = at (slice_get_cases net.codes p).1
  where
    at : ((x : Code) × (p < length net.codes) × (slice_get net.codes p ≡ Some x) × (get_or net.codes p x ≡ x))
        ⊎ ((length net.codes ≤ p) × (slice_get net.codes p ≡ None)) → (code : Code) × (slice_get net.codes p ≡ Some code)
    at (inl here) = (here.0, here.2)
    at (inr past) = let below = valid.producer_is_here c p channel is from in absurd (omega (arith, below, past.0))

module _ (net : Network) (valid : IsValid net) (inputs : List (List ℤ)) (fits : Fits net inputs) where
  -- an input is as it came
  pub input_stays : (n c : ℕ) (channel : Channel) → slice_get net.channels c ≡ Some channel → channel.producer ≡ Outside
      → history_of (approximation net inputs n) c ≡ history_of inputs c
  input_stays zero c channel is from = refl
  input_stays (suc n) c channel is from =
      next_histories-at net inputs (approximation net inputs n) c channel is
      ∙ ap (λ (port : Port). next_history net.codes inputs (approximation net inputs n) c port) from

  next_on_channel : (n : ℕ) (added : List (List ℤ)) → HaveAllPut net (approximation net inputs n) added
      → IsInside net added → (c : ℕ) (channel : Channel) (port : Port) → slice_get net.channels c ≡ Some channel
      → channel.producer ≡ port
      → history_of (approximation net inputs n) c ++ history_of added c
      ≡ history_of (approximation net inputs (suc n)) c
  next_on_channel n added put inside c channel Outside is from =
      ap (λ (x : List ℤ). history_of (approximation net inputs n) c ++ x) (inside c channel is from)
      ∙ (append-nil (history_of (approximation net inputs n) c)
      ∙ (input_stays n c channel is from ∙ sym (input_stays (suc n) c channel is from)))
  next_on_channel n added put inside c channel (Process p) is from =
      let code = code_there net valid c p channel is from in
      put p code.0 code.1 c channel is from
      ∙ (ap (λ (o : _). output_at o (approximation net inputs n) c) (sym code.1)
      ∙ (ap (λ (port : Port). next_history net.codes inputs (approximation net inputs n) c port) (sym from)
      ∙ sym (next_histories-at net inputs (approximation net inputs n) c channel is)))

  pub length-approximation : (n : ℕ) → length (approximation net inputs n) ≡ length net.channels
  length-approximation zero = fits.count
  length-approximation (suc n) = length-next_from net.codes inputs (approximation net inputs n) 0 net.channels

  pub next_is : (n : ℕ) (here added after : List (List ℤ)) → here ≡ approximation net inputs n
      → HaveAllPut net here added → IsInside net added → IsAdded added here after → length after ≡ length here
      → after ≡ approximation net inputs (suc n)
  next_is n here added after same put inside more wide =
      let count : length here ≡ length net.channels = ap (length {A = List ℤ}) same ∙ length-approximation n in
      let next = length-approximation (suc n) in
      ext_get_or [] after (approximation net inputs (suc n)) (wide ∙ (count ∙ sym next))
      (λ c below. at c (omega (arith, below, wide)) (slice_get_cases net.channels c).1 count)
    where
      at : (c : ℕ) → c < length here
          → ((x : Channel) × (c < length net.channels) × (slice_get net.channels c ≡ Some x)
          × (get_or net.channels c x ≡ x)) ⊎ ((length net.channels ≤ c) × (slice_get net.channels c ≡ None))
          → length here ≡ length net.channels
          → history_of after c ≡ history_of (approximation net inputs (suc n)) c
      at c below (inl there) count =
          more c below
          ∙ (ap (λ (h : List (List ℤ)). history_of h c ++ history_of added c) same
          ∙ next_on_channel n added (subst (λ (h : List (List ℤ)). HaveAllPut net h added) same put) inside c there.0
          there.0.producer there.2 refl)
      at c below (inr past) count = absurd (omega (arith, below, past.0, count))

-- what a process did, it did also where there is more
pub made_on : (net : Network) (p : ℕ) (code : Code) (here after added : List (List ℤ)) (standing : Standing)
    (got : List ℕ) → HasPassingLoop code → ArePrefixes here after → length here ≡ length net.channels
    → IsAdded added here after → HasMade net p code here standing got added → HasMade net p code after standing got []
made_on net p code here after added standing got passing front wide more made = record {
  m = made.m;
  stands = stands_on code here after made.m standing passing front made.stands;
  got_is = λ c. made.got_is c ∙ ap (λ (x : List Step). length (got_on c x)) same;
  put_is = λ c channel is from. at c channel is from (slice_get_cases net.channels c).1;
}
  where
    same : take made.m (process_trace code here).steps ≡ take made.m (process_trace code after).steps
    same =
        let longer = longer_process code here after passing front in
        sym (ap (take made.m) longer.steps
        ∙ take-append-le made.m (process_trace code here).steps longer.more made.stands.within)

    at : (c : ℕ) (channel : Channel) → slice_get net.channels c ≡ Some channel → channel.producer ≡ Process p
        → ((x : Channel) × (c < length net.channels) × (slice_get net.channels c ≡ Some x)
        × (get_or net.channels c x ≡ x)) ⊎ ((length net.channels ≤ c) × (slice_get net.channels c ≡ None))
        → history_of after c ++ [] ≡ sent_on c (take made.m (process_trace code after).steps)
    at c channel is from (inl there) =
        append-nil (history_of after c)
        ∙ (more c (omega (arith, there.1, wide)) ∙ (made.put_is c channel is from ∙ ap (sent_on c) same))
    at c channel is from (inr past) = let bad : None ≡ Some channel = sym past.1 ∙ is in absurd (cc)

-- One process after another

none_in : (k c : ℕ) → history_of (replicate k []) c ≡ []
none_in k c = at (cases_lt c k)
  where
    at : (c < k) ⊎ (k ≤ c) → history_of (replicate k []) c ≡ []
    at (inl below) = get_or-replicate k c [] [] below
    at (inr past) = get_or_past (replicate k []) c [] (omega (arith, past, length-replicate {A = List ℤ} k []))

-- where nothing was added yet
pub on_at_first : (net : Network) (here : List (List ℤ)) (all : List Progress) (added : List (List ℤ)) (k : ℕ)
    → added ≡ replicate k [] → AreOn net here all [] → AreOn net here all added
on_at_first net here all added k is on = record {
  count = on.count;
  each = λ p progress there. (
    (on.each p progress there).0,
    (λ code its. ∥∥₁_map ((on.each p progress there).1 code its)
        (made_along net p code here (standing_of progress.state) progress.got.items [] added (λ c channel at from.
        ap (λ (xs : List (List ℤ)). history_of xs c) is ∙ none_in k c))),
  );
}

pub inside_at_first : (net : Network) (added : List (List ℤ)) (k : ℕ) → added ≡ replicate k [] → IsInside net added
inside_at_first net added k is c channel there from = ap (λ (xs : List (List ℤ)). history_of xs c) is ∙ none_in k c

pub short_at_first : (here added : List (List ℤ)) (k : ℕ) → added ≡ replicate k [] → AreShortWith here []
    → AreShortWith here added
short_at_first here added k is short c =
    let none : length (history_of added c) ≡ 0 =
    ap (λ (xs : List (List ℤ)). length (history_of xs c)) is ∙ ap (length {A = ℤ}) (none_in k c) in
    let few = short c in
    omega (arith, few, none)

-- the process at this place of the list
set_cases : (all : List Progress) (i p : ℕ) (new progress : Progress) → slice_get (set all i new) p ≡ Some progress
    → ((p ≡ i) × (new ≡ progress)) ⊎ ((p ≡ i → ⊥) × (slice_get all p ≡ Some progress))
set_cases [] i p new progress is = absurd (cc)
set_cases (x ∷ all) zero zero new progress is = inl (refl, (cc))
set_cases (x ∷ all) zero (suc p) new progress is = inr ((λ e. absurd (omega (arith, e))), is)
set_cases (x ∷ all) (suc i) zero new progress is = inr ((λ e. absurd (omega (arith, e))), is)
set_cases (x ∷ all) (suc i) (suc p) new progress is = at (set_cases all i p new progress is)
  where
    at : ((p ≡ i) × (new ≡ progress)) ⊎ ((p ≡ i → ⊥) × (slice_get all p ≡ Some progress))
        → ((suc p ≡ suc i) × (new ≡ progress)) ⊎ ((suc p ≡ suc i → ⊥) × (slice_get all p ≡ Some progress))
    at (inl here) = inl (ap suc here.0, here.1)
    at (inr there) = inr ((λ e. there.0 (omega (arith, e))), there.1)

-- the others are as they were
pub on_further : (net : Network) (here : List (List ℤ)) (all : List Progress) (i : ℕ) (new : Progress)
    (added added' : List (List ℤ)) → AreOn net here all added → length new.got.items ≡ length net.channels
    → IsOn net i here new added' → IsSameElsewhere net i added added' → AreOn net here (set all i new) added'
on_further net here all i new added added' on counts now same = record {
  count = length-set all i new ∙ on.count;
  each = λ p progress is. at p progress (set_cases all i p new progress is);
}
  where
    at : (p : ℕ) (progress : Progress)
        → ((p ≡ i) × (new ≡ progress)) ⊎ ((p ≡ i → ⊥) × (slice_get all p ≡ Some progress))
        → (length progress.got.items ≡ length net.channels) × IsOn net p here progress added'
    at p progress (inl this) =
        subst (λ (x : Progress). (length x.got.items ≡ length net.channels) × IsOn net p here x added') this.1
        (counts, subst (λ (n : ℕ). IsOn net n here new added') (sym this.0) now)
    at p progress (inr other) = (
      (on.each p progress other.1).0,
      (λ code its.
          ∥∥₁_map ((on.each p progress other.1).1 code its)
          (made_along net p code here (standing_of progress.state) progress.got.items added added'
          (λ c channel there from. same c channel there (not_both i p channel.producer other.0 from)))),
    )

pub put_further : (net : Network) (here : List (List ℤ)) (i : ℕ) (added added' : List (List ℤ))
    → ((p : ℕ) → p < i → HasPutAll net p here added) → HasPutAll net i here added'
    → IsSameElsewhere net i added added' → (p : ℕ) → p < i + 1 → HasPutAll net p here added'
put_further net here i added added' before now same p lt = at (cases_lt p i)
  where
    at : (p < i) ⊎ (i ≤ p) → HasPutAll net p here added'
    at (inl below) = λ code its c channel there from.
        ap (λ (x : List ℤ). history_of here c ++ x)
        (same c channel there (not_both i p channel.producer (λ e. absurd (omega (arith, below, e))) from))
        ∙ before p below code its c channel there from
    at (inr past) = let this : i ≡ p = omega (arith, lt, past) in
        subst (λ (n : ℕ). HasPutAll net n here added') this now

pub inside_further : (net : Network) (i : ℕ) (added added' : List (List ℤ)) → IsInside net added
    → IsSameElsewhere net i added added' → IsInside net added'
inside_further net i added added' inside same c channel there from =
    same c channel there (λ bad. let both : Outside ≡ Process i = sym from ∙ bad in absurd (cc))
    ∙ inside c channel there from

-- the item of a list at a place that is there
pub there_at : (all : List Progress) (p : ℕ) (d : Progress) → p < length all → slice_get all p ≡ Some (get_or all p d)
there_at [] p d lt = absurd (omega (arith, lt))
there_at (x ∷ all) zero d lt = refl
there_at (x ∷ all) (suc p) d lt = there_at all p d (omega (arith, lt))
