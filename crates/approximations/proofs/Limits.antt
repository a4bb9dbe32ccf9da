-- Whether a history is too long.
use Rattle.std.proofs.Common.{◌≡◌, ◌⊎◌, inl, inr, ℕ, suc, ◌+◌, ◌<◌, ◌≤◌, ℤ, List, [], ◌++◌, length, refl, sym, ap, ◌∙◌, subst}
use Rattle.std.proofs.Common.{arith, append-nil}
use Rattle.std.proofs.lemmas.Bool.{cases_lt}
use Rattle.std.proofs.lemmas.List.{get_or_past, length-append}
use Rattle.kahn_net.specs.Common.{history_of, Network, IsValid, Fits, approximation}
use Rattle.kahn_net.specs.Approximations.{next_history, next_histories, output_at}
use Rattle.kahn_net.specs.Laws.Prefixes.{prefix_length, prefix_of, prefix_nil}
use Rattle.kahn_net.specs.Laws.Approximations.{agreement, approximations_grow, next_histories-at}
use Rattle.kahn_net.specs.Streams.{ArePrefixes, IsPrefix}
use Rattle.kahn_net.specs.declared.program.Port.{Port}
use Rattle.kahn_net.specs.declared.limits.TheConstants.{MAX_HISTORY_ITEMS}
use Rattle.stream_eq.specs.Limits.{AreShort, HasLongHistory}
use Rattle.approximations.specs.Adding.{IsAdded, AreAllEmpty}
use Rattle.approximations.specs.Progress.{AreOn, AreShortWith, GivesLongSomewhere, HaveAllPut, IsInside}
use Rattle.approximations.proofs.Rounds.{code_there, made_on, next_is}
use Rattle.approximations.specs.declared.progress.Progress.{Progress}
use Rattle.std.proofs.Math.Logic.{∥∥₁_map}
use Rattle.kahn_net.specs.Common.{standing_of}

-- short inputs are so with nothing added
pub short_inputs : (inputs here : List (List ℤ)) → AreShort inputs → here ≡ inputs → AreShortWith here []
short_inputs inputs here short same =
    subst (λ (h : List (List ℤ)). AreShortWith h []) (sym same) (λ c. let few = short c in omega (arith, few))

-- with what was added they still are
pub short_then : (here added after : List (List ℤ)) → AreShortWith here added → IsAdded added here after
    → length after ≡ length here → AreShortWith after []
short_then here added after short more wide c = at (cases_lt c (length here))
  where
    at : (c < length here) ⊎ (length here ≤ c) → length (history_of after c) + 0 ≤ MAX_HISTORY_ITEMS
    at (inl below) =
        let few = short c in
        omega (
          arith,
          few,
          ap (length {A = ℤ}) (more c below),
          length-append (history_of here c) (history_of added c),
        )
    at (inr past) = omega (arith, ap (length {A = ℤ}) (get_or_past after c [] (omega (arith, past, wide))))

-- what was there is a front of what is there then
pub grown : (here added after : List (List ℤ)) → IsAdded added here after → ArePrefixes here after
grown here added after more = record { at = λ c. at c (cases_lt c (length here)) }
  where
    at : (c : ℕ) → (c < length here) ⊎ (length here ≤ c) → IsPrefix (history_of here c) (history_of after c)
    at c (inl below) = prefix_of (record { rest = history_of added c; is = more c below })
    at c (inr past) = prefix_nil _ _ (get_or_past here c [] past)

-- where an approximation is short, none up to it is too long
pub not_long : (net : Network) → IsValid net → (inputs here : List (List ℤ)) (n : ℕ) → Fits net inputs
    → here ≡ approximation net inputs n → AreShortWith here [] → HasLongHistory net inputs n → ⊥
not_long net valid inputs here n fits same short h =
    let before = prefix_length _ _ ((approximations_grow net valid inputs fits h.round n h.up_to).at h.channel) in
    let few = short h.channel in
    let long = h.long in
    omega (arith, before, few, long, ap (λ (x : List (List ℤ)). length (history_of x h.channel)) same)

-- where a process's function gives too long a history, the next approximation has it
pub long_next : (net : Network) → IsValid net → (inputs here : List (List ℤ)) (round n : ℕ)
    → here ≡ approximation net inputs round → round < n → GivesLongSomewhere net here → HasLongHistory net inputs n
long_next net valid inputs here round n same lt gives =
    let it = gives.1 in
    let code = code_there net valid it.c gives.0 it.channel it.there it.from in
    let history =
    next_histories-at net inputs here it.c it.channel it.there
    ∙ (ap (λ (port : Port). next_history net.codes inputs here it.c port) it.from
    ∙ ap (λ (o : _). output_at o here it.c) code.1) in
    let long = it.long code.0 code.1 in
    record {
      round = suc round;
      up_to = omega (arith, lt);
      channel = it.c;
      long = subst (λ (h : List (List ℤ)). MAX_HISTORY_ITEMS < length (history_of (next_histories net inputs h) it.c)) same
          (omega (arith, long, ap (length {A = ℤ}) history));
    }

-- where nothing was added, all later approximations agree
pub at_rest : (net : Network) → IsValid net → (inputs : List (List ℤ)) → Fits net inputs → (here added : List (List ℤ))
    (round n : ℕ) → here ≡ approximation net inputs round → HaveAllPut net here added → IsInside net added
    → AreAllEmpty added → round < n → here ≡ approximation net inputs n
at_rest net valid inputs fits here added round n same put inside empty lt =
    let next = next_is net valid inputs fits round here added here same put inside
    (λ c below. sym (ap (λ (x : List ℤ). history_of here c ++ x) (empty c) ∙ append-nil (history_of here c))) refl in
    same ∙ sym (agreement net inputs round n (sym same ∙ next) (omega (arith, lt)))

-- all processes stand on the next histories where they stood
pub on_next : (net : Network) → IsValid net → (here after added : List (List ℤ)) (all : List Progress)
    → length here ≡ length net.channels → IsAdded added here after → AreOn net here all added → AreOn net after all []
on_next net valid here after added all wide more on = record {
  count = on.count;
  each = λ p progress is. (
    (on.each p progress is).0,
    (λ code its. ∥∥₁_map ((on.each p progress is).1 code its)
        (made_on net p code here after added (standing_of progress.state) progress.got.items (valid.codes p code its).passes
        (grown here added after more) wide more)),
  );
}
