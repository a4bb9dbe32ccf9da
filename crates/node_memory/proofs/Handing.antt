-- One item that is handed to an outlet.
use Rattle.std.proofs.Common.{◌≡◌, ◌⊎◌, inl, inr, ℕ, zero, suc, ◌+◌, ◌-◌, ◌<◌, ◌≤◌, ◌++◌, List, ℤ, length, take, drop, arith, refl, sym, ap, subst, ◌∙◌}
use Rattle.std.proofs.Common.{append-nil, length-append, Some, Ok, Err}
use Rattle.std.proofs.lemmas.List.{length-drop, length-take-le}
use Rattle.std.specs.Prelude.{Result, OnOk, IsErrOf}
use Rattle.kahn_net.specs.Laws.Prefixes.{prefix_of, prefix_refl}
use Rattle.protocol.specs.Node.Common.{IsPrefix, LogState, IsLogOf, TookNext}
use Rattle.outlet.specs.Faults.{failures_after}
use Rattle.outlet.specs.Released.{released_items, CanRelease, TookSome, TookSomeOrAll}
use Rattle.outlet.specs.ReleaseLaws.{released_one, took_or_not}
use Rattle.outlet.specs.declared.fault.OutletFault.{OutletFault}
use Rattle.outlet.specs.declared.fault.OutletFault.TheVariants.{Failed, NoMemory}
use Rattle.retained.specs.LogState.{item_at, items_at}
use Rattle.node_memory.specs.Handing.{IsHandedTo}

module _ (log : LogState) (next : ℕ) (old new : List ℤ) (is : next ≡ length old)
    (can : CanRelease log (length old) (length old + 1)) where
  -- what is released
  abbrev pub released : List ℤ
  released = released_items log (length old) (next + 1)

  one : released ≡ items_at log (length old)
  one = ap (λ (n : ℕ). released_items log (length old) (n + 1)) is ∙ released_one log (length old) can

  -- it is one item
  single : length released ≡ 1
  single =
      let rest : List ℤ = drop (length old - log.base) log.items in
      let some : length rest ≡ length log.items - (length old - log.base) = length-drop (length old - log.base) log.items in
      let few : next + 1 - length old ≤ length rest = omega (arith, is, some, can.no_gap, can.within) in
      length-take-le (next + 1 - length old) rest few ∙ omega (arith, is)

  none : TookSome released old new → new ≡ old
  none took = at took.count took.some_left took.taken
    where
      at : (count : ℕ) → count < length released → new ≡ old ++ take count released → new ≡ old
      at zero few taken = taken ∙ append-nil old
      at (suc count) few taken = absurd (omega (arith, few, single))

  took_it : new ≡ old ++ released → TookNext (Some log) old new
  took_it taken = taken ∙ ap (λ (items : List ℤ). old ++ items) one

  longer : TookNext (Some log) old new → length new ≡ length old + 1
  longer taken =
      ap (length {A = ℤ}) (taken ∙ ap (λ (items : List ℤ). old ++ items) (sym one))
      ∙ (length-append old released ∙ ap (λ (n : ℕ). length old + n) single)

  took_or_failed : TookSomeOrAll released old new → (new ≡ old) ⊎ TookNext (Some log) old new
  took_or_failed took =
      took_or_not (item_at log (length old)) old new (subst (λ (items : List ℤ). TookSomeOrAll items old new) one took)

  same_or_longer : (new ≡ old) ⊎ TookNext (Some log) old new
      → (length new ≡ length old) ⊎ (length new ≡ length old + 1)
  same_or_longer (inl same) = inl (ap (length {A = ℤ}) same)
  same_or_longer (inr taken) = inr (longer taken)

  begins_so : (new ≡ old) ⊎ TookNext (Some log) old new → IsPrefix old new
  begins_so (inl same) = subst (λ (items : List ℤ). IsPrefix old items) (sym same) (prefix_refl old)
  begins_so (inr taken) = prefix_of (record { rest = items_at log (length old); is = taken })

  same_log : (of : LogState) → Some log ≡ Some of → log ≡ of
  same_log of same = cc

  -- what a release of it came to
  pub handed_to : (failures later : ℕ) (result : Result (Unit {0}) OutletFault)
      → OnOk result (new ≡ old ++ released)
      → (IsErrOf result NoMemory → TookSome released old new)
      → (IsErrOf result Failed → TookSomeOrAll released old new)
      → later ≡ failures_after result failures
      → ((history : List ℤ) → IsLogOf log history → IsPrefix old history → IsPrefix new history)
      → IsHandedTo (Some log) old new failures later result
  handed_to failures later (Ok done) ok no_memory failed count history = record {
    item = took_it ok;
    ok = longer (took_it ok);
    failed_item = λ is. absurd (cc);
    failed = λ is. absurd (cc);
    no_memory = λ is. absurd (cc);
    begins = begins_so (inr (took_it ok));
    history = λ of all same. subst (λ (log : LogState). IsLogOf log all → IsPrefix old all → IsPrefix new all) (same_log of same)
        (history all);
    count = count;
  }
  handed_to failures later (Err Failed) ok no_memory failed count history = record {
    item = tt;
    ok = tt;
    failed_item = λ is. took_or_failed (failed is);
    failed = λ is. same_or_longer (took_or_failed (failed is));
    no_memory = λ is. absurd (cc);
    begins = begins_so (took_or_failed (failed refl));
    history = λ of all same. subst (λ (log : LogState). IsLogOf log all → IsPrefix old all → IsPrefix new all) (same_log of same)
        (history all);
    count = count;
  }
  handed_to failures later (Err NoMemory) ok no_memory failed count history = record {
    item = tt;
    ok = tt;
    failed_item = λ is. absurd (cc);
    failed = λ is. absurd (cc);
    no_memory = λ is. none (no_memory is);
    begins = begins_so (inl (none (no_memory refl)));
    history = λ of all same. subst (λ (log : LogState). IsLogOf log all → IsPrefix old all → IsPrefix new all) (same_log of same)
        (history all);
    count = count;
  }
