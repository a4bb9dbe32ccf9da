-- Usual events among others in a line.
use Rattle.std.proofs.Common.{◌≡◌, ◌∙◌, ◌+◌, ◌<◌, ◌++◌, ℕ, zero, suc, List, [], ◌∷◌, drop, get_or, length, slice_set, sum_by, refl, sym, ap, subst, arith}
use Rattle.std.proofs.Common.{append_assoc, append-nil}
use Rattle.std.specs.List.{flat_map}
use Rattle.std.proofs.lemmas.List.{at_drop_more}
use Rattle.std.proofs.lemmas.List.Concat.{flat_map-cons}
use Rattle.std.proofs.lemmas.List.Sums.{sum_by-cons, sum_by-set}
use Rattle.replay.specs.Replay.{Happening}
use Rattle.run_log.specs.Added.{IsCountedAmong}
use Rattle.run_log.specs.Counts.{times_of}
use Rattle.run_log.specs.Lines.{made_times, usual_made, usually}
use Rattle.run_log.specs.declared.history.Usual.{Usual}
use Rattle.run_log.specs.declared.history.UsualEvent.{UsualEvent}

rest_is_none : (a b : List Happening) → a ++ b ≡ [] → b ≡ []
rest_is_none [] b none = none
rest_is_none (x ∷ a) b none = absurd (cc)

first_is_none : (a b : List Happening) → a ++ b ≡ [] → a ≡ []
first_is_none [] b none = refl
first_is_none (x ∷ a) b none = absurd (cc)

-- ---- where the last ones have no times

pub none_from : (rows : List Usual) (i n : ℕ) (row : Usual) → n ≡ i + 1 → i < length rows → row ≡ get_or rows i row → row.times ≡ 0
    → flat_map usually (drop n rows) ≡ [] → flat_map usually (drop i rows) ≡ []
none_from rows i n row next within is no_times none =
    at_drop_more (λ (xs : List Usual). flat_map usually xs) rows i row within
    ∙ (ap (λ (r : Usual). usually r ++ flat_map usually (drop (i + 1) rows)) (sym is)
    ∙ (ap (λ (times : ℕ). usually (record row { times = times }) ++ flat_map usually (drop (i + 1) rows)) no_times
    ∙ subst (λ (m : ℕ). flat_map usually (drop m rows) ≡ []) next none))

pub no_times_from : (rows : List Usual) (i n : ℕ) (row : Usual) → n ≡ i + 1 → i < length rows → row ≡ get_or rows i row → row.times ≡ 0
    → sum_by times_of (drop n rows) ≡ 0 → sum_by times_of (drop i rows) ≡ 0
no_times_from rows i n row next within is no_times none =
    at_drop_more (λ (xs : List Usual). sum_by times_of xs) rows i row within
    ∙ (ap (λ (r : Usual). sum_by times_of (r ∷ drop (i + 1) rows)) (sym is)
    ∙ (sum_by-cons times_of row (drop (i + 1) rows)
    ∙ omega (arith, no_times, subst (λ (m : ℕ). sum_by times_of (drop m rows) ≡ 0) next none)))

-- ---- one more

-- where the last one says it once more
said_again : (rows : List Usual) (i : ℕ) (now other : Usual) (more : Happening) → i < length rows
    → usually now ≡ usually (get_or rows i other) ++ more ∷ [] → flat_map usually (drop (suc i) rows) ≡ []
    → flat_map usually (slice_set rows i now) ≡ flat_map usually rows ++ more ∷ []
said_again [] i now other more within says none = absurd (omega (arith, within))
said_again (row ∷ rows) zero now other more within says none =
    ap (λ (rest : List Happening). usually now ++ rest) none
    ∙ (append-nil (usually now)
    ∙ (says
    ∙ ap (λ (all : List Happening). all ++ more ∷ []) (sym (ap (λ (rest : List Happening). usually row ++ rest) none ∙ append-nil (usually row)))))
said_again (row ∷ rows) (suc i) now other more within says none =
    let fewer : i < length rows = omega (arith, within) in
    ap (λ (rest : List Happening). usually row ++ rest) (said_again rows i now other more fewer says none)
    ∙ sym (append_assoc (usually row) (flat_map usually rows) (more ∷ []))

-- where it has a place of its own
said_behind : (rows : List Usual) (i : ℕ) (now : Usual) (more : Happening) → i < length rows → usually now ≡ more ∷ []
    → flat_map usually (drop i rows) ≡ [] → flat_map usually (slice_set rows i now) ≡ flat_map usually rows ++ more ∷ []
said_behind [] i now more within says none = absurd (omega (arith, within))
said_behind (row ∷ rows) zero now more within says none =
    ap (λ (rest : List Happening). usually now ++ rest) (rest_is_none (usually row) (flat_map usually rows) none)
    ∙ (append-nil (usually now)
    ∙ (says ∙ ap (λ (all : List Happening). all ++ more ∷ []) (sym none)))
said_behind (row ∷ rows) (suc i) now more within says none =
    let fewer : i < length rows = omega (arith, within) in
    ap (λ (rest : List Happening). usually row ++ rest) (said_behind rows i now more fewer says none)
    ∙ sym (append_assoc (usually row) (flat_map usually rows) (more ∷ []))

once_more : (node : ℕ) (event : UsualEvent) (times : ℕ)
    → usually (record { node = node; event = event; times = times + 1 })
    ≡ usually (record { node = node; event = event; times = times }) ++ usual_made node event ∷ []
once_more node event times =
    let next : times + 1 ≡ suc times = omega arith in
    ap (λ (n : ℕ). usually (record { node = node; event = event; times = n })) next

same_row : (row last : Usual) → last.node ≡ row.node → last.event ≡ row.event
    → usually (record { node = row.node; event = row.event; times = last.times }) ≡ usually last
same_row row last node event =
    ap (λ (n : ℕ). usually (record { node = n; event = row.event; times = last.times })) (sym node)
    ∙ ap (λ (e : UsualEvent). usually (record { node = last.node; event = e; times = last.times })) (sym event)

pub counted_in : (rows : List Usual) (i n : ℕ) (row other : Usual) → n ≡ i + 1 → i < length rows
    → (get_or rows i other).node ≡ row.node → (get_or rows i other).event ≡ row.event → flat_map usually (drop n rows) ≡ []
    → IsCountedAmong row rows
    (slice_set rows i (record { node = row.node; event = row.event; times = (get_or rows i other).times + 1 }))
counted_in rows i n row other next within node event none =
    let last = get_or rows i other in
    let more : Usual = record { node = row.node; event = row.event; times = last.times + 1 } in
    record {
      happened =
          let after : n ≡ suc i = omega (arith, next) in
          said_again rows i more other (usual_made row.node row.event) within
          (once_more row.node row.event last.times
          ∙ ap (λ (all : List Happening). all ++ usual_made row.node row.event ∷ []) (same_row row last node event))
          (subst (λ (m : ℕ). flat_map usually (drop m rows) ≡ []) after none);
      events = omega (arith, sum_by-set times_of rows i more other within);
    }

pub placed : (rows : List Usual) (i : ℕ) (row : Usual) → i < length rows → row.times ≡ 1 → flat_map usually (drop i rows) ≡ []
    → sum_by times_of (drop i rows) ≡ 0 → IsCountedAmong row rows (slice_set rows i row)
placed rows i row within one none no_times = record {
  happened =
      said_behind rows i row (usual_made row.node row.event) within
      (ap (λ (times : ℕ). usually (record { node = row.node; event = row.event; times = times })) one) none;
  events =
      let split : sum_by times_of (drop i rows) ≡ times_of (get_or rows i row) + sum_by times_of (drop (i + 1) rows) =
      at_drop_more (λ (xs : List Usual). sum_by times_of xs) rows i row within
      ∙ sum_by-cons times_of (get_or rows i row) (drop (i + 1) rows) in
      omega (arith, split, no_times, one, sum_by-set times_of rows i row row within);
}
