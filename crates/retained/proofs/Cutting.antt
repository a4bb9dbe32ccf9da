-- What a cut log is the log of.
use Rattle.std.proofs.Common.{◌≡◌, ℕ, ◌+◌, ◌-◌, List, ℤ, take, drop, sym, ap, ◌∙◌, subst, arith}
use Rattle.std.proofs.lemmas.List.{length-take, drop-take}
use Rattle.retained.specs.LogState.{LogState, IsInLog, cut_at, IsLogOf}

cut_history : (log : LogState) (position : ℕ) (history : List ℤ) → IsInLog log position → IsLogOf log history
    → IsLogOf (cut_at log position) (take position history)
cut_history log position history within is_log = record {
  count = omega (
    arith,
    within.from_base,
    within.to_end,
    is_log.count,
    length-take position history,
    length-take
        (position - log.base) log.items,
  );
  items = ap (take (position - log.base)) is_log.items
      ∙ (sym (drop-take log.base (position - log.base) history)
      ∙ ap (λ (n : ℕ). drop log.base (take n history))
      (let whole : log.base + (position - log.base) ≡ position = omega (arith, within.from_base) in whole));
}

-- the same of a log whose items were cut
pub cut_to_history : (log : LogState) (base position : ℕ) (before after history : List ℤ)
    → (let old : LogState = record { base = base; items = before } in old ≡ log) → after ≡ take (position - base) before
    → IsInLog log position → IsLogOf log history
    → IsLogOf (record { base = base; items = after }) (take position history)
cut_to_history log base position before after history is cut within is_log =
    let old : LogState = record { base = base; items = before } in
    let within2 = subst (λ (x : LogState). IsInLog x position) (sym is) within in
    let is_log2 = subst (λ (x : LogState). IsLogOf x history) (sym is) is_log in
    subst (λ (x : List ℤ). let new : LogState = record { base = base; items = x } in
    IsLogOf new (take position history)) (sym cut) (cut_history old position history within2 is_log2)
