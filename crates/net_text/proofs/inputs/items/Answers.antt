use Rattle.std.proofs.lemmas.Grind.{elements}
use Rattle.net_text.specs.InputReading.{items_at}
use Rattle.std.proofs.Common.{◌≡◌, ◌++◌, ◌∷◌, [], ℕ, ℤ, List, length, drop, ap, sym, ◌∙◌, arith, rules, length-drop}
use Rattle.std.proofs.Common.{w64, FitsSigned}
use Rattle.std.proofs.lemmas.Int.{to_z-of_z}
use Rattle.net_text.specs.InputLines.{is_space}
use Rattle.net_text.specs.InputReading.{run, item_at}
use Rattle.net_text.proofs.Runs.{spaces_cut}
use Rattle.net_text.proofs.Items.{items_more, item_shortens}
use Rattle.net_text.proofs.inputs.items.Goals as goal

pub split_at-requires : goal.split_at-requires
split_at-requires c =
    spaces_cut c.items.rest.now c.space_len-gap.result c.items.invariant.text
    (c.space_len-gap.ensures ∙ ap (λ (bs : List ℕ). run is_space bs) c.as_bytes.ensures.value) c.if-gap-eq0.false

pub items-smaller : goal.items-smaller
items-smaller c =
    let next : c.split_at.result.1.now ≡ drop c.space_len-gap.result c.items.rest.now = c.split_at.ensures.back in
    let less =
    item_shortens c.args.line c.split_at.result.1.now (c.in_ok-found.found, c.in_ok-found.after.now)
    c.in_ok-found.ensures.gives in
    let l = ap length next in
    let k = length-drop c.space_len-gap.result c.items.rest.now in
    omega arith

pub items-preserved : goal.items-preserved
items-preserved c =
    let rest = c.items.rest.now in
    let gap : c.space_len-gap.result ≡ run is_space rest =
    c.space_len-gap.ensures ∙ ap (λ (bs : List ℕ). run is_space bs) c.as_bytes.ensures.value in
    let next : c.split_at.result.1.now ≡ drop (run is_space rest) rest =
    c.split_at.ensures.back ∙ ap (λ (n : ℕ). drop n rest) gap in
    let more = items_more c.args.line c.items.items.items rest (c.in_ok-found.found, c.in_ok-found.after.now)
    (λ e. c.if-gap-rest.false (gap ∙ e)) (λ e. c.if-gap-eq0.false (gap ∙ e))
    (ap (item_at c.args.line) (sym next) ∙ c.in_ok-found.ensures.gives) in
    let f : FitsSigned w64 c.in_ok-found.found = search rules in
    let pushed : c.push.new.self.items ≡ c.items.items.items ++ c.in_ok-found.found ∷ [] =
    c.in_ok-push.ensures.items ∙ ap (λ (z : ℤ). c.items.items.items ++ z ∷ []) (to_z-of_z w64 _ f) in
    record { found = rw pushed (sym more ∙ c.items.invariant.found); text = c.in_ok-found.ensures.text }

pub returns-in_err-found : goal.returns-in_err-found
unfolding items_at
returns-in_err-found c = grind (arith, elements)

pub returns-in_err-push : goal.returns-in_err-push
unfolding items_at
returns-in_err-push c = grind (arith, elements)

pub returns-then-gap-eq0 : goal.returns-then-gap-eq0
unfolding items_at
returns-then-gap-eq0 c = grind (arith, elements)

pub items-init : goal.items-init
items-init c = grind (arith, elements)
