-- A process of a valid network puts on channels of it alone.
use Rattle.std.proofs.Common.{◌≡◌, ◌⊎◌, inl, inr, ℕ, ◌<◌, Bool, true, false, ◌&&◌, ◌||◌, ◌==◌, cond, ℤ}
use Rattle.std.proofs.Common.{List, [], ◌∷◌, ◌++◌, Option, Some, None, length, refl, sym, ap, ◌∙◌, subst, arith}
use Rattle.std.specs.Prelude.{IsTrue, nat_lt}
use Rattle.std.proofs.lemmas.Bool.Decides.{nat_tests}
use Rattle.kahn_net.specs.Syntax.{Block, Nothing, GetThen, AssignThen, PutThen, StopThen, IfThen, RepeatThen, Code}
use Rattle.kahn_net.specs.Valid.{IsValidCode, block_within, body_within, block_puts, body_puts, code_puts, expr_within}
use Rattle.kahn_net.specs.Common.{Sent, Step, process_trace, sent_on}
use Rattle.kahn_net.specs.Statements.{Act}
use Rattle.kahn_net.specs.Processes.{sent_by}
use Rattle.kahn_net.specs.Laws.Puts.{silent, sent_on-append}

both : (a b : Bool) → (a && b) ≡ true → (a ≡ true) × (b ≡ true)
both true b h = (refl, h)
both false b h = absurd (cc)

either : (a b : Bool) → (a || b) ≡ true → (a ≡ true) ⊎ (b ≡ true)
either true b h = inl refl
either false b h = inr h

is_less : (a b : ℕ) → nat_lt a b ≡ true → a < b
is_less a b h = grind (arith, nat_tests)

is_same : (a b : ℕ) → (a == b) ≡ true → a ≡ b
is_same a b h = grind (arith, nat_tests)

puts_within : (v n c : ℕ) (b : Block) → block_within v n b ≡ true → block_puts c b ≡ true → c < n
puts_within v n c Nothing within puts = absurd (cc)
puts_within v n c (GetThen x d rest) within puts =
    puts_within v n c rest (both (nat_lt d n) (block_within v n rest) (both (nat_lt x v) _ within).1).1 puts
puts_within v n c (AssignThen x e rest) within puts =
    puts_within v n c rest (both (expr_within v e) (block_within v n rest) (both (nat_lt x v) _ within).1).1 puts
puts_within v n c (PutThen e d rest) within puts =
    let inner = both (nat_lt d n) (block_within v n rest) (both (expr_within v e) _ within).1 in
    at inner.0 (puts_within v n c rest inner.1) (either (d == c) (block_puts c rest) puts)
  where
    at : nat_lt d n ≡ true → (block_puts c rest ≡ true → c < n) → ((d == c) ≡ true) ⊎ (block_puts c rest ≡ true) → c < n
    at below later (inl same) = subst (λ (k : ℕ). k < n) (is_same d c same) (is_less d n below)
    at below later (inr more) = later more
puts_within v n c (StopThen rest) within puts = puts_within v n c rest within puts
puts_within v n c (IfThen test first second rest) within puts =
    let one = both (block_within v n first) _ (both (expr_within v test) _ within).1 in
    let two = both (block_within v n second) (block_within v n rest) one.1 in
    at (puts_within v n c first one.0) (puts_within v n c second two.0) (puts_within v n c rest two.1)
    (either (block_puts c first) (block_puts c second || block_puts c rest) puts)
  where
    at : (block_puts c first ≡ true → c < n) → (block_puts c second ≡ true → c < n) → (block_puts c rest ≡ true → c < n)
        → (block_puts c first ≡ true) ⊎ ((block_puts c second || block_puts c rest) ≡ true) → c < n
    at in_first in_second in_rest (inl here) = in_first here
    at in_first in_second in_rest (inr past) = by (either (block_puts c second) (block_puts c rest) past)
      where
        by : (block_puts c second ≡ true) ⊎ (block_puts c rest ≡ true) → c < n
        by (inl here) = in_second here
        by (inr later) = in_rest later
puts_within v n c (RepeatThen times body rest) within puts =
    let parts = both (block_within v n body) (block_within v n rest) within in
    at (puts_within v n c body parts.0) (puts_within v n c rest parts.1)
    (either (block_puts c body) (block_puts c rest) puts)
  where
    at : (block_puts c body ≡ true → c < n) → (block_puts c rest ≡ true → c < n)
        → (block_puts c body ≡ true) ⊎ (block_puts c rest ≡ true) → c < n
    at in_body in_rest (inl here) = in_body here
    at in_body in_rest (inr later) = in_rest later

body_puts_within : (v n c : ℕ) (b : Option Block) → body_within v n b ≡ true → body_puts c b ≡ true → c < n
body_puts_within v n c None within puts = absurd (cc)
body_puts_within v n c (Some b) within puts = puts_within v n c b within puts

code_puts_within : (n c : ℕ) (code : Code) → IsValidCode n code → code_puts c code ≡ true → c < n
code_puts_within n c code valid puts =
    at (either (block_puts c code.prelude) (body_puts c code.body) puts)
  where
    at : (block_puts c code.prelude ≡ true) ⊎ (body_puts c code.body ≡ true) → c < n
    at (inl here) = puts_within (length code.vars) n c code.prelude valid.prelude_within here
    at (inr later) = body_puts_within (length code.vars) n c code.body valid.body_within later

sends_first : (c : ℕ) (item : ℤ) (later : List ℤ) → sent_by c (Sent c item) later ≡ item ∷ later
sends_first c item later = ap (λ (b : Bool). cond b (item ∷ later) later) (same c)
  where
    same : (n : ℕ) → (n == n) ≡ true
    same n = grind (arith, nat_tests)

-- an act of a process that puts is a put of its text
pub puts_where_sent : (code : Code) (here : List (List ℤ)) (done later : List Step) (step : Step) (c : ℕ) (item : ℤ)
    → (process_trace code here).steps ≡ done ++ step ∷ later → step.act ≡ Sent c item → IsTrue (code_puts c code)
puts_where_sent code here done later step c item is sends = at (code_puts c code) refl
  where
    at : (b : Bool) → code_puts c code ≡ b → code_puts c code ≡ true
    at true e = e
    at false e =
        let none : [] ≡ sent_on c done ++ sent_on c (step ∷ later) =
        sym (silent code here c e) ∙ (ap (sent_on c) is ∙ sent_on-append c done (step ∷ later)) in
        let first : sent_on c (step ∷ later) ≡ item ∷ sent_on c later =
        ap (λ (a : Act). sent_by c a (sent_on c later)) sends ∙ sends_first c item (sent_on c later) in
        absurd (no_item (sent_on c done) (sent_on c later) (none ∙ ap (λ (x : List ℤ). sent_on c done ++ x) first))
      where
        no_item : (xs ys : List ℤ) → [] ≡ xs ++ item ∷ ys → ⊥
        no_item [] ys bad = absurd (cc)
        no_item (x ∷ xs) ys bad = absurd (cc)

-- so it is within the network
pub puts_here : (n : ℕ) (code : Code) (here : List (List ℤ)) (done later : List Step) (step : Step) (c : ℕ) (item : ℤ)
    → IsValidCode n code → (process_trace code here).steps ≡ done ++ step ∷ later → step.act ≡ Sent c item → c < n
puts_here n code here done later step c item valid is sends =
    code_puts_within n c code valid (puts_where_sent code here done later step c item is sends)
