-- The prelude, and then one pass of the body after another.
use Rattle.std.proofs.Common.{◌≡◌, ℕ, suc, ◌<◌, Bool, true, List, [], ℤ, Option, Some, refl, sym, ap, subst, ◌∙◌, arith}
use Rattle.std.specs.Prelude.{IsTrue}
use Rattle.kahn_net.specs.Common.{total, Block, is_passing, Trace, End, Ended, Waits, Stopped, trace_of, then_do}
use Rattle.kahn_net.specs.Common.{passes, loop_trace, put_after}
use Rattle.kahn_net.specs.Statements.{from_end}
use Rattle.kahn_net.specs.Laws.Passes.{fewer_left, one_pass}
use Rattle.kahn_net.specs.Laws.Puts.{put_after-append}
use Rattle.stream_eq.specs.Limits.{GoesPast}
use Rattle.stream_eq.specs.Play.{EndsAs, IsPlayed}
use Rattle.stream_eq.proofs.Puts.{past_more}

pub ended_is : (e : End) (r : Bool) (v : List ℤ) (u : List (List ℤ)) → r ≡ true → EndsAs e r v u → e ≡ Ended v u
ended_is (Ended vars unread) r v u is h = let a = h.1 in let b = h.2 in cc
ended_is (Waits s w c) r v u is h = absurd (cc)
ended_is (Stopped w) r v u is h = absurd (cc)

-- a pass that ended leaves fewer items
pub smaller : (site : ℕ) (b : Block) (vars vars' : List ℤ) (unread unread' sent sent' : List (List ℤ)) (r : Bool)
    → r ≡ true → IsTrue (is_passing b) → IsPlayed (trace_of site [] b vars unread) sent sent' r vars' unread'
    → total unread' < total unread
smaller site b vars vars' unread unread' sent sent' r is passing m =
    let fewer = fewer_left site [] b vars unread vars' unread' passing (ended_is _ r vars' unread' is m.end) in
    omega arith

-- the passes after it put what the passes from before it put
pub goes_on : (site : ℕ) (b : Block) (vars vars' : List ℤ) (unread unread' sent sent' : List (List ℤ)) (r : Bool)
    → r ≡ true → IsTrue (is_passing b) → IsPlayed (trace_of site [] b vars unread) sent sent' r vars' unread'
    → put_after (passes (suc (total unread')) site b vars' unread').steps sent'
    ≡ put_after (passes (suc (total unread)) site b vars unread).steps sent
goes_on site b vars vars' unread unread' sent sent' r is passing m =
    let first = (trace_of site [] b vars unread).steps in
    let later = (passes (suc (total unread')) site b vars' unread').steps in
    ap (put_after later) m.put ∙ (sym (put_after-append first later sent)
    ∙ ap (λ (t : Trace). put_after t.steps sent)
    (sym (one_pass site b vars unread vars' unread' passing (ended_is _ r vars' unread' is m.end))))

-- where one ended, what comes after it is put too
pub ended_then : (t : Trace) (go : List ℤ → List (List ℤ) → Trace) (sent sent' sent'' : List (List ℤ)) (r : Bool)
    (v : List ℤ) (u : List (List ℤ)) → r ≡ true → IsPlayed t sent sent' r v u → sent'' ≡ put_after (go v u).steps sent'
    → sent'' ≡ put_after (then_do t go).steps sent
ended_then t go sent sent' sent'' r v u is m e =
    e ∙ (ap (put_after (go v u).steps) m.put
    ∙ (ap (λ (x : Trace). put_after x.steps (put_after t.steps sent))
    (sym (ap (λ (x : End). from_end x go) (ended_is t.end r v u is m.end)))
    ∙ sym (put_after-append t.steps (from_end t.end go).steps sent)))

-- what goes past a limit in the one goes past it whatever comes after
pub past_then : (limits : List ℕ) (t : Trace) (go : List ℤ → List (List ℤ) → Trace) (sent : List (List ℤ))
    → GoesPast limits (put_after t.steps sent) → GoesPast limits (put_after (then_do t go).steps sent)
past_then limits t go sent p =
    subst (GoesPast limits) (sym (put_after-append t.steps (from_end t.end go).steps sent))
    (past_more limits (from_end t.end go).steps (put_after t.steps sent) p)

-- and in what comes after, too
pub then_past : (limits : List ℕ) (t : Trace) (go : List ℤ → List (List ℤ) → Trace) (sent sent' : List (List ℤ))
    (r : Bool) (v : List ℤ) (u : List (List ℤ)) → r ≡ true → IsPlayed t sent sent' r v u
    → GoesPast limits (put_after (go v u).steps sent') → GoesPast limits (put_after (then_do t go).steps sent)
then_past limits t go sent sent' r v u is m p = subst (GoesPast limits) (ended_then t go sent sent' _ r v u is m refl) p

-- under other names for the same
pub played_at : (b b' : Block) (v v' : List ℤ) (u sent sent' : List (List ℤ)) (r : Bool) (w : List ℤ)
    (x : List (List ℤ)) → b ≡ b' → v ≡ v' → IsPlayed (trace_of 0 [] b v u) sent sent' r w x
    → IsPlayed (trace_of 0 [] b' v' u) sent sent' r w x
played_at b b' v v' u sent sent' r w x d e m =
    subst (λ (y : Block). IsPlayed (trace_of 0 [] y v' u) sent sent' r w x) d
    (subst (λ (y : List ℤ). IsPlayed (trace_of 0 [] b y u) sent sent' r w x) e m)

pub trace_at : (b b' : Block) (v v' : List ℤ) (u : List (List ℤ)) → b ≡ b' → v ≡ v'
    → trace_of 0 [] b v u ≡ trace_of 0 [] b' v' u
trace_at b b' v v' u d e = ap (λ (y : Block). trace_of 0 [] y v u) d ∙ ap (λ (y : List ℤ). trace_of 0 [] b' y u) e

pub loop_at : (site : ℕ) (body : Option Block) (b b' : Block) (v : List ℤ) (u : List (List ℤ)) → body ≡ Some b'
    → b ≡ b' → passes (suc (total u)) site b v u ≡ loop_trace site body v u
loop_at site body b b' v u is e =
    ap (λ (y : Block). passes (suc (total u)) site y v u) e ∙ ap (λ (o : Option Block). loop_trace site o v u) (sym is)
