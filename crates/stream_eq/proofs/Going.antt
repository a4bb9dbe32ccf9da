-- One statement after another.
use Rattle.std.proofs.Common.{Vec, Global, ◌-◌, ◌<◌, arith, ◌∷◌}
use Rattle.std.proofs.Common.{◌≡◌, ℕ, suc, ◌+◌, Bool, true, false, List, ℤ, [], ◌++◌, refl, sym, ap, ◌∙◌, subst, append-nil}
use Rattle.kahn_net.specs.Common.{Block, Nothing, RepeatThen, block_of, then_of, Step, Trace, End, Ended, Waits}
use Rattle.kahn_net.specs.Common.{Stopped, trace_of, then_do, rounds, sites_of, put_after}
use Rattle.kahn_net.specs.Laws.Syntax.{repeat_of}
use Rattle.kahn_net.specs.declared.program.Statement.TheViews as view
use Rattle.kahn_net.specs.Statements.{from_end}
use Rattle.kahn_net.specs.declared.program.Statement.{Statement}
use Rattle.kahn_net.specs.Laws.Puts.{put_after-append}
use Rattle.kahn_net.specs.Laws.Traces.{first_then_rest, then_nothing}
use Rattle.stream_eq.specs.Limits.{GoesPast}
use Rattle.stream_eq.specs.Play.{EndsAs, IsPlayed}
use Rattle.stream_eq.proofs.Loops.{ended_is, past_then}

-- what is left to do leads where the first trace leads
pub record Going (first : Trace) (start : List (List ℤ)) (rest : Block) (vars : List ℤ)
    (unread sent : List (List ℤ)) : Type 0 where
  pub site : ℕ
  pub left : List ℕ
  pub put : put_after (trace_of site left rest vars unread).steps sent ≡ put_after first.steps start
  pub end : (trace_of site left rest vars unread).end ≡ first.end

-- the one of two traces is played, and then the other is left to do
module _ (first : Trace) (start : List (List ℤ)) (one : Trace) (behind : List ℤ → List (List ℤ) → Trace)
    {sent sent' : List (List ℤ)} {ended : Bool} {vars' : List ℤ} {unread' : List (List ℤ)}
    (put_in_two : put_after (then_do one behind).steps sent ≡ put_after first.steps start)
    (end_in_two : (then_do one behind).end ≡ first.end) (m : IsPlayed one sent sent' ended vars' unread') where
  -- it ended
  pub goes_behind : ended ≡ true
      → (put_after (behind vars' unread').steps sent' ≡ put_after first.steps start)
      × ((behind vars' unread').end ≡ first.end)
  goes_behind holds =
      let after : from_end one.end behind ≡ behind vars' unread' =
      ap (λ (e : End). from_end e behind) (ended_is one.end ended vars' unread' holds m.end) in (
        ap (put_after (behind vars' unread').steps) m.put
            ∙ (ap (λ (t : Trace). put_after t.steps (put_after one.steps sent)) (sym after)
            ∙ (sym (put_after-append one.steps (from_end one.end behind).steps sent) ∙ put_in_two)),
        ap (λ (t : Trace). t.end) (sym after) ∙ end_in_two,
      )

  -- it didn't, so the whole doesn't
  pub stays_there : {vars'' : List ℤ} {unread'' : List (List ℤ)} → ended ≡ false
      → IsPlayed first start sent' false vars'' unread''
  stays_there {vars''} {unread''} fails = at one.end refl m.end
    where
      put_is : (from_end one.end behind).steps ≡ [] → sent' ≡ put_after first.steps start
      put_is none =
          m.put
          ∙ (ap (λ (x : List Step). put_after x sent)
          (sym (append-nil one.steps) ∙ ap (λ (x : List Step). one.steps ++ x) (sym none)) ∙ put_in_two)

      end_is : (e : End) → one.end ≡ e → (from_end e behind).end ≡ first.end
      end_is e same = ap (λ (x : End). (from_end x behind).end) (sym same) ∙ end_in_two

      at : (e : End) → one.end ≡ e → EndsAs e ended vars' unread' → IsPlayed first start sent' false vars'' unread''
      at (Ended w x) same h = absurd (cc)
      at (Waits p w c) same h =
          record {
            put = put_is (ap (λ (x : End). (from_end x behind).steps) same);
            end =
                subst (λ (d : End). EndsAs d false vars'' unread'') (end_is (Waits p w c) same) refl;
          }
      at (Stopped w) same h =
          record {
            put = put_is (ap (λ (x : End). (from_end x behind).steps) same);
            end =
                subst (λ (d : End). EndsAs d false vars'' unread'') (end_is (Stopped w) same) refl;
          }

-- one statement is played, and then the rest is left to do
module _ {first : Trace} {start : List (List ℤ)} (s : Statement) (rest : Block) {vars : List ℤ}
    {unread sent : List (List ℤ)} (g : Going first start (then_of s rest) vars unread sent)
    {ended : Bool} {vars' : List ℤ} {unread' sent' : List (List ℤ)}
    (played : (site : ℕ) (left : List ℕ)
    → IsPlayed (trace_of site left (then_of s Nothing) vars unread) sent sent' ended vars' unread') where
  abbrev one : Trace
  one = trace_of g.site g.left (then_of s Nothing) vars unread

  abbrev behind : List ℤ → List (List ℤ) → Trace
  behind = trace_of (g.site + sites_of (then_of s Nothing)) g.left rest

  in_two : trace_of g.site g.left (then_of s rest) vars unread ≡ then_do one behind
  in_two = first_then_rest g.site g.left s rest vars unread

  put_in_two : put_after (then_do one behind).steps sent ≡ put_after first.steps start
  put_in_two = ap (λ (t : Trace). put_after t.steps sent) (sym in_two) ∙ g.put

  end_in_two : (then_do one behind).end ≡ first.end
  end_in_two = ap (λ (t : Trace). t.end) (sym in_two) ∙ g.end

  -- it ended
  pub goes_further : ended ≡ true → Going first start rest vars' unread' sent'
  goes_further holds =
      let there = goes_behind first start one behind put_in_two end_in_two (played g.site g.left) holds in
      record {
        site = g.site + sites_of (then_of s Nothing);
        left = g.left;
        put = there.0;
        end = there.1;
      }

  -- it didn't, so the whole doesn't
  pub stays : {vars'' : List ℤ} {unread'' : List (List ℤ)} → ended ≡ false
      → IsPlayed first start sent' false vars'' unread''
  stays {vars''} {unread''} fails =
      stays_there first start one behind put_in_two end_in_two (played g.site g.left) {vars'' = vars''} {unread'' = unread''} fails

-- so many passes are left to do, which lead where the first trace leads
pub record GoingRound (first : Trace) (start : List (List ℤ)) (n : ℕ)
    (pass : ℕ → List ℤ → List (List ℤ) → Trace) (vars : List ℤ) (unread sent : List (List ℤ)) : Type 0 where
  pub put : put_after (rounds n pass vars unread).steps sent ≡ put_after first.steps start
  pub end : (rounds n pass vars unread).end ≡ first.end

pub round_at : {first : Trace} {start : List (List ℤ)} {n m : ℕ} {pass : ℕ → List ℤ → List (List ℤ) → Trace}
    {vars : List ℤ} {unread sent : List (List ℤ)} → n ≡ m → GoingRound first start n pass vars unread sent
    → GoingRound first start m pass vars unread sent
round_at {first} {start} {n} {m} {pass} {vars} {unread} {sent} e g =
    subst (λ (k : ℕ). GoingRound first start k pass vars unread sent) e g

pub round_further : {first : Trace} {start : List (List ℤ)} {n : ℕ} {pass : ℕ → List ℤ → List (List ℤ) → Trace}
    {vars vars' : List ℤ} {unread unread' sent sent' : List (List ℤ)} {ended : Bool}
    → GoingRound first start (suc n) pass vars unread sent
    → IsPlayed (pass (suc n) vars unread) sent sent' ended vars' unread' → ended ≡ true
    → GoingRound first start n pass vars' unread' sent'
round_further {first = first} {start = start} {n = n} {pass = pass} {vars = vars} {unread = unread} g m holds =
    let there = goes_behind first start (pass (suc n) vars unread) (rounds n pass) g.put g.end m holds in
    record { put = there.0; end = there.1 }

pub round_stays : {first : Trace} {start : List (List ℤ)} {n : ℕ} {pass : ℕ → List ℤ → List (List ℤ) → Trace}
    {vars vars' vars'' : List ℤ} {unread unread' unread'' sent sent' : List (List ℤ)} {ended : Bool}
    → GoingRound first start (suc n) pass vars unread sent
    → IsPlayed (pass (suc n) vars unread) sent sent' ended vars' unread' → ended ≡ false
    → IsPlayed first start sent' false vars'' unread''
round_stays {first = first} {start = start} {n = n} {pass = pass} {vars = vars} {vars'' = vars''} {unread = unread} {unread'' = unread''} g m fails =
    stays_there first start (pass (suc n) vars unread) (rounds n pass) g.put g.end m {vars'' = vars''} {unread'' = unread''} fails

pub round_past : {first : Trace} {start : List (List ℤ)} {n : ℕ} {pass : ℕ → List ℤ → List (List ℤ) → Trace}
    {vars : List ℤ} {unread sent : List (List ℤ)} (limits : List ℕ)
    → GoingRound first start (suc n) pass vars unread sent
    → GoesPast limits (put_after (pass (suc n) vars unread).steps sent)
    → GoesPast limits (put_after first.steps start)
round_past {n = n} {pass = pass} {vars = vars} {unread = unread} {sent = sent} limits g past =
    subst (GoesPast limits) g.put (past_then limits (pass (suc n) vars unread) (rounds n pass) sent past)

-- all passes were made
pub round_ended : {first : Trace} {start : List (List ℤ)} {n : ℕ} {pass : ℕ → List ℤ → List (List ℤ) → Trace}
    {vars : List ℤ} {unread sent : List (List ℤ)} → n ≡ 0 → GoingRound first start n pass vars unread sent
    → IsPlayed first start sent true vars unread
round_ended {first} {start} {n} {pass} {vars} {unread} {sent} e g =
    let last = round_at e g in
    record {
      put = last.put;
      end = subst (λ (d : End). EndsAs d true vars unread) last.end (refl, refl, refl);
    }

-- what a statement puts past a limit is past it whatever comes behind
pub past_behind : {first : Trace} {start : List (List ℤ)} (s : Statement) (rest : Block) {vars : List ℤ}
    {unread sent : List (List ℤ)} (limits : List ℕ) (g : Going first start (then_of s rest) vars unread sent)
    → ((site : ℕ) (left : List ℕ)
    → GoesPast limits (put_after (trace_of site left (then_of s Nothing) vars unread).steps sent))
    → GoesPast limits (put_after first.steps start)
past_behind {first} {start} s rest {vars} {unread} {sent} limits g past =
    subst (GoesPast limits)
    (ap (λ (t : Trace). put_after t.steps sent) (sym (first_then_rest g.site g.left s rest vars unread)) ∙ g.put)
    (past_then limits (trace_of g.site g.left (then_of s Nothing) vars unread)
    (trace_of (g.site + sites_of (then_of s Nothing)) g.left rest) sent (past g.site g.left))

pub going_at : {first : Trace} {start : List (List ℤ)} {b b' : Block} {vars : List ℤ} {unread sent : List (List ℤ)}
    → Going first start b vars unread sent → b ≡ b' → Going first start b' vars unread sent
going_at {first} {start} {b} {b'} {vars} {unread} {sent} g d =
    subst (λ (x : Block). Going first start x vars unread sent) d g

-- one round less
pub one_less : (n i : ℕ) → i < n → n - i ≡ suc (n - (i + 1))
one_less n i less = omega (arith, less)

-- what a repetition does is its passes
pub takes_rounds : (s : Statement) (times : ℕ) (body : Vec Statement Global) (ones : List Statement)
    → s ≡ view.Repeat times body → ones ≡ body.items
    → (site : ℕ) (left : List ℕ) (v : List ℤ) (u : List (List ℤ))
    → trace_of site left (then_of s Nothing) v u
    ≡ rounds times (λ k. trace_of site (left ++ k ∷ []) (block_of ones)) v u
takes_rounds s times body ones is same site left v u =
    ap (λ (b : Block). trace_of site left b v u)
    (ap (λ (x : Statement). then_of x Nothing) is ∙ repeat_of times body Nothing
    ∙ ap (λ (l : List Statement). RepeatThen times (block_of l) Nothing) (sym same))
    ∙ then_nothing (rounds times (λ k. trace_of site (left ++ k ∷ []) (block_of ones)) v u)
    (site + sites_of (block_of ones)) left
