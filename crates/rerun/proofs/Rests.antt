-- Where no process can move and none is about to put, what was put solves the network's equations. So no approximation
-- has more.
use Rattle.std.proofs.Common.{◌≡◌, ◌⊎◌, inl, inr, ℕ, zero, suc, ◌+◌, ◌<◌, ◌≤◌, false, ℤ, List, [], ◌∷◌}
use Rattle.std.proofs.Common.{length}
use Rattle.std.proofs.Common.{take, Option, Some, None, get_or, refl, sym, ap, ◌∙◌, arith}
use Rattle.std.specs.Prelude.{slice_get, slice_index, nat_lt, IsTrue}
use Rattle.std.proofs.lemmas.Bool.Decides.{nat_tests}
use Rattle.std.proofs.lemmas.List.{get_or_past, length-append}
use Rattle.std.proofs.lemmas.Option.{slice_get_within, slice_get_cases, get_or_from_slice_get}
use Rattle.kahn_net.specs.Approximations.{approximation, next_history, output_at}
use Rattle.kahn_net.specs.Fits.{Fits}
use Rattle.kahn_net.specs.Laws.Approximations.{next_histories-at, next_histories_past}
use Rattle.kahn_net.specs.Laws.Got.{reads}
use Rattle.kahn_net.specs.Laws.Prefixes.{prefix_along, prefix_length, prefix_nil, prefix_refl}
use Rattle.kahn_net.specs.Laws.Rests.{IsStuck, acts_at_rest}
use Rattle.kahn_net.specs.Laws.Streams.{monotone}
use Rattle.kahn_net.specs.NextActs.{Next, Begins, Gets, Puts, NoNext, next_of}
use Rattle.kahn_net.specs.Processes.{Standing, process_trace, got_on, sent_on, output_of}
use Rattle.kahn_net.specs.Resuming.{left_after}
use Rattle.kahn_net.specs.Statements.{Step}
use Rattle.kahn_net.specs.Streams.{history_of, IsPrefix, ArePrefixes}
use Rattle.kahn_net.specs.Syntax.{Code, Network}
use Rattle.kahn_net.specs.Valid.{IsValid, code_gets}
use Rattle.kahn_net.specs.declared.program.Channel.{Channel}
use Rattle.kahn_net.specs.declared.program.Port.{Port}
use Rattle.kahn_net.specs.declared.program.Port.TheVariants.{Outside, Process}
use Rattle.protocol.specs.Node.Reached.{first_acts}
use Rattle.rerun.specs.Rerunning.{CountsFit, first_stage}
use Rattle.rerun.specs.Resting.{NoneIsToPut, IsAll, RestsWithAll}
use Rattle.rerun.specs.Soundness.{Comes, StandsSoundly}
use Rattle.rerun.specs.Tables.{TableView, HasRerun, IsAtRest, can_do, can_do_next, count_by, has_more}
use Rattle.rerun.proofs.Counts.{counts}
use Rattle.rerun.proofs.Turning.{begins, goes_on, on_next, put_below, sound_on_next}

-- what was put on each channel, as histories
abbrev listed : (ℕ → List ℤ) → ℕ → List Channel → List (List ℤ)
listed put c [] = []
listed put c (channel ∷ channels) = put c ∷ listed put (suc c) channels

listed_at : (put : ℕ → List ℤ) (k : ℕ) (channels : List Channel) (c : ℕ) (channel : Channel)
    → slice_get channels c ≡ Some channel → history_of (listed put k channels) c ≡ put (k + c)
listed_at put k [] c channel is = absurd (cc)
listed_at put k (x ∷ channels) zero channel is = let first : k ≡ k + 0 = omega arith in ap put first
listed_at put k (x ∷ channels) (suc c) channel is =
    let next : suc k + c ≡ k + suc c = omega arith in listed_at put (suc k) channels c channel is ∙ ap put next

listed_past : (put : ℕ → List ℤ) (k : ℕ) (channels : List Channel) (c : ℕ) → slice_get channels c ≡ None
    → history_of (listed put k channels) c ≡ []
listed_past put k [] c is = refl
listed_past put k (x ∷ channels) zero is = absurd (cc)
listed_past put k (x ∷ channels) (suc c) is = listed_past put (suc k) channels c is

at_least : (a b : ℕ) → nat_lt a b ≡ false → b ≤ a
at_least a b is = grind (arith, nat_tests)

past_of : (channels : List Channel) (c : ℕ) → slice_get channels c ≡ None → length channels ≤ c
past_of channels c is = at (slice_get_cases channels c).1
  where
    at : ((x : Channel) × (c < length channels) × (slice_get channels c ≡ Some x) × (get_or channels c x ≡ x))
        ⊎ ((length channels ≤ c) × (slice_get channels c ≡ None)) → length channels ≤ c
    at (inl here) = absurd (let there = here.2 in cc)
    at (inr past) = past.0

module _ (net : Network) (inputs : List (List ℤ)) (limits : List ℕ) (t : TableView) (valid : IsValid net)
    (fits : Fits net inputs) (rerun : HasRerun net inputs t) (rests : IsAtRest net inputs limits t)
    (none : NoneIsToPut net t) where
  abbrev comes : Comes net inputs 0 (λ p. 0) rerun.stage
  comes = goes_on net inputs 0 (λ p. 0) (first_stage net inputs) rerun.stages rerun.stage valid fits
      (begins net inputs valid fits) rerun.runs

  abbrev whole : List (List ℤ)
  whole = approximation net inputs (suc comes.later)

  abbrev made : ℕ → ℕ
  made = on_next net (approximation net inputs comes.later) comes.acts

  there : StandsSoundly net inputs (suc comes.later) made rerun.stage
  there = sound_on_next net inputs valid fits comes.later comes.acts rerun.stage comes.sound

  fit : CountsFit net rerun.stage
  fit = counts net inputs 0 (λ p. 0) (first_stage net inputs) rerun.stages rerun.stage valid fits
      (begins net inputs valid fits) rerun.runs (λ c q channel is to. omega arith)

  abbrev here : List (List ℤ)
  here = listed rerun.stage.put 0 net.channels

  here_is : (c : ℕ) (channel : Channel) → slice_get net.channels c ≡ Some channel
      → history_of here c ≡ rerun.stage.put c
  here_is c channel is =
      let first : 0 + c ≡ c = omega arith in
      listed_at rerun.stage.put 0 net.channels c channel is ∙ ap rerun.stage.put first

  count_is : (c : ℕ) (channel : Channel) → slice_get net.channels c ≡ Some channel → (port : Port)
      → channel.producer ≡ port → count_by inputs t c port ≡ length (rerun.stage.put c)
  count_is c channel is Outside from = ap (length {A = ℤ}) (sym (rerun.is_at.whole c channel is from))
  count_is c channel is (Process r) from = sym (rerun.is_at.logs c r channel is from).count

  in_whole : ArePrefixes here whole
  in_whole = record { at = λ c. at c (slice_get net.channels c) refl }
    where
      at : (c : ℕ) (o : Option Channel) → slice_get net.channels c ≡ o
          → IsPrefix (history_of here c) (history_of whole c)
      at c None is = prefix_nil _ _ (listed_past rerun.stage.put 0 net.channels c is)
      at c (Some channel) is =
          prefix_along _ _ _ _ (here_is c channel is) refl
          (put_below net inputs valid fits comes.later comes.acts rerun.stage comes.sound c channel is)

  -- ---- one process

  module _ (p : ℕ) (code : Code) (code_is : slice_get net.codes p ≡ Some code) where
    abbrev done : List Step
    done = take (made p) (process_trace code whole).steps

    abbrev standing : Standing
    standing = rerun.stage.standing p

    standing_is : slice_get t.standings p ≡ Some standing
    standing_is = rerun.is_at.standings p (slice_get_within net.codes p code code_is)

    cannot : can_do net.channels inputs limits t (next_of code standing) ≡ false
    cannot =
        sym (ap (λ (o : Option Code). can_do_next net inputs limits t o (slice_get t.standings p)) code_is
        ∙ ap (can_do_next net inputs limits t (Some code)) standing_is) ∙ rests p

    got_is : (c : ℕ) (channel : Channel) → slice_get net.channels c ≡ Some channel → channel.consumer ≡ Process p
        → rerun.stage.got c ≡ length (got_on c done)
    got_is c channel is to =
        there.got c p channel is to
        ∙ ap (λ (o : Option Code). length (got_on c (first_acts o whole (made p)))) code_is

    few : (c : ℕ) → IsTrue (code_gets c code) → length (got_on c done) ≤ length (history_of here c)
    few c gets = at (slice_get net.channels c) refl
      where
        at : (o : Option Channel) → slice_get net.channels c ≡ o → length (got_on c done) ≤ length (history_of here c)
        at None is =
            let nothing : history_of whole c ≡ [] =
            next_histories_past net inputs (approximation net inputs comes.later) c (past_of net.channels c is) in
            let parts = ap (length {A = ℤ}) (sym nothing ∙ reads code whole (made p) c) in
            let sum = length-append (got_on c done) (history_of (left_after done whole) c) in
            omega (arith, parts, sum)
        at (Some channel) is =
            let to = (valid.consumer c p channel code is code_is).0 gets in
            let own = got_is c channel is to in
            let most = fit c p channel is to in
            let all = ap (length {A = ℤ}) (here_is c channel is) in
            omega (arith, own, most, all)

    stuck : IsStuck code here done (next_of code standing)
    stuck = by (next_of code standing) refl cannot
      where
        by : (next : Next) → next_of code standing ≡ next → can_do net.channels inputs limits t next ≡ false
            → IsStuck code here done next
        by Begins is not = absurd (cc)
        by NoNext is not = tt
        by (Puts c) is not = none p c code standing code_is standing_is is
        by (Gets c) is not = λ gets. at gets (slice_get net.channels c) refl not
          where
            at : IsTrue (code_gets c code) → (o : Option Channel) → slice_get net.channels c ≡ o
                → has_more inputs t c o ≡ false → length (history_of here c) ≤ length (got_on c done)
            at gets None there not =
                let nothing : length (history_of here c) ≡ 0 =
                ap (length {A = ℤ}) (listed_past rerun.stage.put 0 net.channels c there) in
                omega (arith, nothing)
            at gets (Some channel) there not =
                let to = (valid.consumer c p channel code there code_is).0 gets in
                let own = got_is c channel there to in
                let got = rerun.is_at.got c (slice_get_within net.channels c channel there) in
                let all = ap (length {A = ℤ}) (here_is c channel there) in
                let count = count_is c channel there channel.producer refl in
                let enough = at_least (slice_index t.got c) (count_by inputs t c channel.producer) not in
                omega (arith, own, got, all, count, enough)

    -- it puts on what was put all that it has put
    puts : (c : ℕ) (channel : Channel) → slice_get net.channels c ≡ Some channel → channel.producer ≡ Process p
        → output_of code here c ≡ rerun.stage.put c
    puts c channel is from =
        ap (sent_on c) (acts_at_rest code here whole (made p) standing (valid.codes p code code_is).passes in_whole
        (there.stands p code code_is) few stuck)
        ∙ sym (there.put c p channel is from
        ∙ ap (λ (o : Option Code). sent_on c (first_acts o whole (made p))) code_is)

  -- ---- all approximations

  first_below : ArePrefixes inputs here
  first_below = record { at = λ c. at c (slice_get net.channels c) refl }
    where
      made_empty : (c q : ℕ) (channel : Channel) → slice_get net.channels c ≡ Some channel
          → channel.producer ≡ Process q → history_of inputs c ≡ []
      made_empty c q channel is from = by (slice_get_cases inputs c).1
        where
          by : ((x : List ℤ) × (c < length inputs) × (slice_get inputs c ≡ Some x) × (get_or inputs c x ≡ x))
              ⊎ ((length inputs ≤ c) × (slice_get inputs c ≡ None)) → history_of inputs c ≡ []
          by (inl one) =
              get_or_from_slice_get inputs c one.0 [] one.2 ∙ fits.inside c channel one.0 is one.2 q from
          by (inr past) = get_or_past inputs c [] past.0

      by_port : (c : ℕ) (channel : Channel) (port : Port) → slice_get net.channels c ≡ Some channel
          → channel.producer ≡ port → IsPrefix (history_of inputs c) (history_of here c)
      by_port c channel Outside is from =
          prefix_along _ _ _ _ refl (here_is c channel is ∙ rerun.is_at.whole c channel is from)
          (prefix_refl (history_of inputs c))
      by_port c channel (Process q) is from = prefix_nil _ _ (made_empty c q channel is from)

      at : (c : ℕ) (o : Option Channel) → slice_get net.channels c ≡ o
          → IsPrefix (history_of inputs c) (history_of here c)
      at c None is =
          let past = past_of net.channels c is in
          prefix_nil _ _ (get_or_past inputs c [] (omega (arith, past, fits.count)))
      at c (Some channel) is = by_port c channel channel.producer is refl

  next_below : (n : ℕ) → ArePrefixes (approximation net inputs n) here
      → ArePrefixes (approximation net inputs (suc n)) here
  next_below n below = record { at = λ c. at c (slice_get net.channels c) refl }
    where
      by_code : (c p : ℕ) (channel : Channel) (o : Option Code) → slice_get net.channels c ≡ Some channel
          → channel.producer ≡ Process p → slice_get net.codes p ≡ o
          → IsPrefix (output_at o (approximation net inputs n) c) (history_of here c)
      by_code c p channel None is from code_is = prefix_nil [] (history_of here c) refl
      by_code c p channel (Some code) is from code_is =
          prefix_along _ _ _ _ refl (here_is c channel is ∙ sym (puts p code code_is c channel is from))
          (monotone code (approximation net inputs n) here c (valid.codes p code code_is).passes below)

      by_port : (c : ℕ) (channel : Channel) (port : Port) → slice_get net.channels c ≡ Some channel
          → channel.producer ≡ port
          → IsPrefix (next_history net.codes inputs (approximation net inputs n) c port) (history_of here c)
      by_port c channel Outside is from = first_below.at c
      by_port c channel (Process p) is from = by_code c p channel (slice_get net.codes p) is from refl

      at : (c : ℕ) (o : Option Channel) → slice_get net.channels c ≡ o
          → IsPrefix (history_of (approximation net inputs (suc n)) c) (history_of here c)
      at c None is =
          prefix_nil _ _ (next_histories_past net inputs (approximation net inputs n) c (past_of net.channels c is))
      at c (Some channel) is =
          prefix_along _ _ _ _ (next_histories-at net inputs (approximation net inputs n) c channel is) refl
          (by_port c channel channel.producer is refl)

  below : (n : ℕ) → ArePrefixes (approximation net inputs n) here
  below zero = first_below
  below (suc n) = next_below n (below n)

  all : IsAll net inputs t
  all n c p channel is from =
      let few = prefix_length (history_of (approximation net inputs n) c) (history_of here c) ((below n).at c) in
      let own = ap (length {A = ℤ}) (here_is c channel is) in
      let count = count_is c channel is (Process p) from in
      omega (arith, few, own, count)

pub rests_with_all : RestsWithAll
rests_with_all net inputs limits t valid fits rerun rests none = all net inputs limits t valid fits rerun rests none
