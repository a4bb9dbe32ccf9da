-- Turns of a run by turns.
use Rattle.std.proofs.Common.{◌≡◌, ◌≢◌, ◌+◌, ◌<◌, ◌≤◌, ◌%◌, ◌∙◌, ℕ, zero, suc, Bool, true, false, cond, not, List, [], ◌∷◌, length, Option, Some, None, slice_get}
use Rattle.std.proofs.Common.{refl, sym, ap, subst, arith}
use Rattle.std.specs.Prelude.{◌==◌, OnOk, Result, Ok, Err, if◌then◌else◌, nat_le}
use Rattle.std.proofs.lemmas.Bool.{lt-ltb}
use Rattle.std.proofs.lemmas.Option.{slice_get_past, slice_get_within}
use Rattle.std.proofs.Math.Nat.{mod-eq_of_lt, mod-lt, mod_self, suc-mod, zero-lt-suc}
use Rattle.protocol.specs.Node.Common.{RecordView}
use Rattle.protocol.specs.World.Common.{WorldView}
use Rattle.replay.specs.Armed.{ArmedView}
use Rattle.replay.specs.Replay.{is_before, is_line_late}
use Rattle.replay.specs.declared.kept.NextTurn.{NextTurn}
use Rattle.replay.specs.declared.kept.ScriptedEvent.{ScriptedEvent}
use Rattle.replay.specs.declared.kept.RunEvent.{RunEvent}
use Rattle.run_log.specs.Turns.{Due, Early, IsFault, IsTurn, NextLine, Over, is_due as due, next_line, next_line_by, passed_then}
use Rattle.run_log.specs.declared.answer.FaultAnswer.{FaultAnswer}
use Rattle.run_log.specs.declared.answer.FaultAnswer.TheVariants as fault
use Rattle.run_log.specs.declared.answer.TurnAnswer.{TurnAnswer}
use Rattle.run_log.specs.declared.answer.TurnAnswer.TheVariants as turn
use Rattle.station.specs.ReplyView.{Reply, reply_view}
use Rattle.runtime.specs.Beginning.{first_lines}
use Rattle.runtime.specs.Ending.{goes_on}
use Rattle.runtime.specs.Turning.{AreLate, AreTaken, ArePassed, CameTo, EndsByTurns, Follows, IsLineBefore, IsLinePassed, IsNodeTurn, IsPassedBy, IsTurnBy}
use Rattle.runtime.specs.Turning.{Progress, TakesTurns, is_late, progress, turn_node, was_passed}
use Rattle.replay.specs.Armed.{armed_at_first}
use Rattle.runtime.specs.declared.ending.RunEnd.{RunEnd}
use Rattle.runtime.specs.declared.ending.RunEnd.TheVariants.{Complete, Rounds, Items, Refused, Stopped}

-- ---- whose turn comes next

among : (m turn : ℕ) → turn_node (suc m) turn ≡ turn % suc m
among m turn = ap (λ (b : Bool). cond b (turn % suc m) 0) (lt-ltb 0 (suc m) (zero-lt-suc m))

pub next_node : (nodes node turn : ℕ) → node ≡ turn_node nodes turn
    → (node + 1 < nodes → node + 1 ≡ turn_node nodes (turn + 1)) × (nodes ≤ node + 1 → 0 ≡ turn_node nodes (turn + 1))
next_node zero node turn is = ((λ lt. omega (arith, lt)), (λ le. refl))
next_node (suc m) node turn is =
    let now : turn % suc m ≡ node = sym (among m turn) ∙ sym is in
    let next : turn + 1 ≡ suc turn = omega arith in
    let step : turn_node (suc m) (turn + 1) ≡ suc node % suc m =
    among m (turn + 1) ∙ (ap (λ (t : ℕ). t % suc m) next
    ∙ (suc-mod turn (suc m) ∙ ap (λ (r : ℕ). suc r % suc m) now)) in
    let below : node < suc m = subst (λ (r : ℕ). r < suc m) now (mod-lt turn (zero-lt-suc m)) in (
      (λ lt.
          let within : suc node < suc m = omega (arith, lt) in
          let sum : suc node ≡ node + 1 = omega arith in
          sym (step ∙ (mod-eq_of_lt within ∙ sum))),
      (λ le.
          let last : suc node ≡ suc m = omega (arith, le, below) in
          sym (step ∙ (ap (λ (r : ℕ). r % suc m) last ∙ mod_self (suc m)))),
    )

-- the first turn is node 0's
pub first_node : (nodes : ℕ) → 0 ≡ turn_node nodes 0
first_node zero = refl
first_node (suc m) = sym (among m 0 ∙ mod-eq_of_lt (zero-lt-suc m))

-- ---- a line of the script

same_progress : (old new : ArmedView) (passed now : ℕ) → new ≡ old → now ≡ passed → progress new now ≡ progress old passed
same_progress old new passed now armed count = ap (λ (a : ArmedView). progress a now) armed ∙ ap (progress old) count

-- the driver's turn, as its answer tells it
pub line_passed : (fits : List (RecordView → Bool)) (script : List ScriptedEvent) (passed now : ℕ) (old new : ArmedView) (answer : FaultAnswer)
    → answer ≢ fault.Stopped → IsFault fits script passed answer old new → now ≡ passed_then answer passed
    → IsLinePassed fits script (progress old passed) (progress new now)
line_passed fits script passed now old new (fault.Reply reply) runs played count =
    subst (λ (next : NextLine). IsPassedBy next fits (progress old passed) (progress new now)) (sym played.1)
    (reply_view reply, played.2, count)
line_passed fits script passed now old new fault.NotYet runs played count =
    subst (λ (next : NextLine). IsPassedBy next fits (progress old passed) (progress new now)) (sym played.0)
    (same_progress old new passed now played.1 count)
line_passed fits script passed now old new fault.NoMore runs played count =
    subst (λ (next : NextLine). IsPassedBy next fits (progress old passed) (progress new now)) (sym played.0)
    (same_progress old new passed now played.1 count)
line_passed fits script passed now old new fault.Stopped runs played count = absurd (runs refl)

passed_none : (next : NextLine) (fits : List (RecordView → Bool)) (now : Progress) → due next ≡ false → IsPassedBy next fits now now
passed_none (Due event) fits now none = absurd (cc)
passed_none Early fits now none = refl
passed_none Over fits now none = refl

-- where no line is due
pub none_passed : (fits : List (RecordView → Bool)) (script : List ScriptedEvent) (now : Progress)
    → due (next_line script now.passed now.armed.world.round) ≡ false → IsLinePassed fits script now now
none_passed fits script now none = passed_none (next_line script now.passed now.armed.world.round) fits now none

-- ---- the lines of round 0

zero_is : (n : ℕ) → (n == 0) ≡ true → n ≡ 0
zero_is n is = grind arith

due_at_once : (line : ScriptedEvent) (round : ℕ) → line.round ≡ 0 → next_line_by round (Some line) ≡ Due line.event
due_at_once line round none = at (nat_le line.round round) refl
  where
    at : (b : Bool) → nat_le line.round round ≡ b → (if b then Due line.event else Early) ≡ Due line.event
    at true asked = refl
    at false asked = absurd (grind arith)

first_by : (line : ScriptedEvent) (rest : List ScriptedEvent) (passed round : ℕ) (b : Bool) → (line.round == 0) ≡ b
    → passed < (if b then suc (first_lines rest) else 0)
    → ((k : ℕ) → k < first_lines rest → (event : RunEvent) × (next_line rest k round ≡ Due event))
    → (event : RunEvent) × (next_line (line ∷ rest) passed round ≡ Due event)
first_by line rest passed round false is few further = absurd (omega (arith, few))
first_by line rest zero round true is few further = (line.event, due_at_once line round (zero_is line.round is))
first_by line rest (suc k) round true is few further = let fewer : k < first_lines rest = omega (arith, few) in further k fewer

first_due : (script : List ScriptedEvent) (passed round : ℕ) → passed < first_lines script
    → (event : RunEvent) × (next_line script passed round ≡ Due event)
first_due [] passed round few = absurd (omega (arith, few))
first_due (line ∷ rest) passed round few =
    first_by line rest passed round (line.round == 0) refl few (λ k fewer. first_due rest k round fewer)

-- one line more was passed
pub one_passed : (fits : List (RecordView → Bool)) (script : List ScriptedEvent) (lines passed now : ℕ) (first : Progress) (old new : ArmedView)
    (answer : FaultAnswer) (reply : Reply) → lines < first_lines script → passed ≡ lines → ArePassed fits script lines first (progress old passed)
    → answer ≡ fault.Reply reply → IsFault fits script passed answer old new → now ≡ passed_then answer passed
    → ArePassed fits script (lines + 1) first (progress new now)
one_passed fits script lines passed now first old new answer reply few at came is played count =
    let next : suc lines ≡ lines + 1 = omega arith in
    let told = subst (λ (a : FaultAnswer). IsFault fits script passed a old new) is played in
    subst (λ (n : ℕ). ArePassed fits script n first (progress new now)) next (
      progress old passed,
      came,
      (told.0, told.1),
      line_passed fits script passed now old new answer (λ stopped. absurd (differs (sym is ∙ stopped))) played count,
    )
  where
    differs : fault.Reply reply ≡ fault.Stopped → ⊥
    differs same = absurd (cc)

pub reply_of : (answer : FaultAnswer) → was_passed answer ≡ true → (reply : Reply) × (answer ≡ fault.Reply reply)
reply_of (fault.Reply reply) is = (reply, refl)
reply_of fault.NotYet is = absurd (cc)
reply_of fault.NoMore is = absurd (cc)
reply_of fault.Stopped is = absurd (cc)

no_reply : (answer : FaultAnswer) (reply : Reply) → was_passed answer ≡ false → answer ≡ fault.Reply reply → ⊥
no_reply answer reply never is = absurd (clash (sym never ∙ ap was_passed is))
  where
    clash : false ≡ true → ⊥
    clash same = absurd (cc)

-- a line of round 0 is due from the beginning on
pub is_due : (fits : List (RecordView → Bool)) (script : List ScriptedEvent) (passed lines : ℕ) (old new : ArmedView) (answer : FaultAnswer)
    → passed ≡ lines → lines < first_lines script → answer ≢ fault.Stopped → IsFault fits script passed answer old new
    → was_passed answer ≡ false → ⊥
is_due fits script passed lines old new (fault.Reply reply) at few runs played other = no_reply (fault.Reply reply) reply other refl
is_due fits script passed lines old new fault.NotYet at few runs played other =
    let within : passed < first_lines script = omega (arith, at, few) in
    let due = first_due script passed old.world.round within in differs due.0 (sym due.1 ∙ played.0)
  where
    differs : (event : RunEvent) → Due event ≡ Early → ⊥
    differs event same = absurd (cc)
is_due fits script passed lines old new fault.NoMore at few runs played other =
    let within : passed < first_lines script = omega (arith, at, few) in
    let due = first_due script passed old.world.round within in differs due.0 (sym due.1 ∙ played.0)
  where
    differs : (event : RunEvent) → Due event ≡ Over → ⊥
    differs event same = absurd (cc)
is_due fits script passed lines old new fault.Stopped at few runs played other = runs refl

-- ---- a turn

-- a turn with an event, and what follows it
pub turn_made : (fits : List (RecordView → Bool)) (script : List ScriptedEvent) (passed node : ℕ) (old between new : ArmedView) (answer : TurnAnswer) (reply : Reply)
    → answer ≡ turn.Reply reply → IsTurn fits script passed node answer old between → Follows fits (reply_view reply) between new
    → IsNodeTurn fits node old new
turn_made fits script passed node old between new answer reply is turned follows =
    let told = subst (λ (a : TurnAnswer). IsTurn fits script passed node a old between) is turned in
    subst (λ (next : NextTurn). IsTurnBy next fits node old new) (sym told.1)
    (record { answer = reply_view reply; between = between; step = told.2; follows = follows })

pub turn_widened : (fits : List (RecordView → Bool)) (script : List ScriptedEvent) (passed node : ℕ) (old new : ArmedView) (answer : TurnAnswer) (channel : ℕ) → answer ≡ turn.Widened channel
    → IsTurn fits script passed node answer old new → IsNodeTurn fits node old new
turn_widened fits script passed node old new answer channel is turned =
    let told = subst (λ (a : TurnAnswer). IsTurn fits script passed node a old new) is turned in
    subst (λ (next : NextTurn). IsTurnBy next fits node old new) (sym told.1) told.2

pub turn_rested : (fits : List (RecordView → Bool)) (script : List ScriptedEvent) (passed node : ℕ) (old new : ArmedView) (answer : TurnAnswer) → answer ≡ turn.Nothing
    → IsTurn fits script passed node answer old new → IsNodeTurn fits node old new
turn_rested fits script passed node old new answer is turned =
    let told = subst (λ (a : TurnAnswer). IsTurn fits script passed node a old new) is turned in
    subst (λ (next : NextTurn). IsTurnBy next fits node old new) (sym told.1) told.2

-- no turn is late where no line is
pub not_late : (fits : List (RecordView → Bool)) (script : List ScriptedEvent) (passed node : ℕ) (old new : ArmedView) (answer : TurnAnswer)
    → answer ≡ turn.Late → is_line_late script passed old.world.round ≡ false → IsTurn fits script passed node answer old new → ⊥
not_late fits script passed node old new answer is in_time turned =
    let told = subst (λ (a : TurnAnswer). IsTurn fits script passed node a old new) is turned in
    let clash : true ≡ false = sym told.0 ∙ in_time in
    cc

-- ---- lines that are late

late_by : (line : ScriptedEvent) (round : ℕ) → is_before round (Some line) ≡ true → next_line_by round (Some line) ≡ Due line.event
late_by line round late = at (nat_le line.round round) refl
  where
    at : (b : Bool) → nat_le line.round round ≡ b → (if b then Due line.event else Early) ≡ Due line.event
    at true asked = refl
    at false asked = absurd (grind arith)

-- a line that is late is passed, so many being left
pub late_line : (fits : List (RecordView → Bool)) (script : List ScriptedEvent) (old new : Progress) → is_late script old ≡ true
    → IsLinePassed fits script old new → (old.passed < length script) × (new.passed ≡ old.passed + 1)
late_line fits script old new late passed = at (slice_get script old.passed) refl
  where
    at : (found : Option ScriptedEvent) → slice_get script old.passed ≡ found → (old.passed < length script) × (new.passed ≡ old.passed + 1)
    at None is = let clash : false ≡ true = ap (is_before old.armed.world.round) (sym is) ∙ late in absurd (cc)
    at (Some line) is =
        let due = late_by line old.armed.world.round (ap (is_before old.armed.world.round) (sym is) ∙ late) in
        let told = subst (λ (next : NextLine). IsPassedBy next fits old new) (ap (next_line_by old.armed.world.round) is ∙ due) passed in
        (slice_get_within script old.passed line is, told.2)

-- where all are passed none is late
pub none_late : (script : List ScriptedEvent) (at : Progress) → length script ≤ at.passed → is_late script at ≡ false
none_late script at past = ap (is_before at.armed.world.round) (slice_get_past script at.passed past)

-- one late line more
pub one_later : (fits : List (RecordView → Bool)) (script : List ScriptedEvent) (lines : ℕ) (first before now : Progress)
    → AreLate fits script lines first before → is_late script before ≡ true → IsLinePassed fits script before now
    → AreLate fits script (lines + 1) first now
one_later fits script lines first before now came late passed =
    let next : suc lines ≡ lines + 1 = omega arith in
    subst (λ (n : ℕ). AreLate fits script n first now) next (before, came, late, passed)

-- one turn more
pub more_turns : (over : WorldView → Bool) (nodes : ℕ) (fits : List (RecordView → Bool)) (script : List ScriptedEvent) (turns : ℕ)
    (first before now : Progress) (after : ArmedView) → CameTo over nodes fits script turns first before
    → over before.armed.world ≡ false → IsNodeTurn fits (turn_node nodes turns) before.armed after
    → IsLineBefore fits script (turn_node nodes (turns + 1)) (progress after before.passed) now
    → CameTo over nodes fits script (turns + 1) first now
more_turns over nodes fits script turns first before now after came going turned line =
    let next : suc turns ≡ turns + 1 = omega arith in
    subst (λ (n : ℕ). CameTo over nodes fits script n first now) next (
      before,
      after,
      came,
      going,
      turned,
      subst (λ (n : ℕ). IsLineBefore fits script (turn_node nodes n) (progress after before.passed) now) (sym next) line,
    )

pub not_not : (goes over : Bool) → goes ≡ not over → goes ≡ false → over ≡ true
not_not goes true is told = refl
not_not goes false is told = absurd (clash (sym told ∙ is))
  where
    clash : false ≡ true → ⊥
    clash same = absurd (cc)

pub not_over : (goes over : Bool) → goes ≡ not over → goes ≡ true → over ≡ false
not_over goes false is told = refl
not_over goes true is told = absurd (clash (sym told ∙ is))
  where
    clash : true ≡ false → ⊥
    clash same = absurd (cc)

-- ---- a run

-- what holds of a call that wasn't refused
pub unrefused : {T E : Type 0} (P : Type 0) (result : Result T E) → ((e : E) → result ≡ Err e → ⊥) → OnOk result P → P
unrefused P (Ok value) well holds = holds
unrefused P (Err e) well holds = absurd (well e refl)

-- turns were taken to the end that is told
pub taken_to : (over : WorldView → Bool) (nodes : ℕ) (fits : List (RecordView → Bool)) (script : List ScriptedEvent) (first : Progress)
    (now : ArmedView) (end : RunEnd) → goes_on end ≡ false → TakesTurns over nodes fits script first now
    → AreTaken over nodes fits script first now end
taken_to over nodes fits script first now Complete ended takes = takes
taken_to over nodes fits script first now Rounds ended takes = takes
taken_to over nodes fits script first now Items ended takes = takes
taken_to over nodes fits script first now (Refused fault) ended takes = tt
taken_to over nodes fits script first now Stopped ended takes = absurd (cc)

pub ends_so : (over : WorldView → Bool) (nodes : ℕ) (fits : List (RecordView → Bool)) (script : List ScriptedEvent) (first now : WorldView)
    (armed : ArmedView) (begun : Progress) (end : RunEnd)
    → ArePassed fits script (first_lines script) (progress (armed_at_first first) 0) begun
    → AreTaken over nodes fits script begun armed end → now ≡ armed.world → EndsByTurns over nodes fits script first now end
ends_so over nodes fits script first now armed begun Complete begins takes same =
    record { begun = begun; armed = armed; begins = begins; takes = takes; same = same }
ends_so over nodes fits script first now armed begun Rounds begins takes same =
    record { begun = begun; armed = armed; begins = begins; takes = takes; same = same }
ends_so over nodes fits script first now armed begun Items begins takes same =
    record { begun = begun; armed = armed; begins = begins; takes = takes; same = same }
ends_so over nodes fits script first now armed begun (Refused fault) begins takes same = tt
ends_so over nodes fits script first now armed begun Stopped begins takes same = absurd takes
