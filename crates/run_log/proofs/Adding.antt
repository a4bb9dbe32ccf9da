-- A history that goes on.
use Rattle.std.proofs.Common.{◌≡◌, ◌∙◌, ◌⊎◌, ◌++◌, ◌∷◌, [], ℕ, ◌<◌, ◌≤◌, Bool, true, false, List, get_or, length, slice_get, Option, Some, None, refl, sym, ap, subst}
use Rattle.std.proofs.Common.{arith, inl, inr}
use Rattle.std.proofs.Math.Logic.{∥∥₁_map, ∥∥₁_map₂}
use Rattle.std.specs.Prelude.{if◌then◌else◌, nat_le}
use Rattle.replay.specs.declared.kept.RunEvent.{RunEvent}
use Rattle.run_log.specs.Turns.{Due, Early, NextLine, Over, is_due, next_line, next_line_by}
use Rattle.std.proofs.lemmas.Option.{slice_get_cases, slice_get_past}
use Rattle.std.proofs.lemmas.List.Concat.{flat_map-append}
use Rattle.std.proofs.lemmas.List.Sums.{sum_by-append}
use Rattle.protocol.specs.Node.Common.{RecordView}
use Rattle.protocol.specs.World.Common.{ReplyView, WorldView}
use Rattle.replay.specs.Armed.{ArmedEvent, ArmedView, IsArmedStep, armed_at_first, armed_widened}
use Rattle.replay.specs.Replay.{Happening, Made, Silent, Widened, Happens, IsEventOf, IsNeeded, IsReplay, IsScripted, IsSilence, LeadsTo, is_before, is_line_late}
use Rattle.replay.specs.Replay.{at_first, and_then, passed_by}
use Rattle.replay.specs.Plain.{run_view}
use Rattle.replay.specs.Replies.{kept_reply}
use Rattle.replay.specs.declared.kept.Maker.{Maker}
use Rattle.replay.specs.declared.kept.ScriptedEvent.{ScriptedEvent}
use Rattle.replay.specs.declared.kept.Silence.{Silence}
use Rattle.run_log.specs.Answers.{IsNeededIn, IsReplyIn, IsSilentIn}
use Rattle.run_log.specs.Counts.{numbers_in, events_in, nothings_in, not_yets_in, no_mores_in, IsCounted}
use Rattle.run_log.specs.Happened.{HasHappened, HasRun}
use Rattle.run_log.specs.Added.{IsAdded}
use Rattle.run_log.specs.Lines.{IsWidened, happenings, happenings_of}
use Rattle.run_log.specs.Numbers.{counted}
use Rattle.run_log.specs.declared.history.Line.{Line}
use Rattle.run_log.specs.declared.history.Line.TheVariants as line
use Rattle.run_log.specs.declared.seat_count.Counted.TheVariants as kind
use Rattle.run_log.proofs.Raising.{same_numbers}

abbrev Replays : List (RecordView → Bool) → List ScriptedEvent → WorldView → Bool → List Line → ℕ → ArmedView → Type 0
Replays fits script opening keeps lines passed armed = ∥ HasHappened fits script opening keeps lines passed armed ∥₁

-- nothing is written yet
pub begins : (fits : List (RecordView → Bool)) (script : List ScriptedEvent) (opening : WorldView) (keeps : Bool)
    (armed : ArmedView) (lines : List Line) → lines ≡ [] → armed ≡ armed_at_first opening
    → Replays fits script opening keeps lines 0 armed
begins fits script opening keeps armed lines none same =
    ∣ record { happened = []; run = at_first armed same; written = λ yes. ap happenings none } ∣₁

-- an event
pub makes : (fits here : List (RecordView → Bool)) (script : List ScriptedEvent) (opening : WorldView) (keeps writes : Bool)
    (before now : List Line) (passed after : ℕ) (old new : ArmedView) (maker : Maker) (event : ArmedEvent)
    (answer : ReplyView) → Replays fits script opening keeps before passed old → writes ≡ keeps
    → IsEventOf script maker passed old.world event → IsAdded writes maker event answer before now
    → IsArmedStep here event old answer new
    → after ≡ passed_by maker passed → here ≡ fits → Replays fits script opening keeps now after new
makes fits here script opening keeps writes before now passed after old new maker event answer run writing own added step count same =
    let next = Made maker added.kept (kept_reply answer) in
    let made : Happens fits script next passed old new =
    record {
      event = event;
      answer = answer;
      own = own;
      is_kept = added.is_kept;
      is_said = refl;
      step = subst (λ (rooms : List (RecordView → Bool)). IsArmedStep rooms event old answer new) same step;
    } in
    ∥∥₁_map run (λ r. record {
      happened = r.happened ++ next ∷ [];
      run = and_then r.happened (r.happened ++ next ∷ []) next passed after old new r.run made refl count;
      written = λ yes. added.happened (writing ∙ yes)
          ∙ ap (λ (happened : List Happening). happened ++ next ∷ []) (r.written yes);
    })

-- so whoever is told the answer is told of a run
pub tells : (fits here : List (RecordView → Bool)) (script : List ScriptedEvent) (opening : WorldView) (keeps writes : Bool)
    (before now : List Line) (passed : ℕ) (old new : ArmedView) (maker : Maker) (event : ArmedEvent) (answer : ReplyView)
    → Replays fits script opening keeps before passed old
    → IsEventOf script maker passed old.world event → IsAdded writes maker event answer before now
    → IsArmedStep here event old answer new → here ≡ fits → ∥ IsReplyIn fits script opening maker answer ∥₁
tells fits here script opening keeps writes before now passed old new maker event answer run own added step same =
    ∥∥₁_map run (λ r. record {
      before = r.happened;
      passed = passed;
      old = old;
      new = new;
      kept = added.kept;
      said = kept_reply answer;
      run = r.run;
      made = record {
        event = event;
        answer = answer;
        own = own;
        is_kept = added.is_kept;
        is_said = refl;
        step = subst (λ (rooms : List (RecordView → Bool)). IsArmedStep rooms event old answer new) same step;
      };
      answered = refl;
    })

pub tells_silence : (fits : List (RecordView → Bool)) (script : List ScriptedEvent) (opening : WorldView) (keeps : Bool)
    (lines : List Line) (passed : ℕ) (armed : ArmedView) (reason : Silence) → Replays fits script opening keeps lines passed armed
    → ∥ IsSilence script reason passed armed.world ∥₁ → ∥ IsSilentIn fits script opening reason ∥₁
tells_silence fits script opening keeps lines passed armed reason run silent =
    ∥∥₁_map₂ run silent (λ r said.
    record { before = r.happened; passed = passed; old = armed; run = r.run; silence = said })

pub tells_need : (fits : List (RecordView → Bool)) (script : List ScriptedEvent) (opening : WorldView) (keeps : Bool)
    (lines : List Line) (passed : ℕ) (armed : ArmedView) (channel : ℕ) → Replays fits script opening keeps lines passed armed
    → IsNeeded channel armed.world → ∥ IsNeededIn fits script opening channel ∥₁
tells_need fits script opening keeps lines passed armed channel run needed =
    ∥∥₁_map run (λ r. record { before = r.happened; passed = passed; old = armed; run = r.run; needed = needed })

-- more room for a channel
pub widens : (fits : List (RecordView → Bool)) (script : List ScriptedEvent) (opening : WorldView) (keeps writes : Bool)
    (before now : List Line) (passed : ℕ) (old new : ArmedView) (channel : ℕ)
    → Replays fits script opening keeps before passed old → writes ≡ keeps → IsNeeded channel old.world
    → (writes ≡ true → IsWidened channel before now) → new ≡ armed_widened channel old
    → Replays fits script opening keeps now passed new
widens fits script opening keeps writes before now passed old new channel run writing needed added wider =
    let next = Widened channel in
    ∥∥₁_map run (λ r. record {
      happened = r.happened ++ next ∷ [];
      run = and_then r.happened (r.happened ++ next ∷ []) next passed passed old new r.run (needed, wider) refl refl;
      written = λ yes. ap happenings (added (writing ∙ yes))
          ∙ (flat_map-append happenings_of before (line.Widened channel ∷ [])
          ∙ ap (λ (happened : List Happening). happened ++ next ∷ []) (r.written yes));
    })

pub numbers_widened : (before now : List Line) (stops channel : ℕ) → IsWidened channel before now
    → numbers_in now stops ≡ counted kind.Entry (numbers_in before stops)
numbers_widened before now stops channel added =
    let one = line.Widened channel ∷ [] in
    ap (λ (lines : List Line). numbers_in lines stops) added
    ∙ same_numbers _ _ _ _ _ _ _ _ _ _ (omega (arith, sum_by-append events_in before one))
    (omega (arith, sum_by-append nothings_in before one)) (omega (arith, sum_by-append not_yets_in before one))
    (omega (arith, sum_by-append no_mores_in before one)) refl

-- an answer without one
pub stays_silent : (fits : List (RecordView → Bool)) (script : List ScriptedEvent) (opening : WorldView) (keeps writes : Bool)
    (before now : List Line) (passed : ℕ) (armed : ArmedView) (reason : Silence)
    → Replays fits script opening keeps before passed armed → writes ≡ keeps → ∥ IsSilence script reason passed armed.world ∥₁
    → (writes ≡ true → IsCounted reason before now)
    → Replays fits script opening keeps now passed armed
stays_silent fits script opening false writes before now passed armed reason run writing silent counted =
    ∥∥₁_map run (λ r. record { happened = r.happened; run = r.run; written = λ never. absurd (cc) })
stays_silent fits script opening true writes before now passed armed reason run writing silent counted =
    by (counted writing).lines
  where
    by : ((happenings now ≡ happenings before) ⊎ (happenings now ≡ happenings before ++ Silent reason ∷ []))
        → Replays fits script opening true now passed armed
    by (inl same) = ∥∥₁_map run (λ r. record { happened = r.happened; run = r.run; written = λ yes. same ∙ r.written yes })
    by (inr longer) =
        ∥∥₁_map₂ run silent (λ r said. record {
          happened = r.happened ++ Silent reason ∷ [];
          run = and_then r.happened (r.happened ++ Silent reason ∷ []) (Silent reason) passed passed armed armed r.run (said, refl)
              refl refl;
          written = λ yes. longer ∙ ap (λ (happened : List Happening). happened ++ Silent reason ∷ []) (r.written yes);
        })

pub runs : (fits : List (RecordView → Bool)) (script : List ScriptedEvent) (opening : WorldView) (keeps : Bool) (armed : ArmedView)
    (lines : List Line) (passed : ℕ) → Replays fits script opening keeps lines passed armed
    → HasRun fits script opening armed.world
runs fits script opening keeps armed lines passed run =
    ∥∥₁_map run (λ r. (r.happened, ∣ (passed, armed, r.run, refl) ∣₁))

-- where it is written it is what the lines say
as_written : (fits : List (RecordView → Bool)) (script : List ScriptedEvent) (opening : WorldView) (keeps : Bool) (armed : ArmedView)
    (lines : List Line) (passed : ℕ) → keeps ≡ true → Replays fits script opening keeps lines passed armed
    → ∥ IsReplay fits script opening (happenings lines) passed armed ∥₁
as_written fits script opening keeps armed lines passed writes run =
    ∥∥₁_map run (λ r. subst (λ (happened : List Happening). IsReplay fits script opening happened passed armed)
    (sym (r.written writes)) r.run)

pub leads : (fits : List (RecordView → Bool)) (script : List ScriptedEvent) (opening : WorldView) (keeps : Bool) (armed : ArmedView)
    (lines : List Line) (passed : ℕ) → Replays fits script opening keeps lines passed armed → keeps ≡ true
    → LeadsTo fits script opening (happenings lines) armed.world
leads fits script opening keeps armed lines passed run writes =
    ∥∥₁_map (as_written fits script opening keeps armed lines passed writes run) (λ r. (passed, armed, r, refl))

-- a line of the script that is due
pub due_line : (script : List ScriptedEvent) (passed round : ℕ) (line : ScriptedEvent) (event : ArmedEvent)
    → slice_get script passed ≡ Some line → line.round ≤ round → event ≡ run_view line.event
    → IsScripted (slice_get script passed) round event
due_line script passed round line event is due same =
    subst (λ (found : Option ScriptedEvent). IsScripted found round event) (sym is) (due, same)

-- where no line is found, so many are passed
pub none_is_left : (script : List ScriptedEvent) (passed : ℕ) → slice_get script passed ≡ None → length script ≤ passed
none_is_left script passed none = by (slice_get_cases script passed).1
  where
    Found : Type 0
    Found = (line : ScriptedEvent) × (passed < length script) × (slice_get script passed ≡ Some line) × (get_or script passed line ≡ line)

    by : (Found ⊎ ((length script ≤ passed) × (slice_get script passed ≡ None))) → length script ≤ passed
    by (inl found) = absurd (clash (sym found.2 ∙ none))
      where
        clash : {line : ScriptedEvent} → Some line ≡ None → ⊥
        clash same = absurd (cc)
    by (inr past) = past.0

-- ---- what comes at the driver's turn

module _ (script : List ScriptedEvent) (passed round : ℕ) where
  found_by : (found : Option ScriptedEvent) → slice_get script passed ≡ found
      → next_line script passed round ≡ next_line_by round found
  found_by found is = ap (next_line_by round) is

  pub line_is_due : (line : ScriptedEvent) → slice_get script passed ≡ Some line → line.round ≤ round
      → next_line script passed round ≡ Due line.event
  line_is_due line is due = found_by (Some line) is ∙ at (nat_le line.round round) refl
    where
      at : (b : Bool) → nat_le line.round round ≡ b → (if b then Due line.event else Early) ≡ Due line.event
      at true asked = refl
      at false asked = absurd (grind arith)

  pub line_is_early : (line : ScriptedEvent) → slice_get script passed ≡ Some line → round < line.round
      → next_line script passed round ≡ Early
  line_is_early line is early = found_by (Some line) is ∙ at (nat_le line.round round) refl
    where
      at : (b : Bool) → nat_le line.round round ≡ b → (if b then Due line.event else Early) ≡ Early
      at true asked = absurd (grind arith)
      at false asked = refl

  pub no_line_is_left : length script ≤ passed → next_line script passed round ≡ Over
  no_line_is_left past = found_by None (slice_get_past script passed past)

  due_by : (b : Bool) (event : RunEvent) → is_due (if b then Due event else Early) ≡ b
  due_by true event = refl
  due_by false event = refl

  -- whether the line that is next is due
  pub told_due : (line : ScriptedEvent) → slice_get script passed ≡ Some line
      → is_due (next_line script passed round) ≡ nat_le line.round round
  told_due line is = ap (λ (next : NextLine). is_due next) (found_by (Some line) is) ∙ due_by (nat_le line.round round) line.event

  -- where none is left none is due
  pub none_due : slice_get script passed ≡ None → is_due (next_line script passed round) ≡ false
  none_due none = ap (λ (next : NextLine). is_due next) (found_by None none)

  -- whether it is late
  pub told_late : (found : Option ScriptedEvent) → slice_get script passed ≡ found
      → is_line_late script passed round ≡ is_before round found
  told_late found is = ap (is_before round) is
