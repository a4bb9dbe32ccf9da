-- What a node's turns let leave, and what its marks tell then.
use Rattle.std.proofs.Common.{◌≡◌, ◌≢◌, ◌∙◌, ◌≤◌, ◌<◌, ◌+◌, ◌++◌, ℕ, Bool, true, false, List, [], ◌∷◌}
use Rattle.std.proofs.Common.{Option, refl, sym, ap, subst, arith}
use Rattle.std.specs.Prelude.{◌==◌, IfOk, OnErr, Result, Ok, Err}
use Rattle.std.proofs.lemmas.Bool.Decides.{nat_tests}
use Rattle.marks.specs.Known.{greatest}
use Rattle.marks.specs.Owners.{IsOutputOf}
use Rattle.node_memory.specs.JobView.{shared_view}
use Rattle.protocol.specs.Node.Common.{RecordView}
use Rattle.protocol.specs.World.Common.{IsGrantedAt, released_of}
use Rattle.protocol.specs.declared.reply.Reply.TheVariants as reply
use Rattle.replay.specs.Armed.{ArmedView, OfWorld}
use Rattle.replay.specs.Endings.{may_have_left}
use Rattle.replay.specs.declared.kept.ScriptedEvent.{ScriptedEvent}
use Rattle.replay.proofs.Endings.{only_releases_leave}
use Rattle.run_log.specs.Answers.{IsGrantedIn}
use Rattle.run_log.specs.Turns.{IsTurn}
use Rattle.run_log.specs.declared.answer.TurnAnswer.{TurnAnswer}
use Rattle.run_log.specs.declared.answer.TurnAnswer.TheVariants as turn
use Rattle.station.specs.ReplyView.{Reply, reply_view}
use Rattle.runtime.specs.Marked.{HasLeftAsMuch, IsGrantAt, lets_leave, may_leave_by, may_let_leave, turned_by, turned_of}

-- ---- what leaves by a turn

same_world : (new old : ArmedView) → new.world.stations ≡ old.world.stations → HasLeftAsMuch new.world old.world
same_world new old same channel = ap (released_of channel) same

answer_leaves : (fits : List (RecordView → Bool)) (script : List ScriptedEvent) (passed node : ℕ) (answer : TurnAnswer) (old new : ArmedView)
    → IsTurn fits script passed node answer old new → may_let_leave answer ≡ false → HasLeftAsMuch new.world old.world
answer_leaves fits script passed node (turn.Reply said) old new turned none =
    only_releases_leave fits (OfWorld _) old new (reply_view said) turned.2 none
answer_leaves fits script passed node turn.Nothing old new turned none =
    same_world new old (ap (λ (a : ArmedView). a.world.stations) turned.2)
answer_leaves fits script passed node (turn.Widened channel) old new turned none =
    same_world new old (ap (λ (a : ArmedView). a.world.stations) turned.2)
answer_leaves fits script passed node turn.Late old new turned none =
    same_world new old (ap (λ (a : ArmedView). a.world.stations) turned.1)
answer_leaves fits script passed node turn.Stopped old new turned none =
    same_world new old (ap (λ (a : ArmedView). a.world.stations) turned)

-- a call that is answered so, or refused
pub turn_leaves : {E : Type 0} (fits : List (RecordView → Bool)) (script : List ScriptedEvent) (passed node : ℕ) (result : Result TurnAnswer E)
    (old new : ArmedView) → IfOk result (λ (answer : TurnAnswer). IsTurn fits script passed node answer old new) → OnErr result (new ≡ old)
    → may_leave_by result ≡ false → HasLeftAsMuch new.world old.world
turn_leaves fits script passed node (Ok answer) old new turned refused none =
    answer_leaves fits script passed node answer old new turned none
turn_leaves fits script passed node (Err error) old new turned refused none =
    same_world new old (ap (λ (a : ArmedView). a.world.stations) refused)

-- ---- what a worker makes of an answer

pub same_leaving : (answer : TurnAnswer) → lets_leave (turned_of answer) ≡ may_let_leave answer
same_leaving (turn.Reply said) = of_reply said
  where
    of_reply : (said : Reply) → lets_leave (turned_by said) ≡ may_have_left (reply_view said)
    of_reply (reply.Granted job) = refl
    of_reply (reply.Released left) = refl
    of_reply reply.OutletFailed = refl
    of_reply said = refl
same_leaving turn.Nothing = refl
same_leaving turn.Late = refl
same_leaving (turn.Widened channel) = refl
same_leaving turn.Stopped = refl

pub granted_at : (node : ℕ) (answer : TurnAnswer) → IsGrantedIn node answer → IsGrantAt node (turned_of answer)
granted_at node (turn.Reply said) home = of_reply said home
  where
    of_reply : (said : Reply) → IsGrantedAt node (reply_view said) → IsGrantAt node (turned_by said)
    of_reply (reply.Granted job) home = home (shared_view job) refl
    of_reply (reply.Released left) home = tt
    of_reply reply.OutletFailed home = tt
    of_reply said home = tt
granted_at node turn.Nothing home = tt
granted_at node turn.Late home = tt
granted_at node (turn.Widened channel) home = tt
granted_at node turn.Stopped home = tt

-- ---- marks

-- the last number that was raised is no more than the greatest one
raised_within : (known : List ℕ) (number : ℕ) → number ≤ greatest (known ++ number ∷ [])
raised_within [] number = omega arith
raised_within (first ∷ rest) number =
    let below = raised_within rest number in
    omega (arith, below)

same : (a b : ℕ) → (a == b) ≡ true → a ≡ b
same a b is = grind (arith, nat_tests)

other : (a b : ℕ) → (a == b) ≡ false → a < b + 1 → (a ≢ b) × (a < b)
other a b is within = (grind (arith, nat_tests), grind (arith, nat_tests))

-- what was raised, at the place of the loop
pub raised_at : (new old : ℕ → List ℕ) (left : ℕ → ℕ) (output count place n : ℕ) → output ≡ place → count ≡ left place → place ≡ n
    → new output ≡ old output ++ count ∷ [] → new n ≡ old n ++ left n ∷ []
raised_at new old left output count place n to counts at raised =
    ap new (sym (to ∙ at)) ∙ (raised
    ∙ (ap (λ (k : ℕ). old k ++ count ∷ []) (to ∙ at) ∙ ap (λ (k : ℕ). old n ++ k ∷ []) (counts ∙ ap left at)))

pub others_at : (new old : ℕ → List ℕ) (output place n : ℕ) → output ≡ place → place ≡ n
    → ((channel : ℕ) → channel ≢ output → new channel ≡ old channel) → (channel : ℕ) → channel ≢ n → new channel ≡ old channel
others_at new old output place n to at others channel apart = others channel (λ same. apart (same ∙ (to ∙ at)))

module _ (owners : List (Option ℕ)) (node : Option ℕ) (left : ℕ → ℕ) (old new : ℕ → List ℕ) (n : ℕ)
    (before : (output : ℕ) → output < n → IsOutputOf owners node output → left output ≤ greatest (old output)) where
  -- the mark of one more output is raised
  pub raised_next : new n ≡ old n ++ left n ∷ [] → ((channel : ℕ) → channel ≢ n → new channel ≡ old channel)
      → (output : ℕ) → output < n + 1 → IsOutputOf owners node output → left output ≤ greatest (new output)
  raised_next raised others output within own = at (output == n) refl
    where
      at : (b : Bool) → (output == n) ≡ b → left output ≤ greatest (new output)
      at true is =
          subst (λ (k : ℕ). left k ≤ greatest (new k)) (sym (same output n is))
          (subst (λ (numbers : List ℕ). left n ≤ greatest numbers) (sym raised) (raised_within (old n) (left n)))
      at false is =
          let apart = other output n is within in
          subst (λ (numbers : List ℕ). left output ≤ greatest numbers) (sym (others output apart.0)) (before output apart.1 own)

  -- one channel more is no output of the node
  pub passed_next : (IsOutputOf owners node n → ⊥) → ((channel : ℕ) → new channel ≡ old channel)
      → (output : ℕ) → output < n + 1 → IsOutputOf owners node output → left output ≤ greatest (new output)
  passed_next none stays output within own = at (output == n) refl
    where
      at : (b : Bool) → (output == n) ≡ b → left output ≤ greatest (new output)
      at true is = absurd (none (subst (λ (k : ℕ). IsOutputOf owners node k) (same output n is) own))
      at false is =
          let apart = other output n is within in
          subst (λ (numbers : List ℕ). left output ≤ greatest numbers) (sym (stays output)) (before output apart.1 own)
