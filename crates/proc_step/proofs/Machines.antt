-- What one instruction leaves of a turn.
use Rattle.std.proofs.Common.{◌≡◌, ℕ, zero, suc, ◌+◌, ◌<◌, ◌≤◌, drop, set, length, List, ℤ, [], ◌∷◌, ◌++◌, Option, Some}
use Rattle.std.proofs.Common.{◌-◌, true, false, None, refl, sym, ap, ◌∙◌, subst, arith, Vec, Global}
use Rattle.std.specs.Prelude.{slice_get, slice_index, nat_lt}
use Rattle.std.proofs.lemmas.Bool.{lt-ltb, le-ltb}
use Rattle.kahn_net.specs.Common.{Got, Sent, point_at, on_get, Step, Trace, Ended, Stopped, no_steps, history_of}
use Rattle.kahn_net.specs.Common.{put_by, put_after, left_by, left_after}
use Rattle.kahn_net.specs.Statements.{after_step}
use Rattle.kahn_net.specs.Laws.Puts.{length-put_after}
use Rattle.proc_code.specs.declared.instruction.Instruction.{Instruction}
use Rattle.proc_code.specs.declared.instruction.Instruction.TheVariants.{Apply, Get, Put}
use Rattle.kahn_net.specs.Statements.{apply}
use Rattle.kahn_net.specs.declared.program.Operator.{Operator}
use Rattle.proc_code.specs.declared.instruction.Destination.{Destination}
use Rattle.proc_code.specs.declared.instruction.Operand.{Operand}
use Rattle.proc_code.specs.Machine.{behind_value, Continuation, innermost, round_it, perform, run, stack_with, value_in, vars_with}
use Rattle.proc_code.specs.Laws.Blocks.{innermost_is, round_it_is}
use Rattle.proc_step.specs.declared.machine.Flow.{Flow}
use Rattle.proc_step.specs.declared.machine.Flow.TheVariants.{RanOut}
use Rattle.proc_step.specs.declared.machine.Machine.{Machine}
use Rattle.proc_step.specs.Turns.{CanBeMade, CanAllBeMade}
use Rattle.proc_step.specs.Parts.{Part}
use Rattle.proc_step.specs.Stepping.{trace_at, Moved, Quietly, Acting, Stepped, Remains, WentOn, Leaves}

-- an act that could be made, and then a part of what follows
act_first : (x : Step) (t : Trace) (room : List ℕ) (m m' end : Machine) (flow : Flow)
    → CanBeMade x.act room m.unread.items m.sent.items → m'.unread.items ≡ left_by x.act m.unread.items
    → m'.sent.items ≡ put_by x.act m.sent.items → Part t room m'.unread.items m'.sent.items flow end
    → Part (after_step x t) room m.unread.items m.sent.items flow end
act_first x t room m m' end flow can e f p = record {
  done = x ∷ p.done;
  rest = p.rest;
  whole = ap (λ (l : List Step). x ∷ l) p.whole;
  made = (
    can,
    subst (λ (l : List (List ℤ)). CanAllBeMade p.done room l (put_by x.act m.sent.items)) e
        (subst (λ (l : List (List ℤ)). CanAllBeMade p.done room m'.unread.items l) f p.made),
  );
  left = p.left ∙ ap (left_after p.done) e;
  put = p.put ∙ ap (put_after p.done) f;
  stop = p.stop;
}

-- two machines whose ends differ don't make one trace
ends_differ : (t : Trace) → no_steps (Ended [] []) ≡ t → no_steps (Stopped []) ≡ t → ⊥
ends_differ t e f =
    let same : Ended [] [] ≡ Stopped [] = ap (λ (x : Trace). x.end) (e ∙ sym f) in
    absurd (cc)

module _ (code : List Instruction) (room : List ℕ) (m : Machine) where
  abbrev ended : Continuation
  ended = λ p s l v u. no_steps (Ended [] [])

  -- some instruction is left: with none, the trace would be whatever follows
  not_none : (t : Trace) → ((go : Continuation) → trace_at (run code 0 go) m ≡ t) → ⊥
  not_none t is = ends_differ t (is ended) (is (λ p s l v u. no_steps (Stopped [])))

  pub not_through : (whole : Trace) (u0 sent0 : List (List ℤ)) → Remains code 0 room m whole u0 sent0 → ⊥
  not_through whole u0 sent0 h = at h.runs.steps h.runs.gives h.runs.within
    where
      at : (n : ℕ) → ((go : Continuation) → trace_at (run code n go) m ≡ h.trace) → n ≤ 0 → ⊥
      at zero is few = not_none h.trace is
      at (suc n) is few = absurd (omega (arith, few))

  -- the trace is what the instruction here makes
  made_here : (here : Option Instruction) (n : ℕ) (t : Trace) → slice_get code m.place ≡ here
      → ((go : Continuation) → trace_at (run code (suc n) go) m ≡ t)
      → (go : Continuation) → trace_at (perform here (run code n go)) m ≡ t
  made_here here n t e is go = sym (ap (λ (o : Option Instruction). trace_at (perform o (run code n go)) m) e) ∙ is go

  -- past the last instruction the process has ended
  pub runs_out : slice_get code m.place ≡ None → WentOn code 1 room m (Some RanOut) m
  runs_out none = record {
    rooms = refl;
    went = λ whole u0 sent0 more h. at whole u0 sent0 h.trace h.leads h.runs.steps h.runs.gives;
  }
    where
      at : (whole : Trace) (u0 sent0 : List (List ℤ)) (t : Trace)
          → ((flow : Flow) (m' : Machine) → Part t room m.unread.items m.sent.items flow m'
          → Part whole room u0 sent0 flow m')
          → (n : ℕ) → ((go : Continuation) → trace_at (run code n go) m ≡ t) → Part whole room u0 sent0 RanOut m
      at whole u0 sent0 t leads zero is = absurd (not_none t is)
      at whole u0 sent0 t leads (suc n) is =
          leads RanOut m
          (subst (λ (x : Trace). Part x room m.unread.items m.sent.items RanOut m) (made_here None n t none is ended)
          (record { done = []; rest = []; whole = refl; made = tt; left = refl; put = refl; stop = (refl, refl) }))

  -- the instruction here is carried out
  pub carried_out : (i : Instruction) (stop : Option Flow) (m' : Machine) → slice_get code m.place ≡ Some i
      → Stepped i room m stop m' → WentOn code 1 room m stop m'
  carried_out i stop m' here stepped = record {
    rooms = kept stop stepped;
    went = λ whole u0 sent0 more h. by stop stepped whole u0 sent0 more h;
  }
    where
      kept : (stop : Option Flow) → Stepped i room m stop m' → length m'.sent.items ≡ length m.sent.items
      kept None (Quietly quiet e f) = ap (length {A = List ℤ}) f
      kept None (Acting x acts can e f) = ap (length {A = List ℤ}) f ∙ length-put_after (x ∷ []) m.sent.items
      kept (Some flow) part =
          let p = part ended in ap (length {A = List ℤ}) p.put ∙ length-put_after p.done m.sent.items

      stops_at : (flow : Flow) (t whole : Trace) (u0 sent0 : List (List ℤ))
          → ((flow : Flow) (m' : Machine) → Part t room m.unread.items m.sent.items flow m'
          → Part whole room u0 sent0 flow m')
          → ((go : Continuation) → Part (trace_at (perform (Some i) go) m) room m.unread.items m.sent.items flow m')
          → (n : ℕ) → ((go : Continuation) → trace_at (run code n go) m ≡ t) → Part whole room u0 sent0 flow m'
      stops_at flow t whole u0 sent0 leads part zero is = absurd (not_none t is)
      stops_at flow t whole u0 sent0 leads part (suc n) is =
          leads flow m'
          (subst (λ (x : Trace). Part x room m.unread.items m.sent.items flow m')
          (made_here (Some i) n t here is ended) (part (run code n ended)))

      goes_at : (t whole : Trace) (u0 sent0 : List (List ℤ)) (more : ℕ)
          → ((flow : Flow) (m' : Machine) → Part t room m.unread.items m.sent.items flow m'
          → Part whole room u0 sent0 flow m')
          → Moved i room m m'
          → (n : ℕ) → ((go : Continuation) → trace_at (run code n go) m ≡ t) → n ≤ 1 + more
          → Remains code more room m' whole u0 sent0
      goes_at t whole u0 sent0 more leads moved zero is few = absurd (not_none t is)
      goes_at t whole u0 sent0 more leads (Quietly quiet e f) (suc n) is few = record {
        trace = t;
        runs = record {
          steps = n;
          within = omega (arith, few);
          gives = λ go. sym (quiet (run code n go)) ∙ made_here (Some i) n t here is go;
        };
        leads = λ flow end p. leads flow end
            (subst (λ (l : List (List ℤ)). Part t room l m.sent.items flow end) e
            (subst (λ (l : List (List ℤ)). Part t room m'.unread.items l flow end) f p));
      }
      goes_at t whole u0 sent0 more leads (Acting x acts can e f) (suc n) is few =
          let rest : Trace = record { steps = drop 1 t.steps; end = t.end } in
          let first : (go : Continuation) → after_step x (trace_at (run code n go) m') ≡ t =
          λ go. sym (acts (run code n go)) ∙ made_here (Some i) n t here is go in
          let after : (go : Continuation) → trace_at (run code n go) m' ≡ rest =
          λ go. ap (λ (y : Trace). let r : Trace = record { steps = drop 1 y.steps; end = y.end } in r) (first go) in
          let same : after_step x rest ≡ t = sym (ap (after_step x) (after ended)) ∙ first ended in
          record {
            trace = rest;
            runs = record { steps = n; within = omega (arith, few); gives = after };
            leads = λ flow end p. leads flow end
                (subst (λ (y : Trace). Part y room m.unread.items m.sent.items flow end) same
                (act_first x rest room m m' end flow can e f p));
          }

      by : (stop : Option Flow) → Stepped i room m stop m' → (whole : Trace) (u0 sent0 : List (List ℤ)) (more : ℕ)
          → Remains code (1 + more) room m whole u0 sent0 → Leaves code more room stop m' whole u0 sent0
      by None moved whole u0 sent0 more h =
          goes_at h.trace whole u0 sent0 more h.leads moved h.runs.steps h.runs.gives h.runs.within
      by (Some flow) part whole u0 sent0 more h =
          stops_at flow h.trace whole u0 sent0 h.leads part h.runs.steps h.runs.gives

-- what gets and puts do
pub get_moves : (i : Instruction) (x channel site : ℕ) (room : List ℕ) (m : Machine) (item : ℤ) (later : List ℤ)
    (v : Vec ℤ Global) (u : Vec (List ℤ) Global) → i ≡ Get x channel site
    → history_of m.unread.items channel ≡ item ∷ later → u.items ≡ set m.unread.items channel later
    → v.items ≡ set m.variables.items x item
    → Moved i room m (record m { place = m.place + 1; variables = v; unread = u })
get_moves i x channel site room m item later v u is here e f =
    let act : Step =
    record { point = point_at site m.left.items; vars = m.variables.items; act = Got channel item } in
    let s = m.stack in
    Acting act
    (λ go. ap (λ (j : Instruction). trace_at (perform (Some j) go) m) is
    ∙ (ap (λ (h : List ℤ). on_get h act.point channel m.variables.items
    (λ item later. go (m.place + 1) s m.left.items (set m.variables.items x item) (set m.unread.items channel later)))
    here
    ∙ (ap (λ (w : List ℤ). after_step act (go (m.place + 1) s m.left.items w (set m.unread.items channel later)))
    (sym f)
    ∙ ap (λ (w : List (List ℤ)). after_step act (go (m.place + 1) s m.left.items v.items w)) (sym e))))
    (ap (λ (h : List ℤ). slice_get h 0) here)
    (e ∙ ap (λ (h : List ℤ). set m.unread.items channel (drop 1 h)) (sym here)) refl

pub put_moves : (i : Instruction) (channel site : ℕ) (value : Operand) (room : List ℕ) (m : Machine) (s : List ℤ)
    (sent : Vec (List ℤ) Global) → i ≡ Put channel site value
    → length (history_of m.sent.items channel) < slice_index room channel
    → sent.items ≡ set m.sent.items channel (history_of m.sent.items channel ++ value_in value m.stack m.variables.items ∷ [])
    → s ≡ behind_value value m.stack
    → Moved i room m (record m { place = m.place + 1; stack = s; sent = sent })
put_moves i channel site value room m s sent is can e f =
    let act : Step = record {
      point = point_at site m.left.items;
      vars = m.variables.items;
      act = Sent channel (value_in value m.stack m.variables.items);
    } in
    Acting act
    (λ go. ap (λ (j : Instruction). trace_at (perform (Some j) go) m) is
    ∙ ap (λ (w : List ℤ). after_step act (go (m.place + 1) w m.left.items m.variables.items m.unread.items)) (sym f))
    can refl e

-- what an operator does
pub apply_moves : (i : Instruction) (operator : Operator) (left right : Operand) (to : Destination) (room : List ℕ)
    (m : Machine) (s : List ℤ) (v : Vec ℤ Global) → i ≡ Apply operator left right to
    → (let x = apply operator (value_in left (behind_value right m.stack) m.variables.items)
    (value_in right m.stack m.variables.items) in
    (s ≡ stack_with to x (behind_value left (behind_value right m.stack))) × (v.items ≡ vars_with to x m.variables.items))
    → Moved i room m (record m { place = m.place + 1; stack = s; variables = v })
apply_moves i operator left right to room m s v is made =
    Quietly
    (λ go. ap (λ (j : Instruction). trace_at (perform (Some j) go) m) is
    ∙ (ap (λ (w : List ℤ). go (m.place + 1) w m.left.items (vars_with to (apply operator
    (value_in left (behind_value right m.stack) m.variables.items) (value_in right m.stack m.variables.items))
    m.variables.items) m.unread.items) (sym made.0)
    ∙ ap (λ (w : List ℤ). go (m.place + 1) s m.left.items w m.unread.items) (sym made.1)))
    refl refl

-- the stack of passes behind a pass, by what was taken off it
pub more_remain : (l rest : List ℕ) (k : ℕ) → l ≡ rest ++ k ∷ [] → 1 < k
    → (true ≡ nat_lt 1 (innermost l)) × (rest ++ (k - 1) ∷ [] ≡ round_it l ++ (innermost l - 1) ∷ [])
more_remain l rest k e more =
    let last : innermost l ≡ k = ap innermost e ∙ innermost_is rest k in
    let others : round_it l ≡ rest = ap round_it e ∙ round_it_is rest k in (
      sym (ap (nat_lt 1) last ∙ lt-ltb 1 k more),
      sym (ap (λ (m : List ℕ). m ++ (innermost l - 1) ∷ []) others
          ∙ ap (λ (n : ℕ). rest ++ (n - 1) ∷ []) last),
    )

pub none_remain : (l rest : List ℕ) (k : ℕ) → l ≡ rest ++ k ∷ [] → k ≤ 1
    → (false ≡ nat_lt 1 (innermost l)) × (rest ≡ round_it l)
none_remain l rest k e few =
    let last : innermost l ≡ k = ap innermost e ∙ innermost_is rest k in
    (sym (ap (nat_lt 1) last ∙ le-ltb 1 k few), sym (ap round_it e ∙ round_it_is rest k))

pub none_open : (l rest : List ℕ) → l ≡ rest ++ [] → length l ≡ 0
    → (false ≡ nat_lt 1 (innermost l)) × (rest ≡ round_it l)
none_open [] [] e none = (refl, refl)
none_open [] (k ∷ rest) e none = absurd cc
none_open (k ∷ l) rest e none = absurd (omega (arith, none))
