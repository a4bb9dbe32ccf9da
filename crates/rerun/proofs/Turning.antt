-- Whatever turns are made, all processes stand on one approximation.
use Rattle.std.proofs.Common.{◌≡◌, ◌≢◌, ◌⊎◌, inl, inr, ℕ, zero, suc, ◌+◌, ◌≤◌, Bool, true, false, eqb, cond, ℤ}
use Rattle.std.proofs.Common.{List, [], ◌∷◌, ◌++◌, length, take, drop, Option, Some, None, refl, sym, ap, subst, ◌∙◌}
use Rattle.std.proofs.Common.{append_assoc, arith}
use Rattle.std.specs.Prelude.{slice_get, min}
use Rattle.std.proofs.Math.Nat.{min-le_left, min-le_right, min-eq_left, le-min}
use Rattle.std.proofs.lemmas.Bool.Decides.{eqb_tells}
use Rattle.std.proofs.lemmas.List.{take-append-drop, take-append-le, take_min, length-append, length-take-le, take_at}
use Rattle.kahn_net.specs.Approximations.{approximation, next_history, output_at}
use Rattle.kahn_net.specs.Fits.{Fits}
use Rattle.kahn_net.specs.Laws.Approximations.{approximation_grows, next_histories-at}
use Rattle.kahn_net.specs.Laws.Got.{got_on-append}
use Rattle.kahn_net.specs.Laws.Prefixes.{prefix_nil, prefix_along, prefix_of, prefix_refl, prefix_trans, followed}
use Rattle.kahn_net.specs.Laws.Puts.{sent_on-append}
use Rattle.kahn_net.specs.Laws.Streams.{longer_process, stands_on}
use Rattle.kahn_net.specs.Streams.{history_of, IsPrefix}
use Rattle.kahn_net.specs.Syntax.{Code, Network}
use Rattle.kahn_net.specs.Statements.{Step}
use Rattle.kahn_net.specs.Processes.{Standing, StandsAt, process_trace, sent_on, got_on}
use Rattle.kahn_net.specs.Valid.{IsValid}
use Rattle.kahn_net.specs.declared.program.Channel.{Channel}
use Rattle.kahn_net.specs.declared.program.Port.{Port}
use Rattle.kahn_net.specs.declared.program.Port.TheVariants.{Outside, Process}
use Rattle.proc_step.specs.Turns.{AreNext, Turn}
use Rattle.protocol.specs.Node.Reached.{first_acts, acts_of, ImageStands, IsAsFar}
use Rattle.record.specs.ImageView.{ImageView}
use Rattle.retained.specs.LogState.{IsLogOf}
use Rattle.rerun.specs.Rerunning.{Stage, first_stage, first_vars, put_at_first, put_before, IsGiven, Goes}
use Rattle.rerun.specs.Rerunning.{Reruns}
use Rattle.rerun.specs.Soundness.{StandsSoundly, BeginsSoundly, Comes, GoesSoundly, GivesImages}
use Rattle.rerun.specs.Soundness.{GivesRecords}

-- ---- lists

take_and_more : (steps : List Step) (m : ℕ) (acts later : List Step) → m ≤ length steps
    → drop m steps ≡ acts ++ later → take (m + length acts) steps ≡ take m steps ++ acts
take_and_more steps m acts later few split =
    let front : length (take m steps) ≡ m = length-take-le m steps few in
    let both : length (take m steps ++ acts) ≡ m + length acts =
    omega (arith, length-append (take m steps) acts, front) in
    ap (take (m + length acts))
    (sym (take-append-drop m steps)
    ∙ (ap (λ (x : List Step). take m steps ++ x) split ∙ sym (append_assoc (take m steps) acts later)))
    ∙ take_at (take m steps ++ acts) later (m + length acts) both

-- behind as many items, a prefix is one
drop_prefix : (k : ℕ) (xs ys : List ℤ) → IsPrefix xs ys → IsPrefix (drop k xs) (drop k ys)
drop_prefix k xs ys front = let f = followed xs ys front in
    prefix_along (drop k xs) (drop k xs) (drop k ys) (drop k (xs ++ f.rest)) refl (ap (drop k) f.is) (more k xs f.rest)
  where
    more : (k : ℕ) (xs rest : List ℤ) → IsPrefix (drop k xs) (drop k (xs ++ rest))
    more zero xs rest = prefix_of (record { rest = rest; is = refl })
    more (suc k) [] rest = prefix_nil [] (drop (suc k) rest) refl
    more (suc k) (x ∷ xs) rest = more k xs rest

-- ---- acts

abbrev pub act_count : Option Code → List (List ℤ) → ℕ
act_count None histories = 0
act_count (Some code) histories = length (process_trace code histories).steps

abbrev pub on_next : Network → List (List ℤ) → (ℕ → ℕ) → ℕ → ℕ
on_next net histories made p = min (made p) (act_count (slice_get net.codes p) histories)

put_is_prefix : (code : Option Code) (histories : List (List ℤ)) (m c : ℕ)
    → IsPrefix (sent_on c (first_acts code histories m)) (output_at code histories c)
put_is_prefix None histories m c = prefix_nil [] [] refl
put_is_prefix (Some code) histories m c = prefix_of (record {
  rest = sent_on c (drop m (process_trace code histories).steps);
  is =
      ap (sent_on c) (sym (take-append-drop m (process_trace code histories).steps))
      ∙ sent_on-append c (take m (process_trace code histories).steps) (drop m (process_trace code histories).steps);
})

-- how many acts each process has made once this one made these too
abbrev pub made_then : ℕ → List Step → (ℕ → ℕ) → ℕ → ℕ
made_then process acts made q = cond (eqb q process) (made q + length acts) (made q)

module _ (net : Network) (inputs : List (List ℤ)) (valid : IsValid net) (fits : Fits net inputs) where
  at_first : StandsSoundly net inputs 0 (λ p. 0) (first_stage net inputs)
  at_first = record {
    stands = λ p code is. record {
      within = omega arith;
      here = (refl, ap first_vars is);
    };
    input = λ c channel is from.
        ap (λ (o : Option Channel). put_at_first o (history_of inputs c)) is
        ∙ ap (λ (port : Port). put_before port (history_of inputs c)) from;
    put = λ c p channel is from.
        ap (λ (o : Option Channel). put_at_first o (history_of inputs c)) is
        ∙ (ap (λ (port : Port). put_before port (history_of inputs c)) from
        ∙ sym (none_put c (slice_get net.codes p)));
    got = λ c p channel is to. sym (none_got c (slice_get net.codes p));
  }
    where
      none_put : (c : ℕ) (o : Option Code) → sent_on c (first_acts o inputs 0) ≡ []
      none_put c None = refl
      none_put c (Some code) = refl

      none_got : (c : ℕ) (o : Option Code) → length (got_on c (first_acts o inputs 0)) ≡ 0
      none_got c None = refl
      none_got c (Some code) = refl

  acts_on_next : (n : ℕ) (made : ℕ → ℕ) (p : ℕ)
      → acts_of net (approximation net inputs (suc n)) (on_next net (approximation net inputs n) made) p
      ≡ acts_of net (approximation net inputs n) made p
  acts_on_next n made p = at (slice_get net.codes p) refl
    where
      at : (o : Option Code) → slice_get net.codes p ≡ o
          → first_acts o (approximation net inputs (suc n)) (min (made p) (act_count o (approximation net inputs n)))
          ≡ first_acts o (approximation net inputs n) (made p)
      at None there = refl
      at (Some code) there =
          let steps = (process_trace code (approximation net inputs n)).steps in
          let longer =
          longer_process code (approximation net inputs n) (approximation net inputs (suc n))
          (valid.codes p code there).passes (approximation_grows net valid inputs fits n) in
          ap (take (min (made p) (length steps))) longer.steps
          ∙ (take-append-le (min (made p) (length steps)) steps longer.more (min-le_right (made p) (length steps))
          ∙ take_min (made p) steps)

  far_on_next : (n : ℕ) (made later : ℕ → ℕ) → IsAsFar made later
      → IsAsFar (on_next net (approximation net inputs n) made) (on_next net (approximation net inputs n) later)
  far_on_next n made later far p =
      let count = act_count (slice_get net.codes p) (approximation net inputs n) in
      let few = min-le_left (made p) count in
      let more = far p in
      le-min (omega (arith, few, more)) (min-le_right (made p) count)

  here_on_next : (n : ℕ) (made : ℕ → ℕ) (p : ℕ) (code : Code) (standing : Standing) → slice_get net.codes p ≡ Some code
      → StandsAt code (approximation net inputs n) (made p) standing
      → StandsAt code (approximation net inputs (suc n)) (on_next net (approximation net inputs n) made p) standing
  here_on_next n made p code standing there here =
      let same : min (made p) (act_count (slice_get net.codes p) (approximation net inputs n)) ≡ made p =
      ap (λ (o : Option Code). min (made p) (act_count o (approximation net inputs n))) there
      ∙ min-eq_left here.within in
      subst (λ (m : ℕ). StandsAt code (approximation net inputs (suc n)) m standing) (sym same)
      (stands_on code (approximation net inputs n) (approximation net inputs (suc n)) (made p) standing
      (valid.codes p code there).passes (approximation_grows net valid inputs fits n) here)

  stands_on_next : (n : ℕ) (made : ℕ → ℕ) (image : ImageView) → ImageStands net (approximation net inputs n) made image
      → ImageStands net (approximation net inputs (suc n)) (on_next net (approximation net inputs n) made) image
  stands_on_next n made image stands = record {
    processes = λ k saved code is there.
        here_on_next n made saved.number code saved.standing there (stands.processes k saved code is there);
    ends = λ k saved channel is on. (
        let end = stands.ends k saved channel is on in
        record {
          received =
              λ p to counting. end.received p to counting
              ∙ ap (λ (steps : List Step). length (got_on saved.channel steps)) (sym (acts_on_next n made p));
          retained =
              λ p log from has. subst (λ (steps : List Step). IsLogOf log (sent_on saved.channel steps))
              (sym (acts_on_next n made p)) (end.retained p log from has);
        });
  }

  pub sound_on_next : (n : ℕ) (made : ℕ → ℕ) (s : Stage) → StandsSoundly net inputs n made s
      → StandsSoundly net inputs (suc n) (on_next net (approximation net inputs n) made) s
  sound_on_next n made s sound = record {
    stands = λ p code is. here_on_next n made p code (s.standing p) is (sound.stands p code is);
    input = sound.input;
    put = λ c p channel is from. sound.put c p channel is from ∙ ap (sent_on c) (sym (acts_on_next n made p));
    got = λ c p channel is to. sound.got c p channel is to
        ∙ ap (λ (steps : List Step). length (got_on c steps)) (sym (acts_on_next n made p));
  }

  -- what was put belongs: it is a beginning of the next approximation
  pub put_below : (n : ℕ) (made : ℕ → ℕ) (s : Stage) → StandsSoundly net inputs n made s → (c : ℕ) (channel : Channel)
      → slice_get net.channels c ≡ Some channel → IsPrefix (s.put c) (history_of (approximation net inputs (suc n)) c)
  put_below n made s sound c channel is = at channel.producer refl
    where
      next : history_of (approximation net inputs (suc n)) c
          ≡ next_history net.codes inputs (approximation net inputs n) c channel.producer
      next = next_histories-at net inputs (approximation net inputs n) c channel is

      at : (port : Port) → channel.producer ≡ port
          → IsPrefix (s.put c) (history_of (approximation net inputs (suc n)) c)
      at Outside from =
          prefix_along _ _ _ _ (sound.input c channel is from)
          (next ∙ ap (λ (port : Port). next_history net.codes inputs (approximation net inputs n) c port) from)
          (prefix_refl (history_of inputs c))
      at (Process p) from =
          prefix_along _ _ _ _ (sound.put c p channel is from)
          (next ∙ ap (λ (port : Port). next_history net.codes inputs (approximation net inputs n) c port) from)
          (put_is_prefix (slice_get net.codes p) (approximation net inputs n) (made p) c)

  -- ---- one turn

  module _ (n : ℕ) (made : ℕ → ℕ) (s t : Stage) (sound : StandsSoundly net inputs n made s) (goes : Goes net s t) where
    abbrev pub whole : List (List ℤ)
    whole = approximation net inputs (suc n)

    abbrev pub before : ℕ → ℕ
    before = on_next net (approximation net inputs n) made

    there : StandsSoundly net inputs (suc n) before s
    there = sound_on_next n made s sound

    abbrev steps : List Step
    steps = (process_trace goes.code whole).steps

    own_acts : (m : ℕ → ℕ) → acts_of net whole m goes.process ≡ take (m goes.process) steps
    own_acts m = ap (λ (o : Option Code). first_acts o whole (m goes.process)) goes.code_is

    next : AreNext goes.items whole (take (before goes.process) steps)
    next c = at (goes.given c)
      where
        at : IsGiven net s goes.process goes.items c
            → IsPrefix (history_of goes.items c)
            (drop (length (got_on c (take (before goes.process) steps))) (history_of whole c))
        at (inl nothing) = prefix_nil _ _ nothing
        at (inr it) =
            let count : s.got c ≡ length (got_on c (take (before goes.process) steps)) =
            there.got c goes.process it.0 it.1 it.2
            ∙ ap (λ (x : List Step). length (got_on c x)) (own_acts before) in
            prefix_trans (history_of goes.items c) (drop (s.got c) (s.put c))
            (drop (length (got_on c (take (before goes.process) steps))) (history_of whole c)) it.3
            (subst (λ (k : ℕ). IsPrefix (drop (s.got c) (s.put c)) (drop k (history_of whole c))) count
            (drop_prefix (s.got c) (s.put c) (history_of whole c) (put_below n made s sound c it.0 it.1)))

    pub turn : Turn goes.code whole (before goes.process) goes.items goes.room goes.after goes.taken goes.sent
    turn = goes.turn whole (before goes.process) (there.stands goes.process goes.code goes.code_is) next

    abbrev pub then : ℕ → ℕ
    then = made_then goes.process turn.acts before

    more_of : ℕ → List Step
    more_of q = cond (eqb q goes.process) turn.acts []

    as_far : IsAsFar before then
    as_far q = at (eqb q goes.process)
      where
        at : (b : Bool) → before q ≤ cond b (before q + length turn.acts) (before q)
        at true = omega arith
        at false = omega arith

    then_own : then goes.process ≡ before goes.process + length turn.acts
    then_own = at (eqb_tells goes.process goes.process)
      where
        at : ((eqb goes.process goes.process ≡ true) × (goes.process ≡ goes.process))
            ⊎ ((eqb goes.process goes.process ≡ false) × (goes.process ≢ goes.process))
            → then goes.process ≡ before goes.process + length turn.acts
        at (inl same) =
            ap (λ (b : Bool). cond b (before goes.process + length turn.acts) (before goes.process)) same.0
        at (inr other) = absurd (other.1 refl)

    then_other : (q : ℕ) → q ≢ goes.process → then q ≡ before q
    then_other q ne = at (eqb_tells q goes.process)
      where
        at : ((eqb q goes.process ≡ true) × (q ≡ goes.process)) ⊎ ((eqb q goes.process ≡ false) × (q ≢ goes.process))
            → then q ≡ before q
        at (inl same) = absurd (ne same.1)
        at (inr other) = ap (λ (b : Bool). cond b (before q + length turn.acts) (before q)) other.0

    acts_own : acts_of net whole then goes.process ≡ acts_of net whole before goes.process ++ turn.acts
    acts_own =
        own_acts then
        ∙ (ap (λ (m : ℕ). take m steps) then_own
        ∙ (take_and_more steps (before goes.process) turn.acts turn.later
        (there.stands goes.process goes.code goes.code_is).within turn.split
        ∙ ap (λ (x : List Step). x ++ turn.acts) (sym (own_acts before))))

    acts_other : (q : ℕ) → q ≢ goes.process → acts_of net whole then q ≡ acts_of net whole before q
    acts_other q ne = ap (λ (m : ℕ). first_acts (slice_get net.codes q) whole m) (then_other q ne)

    pub sound_then : StandsSoundly net inputs (suc n) then t
    sound_then = record {
      stands = λ q code is. stands q code is (eqb_tells q goes.process);
      input = λ c channel is from. goes.put_inputs c channel is from ∙ there.input c channel is from;
      put = λ c q channel is from. put c q channel is from (eqb_tells q goes.process);
      got = λ c q channel is to. got c q channel is to (eqb_tells q goes.process);
    }
      where
        stands : (q : ℕ) (code : Code) → slice_get net.codes q ≡ Some code
            → ((eqb q goes.process ≡ true) × (q ≡ goes.process)) ⊎ ((eqb q goes.process ≡ false) × (q ≢ goes.process))
            → StandsAt code whole (then q) (t.standing q)
        stands q code is (inl same) =
            let here : slice_get net.codes goes.process ≡ Some code =
            ap (slice_get net.codes) (sym same.1) ∙ is in
            let one : goes.code ≡ code = cc (goes.code_is, here) in
            let own : StandsAt goes.code whole (then goes.process) (t.standing goes.process) =
            subst (λ (standing : Standing). StandsAt goes.code whole (then goes.process) standing) (sym goes.moved)
            (subst (λ (m : ℕ). StandsAt goes.code whole m goes.after) (sym then_own) turn.stands) in
            subst (λ (r : ℕ). StandsAt code whole (then r) (t.standing r)) (sym same.1)
            (subst (λ (x : Code). StandsAt x whole (then goes.process) (t.standing goes.process)) one own)
        stands q code is (inr other) =
            subst (λ (standing : Standing). StandsAt code whole (then q) standing) (sym (goes.others q other.1))
            (subst (λ (m : ℕ). StandsAt code whole m (s.standing q)) (sym (then_other q other.1))
            (there.stands q code is))

        put : (c q : ℕ) (channel : Channel) → slice_get net.channels c ≡ Some channel → channel.producer ≡ Process q
            → ((eqb q goes.process ≡ true) × (q ≡ goes.process)) ⊎ ((eqb q goes.process ≡ false) × (q ≢ goes.process))
            → t.put c ≡ sent_on c (acts_of net whole then q)
        put c q channel is from (inl same) =
            let own = from ∙ ap Process same.1 in
            goes.put_own c channel is own
            ∙ (ap (λ (x : List ℤ). x ++ history_of goes.sent c) (there.put c goes.process channel is own)
            ∙ (ap (λ (x : List ℤ). sent_on c (acts_of net whole before goes.process) ++ x) (turn.sent_is c)
            ∙ (sym (sent_on-append c (acts_of net whole before goes.process) turn.acts)
            ∙ (ap (sent_on c) (sym acts_own)
            ∙ ap (λ (r : ℕ). sent_on c (acts_of net whole then r)) (sym same.1)))))
        put c q channel is from (inr other) =
            goes.put_others c q channel is from other.1
            ∙ (there.put c q channel is from ∙ ap (sent_on c) (sym (acts_other q other.1)))

        got : (c q : ℕ) (channel : Channel) → slice_get net.channels c ≡ Some channel → channel.consumer ≡ Process q
            → ((eqb q goes.process ≡ true) × (q ≡ goes.process)) ⊎ ((eqb q goes.process ≡ false) × (q ≢ goes.process))
            → t.got c ≡ length (got_on c (acts_of net whole then q))
        got c q channel is to (inl same) =
            let own = to ∙ ap Process same.1 in
            let sum : length (got_on c (acts_of net whole before goes.process) ++ got_on c turn.acts)
            ≡ length (got_on c (acts_of net whole before goes.process)) + length (got_on c turn.acts) =
            length-append (got_on c (acts_of net whole before goes.process)) (got_on c turn.acts) in
            let there_got = there.got c goes.process channel is own in
            let own_got = goes.got_own c channel is own in
            let taken = turn.taken_is c in
            let count : t.got c ≡ length (got_on c (acts_of net whole before goes.process) ++ got_on c turn.acts) =
            omega (arith, sum, there_got, own_got, taken) in
            count
            ∙ (ap (length {A = ℤ}) (sym (got_on-append c (acts_of net whole before goes.process) turn.acts))
            ∙ (ap (λ (x : List Step). length (got_on c x)) (sym acts_own)
            ∙ ap (λ (r : ℕ). length (got_on c (acts_of net whole then r))) (sym same.1)))
        got c q channel is to (inr other) =
            goes.got_others c q channel is to other.1
            ∙ (there.got c q channel is to
            ∙ ap (λ (x : List Step). length (got_on c x)) (sym (acts_other q other.1)))

  -- ---- all turns

  come : (n : ℕ) (made : ℕ → ℕ) (s : Stage) (stages : List Stage) (t : Stage) → StandsSoundly net inputs n made s
      → Reruns net s stages t → Comes net inputs n made t
  come n made s [] t sound same =
      subst (λ (x : Stage). Comes net inputs n made x) same
      (record {
        later = n;
        acts = made;
        sound = sound;
        lifts = λ any far. record { lifted = any; far = far; acts = λ p. refl; images = λ image stands. stands };
      })
  come n made s (u ∷ stages) t sound runs =
      let first = as_far n made s u sound runs.0 in
      let rest = come (suc n) (then n made s u sound runs.0) u stages t (sound_then n made s u sound runs.0) runs.1 in
      record {
        later = rest.later;
        acts = rest.acts;
        sound = rest.sound;
        lifts = λ any far. (
            let near = far_on_next n any made far in
            let on = rest.lifts (on_next net (approximation net inputs n) any)
            (λ p. (let a = near p in let b = first p in omega (arith, a, b))) in
            record {
              lifted = on.lifted;
              far = on.far;
              acts = λ p. on.acts p ∙ acts_on_next n any p;
              images = λ image stands. on.images image (stands_on_next n any image stands);
            });
      }

-- what matches a stage stands where it does
image_stands : GivesImages
image_stands net inputs n made s image sound same = record {
  processes = λ k saved code is there.
      subst (λ (x : Standing). StandsAt code (approximation net inputs n) (made saved.number) x)
      (sym (same.processes k saved is)) (sound.stands saved.number code there);
  ends = λ j saved channel is on. record {
    received = λ p to counting. same.received j saved is counting ∙ sound.got saved.channel p channel on to;
    retained = λ p log from has.
        subst (λ (x : List ℤ). IsLogOf log x) (sound.put saved.channel p channel on from)
        (same.retained j log saved is has);
  };
}

pub begins : BeginsSoundly
begins net inputs valid fits = at_first net inputs valid fits

pub goes_on : GoesSoundly
goes_on net inputs n made s stages t valid fits sound runs = come net inputs valid fits n made s stages t sound runs

pub images : GivesImages
images = image_stands

pub records : GivesRecords
records net inputs to_first first to_second second permanent held valid fits runs_first met_first runs_second
    met_second =
    let one =
    come net inputs valid fits 0 (λ p. 0) (first_stage net inputs) to_first first (at_first net inputs valid fits)
    runs_first in
    let two = come net inputs valid fits one.later one.acts first to_second second one.sound runs_second in
    let up = two.lifts one.acts (λ p. omega arith) in
    record {
      n = two.later;
      permanent_acts = up.lifted;
      held_acts = two.acts;
      permanent_stands =
          up.images permanent (image_stands net inputs one.later one.acts first permanent one.sound met_first);
      held_stands = image_stands net inputs two.later two.acts second held two.sound met_second;
      held_after = up.far;
      released = λ c p channel taken is from front.
          subst (λ (x : List ℤ). IsPrefix taken x)
          (one.sound.put c p channel is from ∙ ap (sent_on c) (sym (up.acts p))) front;
    }
