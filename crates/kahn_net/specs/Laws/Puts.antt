-- Laws of what is put: after these steps and those, and by statements that put nothing on a channel.
use Rattle.std.proofs.Common.{◌≡◌, ◌≢◌, ◌⊎◌, inl, inr, ℕ, zero, suc, ◌+◌, ◌<◌, Bool, true, false, cond, eqb, ◌||◌, pos}
use Rattle.std.proofs.Common.{List, ℤ, [], ◌∷◌, ◌++◌, Option, Some, None, length, set, refl, subst, sym, ap, ◌∙◌}
use Rattle.std.proofs.Common.{append_assoc, append-nil, arith, ◌==◌}
use Rattle.std.proofs.lemmas.List.{get_or-set_same, get_or-set_other, length-set}
use Rattle.std.proofs.lemmas.Bool.Decides.{eqb_tells}
use Rattle.std.specs.Ordering.{int_eq}
use Rattle.kahn_net.specs.Streams.{history_of, total}
use Rattle.kahn_net.specs.Syntax.{Block, Nothing, GetThen, AssignThen, PutThen, StopThen, IfThen, RepeatThen, Code}
use Rattle.kahn_net.specs.Valid.{block_puts, body_puts, code_puts}
use Rattle.kahn_net.specs.Statements.{Act, Got, Sent, Step, Trace, End, Ended, Waits, Stopped, trace_of, point_at}
use Rattle.kahn_net.specs.Statements.{choose, on_get, from_end, then_do, rounds, value_of, sites_of}
use Rattle.kahn_net.specs.Puts.{put_by, put_after}
use Rattle.kahn_net.specs.Laws.Traces.{one_of}
use Rattle.kahn_net.specs.Processes.{passes, loop_trace, sent_by, sent_on, output_of}

pub sent_on-append : (channel : ℕ) (xs ys : List Step)
    → sent_on channel (xs ++ ys) ≡ sent_on channel xs ++ sent_on channel ys
sent_on-append channel [] ys = refl
sent_on-append channel (s ∷ xs) ys =
    sent_by-append s.act (sent_on channel xs) (sent_on channel (xs ++ ys)) (sent_on-append channel xs ys)
  where
    cond_append : (b : Bool) (v : ℤ) (xs zs : List ℤ) → cond b (v ∷ (xs ++ zs)) (xs ++ zs) ≡ cond b (v ∷ xs) xs ++ zs
    cond_append true v xs zs = refl
    cond_append false v xs zs = refl

    sent_by-append : (a : Act) (xs zs : List ℤ) → zs ≡ xs ++ sent_on channel ys
        → sent_by channel a zs ≡ sent_by channel a xs ++ sent_on channel ys
    sent_by-append (Got c v) xs zs e = e
    sent_by-append (Sent c v) xs zs e =
        ap (λ (w : List ℤ). cond (c == channel) (v ∷ w) w) e ∙ cond_append (c == channel) v xs (sent_on channel ys)

either_false : (a b : Bool) → (a || b) ≡ false → (a ≡ false) × (b ≡ false)
either_false true b h = absurd (cc)
either_false false b h = (refl, h)

-- what one does after the other
silent_then : (channel : ℕ) (t : Trace) (go : List ℤ → List (List ℤ) → Trace) → sent_on channel t.steps ≡ []
    → ((v : List ℤ) (u : List (List ℤ)) → sent_on channel (go v u).steps ≡ [])
    → sent_on channel (then_do t go).steps ≡ []
silent_then channel t go h later =
    sent_on-append channel t.steps (from_end t.end go).steps
    ∙ (ap (λ (x : List ℤ). x ++ sent_on channel (from_end t.end go).steps) h ∙ at_end t.end)
  where
    at_end : (e : End) → sent_on channel (from_end e go).steps ≡ []
    at_end (Ended v u) = later v u
    at_end (Waits s v c) = refl
    at_end (Stopped v) = refl

-- so many passes
silent_rounds : (channel n : ℕ) (pass : ℕ → List ℤ → List (List ℤ) → Trace)
    → ((k : ℕ) (v : List ℤ) (u : List (List ℤ)) → sent_on channel (pass k v u).steps ≡ [])
    → (v : List ℤ) (u : List (List ℤ)) → sent_on channel (rounds n pass v u).steps ≡ []
silent_rounds channel zero pass h v u = refl
silent_rounds channel (suc n) pass h v u =
    silent_then channel (pass (suc n) v u) (rounds n pass) (h (suc n) v u)
    (λ v' u'. silent_rounds channel n pass h v' u')

-- statements without a put on a channel put nothing there
pub silent_block : (channel site : ℕ) (left : List ℕ) (b : Block) (vars : List ℤ) (unread : List (List ℤ))
    → block_puts channel b ≡ false → sent_on channel (trace_of site left b vars unread).steps ≡ []
silent_block channel site left Nothing vars unread h = refl
silent_block channel site left (AssignThen x e rest) vars unread h =
    silent_block channel site left rest (set vars x (value_of e vars)) unread h
silent_block channel site left (PutThen e c rest) vars unread h =
    let later =
    silent_block channel (site + 1) left rest vars unread
    (either_false (c == channel) (block_puts channel rest) h).1 in
    ap (λ (t : Bool). cond t (value_of e vars ∷ sent_on channel (trace_of (site + 1) left rest vars unread).steps)
    (sent_on channel (trace_of (site + 1) left rest vars unread).steps))
    (either_false (c == channel) (block_puts channel rest) h).0 ∙ later
silent_block channel site left (StopThen rest) vars unread h = refl
silent_block channel site left (IfThen test first second rest) vars unread h =
    let in_first = either_false (block_puts channel first) (block_puts channel second || block_puts channel rest) h in
    let in_second = either_false (block_puts channel second) (block_puts channel rest) in_first.1 in
    let one = trace_of site left first vars unread in
    let other = trace_of (site + sites_of first) left second vars unread in
    silent_then channel (choose (value_of test vars) one other)
    (trace_of (site + sites_of first + sites_of second) left rest)
    (one_of (λ (t : Trace). sent_on channel t.steps ≡ []) (int_eq (value_of test vars) (pos 0)) other one
    (silent_block channel (site + sites_of first) left second vars unread in_second.0)
    (silent_block channel site left first vars unread in_first.0))
    (λ v u. silent_block channel (site + sites_of first + sites_of second) left rest v u in_second.1)
silent_block channel site left (RepeatThen times body rest) vars unread h =
    let both = either_false (block_puts channel body) (block_puts channel rest) h in
    let pass = λ (k : ℕ). trace_of site (left ++ k ∷ []) body in
    silent_then channel (rounds times pass vars unread) (trace_of (site + sites_of body) left rest)
    (silent_rounds channel times pass (λ k v u. silent_block channel site (left ++ k ∷ []) body v u both.0) vars unread)
    (λ v u. silent_block channel (site + sites_of body) left rest v u both.1)
silent_block channel site left (GetThen x c rest) vars unread h =
    at_get (history_of unread c)
    (λ item later. silent_block channel (site + 1) left rest (set vars x item) (set unread c later) h)
  where
    at_get : (history : List ℤ)
        → ((item : ℤ) (later : List ℤ)
        → sent_on channel (trace_of (site + 1) left rest (set vars x item) (set unread c later)).steps ≡ [])
        → sent_on channel
        (on_get history (point_at site left) c vars
        (λ item later. trace_of (site + 1) left rest (set vars x item) (set unread c later))).steps ≡ []
    at_get [] silent_later = refl
    at_get (item ∷ later) silent_later = silent_later item later

-- again and again
silent_passes : (channel n site : ℕ) (b : Block) (vars : List ℤ) (unread : List (List ℤ))
    → block_puts channel b ≡ false → sent_on channel (passes n site b vars unread).steps ≡ []
silent_passes channel zero site b vars unread h = refl
silent_passes channel (suc n) site b vars unread h =
    silent_then channel (trace_of site [] b vars unread) (passes n site b)
    (silent_block channel site [] b vars unread h) (λ v u. silent_passes channel n site b v u h)

silent_loop : (channel site : ℕ) (body : Option Block) (vars : List ℤ) (unread : List (List ℤ))
    → body_puts channel body ≡ false → sent_on channel (loop_trace site body vars unread).steps ≡ []
silent_loop channel site None vars unread h = refl
silent_loop channel site (Some b) vars unread h = silent_passes channel (suc (total unread)) site b vars unread h

-- a process whose text has no put on a channel puts nothing there
pub silent : (code : Code) (inputs : List (List ℤ)) (channel : ℕ) → code_puts channel code ≡ false
    → output_of code inputs channel ≡ []
silent code inputs channel h =
    let both = either_false (block_puts channel code.prelude) (body_puts channel code.body) h in
    silent_then channel (trace_of 0 [] code.prelude code.vars inputs) (loop_trace (sites_of code.prelude) code.body)
    (silent_block channel 0 [] code.prelude code.vars inputs both.0)
    (λ v u. silent_loop channel (sites_of code.prelude) code.body v u both.1)

-- After steps and then others
pub put_after-append : (xs ys : List Step) (histories : List (List ℤ))
    → put_after (xs ++ ys) histories ≡ put_after ys (put_after xs histories)
put_after-append [] ys histories = refl
put_after-append (x ∷ xs) ys histories = put_after-append xs ys (put_by x.act histories)

length-put_by : (a : Act) (histories : List (List ℤ)) → length (put_by a histories) ≡ length histories
length-put_by (Got c item) histories = refl
length-put_by (Sent c item) histories = length-set histories c (history_of histories c ++ item ∷ [])

pub length-put_after : (steps : List Step) (histories : List (List ℤ))
    → length (put_after steps histories) ≡ length histories
length-put_after [] histories = refl
length-put_after (s ∷ steps) histories = length-put_after steps (put_by s.act histories) ∙ length-put_by s.act histories

-- each channel has then what it had, and what is put on it
pub put_after-at : (steps : List Step) (histories : List (List ℤ)) (channel : ℕ) → channel < length histories
    → history_of (put_after steps histories) channel ≡ history_of histories channel ++ sent_on channel steps
put_after-at [] histories channel h = sym (append-nil (history_of histories channel))
put_after-at (s ∷ steps) histories channel h =
    let n = length-put_by s.act histories in
    put_after-at steps (put_by s.act histories) channel (omega arith) ∙ at_act s.act
  where
    at_put : (c : ℕ) (item : ℤ) → ((eqb c channel ≡ true) × (c ≡ channel)) ⊎ ((eqb c channel ≡ false) × (c ≢ channel))
        → history_of (set histories c (history_of histories c ++ item ∷ [])) channel ++ sent_on channel steps
        ≡ history_of histories channel
        ++ cond (eqb c channel) (item ∷ sent_on channel steps) (sent_on channel steps)
    at_put c item (inl same) =
        subst (λ (n : ℕ). history_of (set histories c (history_of histories c ++ item ∷ [])) n ++ sent_on channel steps
        ≡ history_of histories n ++ cond (eqb c channel) (item ∷ sent_on channel steps) (sent_on channel steps))
        same.1
        (let lt : c < length histories = omega arith in
        ap (λ (x : List ℤ). x ++ sent_on channel steps)
        (get_or-set_same histories c (history_of histories c ++ item ∷ []) [] lt)
        ∙ (append_assoc (history_of histories c) (item ∷ []) (sent_on channel steps)
        ∙ ap (λ (t : Bool). history_of histories c
        ++ cond t (item ∷ sent_on channel steps) (sent_on channel steps)) (sym same.0)))
    at_put c item (inr other) =
        let ne : channel ≡ c → ⊥ = λ e. other.1 (sym e) in
        ap (λ (x : List ℤ). x ++ sent_on channel steps)
        (get_or-set_other histories c channel (history_of histories c ++ item ∷ []) [] ne)
        ∙ ap (λ (t : Bool). history_of histories channel
        ++ cond t (item ∷ sent_on channel steps) (sent_on channel steps)) (sym other.0)

    at_act : (a : Act)
        → history_of (put_by a histories) channel ++ sent_on channel steps
        ≡ history_of histories channel ++ sent_by channel a (sent_on channel steps)
    at_act (Got c item) = refl
    at_act (Sent c item) = at_put c item (eqb_tells c channel)
