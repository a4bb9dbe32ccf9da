-- All processes, one after another, put what the equations give.
use Rattle.std.proofs.Common.{◌≡◌, ◌≢◌, ◌⊎◌, inl, inr, ℕ, zero, suc, ◌+◌, ◌<◌, ◌≤◌, true, false, List, ℤ, [], ◌∷◌, ◌++◌}
use Rattle.std.proofs.Common.{Option, Some, None, length, get_or, drop, map, refl, sym, ap, ◌∙◌, append-nil}
use Rattle.std.proofs.Common.{append_assoc, arith}
use Rattle.std.specs.Prelude.{slice_get}
use Rattle.std.proofs.lemmas.Bool.{cases_Bool}
use Rattle.std.proofs.lemmas.List.{ext_get_or, at_drop_more}
use Rattle.std.proofs.lemmas.Option.{slice_get_cases}
use Rattle.kahn_net.specs.Common.{history_of, Fits, Code, Network, code_of, IsValid, code_puts, process_trace}
use Rattle.kahn_net.specs.Common.{put_after}
use Rattle.kahn_net.specs.Processes.{output_of}
use Rattle.kahn_net.specs.Approximations.{output_at, next_history, next_histories}
use Rattle.kahn_net.specs.Laws.Approximations.{length-next_from, next_histories-at, inner_empty}
use Rattle.kahn_net.specs.Laws.Puts.{silent, length-put_after, put_after-at}
use Rattle.kahn_net.specs.declared.program.Channel.{Channel}
use Rattle.kahn_net.specs.declared.program.Port.{Port}
use Rattle.kahn_net.specs.declared.program.Port.TheVariants.{Outside, Process}
use Rattle.kahn_net.specs.declared.program.Process.{Process as Text}
use Rattle.stream_eq.specs.Limits.{GoesPast}
use Rattle.stream_eq.specs.Play.{put_by_all}
use Rattle.stream_eq.proofs.Puts.{past_more}

-- this process, and those after it
pub all_more : (ps : List Text) (i : ℕ) (p : Text) (histories after : List (List ℤ)) → i < length ps → p ≡ get_or ps i p
    → put_by_all (map code_of (drop (i + 1) ps)) histories
    (put_after (process_trace (code_of p) histories).steps after)
    ≡ put_by_all (map code_of (drop i ps)) histories after
all_more ps i p histories after lt e =
    sym (at_drop_more (λ (qs : List Text). put_by_all (map code_of qs) histories after) ps i p lt
    ∙ ap (λ (q : Text). put_by_all (map code_of (drop (i + 1) ps)) histories
    (put_after (process_trace (code_of q) histories).steps after)) (sym e))

-- what is past stays past, whatever the others put
pub past_all : (limits : List ℕ) (codes : List Code) (histories after : List (List ℤ)) → GoesPast limits after
    → GoesPast limits (put_by_all codes histories after)
past_all limits [] histories after p = p
past_all limits (code ∷ codes) histories after p =
    past_all limits codes histories (put_after (process_trace code histories).steps after)
    (past_more limits (process_trace code histories).steps after p)

length-put_by_all : (codes : List Code) (histories after : List (List ℤ))
    → length (put_by_all codes histories after) ≡ length after
length-put_by_all [] histories after = refl
length-put_by_all (code ∷ codes) histories after =
    length-put_by_all codes histories (put_after (process_trace code histories).steps after)
    ∙ length-put_after (process_trace code histories).steps after

-- what all of them put on a channel
sent_by_all : List Code → List (List ℤ) → ℕ → List ℤ
sent_by_all [] histories c = []
sent_by_all (code ∷ codes) histories c = output_of code histories c ++ sent_by_all codes histories c

put_by_all-at : (codes : List Code) (histories after : List (List ℤ)) (c : ℕ) → c < length after
    → history_of (put_by_all codes histories after) c ≡ history_of after c ++ sent_by_all codes histories c
unfolding sent_by_all
put_by_all-at [] histories after c lt = sym (append-nil (history_of after c))
put_by_all-at (code ∷ codes) histories after c lt =
    let n = length-put_after (process_trace code histories).steps after in
    put_by_all-at codes histories (put_after (process_trace code histories).steps after) c (omega arith)
    ∙ (ap (λ (x : List ℤ). x ++ sent_by_all codes histories c)
    (put_after-at (process_trace code histories).steps after c lt)
    ∙ append_assoc (history_of after c) (output_of code histories c) (sent_by_all codes histories c))

all_silent : (codes : List Code) (histories : List (List ℤ)) (c : ℕ)
    → ((p : ℕ) (code : Code) → slice_get codes p ≡ Some code → code_puts c code ≡ false)
    → sent_by_all codes histories c ≡ []
unfolding sent_by_all
all_silent [] histories c h = refl
all_silent (code ∷ codes) histories c h =
    ap (λ (x : List ℤ). x ++ sent_by_all codes histories c) (silent code histories c (h zero code refl))
    ∙ all_silent codes histories c (λ p x e. h (suc p) x e)

-- where one alone puts on a channel
one_sends : (codes : List Code) (histories : List (List ℤ)) (c p : ℕ) (code : Code) → slice_get codes p ≡ Some code
    → ((q : ℕ) (x : Code) → q ≢ p → slice_get codes q ≡ Some x → code_puts c x ≡ false)
    → sent_by_all codes histories c ≡ output_of code histories c
unfolding sent_by_all
one_sends [] histories c p code is others = absurd (cc)
one_sends (x ∷ codes) histories c zero code is others =
    let same : x ≡ code = cc in
    ap (λ (y : List ℤ). output_of x histories c ++ y)
    (all_silent codes histories c (λ q y e. others (suc q) y (λ (z : suc q ≡ 0). absurd (omega arith)) e))
    ∙ (append-nil (output_of x histories c) ∙ ap (λ (y : Code). output_of y histories c) same)
one_sends (x ∷ codes) histories c (suc p) code is others =
    ap (λ (y : List ℤ). y ++ sent_by_all codes histories c)
    (silent x histories c (others zero x (λ (z : 0 ≡ suc p). absurd (omega arith)) refl))
    ∙ one_sends codes histories c p code is (λ q y ne e. others (suc q) y (λ (z : suc q ≡ suc p). ne (omega arith)) e)

module _ (net : Network) (valid : IsValid net) (inputs : List (List ℤ)) (fits : Fits net inputs)
    (histories : List (List ℤ)) where
  -- who isn't the producer puts nothing
  others_silent : (c q : ℕ) (channel : Channel) (code : Code) → slice_get net.channels c ≡ Some channel
      → slice_get net.codes q ≡ Some code → (channel.producer ≡ Process q → ⊥) → code_puts c code ≡ false
  others_silent c q channel code is there not = at (cases_Bool (code_puts c code))
    where
      at : (code_puts c code ≡ true) ⊎ (code_puts c code ≡ false) → code_puts c code ≡ false
      at (inl puts) = absurd (not ((valid.producer c q channel code is there).0 puts))
      at (inr none) = none

  channel_is : (c : ℕ) (channel : Channel) (port : Port) → slice_get net.channels c ≡ Some channel
      → channel.producer ≡ port → c < length inputs
      → history_of (put_by_all net.codes histories inputs) c ≡ next_history net.codes inputs histories c port
  channel_is c channel Outside is from lt =
      put_by_all-at net.codes histories inputs c lt
      ∙ (ap (λ (x : List ℤ). history_of inputs c ++ x)
      (all_silent net.codes histories c
      (λ q code there. others_silent c q channel code is there
      (λ (e : channel.producer ≡ Process q). let bad : Outside ≡ Process q = sym from ∙ e in absurd (cc))))
      ∙ append-nil (history_of inputs c))
  channel_is c channel (Process p) is from lt =
      put_by_all-at net.codes histories inputs c lt
      ∙ (ap (λ (x : List ℤ). x ++ sent_by_all net.codes histories c)
      (inner_empty net valid inputs fits c p channel is from) ∙ by_one (slice_get_cases net.codes p).1)
    where
      other : (q : ℕ) → q ≢ p → channel.producer ≡ Process q → ⊥
      other q ne e = let same : Process q ≡ Process p = sym e ∙ from in let equal : q ≡ p = cc in ne equal

      by_one : ((x : Code) × (p < length net.codes) × (slice_get net.codes p ≡ Some x) × (get_or net.codes p x ≡ x))
          ⊎ ((length net.codes ≤ p) × (slice_get net.codes p ≡ None))
          → sent_by_all net.codes histories c ≡ output_at (slice_get net.codes p) histories c
      by_one (inl here) =
          one_sends net.codes histories c p here.0 here.2
          (λ q x ne there. others_silent c q channel x is there (other q ne))
          ∙ ap (λ (o : Option Code). output_at o histories c) (sym here.2)
      by_one (inr past) = let l = valid.producer_is_here c p channel is from in let m = past.0 in absurd (omega arith)

  -- from the inputs, all of them together put the next histories
  pub put_by_all_is_next : put_by_all net.codes histories inputs ≡ next_histories net inputs histories
  put_by_all_is_next =
      let n = length-put_by_all net.codes histories inputs in
      let m = length-next_from net.codes inputs histories 0 net.channels in
      let k = fits.count in
      ext_get_or [] (put_by_all net.codes histories inputs) (next_histories net inputs histories) (omega arith)
      (λ c lt. at c (omega arith) (slice_get_cases net.channels c).1)
    where
      at : (c : ℕ) → c < length inputs
          → ((x : Channel) × (c < length net.channels) × (slice_get net.channels c ≡ Some x)
          × (get_or net.channels c x ≡ x)) ⊎ ((length net.channels ≤ c) × (slice_get net.channels c ≡ None))
          → history_of (put_by_all net.codes histories inputs) c ≡ history_of (next_histories net inputs histories) c
      at c lt (inl here) =
          channel_is c here.0 here.0.producer here.2 refl lt
          ∙ sym (next_histories-at net inputs histories c here.0 here.2)
      at c lt (inr past) = let k = fits.count in let l = past.0 in absurd (omega arith)
