-- A process that can't go on has put all that its function gives.
use Rattle.std.proofs.Common.{◌≡◌, ℕ, ◌≤◌, Bool, false, ℤ, List, ◌++◌, length, take, sym, ap, ◌∙◌}
use Rattle.std.proofs.Common.{arith}
use Rattle.std.proofs.lemmas.Bool.Decides.{nat_tests}
use Rattle.std.specs.Prelude.{slice_get, slice_index, Some, IsTrue, nat_lt}
use Rattle.std.proofs.lemmas.List.{length-append}
use Rattle.kahn_net.specs.Common.{history_of, Code, Network, Step, Standing, process_trace, sent_on, HasPassingLoop}
use Rattle.kahn_net.specs.Common.{Next, Gets, Puts, NoNext, next_of, code_gets, left_after, IsValid}
use Rattle.kahn_net.specs.NextActs.{Begins}
use Rattle.kahn_net.specs.Processes.{got_on, output_of}
use Rattle.kahn_net.specs.Laws.Got.{reads}
use Rattle.kahn_net.specs.Laws.Prefixes.{prefixes_refl}
use Rattle.kahn_net.specs.Laws.Rests.{IsStuck, acts_at_rest}
use Rattle.kahn_net.specs.declared.program.Channel.{Channel}
use Rattle.kahn_net.specs.declared.program.Port.TheVariants.{Process}
use Rattle.approximations.specs.AtHand.{can_go_on}
use Rattle.approximations.specs.Progress.{HasMade, HasPutAll}
use Rattle.std.proofs.Props.{props}
use Rattle.std.proofs.Math.Logic.{∥∥₁_elim}

not_less : (a b : ℕ) → nat_lt a b ≡ false → b ≤ a
not_less a b h = grind (arith, nat_tests)

-- all that it does on these histories was done
pub all_made : (net : Network) (p : ℕ) (code : Code) (here : List (List ℤ)) (standing : Standing) (got : List ℕ)
    (added : List (List ℤ)) → HasPassingLoop code → (made : HasMade net p code here standing got added)
    → can_go_on (next_of code standing) got here ≡ false
    → (process_trace code here).steps ≡ take made.m (process_trace code here).steps
all_made net p code here standing got added passing made not =
    acts_at_rest code here here made.m standing passing (prefixes_refl here) made.stands few (stuck (next_of code standing) not)
  where
    done : List Step
    done = take made.m (process_trace code here).steps

    few : (c : ℕ) → IsTrue (code_gets c code) → length (got_on c done) ≤ length (history_of here c)
    few c gets =
        let parts = ap (length {A = ℤ}) (reads code here made.m c) in
        let count = length-append (got_on c done) (history_of (left_after done here) c) in
        omega (arith, parts, count)

    stuck : (next : Next) → can_go_on next got here ≡ false → IsStuck code here done next
    stuck Begins h = absurd (cc)
    stuck (Puts c) h = absurd (cc)
    stuck NoNext h = tt
    stuck (Gets c) h = λ gets. let past = not_less (slice_index got c) (length (history_of here c)) h in
        omega (arith, past, made.got_is c)

-- so its channels have all that its function gives
pub all_put : (net : Network) (p : ℕ) (code : Code) (here : List (List ℤ)) (standing : Standing) (got : List ℕ)
    (added : List (List ℤ)) → HasPassingLoop code → HasMade net p code here standing got added
    → can_go_on (next_of code standing) got here ≡ false → (c : ℕ) (channel : Channel)
    → slice_get net.channels c ≡ Some channel → channel.producer ≡ Process p
    → history_of here c ++ history_of added c ≡ output_of code here c
all_put net p code here standing got added passing made not c channel is from =
    made.put_is c channel is from ∙ ap (sent_on c) (sym (all_made net p code here standing got added passing made not))

-- so of the process of this number, whatever its code is
pub rests : (net : Network) → IsValid net → (p : ℕ) (here : List (List ℤ)) (standing : Standing) (got : List ℕ)
    (added : List (List ℤ)) (goes : Bool)
    → ((code : Code) → slice_get net.codes p ≡ Some code → ∥ HasMade net p code here standing got added ∥₁)
    → ((code : Code) → slice_get net.codes p ≡ Some code → goes ≡ can_go_on (next_of code standing) got here)
    → goes ≡ false → HasPutAll net p here added
rests net valid p here standing got added goes on is not code its c channel there from =
    ∥∥₁_elim (on code its) (hlevel props)
    (λ made. all_put net p code here standing got added (valid.codes p code its).passes made (sym (is code its) ∙ not) c
    channel there from)
