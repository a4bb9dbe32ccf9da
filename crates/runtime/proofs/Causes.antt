-- Why a hub is stopped stays so, and no round begins behind the last one.
use Rattle.std.proofs.Common.{◌≡◌, ◌∙◌, ◌+◌, ◌<◌, ◌≤◌, ◌||◌, ℕ, zero, suc, ℤ, Bool, true, false, List, [], ◌∷◌, map, Option}
use Rattle.std.proofs.Common.{Some, None, refl, sym, ap, subst, arith}
use Rattle.std.specs.Prelude.{nat_le, IfOk, OnErr, OnOk, Result, Ok, Err}
use Rattle.protocol.specs.Node.Common.{Channel, RecordView}
use Rattle.protocol.specs.World.Common.{DoneView, Install, ReplyView, WorldView, are_quiet, output_channels, released_of}
use Rattle.replay.specs.Armed.{ArmedView, IsArmedStep, OfWorld}
use Rattle.replay.specs.declared.kept.RunEvent.{RunEvent}
use Rattle.replay.specs.declared.kept.ScriptedEvent.{ScriptedEvent}
use Rattle.replay.specs.Plain.{run_view}
use Rattle.replay.proofs.Endings.{installs_end_nothing, rounds_are_next}
use Rattle.run_log.specs.Turns.{Due, IsFault, IsTurn, NextLine, next_line}
use Rattle.run_log.specs.declared.answer.FaultAnswer.{FaultAnswer}
use Rattle.run_log.specs.declared.answer.FaultAnswer.TheVariants as fault
use Rattle.run_log.specs.declared.answer.TurnAnswer.{TurnAnswer}
use Rattle.run_log.specs.declared.answer.TurnAnswer.TheVariants as turn
use Rattle.station.specs.ReplyView.{Reply, reply_view}
use Rattle.runtime.specs.Beginning.{first_lines}
use Rattle.runtime.specs.Causes.{is_caused, last_round}
use Rattle.runtime.specs.Ending.{have_items, is_over}
use Rattle.runtime.specs.Turning.{ArePassed, IsLinePassed, IsPassedBy, Progress}
use Rattle.runtime.specs.declared.bounds.Bounds.{Bounds}
use Rattle.runtime.specs.declared.cause.Cause.{Cause}
use Rattle.runtime.specs.declared.cause.Cause.TheVariants.{Over, Refused, Asked}

-- ---- what nothing happens to

-- where a run is stopped a turn leaves the world as it is, and so does one that is refused
pub turn_keeps : {E : Type 0} (P : WorldView → Type 0) (fits : List (RecordView → Bool)) (script : List ScriptedEvent) (passed node : ℕ)
    (result : Result TurnAnswer E) (old new : ArmedView) → IfOk result (λ (answer : TurnAnswer). answer ≡ turn.Stopped)
    → IfOk result (λ (answer : TurnAnswer). IsTurn fits script passed node answer old new) → OnErr result (new ≡ old) → P old.world → P new.world
turn_keeps P fits script passed node (Ok answer) old new stopped turned refused holds =
    let same : new ≡ old = subst (λ (a : TurnAnswer). IsTurn fits script passed node a old new) stopped turned in
    subst (λ (armed : ArmedView). P armed.world) (sym same) holds
turn_keeps P fits script passed node (Err error) old new stopped turned refused holds = subst (λ (armed : ArmedView). P armed.world) (sym refused) holds

pub fault_keeps : {E : Type 0} (P : WorldView → Type 0) (fits : List (RecordView → Bool)) (script : List ScriptedEvent) (passed : ℕ)
    (result : Result FaultAnswer E) (old new : ArmedView) → IfOk result (λ (answer : FaultAnswer). answer ≡ fault.Stopped)
    → IfOk result (λ (answer : FaultAnswer). IsFault fits script passed answer old new) → OnErr result (new ≡ old)
    → P old.world → P new.world
fault_keeps P fits script passed (Ok answer) old new stopped played refused holds =
    let same : new ≡ old = subst (λ (a : FaultAnswer). IsFault fits script passed a old new) stopped played in
    subst (λ (armed : ArmedView). P armed.world) (sym same) holds
fault_keeps P fits script passed (Err error) old new stopped played refused holds =
    subst (λ (armed : ArmedView). P armed.world) (sym refused) holds

-- ---- rounds

next_within : (old new bound limit : ℕ) → new ≤ old + 1 → old < bound → bound ≤ limit → new ≤ limit
next_within old new bound limit next few most = omega (arith, next, few, most)

same_within : (limit : ℕ) (old new : ArmedView) → new.world.round ≡ old.world.round → old.world.round ≤ limit → new.world.round ≤ limit
same_within limit old new same within = subst (λ (n : ℕ). n ≤ limit) (sym same) within

turned_within : (fits : List (RecordView → Bool)) (script : List ScriptedEvent) (passed node bound limit : ℕ) (answer : TurnAnswer) (old new : ArmedView)
    → old.world.round < bound → bound ≤ limit → old.world.round ≤ limit → IsTurn fits script passed node answer old new → new.world.round ≤ limit
turned_within fits script passed node bound limit (turn.Reply reply) old new few most within turned =
    next_within old.world.round new.world.round bound limit
    (rounds_are_next fits (OfWorld _) old new (reply_view reply) turned.2) few most
turned_within fits script passed node bound limit turn.Nothing old new few most within turned =
    same_within limit old new (ap (λ (a : ArmedView). a.world.round) turned.2) within
turned_within fits script passed node bound limit (turn.Widened channel) old new few most within turned =
    same_within limit old new (ap (λ (a : ArmedView). a.world.round) turned.2) within
turned_within fits script passed node bound limit turn.Late old new few most within turned =
    same_within limit old new (ap (λ (a : ArmedView). a.world.round) turned.1) within
turned_within fits script passed node bound limit turn.Stopped old new few most within turned =
    same_within limit old new (ap (λ (a : ArmedView). a.world.round) turned) within

pub turn_within : {E : Type 0} (fits : List (RecordView → Bool)) (script : List ScriptedEvent) (passed node bound limit : ℕ) (stopped : Bool)
    (result : Result TurnAnswer E)
    (old new : ArmedView) → (stopped ≡ false → old.world.round < bound) → bound ≤ limit → old.world.round ≤ limit
    → (stopped ≡ true → IfOk result (λ (answer : TurnAnswer). answer ≡ turn.Stopped))
    → IfOk result (λ (answer : TurnAnswer). IsTurn fits script passed node answer old new) → OnErr result (new ≡ old) → new.world.round ≤ limit
turn_within fits script passed node bound limit true result old new few most within stops turned refused =
    turn_keeps (λ (w : WorldView). w.round ≤ limit) fits script passed node result old new (stops refl) turned refused within
turn_within fits script passed node bound limit false (Ok answer) old new few most within stops turned refused =
    turned_within fits script passed node bound limit answer old new (few refl) most within turned
turn_within fits script passed node bound limit false (Err error) old new few most within stops turned refused =
    same_within limit old new (ap (λ (a : ArmedView). a.world.round) refused) within

faulted_within : (fits : List (RecordView → Bool)) (script : List ScriptedEvent) (passed bound limit : ℕ) (answer : FaultAnswer)
    (old new : ArmedView) → old.world.round < bound → bound ≤ limit → old.world.round ≤ limit
    → IsFault fits script passed answer old new → new.world.round ≤ limit
faulted_within fits script passed bound limit (fault.Reply reply) old new few most within played =
    next_within old.world.round new.world.round bound limit
    (rounds_are_next fits (run_view played.0) old new (reply_view reply) played.2) few most
faulted_within fits script passed bound limit fault.NotYet old new few most within played =
    same_within limit old new (ap (λ (a : ArmedView). a.world.round) played.1) within
faulted_within fits script passed bound limit fault.NoMore old new few most within played =
    same_within limit old new (ap (λ (a : ArmedView). a.world.round) played.1) within
faulted_within fits script passed bound limit fault.Stopped old new few most within played =
    same_within limit old new (ap (λ (a : ArmedView). a.world.round) played) within

pub fault_within : {E : Type 0} (fits : List (RecordView → Bool)) (script : List ScriptedEvent) (passed bound limit : ℕ) (stopped : Bool)
    (result : Result FaultAnswer E) (old new : ArmedView) → (stopped ≡ false → old.world.round < bound) → bound ≤ limit
    → old.world.round ≤ limit → (stopped ≡ true → IfOk result (λ (answer : FaultAnswer). answer ≡ fault.Stopped))
    → IfOk result (λ (answer : FaultAnswer). IsFault fits script passed answer old new) → OnErr result (new ≡ old)
    → new.world.round ≤ limit
fault_within fits script passed bound limit true result old new few most within stops played refused =
    fault_keeps (λ (w : WorldView). w.round ≤ limit) fits script passed result old new (stops refl) played refused within
fault_within fits script passed bound limit false (Ok answer) old new few most within stops played refused =
    faulted_within fits script passed bound limit answer old new (few refl) most within played
fault_within fits script passed bound limit false (Err error) old new few most within stops played refused =
    same_within limit old new (ap (λ (a : ArmedView). a.world.round) refused) within

pub bound_within : (opening : WorldView) (script : List ScriptedEvent) (bounds : Bounds) → bounds.rounds ≤ last_round opening script bounds
bound_within opening script bounds = omega arith

-- each line that was passed ended one round at most
line_next : (fits : List (RecordView → Bool)) (script : List ScriptedEvent) (event : RunEvent) (old new : Progress)
    → next_line script old.passed old.armed.world.round ≡ Due event → IsLinePassed fits script old new
    → new.armed.world.round ≤ old.armed.world.round + 1
line_next fits script event old new due passed =
    let told = subst (λ (next : NextLine). IsPassedBy next fits old new) due passed in
    rounds_are_next fits (run_view event) old.armed new.armed told.0 told.1

pub lines_within : (fits : List (RecordView → Bool)) (script : List ScriptedEvent) (lines : ℕ) (first now : Progress)
    → ArePassed fits script lines first now → now.armed.world.round ≤ first.armed.world.round + lines
lines_within fits script zero first now same =
    let is : now.armed.world.round ≡ first.armed.world.round = ap (λ (p : Progress). p.armed.world.round) same in
    omega (arith, is)
lines_within fits script (suc lines) first now passed =
    let before = lines_within fits script lines first passed.0 passed.1 in
    let next = line_next fits script passed.2.0 passed.0 now passed.2.1 passed.3 in
    omega (arith, before, next)

pub begun_within : (fits : List (RecordView → Bool)) (script : List ScriptedEvent) (bounds : Bounds) (lines : ℕ) (opening : WorldView)
    (first now : Progress) → lines ≡ first_lines script → first.armed.world ≡ opening → ArePassed fits script lines first now
    → now.armed.world.round ≤ last_round opening script bounds
begun_within fits script bounds lines opening first now are same passed =
    let few = lines_within fits script lines first now passed in
    let begins : first.armed.world.round ≡ opening.round = ap (λ (w : WorldView). w.round) same in
    omega (arith, few, are, begins)

-- ---- a run that is over

same_streams : (old new : WorldView) → ((channel : ℕ) → released_of channel new.stations ≡ released_of channel old.stations)
    → (channels : List ℕ)
    → map (λ (channel : ℕ). released_of channel new.stations) channels ≡ map (λ (channel : ℕ). released_of channel old.stations) channels
same_streams old new same [] = refl
same_streams old new same (channel ∷ rest) =
    ap (λ (first : List ℤ). first ∷ map (λ (c : ℕ). released_of c new.stations) rest) (same channel)
    ∙ ap (λ (others : List (List ℤ)). released_of channel old.stations ∷ others) (same_streams old new same rest)

either : (quiet rest later : Bool) → (quiet ≡ true → later ≡ true) → (quiet || rest) ≡ true → (later || rest) ≡ true
either true rest later stays over = ap (λ (b : Bool). b || rest) (stays refl)
either false rest true stays over = refl
either false rest false stays over = over

over_stays : (channels : List Channel) (bounds : Bounds) (old new : WorldView) → new.round ≡ old.round
    → ((channel : ℕ) → released_of channel new.stations ≡ released_of channel old.stations)
    → (are_quiet old ≡ true → are_quiet new ≡ true) → is_over channels bounds old ≡ true → is_over channels bounds new ≡ true
over_stays channels bounds old new round streams quiet over =
    let outputs = output_channels 0 channels in
    ap (λ (n : ℕ). are_quiet new || (nat_le bounds.rounds n || have_items bounds.items
    (map (λ (channel : ℕ). released_of channel new.stations) outputs))) round
    ∙ (ap (λ (lists : List (List ℤ)). are_quiet new || (nat_le bounds.rounds old.round || have_items bounds.items lists))
    (same_streams old new streams outputs)
    ∙ either (are_quiet old) (nat_le bounds.rounds old.round || have_items bounds.items
    (map (λ (channel : ℕ). released_of channel old.stations) outputs)) (are_quiet new) quiet over)

cause_stays : (over : WorldView → Bool) (may_stop : Bool) (old new : WorldView) (cause : Option Cause)
    → (over old ≡ true → over new ≡ true) → is_caused over may_stop old cause ≡ true → is_caused over may_stop new cause ≡ true
cause_stays over may_stop old new None stays caused = caused
cause_stays over may_stop old new (Some Over) stays caused = stays caused
cause_stays over may_stop old new (Some (Refused fault)) stays caused = caused
cause_stays over may_stop old new (Some Asked) stays caused = caused

installed_step : (fits : List (RecordView → Bool)) (channels : List Channel) (bounds : Bounds) (may_stop : Bool) (done : DoneView)
    (old new : ArmedView) (answer : ReplyView) (cause : Option Cause) → IsArmedStep fits (OfWorld (Install done)) old answer new
    → is_caused (is_over channels bounds) may_stop old.world cause ≡ true → is_caused (is_over channels bounds) may_stop new.world cause ≡ true
installed_step fits channels bounds may_stop done old new answer cause step caused =
    let stays = installs_end_nothing fits done old new answer step in
    cause_stays (is_over channels bounds) may_stop old.world new.world cause
    (over_stays channels bounds old.world new.world stays.0 stays.1 stays.2) caused

-- a job that comes back leaves the cause as it is
pub install_keeps : {E : Type 0} (fits : List (RecordView → Bool)) (channels : List Channel) (bounds : Bounds) (may_stop : Bool)
    (done : DoneView) (result : Result Reply E) (old new : ArmedView) (cause : Option Cause)
    → IfOk result (λ (reply : Reply). IsArmedStep fits (OfWorld (Install done)) old (reply_view reply) new) → OnErr result (new ≡ old)
    → is_caused (is_over channels bounds) may_stop old.world cause ≡ true → is_caused (is_over channels bounds) may_stop new.world cause ≡ true
install_keeps fits channels bounds may_stop done (Ok reply) old new cause step refused caused =
    installed_step fits channels bounds may_stop done old new (reply_view reply) cause step caused
install_keeps fits channels bounds may_stop done (Err error) old new cause step refused caused =
    subst (λ (armed : ArmedView). is_caused (is_over channels bounds) may_stop armed.world cause ≡ true) (sym refused) caused

-- and the round
pub install_within : {E : Type 0} (fits : List (RecordView → Bool)) (limit : ℕ) (done : DoneView) (result : Result Reply E)
    (old new : ArmedView) → IfOk result (λ (reply : Reply). IsArmedStep fits (OfWorld (Install done)) old (reply_view reply) new)
    → OnErr result (new ≡ old) → old.world.round ≤ limit → new.world.round ≤ limit
install_within fits limit done (Ok reply) old new step refused within =
    same_within limit old new (installs_end_nothing fits done old new (reply_view reply) step).0 within
install_within fits limit done (Err error) old new step refused within =
    same_within limit old new (ap (λ (a : ArmedView). a.world.round) refused) within

-- ---- a call that is refused

pub err_so : {A E P Q : Type 0} (result : Result A E) → (P → Q) → OnErr result P → OnErr result Q
err_so (Ok answer) so refused = tt
err_so (Err error) so refused = so refused

pub ok_so : {A E P Q : Type 0} (result : Result A E) → (P → Q) → OnOk result P → OnOk result Q
ok_so (Ok answer) so came = so came
ok_so (Err error) so came = tt
