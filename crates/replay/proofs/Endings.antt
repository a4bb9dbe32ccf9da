-- What an event leaves of that by which a run ends.
use Rattle.std.proofs.Common.{◌≡◌, ◌∙◌, ◌≤◌, ◌+◌, ℕ, zero, suc, ℤ, Bool, true, false, if◌then◌else◌, List, [], ◌∷◌, Option}
use Rattle.std.proofs.Common.{⊎_elim, Some, None, refl, sym, ap, subst, slice_get, arith}
use Rattle.std.specs.Prelude.{◌==◌, find, nat_lt, slice_set}
use Rattle.std.specs.List.{list_all}
use Rattle.std.proofs.lemmas.Bool.{and_parts}
use Rattle.protocol.specs.Node.Common.{Channel, Down, InDoubt, IsInstall, IsOut, JobView, ModeView, Network, NodeView, RecordView, Runs}
use Rattle.protocol.specs.Node.Common.{next_number, running_in, running_of}
use Rattle.protocol.specs.Node.Common.{MAX_COUNT, is_none}
use Rattle.protocol.specs.World.Common.{DoneView, EventView, ByNetwork, ByNode, Install, IsActOf, IsStep, Release, OutletView, ReplyView, Setting, StationView}
use Rattle.protocol.specs.World.Common.{WorldView, are_quiet, event_node, install_reply, moved_to, outputs_of, released_of, round_after}
use Rattle.protocol.specs.World.Common.{setting_of, taken_or}
use Rattle.protocol.specs.World.OutputView.{OutputView}
use Rattle.protocol.specs.World.Quiet.{is_quiet_at}
use Rattle.protocol.specs.World.Steps.{IsActAt, IsHanded, IsRelease, IsReleaseAt, IsStationStep, are_done_with, next_release}
use Rattle.protocol.specs.declared.event.Deed.TheVariants as event
use Rattle.protocol.specs.declared.outcome.Outcome.{Outcome}
use Rattle.protocol.specs.declared.reply.Reply.TheVariants as reply
use Rattle.replay.specs.Armed.{ArmCrash, ArmedView, EndsWith, OfWorld, crash_after, crash_at}
use Rattle.replay.specs.Armed.{delivered_to, has_come}
use Rattle.replay.specs.Endings.{InstallsEndNothing, OnlyReleasesLeave, RoundsAreNext, may_have_left}
use Rattle.replay.specs.declared.kept.ArmedCrash.{ArmedCrash}

-- ---- what has left

some_same : {A : Type 0} (a b : A) → Some a ≡ Some b → a ≡ b
some_same a b same = cc

-- a station whose outlets stay
released_set : (channel : ℕ) (stations : List StationView) (place : ℕ) (station later : StationView)
    → slice_get stations place ≡ Some station → later.outlets ≡ station.outlets
    → released_of channel (slice_set stations place later) ≡ released_of channel stations
released_set channel [] place station later there same = refl
released_set channel (first ∷ rest) zero station later there same =
    let is : first ≡ station = some_same first station there in
    ap (λ (outlets : List OutletView). taken_or (find (λ (outlet : OutletView). outlet.channel == channel) outlets)
    (released_of channel rest)) (same ∙ ap (λ (s : StationView). s.outlets) (sym is))
released_set channel (first ∷ rest) (suc place) station later there same =
    ap (λ (items : List ℤ). taken_or (find (λ (outlet : OutletView). outlet.channel == channel) first.outlets) items)
    (released_set channel rest place station later there same)

-- the very station again
set_again : {A : Type 0} (xs : List A) (place : ℕ) (x : A) → slice_get xs place ≡ Some x → slice_set xs place x ≡ xs
set_again [] place x there = refl
set_again (y ∷ xs) zero x there = ap (λ (first : _). first ∷ xs) (sym (some_same y x there))
set_again (y ∷ xs) (suc place) x there = ap (λ (rest : _). y ∷ rest) (set_again xs place x there)

-- ---- a job that is out

-- none is where nothing is left to do
none_out : (net : Network) (inputs : List (List ℤ)) (stations : List StationView) (kept : RecordView) (version : ℕ) (mode : ModeView)
    (outputs : List OutputView) (job : JobView)
    → is_quiet_at net inputs stations (running_in kept version mode) outputs ≡ true → ¬ (IsOut job mode)
none_out net inputs stations kept version Down outputs job quiet out = out
none_out net inputs stations kept version InDoubt outputs job quiet out = out
none_out net inputs stations kept version (Runs running) outputs job quiet out =
    at running.out (and_parts _ _ quiet).0 out
  where
    at : (found : Option JobView) → is_none found ≡ true → found ≡ Some job → ⊥
    at None free is = absurd (cc)
    at (Some other) free is = absurd (cc)

all_at : {A : Type 0} (test : A → Bool) (xs : List A) (place : ℕ) (x : A) → list_all test xs ≡ true → slice_get xs place ≡ Some x
    → test x ≡ true
all_at test [] place x all there = absurd (cc)
all_at test (y ∷ xs) zero x all there = ap test (sym (some_same y x there)) ∙ (and_parts (test y) (list_all test xs) all).0
all_at test (y ∷ xs) (suc place) x all there = all_at test xs place x (and_parts (test y) (list_all test xs) all).1 there

-- ---- a turn that comes back

-- what it leaves of the stations
record Leaves (net : Network) (inputs : List (List ℤ)) (old : List StationView) (answer : ReplyView) (new : List StationView) : Type 0
  where
    pub round : (round : ℕ) (stations : List StationView) → round_after answer round stations ≡ round
    pub released : (channel : ℕ) → released_of channel new ≡ released_of channel old
    pub quiet : list_all (λ (station : StationView). is_quiet_at net inputs old (running_of station.node) (outputs_of station.outlets)) old
        ≡ true → new ≡ old

not_due : (net : Network) (inputs : List (List ℤ)) (old : List StationView) (answer : ReplyView) (new : List StationView)
    → answer ≡ reply.NotDue → new ≡ old → Leaves net inputs old answer new
not_due net inputs old answer new said same = record {
  round = λ round stations. ap (λ (a : ReplyView). round_after a round stations) said;
  released = λ channel. ap (released_of channel) same;
  quiet = λ all. same;
}

round_stays : (applied : Bool) (answer : ReplyView) → answer ≡ install_reply applied → (round : ℕ) (stations : List StationView)
    → round_after answer round stations ≡ round
round_stays true answer is round stations = ap (λ (a : ReplyView). round_after a round stations) is
round_stays false answer is round stations = ap (λ (a : ReplyView). round_after a round stations) is

-- where its job isn't out the node stays as it is
node_stays : (channels : List Channel) (done : DoneView) (old new : NodeView) (applied : Bool) → ¬ (IsOut done.job old.mode)
    → IsInstall channels done.job done.after done.taken done.sent old applied new → new ≡ old
node_stays channels done old new true none step = absurd (none step.0)
node_stays channels done old new false none step = step.1

acted : (setting : Setting) (place : ℕ) (fits : RecordView → Bool) (station : StationView) (done : DoneView) (came : Outcome)
    (old : List StationView) (answer : ReplyView) (new : List StationView) (inputs : List (List ℤ)) → slice_get old place ≡ Some station
    → IsActAt setting place fits station (Install done) came old answer new → Leaves setting.net inputs old answer new
acted setting place fits station done came old answer new inputs there act = record {
  round = round_stays act.step.applied answer act.step.answers;
  released = λ channel. ap (released_of channel) act.stations
      ∙ released_set channel old place station act.later there (ap (λ (s : StationView). s.outlets) act.step.same);
  quiet = λ all.
      let none = none_out setting.net inputs old station.node.kept station.node.version station.node.mode (outputs_of station.outlets) done.job
      (all_at (λ (s : StationView). is_quiet_at setting.net inputs old (running_of s.node) (outputs_of s.outlets)) old place station all
      there) in
      let same = node_stays setting.net.channels done station.node act.later.node act.step.applied none act.step.step in
      act.stations ∙ (ap (λ (s : StationView). slice_set old place s)
      (act.step.same ∙ ap (λ (node : NodeView). moved_to node station.failures station.turns station) same)
      ∙ set_again old place station there);
}

acts : (setting : Setting) (place : ℕ) (fits : Option (RecordView → Bool)) (found : Option StationView) (done : DoneView) (came : Outcome)
    (old : List StationView) (answer : ReplyView) (new : List StationView) (inputs : List (List ℤ)) → slice_get old place ≡ found
    → IsActOf setting place fits found (Install done) came old answer new → Leaves setting.net inputs old answer new
acts setting place (Some fits) (Some station) done came old answer new inputs there act =
    acted setting place fits station done came old answer new inputs there act
acts setting place (Some fits) None done came old answer new inputs there act = not_due setting.net inputs old answer new act.0 act.1
acts setting place None found done came old answer new inputs there act = not_due setting.net inputs old answer new act.0 act.1

abbrev quiet_of : Network → List (List ℤ) → List StationView → Bool
quiet_of net inputs stations =
    list_all (λ (station : StationView). is_quiet_at net inputs stations (running_of station.node) (outputs_of station.outlets)) stations

pub installs_end_nothing : InstallsEndNothing
installs_end_nothing fits done old new answer step =
    let between = step.between in
    let one = step.step in
    let place = event_node (Install done) in
    let leaves = acts (setting_of old.world) place (slice_get fits place) (slice_get old.world.stations place) done one.came
    old.world.stations step.said between.stations old.world.inputs refl one.act in
    let same : new.world ≡ between = step.ends.1 in (
      ap (λ (w : WorldView). w.round) same ∙ (one.round ∙ leaves.round old.world.round between.stations),
      λ channel. ap (λ (w : WorldView). released_of channel w.stations) same ∙ leaves.released channel,
      λ quiet. ap are_quiet same
          ∙ (ap (λ (net : Network). quiet_of net between.inputs between.stations) one.net
          ∙ (ap (λ (inputs : List (List ℤ)). quiet_of old.world.net inputs between.stations) one.inputs
          ∙ (ap (λ (stations : List StationView). quiet_of old.world.net old.world.inputs stations) (leaves.quiet quiet) ∙ quiet))),
    )

-- ---- the round

next_within : (n : ℕ) → next_number n ≤ n + 1
next_within n = at (nat_lt n MAX_COUNT)
  where
    at : (b : Bool) → (if b then n + 1 else n) ≤ n + 1
    at true = omega arith
    at false = omega arith

after_idling : (done : Bool) (n : ℕ) → (if done then next_number n else n) ≤ n + 1
after_idling true n = next_within n
after_idling false n = omega arith

within : (n m : ℕ) → m ≡ n → m ≤ n + 1
within n m same = omega (arith, same)

next_round : (answer : ReplyView) (n : ℕ) (stations : List StationView) → round_after answer n stations ≤ n + 1
next_round reply.Idled n stations = after_idling (are_done_with n stations) n
next_round answer n stations = omega arith

same_round : (answer : ReplyView) (n : ℕ) (stations : List StationView) → has_come answer ≡ true → round_after answer n stations ≡ n
same_round reply.Delivered n stations come = refl
same_round reply.Dropped n stations come = refl
same_round answer n stations come = absurd (cc)

step_next : (fits : List (RecordView → Bool)) (event : EventView) (old : WorldView) (answer : ReplyView) (new : WorldView)
    → IsStep fits event old answer new → new.round ≤ old.round + 1
step_next fits event old answer new step =
    subst (λ (n : ℕ). n ≤ old.round + 1) (sym step.round) (next_round answer old.round new.stations)

-- a crash follows a packet that came alone
crash_comes : (came_to : Option ℕ) (said : ReplyView) (deliveries : List ℕ) (crashes : List ArmedCrash) (crash : ArmedCrash)
    → crash_after came_to said deliveries crashes ≡ Some crash → has_come said ≡ true
crash_comes None said deliveries crashes crash is = absurd (cc)
crash_comes (Some k) said deliveries crashes crash is = at (has_come said) refl is
  where
    at : (b : Bool) → has_come said ≡ b
        → (if b then crash_at k (slice_get deliveries k) crashes else None) ≡ Some crash → has_come said ≡ true
    at true come found = come
    at false come found = absurd (cc)

ends_next : (fits : List (RecordView → Bool)) (crash : Option ArmedCrash) (said answer : ReplyView) (old between new : WorldView)
    → between.round ≡ round_after said old.round between.stations
    → ((one : ArmedCrash) → crash ≡ Some one → has_come said ≡ true) → EndsWith fits crash said between answer new
    → new.round ≤ old.round + 1
ends_next fits None said answer old between new round come ends =
    subst (λ (w : WorldView). w.round ≤ old.round + 1) (sym ends.1)
    (subst (λ (n : ℕ). n ≤ old.round + 1) (sym round) (next_round said old.round between.stations))
ends_next fits (Some crash) said answer old between new round come ends =
    subst (λ (n : ℕ). new.round ≤ n + 1) (round ∙ same_round said old.round between.stations (come crash refl))
    (step_next fits (ByNode crash.node (event.Crash crash.fill crash.rounds)) between answer new ends)

pub rounds_are_next : RoundsAreNext
rounds_are_next fits (OfWorld event) old new answer step =
    ends_next fits (crash_after (delivered_to event) step.said new.deliveries old.crashes) step.said answer old.world step.between new.world
    step.step.round
    (λ crash is. crash_comes (delivered_to event) step.said new.deliveries old.crashes crash is) step.ends
rounds_are_next fits (ArmCrash crash) old new answer step =
    within old.world.round new.world.round (ap (λ (a : ArmedView). a.world.round) step.1)

-- ---- what leaves by an event

left_by : (said answer : ReplyView) → said ≡ answer → may_have_left said ≡ true → may_have_left answer ≡ false → ⊥
left_by said answer is left none = absurd (cc)

-- an outlet that was handed an item is told of
handed : (round place : ℕ) (old : StationView) (answer : ReplyView) (new : StationView) → IsReleaseAt round place old answer new
    → may_have_left answer ≡ false → ⊥
handed round place old answer new released none =
    ⊎_elim (λ taken. left_by _ answer (sym taken.0) refl none) (λ failed. left_by _ answer (sym failed.0) refl none) released.handed.came

by_release : (round : ℕ) (next : Option ℕ) (old : StationView) (answer : ReplyView) (new : StationView)
    → IsRelease round next old answer new → may_have_left answer ≡ false → new.outlets ≡ old.outlets
by_release round None old answer new nothing none = ap (λ (s : StationView). s.outlets) nothing.1
by_release round (Some place) old answer new released none = absurd (handed round place old answer new released none)

outlets_stay : (setting : Setting) (fits : RecordView → Bool) (event : EventView) (came : Outcome) (old : StationView) (answer : ReplyView)
    (new : StationView) → IsStationStep setting fits event came old answer new → may_have_left answer ≡ false → new.outlets ≡ old.outlets
outlets_stay setting fits (ByNode k deed) came old answer new step none = ap (λ (s : StationView). s.outlets) step.same
outlets_stay setting fits (Install done) came old answer new step none = ap (λ (s : StationView). s.outlets) step.same
outlets_stay setting fits (Release k) came old answer new step none =
    by_release setting.round (next_release setting.round old) old answer new step none
outlets_stay setting fits (ByNetwork k place act) came old answer new step none = ap (λ (s : StationView). s.outlets) step.1

act_leaves : (setting : Setting) (place : ℕ) (fits : Option (RecordView → Bool)) (found : Option StationView) (event : EventView)
    (came : Outcome) (old : List StationView) (answer : ReplyView) (new : List StationView) → slice_get old place ≡ found
    → IsActOf setting place fits found event came old answer new → may_have_left answer ≡ false
    → (channel : ℕ) → released_of channel new ≡ released_of channel old
act_leaves setting place (Some fits) (Some station) event came old answer new there act none channel =
    ap (released_of channel) act.stations
    ∙ released_set channel old place station act.later there
    (outlets_stay setting fits event came station answer act.later act.step none)
act_leaves setting place (Some fits) None event came old answer new there act none channel = ap (released_of channel) act.1
act_leaves setting place None found event came old answer new there act none channel = ap (released_of channel) act.1

step_leaves : (fits : List (RecordView → Bool)) (event : EventView) (old : WorldView) (answer : ReplyView) (new : WorldView)
    → IsStep fits event old answer new → may_have_left answer ≡ false
    → (channel : ℕ) → released_of channel new.stations ≡ released_of channel old.stations
step_leaves fits event old answer new step none channel =
    act_leaves (setting_of old) (event_node event) (slice_get fits (event_node event)) (slice_get old.stations (event_node event)) event
    step.came old.stations answer new.stations refl step.act none channel

-- a packet that came let nothing leave
come_left : (said : ReplyView) → has_come said ≡ true → may_have_left said ≡ false
come_left reply.Delivered come = refl
come_left reply.Dropped come = refl
come_left said come = absurd (cc)

ends_leave : (fits : List (RecordView → Bool)) (happens : EventView) (crash : Option ArmedCrash) (said answer : ReplyView)
    (old between new : WorldView) → IsStep fits happens old said between
    → ((one : ArmedCrash) → crash ≡ Some one → has_come said ≡ true) → EndsWith fits crash said between answer new
    → may_have_left answer ≡ false → (channel : ℕ) → released_of channel new.stations ≡ released_of channel old.stations
ends_leave fits happens None said answer old between new step come ends none channel =
    ap (λ (w : WorldView). released_of channel w.stations) ends.1
    ∙ step_leaves fits happens old said between step (ap may_have_left (sym ends.0) ∙ none) channel
ends_leave fits happens (Some crash) said answer old between new step come ends none channel =
    step_leaves fits (ByNode crash.node (event.Crash crash.fill crash.rounds)) between answer new ends none channel
    ∙ step_leaves fits happens old said between step (come_left said (come crash refl)) channel

pub only_releases_leave : OnlyReleasesLeave
only_releases_leave fits (OfWorld event) old new answer step none channel =
    ends_leave fits event (crash_after (delivered_to event) step.said new.deliveries old.crashes) step.said answer old.world step.between
    new.world step.step
    (λ crash is. crash_comes (delivered_to event) step.said new.deliveries old.crashes crash is) step.ends none channel
only_releases_leave fits (ArmCrash crash) old new answer step none channel =
    ap (λ (a : ArmedView). released_of channel a.world.stations) step.1
