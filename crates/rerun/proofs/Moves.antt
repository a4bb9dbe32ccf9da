-- Where a process can move its next act can be made, so it does something in its turn.
use Rattle.std.proofs.Common.{◌≡◌, ◌≢◌, ◌⊎◌, inl, inr, ℕ, zero, suc, ◌+◌, ◌-◌, ◌<◌, ◌≤◌, Bool, true, false, eqb, cond}
use Rattle.std.proofs.Common.{if◌then◌else◌, ℤ, List, [], ◌∷◌, ◌++◌, length, take, drop, Option, Some, None, refl, sym}
use Rattle.std.proofs.Common.{ap}
use Rattle.std.proofs.Common.{subst, ◌∙◌, arith, append-nil}
use Rattle.std.specs.Prelude.{slice_get, slice_index, min, nat_lt}
use Rattle.std.proofs.lemmas.Bool.{cases_lt}
use Rattle.std.proofs.lemmas.Bool.Decides.{eqb_tells, nat_tests}
use Rattle.std.proofs.lemmas.List.{length-append, length-drop, length-take, take-append-drop}
use Rattle.std.proofs.lemmas.Option.{slice_get_within}
use Rattle.kahn_net.specs.Approximations.{approximation}
use Rattle.kahn_net.specs.Fits.{Fits}
use Rattle.kahn_net.specs.Laws.Got.{got_on-append, got_and_left, process_waits_empty, reads_process}
use Rattle.kahn_net.specs.Laws.NextActs.{foretells_process, next_acts}
use Rattle.kahn_net.specs.Laws.Prefixes.{prefix_length}
use Rattle.kahn_net.specs.Laws.Puts.{sent_on-append, silent}
use Rattle.kahn_net.specs.Laws.Rests.{gets_where_got}
use Rattle.kahn_net.specs.NextActs.{Next, Begins, Gets, Puts, NoNext, IsNextAct, next_of, next_on, next_at}
use Rattle.kahn_net.specs.NextActs.{next_in_body}
use Rattle.kahn_net.specs.Processes.{Standing, NotBegun, At, Done, StandsAt, standing_at, process_trace, got_on, got_by}
use Rattle.kahn_net.specs.Processes.{sent_on, sent_by}
use Rattle.kahn_net.specs.Resuming.{left_after}
use Rattle.kahn_net.specs.Statements.{Act, Got, Sent, End, Ended, Waits, Stopped, Point, Step, sites_of}
use Rattle.kahn_net.specs.Streams.{history_of}
use Rattle.kahn_net.specs.Syntax.{Block, Nothing, GetThen, AssignThen, PutThen, StopThen, IfThen, RepeatThen, Code}
use Rattle.kahn_net.specs.Syntax.{Network}
use Rattle.kahn_net.specs.Valid.{IsValid, code_puts}
use Rattle.kahn_net.specs.declared.program.Channel.{Channel}
use Rattle.kahn_net.specs.declared.program.Port.{Port}
use Rattle.kahn_net.specs.declared.program.Port.TheVariants.{Outside, Process}
use Rattle.proc_step.specs.Turns.{IsTurn, IsHeldBack, IsNextHeldBack, Turn}
use Rattle.protocol.specs.Node.Reached.{first_acts}
use Rattle.rerun.specs.Moving.{DidSomething, Began, Took, Put, MovesWhereItCan}
use Rattle.rerun.specs.Soundness.{Comes, StandsSoundly}
use Rattle.rerun.specs.Steps.{stage_after}
use Rattle.rerun.specs.Tables.{TableView, HasRerun, IsInOrder, can_do, can_do_next, can_move, count_by}
use Rattle.rerun.specs.Tables.{has_more}
use Rattle.rerun.specs.Tables.{has_place, items_from, log_on, next_on as items_on, places, room_from}
use Rattle.rerun.specs.declared.handing.TheConstants.{MAX_AT_ONCE}
use Rattle.rerun.proofs.Handed.{is_there_if, items_at, room_at}
use Rattle.rerun.proofs.Turned.{come, step, goes}
use Rattle.rerun.proofs.Turning.{on_next, put_below, sound_on_next, turn}

-- ---- what comes next

apart : (b : Bool) (x y : Next) → x ≢ Begins → y ≢ Begins → cond b x y ≢ Begins
apart true x y one other is = one is
apart false x y one other is = other is

-- behind its beginning a process doesn't begin
not_in : (number : ℕ) (b : Block) (site : ℕ) → next_on number b site ≢ Begins
not_in number Nothing site is = cc
not_in number (GetThen x channel rest) site is =
    apart (eqb number site) (Gets channel) (next_on (number + 1) rest site) (λ e. cc) (not_in (number + 1) rest site) is
not_in number (AssignThen x e rest) site is = not_in number rest site is
not_in number (PutThen e channel rest) site is =
    apart (eqb number site) (Puts channel) (next_on (number + 1) rest site) (λ e. cc) (not_in (number + 1) rest site) is
not_in number (StopThen rest) site is = not_in number rest site is
not_in number (IfThen test first second rest) site is =
    apart (nat_lt site (number + sites_of first)) (next_on number first site) _ (not_in number first site)
    (apart (nat_lt site (number + sites_of first + sites_of second)) (next_on (number + sites_of first) second site)
    (next_on (number + sites_of first + sites_of second) rest site) (not_in (number + sites_of first) second site)
    (not_in (number + sites_of first + sites_of second) rest site)) is
not_in number (RepeatThen times body rest) site is =
    apart (nat_lt site (number + sites_of body)) (next_on number body site) (next_on (number + sites_of body) rest site)
    (not_in number body site) (not_in (number + sites_of body) rest site) is

not_begins : (code : Code) (site : ℕ) → next_at code site ≢ Begins
not_begins code site is =
    apart (nat_lt site (sites_of code.prelude)) (next_on 0 code.prelude site)
    (next_in_body (sites_of code.prelude) code.body site) (not_in 0 code.prelude site) (in_body code.body) is
  where
    in_body : (body : Option Block) → next_in_body (sites_of code.prelude) body site ≢ Begins
    in_body None is = cc
    in_body (Some b) is = not_in (sites_of code.prelude) b site is

-- ---- counts

got_one : (c : ℕ) (item : ℤ) (later : List ℤ) → 0 < length (got_by c (Got c item) later)
got_one c item later = at (eqb_tells c c)
  where
    at : ((eqb c c ≡ true) × (c ≡ c)) ⊎ ((eqb c c ≡ false) × (c ≢ c)) → 0 < length (got_by c (Got c item) later)
    at (inl same) =
        subst (λ (b : Bool). 0 < length (if b then item ∷ later else later)) (sym same.0) (omega arith)
    at (inr other) = absurd (other.1 refl)

sent_one : (c : ℕ) (item : ℤ) (later : List ℤ) → 0 < length (sent_by c (Sent c item) later)
sent_one c item later = at (eqb_tells c c)
  where
    at : ((eqb c c ≡ true) × (c ≡ c)) ⊎ ((eqb c c ≡ false) × (c ≢ c)) → 0 < length (sent_by c (Sent c item) later)
    at (inl same) =
        subst (λ (b : Bool). 0 < length (if b then item ∷ later else later)) (sym same.0) (omega arith)
    at (inr other) = absurd (other.1 refl)

first_of : (m : ℕ) (steps : List Step) (x : Step) (more : List Step) → drop m steps ≡ x ∷ more
    → slice_get steps m ≡ Some x
first_of zero [] x more is = absurd (cc)
first_of (suc m) [] x more is = absurd (cc)
first_of zero (y ∷ steps) x more is = cc
first_of (suc m) (y ∷ steps) x more is = first_of m steps x more is

puts_where_put : (code : Code) (inputs : List (List ℤ)) (channel : ℕ)
    → 0 < length (sent_on channel (process_trace code inputs).steps) → code_puts channel code ≡ true
puts_where_put code inputs channel some = grind (arith, silent code inputs channel)

less : (a b : ℕ) → nat_lt a b ≡ true → a < b
less a b is = grind (arith, nat_tests)

-- ---- a turn

module _ (net : Network) (inputs : List (List ℤ)) (limits : List ℕ) (p : ℕ) (old : TableView) (valid : IsValid net)
    (fits : Fits net inputs) (ordered : IsInOrder net inputs old) (rerun : HasRerun net inputs old) (code : Code)
    (standing after : Standing) (taken : List ℕ) (sent : List (List ℤ)) (code_is : slice_get net.codes p ≡ Some code)
    (standing_is : slice_get old.standings p ≡ Some standing)
    (is_turn : IsTurn code standing (items_from inputs old p 0 net.channels) (room_from limits old p 0 net.channels)
    after
    taken sent) (can : can_move net inputs limits old p ≡ true) where
  abbrev items : List (List ℤ)
  items = items_from inputs old p 0 net.channels

  abbrev room : List ℕ
  room = room_from limits old p 0 net.channels

  abbrev comes : Comes net inputs 0 (λ p. 0) rerun.stage
  comes = come net inputs limits p old valid fits ordered rerun code standing after taken sent code_is standing_is
      is_turn

  abbrev histories : List (List ℤ)
  histories = approximation net inputs (suc comes.later)

  abbrev made : ℕ → ℕ
  made = on_next net (approximation net inputs comes.later) comes.acts

  abbrev steps : List Step
  steps = (process_trace code histories).steps

  there : StandsSoundly net inputs (suc comes.later) made rerun.stage
  there = sound_on_next net inputs valid fits comes.later comes.acts rerun.stage comes.sound

  its : Turn code histories (made p) items room after taken sent
  unfolding goes
  its =
      turn net inputs valid fits comes.later comes.acts rerun.stage (stage_after net rerun.stage p after taken sent)
      comes.sound
      (step net inputs limits p old valid fits ordered rerun code standing after taken sent code_is standing_is is_turn)

  stands : StandsAt code histories (made p) standing
  stands =
      let same : rerun.stage.standing p ≡ standing =
      let here = rerun.is_at.standings p (slice_get_within net.codes p code code_is) in cc (here, standing_is) in
      subst (λ (x : Standing). StandsAt code histories (made p) x) same (there.stands p code code_is)

  can_next : can_do net.channels inputs limits old (next_of code standing) ≡ true
  can_next =
      sym (ap (λ (o : Option Code). can_do_next net inputs limits old o (slice_get old.standings p)) code_is
      ∙ ap (can_do_next net inputs limits old (Some code)) standing_is) ∙ can

  -- a channel with an item that wasn't got
  record Ahead (c : ℕ) : Type 0 where
    channel : Channel
    is : slice_get net.channels c ≡ Some channel
    more : slice_index old.got c < count_by inputs old c channel.producer

  ahead : (c : ℕ) → has_more inputs old c (slice_get net.channels c) ≡ true → Ahead c
  ahead c more = at (slice_get net.channels c) refl more
    where
      at : (o : Option Channel) → slice_get net.channels c ≡ o → has_more inputs old c o ≡ true → Ahead c
      at None is more = absurd (cc)
      at (Some channel) is more = record { channel = channel; is = is; more = less _ _ more }

  consumer_is : (c : ℕ) (channel : Channel) → slice_get net.channels c ≡ Some channel → 0 < length (got_on c steps)
      → channel.consumer ≡ Process p
  consumer_is c channel is some =
      (valid.consumer c p channel code is code_is).0 (gets_where_got code histories c some)

  producer_is : (c : ℕ) (channel : Channel) → slice_get net.channels c ≡ Some channel → 0 < length (sent_on c steps)
      → channel.producer ≡ Process p
  producer_is c channel is some =
      (valid.producer c p channel code is code_is).0 (puts_where_put code histories c some)

  -- an item that is ahead is handed out
  handed : (c : ℕ) (a : Ahead c) → a.channel.consumer ≡ Process p → 0 < length (history_of items c)
  handed c a to =
      let here = items_at inputs old p net.channels c a.channel a.is
      ∙ ap (λ (b : Bool). (if b then take MAX_AT_ONCE (items_on inputs old c a.channel.producer) else []))
      (is_there_if p a.channel.consumer to) in
      let count : length (history_of items c) ≡ min MAX_AT_ONCE (length (items_on inputs old c a.channel.producer)) =
      ap (length {A = ℤ}) here ∙ length-take MAX_AT_ONCE (items_on inputs old c a.channel.producer) in
      let next = at a.channel.producer refl a.more in
      omega (arith, count, next)
    where
      at : (port : Port) → a.channel.producer ≡ port → slice_index old.got c < count_by inputs old c port
          → 0 < length (items_on inputs old c port)
      at Outside from more =
          let left = length-drop (slice_index old.got c) (history_of inputs c) in omega (arith, left, more)
      at (Process q) from more =
          let low = (ordered.of_link c q p a.channel a.is from to).from_base in
          let left = length-drop (slice_index old.got c - (log_on old c).base) (log_on old c).items in
          omega (arith, low, left, more)

  -- ---- no act was made

  module _ (none : its.acts ≡ []) (point : Point) (vars : List ℤ) (at_point : standing ≡ At point vars) where
    -- but there was one to make
    one_left : (x : Step) (more : List Step) → its.later ≡ x ∷ more → ⊥
    one_left x more is =
        by x.act refl (next_of code standing) refl can_next
        (next_acts code histories (made p) standing stands (valid.codes p code code_is).passes x
        (first_of (made p) steps x more left))
        (subst (λ (l : List Step). IsNextHeldBack (x ∷ more) room (left_after l items) sent) none
        (subst (λ (l : List Step). IsNextHeldBack l room (left_after its.acts items) sent) is its.held_back))
      where
        left : drop (made p) steps ≡ x ∷ more
        left = its.split ∙ (ap (λ (l : List Step). l ++ its.later) none ∙ is)

        in_all : steps ≡ take (made p) steps ++ (x ∷ more)
        in_all =
            sym (take-append-drop (made p) steps) ∙ ap (λ (l : List Step). take (made p) steps ++ l) left

        gets_it : (c : ℕ) (item : ℤ) → x.act ≡ Got c item → 0 < length (got_on c steps)
        gets_it c item is =
            let all = ap (λ (l : List Step). length (got_on c l)) in_all
            ∙ (ap (length {A = ℤ}) (got_on-append c (take (made p) steps) (x ∷ more))
            ∙ length-append (got_on c (take (made p) steps)) (got_on c (x ∷ more))) in
            let one : 0 < length (got_on c (x ∷ more)) =
            subst (λ (a : Act). 0 < length (got_by c a (got_on c more))) (sym is) (got_one c item (got_on c more)) in
            omega (arith, all, one)

        puts_it : (c : ℕ) (item : ℤ) → x.act ≡ Sent c item → 0 < length (sent_on c steps)
        puts_it c item is =
            let all = ap (λ (l : List Step). length (sent_on c l)) in_all
            ∙ (ap (length {A = ℤ}) (sent_on-append c (take (made p) steps) (x ∷ more))
            ∙ length-append (sent_on c (take (made p) steps)) (sent_on c (x ∷ more))) in
            let one : 0 < length (sent_on c (x ∷ more)) =
            subst (λ (a : Act). 0 < length (sent_by c a (sent_on c more))) (sym is)
            (sent_one c item (sent_on c more)) in
            omega (arith, all, one)

        by_place : (c : ℕ) (item : ℤ) → x.act ≡ Sent c item → slice_index room c ≤ length (history_of sent c)
            → (o : Option Channel) → slice_get net.channels c ≡ o → has_place limits old c o ≡ true → ⊥
        by_place c item is full None at_c place = cc
        by_place c item is full (Some channel) at_c place =
            let from = producer_is c channel at_c (puts_it c item is) in
            let free = less 0 (places channel.consumer (slice_index limits c) (log_on old c)) place in
            let room_is = room_at limits old p net.channels c channel at_c
            ∙ ap (λ (b : Bool). (if b then places channel.consumer (slice_index limits c) (log_on old c) else 0))
            (is_there_if p channel.producer from) in
            let nothing : length (history_of sent c) ≡ 0 =
            ap (length {A = ℤ}) (its.sent_is c ∙ ap (sent_on c) none) in
            no_room (places channel.consumer (slice_index limits c) (log_on old c)) (slice_index room c)
            (length (history_of sent c)) free room_is nothing full
          where
            no_room : (free room sent : ℕ) → 0 < free → room ≡ free → sent ≡ 0 → room ≤ sent → ⊥
            no_room free room sent some is none full = omega (arith, some, is, none, full)

        by : (a : Act) → x.act ≡ a → (next : Next) → next_of code standing ≡ next
            → can_do net.channels inputs limits old next ≡ true → IsNextAct next a → IsHeldBack a room items sent → ⊥
        by (Got d item) is (Gets c) next can same held =
            let of_c : x.act ≡ Got c item = is ∙ ap (λ (n : ℕ). Got n item) (sym same) in
            let a = ahead c can in
            let to = consumer_is c a.channel a.is (gets_it c item of_c) in
            let some = handed c a to in
            let nothing : length (history_of items c) ≡ 0 =
            ap (λ (n : ℕ). length (history_of items n)) same ∙ ap (length {A = ℤ}) held in
            omega (arith, some, nothing)
        by (Sent d item) is (Puts c) next can same held =
            let of_c : x.act ≡ Sent c item = is ∙ ap (λ (n : ℕ). Sent n item) (sym same) in
            by_place c item of_c
            (subst (λ (n : ℕ). slice_index room n ≤ length (history_of sent n)) (sym same) held)
            (slice_get net.channels c) refl can
        by (Sent d item) is (Gets c) next can never held = never
        by (Got d item) is (Puts c) next can never held = never
        by a is NoNext next can fact held = cc
        by a is Begins next can fact held =
            not_begins code point.site (ap (next_of code) (sym at_point) ∙ next)

    -- nor does it wait, since the item for which it would is there
    not_waiting : its.later ≡ [] → ⊥
    not_waiting is = by (process_trace code histories).end refl
      where
        left : drop (made p) steps ≡ []
        left = its.split ∙ (ap (λ (l : List Step). l ++ its.later) none ∙ is)

        all : take (made p) steps ≡ steps
        all =
            sym (append-nil (take (made p) steps))
            ∙ (ap (λ (l : List Step). take (made p) steps ++ l) (sym left) ∙ take-append-drop (made p) steps)

        here : At point vars ≡ standing_at [] (process_trace code histories).end
        here =
            (subst (λ (x : Standing). StandsAt code histories (made p) x) at_point stands).here
            ∙ ap (λ (l : List Step). standing_at l (process_trace code histories).end) left

        by : (e : End) → (process_trace code histories).end ≡ e → ⊥
        by (Ended v u) ends = let no : At point vars ≡ Done v = here ∙ ap (standing_at []) ends in cc
        by (Stopped v) ends = let no : At point vars ≡ Done v = here ∙ ap (standing_at []) ends in cc
        by (Waits q v c) ends =
            let met : At point vars ≡ At q v = here ∙ ap (standing_at []) ends in
            let same : point ≡ q = cc in
            let next : next_of code standing ≡ Gets c =
            ap (next_of code) at_point
            ∙ (ap (λ (x : Point). next_at code x.site) same
            ∙ ((foretells_process code histories).waits q v c ends).is) in
            let a = ahead c (sym (ap (can_do net.channels inputs limits old) next) ∙ can_next) in
            let got_all : length (history_of histories c) ≡ length (got_on c steps) =
            ap (length {A = ℤ}) (got_and_left steps histories c (reads_process code histories).reading
            ∙ (ap (λ (l : List ℤ). got_on c steps ++ l) (process_waits_empty code histories q v c ends)
            ∙ append-nil (got_on c steps))) in
            let put = prefix_length (rerun.stage.put c) (history_of histories c)
            (put_below net inputs valid fits comes.later comes.acts rerun.stage comes.sound c a.channel a.is) in
            let count = count_is c a.channel a.is a.channel.producer refl in
            let more = a.more in
            at c a (omega (arith, got_all, put, count)) (cases_lt 0 (length (got_on c steps)))
          where
            count_is : (c : ℕ) (channel : Channel) → slice_get net.channels c ≡ Some channel → (port : Port)
                → channel.producer ≡ port → count_by inputs old c port ≡ length (rerun.stage.put c)
            count_is c channel is Outside from = ap (length {A = ℤ}) (sym (rerun.is_at.whole c channel is from))
            count_is c channel is (Process r) from = sym (rerun.is_at.logs c r channel is from).count

            at : (c : ℕ) (a : Ahead c) → count_by inputs old c a.channel.producer ≤ length (got_on c steps)
                → (0 < length (got_on c steps)) ⊎ (length (got_on c steps) ≤ 0) → ⊥
            at c a few (inr nothing) = let more = a.more in omega (arith, more, few, nothing)
            at c a few (inl some) =
                let to = consumer_is c a.channel a.is some in
                let got = there.got c p a.channel a.is to in
                let own = ap (λ (o : Option Code). length (got_on c (first_acts o histories (made p)))) code_is in
                let whole = ap (λ (l : List Step). length (got_on c l)) all in
                let here = rerun.is_at.got c (slice_get_within net.channels c a.channel a.is) in
                let more = a.more in
                omega (arith, got, own, whole, here, more, few)

  pub does : DidSomething standing taken sent
  does = by standing refl
    where
      by_acts : (point : Point) (vars : List ℤ) → standing ≡ At point vars → (acts : List Step) → its.acts ≡ acts
          → DidSomething standing taken sent
      by_acts point vars at_point (x ∷ rest) is = by_act x.act refl
        where
          by_act : (a : Act) → x.act ≡ a → DidSomething standing taken sent
          by_act (Got c item) act =
              let count = its.taken_is c ∙ ap (λ (l : List Step). length (got_on c l)) is in
              let one : 0 < length (got_on c (x ∷ rest)) =
              subst (λ (a : Act). 0 < length (got_by c a (got_on c rest))) (sym act) (got_one c item (got_on c rest)) in
              Took c (omega (arith, count, one))
          by_act (Sent c item) act =
              let count = ap (length {A = ℤ}) (its.sent_is c ∙ ap (sent_on c) is) in
              let one : 0 < length (sent_on c (x ∷ rest)) =
              subst (λ (a : Act). 0 < length (sent_by c a (sent_on c rest))) (sym act)
              (sent_one c item (sent_on c rest)) in
              Put c (omega (arith, count, one))
      by_acts point vars at_point [] none = absurd (by_later its.later refl)
        where
          by_later : (later : List Step) → its.later ≡ later → ⊥
          by_later [] is = not_waiting none point vars at_point is
          by_later (x ∷ more) is = one_left none point vars at_point x more is

      by : (s : Standing) → standing ≡ s → DidSomething standing taken sent
      by (NotBegun vars) is = Began vars is
      by (At point vars) is = by_acts point vars is its.acts refl
      by (Done vars) is =
          let no : false ≡ true =
          sym (ap (λ (s : Standing). can_do net.channels inputs limits old (next_of code s)) is) ∙ can_next in
          absurd (cc)

pub moves : MovesWhereItCan
moves net inputs limits p old new valid fits ordered rerun can turned = record {
  turned = turned;
  did = does net inputs limits p old valid fits ordered rerun turned.code turned.before turned.after turned.taken
      turned.sent
      turned.code_is turned.before_is turned.turn can;
}
