-- The way from a process, as far as it was walked, and what is left of it.
use Rattle.std.proofs.Common.{◌≡◌, ℕ, ℤ, zero, suc, ◌+◌, ◌<◌, ◌≤◌, Bool, true, false, ◌||◌, cond, List, length, Option, Some}
use Rattle.std.proofs.Common.{None, refl, sym, ap, ◌∙◌, arith}
use Rattle.std.proofs.lemmas.List.{length-map}
use Rattle.std.proofs.lemmas.Option.{slice_get_within}
use Rattle.std.specs.List.{list_any}
use Rattle.std.specs.Vec.{vec_len}
use Rattle.kahn_net.specs.Common.{IsValid}
use Rattle.protocol.specs.Node.Common.{MAX_CHANNELS, Net, Network, code_of, network_of}
use Rattle.protocol.specs.World.Common.{StationView, WorldView}
use Rattle.protocol.specs.World.RoomNeeds.{awaited, first_of_any, held_on, is_going, last_held, need_of, need_on, needed_for, way}
use Rattle.protocol.specs.World.RoomNeeds.{way_from}
use Rattle.protocol.specs.World.Stances.{stance_of}
use Rattle.protocol.specs.declared.stance.Stance.{Stance}
use Rattle.protocol_laws.specs.World.RoomNeedLaws.{node_need_is_found, put_is_held, puts_there}
use Rattle.turns.specs.Turns.{or_else}

-- what the rest of a way needs, where this channel is that of the last one that is held so far
abbrev pub rest_needs : (ℕ → Stance) → (ℕ → Option ℕ) → ℕ → Option ℕ → Option ℕ → Option ℕ
rest_needs stance next left from last =
    cond (list_any (λ (process : ℕ). is_going (stance process)) (way next left from)) None
    (or_else (last_held stance (way next left from)) last)

-- so many steps were made, and what the rest needs the whole way needs
pub record IsWalked (net : Network) (stance : ℕ → Stance) (start steps : ℕ) (from last : Option ℕ) : Type 0 where
  pub left : ℕ
  pub sum : steps + left ≡ suc (length net.codes)
  pub is : rest_needs stance (λ (one : ℕ). awaited net (stance one)) left from last
      ≡ need_on stance (way_from net stance start)

or_none : (o : Option ℕ) → or_else o None ≡ o
or_none None = refl
or_none (Some x) = refl

or_later : (o p q : Option ℕ) → or_else (or_else o p) q ≡ or_else o (or_else p q)
or_later None p q = refl
or_later (Some x) p q = refl

-- at first
pub not_walked : (net : Network) (stance : ℕ → Stance) (start : ℕ) → IsWalked net stance start 0 (Some start) None
not_walked net stance start = record {
  left = suc (length net.codes);
  sum = omega arith;
  is =
      ap (cond (list_any (λ (process : ℕ). is_going (stance process)) (way_from net stance start)) None)
      (or_none (last_held stance (way_from net stance start)));
}

module _ (net : Network) (stance : ℕ → Stance) (start steps : ℕ) where
  -- where it ended
  pub walk_ended : (last : Option ℕ) → IsWalked net stance start steps None last
      → last ≡ need_on stance (way_from net stance start)
  walk_ended last walked = at walked.left refl ∙ walked.is
    where
      at : (left : ℕ) → walked.left ≡ left
          → last ≡ rest_needs stance (λ (one : ℕ). awaited net (stance one)) walked.left None last
      at zero is =
          sym (ap (λ (n : ℕ). rest_needs stance (λ (one : ℕ). awaited net (stance one)) n None last) is)
      at (suc m) is =
          sym (ap (λ (n : ℕ). rest_needs stance (λ (one : ℕ). awaited net (stance one)) n None last) is)

  -- where all of it was walked
  pub walk_over : (from last : Option ℕ) → suc (length net.codes) ≤ steps
      → IsWalked net stance start steps from last → last ≡ need_on stance (way_from net stance start)
  walk_over from last over walked =
      let none : walked.left ≡ 0 = omega (arith, walked.sum, over) in
      sym (ap (λ (n : ℕ). rest_needs stance (λ (one : ℕ). awaited net (stance one)) n from last) none) ∙ walked.is

  -- where there is one more
  more_left : (from last : Option ℕ) → steps < suc (length net.codes) → (walked : IsWalked net stance start steps from last)
      → (m : ℕ) × (walked.left ≡ suc m)
  more_left from last within walked = at walked.left refl
    where
      at : (left : ℕ) → walked.left ≡ left → (m : ℕ) × (walked.left ≡ suc m)
      at zero is = absurd (omega (arith, walked.sum, is, within))
      at (suc m) is = (m, is)

  -- and it goes on
  pub walk_goes : (process : ℕ) (last : Option ℕ) → steps < suc (length net.codes)
      → IsWalked net stance start steps (Some process) last → is_going (stance process) ≡ true
      → None ≡ need_on stance (way_from net stance start)
  walk_goes process last within walked going =
      let next : ℕ → Option ℕ = λ (one : ℕ). awaited net (stance one) in
      let more = more_left (Some process) last within walked in
      let rest = way next more.0 (next process) in
      let any = list_any (λ (one : ℕ). is_going (stance one)) rest in
      let all = or_else (or_else (last_held stance rest) (held_on (stance process))) last in
      sym (ap (λ (n : ℕ). rest_needs stance next n (Some process) last) more.1
      ∙ ap (λ (b : Bool). cond (b || any) None all) going)
      ∙ walked.is

  -- or waits
  pub walk_on : (process : ℕ) (last later : Option ℕ) → steps < suc (length net.codes)
      → IsWalked net stance start steps (Some process) last → is_going (stance process) ≡ false
      → later ≡ or_else (held_on (stance process)) last
      → IsWalked net stance start (steps + 1) (awaited net (stance process)) later
  walk_on process last later within walked waits is =
      let next : ℕ → Option ℕ = λ (one : ℕ). awaited net (stance one) in
      let more = more_left (Some process) last within walked in
      let rest = way next more.0 (next process) in
      let any = list_any (λ (one : ℕ). is_going (stance one)) rest in
      record {
        left = more.0;
        sum = omega (arith, walked.sum, more.1);
        is =
            ap (λ (o : Option ℕ). cond any None (or_else (last_held stance rest) o)) is
            ∙ (ap (cond any None) (sym (or_later (last_held stance rest) (held_on (stance process)) last))
            ∙ (sym (ap (λ (b : Bool). cond (b || any) None
            (or_else (or_else (last_held stance rest) (held_on (stance process))) last)) waits)
            ∙ (sym (ap (λ (n : ℕ). rest_needs stance next n (Some process) last) more.1) ∙ walked.is)));
      }

-- ---- the first need

-- of so many numbers nothing is found of those before this one
pub record IsSought (found : ℕ → Option ℕ) (count number : ℕ) : Type 0 where
  pub left : ℕ
  pub sum : number + left ≡ count
  pub is : first_of_any found number left ≡ first_of_any found 0 count

pub not_sought : (found : ℕ → Option ℕ) (count : ℕ) → IsSought found count 0
not_sought found count = record { left = count; sum = omega arith; is = refl }

module _ (found : ℕ → Option ℕ) (count number : ℕ) (sought : IsSought found count number) where
  pub none_found : count ≤ number → None ≡ first_of_any found 0 count
  none_found over =
      let none : sought.left ≡ 0 = omega (arith, sought.sum, over) in
      sym (ap (first_of_any found number) none) ∙ sought.is

  one_left : number < count → (m : ℕ) × (sought.left ≡ suc m)
  one_left within = at sought.left refl
    where
      at : (left : ℕ) → sought.left ≡ left → (m : ℕ) × (sought.left ≡ suc m)
      at zero is = absurd (omega (arith, sought.sum, is, within))
      at (suc m) is = (m, is)

  pub this_found : (channel : ℕ) → number < count → Some channel ≡ found number → Some channel ≡ first_of_any found 0 count
  this_found channel within is =
      let more = one_left within in
      ap (λ (o : Option ℕ). or_else o (first_of_any found (suc number) more.0)) is
      ∙ (sym (ap (first_of_any found number) more.1) ∙ sought.is)

  pub next_sought : number < count → None ≡ found number → IsSought found count (number + 1)
  next_sought within is =
      let more = one_left within in
      record {
        left = more.0;
        sum = omega (arith, sought.sum, more.1);
        is =
            ap (λ (n : ℕ). first_of_any found n more.0) (let e : number + 1 ≡ suc number = omega arith in e)
            ∙ (ap (λ (o : Option ℕ). or_else o (first_of_any found (suc number) more.0)) is
            ∙ (sym (ap (first_of_any found number) more.1) ∙ sought.is));
      }

-- a number below the count of processes is one of the network's
pub process_below : (net : Net) (p count : ℕ) → count ≡ vec_len net.program.processes → p < count
    → p < length (network_of net.program).codes
process_below net p count is below =
    let processes = net.program.processes in
    omega (arith, below, is, processes.ok.0, length-map processes.items code_of)

-- ---- of a world

-- what a node needs
need_seen : (net : Network) (inputs : List (List ℤ)) (rooms : List ℕ) (stations : List StationView) (node : ℕ) → Option ℕ
need_seen net inputs rooms stations node =
    first_of_any (need_of net (stance_of net inputs rooms stations) node) 0 (length net.codes)

-- it is the same as it is read through other references
pub seen_there : (net seen : Network) (inputs read : List (List ℤ)) (rooms : List ℕ) (stations others : List StationView)
    (node : ℕ) → seen ≡ net → read ≡ inputs → others ≡ stations
    → first_of_any (need_of seen (stance_of seen read rooms others) node) 0 (length seen.codes)
    ≡ first_of_any (need_of net (stance_of net inputs rooms stations) node) 0 (length net.codes)
unfolding need_seen
seen_there net seen inputs read rooms stations others node e f g =
    ap (λ (n : Network). need_seen n read rooms others node) e
    ∙ (ap (λ (i : List (List ℤ)). need_seen net i rooms others node) f
    ∙ ap (λ (s : List StationView). need_seen net inputs rooms s node) g)

-- the channel that is found for a node is one of the network
pub need_below : (world : WorldView) (node channel : ℕ) → IsValid world.net → needed_for world node ≡ Some channel
    → channel < MAX_CHANNELS
need_below world node channel valid is =
    let need = node_need_is_found world node channel valid is in
    let there = puts_there world need.0 channel valid (put_is_held world need.0 channel need.1.held) in
    let within = slice_get_within world.net.channels channel there.0 there.1 in
    omega (arith, within, valid.channel_count)
