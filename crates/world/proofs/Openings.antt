-- A station before its first event.
use Rattle.std.proofs.Common.{◌≡◌, ℕ, zero, suc, ◌+◌, ◌<◌, Bool, true, false, List, ℤ, [], ◌∷◌, ◌++◌, map, length, drop}
use Rattle.std.proofs.Common.{get_or, refl, sym, ap, subst, ◌∙◌, append_assoc, arith}
use Rattle.std.specs.Prelude.{if◌then◌else◌}
use Rattle.std.proofs.Math.Seq.{drop-cons}
use Rattle.protocol.specs.Node.Common.{Channel, Network, RecordView, NodeView, opening_record}
use Rattle.protocol.specs.Node.Opening.{opening_node, running_from}
use Rattle.protocol.specs.World.Turns.{no_turns}
use Rattle.protocol.specs.declared.round_turns.RoundTurns.{RoundTurns}
use Rattle.protocol.specs.World.Common.{output_of, outputs_of, OutputView, goes_outside, output_channels, OutletView}
use Rattle.protocol.specs.World.Common.{StationView}
use Rattle.protocol_laws.specs.World.OpenLaws.{NothingLeft}
use Rattle.std.specs.List.{AllByRecursion}
use Rattle.protocol.specs.World.OpeningWorld.{opening_outlet, opening_station}
use Rattle.station.specs.OutputView.{fresh}
use Rattle.world.specs.OpeningWorld.{IsUnused}
use Rattle.station.specs.StationView.{outlet_view, outlet_views}
use Rattle.station.specs.declared.output.Output.{Output}

one_listed : (b : Bool) (number : ℕ) (rest : List ℕ)
    → (if b then number ∷ [] else []) ++ rest ≡ (if b then number ∷ rest else rest)
one_listed true number rest = refl
one_listed false number rest = refl

-- one more channel was looked at
pub listed_next : (channels : List Channel) (k : ℕ) (d : Channel) (before now whole : List ℕ) → k < length channels
    → before ++ output_channels k (drop k channels) ≡ whole
    → now ≡ before ++ (if goes_outside (get_or channels k d).consumer then k ∷ [] else [])
    → now ++ output_channels (k + 1) (drop (k + 1) channels) ≡ whole
listed_next channels k d before now whole within so_far added =
    let next : suc k ≡ k + 1 = omega arith in
    let rest : List ℕ = output_channels (suc k) (drop (suc k) channels) in
    ap (λ (n : ℕ). now ++ output_channels n (drop n channels)) (sym next)
    ∙ (ap (λ (list : List ℕ). list ++ rest) added
    ∙ (append_assoc before _ rest
    ∙ (ap (λ (list : List ℕ). before ++ list) (one_listed (goes_outside (get_or channels k d).consumer) k rest)
    ∙ (ap (λ (list : List Channel). before ++ output_channels k list) (sym (drop-cons channels k d within)) ∙ so_far))))

-- Outputs of which no failure is remembered

pub fresh_views : {O : Type 0} (taken : O → List ℤ) (failures : O → ℕ) (outputs : List (Output O))
    → outlet_views taken failures (map fresh outputs) ≡ map opening_outlet (outlet_views taken failures outputs)
fresh_views taken failures [] = refl
fresh_views taken failures (output ∷ outputs) =
    ap (λ (rest : List OutletView). opening_outlet (outlet_view taken failures output) ∷ rest)
    (fresh_views taken failures outputs)

-- The outlets of a world that opens

-- are of the same channels
pub opened_listed : {O : Type 0} (taken : O → List ℤ) (failures : O → ℕ) (outputs : List (Output O))
    → map (λ (output : OutputView). output.channel)
    (outputs_of (map opening_outlet (outlet_views taken failures outputs)))
    ≡ map (λ (output : Output O). output.channel) outputs
opened_listed taken failures [] = refl
opened_listed taken failures (output ∷ outputs) =
    ap (λ (rest : List ℕ). output.channel ∷ rest) (opened_listed taken failures outputs)

-- and nothing has left by them
pub opened_nothing : {O : Type 0} (taken : O → List ℤ) (failures : O → ℕ) (outputs : List (Output O))
    → AllByRecursion (IsUnused taken) outputs
    → NothingLeft (outputs_of (map opening_outlet (outlet_views taken failures outputs)))
opened_nothing taken failures [] none j output is = absurd (cc)
opened_nothing taken failures (first ∷ outputs) none zero output is =
    let same : output_of (opening_outlet (outlet_view taken failures first)) ≡ output = cc in
    subst (λ (o : OutputView). o.taken ≡ []) same none.0
opened_nothing taken failures (first ∷ outputs) none (suc j) output is =
    opened_nothing taken failures outputs none.1 j output is

-- a station whose node runs from the opening record
pub opened_station : (net : Network) (nodes home number failures before : ℕ) (kept : RecordView) (node : NodeView)
    (outlets : List OutletView) (turns : RoundTurns)
    → number ≡ home → node ≡ running_from net home kept → kept ≡ opening_record net nodes home → failures ≡ before
    → turns ≡ no_turns 0
    → ◌≡◌ {A = StationView}
    (record { number = number; node = node; failures = failures; outlets = outlets; turns = turns })
    (opening_station net nodes home before outlets)
opened_station net nodes home number failures before kept node outlets turns first runs is same none =
    ap (λ (n : ℕ). station_at n node failures turns) first
    ∙ (ap (λ (state : NodeView). station_at home state failures turns) (runs ∙ ap (running_from net home) is)
    ∙ (ap (λ (n : ℕ). station_at home (opening_node net nodes home) n turns) same
    ∙ ap (λ (t : RoundTurns). station_at home (opening_node net nodes home) before t) none))
  where
    station_at : ℕ → NodeView → ℕ → RoundTurns → StationView
    station_at n state count t = record { number = n; node = state; failures = count; outlets = outlets; turns = t }
