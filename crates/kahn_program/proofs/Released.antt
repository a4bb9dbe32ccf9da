-- What a run's streams are printed as.
use Rattle.std.proofs.Common.{◌≡◌, ℕ, suc, ◌+◌, ◌<◌, Bool, true, false, List, ℤ}
use Rattle.std.proofs.Common.{[], ◌∷◌, ◌++◌, length, map, drop, get_or, Option, refl, sym, ap, subst, ◌∙◌}
use Rattle.std.proofs.Common.{append_assoc, arith}
use Rattle.std.specs.Prelude.{if◌then◌else◌, is_some}
use Rattle.std.proofs.Math.Logic.{∥∥₁_map}
use Rattle.std.proofs.Math.Seq.{drop-cons}
use Rattle.protocol.specs.Node.Common.{Network, network_of, Channel, Port, Outside, Process, Net}
use Rattle.protocol.specs.World.Common.{goes_outside, output_channels, WorldView, are_quiet, released_of}
use Rattle.cobaltmidge.specs.Common.{history_text}
use Rattle.replay.specs.Replay.{Happening}
use Rattle.replay.specs.declared.kept.ScriptedEvent.{ScriptedEvent}
use Rattle.cobaltmidge.specs.Runs.{released_streams, IsRun, IsEndOf}
use Rattle.cobaltmidge.specs.Runs.{cut_at}
use Rattle.kahn_program.specs.Asked.{settings_of}
use Rattle.kahn_program.specs.Report.{one_if_output, output_count, report_text}
use Rattle.kahn_program.specs.Runs.{first_items, is_whole, run_text, IsReport}
use Rattle.kahn_program.specs.Runs.{IsToldOf, IsWrittenIf}
use Rattle.kahn_program.specs.declared.asked.Options.{Options}

-- Streams in order of the channels

one_listed : (f : ℕ → List ℤ) (b : Bool) (number : ℕ) (rest : List ℕ)
    → (if b then f number ∷ [] else []) ++ map f rest ≡ map f (if b then number ∷ rest else rest)
one_listed f true number rest = refl
one_listed f false number rest = refl

-- one more channel was looked at
pub streams_next : (f : ℕ → List ℤ) (channels : List Channel) (k : ℕ) (d : Channel) (before now whole : List (List ℤ))
    → k < length channels → before ++ map f (output_channels k (drop k channels)) ≡ whole
    → now ≡ before ++ (if goes_outside (get_or channels k d).consumer then f k ∷ [] else [])
    → now ++ map f (output_channels (k + 1) (drop (k + 1) channels)) ≡ whole
streams_next f channels k d before now whole within so_far added =
    let next : suc k ≡ k + 1 = omega arith in
    let rest : List ℕ = output_channels (suc k) (drop (suc k) channels) in
    ap (λ (n : ℕ). now ++ map f (output_channels n (drop n channels))) (sym next)
    ∙ (ap (λ (list : List (List ℤ)). list ++ map f rest) added
    ∙ (append_assoc before _ (map f rest)
    ∙ (ap (λ (list : List (List ℤ)). before ++ list) (one_listed f (goes_outside (get_or channels k d).consumer) k rest)
    ∙ (ap (λ (list : List Channel). before ++ map f (output_channels k list)) (sym (drop-cons channels k d within))
    ∙ so_far))))

-- as many streams as outputs
pub counted_streams : (f : ℕ → List ℤ) (number : ℕ) (channels : List Channel)
    → length (map f (output_channels number channels)) ≡ output_count channels
counted_streams f number [] = refl
counted_streams f number (channel ∷ channels) = at channel.consumer (counted_streams f (suc number) channels)
  where
    at : (port : Port) → length (map f (output_channels (suc number) channels)) ≡ output_count channels
        → length
        (map f (if goes_outside port then number
        ∷ output_channels (suc number) channels else output_channels (suc number) channels))
        ≡ one_if_output port (output_count channels)
    at Outside rest = let more : suc (output_count channels) ≡ output_count channels + 1 = omega arith in
        ap suc rest ∙ more
    at (Process p) rest = rest

-- The report of a run

twice : (f : ℕ → List ℤ) (g : List ℤ → List ℤ) (numbers : List ℕ)
    → map (λ (number : ℕ). g (f number)) numbers ≡ map g (map f numbers)
twice f g [] = refl
twice f g (number ∷ numbers) = ap (λ (rest : List (List ℤ)). g (f number) ∷ rest) (twice f g numbers)

pub reported : (net : Net) (given : List Channel) (items cut : Option ℕ)
    (streams : List (List ℤ)) (now : WorldView) (text : List ℕ) (complete told : Bool)
    → given ≡ net.program.channels.items
    → cut ≡ cut_at items (map (λ (channel : ℕ). released_of channel now.stations) (output_channels 0 given))
    → streams ≡ map (λ (channel : ℕ). first_items cut (released_of channel now.stations)) (output_channels 0 given)
    → told ≡ is_whole cut complete
    → text ≡ report_text net.program.channels.items net.channel_names.items streams told
    → complete ≡ are_quiet now
    → IsToldOf net items now text told
reported net given items cut streams now text complete told channels where_cut listed whole printed quiet =
    let stations = now.stations in
    let released : List (List ℤ) = released_streams (network_of net.program) stations in
    let same : map (λ (channel : ℕ). released_of channel stations) (output_channels 0 given) ≡ released =
    ap (λ (l : List Channel). map (λ (channel : ℕ). released_of channel stations) (output_channels 0 l)) channels in
    let at : cut ≡ cut_at items released = where_cut ∙ ap (cut_at items) same in
    let all : streams ≡ map (first_items cut) released =
    listed ∙ (twice (λ (channel : ℕ). released_of channel stations) (first_items cut) (output_channels 0 given)
    ∙ ap (map (first_items cut)) same) in
    let text_is : text ≡ run_text net cut released complete =
    printed ∙ (ap (λ (l : List (List ℤ)). report_text net.program.channels.items net.channel_names.items l told) all
    ∙ ap (λ (b : Bool). report_text net.program.channels.items net.channel_names.items (map (first_items cut) released)
    b) whole) in (
      whole ∙ (ap (λ (c : Option ℕ). is_whole c complete) at ∙ ap (is_whole (cut_at items released)) quiet),
      text_is ∙ (ap (λ (c : Option ℕ). run_text net c released complete) at
          ∙ ap (run_text net (cut_at items released) released) quiet),
    )

-- the report of a run's last world
pub report_is : (held : Option (List ℕ) → Type 0) (kept : List (List ℤ) → Type 0) (wrote : List ℕ → Type 0) (options : Options) (net : Net)
    (inputs : List (List ℤ)) (script : List ScriptedEvent) (happened : List Happening) (counts : Option (List ℕ)) (now : WorldView)
    (text : List ℕ) (told : Bool) → held counts
    → ∥ (now.net ≡ network_of net.program) × (now.inputs ≡ inputs) ∥₁
    → IsEndOf counts (settings_of options) (network_of net.program) inputs script happened now
    → IsRun (network_of net.program) inputs (released_streams (network_of net.program) now.stations) (are_quiet now)
    → IsToldOf net options.items now text told → kept (released_streams now.net now.stations)
    → IsWrittenIf (is_some options.history) wrote (history_text net happened)
    → IsReport held kept wrote options net inputs script text told
report_is held kept wrote options net inputs script happened counts now text told were same end run told_of has written =
    ∥∥₁_map same (λ s. (
      now,
      happened,
      counts,
      were,
      end,
      run,
      told_of,
      subst (λ (n : Network). kept (released_streams n now.stations)) s.0 has,
      written,
    ))
