-- A world whose inputs were fed.
use Rattle.std.proofs.Common.{◌≡◌, ℕ, ◌+◌, ◌<◌, ◌≤◌, Bool, true, false, ℤ, List, length, Option, Some, None, refl, ap, sym, ◌∙◌, arith}
use Rattle.std.specs.Prelude.{Result, Ok, Err, OnErr, OnOk, nat_le, slice_get, slice_index_or}
use Rattle.std.proofs.lemmas.Bool.{leb-true}
use Rattle.std.proofs.lemmas.Option.{slice_get_within}
use Rattle.std.specs.declared.alloc.AllocError.{AllocError}
use Rattle.arrived.specs.ArrivedView.{ArrivedView}
use Rattle.growing.proofs.Adding.{fed_is_later}
use Rattle.growing.proofs.Feeding.{stays_sound}
use Rattle.growing.specs.LaterInputs.{AreLaterInputs, fed, with_inputs}
use Rattle.kahn_net.specs.Laws.Prefixes.{prefixes_refl}
use Rattle.kahn_net.specs.declared.limits.TheConstants.{MAX_COUNT}
use Rattle.protocol.specs.Node.Common.{Channel, Fits, history_of, Network, Outside, Port, Process}
use Rattle.protocol.specs.World.Common.{WorldInvariant, WorldView}
use Rattle.world.specs.Feeding.{comes_from_outside, feed_refusal, feed_refusal_by, is_input_by}

-- a channel on which items are accepted
record Accepts (there : Option Channel) (few : Bool) : Type 0 where
  channel : Channel
  is : there ≡ Some channel
  outside : channel.producer ≡ Outside
  fits : few ≡ true

accepts_by : (port : Port) (closed few : Bool) → feed_refusal_by (comes_from_outside port) closed few ≡ None
    → (port ≡ Outside) × (few ≡ true)
accepts_by Outside true few none = absurd (cc)
accepts_by Outside false true none = (refl, refl)
accepts_by Outside false false none = absurd (cc)
accepts_by (Process p) closed few none = absurd (cc)

accepts : (there : Option Channel) (closed few : Bool) → feed_refusal_by (is_input_by there) closed few ≡ None
    → Accepts there few
accepts None closed few none = absurd (cc)
accepts (Some channel) closed few none =
    let parts = accepts_by channel.producer closed few none in
    record { channel = channel; is = refl; outside = parts.0; fits = parts.1 }

module _ (net : Network) (closed : List Bool) (inputs : List (List ℤ)) (input : ℕ) (items : List ℤ) (fits : Fits net inputs)
    (none : feed_refusal net closed inputs input (length items) ≡ None) where
  abbrev here : Accepts (slice_get net.channels input) (nat_le (length (history_of inputs input) + length items) MAX_COUNT)
  here = accepts (slice_get net.channels input) (slice_index_or closed input false)
      (nat_le (length (history_of inputs input) + length items) MAX_COUNT) none

  pub accepted_within : input < length inputs
  accepted_within =
      let below = slice_get_within net.channels input here.channel here.is in
      let each = fits.count in
      omega (arith, below, each)

  pub accepted_few : length (history_of inputs input) + length items ≤ MAX_COUNT
  accepted_few = leb-true (length (history_of inputs input) + length items) MAX_COUNT here.fits

  pub accepted_later : AreLaterInputs net inputs (fed input items inputs)
  accepted_later = (fed_is_later net inputs input here.channel items fits here.is here.outside).1 accepted_few

  -- also where there was no memory, so that they are the same
  pub later_either : (now : List (List ℤ)) (result : Result (Unit {0}) AllocError) → OnOk result (now ≡ fed input items inputs)
      → OnErr result (now ≡ inputs) → AreLaterInputs net inputs now
  later_either now (Ok done) ok err = rw ok accepted_later
  later_either now (Err fault) ok err = rw err (record { longer = prefixes_refl inputs; fits = fits })

pub fed_sound : (world : WorldView) (closed : List Bool) (input : ℕ) (items : List ℤ) (now : List (List ℤ))
    (result : Result (Unit {0}) AllocError) → WorldInvariant world
    → feed_refusal world.net closed world.inputs input (length items) ≡ None
    → OnOk result (now ≡ fed input items world.inputs) → OnErr result (now ≡ world.inputs)
    → WorldInvariant (with_inputs now world)
fed_sound world closed input items now result sound none ok err =
    stays_sound world now sound (later_either world.net closed world.inputs input items sound.fits none now result ok err)

-- so where they stand behind what had come, of which something may have been let go of
pub appended_sound : (world : WorldView) (closed : List Bool) (input place : ℕ) (items : List ℤ) (old now : ArrivedView)
    (result : Result (Unit {0}) AllocError) → world.inputs ≡ old.came → place ≡ input → WorldInvariant world
    → feed_refusal world.net closed world.inputs input (length items) ≡ None
    → OnOk result (now.came ≡ fed place items old.came) → OnErr result (now ≡ old) → WorldInvariant (with_inputs now.came world)
appended_sound world closed input place items old now (Ok done) same at sound none ok err =
    fed_sound world closed input items now.came (Ok done) sound none (ok ∙ (ap (λ (n : ℕ). fed n items old.came) at
    ∙ ap (fed input items) (sym same))) tt
appended_sound world closed input place items old now (Err fault) same at sound none ok err =
    fed_sound world closed input items now.came (Err fault) sound none tt (ap (λ (a : ArrivedView). a.came) err ∙ sym same)
