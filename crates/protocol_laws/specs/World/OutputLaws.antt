-- Laws of a station's outputs: each is of a channel of its own, which goes outside from a process of the station's
-- node.
use Rattle.std.proofs.Common.{◌≡◌, ◌≢◌, ◌⊎◌, inl, inr, ℕ, zero, suc, ◌+◌, ◌&&◌, Bool, true, false, cond, List, [], ◌∷◌}
use Rattle.std.proofs.Common.{length, map, Option, Some, None, refl, sym, ap, ◌∙◌, arith}
use Rattle.std.specs.Prelude.{slice_get, slice_set, IsTrue}
use Rattle.std.proofs.lemmas.Bool.{and_parts, eqb-true}
use Rattle.protocol.specs.Node.Common.{Code, Network, Channel, Port, Outside, Process, is_on, has_process, port_on}
use Rattle.protocol_laws.specs.Node.NumberedLaws.{where_mark, where_once}
use Rattle.protocol.specs.World.Common.{OutputView, goes_outside, is_output, output_channels, outputs_on}
use Rattle.protocol.specs.World.Sound.{leaves_from}

-- The numbers of the outputs' channels

outside_there : (port : Port) → goes_outside port ≡ true → port ≡ Outside
outside_there Outside h = refl
outside_there (Process p) h = absurd (cc)

-- each is of a channel whose items go outside
pub channel_there : (number : ℕ) (channels : List Channel) (j c : ℕ)
    → slice_get (output_channels number channels) j ≡ Some c
    → (k : ℕ) × (channel : Channel) × (c ≡ number + k) × (slice_get channels k ≡ Some channel)
    × (channel.consumer ≡ Outside)
channel_there number [] j c is = absurd (cc)
channel_there number (x ∷ channels) j c is =
    at (goes_outside x.consumer) refl j (λ i there. channel_there (suc number) channels i c there) is
  where
    further : (k : ℕ) × (channel : Channel) × (c ≡ suc number + k) × (slice_get channels k ≡ Some channel)
        × (channel.consumer ≡ Outside)
        → (k : ℕ) × (channel : Channel) × (c ≡ number + k) × (slice_get (x ∷ channels) k ≡ Some channel)
        × (channel.consumer ≡ Outside)
    further r = let sum : suc number + r.0 ≡ number + suc r.0 = omega arith in (suc r.0, r.1, r.2 ∙ sum, r.3, r.4)

    at : (b : Bool) → goes_outside x.consumer ≡ b → (j : ℕ)
        → ((i : ℕ) → slice_get (output_channels (suc number) channels) i ≡ Some c
        → (k : ℕ) × (channel : Channel) × (c ≡ suc number + k) × (slice_get channels k ≡ Some channel)
        × (channel.consumer ≡ Outside))
        → slice_get (cond b (number ∷ output_channels (suc number) channels) (output_channels (suc number) channels)) j
        ≡ Some c
        → (k : ℕ) × (channel : Channel) × (c ≡ number + k) × (slice_get (x ∷ channels) k ≡ Some channel)
        × (channel.consumer ≡ Outside)
    at false test j later e = further (later j e)
    at true test zero later e =
        let same : c ≡ number = cc in
        let sum : number ≡ number + 0 = omega arith in
        (0, x, same ∙ sum, refl, outside_there x.consumer test)
    at true test (suc i) later e = further (later i e)

-- Lists

pub map_at : {A B : Type 0} (f : A → B) (xs : List A) (k : ℕ) (x : A) → slice_get xs k ≡ Some x
    → slice_get (map f xs) k ≡ Some (f x)
map_at f [] k x e = absurd (cc)
map_at {A} f (y ∷ xs) zero x e = let same : y ≡ x = cc in ap (λ (z : A). Some (f z)) same
map_at f (y ∷ xs) (suc k) x e = map_at f xs k x e

-- what stands in a list of which one element was set
pub set_cases : {A : Type 0} (xs : List A) (j i : ℕ) (y x : A) → slice_get (slice_set xs j y) i ≡ Some x
    → ((i ≡ j) × (y ≡ x)) ⊎ ((i ≢ j) × (slice_get xs i ≡ Some x))
set_cases [] j i y x is = absurd (cc)
set_cases (z ∷ xs) zero zero y x is = inl (refl, cc)
set_cases (z ∷ xs) zero (suc i) y x is = inr ((λ e. omega (arith, e)), is)
set_cases (z ∷ xs) (suc j) zero y x is = inr ((λ e. omega (arith, e)), is)
set_cases {A} (z ∷ xs) (suc j) (suc i) y x is = at (set_cases xs j i y x is)
  where
    at : ((i ≡ j) × (y ≡ x)) ⊎ ((i ≢ j) × (slice_get xs i ≡ Some x))
        → ((suc i ≡ suc j) × (y ≡ x)) ⊎ ((suc i ≢ suc j) × (slice_get xs i ≡ Some x))
    at (inl here) = inl (ap suc here.0, here.1)
    at (inr other) = inr ((λ e. other.0 (omega (arith, e))), other.1)

-- setting one for another of the same mark leaves the marks
pub set_keeps : {A B : Type 0} (f : A → B) (xs : List A) (j : ℕ) (x y : A) → slice_get xs j ≡ Some x → f y ≡ f x
    → map f (slice_set xs j y) ≡ map f xs
set_keeps f [] j x y is same = refl
set_keeps {A} {B} f (z ∷ xs) zero x y is same = let here : z ≡ x = cc in
    ap (λ (w : B). w ∷ map f xs) (same ∙ ap f (sym here))
set_keeps {A} {B} f (z ∷ xs) (suc j) x y is same = ap (λ (ws : List B). f z ∷ ws) (set_keeps f xs j x y is same)

-- setting what stands there changes nothing
pub set_same : {A : Type 0} (xs : List A) (j : ℕ) (x : A) → slice_get xs j ≡ Some x → slice_set xs j x ≡ xs
set_same [] j x is = refl
set_same {A} (z ∷ xs) zero x is = let same : z ≡ x = cc in ap (λ (w : A). w ∷ xs) (sym same)
set_same {A} (z ∷ xs) (suc j) x is = ap (λ (ws : List A). z ∷ ws) (set_same xs j x is)

-- Outputs

-- an output of a node is a channel of the network, whose items go outside from a process of that node
pub record IsOutputOf (net : Network) (home c : ℕ) : Type 0 where
  pub channel : Channel
  pub there : slice_get net.channels c ≡ Some channel
  pub outside : channel.consumer ≡ Outside
  pub process : ℕ
  pub producer : channel.producer ≡ Process process
  pub here : IsTrue (has_process net home process)

pub output_of_node : (net : Network) (home c : ℕ) → IsTrue (is_output net home c) → IsOutputOf net home c
output_of_node net home c passes = at (slice_get net.channels c) refl passes
  where
    by_producer : (channel : Channel) → slice_get net.channels c ≡ Some channel → channel.consumer ≡ Outside
        → (port : Port) → channel.producer ≡ port → IsTrue (port_on net home port) → IsOutputOf net home c
    by_producer channel is to Outside from passes = absurd (cc)
    by_producer channel is to (Process p) from passes =
        record { channel = channel; there = is; outside = to; process = p; producer = from; here = passes }

    at : (o : Option Channel) → slice_get net.channels c ≡ o → IsTrue (leaves_from net home o) → IsOutputOf net home c
    at None is passes = absurd (cc)
    at (Some channel) is passes =
        let parts = and_parts (goes_outside channel.consumer) (port_on net home channel.producer) passes in
        by_producer channel is (outside_there channel.consumer parts.0) channel.producer refl parts.1

-- and the other way round
pub output_there : (net : Network) (home c p : ℕ) (channel : Channel) → slice_get net.channels c ≡ Some channel
    → channel.consumer ≡ Outside → channel.producer ≡ Process p → IsTrue (has_process net home p)
    → IsTrue (is_output net home c)
output_there net home c p channel is to from here =
    ap (leaves_from net home) is
    ∙ (ap (λ (port : Port). goes_outside port && port_on net home channel.producer) to
    ∙ (ap (port_on net home) from ∙ here))

-- a process is on one node
pub process_once : (net : Network) (home other p : ℕ) → IsTrue (has_process net home p)
    → IsTrue (has_process net other p) → home ≡ other
process_once net home other p one two = at (slice_get net.codes p) one two
  where
    at : (o : Option Code) → IsTrue (is_on home o) → IsTrue (is_on other o) → home ≡ other
    at None one two = absurd (cc)
    at (Some code) one two = sym (eqb-true code.node home one) ∙ eqb-true code.node other two

-- so a channel is an output of one node
pub output_once : (net : Network) (home other c : ℕ) → IsTrue (is_output net home c) → IsTrue (is_output net other c)
    → home ≡ other
output_once net home other c one two =
    let here = output_of_node net home c one in
    let there = output_of_node net other c two in
    let both : Some here.channel ≡ Some there.channel = sym here.there ∙ there.there in
    let same : here.channel ≡ there.channel = cc in
    let ports : Process here.process ≡ Process there.process =
    sym here.producer ∙ (ap (λ (c : Channel). c.producer) same ∙ there.producer) in
    let number : here.process ≡ there.process = cc in
    process_once net home other here.process here.here (ap (has_process net other) number ∙ there.here)

module _ (net : Network) (home : ℕ) (outputs : List OutputView)
    (listed : map (λ (o : OutputView). o.channel) outputs ≡ outputs_on net home) where
  -- each is of an output of the node
  pub output_here : (j : ℕ) (output : OutputView) → slice_get outputs j ≡ Some output
      → IsOutputOf net home output.channel
  output_here j output is =
      output_of_node net home output.channel
      (where_mark (λ (o : OutputView). o.channel) (is_output net home) 0 (length net.channels) outputs j output listed
      is).0

  -- two outputs of one channel are the same one
  pub same_output : (i j : ℕ) (one other : OutputView) → slice_get outputs i ≡ Some one
      → slice_get outputs j ≡ Some other → one.channel ≡ other.channel → i ≡ j
  same_output i j one other a b same =
      where_once (λ (o : OutputView). o.channel) (is_output net home) 0 (length net.channels) outputs listed i j one
      other a b same

  -- the process that puts on one is on the node
  pub output_from : (j : ℕ) (output : OutputView) → slice_get outputs j ≡ Some output → (p : ℕ) (channel : Channel)
      → slice_get net.channels output.channel ≡ Some channel → channel.producer ≡ Process p
      → IsTrue (has_process net home p)
  output_from j output is p channel on from =
      let here = output_here j output is in
      let both : Some here.channel ≡ Some channel = sym here.there ∙ on in
      let same : here.channel ≡ channel = cc in
      let ports : Process here.process ≡ Process p =
      sym here.producer ∙ (ap (λ (c : Channel). c.producer) same ∙ from) in
      let number : here.process ≡ p = cc in
      ap (has_process net home) (sym number) ∙ here.here
