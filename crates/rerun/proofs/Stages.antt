-- The images of a stage fit together, so a world may begin there.
use Rattle.std.proofs.Common.{◌≡◌, ◌⊎◌, inl, inr, ℕ, ◌≤◌, Bool, true, false, cond, eqb, length, Option, Some, None}
use Rattle.std.proofs.Common.{refl, sym, ap, subst, ◌∙◌, arith}
use Rattle.std.specs.Prelude.{slice_get}
use Rattle.std.proofs.lemmas.Bool.{eq-eqb}
use Rattle.std.proofs.lemmas.Bool.Decides.{eqb_tells}
use Rattle.kahn_net.specs.Syntax.{Network}
use Rattle.kahn_net.specs.declared.program.Channel.{Channel}
use Rattle.kahn_net.specs.declared.program.Port.{Port}
use Rattle.kahn_net.specs.declared.program.Port.TheVariants.{Outside, Process}
use Rattle.protocol.specs.Node.Layout.{node_at, consumer_of, is_node}
use Rattle.protocol.specs.World.RecoveryLine.{net_seen}
use Rattle.recovery_line.specs.Images.{IsOutput}
use Rattle.recovery_line.specs.Starts.{IsLine}
use Rattle.rerun.specs.Rerunning.{Stage, first_stage, CountsFit}
use Rattle.rerun.proofs.Turning.{begins}
use Rattle.rerun.proofs.Counts.{counts}
use Rattle.rerun.specs.Lines.{base_by, image_at, StagesAreLines}

module _ (net : Network) (s : Stage) (left : ℕ → ℕ) (fit : CountsFit net s)
    (met : (c p : ℕ) → IsOutput (net_seen net) c p → left c ≤ length (s.put c)) where
  -- where a channel has a consumer's node, it has a consumer
  fit_at : (c q : ℕ) → consumer_of net (slice_get net.channels c) ≡ Some q → s.got c ≤ length (s.put c)
  fit_at c q to = by (slice_get net.channels c) refl to
    where
      by_port : (channel : Channel) (port : Port) → slice_get net.channels c ≡ Some channel → channel.consumer ≡ port
          → node_at net port ≡ Some q → s.got c ≤ length (s.put c)
      by_port channel Outside is at to = absurd (cc)
      by_port channel (Process r) is at to = fit c r channel is at

      by : (o : Option Channel) → slice_get net.channels c ≡ o → consumer_of net o ≡ Some q → s.got c ≤ length (s.put c)
      by None is to = absurd (cc)
      by (Some channel) is to = by_port channel channel.consumer is refl to

  own : (k : ℕ) (o : Option ℕ) → o ≡ Some k → is_node k o ≡ true
  own k o is = ap (is_node k) is ∙ eq-eqb k k refl

  of_node : (k : ℕ) (o : Option ℕ) → is_node k o ≡ true → o ≡ Some k
  of_node k None is = absurd (cc)
  of_node k (Some j) is = at (eqb_tells j k)
    where
      at : ((eqb j k ≡ true) × (j ≡ k)) ⊎ ((eqb j k ≡ false) × (j ≡ k → ⊥)) → Some j ≡ Some k
      at (inl same) = ap Some same.1
      at (inr other) = let no : false ≡ true = sym other.0 ∙ is in absurd (cc)

  received_is : (c q : ℕ) → (net_seen net).consumer c ≡ Some q → (image_at net s left q).received c ≡ s.got c
  received_is c q to = ap (λ (b : Bool). cond b (s.got c) 0) (own q ((net_seen net).consumer c) to)

  sent_is : (c p : ℕ) → (net_seen net).producer c ≡ Some p → (image_at net s left p).sent c ≡ length (s.put c)
  sent_is c p from = ap (λ (b : Bool). cond b (length (s.put c)) 0) (own p ((net_seen net).producer c) from)

  base_is : (c p : ℕ) → (net_seen net).producer c ≡ Some p
      → (image_at net s left p).base c ≡ base_by ((net_seen net).consumer c) (s.got c) (left c)
  base_is c p from =
      ap (λ (b : Bool). cond b (base_by ((net_seen net).consumer c) (s.got c) (left c)) 0)
      (own p ((net_seen net).producer c) from)

  base_at : (c p : ℕ) → (net_seen net).producer c ≡ Some p
      → base_by ((net_seen net).consumer c) (s.got c) (left c) ≤ length (s.put c)
  base_at c p from = by ((net_seen net).consumer c) refl
    where
      by : (o : Option ℕ) → (net_seen net).consumer c ≡ o → base_by o (s.got c) (left c) ≤ length (s.put c)
      by None is = met c p (record { from = from; to = is })
      by (Some q) is = fit_at c q is

  line : IsLine (net_seen net) (image_at net s left) left
  line = record {
    sound = record {
      no_orphan = λ c p q from to. (
          let r = received_is c q to in let e = sent_is c p from in let f = fit_at c q to in omega (arith, r, e, f));
      nothing_lost = λ c p q from to. (
          let r = received_is c q to in
          let b = base_is c p from ∙ ap (λ (o : Option ℕ). base_by o (s.got c) (left c)) to in
          omega (arith, r, b));
      outputs = λ c p out. (
          let b = base_is c p out.from ∙ ap (λ (o : Option ℕ). base_by o (s.got c) (left c)) out.to in
          omega (arith, b));
    };
    covered = λ c p out. (let e = sent_is c p out.from in let m = met c p out in omega (arith, e, m));
    logs = λ c p. logs c p (is_node p ((net_seen net).producer c)) refl;
  }
    where
      logs : (c p : ℕ) (b : Bool) → is_node p ((net_seen net).producer c) ≡ b
          → cond (is_node p ((net_seen net).producer c)) (base_by ((net_seen net).consumer c) (s.got c) (left c)) 0
          ≤ cond (is_node p ((net_seen net).producer c)) (length (s.put c)) 0
      logs c p true is =
          subst (λ (b : Bool). cond b (base_by ((net_seen net).consumer c) (s.got c) (left c)) 0
          ≤ cond b (length (s.put c)) 0) (sym is) (base_at c p (of_node p ((net_seen net).producer c) is))
      logs c p false is =
          subst (λ (b : Bool). cond b (base_by ((net_seen net).consumer c) (s.got c) (left c)) 0
          ≤ cond b (length (s.put c)) 0) (sym is) (omega arith)

pub lines : StagesAreLines
lines net inputs stages s valid fits runs left modes met unbegun =
    let fit =
    counts net inputs 0 (λ p. 0) (first_stage net inputs) stages s valid fits (begins net inputs valid fits) runs
    (λ c q channel is to. omega arith) in
    record {
      images = image_at net s left;
      modes = modes;
      outlets = left;
      line = line net s left fit met;
      unbegun = unbegun;
      is = refl;
    }
