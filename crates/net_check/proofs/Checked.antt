-- The parts of a check together: the network is valid, and the resolution of the text.
use Rattle.std.proofs.Common.{◌≡◌, ◌∙◌, sym, ap, subst, refl, ℕ, zero, suc, List, [], ◌∷◌, length, slice_get, Some}
use Rattle.std.proofs.Common.{arith, inl, inr, ◌⊎◌, Bool, IsTrue}
use Rattle.std.proofs.lemmas.Option.{slice_get_within}
use Rattle.std.proofs.lemmas.List.{length-map}
use Rattle.net_text.specs.Names.{NameTree}
use Rattle.net_text.specs.Trees.{DeclarationTree, ProcessTree}
use Rattle.net_text.specs.declared.tree.ChannelText.{ChannelText}
use Rattle.net_text.specs.declared.tree.VariableText.{VariableText}
use Rattle.net_text.specs.declared.tree.Role.TheVariants.{Input, Output}
use Rattle.net_check.specs.declared.fault.NetFault.{NetFault}
use Rattle.net_check.specs.declared.fault.NetFault.TheVariants.{NoMemory, NoProducer, NoConsumer}
use Rattle.kahn_net.specs.declared.program.Channel.{Channel}
use Rattle.kahn_net.specs.declared.program.Port.{Port}
use Rattle.kahn_net.specs.declared.program.Port.TheVariants.{Outside, Process}
use Rattle.kahn_net.specs.Common.{Code, Network, IsValid, code_gets, code_puts}
use Rattle.kahn_net.specs.Valid.{IsValidCode, block_within, body_within}
use Rattle.net_check.specs.Claims.{AreResolved}
use Rattle.net_check.specs.Joints.{AreJoined, EndFaultAmong}
use Rattle.net_check.specs.Ready.{AreDeclared, IsFit}
use Rattle.net_check.specs.NetFaults.{HasFault}
use Rattle.net_check.specs.Uses.{Use, GetFrom, PutOn, Has, process_uses}
use Rattle.net_check.specs.Resolution.{AllDifferent, Resolves, ResolvesProcess, channel_names, channels_of}
use Rattle.net_check.specs.Resolution.{processes_of, process_names, variable_names}
use Rattle.net_check.specs.ResolutionLaws.{Numbered, put_numbered, get_numbered, units_kept, passes_kept}
use Rattle.net_check.specs.ResolutionLaws.{block_kept_within, loop_kept_within, is_none, repeats_kept}
use Rattle.net_check.proofs.Places.{reads_from, same_got}
use Rattle.net_check.proofs.Joining.{process_there}

code_there : (ps : List ProcessTree) (codes : List Code) (q : ℕ) (p : ProcessTree) → length codes ≡ length ps
    → slice_get ps q ≡ Some p → (code : Code) × (slice_get codes q ≡ Some code)
code_there [] [] q p n h = absurd (cc)
code_there [] (x ∷ xs) q p n h = absurd (omega arith)
code_there (p' ∷ ps) [] q p n h = absurd (omega arith)
code_there (p' ∷ ps) (x ∷ xs) zero p n h = (x, refl)
code_there (p' ∷ ps) (x ∷ xs) (suc q) p n h = code_there ps xs q p (omega arith) h

channel_there : (channels : List ChannelText) (joined : List Channel) (c : ℕ) (channel : Channel)
    → length joined ≡ length channels → slice_get joined c ≡ Some channel
    → (declared : ChannelText) × (slice_get channels c ≡ Some declared)
channel_there [] [] c channel n h = absurd (cc)
channel_there [] (x ∷ xs) c channel n h = absurd (omega arith)
channel_there (d ∷ ds) [] c channel n h = absurd (omega arith)
channel_there (d ∷ ds) (x ∷ xs) zero channel n h = (d, refl)
channel_there (d ∷ ds) (x ∷ xs) (suc c) channel n h = channel_there ds xs c channel (omega arith) h

port_cases : (port : Port) → (port ≡ Outside) ⊎ ((q : ℕ) × (port ≡ Process q))
port_cases Outside = inl refl
port_cases (Process q) = inr (q, refl)

same_some : {A : Type 0} (x y : A) → Some x ≡ Some y → x ≡ y
same_some x y e = cc

module _ (channels : List ChannelText) (ps : List ProcessTree) (codes : List Code) (producers consumers : List Port)
    (joined : List Channel) (d : AreDeclared channels ps) (r : AreResolved channels ps codes producers consumers)
    (fit : (p : ℕ) (process : ProcessTree) → slice_get ps p ≡ Some process → IsFit process)
    (j : AreJoined channels producers consumers joined) where
  abbrev pub net : Network
  net = record { channels = joined; codes = codes }

  code_valid : (p : ℕ) (code : Code) → slice_get codes p ≡ Some code → IsValidCode (length joined) code
  code_valid p code h =
      let t = process_there ps codes p code r.count h in
      let rp = r.codes_of p t.0 code t.1 h in
      let ready = d.ready p t.0 t.1 in
      let f = fit p t.0 t.1 in
      let vs = variable_names t.0.variables in
      let n : length vs ≡ length code.vars =
      length-map t.0.variables (λ (v : VariableText). v.name)
      ∙ sym (ap length rp.vars ∙ length-map t.0.variables (λ (v : VariableText). v.initial)) in
      let m : length (channel_names channels) ≡ length joined =
      length-map channels (λ (c : ChannelText). c.name) ∙ sym j.count in
      record {
        node = let e = rp.node in let low = ready.node in omega arith;
        variables = let e = n in let few = ready.few in let k =
            length-map t.0.variables (λ (v : VariableText). v.name) in omega arith;
        prelude_within =
            subst (λ (x : ℕ). IsTrue (block_within x (length joined) code.prelude)) n
            (subst (λ (x : ℕ). IsTrue (block_within (length vs) x code.prelude)) m
            (block_kept_within (channel_names channels) vs t.0.prelude code.prelude rp.prelude));
        body_within =
            subst (λ (x : ℕ). IsTrue (body_within x (length joined) code.body)) n
            (subst (λ (x : ℕ). IsTrue (body_within (length vs) x code.body)) m
            (loop_kept_within (channel_names channels) vs t.0.repeated code.body rp.body));
        units = let e = units_kept (channel_names channels) t.0 code rp in let few = f.units in omega arith;
        repeats =
            sym (repeats_kept (channel_names channels) t.0 code rp) ∙ ap is_none f.repeats;
        passes = λ body e. let k = passes_kept (channel_names channels) vs t.0.repeated code.body body rp.body e in
            k.2 ∙ f.passes k.0 k.1;
      }

  port_code : (uses : ℕ → Code → Bool) (ports : List Port) (c p : ℕ) (port : Port) (code : Code)
      → ((k q : ℕ) → slice_get ports k ≡ Some (Process q)
      → (x : Code) × (slice_get codes q ≡ Some x) × IsTrue (uses k x)) → slice_get ports c ≡ Some port
      → slice_get codes p ≡ Some code → port ≡ Process p → IsTrue (uses c code)
  port_code uses ports c p port code back h g e =
      let b = back c p (h ∙ ap Some e) in
      subst (λ (x : Code). IsTrue (uses c x)) (same_got codes p b.0 code b.1 g) b.2

  pub valid : IsValid net
  valid = record {
    channel_count = let e = j.count in let few = d.few_channels in omega arith;
    process_count = let e = r.count in let few = d.few_processes in omega arith;
    codes = code_valid;
    producer =
        λ c p channel code hc
        hp. (
          λ u. same_some channel.producer (Process p)
              (sym (j.producer c channel hc) ∙ r.producers_of.there c p code hp u),
          λ e. port_code code_puts producers c p
              channel.producer code r.producers_of.back (j.producer c channel hc) hp e,
        );
    consumer =
        λ c p channel code hc
        hp. (
          λ u. same_some channel.consumer (Process p)
              (sym (j.consumer c channel hc) ∙ r.consumers_of.there c p code hp u),
          λ e. port_code code_gets consumers c p
              channel.consumer code r.consumers_of.back (j.consumer c channel hc) hp e,
        );
    producer_is_here = λ c p channel hc e. let b = r.producers_of.back c p (j.producer c channel hc ∙ ap Some e) in
        slice_get_within codes p b.0 b.1;
    consumer_is_here = λ c p channel hc e. let b = r.consumers_of.back c p (j.consumer c channel hc ∙ ap Some e) in
        slice_get_within codes p b.0 b.1;
    joined = λ c channel hc e e'.
        let t = channel_there channels joined c channel j.count hc in
        let ends = j.ends c t.0 channel t.1 hc in
        let k : Input ≡ Output = sym (ends.input e) ∙ ends.output e' in absurd (cc);
  }

  input_outside : (c : ℕ) (declared : ChannelText) (channel : Channel) → slice_get channels c ≡ Some declared
      → slice_get joined c ≡ Some channel → declared.role ≡ Input → channel.producer ≡ Outside
  input_outside c declared channel hd hc e = elim (port_cases channel.producer) [
    | inl o ↦ o
    | inr q ↦ absurd (r.producers_of.allowed c q.0 declared (j.producer c channel hc ∙ ap Some q.1) hd e)
  ]

  output_outside : (c : ℕ) (declared : ChannelText) (channel : Channel) → slice_get channels c ≡ Some declared
      → slice_get joined c ≡ Some channel → declared.role ≡ Output → channel.consumer ≡ Outside
  output_outside c declared channel hd hc e = elim (port_cases channel.consumer) [
    | inl o ↦ o
    | inr q ↦ absurd (r.consumers_of.allowed c q.0 declared (j.consumer c channel hc ∙ ap Some q.1) hd e)
  ]

  resolves_own : (text : List DeclarationTree) (cs : List ChannelText) (qs : List ProcessTree) → channels_of text ≡ cs
      → processes_of text ≡ qs → channels ≡ cs → ps ≡ qs → Resolves text (channel_names channels) (process_names ps) net
  resolves_own text cs qs a b e f =
      let k : channels ≡ channels_of text = e ∙ sym a in
      let l : ps ≡ processes_of text = f ∙ sym b in
      record {
        channels_named = ap channel_names k;
        processes_named = ap process_names l;
        channels_differ = d.channels_differ;
        processes_differ = d.processes_differ;
        variables_differ =
            λ p process h. (d.ready p process (ap (λ (xs : List ProcessTree). slice_get xs p) l ∙ h)).different;
        channel_count = j.count ∙ sym (length-map channels (λ (c : ChannelText). c.name));
        process_count = r.count ∙ sym (length-map ps (λ (p : ProcessTree). p.name));
        inputs = λ c declared channel hd hc. let here = ap (λ (xs : List ChannelText). slice_get xs c) k ∙ hd in
            (input_outside c declared channel here hc, λ e'. (j.ends c declared channel here hc).input e');
        outputs = λ c declared channel hd hc. let here = ap (λ (xs : List ChannelText). slice_get xs c) k ∙ hd in
            (output_outside c declared channel here hc, λ e'. (j.ends c declared channel here hc).output e');
        codes = λ p process code hp hc. r.codes_of p process code
            (ap (λ (xs : List ProcessTree). slice_get xs p) l ∙ hp) hc;
      }

  pub resolves : (text : List DeclarationTree) → channels ≡ channels_of text → ps ≡ processes_of text
      → Resolves text (channel_names channels) (process_names ps) net
  resolves text e f = resolves_own text (channels_of text) (processes_of text) refl refl e f

-- a channel that nobody uses at an end
unused_in : (text : List DeclarationTree) (channels : List ChannelText) (ps : List ProcessTree) (codes : List Code)
    (uses : ℕ → Code → Bool) (use' : NameTree → Use) (ports : List Port)
    → (numbered : (process : ProcessTree) (code : Code) (name : NameTree)
    → ResolvesProcess (channel_names channels) process code → Has (process_uses process) (use' name)
    → Numbered (channel_names channels) name (λ c. uses c code))
    → ((p : ℕ) (process : ProcessTree) (code : Code) → slice_get ps p ≡ Some process → slice_get codes p ≡ Some code
    → ResolvesProcess (channel_names channels) process code)
    → ((c q : ℕ) (code : Code) → slice_get codes q ≡ Some code → IsTrue (uses c code)
    → slice_get ports c ≡ Some (Process q))
    → processes_of text ≡ ps → length codes ≡ length ps → AllDifferent (channel_names channels)
    → (c : ℕ) (channel : ChannelText) → slice_get channels c ≡ Some channel → slice_get ports c ≡ Some Outside
    → (p : ℕ) (process : ProcessTree) (name : NameTree) → slice_get (processes_of text) p ≡ Some process
    → Has (process_uses process) (use' name) → name.text ≡ channel.name.text → ⊥
unused_in text channels ps codes uses use' ports numbered resolved there es n differ c channel here out p process name
    hp used same =
    let g : slice_get ps p ≡ Some process = ap (λ (xs : List ProcessTree). slice_get xs p) (sym es) ∙ hp in
    let x = code_there ps codes p process n g in
    let k = numbered process x.0 name (resolved p process x.0 g x.1) used in
    let e : k.c ≡ c =
    differ k.c c channel.name.text (k.reads ∙ ap Some same)
    (reads_from (λ (z : ChannelText). z.name) channels c channel here) in
    let h : slice_get ports c ≡ Some (Process p) =
    subst (λ (m : ℕ). slice_get ports m ≡ Some (Process p)) e (there k.c p x.0 x.1 k.used) in
    let f : Some (Process p) ≡ Some Outside = sym h ∙ out in
    let i : Process p ≡ Outside = same_some (Process p) Outside f in
    absurd (cc)

pub end_fault_in : (text : List DeclarationTree) (channels : List ChannelText) (ps : List ProcessTree)
    (codes : List Code) (producers consumers : List Port) (f : NetFault) → channels ≡ channels_of text
    → ps ≡ processes_of text → AreDeclared channels ps → AreResolved channels ps codes producers consumers
    → EndFaultAmong channels producers consumers f → HasFault text f
end_fault_in text channels ps codes producers consumers NoMemory cs es d r h = tt
end_fault_in text channels ps codes producers consumers (NoProducer line) cs es d r h = record {
  c = h.0;
  channel = h.1;
  here = ap (λ (xs : List ChannelText). slice_get xs h.0) (sym cs) ∙ h.2;
  inside = h.3;
  unused =
      unused_in text channels ps codes code_puts PutOn producers (put_numbered (channel_names channels)) r.codes_of
      r.producers_of.there (sym es) r.count d.channels_differ h.0 h.1 h.2 h.4;
  at = h.5;
}
end_fault_in text channels ps codes producers consumers (NoConsumer line) cs es d r h = record {
  c = h.0;
  channel = h.1;
  here = ap (λ (xs : List ChannelText). slice_get xs h.0) (sym cs) ∙ h.2;
  inside = h.3;
  unused =
      unused_in text channels ps codes code_gets GetFrom consumers (get_numbered (channel_names channels)) r.codes_of
      r.consumers_of.there (sym es) r.count d.channels_differ h.0 h.1 h.2 h.4;
  at = h.5;
}
end_fault_in text channels ps codes producers consumers _ cs es d r h = absurd h
