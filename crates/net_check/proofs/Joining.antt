-- A process more, and what stands at the ends of the channels after it.
use Rattle.std.proofs.Common.{◌≡◌, ℕ, zero, suc, ◌+◌, ◌<◌, List, [], ◌∷◌, ◌++◌, length, get_or, map, take, Some, refl}
use Rattle.std.proofs.Common.{sym, ap, ◌∙◌, subst, arith, slice_get, inl, inr, Bool}
use Rattle.std.proofs.lemmas.Option.{slice_get_within}
use Rattle.std.proofs.lemmas.List.{length_push, length-map, take_more, map-append}
use Rattle.net_text.specs.Names.{NameTree}
use Rattle.net_text.specs.Trees.{DeclarationTree, ProcessTree, process_tree}
use Rattle.net_text.specs.declared.tree.ChannelText.{ChannelText}
use Rattle.net_text.specs.declared.tree.ProcessText.{ProcessText}
use Rattle.net_text.specs.declared.tree.Role.{Role}
use Rattle.net_text.specs.declared.tree.Role.TheVariants.{Input, Output}
use Rattle.net_check.specs.declared.fault.NetFault.{NetFault}
use Rattle.net_check.specs.declared.fault.NetFault.TheVariants.{NoMemory, UnknownName, TwoProducers, TwoConsumers}
use Rattle.kahn_net.specs.declared.program.Port.{Port}
use Rattle.kahn_net.specs.declared.program.Port.TheVariants.{Process}
use Rattle.kahn_net.specs.declared.program.Process.{Process as ProcessCode}
use Rattle.kahn_net.specs.Common.{Code, code_of, code_gets, code_puts}
use Rattle.net_check.specs.Claims.{AreResolved, Claims, FaultOfText, IsRefused, Joined, stands_outside, is_taken}
use Rattle.net_check.specs.Claims.{UseFault}
use Rattle.net_check.specs.Resolution.{Reads, ResolvesProcess, channel_names, channels_of, processes_of, variable_names}
use Rattle.net_check.specs.ResolutionLaws.{Named, put_named, get_named}
use Rattle.net_check.specs.NetFaults.{HasFault, HasTwoUsers, outside_too, another_too, space_of, name_of}
use Rattle.net_check.specs.Uses.{Use, GetFrom, PutOn, process_uses}
use Rattle.net_check.proofs.Places.{got_at, got_map, got_push_cases, got_append_left, got_seam}
use Rattle.net_check.proofs.Claiming.{reads_same}
use Rattle.net_check.proofs.Resolving.{bool_cases}

number_of_port : (p q : ℕ) → Some (Process p) ≡ Some (Process q) → p ≡ q
number_of_port p q e = cc

pub joined_push : (channels : List ChannelText) (role : Role) (uses : ℕ → Code → Bool) (codes : List Code)
    (code : Code) (ports ports' : List Port) → Joined channels role uses codes ports
    → Claims channels role (length codes) (λ c. uses c code) ports ports'
    → Joined channels role uses (codes ++ code ∷ []) ports'
joined_push channels role uses codes code ports ports' j a = record {
  count = a.count ∙ j.count;
  there = λ c q code' here u. elim (got_push_cases codes code q code' here) [
    | inl g ↦ elim (bool_cases (uses c code)) [
      | inl k ↦ absurd
          (let e : q ≡ length codes = a.free c (Process q) k (j.there c q code' g u) in let lt =
          slice_get_within codes q code' g in omega arith)
      | inr k ↦ a.kept c k ∙ j.there c q code' g u
    ]
    | inr g ↦ a.claimed c (ap (λ (x : Code). uses c x) g.1 ∙ u) ∙ ap (λ (k : ℕ). Some (Process k)) (sym g.0)
  ];
  back = λ c q h. elim (bool_cases (uses c code)) [
    | inl k ↦ (
      code,
      subst (λ (m : ℕ). slice_get (codes ++ code ∷ []) m ≡ Some code)
          (number_of_port (length codes) q (sym (a.claimed c k) ∙ h)) (got_seam codes code []),
      k,
    )
    | inr k ↦ let r = j.back c q (sym (a.kept c k) ∙ h) in (r.0, got_append_left codes (code ∷ []) q r.0 r.1, r.2)
  ];
  allowed = λ c q channel h here. elim (bool_cases (uses c code)) [
    | inl k ↦ a.allowed c channel k here
    | inr k ↦ j.allowed c q channel (sym (a.kept c k) ∙ h) here
  ];
}

pub resolved_push : (channels : List ChannelText) (ps : List ProcessTree) (codes : List Code) (p : ProcessTree)
    (code : Code) (number : ℕ) (producers consumers producers' consumers' : List Port)
    → AreResolved channels ps codes producers consumers → number ≡ length codes
    → ResolvesProcess (channel_names channels) p code
    → Claims channels Input number (λ c. code_puts c code) producers producers'
    → Claims channels Output number (λ c. code_gets c code) consumers consumers'
    → AreResolved channels (ps ++ p ∷ []) (codes ++ code ∷ []) producers' consumers'
resolved_push channels ps codes p code number producers consumers producers' consumers' r n here puts gets = record {
  count = length_push codes code ∙ ap (λ (k : ℕ). k + 1) r.count ∙ sym (length_push ps p);
  codes_of = λ k process code' h g. elim (got_push_cases ps p k process h) [
    | inl a ↦ elim (got_push_cases codes code k code' g) [
      | inl b ↦ r.codes_of k process code' a b
      | inr b ↦ absurd (let lt = slice_get_within ps k process a in let e = r.count in let m = b.0 in omega arith)
    ]
    | inr a ↦ elim (got_push_cases codes code k code' g) [
      | inl b ↦ absurd (let lt = slice_get_within codes k code' b in let e = r.count in let m = a.0 in omega arith)
      | inr b ↦ subst (λ (x : ProcessTree). ResolvesProcess (channel_names channels) x code') a.1
          (subst (λ (x : Code). ResolvesProcess (channel_names channels) p x) b.1 here)
    ]
  ];
  producers_of =
      joined_push channels Input code_puts codes code producers producers' r.producers_of
      (subst (λ (k : ℕ). Claims channels Input k (λ c. code_puts c code) producers producers') n puts);
  consumers_of =
      joined_push channels Output code_gets codes code consumers consumers' r.consumers_of
      (subst (λ (k : ℕ). Claims channels Output k (λ c. code_gets c code) consumers consumers') n gets);
}

-- one process more of a list
pub resolved_more : (channels : List ChannelText) (ps : List ProcessText) (i : ℕ) (p : ProcessText)
    (codes : List ProcessCode) (code : ProcessCode) (producers consumers producers' consumers' : List Port)
    → i < length ps → p ≡ get_or ps i p → i ≡ length codes
    → AreResolved channels (map process_tree (take i ps)) (map code_of codes) producers consumers
    → ResolvesProcess (channel_names channels) (process_tree p) (code_of code)
    → Claims channels Input i (λ c. code_puts c (code_of code)) producers producers'
    → Claims channels Output i (λ c. code_gets c (code_of code)) consumers consumers'
    → AreResolved channels (map process_tree (take (i + 1) ps)) (map code_of (codes ++ code ∷ [])) producers'
    consumers'
resolved_more channels ps i p codes code producers consumers producers' consumers' lt e n r here puts gets =
    let w : take (i + 1) ps ≡ take i ps ++ p ∷ [] =
    take_more ps i p lt ∙ ap (λ (x : ProcessText). take i ps ++ x ∷ []) (sym e) in
    let v : map process_tree (take (i + 1) ps) ≡ map process_tree (take i ps) ++ process_tree p ∷ [] =
    ap (λ (xs : List ProcessText). map process_tree xs) w ∙ map-append process_tree (take i ps) (p ∷ []) in
    let u : map code_of (codes ++ code ∷ []) ≡ map code_of codes ++ code_of code ∷ [] =
    map-append code_of codes (code ∷ []) in
    let m : i ≡ length (map code_of codes) = n ∙ sym (length-map codes code_of) in
    subst (λ (xs : List ProcessTree). AreResolved channels xs (map code_of (codes ++ code ∷ [])) producers' consumers')
    (sym v)
    (subst (λ (ys : List Code). AreResolved channels (map process_tree (take i ps) ++ process_tree p ∷ []) ys
    producers' consumers') (sym u)
    (resolved_push channels (map process_tree (take i ps)) (map code_of codes) (process_tree p) (code_of code) i
    producers consumers producers' consumers' r m here puts gets))

-- who stands at an end has named the channel
pub record IsNamedBy (text : List DeclarationTree) (channels : List ChannelText) (use' : NameTree → Use)
    (ports : List Port) : Type 0 where
  pub named : (c q : ℕ) → slice_get ports c ≡ Some (Process q)
      → (other : ProcessTree) × (slice_get (processes_of text) q ≡ Some other)
      × Named (channel_names channels) (process_uses other) use' c

refused_in : (text : List DeclarationTree) (channels : List ChannelText) (role : Role) (use' : NameTree → Use) (p : ℕ)
    (process : ProcessTree) (ports : List Port) (line : ℕ) → channels_of text ≡ channels
    → slice_get (processes_of text) p ≡ Some process → IsNamedBy text channels use' ports
    → IsRefused channels role use' p ports (process_uses process) line → HasTwoUsers role use' text line
refused_in text channels role use' p process ports line cs here by
    (stands_outside name c channel used at there same is) =
    outside_too p process name c channel here used at
    (subst (λ (xs : List ChannelText). slice_get xs c ≡ Some channel) (sym cs) there) same is
refused_in text channels role use' p process ports line cs here by (is_taken name c used at reads taken) =
    let o = by.named c taken.q taken.here in
    another_too p process name c taken.q o.0 o.2.name here used at
    (subst (λ (xs : List ChannelText). Reads (channel_names xs) c name.text) (sym cs) reads) taken.other o.1
    o.2.used (reads_same (channel_names channels) c o.2.name.text name.text o.2.reads reads)

pub use_fault_in : (text : List DeclarationTree) (channels : List ChannelText) (p : ℕ) (process : ProcessTree)
    (producers consumers : List Port) (f : NetFault) → channels_of text ≡ channels
    → slice_get (processes_of text) p ≡ Some process → IsNamedBy text channels PutOn producers
    → IsNamedBy text channels GetFrom consumers
    → UseFault channels (variable_names process.variables) p producers consumers (process_uses process) f
    → HasFault text f
use_fault_in text channels p process producers consumers NoMemory cs here puts gets h = tt
use_fault_in text channels p process producers consumers (UnknownName line) cs here puts gets h = record {
  p = p;
  process = process;
  here = here;
  use' = h.use';
  used = h.used;
  undeclared =
      subst (λ (xs : List ChannelText). (i : ℕ)
      → Reads (space_of (channel_names xs) (variable_names process.variables) h.use') i (name_of h.use').text → ⊥)
      (sym cs) h.undeclared;
  at = h.at;
}
use_fault_in text channels p process producers consumers (TwoProducers line) cs here puts gets h =
    refused_in text channels Input PutOn p process producers line cs here puts h
use_fault_in text channels p process producers consumers (TwoConsumers line) cs here puts gets h =
    refused_in text channels Output GetFrom p process consumers line cs here gets h
use_fault_in text channels p process producers consumers _ cs here puts gets h = absurd h

-- what stands at the ends so far was named in the text
front_got : (ps : List ProcessTree) (i q : ℕ) (p : ProcessTree) → slice_get (take i ps) q ≡ Some p
    → slice_get ps q ≡ Some p
front_got ps zero q p h = absurd (cc)
front_got [] (suc i) q p h = absurd (cc)
front_got (x ∷ xs) (suc i) zero p h = h
front_got (x ∷ xs) (suc i) (suc q) p h = front_got xs i q p h

pub process_there : (ps : List ProcessTree) (codes : List Code) (q : ℕ) (code : Code) → length codes ≡ length ps
    → slice_get codes q ≡ Some code → (p : ProcessTree) × (slice_get ps q ≡ Some p)
process_there [] [] q code n h = absurd (cc)
process_there [] (x ∷ xs) q code n h = absurd (omega arith)
process_there (p ∷ ps) [] q code n h = absurd (omega arith)
process_there (p ∷ ps) (x ∷ xs) zero code n h = (p, refl)
process_there (p ∷ ps) (x ∷ xs) (suc q) code n h = process_there ps xs q code (omega arith) h

pub named_puts : (text : List DeclarationTree) (channels : List ChannelText) (all : List ProcessTree) (i : ℕ)
    (codes : List Code) (producers consumers : List Port) → processes_of text ≡ all
    → AreResolved channels (take i all) codes producers consumers → IsNamedBy text channels PutOn producers
named_puts text channels all i codes producers consumers e r = record {
  named = λ c q h.
      let b = r.producers_of.back c q h in
      let p = process_there (take i all) codes q b.0 r.count b.1 in (
        p.0,
        subst (λ (xs : List ProcessTree). slice_get xs q ≡ Some p.0) (sym e) (front_got all i q p.0 p.1),
        put_named
            (channel_names channels) p.0 b.0 c (r.codes_of q p.0 b.0 p.1 b.1) b.2,
      );
}

pub named_gets : (text : List DeclarationTree) (channels : List ChannelText) (all : List ProcessTree) (i : ℕ)
    (codes : List Code) (producers consumers : List Port) → processes_of text ≡ all
    → AreResolved channels (take i all) codes producers consumers → IsNamedBy text channels GetFrom consumers
named_gets text channels all i codes producers consumers e r = record {
  named = λ c q h.
      let b = r.consumers_of.back c q h in
      let p = process_there (take i all) codes q b.0 r.count b.1 in (
        p.0,
        subst (λ (xs : List ProcessTree). slice_get xs q ≡ Some p.0) (sym e) (front_got all i q p.0 p.1),
        get_named
            (channel_names channels) p.0 b.0 c (r.codes_of q p.0 b.0 p.1 b.1) b.2,
      );
}

map-take : (ps : List ProcessText) (i : ℕ) → map process_tree (take i ps) ≡ take i (map process_tree ps)
map-take ps zero = refl
map-take [] (suc i) = refl
map-take (p ∷ ps) (suc i) = ap (λ (xs : List ProcessTree). process_tree p ∷ xs) (map-take ps i)

-- a fault in a process of the text is one of the text
pub process_fault : (channels : List ChannelText) (ps : List ProcessText) (i : ℕ) (p : ProcessText) (codes : List Code)
    (producers consumers : List Port) (f : NetFault) → i < length ps → p ≡ get_or ps i p
    → AreResolved channels (map process_tree (take i ps)) codes producers consumers
    → UseFault channels (variable_names p.variables.items) i producers consumers (process_uses (process_tree p)) f
    → FaultOfText channels (map process_tree ps) f
process_fault channels ps i p codes producers consumers f lt e r h text cs es =
    let r' = subst (λ (xs : List ProcessTree). AreResolved channels xs codes producers consumers) (map-take ps i) r in
    use_fault_in text channels i (process_tree p) producers consumers f cs
    (subst (λ (xs : List ProcessTree). slice_get xs i ≡ Some (process_tree p)) (sym es)
    (got_map process_tree ps i p (got_at ps i p lt e)))
    (named_puts text channels (map process_tree ps) i codes producers consumers es r')
    (named_gets text channels (map process_tree ps) i codes producers consumers es r') h
