-- A text with a fault has no valid resolution, and lines with a fault don't bind.
use Rattle.std.proofs.Common.{◌≡◌, ◌∙◌, sym, ap, subst, refl, ℕ, ℤ, zero, suc, ◌<◌, List, [], ◌∷◌, length, slice_get}
use Rattle.std.proofs.Common.{Option, Some, None, Result, Ok, Err, IfErr, IsOkUnless, false, true, arith, inl, inr, ◌⊎◌, IsTrue}
use Rattle.std.proofs.lemmas.Bool.{false≢true}
use Rattle.std.proofs.lemmas.Option.{slice_get_within}
use Rattle.std.proofs.lemmas.List.{length-map}
use Rattle.net_text.specs.Names.{NameTree}
use Rattle.net_text.specs.Trees.{ExprTree, LiteralTree, VariableTree, MinusTree, ChainTree, LinksTree, NoLinksTree}
use Rattle.net_text.specs.Trees.{LinkThenTree, BlockTree, NothingTree, GetTree, AssignTree, PutTree, StopTree, IfTree}
use Rattle.net_text.specs.Trees.{RepeatTree, LoopTree, DeclarationTree, InputTree, ProcessTree}
use Rattle.net_text.specs.declared.tree.ChannelText.{ChannelText}
use Rattle.net_text.specs.declared.tree.VariableText.{VariableText}
use Rattle.net_text.specs.declared.tree.Role.TheVariants.{Input, Output}
use Rattle.net_check.specs.declared.fault.NetFault.{NetFault}
use Rattle.net_check.specs.declared.fault.NetFault.TheVariants.{NoMemory, TwiceNamed, UnknownName, TwoProducers}
use Rattle.net_check.specs.declared.fault.NetFault.TheVariants.{TwoConsumers, LoopWithoutGet, Limit, NoProducer}
use Rattle.net_check.specs.declared.fault.NetFault.TheVariants.{NoConsumer, MissingInput}
use Rattle.kahn_net.specs.declared.program.Channel.{Channel}
use Rattle.kahn_net.specs.declared.program.Port.{Port}
use Rattle.kahn_net.specs.declared.program.Port.TheVariants.{Outside, Process}
use Rattle.kahn_net.specs.Common.{Tree, Number, Name, Minus, Chain, Links, NoLinks, LinkThen, Block, Nothing, GetThen}
use Rattle.kahn_net.specs.Common.{AssignThen, PutThen, StopThen, IfThen, RepeatThen, Code, Network, IsValid}
use Rattle.kahn_net.specs.Common.{code_gets, code_puts}
use Rattle.net_check.specs.NetFaults.{HasFault, HasLoopWithoutGet, HasNoUser, HasPastLimit, HasTwiceNamed, HasTwoUsers}
use Rattle.net_check.specs.NetFaults.{HasUnknownName, SecondUse, another_too, many_channels, many_processes, many_units, many_times}
use Rattle.net_check.specs.NetFaults.{many_variables, name_of, high_node, outside_too, space_of, two_channels}
use Rattle.net_check.specs.NetFaults.{two_processes, two_variables}
use Rattle.net_check.specs.Uses.{Use, GetFrom, PutOn, Has, block_uses, expr_uses, links_uses, loop_uses, process_uses}
use Rattle.net_check.specs.UseLaws.{has_cases, by_test, by_first, by_second, by_rest, if_cases}
use Rattle.net_check.specs.Resolution.{AllDifferent, Reads, Resolves, ResolvesBlock, ResolvesExpr, ResolvesLinks}
use Rattle.net_check.specs.Resolution.{ResolvesLoop, ResolvesProcess, channel_names, channels_of, processes_of}
use Rattle.net_check.specs.Resolution.{variable_names}
use Rattle.net_check.specs.ResolutionLaws.{put_named, get_named, put_numbered, get_numbered, units_kept}
use Rattle.net_check.specs.ResolutionLaws.{passes_kept_text, is_none, repeats_kept}
use Rattle.net_check.specs.Binding.{Binds, HasInputFault, line_names}
use Rattle.net_check.proofs.Places.{name_reads_from, read_of, reads_from}
use Rattle.net_check.proofs.Claiming.{reads_same}
use Rattle.kahn_net.specs.declared.limits.TheConstants.{MAX_CHANNELS, MAX_PROCESSES, MAX_VARIABLES}

-- among names that differ none is a second use
no_second : (names : List NameTree) (line : ℕ) → AllDifferent names → SecondUse names line → ⊥
no_second names line differ s =
    let e : s.first ≡ s.second =
    differ s.first s.second s.name.text s.before (name_reads_from names s.second s.name s.here) in
    let lt = s.order in
    absurd (omega arith)

-- each name that a text uses is declared
record IsDeclared (channels variables : List NameTree) (u : Use) : Type 0 where
  i : ℕ
  reads : Reads (space_of channels variables u) i (name_of u).text

mutual
  expr_declared : (cs vs : List NameTree) (e : ExprTree) (t : Tree) (u : Use) → ResolvesExpr vs e t
      → Has (expr_uses e) u → IsDeclared cs vs u
  expr_declared cs vs (LiteralTree n) (Number m) u r h = absurd h
  expr_declared cs vs (VariableTree v) (Name x) u r h =
      elim h [ inl e ↦ subst (IsDeclared cs vs) e record { i = x; reads = r } | inr k ↦ absurd k ]
  expr_declared cs vs (MinusTree a) (Minus b) u r h = expr_declared cs vs a b u r h
  expr_declared cs vs (ChainTree a links) (Chain b more) u r h =
      elim (has_cases (expr_uses a) (links_uses links) u h)
      [ inl k ↦ expr_declared cs vs a b u r.0 k | inr k ↦ links_declared cs vs links more u r.1 k ]
  expr_declared cs vs _ _ u r h = absurd r

  links_declared : (cs vs : List NameTree) (links : LinksTree) (more : Links) (u : Use) → ResolvesLinks vs links more
      → Has (links_uses links) u → IsDeclared cs vs u
  links_declared cs vs NoLinksTree NoLinks u r h = absurd h
  links_declared cs vs (LinkThenTree o a rest) (LinkThen p b more) u r h =
      elim (has_cases (expr_uses a) (links_uses rest) u h)
      [ inl k ↦ expr_declared cs vs a b u r.1 k | inr k ↦ links_declared cs vs rest more u r.2 k ]
  links_declared cs vs _ _ u r h = absurd r

block_declared : (cs vs : List NameTree) (tree : BlockTree) (block : Block) (u : Use) → ResolvesBlock cs vs tree block
    → Has (block_uses tree) u → IsDeclared cs vs u
block_declared cs vs NothingTree Nothing u r h = absurd h
block_declared cs vs (GetTree v n rest) (GetThen x d b) u r h = elim h [
  | inl e ↦ subst (IsDeclared cs vs) e record { i = x; reads = r.0 }
  | inr k ↦ elim k [
    | inl e ↦ subst (IsDeclared cs vs) e record { i = d; reads = r.1 }
    | inr m ↦ block_declared cs vs rest b u r.2 m
  ]
]
block_declared cs vs (AssignTree v e rest) (AssignThen x t b) u r h = elim h [
  | inl e' ↦ subst (IsDeclared cs vs) e' record { i = x; reads = r.0 }
  | inr k ↦ elim (has_cases (expr_uses e) (block_uses rest) u k) [
    | inl m ↦ expr_declared cs vs e t u r.1 m
    | inr m ↦ block_declared cs vs rest b u r.2 m
  ]
]
block_declared cs vs (PutTree e n rest) (PutThen t d b) u r h =
    elim (has_cases (expr_uses e) (PutOn n ∷ block_uses rest) u h) [
      | inl m ↦ expr_declared cs vs e t u r.0 m
      | inr m ↦ elim m [
        | inl e' ↦ subst (IsDeclared cs vs) e' record { i = d; reads = r.1 }
        | inr k ↦ block_declared cs vs rest b u r.2 k
      ]
    ]
block_declared cs vs (StopTree rest) (StopThen b) u r h = block_declared cs vs rest b u r h
block_declared cs vs (IfTree e first second rest) (IfThen t one other b) u r h =
    elim (if_cases (expr_uses e) (block_uses first) (block_uses second) (block_uses rest) u h) [
      | by_test k ↦ expr_declared cs vs e t u r.0 k
      | by_first k ↦ block_declared cs vs first one u r.1 k
      | by_second k ↦ block_declared cs vs second other u r.2 k
      | by_rest k ↦ block_declared cs vs rest b u r.3 k
    ]
block_declared cs vs (RepeatTree times line body rest) (RepeatThen n one b) u r h =
    elim (has_cases (block_uses body) (block_uses rest) u h) [
      | inl k ↦ block_declared cs vs body one u r.1 k
      | inr k ↦ block_declared cs vs rest b u r.2 k
    ]
block_declared cs vs _ _ u r h = absurd r

loop_declared : (cs vs : List NameTree) (repeated : Option LoopTree) (body : Option Block) (u : Use)
    → ResolvesLoop cs vs repeated body → Has (loop_uses repeated) u → IsDeclared cs vs u
loop_declared cs vs None body u r h = absurd h
loop_declared cs vs (Some l) None u r h = absurd r
loop_declared cs vs (Some l) (Some b) u r h = block_declared cs vs l.body b u r h

use_declared : (cs : List NameTree) (process : ProcessTree) (code : Code) (u : Use) → ResolvesProcess cs process code
    → Has (process_uses process) u → IsDeclared cs (variable_names process.variables) u
use_declared cs process code u r h = elim (has_cases (block_uses process.prelude) (loop_uses process.repeated) u h) [
  | inl k ↦ block_declared cs _ process.prelude code.prelude u r.prelude k
  | inr k ↦ loop_declared cs _ process.repeated code.body u r.body k
]

got_within : {A : Type 0} (xs : List A) (i : ℕ) → i < length xs → (x : A) × (slice_get xs i ≡ Some x)
got_within [] i lt = absurd (omega arith)
got_within (x ∷ xs) zero lt = (x, refl)
got_within (x ∷ xs) (suc i) lt = got_within xs i (omega arith)

port_either : (port : Port) → (port ≡ Outside) ⊎ ((q : ℕ) × (port ≡ Process q))
port_either Outside = inl refl
port_either (Process q) = inr (q, refl)

module _ (text : List DeclarationTree) (cs ps : List NameTree) (net : Network) (r : Resolves text cs ps net)
    (v : IsValid net) where
  names : channel_names (channels_of text) ≡ cs
  names = sym r.channels_named

  channels_counted : length net.channels ≡ length (channels_of text)
  channels_counted =
      r.channel_count ∙ ap length r.channels_named ∙ length-map (channels_of text) (λ (c : ChannelText). c.name)

  processes_counted : length net.codes ≡ length (processes_of text)
  processes_counted =
      r.process_count ∙ ap length r.processes_named ∙ length-map (processes_of text) (λ (p : ProcessTree). p.name)

  code_of_process : (p : ℕ) (process : ProcessTree) → slice_get (processes_of text) p ≡ Some process
      → (code : Code) × (slice_get net.codes p ≡ Some code) × ResolvesProcess cs process code
  code_of_process p process h =
      let lt = slice_get_within (processes_of text) p process h in
      let n = processes_counted in
      let g = got_within net.codes p (omega arith) in
      (g.0, g.1, r.codes p process g.0 h g.1)

  channel_at : (c : ℕ) (declared : ChannelText) → slice_get (channels_of text) c ≡ Some declared
      → (channel : Channel) × (slice_get net.channels c ≡ Some channel)
  channel_at c declared h =
      let lt = slice_get_within (channels_of text) c declared h in
      let n = channels_counted in
      got_within net.channels c (omega arith)

  declared_at : (c : ℕ) (t : List ℕ) → Reads cs c t
      → (declared : ChannelText) × (slice_get (channels_of text) c ≡ Some declared)
  declared_at c t h = let k =
      read_of (λ (x : ChannelText). x.name) (channels_of text) c t
      (subst (λ (ns : List NameTree). Reads ns c t) r.channels_named h) in (k.0, k.1)

  -- who puts on a channel by name is its producer
  puts_alone : (p : ℕ) (process : ProcessTree) (name : NameTree) (c : ℕ) (channel : Channel)
      → slice_get (processes_of text) p ≡ Some process → Has (process_uses process) (PutOn name) → Reads cs c name.text
      → slice_get net.channels c ≡ Some channel → channel.producer ≡ Process p
  puts_alone p process name c channel hp used reads hc =
      let x = code_of_process p process hp in
      let k = put_numbered cs process x.0 name x.2 used in
      let e : k.c ≡ c = r.channels_differ k.c c name.text k.reads reads in
      (v.producer c p channel x.0 hc x.1).0 (subst (λ (m : ℕ). IsTrue (code_puts m x.0)) e k.used)

  gets_alone : (p : ℕ) (process : ProcessTree) (name : NameTree) (c : ℕ) (channel : Channel)
      → slice_get (processes_of text) p ≡ Some process → Has (process_uses process) (GetFrom name)
      → Reads cs c name.text → slice_get net.channels c ≡ Some channel → channel.consumer ≡ Process p
  gets_alone p process name c channel hp used reads hc =
      let x = code_of_process p process hp in
      let k = get_numbered cs process x.0 name x.2 used in
      let e : k.c ≡ c = r.channels_differ k.c c name.text k.reads reads in
      (v.consumer c p channel x.0 hc x.1).0 (subst (λ (m : ℕ). IsTrue (code_gets m x.0)) e k.used)

  no_twice : (line : ℕ) → HasTwiceNamed text line → ⊥
  no_twice line (two_channels s) =
      no_second cs line r.channels_differ (subst (λ (ns : List NameTree). SecondUse ns line) names s)
  no_twice line (two_processes s) =
      no_second ps line r.processes_differ (subst (λ (ns : List NameTree). SecondUse ns line) (sym r.processes_named) s)
  no_twice line (two_variables p process h s) =
      no_second (variable_names process.variables) line (r.variables_differ p process h) s

  no_unknown : (line : ℕ) → HasUnknownName text line → ⊥
  no_unknown line h =
      let x = code_of_process h.p h.process h.here in
      let k = use_declared cs h.process x.0 h.use' x.2 h.used in
      h.undeclared k.i
      (subst (λ (ns : List NameTree). Reads (space_of ns (variable_names h.process.variables) h.use') k.i
      (name_of h.use').text) (sym names) k.reads)

  outside_port : (c p : ℕ) (port : Port) → port ≡ Outside → port ≡ Process p → ⊥
  outside_port c p port e h = let k : Process p ≡ Outside = sym h ∙ e in absurd (cc)

  same_port : (p q : ℕ) (port : Port) → port ≡ Process p → port ≡ Process q → q ≡ p
  same_port p q port e h = let k : Process q ≡ Process p = sym h ∙ e in cc

  name_read : (c : ℕ) (declared : ChannelText) (t : List ℕ) → slice_get (channels_of text) c ≡ Some declared
      → declared.name.text ≡ t → Reads cs c t
  name_read c declared t h e =
      subst (λ (ns : List NameTree). Reads ns c t) names
      (reads_from (λ (x : ChannelText). x.name) (channels_of text) c declared h ∙ ap Some e)

  no_two_producers : (line : ℕ) → HasTwoUsers Input PutOn text line → ⊥
  no_two_producers line (outside_too p process name c declared hp used at hc same role) =
      let k = channel_at c declared hc in
      outside_port c p k.0.producer ((r.inputs c declared k.0 hc k.1).0 role)
      (puts_alone p process name c k.0 hp used (name_read c declared name.text hc same) k.1)
  no_two_producers line (another_too p process name c q other like hp used at reads differ hq also same) =
      let here = subst (λ (ns : List NameTree). Reads ns c name.text) names reads in
      let d = declared_at c name.text here in
      let k = channel_at c d.0 d.1 in
      differ (same_port p q k.0.producer (puts_alone p process name c k.0 hp used here k.1)
      (puts_alone q other like c k.0 hq also (here ∙ ap Some (sym same)) k.1))

  no_two_consumers : (line : ℕ) → HasTwoUsers Output GetFrom text line → ⊥
  no_two_consumers line (outside_too p process name c declared hp used at hc same role) =
      let k = channel_at c declared hc in
      outside_port c p k.0.consumer ((r.outputs c declared k.0 hc k.1).0 role)
      (gets_alone p process name c k.0 hp used (name_read c declared name.text hc same) k.1)
  no_two_consumers line (another_too p process name c q other like hp used at reads differ hq also same) =
      let here = subst (λ (ns : List NameTree). Reads ns c name.text) names reads in
      let d = declared_at c name.text here in
      let k = channel_at c d.0 d.1 in
      differ (same_port p q k.0.consumer (gets_alone p process name c k.0 hp used here k.1)
      (gets_alone q other like c k.0 hq also (here ∙ ap Some (sym same)) k.1))

  no_loop : (line : ℕ) → HasLoopWithoutGet text line → ⊥
  no_loop line h =
      let x = code_of_process h.p h.process h.here in
      let k = passes_kept_text cs (variable_names h.process.variables) h.process.repeated x.0.body h.repeated x.2.body
      h.loops in
      false≢true (sym h.idle ∙ sym k.2 ∙ (v.codes h.p x.0 x.1).passes k.0 k.1)

  no_limit : (line : ℕ) → HasPastLimit text line → ⊥
  no_limit line (many_channels channel h at) = let lt = slice_get_within (channels_of text) MAX_CHANNELS channel h in
      let n = channels_counted in let few = v.channel_count in absurd (omega arith)
  no_limit line (many_processes process h at) = let lt =
      slice_get_within (processes_of text) MAX_PROCESSES process h in let n = processes_counted in let few =
      v.process_count in absurd (omega arith)
  no_limit line (many_variables p process variable hp h at) =
      let lt = slice_get_within process.variables MAX_VARIABLES variable h in
      let x = code_of_process p process hp in
      let n = ap length x.2.vars ∙ length-map process.variables (λ (y : VariableText). y.initial) in
      let few = (v.codes p x.0 x.1).variables in
      absurd (omega arith)
  no_limit line (high_node p process hp above at) = let x = code_of_process p process hp in let n = x.2.node in
      let low = (v.codes p x.0 x.1).node in absurd (omega arith)
  no_limit line (many_units p process hp above at) = let x = code_of_process p process hp in let n =
      units_kept cs process x.0 x.2 in let few = (v.codes p x.0 x.1).units in absurd (omega arith)
  no_limit line (many_times p process hp past) =
      let x = code_of_process p process hp in
      let none : false ≡ true =
      sym (ap is_none past) ∙ (repeats_kept cs process x.0 x.2 ∙ (v.codes p x.0 x.1).repeats) in absurd (false≢true none)

  no_missing_producer : (line : ℕ) → HasNoUser Input PutOn text line → ⊥
  no_missing_producer line h =
      let k = channel_at h.c h.channel h.here in
      elim (port_either k.0.producer) [
        | inl e ↦ h.inside ((r.inputs h.c h.channel k.0 h.here k.1).1 e)
        | inr q ↦
            let lt = v.producer_is_here h.c q.0 k.0 k.1 q.1 in
            let n = processes_counted in
            let p = got_within (processes_of text) q.0 (omega arith) in
            let x = code_of_process q.0 p.0 p.1 in
            let m = put_named cs p.0 x.0 h.c x.2 ((v.producer h.c q.0 k.0 x.0 k.1 x.1).1 q.1) in
            h.unused q.0 p.0 m.name p.1 m.used
            (reads_same cs h.c m.name.text h.channel.name.text m.reads
            (name_read h.c h.channel h.channel.name.text h.here refl))
      ]

  no_missing_consumer : (line : ℕ) → HasNoUser Output GetFrom text line → ⊥
  no_missing_consumer line h =
      let k = channel_at h.c h.channel h.here in
      elim (port_either k.0.consumer) [
        | inl e ↦ h.inside ((r.outputs h.c h.channel k.0 h.here k.1).1 e)
        | inr q ↦
            let lt = v.consumer_is_here h.c q.0 k.0 k.1 q.1 in
            let n = processes_counted in
            let p = got_within (processes_of text) q.0 (omega arith) in
            let x = code_of_process q.0 p.0 p.1 in
            let m = get_named cs p.0 x.0 h.c x.2 ((v.consumer h.c q.0 k.0 x.0 k.1 x.1).1 q.1) in
            h.unused q.0 p.0 m.name p.1 m.used
            (reads_same cs h.c m.name.text h.channel.name.text m.reads
            (name_read h.c h.channel h.channel.name.text h.here refl))
      ]

  pub no_fault : (f : NetFault) → HasFault text f → f ≡ NoMemory
  no_fault NoMemory h = refl
  no_fault (TwiceNamed line) h = absurd (no_twice line h)
  no_fault (UnknownName line) h = absurd (no_unknown line h)
  no_fault (TwoProducers line) h = absurd (no_two_producers line h)
  no_fault (TwoConsumers line) h = absurd (no_two_consumers line h)
  no_fault (LoopWithoutGet line) h = absurd (no_loop line h)
  no_fault (Limit line) h = absurd (no_limit line h)
  no_fault (NoProducer line) h = absurd (no_missing_producer line h)
  no_fault (NoConsumer line) h = absurd (no_missing_consumer line h)
  no_fault MissingInput h = absurd h

-- lines with a fault don't bind
pub no_input_fault : (names : List NameTree) (net : Network) (lines : List InputTree) (lists : List (List ℤ))
    (f : NetFault) → Binds names net lines lists → HasInputFault names net lines f → f ≡ NoMemory
no_input_fault names net lines lists NoMemory b h = refl
no_input_fault names net lines lists (TwiceNamed line) b h = absurd (no_second (line_names lines) line b.once h)
no_input_fault names net lines lists (UnknownName line) b h = let g = b.given h.i h.line h.here in
    absurd (h.other g.c g.reads g.input)
no_input_fault names net lines lists (Limit line) b h = let g = b.given h.i h.line h.here in let few = g.few in
    let many = h.many in absurd (omega arith)
no_input_fault names net lines lists MissingInput b h = absurd (h.unnamed (b.named h.c h.input))
no_input_fault names net lines lists _ b h = absurd h

-- what has no fault is refused for want of memory alone
pub ok_unless : {A : Type 0} (r : Result A NetFault) (P : NetFault → Type 0) → IfErr r P
    → ((f : NetFault) → P f → f ≡ NoMemory) → IsOkUnless r NoMemory
ok_unless (Ok x) P h other = tt
ok_unless (Err f) P h other = other f h
