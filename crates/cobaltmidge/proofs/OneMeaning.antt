-- Texts mean one thing: of two networks of one text the same channels are inputs, and a text gives these one list each.
use Rattle.std.proofs.Common.{◌≡◌, ◌≢◌, ◌+◌, ◌<◌, ◌≤◌, ◌∙◌, inl, inr, refl, sym, ap, subst, arith, Bool, true, false, ℕ, ℤ, List, [], ◌∷◌, length, slice_get, Option, Some, Ok, Result}
use Rattle.std.proofs.lemmas.List.{length-map}
use Rattle.std.specs.Option.{unwrap_or}
use Rattle.std.proofs.lemmas.Option.{get_or_from_slice_get, slice_get_cases, slice_get_past, unwrap_or-slice_get}
use Rattle.net_text.specs.InputLines.{IsInputsText, lines_of}
use Rattle.net_text.specs.Names.{NameTree}
use Rattle.net_text.specs.Tokens.{AreTokensTo, EndsAt, Lexeme}
use Rattle.net_text.specs.declared.fault.TextFault.{TextFault}
use Rattle.net_text.specs.Trees.{DeclarationTree, InputTree}
use Rattle.net_text.specs.declared.tree.ChannelText.{ChannelText}
use Rattle.net_text.proofs.InputLaws.{lines_again}
use Rattle.net_text.proofs.Readings.{one_token, token_no_end}
use Rattle.net_text.proofs.Texts.{one_tree, whole_again}
use Rattle.net_text.specs.Editions.{Ranged}
use Rattle.net_text.specs.Grammar.{IsText, IsTextOf, Whole}
use Rattle.net_text.specs.declared.limits.TheConstants.{MAX_NESTING}
use Rattle.net_check.specs.Binding.{Binds, IsInput}
use Rattle.net_check.specs.Resolution.{AllDifferent, Reads, Resolves, channels_of}
use Rattle.kahn_net.specs.Common.{Network, network_of}
use Rattle.kahn_net.specs.Streams.{ArePrefixes, IsPrefix, history_of}
use Rattle.net_check.specs.declared.net.Net.{Net}
use Rattle.run_files.specs.Rules.{Given, grown_from}
use Rattle.cobaltmidge.specs.Accepting.{AreTextsOf, HaveGrownFrom, IsAccepted}
use Rattle.cobaltmidge.specs.Texts.{AreInputsOf, IsNetOf}
use Rattle.kahn_net.specs.declared.program.Channel.{Channel}
use Rattle.kahn_net.specs.declared.program.Port.{Port}
use Rattle.kahn_net.specs.declared.program.Port.TheVariants.{Outside, Process}

-- a text has these tokens and no others
tokens_are : (text : List ℕ) (place : ℕ) (ts us : List Lexeme) (p q : ℕ) → AreTokensTo text place ts p → EndsAt text p
    → AreTokensTo text place us q → EndsAt text q → ts ≡ us
tokens_are text place [] [] p q h ends g stops = refl
tokens_are text place [] (u ∷ us) p q h ends g stops =
    absurd (token_no_end text place u g.0 (subst (EndsAt text) (sym h) ends))
tokens_are text place (t ∷ ts) [] p q h ends g stops =
    absurd (token_no_end text place t h.0 (subst (EndsAt text) (sym g) stops))
tokens_are text place (t ∷ ts) (u ∷ us) p q h ends g stops =
    let same = one_token text place t u h.0 g.0 in
    let P : Lexeme → Type 0 = λ v. AreTokensTo text (v.start + length v.text) us q in
    let rest = tokens_are text (t.start + length t.text) ts us p q h.1 ends (subst P (sym same) g.1) stops in cc

-- a text of a network has one tree
pub tree_is : (text : List ℕ) (a b : List DeclarationTree) → IsTextOf a text → IsTextOf b text → a ≡ b
tree_is text a b first second =
    let tokens = tokens_are text 0 second.tokens first.tokens _ _ second.read.read second.read.ends first.read.read first.read.ends in
    let P : List Lexeme → Type 0 = λ ts. IsText Ranged MAX_NESTING b Whole ts in
    one_tree first.tokens a b (whole_again Ranged MAX_NESTING a first.tokens first.grammar)
    (whole_again Ranged MAX_NESTING b first.tokens (subst P tokens second.grammar))

abbrev lines_ok : List InputTree → Result (List InputTree) TextFault
lines_ok lines = Ok lines

-- a text of inputs has these lines and no others
pub lines_are : (text : List ℕ) (a b : List InputTree) → IsInputsText text a → IsInputsText text b → a ≡ b
lines_are text a b first second =
    let both : lines_ok a ≡ lines_ok b =
    sym (lines_again 1 (lines_of text) a first.entries) ∙ lines_again 1 (lines_of text) b second.entries in cc

-- the list of a channel, by its place
history_at : (lists : List (List ℤ)) (c : ℕ) (items : List ℤ) → slice_get lists c ≡ Some items → history_of lists c ≡ items
history_at lists c items there = get_or_from_slice_get lists c items [] there

history_past : (lists : List (List ℤ)) (c : ℕ) → length lists ≤ c → history_of lists c ≡ []
history_past lists c past =
    sym (unwrap_or-slice_get lists c []) ∙ ap (λ (o : Option (List ℤ)). unwrap_or o []) (slice_get_past lists c past)

-- where one list has something, so has another of the same length
within : {A : Type 0} (xs : List A) (i : ℕ) (x : A) → slice_get xs i ≡ Some x → i < length xs
within xs i x there = elim (slice_get_cases xs i).1 [
  | inl is ↦ is.1
  | inr past ↦ (let both = sym there ∙ past.1 in absurd (cc))
]

there_at : {B : Type 0} (ys : List B) (i : ℕ) → i < length ys → (y : B) × (slice_get ys i ≡ Some y)
there_at ys i below = elim (slice_get_cases ys i).1 [
  | inl is ↦ (is.0, is.2)
  | inr past ↦ absurd (omega (arith, below, past.0))
]

some_is : {A : Type 0} (x y : A) → Some x ≡ Some y → x ≡ y
some_is x y same = cc

module _ (tree : List DeclarationTree) (channels p q : List NameTree) (m n : Network) (one : Resolves tree channels p m)
    (other : Resolves tree channels q n) where
  same_count : length m.channels ≡ length n.channels
  same_count = one.channel_count ∙ sym other.channel_count

  declared_count : length channels ≡ length (channels_of tree)
  declared_count = ap (λ (names : List NameTree). length names) one.channels_named ∙ length-map (channels_of tree) (λ (c : ChannelText). c.name)

  -- of two networks of a text the same channels are inputs
  pub input_too : (c : ℕ) → IsInput m c → IsInput n c
  input_too c is =
      let below : c < length m.channels = within m.channels c is.channel is.here in
      let declared = there_at (channels_of tree) c (omega (arith, below, one.channel_count, declared_count)) in
      let there = there_at n.channels c (omega (arith, below, same_count)) in
      let input = (one.inputs c declared.0 is.channel declared.1 is.here).1 is.outside in
      record { channel = there.0; here = there.1; outside = (other.inputs c declared.0 there.0 declared.1 there.1).0 input }

-- what lines give to one network of a text they give to the other
pub binds_too : (tree : List DeclarationTree) (channels p q : List NameTree) (m n : Network) (lines : List InputTree) (inputs : List (List ℤ))
    → Resolves tree channels p m → Resolves tree channels q n → Binds channels m lines inputs → Binds channels n lines inputs
binds_too tree channels p q m n lines inputs one other binds = record {
  count = binds.count ∙ (one.channel_count ∙ sym other.channel_count);
  given = λ i line here. (let g = binds.given i line here in record {
    c = g.c;
    reads = g.reads;
    input = input_too tree channels p q m n one other g.c g.input;
    items = g.items;
    few = g.few;
  });
  named = λ c is. binds.named c (input_too tree channels q p n m other one c is);
  once = binds.once;
  elsewhere = λ c channel items here there apart.
      (let mine = there_at m.channels c (let below : c < length n.channels = within n.channels c channel here in
      omega (arith, below, one.channel_count, other.channel_count)) in
      binds.elsewhere c mine.0 items mine.1 there (λ outside.
      (let is = input_too tree channels p q m n one other c (record { channel = mine.0; here = mine.1; outside = outside }) in
      apart (ap (λ (it : Channel). it.producer) (some_is channel is.channel (sym here ∙ is.here)) ∙ is.outside))));
}

module _ (names : List NameTree) (net : Network) (lines : List InputTree) (differ : AllDifferent names) where
  -- an input's list is that of the line that names it
  given_at : (inputs : List (List ℤ)) (c i : ℕ) (line : InputTree) → Binds names net lines inputs → slice_get lines i ≡ Some line
      → Reads names c line.name.text → history_of inputs c ≡ line.items
  given_at inputs c i line binds here reads =
      let g = binds.given i line here in
      let same : g.c ≡ c = differ g.c c line.name.text g.reads reads in
      let P : ℕ → Type 0 = λ k. slice_get inputs k ≡ Some line.items in
      history_at inputs c line.items (subst P same g.items)

  of_input : (a b : List (List ℤ)) (c : ℕ) → Binds names net lines a → Binds names net lines b → IsInput net c
      → history_of a c ≡ history_of b c
  of_input a b c first second is =
      let named = first.named c is in
      given_at a c named.i named.line first named.here named.reads ∙ sym (given_at b c named.i named.line second named.here named.reads)

  of_inner : (a : List (List ℤ)) (c : ℕ) (channel : Channel) → Binds names net lines a → slice_get net.channels c ≡ Some channel
      → channel.producer ≢ Outside → history_of a c ≡ []
  of_inner a c channel binds here apart =
      let there = there_at a c (let below : c < length net.channels = within net.channels c channel here in omega (arith, below, binds.count)) in
      history_at a c there.0 there.1 ∙ binds.elsewhere c channel there.0 here there.1 apart

  of_channel : (a b : List (List ℤ)) (c : ℕ) (channel : Channel) (producer : Port) → Binds names net lines a → Binds names net lines b
      → slice_get net.channels c ≡ Some channel → channel.producer ≡ producer → history_of a c ≡ history_of b c
  of_channel a b c channel Outside first second here is = of_input a b c first second (record { channel = channel; here = here; outside = is })
  of_channel a b c channel (Process p) first second here is =
      of_inner a c channel first here (λ outside. (let both = sym is ∙ outside in cc))
      ∙ sym (of_inner b c channel second here (λ outside. (let both = sym is ∙ outside in cc)))

  -- lines give each channel one list
  pub histories_are : (a b : List (List ℤ)) → Binds names net lines a → Binds names net lines b → (c : ℕ) → history_of a c ≡ history_of b c
  histories_are a b first second c = elim (slice_get_cases net.channels c).1 [
    | inl is ↦ of_channel a b c is.0 is.0.producer first second is.2 refl
    | inr past ↦ history_past a c (let over = past.0 in omega (arith, over, first.count)) ∙ sym (history_past b c (let over = past.0 in omega (arith, over, second.count)))
  ]

-- What a text gives the inputs of one network of a text it gives those of another.
pub inputs_too : (net_text text : List ℕ) (m n : Net) (inputs : List (List ℤ)) → IsNetOf net_text m → IsNetOf net_text n
    → AreInputsOf text n inputs → AreInputsOf text m inputs
inputs_too net_text text m n inputs one other are =
    let of_tree : Resolves one.tree n.channel_names.items n.process_names.items (network_of n.program) =
    (let P : List DeclarationTree → Type 0 = λ tree. Resolves tree n.channel_names.items n.process_names.items (network_of n.program) in
    subst P (tree_is net_text other.tree one.tree other.text one.text) other.resolved) in
    let names : n.channel_names.items ≡ m.channel_names.items = of_tree.channels_named ∙ sym one.resolved.channels_named in
    let resolved : Resolves one.tree m.channel_names.items n.process_names.items (network_of n.program) =
    (let P : List NameTree → Type 0 = λ channels. Resolves one.tree channels n.process_names.items (network_of n.program) in
    subst P names of_tree) in
    let bound : Binds m.channel_names.items (network_of n.program) are.lines inputs =
    (let P : List NameTree → Type 0 = λ channels. Binds channels (network_of n.program) are.lines inputs in subst P names are.bound) in
    record {
      lines = are.lines;
      text = are.text;
      bound =
          binds_too one.tree m.channel_names.items n.process_names.items m.process_names.items (network_of n.program) (network_of m.program)
          are.lines inputs resolved one.resolved bound;
    }

-- a text gives the inputs of a network one list each
pub inputs_are : (net_text text : List ℕ) (net : Net) (a b : List (List ℤ)) → IsNetOf net_text net → AreInputsOf text net a
    → AreInputsOf text net b → (c : ℕ) → history_of a c ≡ history_of b c
inputs_are net_text text net a b is first second =
    let P : List InputTree → Type 0 = λ lines. Binds net.channel_names.items (network_of net.program) lines b in
    histories_are net.channel_names.items (network_of net.program) first.lines is.resolved.channels_differ a b first.bound
    (subst P (lines_are text second.lines first.lines second.text first.text) second.bound)

-- texts of a network are accepted beside a text from which its inputs have grown
pub accepted_beside : (net : Net) (inputs : List (List ℤ)) (given : Given) (kept : List ℕ) → AreTextsOf net inputs given
    → HaveGrownFrom net inputs kept → IsAccepted (grown_from kept given)
accepted_beside net inputs given kept are grown = record {
  net = net;
  inputs = inputs;
  of_net = are.of_net;
  of_inputs = are.of_inputs;
  of_script = are.of_script;
  of_kept = grown;
}

-- they aren't beside another one, whatever network and inputs they are read as
pub not_beside : (net : Net) (inputs : List (List ℤ)) (given : Given) (kept : List ℕ) → AreTextsOf net inputs given
    → ¬ (HaveGrownFrom net inputs kept) → ¬ (IsAccepted (grown_from kept given))
not_beside net inputs given kept are changed accepted =
    let grown = accepted.of_kept in
    let same : (c : ℕ) → history_of accepted.inputs c ≡ history_of inputs c = λ c.
    inputs_are given.net given.inputs net accepted.inputs inputs are.of_net
    (inputs_too given.net given.inputs net accepted.net accepted.inputs are.of_net accepted.of_net accepted.of_inputs) are.of_inputs c in
    let longer : ArePrefixes grown.before inputs = record {
      at = λ c. (let P : List ℤ → Type 0 = λ whole. IsPrefix (history_of grown.before c) whole in subst P (same c) (grown.longer.at c));
    } in
    changed (record {
      utf8 = grown.utf8;
      before = grown.before;
      of_kept = inputs_too given.net kept net accepted.net grown.before are.of_net accepted.of_net grown.of_kept;
      longer = longer;
    })

-- inputs that were found not to have grown from what a text gives haven't grown from that text
pub none_longer : (net_text kept : List ℕ) (net : Net) (found inputs a b : List (List ℤ)) (result : Bool) → IsNetOf net_text net
    → AreInputsOf kept net found → a ≡ found → b ≡ inputs → result ≡ false → (ArePrefixes a b → result ≡ true)
    → ¬ (HaveGrownFrom net inputs kept)
none_longer net_text kept net found inputs a b result is are same other is_false begins grown =
    let longer : ArePrefixes found inputs = record {
      at = λ c. (let P : List ℤ → Type 0 = λ part. IsPrefix part (history_of inputs c) in
          subst P (inputs_are net_text kept net grown.before found is grown.of_kept are c) (grown.longer.at c));
    } in
    let P : List (List ℤ) → Type 0 = λ part. ArePrefixes part inputs in
    let Q : List (List ℤ) → Type 0 = λ whole. ArePrefixes a whole in
    let has = begins (subst Q (sym other) (subst P (sym same) longer)) in absurd (cc)
