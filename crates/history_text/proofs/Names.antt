-- One channel more, and one process more, on the way through those of a network.
use Rattle.std.proofs.Common.{◌≡◌, ◌∙◌, refl, sym, ap, ℕ, ◌+◌, ◌<◌, List, ◌++◌, ◌∷◌, drop, get_or, length}
use Rattle.std.proofs.lemmas.List.{at_drop_more}
use Rattle.kahn_net.specs.declared.program.Process.{Process}
use Rattle.net_text.specs.Names.{NameTree}
use Rattle.protocol.specs.Node.Common.{Channel}
use Rattle.history_text.specs.Headers.{channel_line, channels_text, process_line, processes_text}

-- what is listed from this one on, where both lists have it
module _ {X : Type 0} (text : ℕ → List X → List NameTree → List ℕ) (line : ℕ → X → NameTree → List ℕ)
    (goes : (i : ℕ) (x : X) (xs : List X) (name : NameTree) (names : List NameTree)
    → text i (x ∷ xs) (name ∷ names) ≡ line i x name ++ text (i + 1) xs names) where
  pub next_of : (xs : List X) (names : List NameTree) (i : ℕ) (x other : X) (name same : NameTree)
      → i < length xs → i < length names → x ≡ get_or xs i other → name ≡ get_or names i same
      → text i (drop i xs) (drop i names) ≡ line i x name ++ text (i + 1) (drop (i + 1) xs) (drop (i + 1) names)
  next_of xs names i x other name same few enough here is =
      at_drop_more (λ (ys : List X). text i ys (drop i names)) xs i other few
      ∙ (at_drop_more (λ (ns : List NameTree). text i (get_or xs i other ∷ drop (i + 1) xs) ns) names i same enough
      ∙ (goes i (get_or xs i other) (drop (i + 1) xs) (get_or names i same) (drop (i + 1) names)
      ∙ (ap (λ (y : X). line i y (get_or names i same) ++ text (i + 1) (drop (i + 1) xs) (drop (i + 1) names)) (sym here)
      ∙ ap (λ (n : NameTree). line i x n ++ text (i + 1) (drop (i + 1) xs) (drop (i + 1) names)) (sym is))))

pub next_channel : (channels : List Channel) (names : List NameTree) (i : ℕ) (channel other : Channel)
    (name same : NameTree) → i < length channels → i < length names → channel ≡ get_or channels i other
    → name ≡ get_or names i same → channels_text i (drop i channels) (drop i names)
    ≡ channel_line i channel name.text ++ channels_text (i + 1) (drop (i + 1) channels) (drop (i + 1) names)
next_channel =
    next_of channels_text (λ (i : ℕ) (channel : Channel) (name : NameTree). channel_line i channel name.text)
    (λ i channel channels name names. refl)

pub next_process : (processes : List Process) (names : List NameTree) (i : ℕ) (process other : Process)
    (name same : NameTree) → i < length processes → i < length names → process ≡ get_or processes i other
    → name ≡ get_or names i same → processes_text i (drop i processes) (drop i names)
    ≡ process_line i process.node name.text
    ++ processes_text (i + 1) (drop (i + 1) processes) (drop (i + 1) names)
next_process =
    next_of processes_text (λ (i : ℕ) (process : Process) (name : NameTree). process_line i process.node name.text)
    (λ i process processes name names. refl)
