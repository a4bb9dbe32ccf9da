-- What the code reads of a script, function by function; `Lines` says what it should be.
use Rattle.std.specs.Prelude.{◌≡◌, ℕ, Bool, ◌&&◌, ◌==◌, if◌then◌else◌, nat_le, nat_lt, min, codes}
use Rattle.std.specs.Prelude.{List, [], ◌∷◌, ◌++◌, length, Option, Some, None, get_or, option_and_then}
use Rattle.std.specs.List.{slice_get}
use Rattle.net_text.specs.Numbers.{is_numeral, numeral_value}
use Rattle.net_text.specs.InputLines.{IsBlank}
use Rattle.fail_script.specs.Lines.{IsLineText, HasForm, IsInNetwork, IsFormless, NamesNoNode, IsBadLine}
use Rattle.fail_script.specs.declared.act.Act.{Act}
use Rattle.fail_script.specs.declared.act.Act.TheVariants.{Lose, Repeat, Delay, Crash, CrashAtDelivery, StopAtCall}
use Rattle.fail_script.specs.declared.act.Act.TheVariants.{FailCall, Start}
use Rattle.fail_script.specs.declared.act.ScriptLine.{ScriptLine}
use Rattle.fail_script.specs.declared.words.Form.{Form}
use Rattle.fail_script.specs.declared.words.Form.TheVariants as form
use Rattle.fail_script.specs.declared.fault.ScriptFault.{ScriptFault}
use Rattle.fail_script.specs.declared.fault.ScriptFault.TheVariants.{NoMemory, BadLine, UnknownNode}
use Rattle.fail_script.specs.declared.limits.TheConstants.{MAX_COUNT, MAX_FILL, MAX_ROUNDS, BEYOND_NODES, PAST_NUMBERS}

-- the number that digits write, as far as 32 bits hold it; else the least that they don't hold
abbrev pub numeral_in : List ℕ → Option ℕ
numeral_in word = if is_numeral word then Some (min (numeral_value word) PAST_NUMBERS) else None

-- a number from the least to the greatest
abbrev pub number_in : (least greatest : ℕ) → List ℕ → Option ℕ
number_in least greatest word =
    if is_numeral word && (nat_le (numeral_value word) greatest && nat_le least (numeral_value word))
    then Some (numeral_value word) else None

-- a node, or one beyond all nodes
abbrev pub node_in : List ℕ → Option ℕ
node_in word = if is_numeral word then Some (min (numeral_value word) BEYOND_NODES) else None

-- what is left of a numeral without the zeros in front
abbrev pub without_zeros : List ℕ → List ℕ
without_zeros [] = []
without_zeros (b ∷ bs) = if b == 48 then without_zeros bs else b ∷ bs

-- the word that stands between two spaces, if any does
abbrev pub word_in : List ℕ → List (List ℕ)
word_in part = if length part == 0 then [] else part ∷ []

-- the words by which a form is told
abbrev pub has_form : Form → List (List ℕ) → Type 0
has_form form.Lose words = (length words ≡ 4) × (slice_get words 0 ≡ Some (codes "lose"))
has_form form.Repeat words = (length words ≡ 4) × (slice_get words 0 ≡ Some (codes "repeat"))
has_form form.Delay words = (length words ≡ 5) × (slice_get words 0 ≡ Some (codes "delay"))
has_form form.Crash words =
    (length words ≡ 5) × (slice_get words 0 ≡ Some (codes "crash")) × (slice_get words 2 ≡ Some (codes "now"))
has_form form.CrashAtDelivery words =
    (length words ≡ 6) × (slice_get words 0 ≡ Some (codes "crash")) × (slice_get words 2 ≡ Some (codes "delivery"))
has_form form.StopAtCall words =
    (length words ≡ 6) × (slice_get words 0 ≡ Some (codes "crash")) × (slice_get words 2 ≡ Some (codes "device"))
has_form form.FailCall words =
    (length words ≡ 4) × (slice_get words 0 ≡ Some (codes "fail")) × (slice_get words 2 ≡ Some (codes "device"))
has_form form.Start words = (length words ≡ 2) × (slice_get words 0 ≡ Some (codes "start"))

-- where there is a value, what is made of it
infixl 10 ◌>>=◌
abbrev pub ◌>>=◌ : {A B : Type 0} → Option A → (A → Option B) → Option B
given >>= next = option_and_then next given

-- two nodes that differ, and a count
abbrev pub packet_in : (from to count : List ℕ) → Option (ℕ × ℕ × ℕ)
packet_in from to count =
    node_in from >>= (λ a. node_in to >>= (λ b. number_in 1 MAX_COUNT count >>= (λ n.
    if numeral_value from == numeral_value to then None else Some (a, b, n))))

-- a byte to fill with, and a number of rounds
abbrev pub crash_in : (fill rounds : List ℕ) → Option (ℕ × ℕ)
crash_in fill rounds = number_in 0 MAX_FILL fill >>= (λ f. number_in 1 MAX_ROUNDS rounds >>= (λ r. Some (f, r)))

abbrev pub word : List (List ℕ) → ℕ → List ℕ
word words i = get_or words i []

-- what words of this form do
abbrev pub act_in : Form → List (List ℕ) → Option Act
act_in form.Lose words =
    packet_in (word words 1) (word words 2) (word words 3) >>= (λ p. Some (Lose p.0 p.1 p.2))
act_in form.Repeat words =
    packet_in (word words 1) (word words 2) (word words 3) >>= (λ p. Some (Repeat p.0 p.1 p.2))
act_in form.Delay words =
    packet_in (word words 1) (word words 2) (word words 3) >>= (λ p.
    number_in 1 MAX_ROUNDS (word words 4) >>= (λ r. Some (Delay p.0 p.1 p.2 r)))
act_in form.Crash words =
    node_in (word words 1) >>= (λ k. crash_in (word words 3) (word words 4) >>= (λ c. Some (Crash k c.0 c.1)))
act_in form.CrashAtDelivery words =
    node_in (word words 1) >>= (λ k. number_in 1 MAX_COUNT (word words 3) >>= (λ n.
    crash_in (word words 4) (word words 5) >>= (λ c. Some (CrashAtDelivery k n c.0 c.1))))
act_in form.StopAtCall words =
    node_in (word words 1) >>= (λ k. number_in 1 MAX_COUNT (word words 3) >>= (λ n.
    crash_in (word words 4) (word words 5) >>= (λ c. Some (StopAtCall k n c.0 c.1))))
act_in form.FailCall words =
    node_in (word words 1) >>= (λ k. number_in 1 MAX_COUNT (word words 3) >>= (λ n. Some (FailCall k n)))
act_in form.Start words = node_in (word words 1) >>= (λ k. Some (Start k))

-- the act with nodes as far as they are read
abbrev pub node_cut : ℕ → ℕ
node_cut node = min node BEYOND_NODES

abbrev pub cut : Act → Act
cut (Lose from to count) = Lose (node_cut from) (node_cut to) count
cut (Repeat from to count) = Repeat (node_cut from) (node_cut to) count
cut (Delay from to count rounds) = Delay (node_cut from) (node_cut to) count rounds
cut (Crash node fill rounds) = Crash (node_cut node) fill rounds
cut (CrashAtDelivery node count fill rounds) = CrashAtDelivery (node_cut node) count fill rounds
cut (StopAtCall node count fill rounds) = StopAtCall (node_cut node) count fill rounds
cut (FailCall node count) = FailCall (node_cut node) count
cut (Start node) = Start (node_cut node)

-- whether its nodes are among so many
abbrev pub is_in_network : ℕ → Act → Bool
is_in_network nodes (Lose from to count) = nat_lt from nodes && nat_lt to nodes
is_in_network nodes (Repeat from to count) = nat_lt from nodes && nat_lt to nodes
is_in_network nodes (Delay from to count rounds) = nat_lt from nodes && nat_lt to nodes
is_in_network nodes (Crash node fill rounds) = nat_lt node nodes
is_in_network nodes (CrashAtDelivery node count fill rounds) = nat_lt node nodes
is_in_network nodes (StopAtCall node count fill rounds) = nat_lt node nodes
is_in_network nodes (FailCall node count) = nat_lt node nodes
is_in_network nodes (Start node) = nat_lt node nodes

-- a line, with its act's nodes as far as they are read
abbrev pub cut_line : ScriptLine → ScriptLine
cut_line line = record { round = line.round; act = cut line.act }

-- what is read of words: a line that they write, or nothing where they write none
abbrev pub IsLineRead : List (List ℕ) → Option ScriptLine → Type 0
IsLineRead words None = (v : ScriptLine) → IsLineText v words → ⊥
IsLineRead words (Some line) = (v : ScriptLine) × IsLineText v words × (cut_line v ≡ line)

-- what is read of a line behind one of this round
abbrev pub IsTextRead : (nodes round : ℕ) → List ℕ → Option ScriptLine → Type 0
IsTextRead nodes round text None = IsBlank text
IsTextRead nodes round text (Some line) = HasForm round text line × IsInNetwork nodes line.act

-- why it isn't read
abbrev pub IsTextFault : (nodes number round : ℕ) → List ℕ → ScriptFault → Type 0
IsTextFault nodes number round text NoMemory = Unit {0}
IsTextFault nodes number round text (BadLine line) = (line ≡ number) × IsFormless round text
IsTextFault nodes number round text (UnknownNode line) = (line ≡ number) × NamesNoNode nodes round text

-- why lines aren't read
abbrev pub IsLinesFault : (nodes : ℕ) → List (List ℕ) → ScriptFault → Type 0
IsLinesFault nodes texts NoMemory = Unit {0}
IsLinesFault nodes texts (BadLine line) = IsBadLine nodes texts line IsFormless
IsLinesFault nodes texts (UnknownNode line) = IsBadLine nodes texts line (NamesNoNode nodes)

-- the lines, with what was read of one more text
abbrev pub lines_with : Option ScriptLine → List ScriptLine → List ScriptLine
lines_with None lines = lines
lines_with (Some line) lines = lines ++ line ∷ []

-- the round of the last line then
abbrev pub round_after : ℕ → Option ScriptLine → ℕ
round_after round None = round
round_after round (Some line) = line.round
