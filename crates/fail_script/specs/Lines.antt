-- The lines of a failure script. Lines end at line feeds; of each, one trailing carriage return is left out.
use Rattle.std.specs.Prelude.{◌≡◌, ◌≢◌, ◌⊎◌, ℕ, suc, ◌<◌, ◌≤◌, List, [], ◌∷◌, ◌++◌, length, IsTrue, codes, not, ◌==◌}
use Rattle.std.specs.Prelude.{Result, Ok, Err}
use Rattle.std.specs.List.{AllZip, slice_split, filter}
use Rattle.net_text.specs.Numbers.{is_numeral, numeral_value}
use Rattle.net_text.specs.InputLines.{lines_of, is_space, IsBlank}
use Rattle.fail_script.specs.declared.act.Act.{Act}
use Rattle.fail_script.specs.declared.act.Act.TheVariants.{Lose, Repeat, Delay, Crash, CrashAtDelivery, StopAtCall}
use Rattle.fail_script.specs.declared.act.Act.TheVariants.{FailCall, Start}
use Rattle.fail_script.specs.declared.words.Form.{Form}
use Rattle.fail_script.specs.declared.words.Form.TheVariants as form
use Rattle.fail_script.specs.declared.act.ScriptLine.{ScriptLine}
use Rattle.fail_script.specs.declared.fault.ScriptFault.{ScriptFault}
use Rattle.fail_script.specs.declared.fault.ScriptFault.TheVariants.{NoMemory, BadLine, UnknownNode}
use Rattle.fail_script.specs.declared.limits.TheConstants.{MAX_SCRIPT_BYTES, MAX_ROUND, MAX_COUNT, MAX_FILL, MAX_ROUNDS}

-- the words of a line: what stands between its spaces
abbrev pub words_of : List ℕ → List (List ℕ)
words_of line = filter (λ part. not (length part == 0)) (slice_split is_space line)

-- the digits of this number, with zeros in front or none
abbrev pub IsNumeralOf : List ℕ → ℕ → Type 0
IsNumeralOf word n = IsTrue (is_numeral word) × (numeral_value word ≡ n)

-- the words write these numbers, in order
abbrev pub AreNumeralsOf : List (List ℕ) → List ℕ → Type 0
AreNumeralsOf words ns = AllZip IsNumeralOf words ns

-- a count begins at 1, and so does a number of rounds
abbrev pub IsCount : ℕ → Type 0
IsCount n = (1 ≤ n) × (n ≤ MAX_COUNT)

abbrev pub AreRounds : ℕ → Type 0
AreRounds n = (1 ≤ n) × (n ≤ MAX_ROUNDS)

-- the words of a form, around its numerals
abbrev pub with_word : (verb word : List ℕ) → List (List ℕ) → List (List ℕ)
with_word verb word [] = verb ∷ word ∷ []
with_word verb word (name ∷ numerals) = verb ∷ name ∷ word ∷ numerals

abbrev pub words_with : Form → List (List ℕ) → List (List ℕ)
words_with form.Lose numerals = codes "lose" ∷ numerals
words_with form.Repeat numerals = codes "repeat" ∷ numerals
words_with form.Delay numerals = codes "delay" ∷ numerals
words_with form.Crash numerals = with_word (codes "crash") (codes "now") numerals
words_with form.CrashAtDelivery numerals = with_word (codes "crash") (codes "delivery") numerals
words_with form.StopAtCall numerals = with_word (codes "crash") (codes "device") numerals
words_with form.FailCall numerals = with_word (codes "fail") (codes "device") numerals
words_with form.Start numerals = codes "start" ∷ numerals

abbrev pub form_of : Act → Form
form_of (Lose from to count) = form.Lose
form_of (Repeat from to count) = form.Repeat
form_of (Delay from to count rounds) = form.Delay
form_of (Crash node fill rounds) = form.Crash
form_of (CrashAtDelivery node count fill rounds) = form.CrashAtDelivery
form_of (StopAtCall node count fill rounds) = form.StopAtCall
form_of (FailCall node count) = form.FailCall
form_of (Start node) = form.Start

-- the numbers of a line, in their order
abbrev pub numbers_of : Act → List ℕ
numbers_of (Lose from to count) = from ∷ to ∷ count ∷ []
numbers_of (Repeat from to count) = from ∷ to ∷ count ∷ []
numbers_of (Delay from to count rounds) = from ∷ to ∷ count ∷ rounds ∷ []
numbers_of (Crash node fill rounds) = node ∷ fill ∷ rounds ∷ []
numbers_of (CrashAtDelivery node count fill rounds) = node ∷ count ∷ fill ∷ rounds ∷ []
numbers_of (StopAtCall node count fill rounds) = node ∷ count ∷ fill ∷ rounds ∷ []
numbers_of (FailCall node count) = node ∷ count ∷ []
numbers_of (Start node) = node ∷ []

-- the numbers other than nodes are in their ranges, and a packet goes from one node to another
abbrev pub IsInRange : Act → Type 0
IsInRange (Lose from to count) = (from ≢ to) × IsCount count
IsInRange (Repeat from to count) = (from ≢ to) × IsCount count
IsInRange (Delay from to count rounds) = (from ≢ to) × IsCount count × AreRounds rounds
IsInRange (Crash node fill rounds) = (fill ≤ MAX_FILL) × AreRounds rounds
IsInRange (CrashAtDelivery node count fill rounds) = IsCount count × (fill ≤ MAX_FILL) × AreRounds rounds
IsInRange (StopAtCall node count fill rounds) = IsCount count × (fill ≤ MAX_FILL) × AreRounds rounds
IsInRange (FailCall node count) = IsCount count
IsInRange (Start node) = Unit {0}

-- the words, behind the round, of a line that does this; whatever nodes there are
abbrev pub IsActText : Act → List (List ℕ) → Type 0
IsActText act words =
    (numerals : List (List ℕ)) × (words ≡ words_with (form_of act) numerals)
    × AreNumeralsOf numerals (numbers_of act) × IsInRange act

-- the words of a line: its round, and what it does
pub record IsLineText (line : ScriptLine) (words : List (List ℕ)) : Type 0 where
  pub round : List ℕ
  pub others : List (List ℕ)
  pub parts : words ≡ round ∷ others
  pub round_is : IsNumeralOf round line.round
  pub in_range : line.round ≤ MAX_ROUND
  pub act : IsActText line.act others

-- the nodes that a line names are among so many
abbrev pub IsInNetwork : ℕ → Act → Type 0
IsInNetwork nodes (Lose from to count) = (from < nodes) × (to < nodes)
IsInNetwork nodes (Repeat from to count) = (from < nodes) × (to < nodes)
IsInNetwork nodes (Delay from to count rounds) = (from < nodes) × (to < nodes)
IsInNetwork nodes (Crash node fill rounds) = node < nodes
IsInNetwork nodes (CrashAtDelivery node count fill rounds) = node < nodes
IsInNetwork nodes (StopAtCall node count fill rounds) = node < nodes
IsInNetwork nodes (FailCall node count) = node < nodes
IsInNetwork nodes (Start node) = node < nodes

-- a line of the right form, not before this round, whatever nodes there are
pub record HasForm (round : ℕ) (text : List ℕ) (line : ScriptLine) : Type 0 where
  pub shown : IsBlank text → ⊥
  pub words : IsLineText line (words_of text)
  pub not_before : round ≤ line.round

-- the lines of a script behind one of this round: blank ones, and these in order
abbrev pub AreScriptLines : (nodes round : ℕ) → List (List ℕ) → List ScriptLine → Type 0
AreScriptLines nodes round [] lines = lines ≡ []
AreScriptLines nodes round (text ∷ texts) lines =
    (IsBlank text × AreScriptLines nodes round texts lines)
    ⊎ ((line : ScriptLine) × (others : List ScriptLine) × (lines ≡ line ∷ others) × HasForm round text line
    × IsInNetwork nodes line.act × AreScriptLines nodes line.round texts others)

-- a text is a script of these lines, for a network of so many nodes
pub record IsScript (nodes : ℕ) (text : List ℕ) (lines : List ScriptLine) : Type 0 where
  pub small : length text ≤ MAX_SCRIPT_BYTES
  pub lines_are : AreScriptLines nodes 0 (lines_of text) lines

-- ---- faults

-- the round of the last of these lines, or this one
abbrev pub last_round : ℕ → List ScriptLine → ℕ
last_round round [] = round
last_round round (line ∷ lines) = last_round line.round lines

-- not blank, and no line of the right form
abbrev pub IsFormless : ℕ → List ℕ → Type 0
IsFormless round text = (IsBlank text → ⊥) × ((line : ScriptLine) → HasForm round text line → ⊥)

-- of the right form, with a node that isn't in the network
abbrev pub NamesNoNode : (nodes round : ℕ) → List ℕ → Type 0
NamesNoNode nodes round text = (line : ScriptLine) × HasForm round text line × (IsInNetwork nodes line.act → ⊥)

-- the first of these lines that isn't right, and what is wrong with it
pub record IsBadLine (nodes : ℕ) (texts : List (List ℕ)) (number : ℕ) (IsBad : ℕ → List ℕ → Type 0) : Type 0 where
  pub before : List (List ℕ)
  pub line : List ℕ
  pub after : List (List ℕ)
  pub parts : texts ≡ before ++ line ∷ after
  pub number_is : number ≡ suc (length before)
  pub read : List ScriptLine
  pub right : AreScriptLines nodes 0 before read
  pub bad : IsBad (last_round 0 read) line

-- why a script isn't read: it is over-long, or has a line that isn't right
abbrev pub IsScriptFault : (nodes : ℕ) → List ℕ → ScriptFault → Type 0
IsScriptFault nodes text NoMemory = Unit {0}
IsScriptFault nodes text (BadLine line) =
    ((MAX_SCRIPT_BYTES < length text) × (line ≡ 1))
    ⊎ ((length text ≤ MAX_SCRIPT_BYTES) × IsBadLine nodes (lines_of text) line IsFormless)
IsScriptFault nodes text (UnknownNode line) =
    (length text ≤ MAX_SCRIPT_BYTES) × IsBadLine nodes (lines_of text) line (NamesNoNode nodes)

-- an answer that is these lines, unless memory ran out
abbrev pub AnswersLines : {X : Type 0} → (X → List ScriptLine) → Result X ScriptFault → List ScriptLine → Type 0
AnswersLines view (Ok x) lines = view x ≡ lines
AnswersLines view (Err fault) lines = fault ≡ NoMemory

-- a refusal by this fault, unless memory ran out
abbrev pub IsRefusedBy : {X : Type 0} → ScriptFault → Result X ScriptFault → Type 0
IsRefusedBy fault (Ok x) = fault ≡ NoMemory
IsRefusedBy fault (Err other) = (fault ≡ NoMemory) ⊎ ((other ≡ NoMemory) ⊎ (other ≡ fault))
