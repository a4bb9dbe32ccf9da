-- The report of a run in other words.
use Rattle.std.proofs.Common.{◌≡◌, inl, inr, ◌∙◌, sym, ap, subst, refl, ℕ, ℤ, List, Option, Some, None, Ok, Err, Result, Bool, true, false, map, string_bytes}
use Rattle.std.specs.Prelude.{IfOk, is_some}
use Rattle.std.specs.Option.{option_map}
use Rattle.std.specs.declared.alloc.Global.{Global}
use Rattle.std.specs.declared.string.String.{String}
use Rattle.std.proofs.Math.Logic.{∥∥₁_map}
use Rattle.fail_script.specs.declared.act.ScriptLine.{ScriptLine}
use Rattle.host.specs.Requests.{Request, Later}
use Rattle.protocol.specs.Node.Common.{Net, network_of, node_count}
use Rattle.replay.specs.declared.kept.ScriptedEvent.{ScriptedEvent}
use Rattle.cobaltmidge.proofs.InFolder.{all_held_later, all_kept_later, held_as}
use Rattle.cobaltmidge.specs.Scripts.{scripted_of}
use Rattle.cobaltmidge.specs.Texts.{IsNetOf, AreInputsOf}
use Rattle.run_files.specs.Rules.{Given, WereRead}
use Rattle.run_files.specs.Wanted.{Wanted}
use Rattle.kahn_program.specs.Program.{AreKept, HasReport, IsAccepted, IsWrittenIfAsked, WereHeld, asked_by, asked_files, file_names}
use Rattle.run_files.proofs.Going.{read_later}
use Rattle.kahn_program.specs.Runs.{IsApproximated, IsReport, IsReportBy, IsWrittenIf}
use Rattle.kahn_program.specs.Scripts.{AreLinesOf}
use Rattle.kahn_program.specs.Statuses.{status_of_run}
use Rattle.kahn_program.specs.declared.asked.Options.{Options}

written_maps : (asked : Bool) (wrote other : List ℕ → Type 0) → ((text : List ℕ) → wrote text → other text) → (text : List ℕ)
    → IsWrittenIf asked wrote text → IsWrittenIf asked other text
written_maps true wrote other more text h = more text h
written_maps false wrote other more text h = tt

-- a report whose outputs held so much, and that was kept and written so, is one of which that is so by other accounts too
pub report_maps : (held holds : Option (List ℕ) → Type 0) (kept keeps : List (List ℤ) → Type 0) (wrote other : List ℕ → Type 0)
    (options : Options) (net : Net) (inputs : List (List ℤ)) (script : List ScriptedEvent) (text : List ℕ) (told : Bool)
    → ((counts : Option (List ℕ)) → held counts → holds counts) → ((streams : List (List ℤ)) → kept streams → keeps streams)
    → ((t : List ℕ) → wrote t → other t) → IsReport held kept wrote options net inputs script text told
    → IsReport holds keeps other options net inputs script text told
report_maps held holds kept keeps wrote other options net inputs script text told holding keeping writing report =
    ∥∥₁_map report (λ r. (
      r.0,
      r.1,
      r.2,
      holding _ r.3,
      r.4,
      r.5,
      r.6,
      keeping _ r.7,
      written_maps (is_some options.history) wrote other writing _ r.8,
    ))

-- a text that is written is what happened
pub written_as : (path : Option (List ℕ)) (e : List Request) (happened text : List ℕ) → IsWrittenIfAsked path e happened → happened ≡ text
    → IsWrittenIfAsked path e text
written_as path e happened text wrote is = let P : List ℕ → Type 0 = λ t. IsWrittenIfAsked path e t in subst P is wrote

pub written_later : (path : Option (List ℕ)) (a b : List Request) → Later a b → (text : List ℕ) → IsWrittenIfAsked path a text
    → IsWrittenIfAsked path b text
written_later None a b later text h = tt
written_later (Some path) a b later text (inl h) = inl (h.0, later _ h.1, later _ h.2, later _ h.3)
written_later (Some path) a b later text (inr h) = inr (later _ h.0, later _ h.1)

-- what is kept in the folder that is asked for
pub kept_asked : (sync : Bool) (state : Option (List ℕ)) (folder : List ℕ) (names : List (List ℕ)) (e : List Request)
    → state ≡ Some folder → (streams : List (List ℤ)) → AreKept sync (Some folder) names e streams → AreKept sync state names e streams
kept_asked sync state folder names e is streams are =
    let P : Option (List ℕ) → Type 0 = λ s. AreKept sync s names e streams in subst P (sym is) are

-- where none is asked for, nothing is to be kept
pub none_asked : (sync : Bool) (state : Option (List ℕ)) (names : List (List ℕ)) (e : List Request) → state ≡ None
    → (streams : List (List ℤ)) → AreKept sync state names e streams
none_asked sync state names e is streams =
    let P : Option (List ℕ) → Type 0 = λ s. AreKept sync s names e streams in subst P (sym is) tt

-- what the files of the folder that is asked for held
pub held_asked : (sync : Bool) (state : Option (List ℕ)) (folder : List ℕ) (names : List (List ℕ)) (e : List Request)
    → state ≡ Some folder → (counts : Option (List ℕ)) → WereHeld sync (Some folder) names e counts → WereHeld sync state names e counts
held_asked sync state folder names e is counts were =
    let P : Option (List ℕ) → Type 0 = λ s. WereHeld sync s names e counts in subst P (sym is) were

-- where none is asked for a run doesn't go on
pub none_held : (sync : Bool) (state : Option (List ℕ)) (names : List (List ℕ)) (e : List Request) → state ≡ None
    → (counts : Option (List ℕ)) → counts ≡ None → WereHeld sync state names e counts
none_held sync state names e is counts none =
    let P : Option (List ℕ) → Type 0 = λ s. WereHeld sync s names e counts in subst P (sym is) none

pub were_held_later : (sync : Bool) (state : Option (List ℕ)) (names : List (List ℕ)) (a b : List Request) → Later a b
    → (counts : Option (List ℕ)) → WereHeld sync state names a counts → WereHeld sync state names b counts
were_held_later sync None names a b later counts were = were
were_held_later sync (Some folder) names a b later None were = were
were_held_later sync (Some folder) names a b later (Some counts) were = all_held_later sync folder names a b later counts were

-- the same by names that are others' in other words
pub were_held_as : (sync : Bool) (folder : List ℕ) (names others : List (List ℕ)) (a b : List Request) → names ≡ others → Later a b
    → (counts : Option (List ℕ)) → WereHeld sync (Some folder) names a counts → WereHeld sync (Some folder) others b counts
were_held_as sync folder names others a b same later None were = were
were_held_as sync folder names others a b same later (Some counts) were = held_as sync folder names others a b same later counts were

pub report_later : (sync : Bool) (state path : Option (List ℕ)) (names : List (List ℕ)) (a b : List Request) (options : Options)
    (net : Net) (inputs : List (List ℤ)) (script : List ScriptedEvent) (text : List ℕ) (told : Bool) → Later a b
    → IsReport (WereHeld sync state names a) (AreKept sync state names a) (IsWrittenIfAsked path a) options net inputs script text told
    → IsReport (WereHeld sync state names b) (AreKept sync state names b) (IsWrittenIfAsked path b) options net inputs script text told
report_later sync state path names a b options net inputs script text told later =
    report_maps (WereHeld sync state names a) (WereHeld sync state names b) (AreKept sync state names a) (AreKept sync state names b) (IsWrittenIfAsked path a) (IsWrittenIfAsked path b) options net
    inputs script text told (were_held_later sync state names a b later) (all_kept_later sync state names a b later) (written_later path a b later)

pub status_is : (a b : Bool) → status_of_run a ≡ status_of_run b → a ≡ b
status_is true true same = refl
status_is false false same = refl
status_is true false same = absurd (cc)
status_is false true same = absurd (cc)

pub if_ok : {T E : Type 0} (P Q : T → Type 0) (result : Result T E) → ((x : T) → P x → Q x) → IfOk result P → IfOk result Q
if_ok P Q (Ok x) more h = more x h
if_ok P Q (Err e) more h = tt

lines_as : (a b : Option (String Global)) (nodes : ℕ) (known : Option (List ℕ)) (lines : List ScriptLine)
    → option_map string_bytes a ≡ option_map string_bytes b → AreLinesOf a nodes known lines → AreLinesOf b nodes known lines
lines_as None None nodes known lines same are = are
lines_as None (Some b) nodes known lines same are = absurd (cc)
lines_as (Some a) None nodes known lines same are = absurd (cc)
lines_as (Some a) (Some b) nodes known lines same are = are

-- the report of a run
pub run_report : (options : Options) (o : Wanted) (given : Given) (net : Net) (inputs : List (List ℤ)) (name : Option (String Global))
    (lines : List ScriptLine) (text : List ℕ) (told : Bool) (a e : List Request)
    → options.approx ≡ None → o ≡ asked_files options → o.script ≡ option_map string_bytes name
    → WereRead o given a → Later a e → IsNetOf given.net net → AreInputsOf given.inputs net inputs
    → AreLinesOf name (node_count (network_of net.program)) given.script lines
    → IsReport (WereHeld o.sync o.state (file_names net.program.channels.items net.channel_names.items) e)
    (AreKept o.sync o.state (file_names net.program.channels.items net.channel_names.items) e) (IsWrittenIfAsked o.history e) options net
    inputs (map scripted_of lines) text told
    → HasReport options text told e
run_report options o given net inputs name lines text told a e none same script read later of_net of_inputs are report =
    let P : Option ℕ → Type 0 = λ n. asked_files options ≡ asked_by n options in
    let run : asked_files options ≡ asked_by None options = subst P none refl in
    let names : option_map string_bytes name ≡ option_map string_bytes options.script =
    sym script ∙ (ap (λ (w : Wanted). w.script) same ∙ ap (λ (w : Wanted). w.script) run) in
    let Q : Wanted → Type 0 = λ w. WereRead w given e in
    let outputs : List (List ℕ) = file_names net.program.channels.items net.channel_names.items in
    let R : Wanted → Type 0 = λ w.
    IsReport (WereHeld w.sync w.state outputs e) (AreKept w.sync w.state outputs e) (IsWrittenIfAsked w.history e) options net inputs (map scripted_of lines) text told in
    let S : Option ℕ → Type 0 = λ n.
    IsReportBy n (WereHeld (asked_files options).sync (asked_files options).state outputs e) (AreKept (asked_files options).sync (asked_files options).state outputs e) (IsWrittenIfAsked (asked_files options).history e) options net inputs
    given.script text told in
    record {
      given = given;
      read = subst Q same (read_later IsAccepted o given a e later read);
      net = net;
      inputs = inputs;
      of_net = of_net;
      of_inputs = of_inputs;
      report = subst S (sym none) (lines, lines_as name options.script _ given.script lines names are, subst R same report);
    }

-- that of an approximation
pub approximation_report : (options : Options) (n : ℕ) (o : Wanted) (given : Given) (net : Net) (inputs : List (List ℤ))
    (text : List ℕ) (told : Bool) (e : List Request)
    → options.approx ≡ Some n → o ≡ asked_files options → WereRead o given e → IsNetOf given.net net → AreInputsOf given.inputs net inputs
    → IsApproximated net inputs n text told → HasReport options text told e
approximation_report options n o given net inputs text told e some same read of_net of_inputs report =
    let Q : Wanted → Type 0 = λ w. WereRead w given e in
    let outputs : List (List ℕ) = file_names net.program.channels.items net.channel_names.items in
    let S : Option ℕ → Type 0 = λ m.
    IsReportBy m (WereHeld (asked_files options).sync (asked_files options).state outputs e) (AreKept (asked_files options).sync (asked_files options).state outputs e) (IsWrittenIfAsked (asked_files options).history e) options net inputs
    given.script text told in
    record {
      given = given;
      read = subst Q same read;
      net = net;
      inputs = inputs;
      of_net = of_net;
      of_inputs = of_inputs;
      report = subst S (sym some) report;
    }

by_later : (approx : Option ℕ) (sync : Bool) (state path : Option (List ℕ)) (names : List (List ℕ)) (a b : List Request)
    (options : Options) (net : Net) (inputs : List (List ℤ)) (script : Option (List ℕ)) (text : List ℕ) (told : Bool) → Later a b
    → IsReportBy approx (WereHeld sync state names a) (AreKept sync state names a) (IsWrittenIfAsked path a) options net inputs script text told
    → IsReportBy approx (WereHeld sync state names b) (AreKept sync state names b) (IsWrittenIfAsked path b) options net inputs script text told
by_later (Some n) sync state path names a b options net inputs script text told later report = report
by_later None sync state path names a b options net inputs script text told later report =
    (report.0, report.1, report_later sync state path names a b options net inputs (map scripted_of report.0) text told later report.2)

pub has_report_later : (options : Options) (text : List ℕ) (told other : Bool) (a b : List Request) → Later a b → other ≡ told
    → HasReport options text told a → HasReport options text other b
has_report_later options text told other a b later same has =
    let P : Bool → Type 0 = λ it. HasReport options text it b in
    subst P (sym same) (record {
      given = has.given;
      read = read_later IsAccepted (asked_files options) has.given a b later has.read;
      net = has.net;
      inputs = has.inputs;
      of_net = has.of_net;
      of_inputs = has.of_inputs;
      report =
          by_later options.approx (asked_files options).sync (asked_files options).state (asked_files options).history
          (file_names has.net.program.channels.items has.net.channel_names.items) a b options has.net has.inputs has.given.script text told
          later has.report;
    })
