use Rattle.std.proofs.Common.{rules, false, ◌≡◌, ap, ◌∙◌, ◌≤◌, List, Ok, length, map, string_bytes}
use Rattle.std.specs.Prelude.{IsTrue}
use Rattle.std.specs.declared.alloc.Global.{Global}
use Rattle.std.specs.declared.string.String.{String}
use Rattle.host.specs.Requests.{Has, Renamed}
use Rattle.run_files.specs.Causes.{IsTakenBy}
use Rattle.run_files.proofs.Making.{all_cleared, cleared, new_folder, of_answer}
use Rattle.run_files.proofs.Going.{has_goes, none_left, ready_goes, with_goes, with_then}
use Rattle.run_files.proofs.Left.{files_in, self_in}
use Rattle.run_files.specs.Leftovers.{AreGone, IsIn}
use Rattle.run_files.proofs.Caused.{caused_later, of_error}
use Rattle.std.proofs.lemmas.Grind.{elements}
use Rattle.std.proofs.Common.{arith}
use Rattle.run_files.proofs.folder.make.Goals as goal

pub returns-in-Err-clause-goes : goal.returns-in-Err-clause-goes
returns-in-Err-clause-goes g c =
    none_left _ _ _ _ _ (with_goes _ _ _ _ _ _ c.in_ok-making.ensures.goes c.remove_folder.ensures.goes) c.remove_folder.ensures.gone

pub fill_and_name-made-requires-clause-ready : goal.fill_and_name-made-requires-clause-ready
fill_and_name-made-requires-clause-ready g c κs within = ready_goes _ _ _ _ c.in_ok-making.ensures.goes c.requires.ready

pub returns-in-Ok-true-clause-goes : goal.returns-in-Ok-true-clause-goes
returns-in-Ok-true-clause-goes g c =
    let folder = string_bytes c.in_ok-making.making in
    let gone = of_answer _ _ (λ named. IsTrue named → AreGone (IsIn folder) (g.H.Host.asked c.fill_and_name-made.new.host))
    c.in-Ok-true.is c.fill_and_name-made.ensures.gone (search rules) in
    none_left _ _ (IsIn folder) _ _ (with_then _ _ _ _ _ _ _ _ (self_in folder)
    (files_in folder _ _ _
    (ap (λ (paths : List (String Global)). map (λ (path : String Global). string_bytes path) paths) c.as_slice-all.ensures.value ∙ c.in-Ok.ensures))
    c.in_ok-making.ensures.goes c.fill_and_name-made.ensures.goes) gone

pub clear-requires-clause-folder : goal.clear-requires-clause-folder
clear-requires-clause-folder g c κs within = has_goes _ _ _ _ _ c.fill_and_name-made.ensures.goes c.in_ok-making.ensures.made

pub returns-in-Ok-false-clause-goes : goal.returns-in-Ok-false-clause-goes
returns-in-Ok-false-clause-goes g c =
    all_cleared _ _ _ _ _ _ _ _ _ c.in_ok-making.ensures.goes c.fill_and_name-made.ensures.goes c.clear.ensures.goes c.clear.ensures.gone
    c.clear.ensures.gone_files

pub clear-requires-in-Err-named-clause-folder : goal.clear-requires-in-Err-named-clause-folder
clear-requires-in-Err-named-clause-folder g c κs within = has_goes _ _ _ _ _ c.fill_and_name-made.ensures.goes c.in_ok-making.ensures.made

pub returns-clause-goes : goal.returns-clause-goes
returns-clause-goes g c =
    all_cleared _ _ _ _ _ _ _ _ _ c.in_ok-making.ensures.goes c.fill_and_name-made.ensures.goes c.clear-in-Err-named.ensures.goes
    c.clear-in-Err-named.ensures.gone c.clear-in-Err-named.ensures.gone_files

pub returns-in-Ok-true-clause-named : goal.returns-in-Ok-true-clause-named
returns-in-Ok-true-clause-named g c is =
    let made = c.fill_and_name-made.ensures in
    new_folder _ _ _ _ _ _ (has_goes _ _ _ _ _ made.goes c.in_ok-making.ensures.made) made.made
    (of_answer _ _ (λ named. length c.as_slice-all.result.now ≤ c.fill_and_name-made.result.0) c.in-Ok-true.is made.all)
    (ap (λ (paths : List (String Global)). map (λ (path : String Global). string_bytes path) paths) c.as_slice-all.ensures.value ∙ c.in-Ok.ensures)
    (of_answer _ _ (λ named. IsTrue named
    → Has (Renamed (string_bytes c.in_ok-making.making) (string_bytes c.args.folder.now) (Ok tt)) (g.H.Host.asked c.fill_and_name-made.new.host))
    c.in-Ok-true.is made.renamed (search rules))

pub returns-in-Ok-false-clause-cleared : goal.returns-in-Ok-false-clause-cleared
returns-in-Ok-false-clause-cleared g c is =
    let made = c.fill_and_name-made.ensures in
    cleared _ (string_bytes c.args.folder.now) _ _ _ _ (has_goes _ _ _ _ _ (with_goes _ _ _ _ _ _ made.goes c.clear.ensures.goes) c.in_ok-making.ensures.made)
    c.clear.ensures.files
    (of_answer _ _ (λ named. length c.as_slice-all.result.now ≤ c.fill_and_name-made.result.0) c.in-Ok-false.is made.all)
    (ap (λ (paths : List (String Global)). map (λ (path : String Global). string_bytes path) paths) c.as_slice-all.ensures.value ∙ c.in-Ok.ensures)
    c.clear.ensures.folder

pub returns-in-Ok-false-clause-taken : goal.returns-in-Ok-false-clause-taken
returns-in-Ok-false-clause-taken g c = λ is.
    let taken = of_answer _ _ (λ named. named ≡ false → IsTakenBy (string_bytes c.in_ok-making.making) (string_bytes c.args.folder.now)
    (g.H.Host.asked c.fill_and_name-made.new.host)) c.in-Ok-false.is c.fill_and_name-made.ensures.taken (search rules) in
    (string_bytes c.in_ok-making.making, (taken.0, c.clear.ensures.goes.later _ taken.1, taken.2))

pub returns-clause-cause : goal.returns-clause-cause
returns-clause-cause g c =
    caused_later _ _ _ _ c.clear-in-Err-named.ensures.goes.later _ (of_error _ _ _ c.in-Err-named.is c.fill_and_name-made.ensures.cause)

pub returns-in-Ok-false-clause-named : goal.returns-in-Ok-false-clause-named
returns-in-Ok-false-clause-named g c = grind (arith, elements)

pub returns-in-Ok-true-clause-cleared : goal.returns-in-Ok-true-clause-cleared
returns-in-Ok-true-clause-cleared g c = grind (arith, elements)

pub returns-in-Ok-true-clause-taken : goal.returns-in-Ok-true-clause-taken
returns-in-Ok-true-clause-taken g c = grind (arith, elements)
