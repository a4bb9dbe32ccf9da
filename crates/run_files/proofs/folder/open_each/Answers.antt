use Rattle.std.proofs.Common.{rules, arith, ◌≡◌, ◌++◌, ◌∙◌, List, ap, append-nil, length, map, sym, subst, string_bytes}
use Rattle.std.specs.Vec.Iter.{into_iter_items}
use Rattle.std.specs.declared.alloc.Global.{Global}
use Rattle.std.specs.declared.string.String.{String}
use Rattle.run_files.specs.Opening.{AreOpened, opened_names}
use Rattle.run_files.proofs.Held.{held_longer, names_opened}
use Rattle.run_files.proofs.Paths.{names_more}
use Rattle.run_files.proofs.Going.{goes_still, goes_then, no_items, opened_more, ready_goes, same_goes}
use Rattle.std.proofs.lemmas.Grind.{elements}
use Rattle.run_files.proofs.folder.open_each.Goals as goal

pub open_one-requires-clause-ready : goal.open_one-requires-clause-ready
open_one-requires-clause-ready g c κs within = ready_goes _ _ _ _ c.loop-name.invariant.goes c.requires.ready

pub open_one-requires-clause-held : goal.open_one-requires-clause-held
open_one-requires-clause-held g c κs within = c.loop-name.invariant.goes.held _ c.requires.held

pub open_one-requires-clause-same : goal.open_one-requires-clause-same
open_one-requires-clause-same g c κs within = same_goes _ _ _ _ _ c.loop-name.invariant.goes c.requires.same

pub returns-in_err-file-clause-goes : goal.returns-in_err-file-clause-goes
returns-in_err-file-clause-goes g c = goes_then _ _ _ _ _ c.loop-name.invariant.goes c.open_one.ensures.goes

pub loop-name-preserved : goal.loop-name-preserved
loop-name-preserved g c = record {
  goes = goes_then _ _ _ _ _ c.loop-name.invariant.goes c.open_one.ensures.goes;
  opened = subst (λ items. AreOpened c.args.names.now.sync (string_bytes c.args.folder.now) items (g.H.Host.asked c.open_one.new.host)) (sym c.push_reserved-in-loop-name.ensures.items)
      (opened_more _ _ _ _ _ _ _ _ c.open_one.ensures.goes c.loop-name.invariant.opened c.in_ok-file.ensures.opened);
  named = names_more _ _ _ _ _ _ (names_opened _ _ _ c.push_reserved-in-loop-name.ensures.items) c.in-Some.ensures.steps.0 c.loop-name.invariant.named;
  files = held_longer _ _ _ _ _ _ _ _ c.push_reserved-in-loop-name.ensures.items c.push_reserved.ensures.items c.open_one.ensures.goes.later
      c.loop-name.invariant.files
      (record { named = c.in_ok-file.ensures.named; lines = c.in_ok-file.ensures.lines; cut = c.in_ok-file.ensures.cut });
  file_room = omega (
    arith,
    ap length c.in-Some.ensures.steps.0,
    c.push_reserved.ensures.len,
    c.push_reserved.ensures.capacity,
    c.loop-name.invariant.file_room,
  );
  room = omega (
    arith,
    ap length c.in-Some.ensures.steps.0,
    c.push_reserved-in-loop-name.ensures.len,
    c.push_reserved-in-loop-name.ensures.capacity,
    c.loop-name.invariant.room,
  );
}

pub loop-name-init : goal.loop-name-init
loop-name-init g c = record { goes = goes_still _ _ _; opened = search rules; named = search rules; files = search rules; file_room = search rules; room = search rules }

pub returns-clause-named : goal.returns-clause-named
returns-clause-named g c =
    let none : length (into_iter_items c.loop-name.name-iterator) ≡ 0 = grind (arith, elements) in
    let left = opened_names c.loop-name.opened.items in
    sym (append-nil left)
    ∙ (ap (λ (rest : List (String Global)). left ++ map (λ (name : String Global). string_bytes name) rest)
    (sym (no_items (into_iter_items c.loop-name.name-iterator) none)) ∙ c.loop-name.invariant.named)

pub push_reserved-requires : goal.push_reserved-requires
push_reserved-requires g c = omega (arith, ap length c.in-Some.ensures.steps.0, c.loop-name.invariant.file_room)

pub push_reserved-requires-in-loop-name : goal.push_reserved-requires-in-loop-name
push_reserved-requires-in-loop-name g c = omega (arith, ap length c.in-Some.ensures.steps.0, c.loop-name.invariant.room)

pub returns-clause-opened : goal.returns-clause-opened
returns-clause-opened g c = grind (arith, elements)

pub returns-clause-files : goal.returns-clause-files
returns-clause-files g c = grind (arith, elements)

pub returns-clause-goes : goal.returns-clause-goes
returns-clause-goes g c = grind (arith, elements)
