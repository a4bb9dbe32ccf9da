use Rattle.std.proofs.Common.{◌≡◌, ◌≤◌, ◌+◌, ◌++◌, length, map, string_bytes}
use Rattle.std.specs.Prelude.{vec_len}
use Rattle.std.specs.Vec.{vec_capacity}
use Rattle.std.specs.Vec.Iter.{into_iter_items}
use Rattle.run_files.specs.Rules.{GoesOn}
use Rattle.run_files.specs.Wanted.{wanted_of}
use Rattle.run_files.specs.Opening.{AreHeldAs, AreOpened, opened_names}
use Rattle.run_files.proofs.folder.open_each.Given as goal

-- the files that were opened, and the names of those that remain, for which there is room
abbrev pub invariant-loop-name : goal.invariant-loop-name
invariant-loop-name g l = record {
  goes : GoesOn g.J.Judge.accepts (wanted_of l.fn.names) (g.H.Host.asked l.fn.host) (g.H.Host.asked l.host);
  opened : AreOpened l.fn.names.sync (string_bytes l.fn.folder) l.opened.items (g.H.Host.asked l.host);
  named : opened_names l.opened.items ++ map string_bytes (into_iter_items l.name-iterator) ≡ map string_bytes l.fn.outputs.items;
  files : AreHeldAs l.opened.items l.files.items (g.H.Host.asked l.host);
  file_room : vec_len l.files + length (into_iter_items l.name-iterator) ≤ vec_capacity l.files;
  room : vec_len l.opened + length (into_iter_items l.name-iterator) ≤ vec_capacity l.opened;
}
