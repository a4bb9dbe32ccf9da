-- What a file of the system was asked.
use Rattle.std.specs.Prelude.{List, drop, map, take}
use Rattle.sector_disk.specs.Past.{states_of}
use Rattle.host.specs.Writes as writes
use Rattle.host.specs.declared.std_file.StdFile.{StdFile}
use Rattle.host.specs.declared.std_file.WriteNoted.{WriteNoted}
use Rattle.host.specs.declared.std_file.WriteNoted.TheVariants.{Wrote, Synced}

abbrev pub write_of : WriteNoted → writes.Write
write_of (Wrote at bytes from to took) = writes.Wrote at (drop from (take to bytes.value.items)) took
write_of (Synced done) = writes.Synced done

-- the calls of the system that were made for a file, the newest first
abbrev pub writes_of : StdFile → List writes.Write
writes_of file = map write_of (states_of file.writes)
