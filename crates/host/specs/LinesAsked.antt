-- What a file of lines was asked.
use Rattle.std.specs.Prelude.{List, map}
use Rattle.sector_disk.specs.Past.{states_of}
use Rattle.host.specs.LineRequests.{Request, Put as PutRequest, Synced as SyncRequest}
use Rattle.host.specs.declared.line_file.LinesAsked.{LinesAsked}
use Rattle.host.specs.declared.line_file.LineNoted.{LineNoted}
use Rattle.host.specs.declared.line_file.LineNoted.TheVariants.{Put, Synced}

abbrev pub request_of : LineNoted → Request
request_of (Put at bytes done) = PutRequest at bytes.value.items done
request_of (Synced done) = SyncRequest done

-- the requests, the newest first
abbrev pub requests_in : LinesAsked → List Request
requests_in asked = map request_of (states_of asked.past)
