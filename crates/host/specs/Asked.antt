-- What was noted of requests.
use Rattle.std.specs.Prelude.{List, map, string_bytes}
use Rattle.host.specs.Answers.{answered}
use Rattle.sector_disk.specs.Past.{states_of}
use Rattle.host.specs.LinesAsked.{requests_in as line_requests_in}
use Rattle.host.specs.Requests as requests
use Rattle.host.specs.declared.asked.Asked.{Asked}
use Rattle.host.specs.declared.asked.Noted.{Noted}
use Rattle.host.specs.declared.asked.Noted.TheVariants.{Read, Looked, Placed, MadeFile, MadeFolder, OpenedDevice, Wrote, Synced, Renamed, RemovedFile}
use Rattle.host.specs.declared.asked.Noted.TheVariants.{RemovedFolder, Locked, Unlocked, Opened, Cut, Used, Said, Told, OpenedSource, Took}

abbrev pub request_of : Noted → requests.Request
request_of (Read path answer) = requests.Read (string_bytes path.value) (answered (λ bytes. bytes.items) answer.value)
request_of (Looked path answer) = requests.Looked (string_bytes path.value) answer
request_of (Placed path answer) = requests.Placed (string_bytes path.value) (answered string_bytes answer.value)
request_of (MadeFile path answer) = requests.MadeFile (string_bytes path.value) answer
request_of (MadeFolder path answer) = requests.MadeFolder (string_bytes path.value) answer
request_of (OpenedDevice path answer) = requests.OpenedDevice (string_bytes path.value) answer
request_of (Wrote path bytes answer) = requests.Wrote (string_bytes path.value) bytes.value.items answer
request_of (Synced path answer) = requests.Synced (string_bytes path.value) answer
request_of (Renamed from to answer) = requests.Renamed (string_bytes from.value) (string_bytes to.value) answer
request_of (RemovedFile path answer) = requests.RemovedFile (string_bytes path.value) answer
request_of (RemovedFolder path answer) = requests.RemovedFolder (string_bytes path.value) answer
request_of (Locked folder answer) = requests.Locked (string_bytes folder.value) answer
request_of (Unlocked folder) = requests.Unlocked (string_bytes folder.value)
request_of (Opened folder name waits answer) =
    requests.Opened (string_bytes folder.value) (string_bytes name.value) waits (answered (λ bytes. bytes.value.items) answer)
request_of (Cut name len answer) = requests.Cut (string_bytes name.value) len answer
request_of (Used name asked) = requests.Used (string_bytes name.value) (line_requests_in asked.value)
request_of (Said bytes answer) = requests.Said bytes.value.items answer
request_of (Told bytes answer) = requests.Told bytes.value.items answer
request_of (OpenedSource number path answer) = requests.OpenedSource number (string_bytes path.value) answer
request_of (Took number answer) = requests.Took number (answered (λ bytes. bytes.value.items) answer)

-- the requests, the newest first
abbrev pub requests_in : Asked → List requests.Request
requests_in asked = map request_of (states_of asked.past)
