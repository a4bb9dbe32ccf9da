-- What came of the sources of a host, and what it said. A log has the newest request first.
use Rattle.std.specs.Prelude.{◌==◌, ◌&&◌, ◌||◌, ℕ, Bool, false, if◌then◌else◌, List, [], ◌∷◌, ◌++◌, length, Ok, Err}
use Rattle.host.specs.Requests.{Request, Read, Looked, Placed, MadeFile, MadeFolder, OpenedDevice, Wrote, Synced, Renamed, RemovedFile, RemovedFolder}
use Rattle.host.specs.Requests.{Locked, Unlocked, Opened, Cut, Used, Said, Told, OpenedSource, Took}

-- all bytes that were taken of the source of this number, the first ones first
abbrev pub taken_from : ℕ → List Request → List ℕ
taken_from number [] = []
taken_from number (Took other (Ok bytes) ∷ earlier) =
    if number == other then taken_from number earlier ++ bytes else taken_from number earlier
taken_from number (Took other (Err fault) ∷ earlier) = taken_from number earlier
taken_from number (Read path answer ∷ earlier) = taken_from number earlier
taken_from number (Looked path answer ∷ earlier) = taken_from number earlier
taken_from number (Placed path answer ∷ earlier) = taken_from number earlier
taken_from number (MadeFile path answer ∷ earlier) = taken_from number earlier
taken_from number (MadeFolder path answer ∷ earlier) = taken_from number earlier
taken_from number (OpenedDevice path answer ∷ earlier) = taken_from number earlier
taken_from number (Wrote path bytes answer ∷ earlier) = taken_from number earlier
taken_from number (Synced path answer ∷ earlier) = taken_from number earlier
taken_from number (Renamed from to answer ∷ earlier) = taken_from number earlier
taken_from number (RemovedFile path answer ∷ earlier) = taken_from number earlier
taken_from number (RemovedFolder path answer ∷ earlier) = taken_from number earlier
taken_from number (Locked folder answer ∷ earlier) = taken_from number earlier
taken_from number (Unlocked folder ∷ earlier) = taken_from number earlier
taken_from number (Opened folder name waits answer ∷ earlier) = taken_from number earlier
taken_from number (Cut name len answer ∷ earlier) = taken_from number earlier
taken_from number (Used name asked ∷ earlier) = taken_from number earlier
taken_from number (Said bytes answer ∷ earlier) = taken_from number earlier
taken_from number (Told bytes answer ∷ earlier) = taken_from number earlier
taken_from number (OpenedSource other path answer ∷ earlier) = taken_from number earlier

-- the source of this number came to its end: once it gave nothing
abbrev pub has_ended : ℕ → List Request → Bool
has_ended number [] = false
has_ended number (Took other (Ok bytes) ∷ earlier) = ((number == other) && (length bytes == 0)) || has_ended number earlier
has_ended number (Took other (Err fault) ∷ earlier) = has_ended number earlier
has_ended number (Read path answer ∷ earlier) = has_ended number earlier
has_ended number (Looked path answer ∷ earlier) = has_ended number earlier
has_ended number (Placed path answer ∷ earlier) = has_ended number earlier
has_ended number (MadeFile path answer ∷ earlier) = has_ended number earlier
has_ended number (MadeFolder path answer ∷ earlier) = has_ended number earlier
has_ended number (OpenedDevice path answer ∷ earlier) = has_ended number earlier
has_ended number (Wrote path bytes answer ∷ earlier) = has_ended number earlier
has_ended number (Synced path answer ∷ earlier) = has_ended number earlier
has_ended number (Renamed from to answer ∷ earlier) = has_ended number earlier
has_ended number (RemovedFile path answer ∷ earlier) = has_ended number earlier
has_ended number (RemovedFolder path answer ∷ earlier) = has_ended number earlier
has_ended number (Locked folder answer ∷ earlier) = has_ended number earlier
has_ended number (Unlocked folder ∷ earlier) = has_ended number earlier
has_ended number (Opened folder name waits answer ∷ earlier) = has_ended number earlier
has_ended number (Cut name len answer ∷ earlier) = has_ended number earlier
has_ended number (Used name asked ∷ earlier) = has_ended number earlier
has_ended number (Said bytes answer ∷ earlier) = has_ended number earlier
has_ended number (Told bytes answer ∷ earlier) = has_ended number earlier
has_ended number (OpenedSource other path answer ∷ earlier) = has_ended number earlier

-- all bytes that were said, the first ones first
abbrev pub said_bytes : List Request → List ℕ
said_bytes [] = []
said_bytes (Said bytes (Ok done) ∷ earlier) = said_bytes earlier ++ bytes
said_bytes (Said bytes (Err fault) ∷ earlier) = said_bytes earlier
said_bytes (Read path answer ∷ earlier) = said_bytes earlier
said_bytes (Looked path answer ∷ earlier) = said_bytes earlier
said_bytes (Placed path answer ∷ earlier) = said_bytes earlier
said_bytes (MadeFile path answer ∷ earlier) = said_bytes earlier
said_bytes (MadeFolder path answer ∷ earlier) = said_bytes earlier
said_bytes (OpenedDevice path answer ∷ earlier) = said_bytes earlier
said_bytes (Wrote path bytes answer ∷ earlier) = said_bytes earlier
said_bytes (Synced path answer ∷ earlier) = said_bytes earlier
said_bytes (Renamed from to answer ∷ earlier) = said_bytes earlier
said_bytes (RemovedFile path answer ∷ earlier) = said_bytes earlier
said_bytes (RemovedFolder path answer ∷ earlier) = said_bytes earlier
said_bytes (Locked folder answer ∷ earlier) = said_bytes earlier
said_bytes (Unlocked folder ∷ earlier) = said_bytes earlier
said_bytes (Opened folder name waits answer ∷ earlier) = said_bytes earlier
said_bytes (Cut name len answer ∷ earlier) = said_bytes earlier
said_bytes (Used name asked ∷ earlier) = said_bytes earlier
said_bytes (Told bytes answer ∷ earlier) = said_bytes earlier
said_bytes (OpenedSource other path answer ∷ earlier) = said_bytes earlier
said_bytes (Took other answer ∷ earlier) = said_bytes earlier
