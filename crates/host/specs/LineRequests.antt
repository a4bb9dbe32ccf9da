-- What a file of lines was asked since it was opened, the newest first.
use Rattle.std.specs.Prelude.{◌≡◌, ◌⊎◌, ℕ, ◌+◌, ◌==◌, ◌&&◌, ◌||◌, not, Bool, true, false, List, [], ◌∷◌, ◌++◌, length, take, drop}

-- these bytes were to be put from this offset on; or a sync: each with its answer
pub data Request : Type 0 where
  Put : (at : ℕ) (bytes : List ℕ) (done : Bool) → Request
  Synced : (done : Bool) → Request

-- the bytes of all puts, the first put's first
abbrev pub bytes_put : List Request → List ℕ
bytes_put [] = []
bytes_put (Put at bytes done ∷ earlier) = bytes_put earlier ++ bytes
bytes_put (Synced done ∷ earlier) = bytes_put earlier

-- a put failed
abbrev pub has_failed : List Request → Bool
has_failed [] = false
has_failed (Put at bytes done ∷ earlier) = not done || has_failed earlier
has_failed (Synced done ∷ earlier) = has_failed earlier

-- the first put begins at this offset, each further one where the one before it ends, and none comes behind a put that
-- failed
abbrev pub go_on_from : ℕ → List Request → Bool
go_on_from start [] = true
go_on_from start (Put at bytes done ∷ earlier) =
    (at == start + length (bytes_put earlier)) && not (has_failed earlier) && go_on_from start earlier
go_on_from start (Synced done ∷ earlier) = go_on_from start earlier

-- bytes in the place of those that stood there
abbrev pub with_bytes : List ℕ → ℕ → List ℕ → List ℕ
with_bytes content at bytes = take at content ++ bytes ++ drop (at + length bytes) content

-- what a file holds that held this content when it was opened, and did all that it was asked
abbrev pub content_after : List ℕ → List Request → List ℕ
content_after content [] = content
content_after content (Put at bytes done ∷ earlier) = with_bytes (content_after content earlier) at bytes
content_after content (Synced done ∷ earlier) = content_after content earlier

-- What a file may hold that held this content when it was opened, where the process was killed while it asked all that:
-- the newest requests may not have been made, and of the last put that was made a beginning may stand there alone.
abbrev pub MayBeLeft : List ℕ → List Request → List ℕ → Type 0
MayBeLeft content [] left = left ≡ content
MayBeLeft content (Put at bytes done ∷ earlier) left =
    MayBeLeft content earlier left
    ⊎ ((size : ℕ) × (left ≡ with_bytes (content_after content earlier) at (take size bytes)))
MayBeLeft content (Synced done ∷ earlier) left = MayBeLeft content earlier left
