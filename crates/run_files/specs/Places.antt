-- Places of files, as bytes of a path.
use Rattle.std.specs.Prelude.{ℕ, Bool, true, false, ◌==◌, ◌&&◌, List, [], ◌∷◌}

-- nothing is left of a path, or a slash comes next
abbrev pub ends_or_slash : List ℕ → Bool
ends_or_slash [] = true
ends_or_slash (byte ∷ rest) = byte == 47

-- this place is the folder's own, or one in it
abbrev pub is_within : List ℕ → List ℕ → Bool
is_within [] place = ends_or_slash place
is_within (a ∷ folder) [] = false
is_within (a ∷ folder) (b ∷ place) = (a == b) && is_within folder place
