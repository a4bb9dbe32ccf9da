-- The file into which what happens is written, before it has its name.
use Rattle.std.specs.Prelude.{◌≡◌, ℕ, List, Option, Some, None, Ok}
use Rattle.host.specs.Requests.{Request, MadeFile, OpenedDevice, Has}

-- it was made under another name, or it is a device of this name
abbrev pub IsOpenFor : List ℕ → Option (List ℕ) → List ℕ → List Request → Type 0
IsOpenFor path None at e = (at ≡ path) × Has (OpenedDevice path (Ok tt)) e
IsOpenFor path (Some made) at e = (at ≡ made) × Has (MadeFile made (Ok tt)) e
