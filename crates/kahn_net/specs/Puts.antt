-- What is on each channel once acts are made: the same acts as `sent_on`, seen from all channels at once.
use Rattle.std.specs.Prelude.{ℤ, List, [], ◌∷◌, ◌++◌, slice_set}
use Rattle.kahn_net.specs.Streams.{history_of}
use Rattle.kahn_net.specs.Statements.{Act, Got, Sent, Step}

-- after this act, where these histories were there before
abbrev pub put_by : Act → List (List ℤ) → List (List ℤ)
put_by (Got channel item) histories = histories
put_by (Sent channel item) histories = slice_set histories channel (history_of histories channel ++ item ∷ [])

-- after these steps
abbrev pub put_after : List Step → List (List ℤ) → List (List ℤ)
put_after [] histories = histories
put_after (step ∷ steps) histories = put_after steps (put_by step.act histories)
