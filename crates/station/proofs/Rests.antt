-- Which processes are at rest.
use Rattle.std.proofs.Common.{◌≡◌, ℕ, ◌<◌, ◌≤◌, Bool, true, List, ℤ, map, length, get_or, Option, Some, sym, ap, ◌∙◌}
use Rattle.std.specs.Prelude.{slice_get}
use Rattle.protocol.specs.Node.Common.{Code, Network, code_of, network_of, Standing, Channel, SavedProcessView}
use Rattle.protocol.specs.Node.Common.{ImageView}
use Rattle.kahn_net.specs.Laws.Valid.{code_at, code_past}
use Rattle.kahn_net.specs.Common.{next_of}
use Rattle.kahn_net.specs.declared.program.Program.{Program}
use Rattle.kahn_net.specs.declared.program.Process.{Process}
use Rattle.proc_step.specs.NextView.{next_view}
use Rattle.proc_step.specs.declared.next.NextAct.{NextAct}
use Rattle.protocol.specs.Node.Choosing.{next_at}
use Rattle.protocol.specs.World.Quiet.{has_got_all, can_rest, is_at_rest}
use Rattle.protocol.specs.World.Common.{StationView}

-- the code of a process, as it was looked up
pub code_found : (program : Program) (ps : List Process) (m n : ℕ) (p : Process) → ps ≡ program.processes.items → m ≡ n
    → m < length ps → p ≡ get_or ps m p
    → slice_get (network_of program).codes n ≡ Some (code_of p)
code_found program ps m n p are same within is =
    ap (slice_get (network_of program).codes) (sym same)
    ∙ (ap (λ (l : List Process). slice_get (map code_of l) m) (sym are) ∙ code_at ps m p within is)

-- a process is at rest where it can rest before its next act
pub rest_at : (program : Program) (inputs : List (List ℤ)) (stations : List StationView) (image : ImageView)
    (ps : List Process) (m number : ℕ) (p : Process) (standing : Standing) (saved : SavedProcessView)
    (next act : NextAct)
    → ps ≡ program.processes.items → m ≡ number → m < length ps → p ≡ get_or ps m p
    → next_view next ≡ next_of (code_of p) standing → next ≡ act
    → record { number = number; standing = standing } ≡ saved
    → can_rest (network_of program) inputs stations image (next_view act)
    ≡ is_at_rest (network_of program) inputs stations image saved
rest_at program inputs stations image ps m number p standing saved next act are same within there is here view =
    let found : slice_get (network_of program).codes number ≡ Some (code_of p) =
    code_found program ps m number p are same within there in
    ap (can_rest (network_of program) inputs stations image)
    (ap next_view (sym here) ∙ (is ∙ ap (λ (code : Option Code). next_at code standing) (sym found)))
    ∙ ap (is_at_rest (network_of program) inputs stations image) view

-- and so is one that the network doesn't have
pub rest_past : (program : Program) (inputs : List (List ℤ)) (stations : List StationView) (image : ImageView)
    (ps : List Process) (m number : ℕ) (standing : Standing) (saved : SavedProcessView)
    → ps ≡ program.processes.items → m ≡ number → length ps ≤ m
    → record { number = number; standing = standing } ≡ saved
    → true ≡ is_at_rest (network_of program) inputs stations image saved
rest_past program inputs stations image ps m number standing saved are same past view =
    let none =
    ap (slice_get (network_of program).codes) (sym same)
    ∙ (ap (λ (l : List Process). slice_get (map code_of l) m) (sym are) ∙ code_past ps m past) in
    ap (λ (there : Option Code). can_rest (network_of program) inputs stations image (next_at there standing))
    (sym none) ∙ ap (is_at_rest (network_of program) inputs stations image) view

-- each item of a channel of these was received
pub got_of : (channels : List Channel) (net : Network) (inputs : List (List ℤ)) (stations : List StationView)
    (image : ImageView) (channel : ℕ) (has : Bool)
    → has ≡ has_got_all net inputs stations image channel (slice_get channels channel) → channels ≡ net.channels
    → has ≡ has_got_all net inputs stations image channel (slice_get net.channels channel)
got_of channels net inputs stations image channel has is are =
    is ∙ ap (λ (l : List Channel). has_got_all net inputs stations image channel (slice_get l channel)) are
