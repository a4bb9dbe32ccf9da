-- Which process goes on next.
use Rattle.std.proofs.Common.{◌≡◌, ℕ, suc, ◌<◌, ◌≤◌, Bool, true, false, ◌&&◌, List, ℤ, [], ◌∷◌, map, length, get_or, Option}
use Rattle.std.proofs.Common.{Some, None, refl, sym, ap, subst, ◌∙◌, Bor, drop, option_map, arith}
use Rattle.std.specs.Prelude.{◌==◌, slice_get, find, cond, IfSome, option_copied}
use Rattle.std.proofs.lemmas.Option.{slice_get_within}
use Rattle.std.proofs.lemmas.List.{length-map}
use Rattle.protocol.specs.Node.Common.{Code, Network, code_of, network_of, Standing, IsValid, Channel}
use Rattle.protocol.specs.Node.Common.{SavedProcessView, ImageView}
use Rattle.kahn_net.specs.Laws.Valid.{code_at, code_past}
use Rattle.kahn_net.specs.Common.{next_of}
use Rattle.ckpt_codec.specs.Common.{MAX_PROCESSES}
use Rattle.kahn_net.specs.declared.program.Program.{Program}
use Rattle.kahn_net.specs.declared.program.Process.{Process}
use Rattle.proc_step.specs.NextView.{next_view}
use Rattle.proc_step.specs.declared.next.NextAct.{NextAct}
use Rattle.protocol.specs.declared.links.Inbox.{Inbox}
use Rattle.turns.specs.Turns.{least_from}
use Rattle.protocol.specs.Node.Choosing.{has_item, has_room, can_go, next_at, is_ready, ready_process, ready_processes}
use Rattle.protocol.specs.Node.Choosing.{process_at, job_of, job_up_to, may_grant, next_process}
use Rattle.protocol.specs.Node.Common.{RunningNode}
use Rattle.protocol.specs.Node.Granting.{job_for}
use Rattle.node_memory.specs.AtHand.{StandsIn}
use Rattle.node_memory.proofs.Searching.{IsSearched, all_searched}

-- the code of a process, as it was looked up
pub code_found : (program : Program) (ps : List Process) (m n : ℕ) (p : Process) → ps ≡ program.processes.items → m ≡ n
    → m < length ps → p ≡ get_or ps m p
    → slice_get (network_of program).codes n ≡ Some (code_of p)
code_found program ps m n p are same within is =
    ap (slice_get (network_of program).codes) (sym same)
    ∙ (ap (λ (l : List Process). slice_get (map code_of l) m) (sym are) ∙ code_at ps m p within is)

pub code_not_found : (program : Program) (ps : List Process) (m n : ℕ) → ps ≡ program.processes.items → m ≡ n
    → length ps ≤ m
    → slice_get (network_of program).codes n ≡ None
code_not_found program ps m n are same past =
    ap (slice_get (network_of program).codes) (sym same)
    ∙ (ap (λ (l : List Process). slice_get (map code_of l) m) (sym are) ∙ code_past ps m past)

-- a process is ready where its next act can be done
pub ready_at : (program : Program) (inputs : List (List ℤ)) (share : ℕ → ℕ) (image : ImageView) (inboxes : List Inbox)
    (ps : List Process) (m number : ℕ) (p : Process) (standing : Standing) (saved : SavedProcessView)
    (next act : NextAct)
    → ps ≡ program.processes.items → m ≡ number → m < length ps → p ≡ get_or ps m p
    → next_view next ≡ next_of (code_of p) standing → next ≡ act
    → record { number = number; standing = standing } ≡ saved
    → can_go (network_of program) inputs share image inboxes (next_view act)
    ≡ is_ready (network_of program) inputs share image inboxes saved
ready_at program inputs share image inboxes ps m number p standing saved next act are same within there is here view =
    let found : slice_get (network_of program).codes number ≡ Some (code_of p) =
    code_found program ps m number p are same within there in
    ap (can_go (network_of program) inputs share image inboxes)
    (ap next_view (sym here) ∙ (is ∙ ap (λ (code : Option Code). next_at code standing) (sym found)))
    ∙ ap (is_ready (network_of program) inputs share image inboxes) view

-- a process that the network doesn't have is not
pub not_ready : (net : Network) (inputs : List (List ℤ)) (share : ℕ → ℕ) (image : ImageView) (inboxes : List Inbox)
    (number : ℕ)
    (standing : Standing) (saved : SavedProcessView)
    → slice_get net.codes number ≡ None → record { number = number; standing = standing } ≡ saved
    → false ≡ is_ready net inputs share image inboxes saved
not_ready net inputs share image inboxes number standing saved found view =
    ap (λ (there : Option Code). can_go net inputs share image inboxes (next_at there standing)) (sym found)
    ∙ ap (is_ready net inputs share image inboxes) view

-- an item is at hand, or room, on a channel of these
pub item_on : (channels : List Channel) (net : Network) (inputs : List (List ℤ)) (image : ImageView)
    (inboxes : List Inbox) (channel : ℕ) (has : Bool)
    → has ≡ has_item inputs image inboxes channel (slice_get channels channel) → channels ≡ net.channels
    → has ≡ has_item inputs image inboxes channel (slice_get net.channels channel)
item_on channels net inputs image inboxes channel has is are =
    is ∙ ap (λ (l : List Channel). has_item inputs image inboxes channel (slice_get l channel)) are

pub room_on : (channels : List Channel) (net : Network) (share : ℕ → ℕ) (image : ImageView) (channel : ℕ) (has : Bool)
    → has ≡ has_room share image channel (slice_get channels channel) → channels ≡ net.channels
    → has ≡ has_room share image channel (slice_get net.channels channel)
room_on channels net share image channel has is are =
    is ∙ ap (λ (l : List Channel). has_room share image channel (slice_get l channel)) are

-- what is found passes the test
here_or_later : {A : Type 0} (p : A → Bool) (x y : A) (later : Option A) (b : Bool) → p y ≡ b
    → cond b (Some y) later ≡ Some x → (later ≡ Some x → p x ≡ true) → p x ≡ true
here_or_later p x y later true passes is then = let same : y ≡ x = cc in ap p (sym same) ∙ passes
here_or_later p x y later false passes is then = then is

found_passes : {A : Type 0} (p : A → Bool) (xs : List A) (x : A) → find p xs ≡ Some x → p x ≡ true
found_passes p [] x is = absurd (cc)
found_passes p (y ∷ xs) x is = here_or_later p x y (find p xs) (p y) refl is (found_passes p xs x)

second_too : (a b : Bool) → (a && b) ≡ true → b ≡ true
second_too true b both = both
second_too false b both = absurd (cc)

code_there : (net : Network) (inputs : List (List ℤ)) (share : ℕ → ℕ) (image : ImageView) (inboxes : List Inbox)
    (number : ℕ)
    (standing : Standing) (code : Option Code)
    → slice_get net.codes number ≡ code → can_go net inputs share image inboxes (next_at code standing) ≡ true
    → number < length net.codes
code_there net inputs share image inboxes number standing None is goes = absurd (cc)
code_there net inputs share image inboxes number standing (Some code) is goes =
    slice_get_within net.codes number code is

-- there are few of them
pub few_processes : (program : Program) → IsValid (network_of program) → length program.processes.items ≤ MAX_PROCESSES
few_processes program valid =
    subst (λ (n : ℕ). n ≤ MAX_PROCESSES) (length-map program.processes.items code_of) valid.process_count

-- a process that is ready is one of the network's
pub goes_there : (program : Program) (inputs : List (List ℤ)) (share : ℕ → ℕ) (image : ImageView) (inboxes : List Inbox)
    (saved : SavedProcessView)
    → is_ready (network_of program) inputs share image inboxes saved ≡ true
    → saved.number < length program.processes.items
goes_there program inputs share image inboxes saved goes =
    let net = network_of program in
    subst (λ (n : ℕ). saved.number < n) (length-map program.processes.items code_of)
    (code_there net inputs share image inboxes saved.number saved.standing _ refl goes)

-- and so is one that is found ready
pub ready_there : (program : Program) (inputs : List (List ℤ)) (share : ℕ → ℕ) (image : ImageView) (inboxes : List Inbox)
    (number : ℕ)
    (saved : SavedProcessView)
    → ready_process (network_of program) inputs share image inboxes number ≡ Some saved
    → saved.number < length program.processes.items
ready_there program inputs share image inboxes number saved is =
    let net = network_of program in
    let test : SavedProcessView → Bool = λ one. (one.number == number) && is_ready net inputs share image inboxes one in
    goes_there program inputs share image inboxes saved
    (second_too (saved.number == number) (is_ready net inputs share image inboxes saved)
    (found_passes test image.processes saved is))

-- the process that is chosen is one of the network's
pub chosen_there : (program : Program) (inputs : List (List ℤ)) (share : ℕ → ℕ) (image : ImageView) (inboxes : List Inbox)
    (number : Option ℕ) (found : Option (Bor SavedProcessView))
    → option_copied found ≡ process_at (network_of program) inputs share image inboxes number
    → IfSome found (λ saved. saved.now.number < length program.processes.items)
chosen_there program inputs share image inboxes number None is = tt
chosen_there program inputs share image inboxes None (Some saved) is = absurd (cc)
chosen_there program inputs share image inboxes (Some number) (Some saved) is =
    ready_there program inputs share image inboxes number saved.now (sym is)

-- what is found stands at some place
at_place : {A : Type 0} (y x : A) (ys : List A) (later : Option A) (b : Bool) → cond b (Some y) later ≡ Some x
    → (later ≡ Some x → (k : ℕ) × (slice_get ys k ≡ Some x)) → (k : ℕ) × (slice_get (y ∷ ys) k ≡ Some x)
at_place y x ys later true is there = (0, is)
at_place y x ys later false is there = let found = there is in (suc found.0, found.1)

place_found : {A : Type 0} (p : A → Bool) (xs : List A) (x : A) → find p xs ≡ Some x
    → (k : ℕ) × (slice_get xs k ≡ Some x)
place_found p [] x is = absurd (cc)
place_found p (y ∷ xs) x is = at_place y x xs (find p xs) (p y) is (place_found p xs x)

-- the process that is chosen stands in the image
pub chosen_place : (net : Network) (inputs : List (List ℤ)) (share : ℕ → ℕ) (image : ImageView) (inboxes : List Inbox)
    (number : Option ℕ) (found : Option (Bor SavedProcessView))
    → option_copied found ≡ process_at net inputs share image inboxes number
    → IfSome found (λ saved. StandsIn image saved.now)
chosen_place net inputs share image inboxes number None is = tt
chosen_place net inputs share image inboxes None (Some saved) is = absurd (cc)
chosen_place net inputs share image inboxes (Some number) (Some saved) is =
    place_found (λ (one : SavedProcessView). (one.number == number) && is_ready net inputs share image inboxes one)
    image.processes saved.now (sym is)

-- the job of the process that is chosen is the node's next one
job_if : (net : Network) (inputs : List (List ℤ)) (share : ℕ → ℕ) (node : RunningNode) (saved : SavedProcessView)
    (chosen : Option SavedProcessView) (may : Bool) → Some saved ≡ cond may chosen None
    → job_of net inputs share node (Some saved) ≡ cond may (job_of net inputs share node chosen) None
job_if net inputs share node saved chosen true is = ap (job_of net inputs share node) is
job_if net inputs share node saved chosen false is = absurd (cc)

pub job_chosen : (net : Network) (inputs : List (List ℤ)) (share : ℕ → ℕ) (node : RunningNode) (saved : SavedProcessView)
    → Some saved ≡ cond (may_grant node) (next_process net inputs share node.current node.inboxes node.last) None
    → Some (job_for share net inputs node.current node.inboxes saved.number saved.standing node.version)
    ≡ job_up_to net inputs share node
job_chosen net inputs share node saved is =
    job_if net inputs share node saved (next_process net inputs share node.current node.inboxes node.last) (may_grant node) is

-- all were looked at, of those of an image
module _ (program : Program) (inputs : List (List ℤ)) (share : ℕ → ℕ) (image : ImageView) (inboxes : List Inbox)
    (items : List SavedProcessView) (i start : ℕ) (are : items ≡ image.processes) (end : length items ≤ i) where
  found_there : (found : Option SavedProcessView)
      → IsSearched (is_ready (network_of program) inputs share image inboxes) items (drop i items) start found
      → IfSome found (λ saved. saved.number < length (network_of program).codes)
  found_there None s = tt
  found_there (Some saved) s =
      let test : SavedProcessView → Bool =
      λ one. (one.number == saved.number) && is_ready (network_of program) inputs share image inboxes one in
      let whole = length-map program.processes.items code_of in
      let there =
      ready_there program inputs share image inboxes saved.number saved (ap (find test) (sym are) ∙ s.chosen.1) in
      omega (arith, there, whole)

  pub least_found : (found : Option SavedProcessView)
      → IsSearched (is_ready (network_of program) inputs share image inboxes) items (drop i items) start found
      → option_map (λ saved. saved.number) found
      ≡ least_from start (ready_processes (network_of program) inputs share image inboxes)
  unfolding ready_processes
  least_found found s =
      all_searched (is_ready (network_of program) inputs share image inboxes) items i
      (length (network_of program).codes)
      start found end (found_there found s) s
      ∙ ap (λ (all : List SavedProcessView). least_from start
      (ready_processes (network_of program) inputs share (record { processes = all; ends = image.ends }) inboxes)) are

  pub process_found : (found : Option SavedProcessView)
      → IsSearched (is_ready (network_of program) inputs share image inboxes) items (drop i items) start found
      → found ≡ process_at (network_of program) inputs share image inboxes
      (least_from start (ready_processes (network_of program) inputs share image inboxes))
  process_found found s =
      own found s ∙ ap (process_at (network_of program) inputs share image inboxes) (least_found found s)
    where
      own : (o : Option SavedProcessView)
          → IsSearched (is_ready (network_of program) inputs share image inboxes) items (drop i items) start o
          → o ≡ process_at (network_of program) inputs share image inboxes (option_map (λ saved. saved.number) o)
      own None s = refl
      own (Some saved) s =
          let test : SavedProcessView → Bool =
          λ one. (one.number == saved.number) && is_ready (network_of program) inputs share image inboxes one in
          sym (ap (find test) (sym are) ∙ s.chosen.1)
