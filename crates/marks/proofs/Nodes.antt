-- The nodes of a network, as they are counted and as seats are made for them.
use Rattle.std.proofs.Common.{◌≡◌, ℕ, zero, suc, ◌+◌, ◌-◌, ◌<◌, List, [], ◌∷◌, ◌++◌, map, length, get_or, sym, ap, ◌∙◌}
use Rattle.std.proofs.Common.{append_assoc, arith}
use Rattle.std.specs.Prelude.{slice_get, Option, Some}
use Rattle.std.specs.List.{All}
use Rattle.std.proofs.lemmas.List.{map-append}
use Rattle.kahn_net.specs.Common.{code_of, network_of, IsValid}
use Rattle.kahn_net.specs.declared.program.Process.{Process}
use Rattle.kahn_net.specs.declared.program.Program.{Program}
use Rattle.marks.specs.Owners.{nodes_from}

code_at : (processes : List Process) (p : ℕ) (process : Process) → p < length processes
    → process ≡ get_or processes p process
    → slice_get (map code_of processes) p ≡ Some (code_of process)
code_at [] p process inside is = absurd (omega arith)
code_at (first ∷ processes) zero process inside is = ap (λ (one : Process). Some (code_of one)) (sym is)
code_at (first ∷ processes) (suc p) process inside is = code_at processes p process (omega arith) is

-- the node of a process of a valid network
pub node_below_16 : (program : Program) (processes : List Process) (p : ℕ) (process : Process)
    → processes ≡ program.processes.items
    → IsValid (network_of program) → p < length processes → process ≡ get_or processes p process → process.node < 16
node_below_16 program processes p process same valid inside is =
    (valid.codes p (code_of process)
    (ap (λ (all : List Process). slice_get (map code_of all) p) (sym same)
    ∙ code_at processes p process inside is)).node

-- where a node has no seat yet, its seat is the next one
next_seat : (node nodes : ℕ) → node < nodes
    → nodes_from node (nodes - node) ≡ Some node ∷ nodes_from (node + 1) (nodes - (node + 1))
next_seat node nodes below =
    let next : suc node ≡ node + 1 = omega arith in
    let left : nodes - node ≡ suc (nodes - (node + 1)) = omega arith in
    ap (nodes_from node) left ∙ ap (λ (n : ℕ). Some node ∷ nodes_from n (nodes - (node + 1))) next

-- one seat more, that of the next node
pub one_seat_more : {A : Type 0} (node_of : A → Option ℕ) (before after : List A) (seat : A) (node nodes : ℕ)
    (all : List (Option ℕ))
    → after ≡ before ++ seat ∷ [] → node_of seat ≡ Some node → node < nodes
    → map node_of before ++ nodes_from node (nodes - node) ≡ all
    → map node_of after ++ nodes_from (node + 1) (nodes - (node + 1)) ≡ all
one_seat_more node_of before after seat node nodes all more is below made =
    let rest : List (Option ℕ) = nodes_from (node + 1) (nodes - (node + 1)) in
    ap (λ z. map node_of z ++ rest) more
    ∙ (ap (λ z. z ++ rest) (map-append node_of before (seat ∷ []))
    ∙ (append_assoc (map node_of before) (node_of seat ∷ []) rest
    ∙ (ap (λ (z : Option ℕ). map node_of before ++ z ∷ rest) is
    ∙ (ap (λ z. map node_of before ++ z) (sym (next_seat node nodes below)) ∙ made))))

-- what holds of each holds of each with one more
pub all_and_one : {A : Type 0} (P : A → Type 0) (before : List A) (one : A) → All P before → P one
    → All P (before ++ one ∷ [])
all_and_one P [] one all this zero other inside = this
all_and_one P [] one all this (suc k) other inside = absurd (omega arith)
all_and_one P (first ∷ before) one all this zero other inside = all 0 other (omega arith)
all_and_one P (first ∷ before) one all this (suc k) other inside =
    all_and_one P before one (λ j d within. all (suc j) d (omega arith)) this k other (omega arith)
