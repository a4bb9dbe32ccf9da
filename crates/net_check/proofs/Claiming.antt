-- Ends of channels that processes take, one after another.
use Rattle.std.proofs.Common.{◌≡◌, ◌≢◌, ℕ, zero, suc, ◌<◌, List, [], ◌∷◌, length, get_or, set, Some, refl, sym, ap, ◌∙◌}
use Rattle.std.proofs.Common.{subst, arith, slice_get, inl, eqb, IsTrue}
use Rattle.std.proofs.lemmas.Bool.{false≢true}
use Rattle.std.proofs.lemmas.Option.{slice_get-get_or}
use Rattle.std.proofs.lemmas.Bool.{eq-eqb}
use Rattle.std.proofs.lemmas.Bool.Decides.{nat_tests}
use Rattle.net_text.specs.Names.{NameTree}
use Rattle.net_text.specs.declared.tree.ChannelText.{ChannelText}
use Rattle.net_text.specs.declared.tree.Role.{Role}
use Rattle.kahn_net.specs.declared.program.Port.{Port}
use Rattle.kahn_net.specs.declared.program.Port.TheVariants.{Process}
use Rattle.net_check.specs.Claims.{IsTaken, Takes, Claims, IsRefused, stands_outside, is_taken, IsUnknown}
use Rattle.net_check.specs.Uses.{Use}
use Rattle.net_check.specs.NetFaults.{space_of, name_of}
use Rattle.net_check.specs.Resolution.{Reads, channel_names}
use Rattle.net_check.proofs.Places.{same_got, reads_from}

length-set_port : (ports : List Port) (c : ℕ) (port : Port) → length (set ports c port) ≡ length ports
length-set_port [] c port = refl
length-set_port (x ∷ xs) zero port = refl
length-set_port (x ∷ xs) (suc c) port = ap suc (length-set_port xs c port)

set_here : (ports : List Port) (c : ℕ) (port : Port) → c < length ports → slice_get (set ports c port) c ≡ Some port
set_here [] c port lt = absurd (omega arith)
set_here (x ∷ xs) zero port lt = refl
set_here (x ∷ xs) (suc c) port lt = set_here xs c port (omega arith)

set_there : (ports : List Port) (c d : ℕ) (port : Port) → (c ≡ d → ⊥)
    → slice_get (set ports c port) d ≡ slice_get ports d
set_there [] c d port other = refl
set_there (x ∷ xs) zero zero port other = absurd (other refl)
set_there (x ∷ xs) zero (suc d) port other = refl
set_there (x ∷ xs) (suc c) zero port other = refl
set_there (x ∷ xs) (suc c) (suc d) port other = set_there xs c d port (λ e. other (ap suc e))

is_eq : (c d : ℕ) → IsTrue (eqb c d) → c ≡ d
is_eq c d h = grind (arith, nat_tests)

pub claims_one : (channels : List ChannelText) (role : Role) (p c : ℕ) (channel : ChannelText) (old new : List Port)
    → c < length old → slice_get channels c ≡ Some channel → channel.role ≢ role → Takes p c old new
    → Claims channels role p (λ d. eqb c d) old new
claims_one channels role p c channel old new lt here other t = record {
  count = ap length t.after ∙ length-set_port old c (Process p);
  claimed = λ d h. let e : c ≡ d = is_eq c d h in
      subst (λ (k : ℕ). slice_get new k ≡ Some (Process p)) e
      (ap (λ (xs : List Port). slice_get xs c) t.after ∙ set_here old c (Process p) lt);
  kept = λ d h. ap (λ (xs : List Port). slice_get xs d) t.after
      ∙ set_there old c d (Process p) (λ e. false≢true (sym h ∙ eq-eqb c d e));
  free = λ d port h g. let e : c ≡ d = is_eq c d h in
      t.free port (subst (λ (k : ℕ). slice_get old k ≡ Some port) (sym e) g);
  allowed = λ d other_channel h g e. let k : c ≡ d = is_eq c d h in
      other (ap (λ (x : ChannelText). x.role)
      (same_got channels c channel other_channel here
      (subst (λ (m : ℕ). slice_get channels m ≡ Some other_channel) (sym k) g)) ∙ e);
}

pub reads_same : (names : List NameTree) (i : ℕ) (t u : List ℕ) → Reads names i t → Reads names i u → t ≡ u
reads_same names i t u h k = let e : Some t ≡ Some u = sym h ∙ k in cc

pub refused_outside : (channels : List ChannelText) (role : Role) (use' : NameTree → Use) (p : ℕ) (ports : List Port)
    (name : NameTree) (c : ℕ) (d : ChannelText) (line : ℕ)
    → c < length channels → Reads (channel_names channels) c name.text → (get_or channels c d).role ≡ role
    → name.line ≡ line → IsRefused channels role use' p ports (use' name ∷ []) line
refused_outside channels role use' p ports name c d line lt reads is at =
    let here = slice_get-get_or channels c d lt in
    stands_outside name c (get_or channels c d) (inl refl) at here
    (reads_same (channel_names channels) c _ name.text
    (reads_from (λ (x : ChannelText). x.name) channels c (get_or channels c d) here) reads) is

pub refused_taken : (channels : List ChannelText) (role : Role) (use' : NameTree → Use) (p : ℕ) (ports : List Port)
    (name : NameTree) (c : ℕ) (line : ℕ)
    → Reads (channel_names channels) c name.text → IsTaken p c ports → name.line ≡ line
    → IsRefused channels role use' p ports (use' name ∷ []) line
refused_taken channels role use' p ports name c line reads taken at = is_taken name c (inl refl) at reads taken

pub unknown_one : (channels variables : List NameTree) (u : Use) (line : ℕ)
    → ((i : ℕ) → Reads (space_of channels variables u) i (name_of u).text → ⊥) → (name_of u).line ≡ line
    → IsUnknown channels variables (u ∷ []) line
unknown_one channels variables u line none at = record { use' = u; used = inl refl; undeclared = none; at = at }

pub claims_at : (channels : List ChannelText) (role : Role) (p c : ℕ) (d : ChannelText) (old new : List Port)
    → length old ≡ length channels → c < length channels → ((get_or channels c d).role ≡ role → ⊥) → Takes p c old new
    → Claims channels role p (λ k. eqb c k) old new
claims_at channels role p c d old new n lt other t =
    claims_one channels role p c (get_or channels c d) old new (omega arith) (slice_get-get_or channels c d lt) other t
