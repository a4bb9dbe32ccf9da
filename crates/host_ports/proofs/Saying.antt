-- What was said stands in the log, and changes nothing of what came.
use Rattle.std.proofs.Common.{◌≡◌, ◌∙◌, ◌⊎◌, inl, inr, subst, List, ℕ, [], ◌∷◌, ◌++◌, Option, sym, append-nil}
use Rattle.std.proofs.Math.Logic.{∥∥₁_map}
use Rattle.std.specs.Prelude.{Ok, Err}
use Rattle.host.specs.Answers.{Answer}
use Rattle.host.specs.Requests.{Has, Request, Said}
use Rattle.host.specs.Sources.{said_bytes}
use Rattle.host.specs.declared.fault.HostFault.{HostFault}
use Rattle.host_ports.specs.Ports.{IsAskedOn, IsOfStreams, PortsStand}
use Rattle.host_ports.specs.declared.form.Form.{Form}
use Rattle.host_ports.specs.declared.port.Port.{Port}

-- all that waited was said, and nothing waits
pub said_all : (all text left : List ℕ) (e now : List Request) → now ≡ Said text (Ok tt) ∷ e → left ≡ []
    → all ≡ said_bytes e ++ text → all ≡ said_bytes now ++ left
said_all all text left e now asked none spoken =
    rw (asked, none) (spoken ∙ sym (append-nil (said_bytes e ++ text)))

-- what couldn't be said waits
pub said_nothing : (all text : List ℕ) (fault : HostFault) (said : List ℕ) (e now : List Request) → now ≡ Said said (Err fault) ∷ e
    → all ≡ said_bytes e ++ text → all ≡ said_bytes now ++ text
said_nothing all text fault said e now asked spoken = rw asked spoken

pub stand_said : {S : Type 0} (form : Form) (source_number : S → ℕ) (ports : List (Option (Port S))) (text : List ℕ) (answer : Answer)
    (e now : List Request) → now ≡ Said text answer ∷ e → PortsStand form source_number e ports → PortsStand form source_number now ports
stand_said {S} form source_number ports text answer e now asked stand =
    rw asked (λ input port here. let is = stand input port here in
    record { number = is.number; stands = record { ended = is.stands.ended; read = is.stands.read } })

-- one request more of streams was asked
pub asked_more : (first e now : List Request) (r : Request) → now ≡ r ∷ e → IsOfStreams r → ∥ IsAskedOn first e ∥₁ → ∥ IsAskedOn first now ∥₁
asked_more first e now r asked of_streams before =
    rw asked (∥∥₁_map before (λ were. record {
      later = λ one had. inr (were.later one had);
      only = λ one had. either one had were;
    }))
  where
    either : (one : Request) → (one ≡ r) ⊎ Has one e → IsAskedOn first e → Has one first ⊎ IsOfStreams one
    either one (inl is) were = inr (subst IsOfStreams (sym is) of_streams)
    either one (inr had) were = were.only one had
