use Rattle.std.proofs.Common.{◌≡◌, Bool, false}
use Rattle.std.specs.Prelude.{IsTrue}
use Rattle.run_files.specs.Rules.{Given, grown_from}
use Rattle.run_files.proofs.Left.{ok_as}
use Rattle.cobaltmidge.specs.Accepting.{AreTextsOf, HaveGrownFrom, IsAccepted}
use Rattle.cobaltmidge.specs.Texts.{IsNetOf}
use Rattle.cobaltmidge.proofs.OneMeaning.{accepted_beside, not_beside}
use Rattle.std.proofs.Common.{ℕ, List}
use Rattle.cobaltmidge.proofs.texts.AcceptedJudge.has_grown.Goals as goal

pub returns-clause-grown : goal.returns-clause-grown
returns-clause-grown c =
    let net = c.args.self.now.net.now in
    let inputs = c.args.self.now.inputs.now in
    let kept = c.args.kept.now.items in
    ok_as c.have_grown_from.result (λ (grown : Bool). IsTrue grown → HaveGrownFrom net inputs kept)
    (λ (grown : Bool). IsTrue grown → (given : Given) → AreTextsOf net inputs given → IsAccepted (grown_from kept given))
    (λ grown h is given are. accepted_beside _ _ given _ are (h is)) c.have_grown_from.ensures.grown

pub returns-clause-changed : goal.returns-clause-changed
returns-clause-changed c =
    let net = c.args.self.now.net.now in
    let inputs = c.args.self.now.inputs.now in
    let kept = c.args.kept.now.items in
    ok_as c.have_grown_from.result
    (λ (grown : Bool). grown ≡ false → (text : List ℕ) → IsNetOf text net → ¬ (HaveGrownFrom net inputs kept))
    (λ (grown : Bool). grown ≡ false → (given : Given) → AreTextsOf net inputs given → ¬ (IsAccepted (grown_from kept given)))
    (λ grown h is given are. not_beside _ _ given _ are (h is given.net are.of_net)) c.have_grown_from.ensures.changed
