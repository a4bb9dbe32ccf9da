use Rattle.std.proofs.Common.{sym, subst, ◌∷◌, map}
use Rattle.fail_script.specs.Reading.{IsLineRead}
use Rattle.fail_script.proofs.LineLaws.{none_by_form, none_by_act, some_line}
use Rattle.fail_script.proofs.reading.line_with.Goals as goal

pub returns-in_err-form : goal.returns-in_err-form
returns-in_err-form c =
    subst (λ r. IsLineRead (c.args.round.now ∷ map (λ w. w.now) c.args.others.now) r)
    (sym c.from_residual-in_err-form.ensures)
    (none_by_form c.args.round.now (map (λ w. w.now) c.args.others.now) (c.in_err-form.ensures))

pub returns-in_err-act : goal.returns-in_err-act
returns-in_err-act c =
    subst (λ r. IsLineRead (c.args.round.now ∷ map (λ w. w.now) c.args.others.now) r)
    (sym c.from_residual-in_err-act.ensures)
    (none_by_act c.args.round.now (map (λ w. w.now) c.args.others.now) c.in_ok-form.form c.in_ok-form.ensures
    (sym c.in_err-act.ensures))

pub returns : goal.returns
returns c =
    some_line c.args.round.now (map (λ w. w.now) c.args.others.now) c.in_ok-form.form
    (record { round = c.in_ok-round.round; act = c.in_ok-act.act })
    (sym c.in_ok-round.ensures) c.in_ok-form.ensures (sym c.in_ok-act.ensures)
