use Rattle.std.proofs.Common.{inl, inr, refl}
use Rattle.std.proofs.lemmas.Result.{err_from_is_err_and}
use Rattle.run_files.proofs.Going.{under_as}
use Rattle.run_files.proofs.folder.compare.Goals as goal

pub returns-in_err-bytes-clause-cause : goal.returns-in_err-bytes-clause-cause
returns-in_err-bytes-clause-cause g c =
    let p = err_from_is_err_and c.from_residual.result c.from_residual.ensures.1 in rw (p.1, p.2) (inl c.in_err-bytes.ensures.cause)

pub returns-then-is_same-clause-same : goal.returns-then-is_same-clause-same
returns-then-is_same-clause-same g c =
    under_as _ _ _ _ _ _ refl (c.is_same.ensures.same c.if-is_same.true) c.in_ok-bytes.ensures.read

pub returns-clause-cause : goal.returns-clause-cause
returns-clause-cause g c = inr (c.differs.ensures, (_, c.in_ok-bytes.ensures.has, c.is_same.ensures.other c.if-is_same.false))
