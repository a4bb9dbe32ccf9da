-- A call that is answered or refused.
use Rattle.std.specs.Prelude.{IfErr, IfOk, OnErr, Result, Ok, Err}

-- what a refusal says of what it leaves
pub refused_so : {A E : Type 0} {P : E → Type 0} {Q : Type 0} (result : Result A E) → ((e : E) → P e → Q) → IfErr result P → OnErr result Q
refused_so (Ok a) so refused = refused
refused_so (Err e) so refused = so e refused

-- what both an answer and a refusal say
pub either_so : {A E Same Q : Type 0} {P : A → Type 0} (result : Result A E) → ((a : A) → P a → Q) → (Same → Q) → IfOk result P
    → OnErr result Same → Q
either_so (Ok a) so held answered refused = so a answered
either_so (Err e) so held answered refused = held refused
