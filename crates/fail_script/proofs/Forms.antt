-- Words have one form at most, and those of a line have its own.
use Rattle.std.proofs.Common.{◌≡◌, ◌≢◌, ℕ, List, get_or}
use Rattle.std.proofs.Common.{refl, ap, arith, sym, ◌∙◌, Option, Some, None}
use Rattle.fail_script.specs.declared.words.Form.{Form}
use Rattle.fail_script.specs.declared.words.Form.TheVariants as form
use Rattle.fail_script.specs.Reading.{has_form, word}

abbrev pub inside : {A : Type 0} → A → Option A → A
inside other None = other
inside other (Some x) = x

differ : {X : Type 0} {o : Option X} {a b : X} → o ≡ Some a → o ≡ Some b → a ≢ b → ⊥
differ {X} {o} {a} {b} x y apart = apart (ap (inside a) (sym x ∙ y))

abbrev third : List ℕ → ℕ
third word = get_or word 2 0

pub same_form : (f g : Form) (words : List (List ℕ)) → has_form f words → has_form g words → f ≡ g
same_form form.Lose form.Lose words x y = refl
same_form form.Lose form.Repeat words x y = absurd (differ x.1 y.1 (λ e. absurd (omega (arith, ap third e))))
same_form form.Lose form.Delay words x y = absurd (omega (arith, x.0, y.0))
same_form form.Lose form.Crash words x y = absurd (omega (arith, x.0, y.0))
same_form form.Lose form.CrashAtDelivery words x y = absurd (omega (arith, x.0, y.0))
same_form form.Lose form.StopAtCall words x y = absurd (omega (arith, x.0, y.0))
same_form form.Lose form.FailCall words x y = absurd (differ x.1 y.1 (λ e. absurd (omega (arith, ap third e))))
same_form form.Lose form.Start words x y = absurd (omega (arith, x.0, y.0))
same_form form.Repeat form.Lose words x y = absurd (differ x.1 y.1 (λ e. absurd (omega (arith, ap third e))))
same_form form.Repeat form.Repeat words x y = refl
same_form form.Repeat form.Delay words x y = absurd (omega (arith, x.0, y.0))
same_form form.Repeat form.Crash words x y = absurd (omega (arith, x.0, y.0))
same_form form.Repeat form.CrashAtDelivery words x y = absurd (omega (arith, x.0, y.0))
same_form form.Repeat form.StopAtCall words x y = absurd (omega (arith, x.0, y.0))
same_form form.Repeat form.FailCall words x y = absurd (differ x.1 y.1 (λ e. absurd (omega (arith, ap third e))))
same_form form.Repeat form.Start words x y = absurd (omega (arith, x.0, y.0))
same_form form.Delay form.Lose words x y = absurd (omega (arith, x.0, y.0))
same_form form.Delay form.Repeat words x y = absurd (omega (arith, x.0, y.0))
same_form form.Delay form.Delay words x y = refl
same_form form.Delay form.Crash words x y = absurd (differ x.1 y.1 (λ e. absurd (omega (arith, ap third e))))
same_form form.Delay form.CrashAtDelivery words x y = absurd (omega (arith, x.0, y.0))
same_form form.Delay form.StopAtCall words x y = absurd (omega (arith, x.0, y.0))
same_form form.Delay form.FailCall words x y = absurd (omega (arith, x.0, y.0))
same_form form.Delay form.Start words x y = absurd (omega (arith, x.0, y.0))
same_form form.Crash form.Lose words x y = absurd (omega (arith, x.0, y.0))
same_form form.Crash form.Repeat words x y = absurd (omega (arith, x.0, y.0))
same_form form.Crash form.Delay words x y = absurd (differ x.1 y.1 (λ e. absurd (omega (arith, ap third e))))
same_form form.Crash form.Crash words x y = refl
same_form form.Crash form.CrashAtDelivery words x y = absurd (omega (arith, x.0, y.0))
same_form form.Crash form.StopAtCall words x y = absurd (omega (arith, x.0, y.0))
same_form form.Crash form.FailCall words x y = absurd (omega (arith, x.0, y.0))
same_form form.Crash form.Start words x y = absurd (omega (arith, x.0, y.0))
same_form form.CrashAtDelivery form.Lose words x y = absurd (omega (arith, x.0, y.0))
same_form form.CrashAtDelivery form.Repeat words x y = absurd (omega (arith, x.0, y.0))
same_form form.CrashAtDelivery form.Delay words x y = absurd (omega (arith, x.0, y.0))
same_form form.CrashAtDelivery form.Crash words x y = absurd (omega (arith, x.0, y.0))
same_form form.CrashAtDelivery form.CrashAtDelivery words x y = refl
same_form form.CrashAtDelivery form.StopAtCall words x y =
    absurd (differ x.2 y.2 (λ e. absurd (omega (arith, ap third e))))
same_form form.CrashAtDelivery form.FailCall words x y = absurd (omega (arith, x.0, y.0))
same_form form.CrashAtDelivery form.Start words x y = absurd (omega (arith, x.0, y.0))
same_form form.StopAtCall form.Lose words x y = absurd (omega (arith, x.0, y.0))
same_form form.StopAtCall form.Repeat words x y = absurd (omega (arith, x.0, y.0))
same_form form.StopAtCall form.Delay words x y = absurd (omega (arith, x.0, y.0))
same_form form.StopAtCall form.Crash words x y = absurd (omega (arith, x.0, y.0))
same_form form.StopAtCall form.CrashAtDelivery words x y =
    absurd (differ x.2 y.2 (λ e. absurd (omega (arith, ap third e))))
same_form form.StopAtCall form.StopAtCall words x y = refl
same_form form.StopAtCall form.FailCall words x y = absurd (omega (arith, x.0, y.0))
same_form form.StopAtCall form.Start words x y = absurd (omega (arith, x.0, y.0))
same_form form.FailCall form.Lose words x y = absurd (differ x.1 y.1 (λ e. absurd (omega (arith, ap third e))))
same_form form.FailCall form.Repeat words x y = absurd (differ x.1 y.1 (λ e. absurd (omega (arith, ap third e))))
same_form form.FailCall form.Delay words x y = absurd (omega (arith, x.0, y.0))
same_form form.FailCall form.Crash words x y = absurd (omega (arith, x.0, y.0))
same_form form.FailCall form.CrashAtDelivery words x y = absurd (omega (arith, x.0, y.0))
same_form form.FailCall form.StopAtCall words x y = absurd (omega (arith, x.0, y.0))
same_form form.FailCall form.FailCall words x y = refl
same_form form.FailCall form.Start words x y = absurd (omega (arith, x.0, y.0))
same_form form.Start form.Lose words x y = absurd (omega (arith, x.0, y.0))
same_form form.Start form.Repeat words x y = absurd (omega (arith, x.0, y.0))
same_form form.Start form.Delay words x y = absurd (omega (arith, x.0, y.0))
same_form form.Start form.Crash words x y = absurd (omega (arith, x.0, y.0))
same_form form.Start form.CrashAtDelivery words x y = absurd (omega (arith, x.0, y.0))
same_form form.Start form.StopAtCall words x y = absurd (omega (arith, x.0, y.0))
same_form form.Start form.FailCall words x y = absurd (omega (arith, x.0, y.0))
same_form form.Start form.Start words x y = refl
