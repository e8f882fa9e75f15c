-- Verdicts, and why they are given.
use Rattle.std.proofs.Common.{◌≡◌, Bool, true, false, refl, sym, ap, subst, ◌∙◌}
use Rattle.prover.specs.declared.status.Status.{Status}
use Rattle.prover.specs.declared.status.Status.TheVariants.{Proved, Refuted}
use Rattle.prover.specs.Modes.Prove.{verdict}

module _ (status : Status) (proved : Bool) (is : status ≡ verdict proved) where
  -- what holds of both verdicts holds of the one that is given
  pub by_verdict : (C : Status → Type 0) → (proved ≡ true → C Proved) → (proved ≡ false → C Refuted) → C status
  by_verdict C when_proved when_not = subst C (sym is) (go proved refl)
    where
      go : (b : Bool) → proved ≡ b → C (verdict b)
      go true e = when_proved e
      go false e = when_not e

  pub not_refuted : (proved ≡ false → ⊥) → status ≡ Proved
  not_refuted other = by_verdict (λ s. s ≡ Proved) (λ e. refl) (λ e. absurd (other e))

  pub not_proved : (proved ≡ true → ⊥) → status ≡ Refuted
  not_proved other = by_verdict (λ s. s ≡ Refuted) (λ e. absurd (other e)) (λ e. refl)

  pub is_proved : proved ≡ true → status ≡ Proved
  is_proved e = is ∙ ap verdict e

  pub is_refuted : proved ≡ false → status ≡ Refuted
  is_refuted e = is ∙ ap verdict e
