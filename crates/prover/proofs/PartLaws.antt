-- Each part has one answer.
use Rattle.std.proofs.Common.{◌≡◌, ℕ, ◌⊎◌, inl, inr, List, refl, sym, ap, subst, ◌∙◌, Result, Ok, Err}
use Rattle.construction_reader.specs.declared.fault.TextFault.{TextFault}
use Rattle.construction_reader.specs.Said.{Account}
use Rattle.construction_reader.specs.TextOf.{TextOf}
use Rattle.construction_reader.proofs.TextAgain.{text_of-unique}
use Rattle.construction_reader.proofs.FaultTexts.{one_fault, never_both, either}
use Rattle.step_types.specs.Checks as steps
use Rattle.step_types.specs.Known.{Known}
use Rattle.step_types.specs.declared.fault.StepFault.{StepFault}
use Rattle.prover.specs.declared.parts.Fault.{Fault}
use Rattle.prover.specs.declared.parts.Fault.TheVariants as fault
use Rattle.prover.specs.Answer.{Answer}
use Rattle.prover.specs.Parts.{IsFault, Gives, IsPart, refused_at}

module _ (prefix text : List ℕ) (Then : Account → Answer → Type 0) where
  pub some_part : ((c : Account) → Gives text c → (a : Answer) × Then c a) → (a : Answer) × IsPart prefix text Then a
  some_part then = go (either text)
    where
      good : (c : Account) → TextOf text c → (r : Result Known StepFault) → steps.checked c ≡ r
          → (a : Answer) × IsPart prefix text Then a
      good c gives (Ok known) e =
          let is : Gives text c = record { gives = gives; good = (known, e) } in
          let found = then c is in (found.0, inr (c, is, found.1))
      good c gives (Err f) e = (refused_at prefix (fault.Step f), inl (fault.Step f, (c, gives, e), refl))

      go : ((c : Account) × TextOf text c) ⊎ ((f : TextFault) × IsFault text (fault.Text f))
          → (a : Answer) × IsPart prefix text Then a
      go (inl w) = good w.0 w.1 (steps.checked w.0) refl
      go (inr w) = (refused_at prefix (fault.Text w.0), inl (fault.Text w.0, w.1, refl))

  one_text : (c e : Account) → TextOf text c → TextOf text e → e ≡ c
  one_text c e gives also = sym (text_of-unique text c e gives also)

  same_fault : (f g : Fault) → IsFault text f → IsFault text g → f ≡ g
  same_fault (fault.Text f) (fault.Text g) is also = ap fault.Text (one_fault text f g is also)
  same_fault (fault.Text f) (fault.Step g) is (c, gives, broken) = absurd (never_both text c f gives is)
  same_fault (fault.Step f) (fault.Text g) (c, gives, broken) also = absurd (never_both text c g gives also)
  same_fault (fault.Step f) (fault.Step g) (c, gives, is) (e, more, also) =
      let same : e ≡ c = one_text c e gives more in
      let there : steps.IsFault c g = subst (λ (x : Account). steps.IsFault x g) same also in
      let one : f ≡ g = cc in ap fault.Step one

  fault_or_good : (f : Fault) (c : Account) → IsFault text f → Gives text c → ⊥
  fault_or_good (fault.Text f) c is gives = never_both text c f gives.gives is
  fault_or_good (fault.Step f) c (e, more, is) gives =
      let same : e ≡ c = one_text c e gives.gives more in
      let broken : steps.IsFault c f = subst (λ (x : Account). steps.IsFault x f) same is in
      let good = gives.good.1 in cc

  pub one_part : ((c : Account) → Gives text c → (a b : Answer) → Then c a → Then c b → a ≡ b) → (a b : Answer)
      → IsPart prefix text Then a → IsPart prefix text Then b → a ≡ b
  one_part one a b (inl (f, is, x)) (inl (g, also, y)) = x ∙ ap (refused_at prefix) (same_fault f g is also) ∙ sym y
  one_part one a b (inl (f, is, x)) (inr (c, gives, y)) = absurd (fault_or_good f c is gives)
  one_part one a b (inr (c, gives, x)) (inl (f, is, y)) = absurd (fault_or_good f c is gives)
  one_part one a b (inr (c, gives, x)) (inr (e, also, y)) =
      one c gives a b x (subst (λ (w : Account). Then w b) (one_text c e gives.gives also.gives) y)
