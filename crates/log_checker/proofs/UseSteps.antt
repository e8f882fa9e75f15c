-- Uses that are added one after another: what has been added, and which of them is refused.
use Rattle.std.proofs.Common.{◌≡◌, ℕ, ◌+◌, ◌<◌, List, [], ◌∷◌, map, drop, length, get_or, refl, sym, ap, subst, ◌∙◌}
use Rattle.std.proofs.lemmas.List.{drop_more}
use Rattle.std.specs.Prelude.{Option, Some}
use Rattle.coordinate_model.specs.BracketPolynomial.{BracketPolynomial}
use Rattle.coordinate_model.specs.Syzygy.{Use, additions}
use Rattle.bracket_terms.specs.LogUses.{use_of}
use Rattle.bracket_terms.specs.declared.log_use.LogUse.{LogUse}
use Rattle.bracket_poly.specs.Answers.{IsErrorOf}
use Rattle.bracket_poly.specs.Laws.{UseAdds}
use Rattle.bracket_poly.specs.Tracked.{Tracked, Limit, coefficient_limit, keys_limit, plus_terms}
use Rattle.bracket_poly.specs.declared.error.PolyError.{PolyError}
use Rattle.bracket_poly.specs.declared.error.PolyError.TheVariants.{Coefficient, Keys, Memory}
use Rattle.log_checker.specs.Accepted.{with_multiples, behind_uses, first_refused}
use Rattle.log_checker.specs.Refused.{IsRefusal, IsUseCause}
use Rattle.log_checker.specs.declared.fault.SectionError.{SectionError}

-- so many uses are added, which make this sum, and these are left
pub record UsesSoFar (start : Tracked) (all rest : List Use) (done : ℕ) (sum : Tracked) : Type 0 where
  pub same : behind_uses start all ≡ behind_uses sum rest
  pub refused : first_refused 1 start all ≡ first_refused (done + 1) sum rest

-- the error of the use that is refused
pub tells_refusal : {d : ℕ} (refused : Option (ℕ × Limit)) (n : ℕ) (o : Option Limit) (error : PolyError)
    (e : SectionError d) → IsErrorOf error o → ((limit : Limit) → o ≡ Some limit → refused ≡ Some (n, limit))
    → IsRefusal n error e → IsUseCause refused e
tells_refusal refused n o Coefficient e h f is = subst (IsUseCause refused) (sym is) (f coefficient_limit h)
tells_refusal refused n o Keys e h f is = subst (IsUseCause refused) (sym is) (f keys_limit h)
tells_refusal refused n o Memory e h f is = subst (IsUseCause refused) (sym is) tt

-- the uses from a place on
pub next_use : {d : ℕ} (uses : List (LogUse d)) (k : ℕ) (u : LogUse d) → k < length uses → u ≡ get_or uses k u
    → map use_of (drop k uses) ≡ use_of u ∷ map use_of (drop (k + 1) uses)
next_use {d = d} uses k u l e =
    ap (λ us. map use_of us) (drop_more uses k u l)
    ∙ ap (λ (v : LogUse d). use_of v ∷ map use_of (drop (k + 1) uses)) (sym e)

-- the sum of what is added
pub behind_sum : UseAdds → (p : Tracked) (us : List Use) → (behind_uses p us).sum ≡ with_multiples p.sum us
behind_sum adds p [] = refl
behind_sum adds p (u ∷ us) =
    behind_sum adds (plus_terms p (additions u)) us ∙ ap (λ (f : BracketPolynomial). with_multiples f us) (adds p u)
