-- The sections of an object, one after another, as those of its starts.
use Rattle.std.proofs.Common.{◌≡◌, List, [], ◌∷◌, ℕ, map, refl}
use Rattle.shuffle_meet.specs.Stops.{Start}
use Rattle.log_checker.specs.Accepted.{AreSectionsAccepted}
use Rattle.log_checker.specs.Claims.{Claim}
use Rattle.log_checker.specs.ProofRefused.{HaveScalars}
use Rattle.log_checker.specs.Seen.{AreSame}

same_head : {A : Type 0} (x y : A) (xs ys : List A) → x ∷ xs ≡ y ∷ ys → (x ≡ y) × (xs ≡ ys)
same_head x y xs ys e = (cc, cc)

-- with the scalars, too, they are the sections of the starts
pub sections_are : (d : ℕ) (starts : List Start) (claims : List Claim) → HaveScalars starts claims
    → AreSame d starts claims → AreSectionsAccepted d starts claims
sections_are d [] [] e h = (refl, tt)
sections_are d [] (c ∷ claims) e h = absurd h
sections_are d (start ∷ starts) [] e h = absurd h
sections_are d (start ∷ starts) (c ∷ claims) e h =
    let both = same_head start.0 c.scalar (map (λ s. s.0) starts) (map (λ x. x.scalar) claims) e in
    let others = sections_are d starts claims both.1 h.2 in (
      λ j. (both.0 j, h.0 j) ∷ others.0 j,
      (h.1, others.1),
    )
