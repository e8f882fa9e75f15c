-- In what constructions differ that are to be compared.
use Rattle.std.proofs.Common.{◌≡◌, ◌==◌, ◌⊎◌, inl, inr, ℕ, Bool, true, false, true≢false, List, refl, sym}
use Rattle.std.specs.Bool.{Decides}
use Rattle.std.specs.Cmp.Lexicographic.{pointwise}
use Rattle.std.specs.Str.{bytes_eq}
use Rattle.std.proofs.lemmas.Bool.Decides.{Decides-eqb}
use Rattle.std.proofs.lemmas.Slice.Eq.{bytes_eq-Decides, slice_eq-Decides}
use Rattle.step_types.specs.declared.names.Names.{Names}
use Rattle.prover.specs.declared.difference.Difference.{Difference}
use Rattle.prover.specs.declared.difference.Difference.TheVariants.{Rank, Free, Params}
use Rattle.prover.specs.Alike.{AreAlike, IsFirstDifference}
use Rattle.prover.specs.Cuts.{IsSeparator}
use Rattle.prover.specs.Modes.Same.{separator}

-- the line between the texts can separate
pub separates : IsSeparator separator
separates = record {
  some = λ e. absurd cc;
  no_feed = (λ e. absurd cc, (λ e. absurd cc, (λ e. absurd cc, tt)));
}

-- whether two lists of names are the same
pub same_lists : (xs ys : List (List ℕ)) → Decides (pointwise bytes_eq xs ys) (xs ≡ ys)
same_lists xs ys = slice_eq-Decides bytes_eq-Decides xs ys (pointwise bytes_eq xs ys) refl

module _ (a b : Names) where
  -- they differ in something first, or are alike
  pub some_difference : ((d : Difference) × IsFirstDifference a b d) ⊎ AreAlike a b
  some_difference =
      go (a.rank == b.rank) (pointwise bytes_eq a.free b.free) (pointwise bytes_eq a.params b.params)
      (Decides-eqb a.rank b.rank) (same_lists a.free b.free) (same_lists a.params b.params)
    where
      go : (r f p : Bool) → Decides r (a.rank ≡ b.rank) → Decides f (a.free ≡ b.free) → Decides p (a.params ≡ b.params)
          → ((d : Difference) × IsFirstDifference a b d) ⊎ AreAlike a b
      go false f p rank free params = inl (Rank, λ e. true≢false (sym (rank.1 e)))
      go true false p rank free params = inl (Free, (rank.0 refl, λ e. true≢false (sym (free.1 e))))
      go true true false rank free params = inl (Params, (rank.0 refl, free.0 refl, λ e. true≢false (sym (params.1 e))))
      go true true true rank free params =
          inr (record { rank = rank.0 refl; free = free.0 refl; params = params.0 refl })

  pub one_difference : (d e : Difference) → IsFirstDifference a b d → IsFirstDifference a b e → d ≡ e
  one_difference Rank Rank is also = refl
  one_difference Rank Free is also = absurd (is also.0)
  one_difference Rank Params is also = absurd (is also.0)
  one_difference Free Rank is also = absurd (also is.0)
  one_difference Free Free is also = refl
  one_difference Free Params is also = absurd (is.1 also.1)
  one_difference Params Rank is also = absurd (also is.0)
  one_difference Params Free is also = absurd (also.1 is.1)
  one_difference Params Params is also = refl

  pub alike_or_not : (d : Difference) → IsFirstDifference a b d → AreAlike a b → ⊥
  alike_or_not Rank is alike = is alike.rank
  alike_or_not Free is alike = is.1 alike.free
  alike_or_not Params is alike = is.2 alike.params
