-- Syzygies as bracket polynomials: brackets sorted with their sign, the van der Waerden syzygies of free points with
-- their terms collected, and the uses of them by which straightening rewrites (Sturmfels, Algorithms in Invariant
-- Theory, section 3.1).
use Rattle.std.specs.Prelude.{◌≡◌, ◌≢◌, ℕ, ◌+◌, ◌≤◌, ◌^◌, if◌then◌else◌, List, [], ◌∷◌, length, map, IsSorted, ℤ, pos, neg_ℤ}
use Rattle.std.specs.Prelude.{◌*ℤ◌}
use Rattle.std.specs.List.{AllByRecursion}
use Rattle.std.specs.Ordering.{nat_cmp}
use Rattle.coordinate_model.specs.Sequences.{IsRank, repeats}
use Rattle.coordinate_model.specs.Brackets.{signed, syzygy}
use Rattle.coordinate_model.specs.Words.{ordered}
use Rattle.coordinate_model.specs.Sums.{Terms, sum_of, single}
use Rattle.coordinate_model.specs.Key.{Key, key_cmp, key_times, row_cmp, rows_key}
use Rattle.coordinate_model.specs.BracketPolynomial.{KeySums, BracketPolynomial, mul}

-- the points in ascending order
abbrev pub sorted : List ℕ → List ℕ
sorted = ordered nat_cmp

-- the bracket of the points as a bracket polynomial: its sign times the sorted row, and zero where a point comes twice
unfoldable pub sorted_bracket : List ℕ → BracketPolynomial
sorted_bracket ps =
    if repeats ps then KeySums.𝟘 else signed KeySums ps (single key_cmp (rows_key (sorted ps ∷ [])))

-- the van der Waerden syzygy: the collected nonzero terms of the van der Waerden sum
unfoldable pub syz : List ℕ → List ℕ → List ℕ → BracketPolynomial
syz α β γ = syzygy KeySums sorted_bracket α β γ

-- the sizes of the lists of a van der Waerden sum in rank d
pub record AreSizes {P : Type 0} (d : ℕ) (α β γ : List P) : Type 0 where
  pub rank : IsRank d
  pub beta : length β ≡ d + 1
  pub others : length α + length γ + 1 ≡ d

-- a use of a syzygy: its three lists of points, the multiplier, the exponents of the parameters and the rest rows
pub record Use : Type 0 where
  pub alpha : List ℕ
  pub beta : List ℕ
  pub gamma : List ℕ
  pub multiplier : ℤ
  pub exponents : List ℕ
  pub rest : List (List ℕ)

-- a well-formed use of rank d: the sizes of its lists, a multiplier that is neither 0 nor the least integer of 128
-- bits, rest rows that ascend, and exponents of at most 1000
pub record IsUse (d : ℕ) (u : Use) : Type 0 where
  pub beta_points : length u.beta ≡ d + 1
  pub other_points : length u.alpha + length u.gamma + 1 ≡ d
  pub not_zero : u.multiplier ≢ pos 0
  pub not_least : u.multiplier ≢ neg_ℤ (pos (2 ^ 127))
  pub ascending : IsSorted row_cmp u.rest
  pub small : AllByRecursion (λ e. e ≤ 1000) u.exponents

-- the factor of a use: its multiplier times the parameters and the rest rows
abbrev pub use_term : Use → BracketPolynomial
use_term u = sum_of key_cmp ((record { exponents = u.exponents; rows = u.rest }, u.multiplier) ∷ [])

-- the multiple that a use adds: its syzygy with the rest rows merged in, times the parameters and the multiplier
unfoldable pub multiple : Use → BracketPolynomial
multiple u = mul (use_term u) (syz u.alpha u.beta u.gamma)

-- the parameters and the rest rows of a use, as a key
abbrev pub use_key : Use → Key
use_key u = record { exponents = u.exponents; rows = u.rest }

-- the terms of the multiple, in the order of the syzygy's terms
abbrev pub additions : Use → Terms Key
additions u =
    map (λ t. (key_times (use_key u) t.0, u.multiplier *ℤ t.1)) (syz u.alpha u.beta u.gamma).terms
