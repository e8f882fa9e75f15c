-- Sets of places as masks, and splits of places with their signs (Sturmfels, Algorithms in Invariant Theory, section 3.1).
use Rattle.std.specs.Prelude.{◌≡◌, ℕ, ◌/◌, ◌%◌, ◌^◌, ◌==◌, Bool, List, ◌++◌, map, filter, slice_get, Some}
use Rattle.coordinate_model.specs.Sequences.{range, splits, sign_of}
use Rattle.split_tables.specs.declared.signed_split.SignedSplit.{SignedSplit}

-- whether the mask has the place i, for which its bit i stands
abbrev pub has_place : ℕ → ℕ → Bool
has_place mask i = mask / 2 ^ i % 2 == 1

-- the places of a mask of eight bits, in ascending order
unfoldable pub places_of : ℕ → List ℕ
places_of mask = filter (has_place mask) (range 8)

-- the split is the one at place i of all ways to choose k of n places, in lexicographic order, with its sign
pub record IsSplitAt (n k i : ℕ) (s : SignedSplit) : Type 0 where
  pub split : slice_get (splits k (range n)) i ≡ Some (places_of s.chosen, places_of s.rest)
  pub sign : s.sign ≡ sign_of (places_of s.chosen ++ places_of s.rest)

-- the table has all ways to choose k of n places, in lexicographic order, with their signs
pub record IsTable (n k : ℕ) (table : List SignedSplit) : Type 0 where
  pub all : map (λ s. (places_of s.chosen, places_of s.rest)) table ≡ splits k (range n)
  pub signs : map (λ s. s.sign) table ≡ map (λ t. sign_of (t.0 ++ t.1)) (splits k (range n))
