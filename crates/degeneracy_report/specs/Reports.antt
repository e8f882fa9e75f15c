-- What is reported of a value: the run of its join with fresh points, and how large its keys are.
use Rattle.std.specs.Prelude.{◌≡◌, ℕ, ◌+◌, ◌-◌, Ok, Err, Some}
use Rattle.std.specs.List.{AllByRecursion}
use Rattle.coordinate_model.specs.Sums.{Terms, sum_of}
use Rattle.coordinate_model.specs.Key.{Key, key_cmp}
use Rattle.coordinate_model.specs.BracketPolynomial.{BracketPolynomial, AllKeys, value}
use Rattle.coordinate_model.specs.Value.{coordinates}
use Rattle.bracket_poly.specs.Makings.{adding}
use Rattle.bracket_poly.specs.Sizes.{KeyWithin, EntryWithin}
use Rattle.bracket_poly.specs.Tracked.{nothing}
use Rattle.bracket_poly.specs.Values.{value_of}
use Rattle.bracket_poly.specs.declared.value.Value.{Value}
use Rattle.straightening.specs.Runs.{Run, run, ended, limit_stop}
use Rattle.degeneracy_report.specs.Joined.{fresh_points, joined, start_terms, IsZero}

-- the terms of the join of a value with the points from this one on
abbrev pub terms_joined : {d : ℕ} → Value d → ℕ → Terms Key
terms_joined {d} v fresh = start_terms (fresh_points d v.step fresh) (value_of v.entries)

-- their sum
abbrev pub start_of : {d : ℕ} → Value d → ℕ → BracketPolynomial
start_of v fresh = sum_of key_cmp (terms_joined v fresh)

-- the run from the terms, which are added one after another; where one passes a limit, no turn is made
abbrev pub run_from : ℕ → Terms Key → Run
run_from budget ts = elim (adding nothing ts) [
  | Ok start ↦ run budget start
  | Err limit ↦ ended nothing (Some (limit_stop limit))
]

-- the value of the polynomial is the coordinate, at all columns, of the join of the object with the points from this one
-- on
abbrev pub IsJoin : {d : ℕ} → Value d → ℕ → BracketPolynomial → Type 0
IsJoin {d} v fresh f = value f ≡ joined d v.step (coordinates (value_of v.entries)) (fresh_points d v.step fresh)

-- all coordinates of the value are the zero polynomial
abbrev pub IsZeroEverywhere : {d : ℕ} → Value d → Type 0
IsZeroEverywhere {d} v = IsZero d v.step (coordinates (value_of v.entries))

-- where the keys of the value have these parameters, so many rows and this degree, those of the polynomial have the
-- same parameters and degree, one row more, and the fresh points
abbrev pub HasOneRowMore : {d : ℕ} → Value d → ℕ → BracketPolynomial → Type 0
HasOneRowMore {d} v fresh f =
    (parameters rows degree : ℕ) → AllByRecursion (EntryWithin fresh parameters rows degree) v.entries
    → AllKeys (KeyWithin (fresh + (d - v.step)) parameters (rows + 1) degree) f
