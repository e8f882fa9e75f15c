-- A sample with the names of its made points by their digits, which compute.
use Rattle.std.proofs.Common.{◌≡◌, ℕ, ◌+◌, ◌-◌, ◌<◌, ◌==◌, Bool, true, false, nat_lt, List, [], ◌∷◌, ◌++◌, if◌then◌else◌, refl, ap, arith, zero, suc}
use Rattle.std.specs.Prelude.{map, codes}
use Rattle.std.specs.List.{range_with_len}
use Rattle.std.specs.Int.Digits.{digits_of}
use Rattle.std.proofs.lemmas.Bool.{ltb-true}
use Rattle.std.proofs.Math.Dec.{eqb-suc-zero}
use Rattle.std.proofs.lemmas.Fmt.{decimal-digits_of}
use Rattle.construction_reader.specs.Said.{Row, Account}
use Rattle.sample_maker.specs.Sample.{made, free, definition, conclusion, chosen, choice_of, sample_of}

-- the name of made point k, by its digits
abbrev short : ℕ → List ℕ
short k = if k == 0 then codes "A" else codes "P" ++ map (λ d. 48 + d) (digits_of 10 k)

-- the same, where the digits are few
abbrev pub shown : ℕ → List ℕ
shown k = if nat_lt k 13 then short k else made k

digits_made : (k : ℕ) → k < 13 → made k ≡ short k
digits_made zero small = refl
digits_made (suc k) small =
    let digits = rw (eqb-suc-zero k) at (decimal-digits_of (suc k) (omega arith) (omega arith)) in
    rw (eqb-suc-zero k) (ap (λ digits. codes "P" ++ digits) digits)

-- definition k of the sample, with these names for the made points
abbrev pub row_with : (ℕ → List ℕ) → ℕ → ℕ → Row
row_with name number k = record {
  line = k + 3;
  sentence = definition (name k) (name (k - 1)) (chosen (choice_of number k));
}

-- the sample, with these names for the made points
abbrev pub sample_with : (ℕ → List ℕ) → ℕ → Account
sample_with name number = record {
  rank = 3;
  rows = record { line = 3; sentence = free }
      ∷ (map (row_with name number) (range_with_len 1 number)
      ++ record { line = number + 4; sentence = conclusion (name number) } ∷ []);
}

picked : (k : ℕ) (small : Bool) → nat_lt k 13 ≡ small → made k ≡ (if small then short k else made k)
picked k true small = digits_made k (ltb-true k 13 small)
picked k false large = refl

pub made_shown : (k : ℕ) → made k ≡ shown k
made_shown k = picked k (nat_lt k 13) refl

-- the sample's made points are named so
pub sample_shown : (number : ℕ) → sample_of number ≡ sample_with shown number
sample_shown number = λ i. sample_with (λ k. made_shown k i) number
