-- A text of version 1 has one conclusion, and what has one conclusion ends with it.
use Rattle.std.proofs.Common.{◌≡◌, ℕ, ◌+◌, ◌<◌, ◌≤◌, true, false, List, [], ◌∷◌, refl, arith}
use Rattle.std.specs.Prelude.{sum_by}
use Rattle.std.proofs.lemmas.List.Sums.{sum_by-cons}
use Rattle.construction_reader.specs.Rules.{Rules}
use Rattle.construction_reader.specs.Said.{Sentence}
use Rattle.construction_reader.specs.Grammar.{is_conclusion, conclusions, EndsBy, EndsOnce}

-- a conclusion counts 1
pub counts_one : (s : Sentence) → is_conclusion s ≡ true → conclusions s ≡ 1
counts_one (Sentence.Free names) last = absurd cc
counts_one (Sentence.Define kind name recipe) last = absurd cc
counts_one (Sentence.Conclude claim) last = omega arith

-- what is no conclusion counts 0
pub counts_none : (s : Sentence) → is_conclusion s ≡ false → conclusions s ≡ 0
counts_none (Sentence.Free names) other = omega arith
counts_none (Sentence.Define kind name recipe) other = omega arith
counts_none (Sentence.Conclude claim) other = absurd cc

-- a sentence counts at most 1
pub counts_once : (s : Sentence) → conclusions s ≤ 1
counts_once (Sentence.Free names) = omega arith
counts_once (Sentence.Define kind name recipe) = omega arith
counts_once (Sentence.Conclude claim) = omega arith

-- sentences that end with their only conclusion have one
pub one_conclusion : (sentences : List Sentence) → EndsOnce sentences → sum_by conclusions sentences ≡ 1
one_conclusion [] ends = absurd ends
one_conclusion (s ∷ []) ends = omega (arith, sum_by-cons conclusions s [], counts_one s ends)
one_conclusion (s ∷ next ∷ others) ends = omega (
  arith,
  sum_by-cons conclusions s (next ∷ others),
  counts_none s ends.0,
  one_conclusion (next ∷ others) ends.1,
)

-- what ends by any rules has a conclusion
some_conclusion : (rules : Rules) (sentences : List Sentence) → EndsBy rules sentences
    → 0 < sum_by conclusions sentences
some_conclusion rules [] ends = absurd ends
some_conclusion rules (s ∷ []) ends = omega (arith, sum_by-cons conclusions s [], counts_one s ends)
some_conclusion rules (s ∷ next ∷ others) ends = omega (
  arith,
  sum_by-cons conclusions s (next ∷ others),
  some_conclusion rules (next ∷ others) ends.1,
)

-- what ends by any rules, and has one conclusion, ends with its only conclusion
pub ends_once : (rules : Rules) (sentences : List Sentence) → EndsBy rules sentences
    → sum_by conclusions sentences ≡ 1 → EndsOnce sentences
ends_once rules [] ends one = absurd ends
ends_once rules (s ∷ []) ends one = ends
ends_once rules (s ∷ next ∷ others) ends one =
    let some = some_conclusion rules (next ∷ others) ends.1 in
    let all = sum_by-cons conclusions s (next ∷ others) in
    (none s (omega (arith, one, all, some)), ends_once rules (next ∷ others) ends.1 (sole s one all some))
  where
    none : (s : Sentence) → conclusions s ≡ 0 → is_conclusion s ≡ false
    none (Sentence.Free names) e = refl
    none (Sentence.Define kind name recipe) e = refl
    none (Sentence.Conclude claim) e = absurd (omega (arith, e))

    sole : (s : Sentence) → {rest all : ℕ} → all ≡ 1 → all ≡ conclusions s + rest → 0 < rest → rest ≡ 1
    sole s one all some = omega (arith, one, all, some)
