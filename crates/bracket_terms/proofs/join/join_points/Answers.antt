use Rattle.std.proofs.Common.{◌≡◌, ℕ, ◌+◌, ◌≤◌, ◌++◌, true, false, List, length, take, drop, refl, sym, ap, ◌∙◌}
use Rattle.std.proofs.Common.{arith, true≢false, IsPermutation, IsSorted, nat_cmp}
use Rattle.std.proofs.Common.{length-append}
use Rattle.std.proofs.lemmas.List.{length-take-le}
use mir.Val.{to_z, of_z}
use Rattle.std.proofs.Common.{ℤ, pos, negsuc, cond, w8}
use Rattle.coordinate_model.specs.Sequences.{is_odd, sign_of}
use Rattle.std.specs.List.Sorted.{IsStrictlyIncreasing}
use Rattle.coordinate_model.specs.Sequences.{repeats}
use Rattle.coordinate_model.specs.Syzygy.{sorted}
use Rattle.coordinate_model.proofs.StdSort.{increasing-repeats}
use Rattle.bracket_terms.specs.Joins.{points_of, share_point}
use Rattle.bracket_terms.specs.declared.extensor.Extensor.{Extensor}
use Rattle.bracket_terms.proofs.SignLaws.{sorted_by_std, repeats_where, repeats_nowhere}
use Rattle.bracket_terms.proofs.ExtensorLaws.{repeats-append, some_coordinates, none_coordinates, in_front}
use Rattle.bracket_terms.proofs.ExtensorLaws.{length-points_of}
use Rattle.bracket_terms.proofs.join.join_points.Goals as goal

-- a sign as an `i8`
sign_byte : (z : ℤ) (ps : List ℕ) → z ≡ sign_of ps → to_z w8 (of_z w8 z) ≡ sign_of ps
sign_byte z ps e =
    ap (λ y. to_z w8 (of_z w8 y)) e
    ∙ elim (is_odd ps) as (λ b. to_z w8 (of_z w8 (cond b (negsuc 0) (pos 1))) ≡ cond b (negsuc 0) (pos 1)) [
      | true ↦ refl
      | false ↦ refl
    ]

-- the points of both in sequence, and those places once sorted
record Facts (a b : Extensor) (places qs : List ℕ) : Type 0 where
  count : length qs ≡ a.size + b.size
  front : take (a.size + b.size) (qs ++ places) ≡ qs
  ascending : qs ≡ sorted (points_of a ++ points_of b)
  shared : repeats (points_of a ++ points_of b) ≡ share_point (points_of a) (points_of b)

facts : (a b : Extensor) (seq qs : List ℕ) → length seq ≡ 4 → a.size + b.size ≤ 4
    → take (a.size + b.size) seq ≡ points_of a ++ points_of b → IsPermutation (take (a.size + b.size) seq) qs
    → length qs ≡ length (take (a.size + b.size) seq) → IsSorted nat_cmp qs → Facts a b (drop (a.size + b.size) seq) qs
facts a b seq qs four few points permutation len is_sorted =
    let long : length (take (a.size + b.size) seq) ≡ a.size + b.size =
    length-take-le (a.size + b.size) seq (omega arith) in
    let count : length qs ≡ a.size + b.size = len ∙ long in
    record {
      count = count;
      front = in_front (a.size + b.size) qs (drop (a.size + b.size) seq) count;
      ascending = sorted_by_std (take (a.size + b.size) seq) qs permutation is_sorted ∙ ap sorted points;
      shared =
          repeats-append (points_of a) (points_of b) (increasing-repeats (points_of a) a.formed.increasing)
          (increasing-repeats (points_of b) b.formed.increasing);
    }

-- no point is shared
apart : (a b : Extensor) (places qs : List ℕ) → Facts a b places qs
    → IsStrictlyIncreasing (take (a.size + b.size) (qs ++ places)) → share_point (points_of a) (points_of b) ≡ false
apart a b places qs f increasing =
    sym f.shared ∙ repeats_nowhere (points_of a ++ points_of b) qs f.ascending (rw f.front at increasing)

-- some point is shared
common : (a b : Extensor) (places qs : List ℕ) → Facts a b places qs
    → (IsStrictlyIncreasing (take (a.size + b.size) (qs ++ places)) → ⊥) → repeats (points_of a ++ points_of b) ≡ true
common a b places qs f not =
    repeats_where (points_of a ++ points_of b) qs f.ascending (λ increasing. not (rw f.front increasing))

pub returns-then-is_increasing : goal.returns-then-is_increasing
returns-then-is_increasing c =
    let a : Extensor = c.args.a in
    let b : Extensor = c.args.b in
    let m : length (points_of a) ≡ a.size = length-points_of a.size a.points a.formed in
    let n : length (points_of b) ≡ b.size = length-points_of b.size b.points b.formed in
    let seq : List ℕ = c.in_sequence-points.result in
    let f : Facts a b (drop (a.size + b.size) seq) c.sort_unstable.new.self =
    facts a b seq c.sort_unstable.new.self c.in_sequence-points.ensures.count c.requires
    c.in_sequence-points.ensures.points c.sort_unstable.ensures.permutation c.sort_unstable.ensures.len
    c.sort_unstable.ensures.sorted in
    let none : share_point (points_of a) (points_of b) ≡ false = apart a b _ _ f (c.if-is_increasing.ensures.0 refl) in
    let sign : to_z w8 (of_z w8 c.sign_of-sign.result) ≡ sign_of (points_of a ++ points_of b) =
    sign_byte c.sign_of-sign.result _ (c.sign_of-sign.ensures ∙ ap sign_of c.in_sequence-points.ensures.points) in
    record {
      none = (λ h. absurd (true≢false h), λ h. absurd (true≢false (sym h ∙ none)));
      joined = record {
        count = omega (arith, length-append (points_of a) (points_of b));
        ascending = f.front ∙ f.ascending;
        by_order = sign;
      };
      coordinates =
          λ d r few.
          some_coordinates d a.size b.size (points_of a) (points_of b) m n _ _ sign (f.front ∙ f.ascending) r few;
    }

pub returns-else-is_increasing : goal.returns-else-is_increasing
returns-else-is_increasing c =
    let a : Extensor = c.args.a in
    let b : Extensor = c.args.b in
    let m : length (points_of a) ≡ a.size = length-points_of a.size a.points a.formed in
    let n : length (points_of b) ≡ b.size = length-points_of b.size b.points b.formed in
    let seq : List ℕ = c.in_sequence-points.result in
    let f : Facts a b (drop (a.size + b.size) seq) c.sort_unstable.new.self =
    facts a b seq c.sort_unstable.new.self c.in_sequence-points.ensures.count c.requires
    c.in_sequence-points.ensures.points c.sort_unstable.ensures.permutation c.sort_unstable.ensures.len
    c.sort_unstable.ensures.sorted in
    let twice : repeats (points_of a ++ points_of b) ≡ true =
    common a b _ _ f (λ increasing. true≢false (sym (c.if-is_increasing.ensures.1 increasing))) in
    record {
      none = (λ h. sym f.shared ∙ twice, λ h. refl);
      joined = tt;
      coordinates =
          λ d r few. none_coordinates d a.size b.size (points_of a) (points_of b) m n twice r few;
    }
