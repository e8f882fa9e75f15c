-- The use of a turn as the code makes it.
use Rattle.std.proofs.Common.{◌≡◌, ◌≢◌, ℕ, ◌+◌, ◌<◌, ◌≤◌, ◌^◌, T, List, [], ◌∷◌, ◌++◌, length, take, drop}
use Rattle.std.proofs.Common.{sym, ap, subst, ◌∙◌, arith, inl}
use Rattle.std.specs.Prelude.{ℤ, pos, neg_ℤ, ◌*ℤ◌}
use Rattle.std.proofs.lemmas.Int.{ints, to_z-of_z}
use mir.Syntax.{w8, w128}
use mir.Val.{SFits, to_z, of_z}
use Rattle.std.specs.List.{AllByRecursion}
use Rattle.std.specs.List.Sorted.{IsSorted}
use Rattle.std.specs.Cmp.Lexicographic.{nat_list_cmp_total}
use Rattle.bracket_poly.specs.Products.{IsSign}
use Rattle.bracket_poly.specs.Tracked.{fits}
use Rattle.bracket_terms.specs.Uses.{IsLogUse, use_by}
use Rattle.coordinate_model.specs.Sequences.{IsRank}
use Rattle.coordinate_model.specs.Key.{Key, row_cmp, IsKey}
use Rattle.coordinate_model.proofs.Exponents.{IsAscending}
use Rattle.coordinate_model.proofs.IntegerRing.{integer_ring}
use Rattle.coordinate_model.proofs.KeySumLaws.{sorted_ascending}
use Rattle.coordinate_model.proofs.Orders.{IsLeast}
use Rattle.coordinate_model.proofs.SortedRows.{sorted-ordered}
use Rattle.coordinate_model.proofs.WordLemmas.{ordered_ascending}
use Rattle.tableau_order.specs.Standard.{IsFirstViolation, row_at}
use Rattle.tableau_order.specs.Violations.{alpha_at, beta_at, gamma_at}
use Rattle.syzygies.specs.declared.place.Parts.{Parts}
use Rattle.syzygies.specs.Places.{ArePartsAt, rest_at}
use Rattle.syzygies.proofs.Rewriting.{two_rows}
use Rattle.straightening.specs.Turns.{use_at}
use Rattle.straightening.proofs.Rewritings.{sizes, rest_rows}

-- ---- the rest rows ascend

abbrev Ascends : List (List ℕ) → Type 0
Ascends = IsAscending nat_list_cmp_total

least_without : (r low high : List ℕ) (front back : List (List ℕ))
    → IsLeast nat_list_cmp_total r (front ++ low ∷ high ∷ back) → IsLeast nat_list_cmp_total r (front ++ back)
least_without r low high [] back h = h.1.1
least_without r low high (s ∷ front) back h = (h.0, least_without r low high front back h.1)

ascends_without : (low high : List ℕ) (front back : List (List ℕ)) → Ascends (front ++ low ∷ high ∷ back)
    → Ascends (front ++ back)
ascends_without low high [] back h = h.1.1
ascends_without low high (r ∷ front) back h =
    (least_without r low high front back h.0, ascends_without low high front back h.1)

rest_ascends : (rows : List (List ℕ)) (i : ℕ) → i + 1 < length rows → IsSorted row_cmp rows
    → IsSorted row_cmp (rest_at rows i)
rest_ascends rows i l h =
    let a : Ascends (rest_at rows i) =
    ascends_without (row_at rows i) (row_at rows (i + 1)) (take i rows) (drop (i + 2) rows)
    (subst Ascends (two_rows rows i l) (sorted_ascending rows h)) in
    subst (λ (rest : List (List ℕ)). IsSorted row_cmp rest) (ordered_ascending row_cmp nat_list_cmp_total (rest_at rows i) a)
    (sorted-ordered nat_list_cmp_total (rest_at rows i))

-- ---- the use is well formed

not_zero_opposite : (c : ℤ) → c ≢ pos 0 → neg_ℤ c ≢ pos 0
not_zero_opposite c h e = h (omega (arith, ints))

not_least_opposite : (c : ℤ) → T (fits c) → neg_ℤ c ≢ neg_ℤ (pos (2 ^ 127))
not_least_opposite c h e =
    let same : c ≡ pos (2 ^ 127) = omega (arith, ints) in
    subst (λ (z : ℤ). T (fits z)) same h

pub log_use : (d : ℕ) (t : Key × ℤ) (i j : ℕ) → IsRank d → IsKey d 64 t.0 → IsFirstViolation d t.0.rows i j
    → AllByRecursion (λ e. e ≤ 1000) t.0.exponents → t.1 ≢ pos 0 → T (fits t.1) → IsLogUse d (use_at t (i, j))
log_use d t i j rank key v degrees z small = record {
  rank = rank;
  formed = record {
    beta_points = (sizes d 64 t i j rank key v).beta;
    other_points = (sizes d 64 t i j rank key v).others;
    not_zero = not_zero_opposite t.1 z;
    not_least = not_least_opposite t.1 small;
    ascending = rest_ascends t.0.rows i v.within key.ascending;
    small = degrees;
  };
  parameters = key.parameters;
  rows = rest_rows d 64 t i j rank key v;
}

-- ---- its parts

-- what the multiplier is where the sign is +1
pub multiplier_is : (m c s : ℤ) → SFits w128 m → SFits w128 c → s ≡ pos 1
    → m ≡ neg_ℤ (to_z w128 (of_z w128 c) *ℤ to_z w8 (of_z w8 s)) → to_z w128 (of_z w128 m) ≡ neg_ℤ c
multiplier_is m c s p q e f =
    to_z-of_z w128 m p ∙ f ∙ ap (λ z. neg_ℤ (z *ℤ to_z w8 (of_z w8 s))) (to_z-of_z w128 c q)
    ∙ ap (λ z. neg_ℤ (c *ℤ to_z w8 (of_z w8 z))) e ∙ ap neg_ℤ (integer_ring.mul_one c)

pub is_sign : (s : ℤ) → s ≡ pos 1 → IsSign (to_z w8 (of_z w8 s))
is_sign s e = inl (ap (λ z. to_z w8 (of_z w8 z)) e)

pub same_use : (d : ℕ) (t : Key × ℤ) (seen : List (List ℕ)) (i j : ℕ) (parts : Parts) (m : ℤ) (es : List ℕ)
    (rest : List (List ℕ)) (alpha beta gamma : List ℕ) → IsRank d → IsKey d 64 t.0 → IsFirstViolation d t.0.rows i j
    → seen ≡ t.0.rows → ArePartsAt j (row_at seen i) (row_at seen (i + 1)) parts → m ≡ neg_ℤ t.1
    → es ≡ t.0.exponents → rest ≡ rest_at seen i → alpha ≡ take parts.alpha_len parts.alpha
    → beta ≡ take (d + 1) parts.beta → gamma ≡ take parts.gamma_len parts.gamma
    → use_by m es rest alpha beta gamma ≡ use_at t (i, j)
same_use d t seen i j parts m es rest alpha beta gamma rank key v e h em ee er ea eb eg =
    let here : ArePartsAt j (row_at t.0.rows i) (row_at t.0.rows (i + 1)) parts =
    subst (λ (rows : List (List ℕ)). ArePartsAt j (row_at rows i) (row_at rows (i + 1)) parts) e h in
    let a : alpha ≡ alpha_at j (row_at t.0.rows i) = ea ∙ here.alpha.points_are in
    let b : beta ≡ beta_at j (row_at t.0.rows i) (row_at t.0.rows (i + 1)) =
    eb ∙ ap (λ n. take n parts.beta) (sym (sizes d 64 t i j rank key v).beta) ∙ here.beta.points_are in
    let g : gamma ≡ gamma_at j (row_at t.0.rows (i + 1)) = eg ∙ here.gamma.points_are in
    let r : rest ≡ rest_at t.0.rows i = er ∙ ap (λ (rows : List (List ℕ)). rest_at rows i) e in
    λ x. record {
      alpha = a x;
      beta = b x;
      gamma = g x;
      multiplier = em x;
      exponents = ee x;
      rest = r x;
    }
