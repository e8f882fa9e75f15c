-- What single instructions make, by what the earlier ones made.
use Rattle.std.proofs.Common.{◌≡◌, refl, sym, ap, ap₂, ◌∙◌, subst, ℕ, ◌+◌, ◌-◌, ◌<◌, List, [], ◌∷◌, map, length, arith}
use Rattle.std.specs.Prelude.{ℤ, pos, Option, Some, slice_index_or}
use Rattle.std.proofs.lemmas.List.{length-map}
use Rattle.coordinate_model.specs.Sequences.{IsRank, subsets}
use Rattle.coordinate_model.specs.Brackets.{Coords, of_point}
use Rattle.coordinate_model.proofs.Ranks.{by_rank}
use Rattle.coordinate_model.specs.Limited.{Limited}
use Rattle.coordinate_model.specs.InOrder.{join_in_order, meet_in_order}
use Rattle.coordinate_model.specs.PlacedPoints.{placed_within}
use Rattle.cayley_terms.specs.declared.instr.Instr.{Instr}
use Rattle.cayley_terms.specs.declared.instr.Instr.TheVariants.{Join, Meet, On, Conic}
use Rattle.cayley_terms.specs.Figures.{Figure, no_figure}
use Rattle.placement.specs.Figures.{WithinLimit, coordinates_of, instr_in_order}
use Rattle.placement.specs.Numbers.{Holds, combinations_of, conic_of}
use Rattle.placement.specs.Ready.{step_at, IsPoint, CanMake, AreMade}
use Rattle.placement.proofs.TermLaws.{mixed-made, conic-made}

-- the coordinates of a free point
AllPlaced : ℕ → Type 0
AllPlaced d =
    (p : List ℤ) → length p ≡ d → map (λ z. Some z) p ≡ map (of_point Limited (placed_within p)) (subsets d 1)

placed_2 : AllPlaced 2
unfolding AllPlaced
placed_2 [] e = absurd (omega arith)
placed_2 (x ∷ []) e = absurd (omega arith)
placed_2 (x ∷ y ∷ []) e = refl
placed_2 (x ∷ y ∷ z ∷ p) e = absurd (omega arith)

placed_3 : AllPlaced 3
unfolding AllPlaced
placed_3 [] e = absurd (omega arith)
placed_3 (x ∷ []) e = absurd (omega arith)
placed_3 (x ∷ y ∷ []) e = absurd (omega arith)
placed_3 (x ∷ y ∷ z ∷ []) e = refl
placed_3 (x ∷ y ∷ z ∷ w ∷ p) e = absurd (omega arith)

placed_4 : AllPlaced 4
unfolding AllPlaced
placed_4 [] e = absurd (omega arith)
placed_4 (x ∷ []) e = absurd (omega arith)
placed_4 (x ∷ y ∷ []) e = absurd (omega arith)
placed_4 (x ∷ y ∷ z ∷ []) e = absurd (omega arith)
placed_4 (x ∷ y ∷ z ∷ w ∷ []) e = refl
placed_4 (x ∷ y ∷ z ∷ w ∷ v ∷ p) e = absurd (omega arith)

pub free_made : (d : ℕ) → IsRank d → (p : List ℤ) → length p ≡ d
    → map (λ z. Some z) p ≡ map (of_point Limited (placed_within p)) (subsets d 1)
unfolding AllPlaced
free_made d rank = by_rank AllPlaced placed_2 placed_3 placed_4 d rank

module _ (d : ℕ) (steps : List ℕ) (objects : List (List ℤ)) (figures : List (Figure Limited))
    (m : AreMade d steps objects figures) (points : List (List ℤ)) (params : List ℤ) where
  abbrev pub coords : ℕ → Coords Limited
  coords k = (slice_index_or figures k (no_figure Limited)).coordinates

  abbrev pub object : ℕ → List ℤ
  object k = slice_index_or objects k []

  abbrev pub made_of : Instr → List (Option ℤ)
  made_of i = coordinates_of Limited d (instr_in_order (WithinLimit points params) d figures i)

  pub join_is : (a b : ℕ) → a < length objects → b < length objects
      → map (join_in_order Limited (step_at steps a) (coords a) (coords b))
      (subsets d (step_at steps a + step_at steps b))
      ≡ made_of (Join a b)
  join_is a b h k =
      ap₂ (λ i j. map (join_in_order Limited i (coords a) (coords b)) (subsets d (i + j))) (m.steps_of a h)
      (m.steps_of b k)

  pub meet_is : (a b : ℕ) → a < length objects → b < length objects
      → map (meet_in_order Limited d (step_at steps a) (step_at steps b) (coords a) (coords b))
      (subsets d (step_at steps a + step_at steps b - d))
      ≡ made_of (Meet a b)
  meet_is a b h k =
      ap₂ (λ i j. map (meet_in_order Limited d i j (coords a) (coords b)) (subsets d (i + j - d))) (m.steps_of a h)
      (m.steps_of b k)

  pub point_holds : (k : ℕ) → IsPoint steps (length objects) k → Holds d 1 (coords k) (object k)
  point_holds k h = subst (λ j. Holds d j (coords k) (object k)) h.1 (m.coordinates k h.0)

  pub mixed_is : (a b s t : ℕ) → IsPoint steps (length objects) a → IsPoint steps (length objects) b
      → combinations_of (slice_index_or params s (pos 0)) (slice_index_or params t (pos 0)) (object a) (object b)
      ≡ made_of (On a b s t)
  mixed_is a b s t h k =
      mixed-made (coords a) (coords b) (slice_index_or params s (pos 0)) (slice_index_or params t (pos 0)) (subsets d 1)
      (object a) (object b) (point_holds a h) (point_holds b k)

  -- a point of the plane
  plane : d ≡ 3 → (k : ℕ) → IsPoint steps (length objects) k → Holds 3 1 (coords k) (object k)
  plane e k h = subst (λ n. Holds n 1 (coords k) (object k)) e (point_holds k h)

  three : d ≡ 3 → (k : ℕ) → IsPoint steps (length objects) k → length (object k) ≡ 3
  three e k h = sym (length-map (object k) (λ z. Some z)) ∙ ap length (plane e k h) ∙ length-map (subsets 3 1)
      (coords k)

  pub conic_is : (p1 p2 p3 p4 p5 p6 : ℕ) → CanMake d steps (length objects) (Conic p1 p2 p3 p4 p5 p6)
      → conic_of (object p1) (object p2) (object p3) (object p4) (object p5) (object p6) ∷ []
      ≡ made_of (Conic p1 p2 p3 p4 p5 p6)
  conic_is p1 p2 p3 p4 p5 p6 h =
      let h1 = h.1 in
      let h2 = h1.1 in
      let h3 = h2.1 in
      let h4 = h3.1 in
      let h5 = h4.1 in
      let e = h.0 in
      ap (λ (z : Option ℤ). z ∷ [])
      (conic-made (coords p1) (coords p2) (coords p3) (coords p4) (coords p5) (coords p6)
      (object p1) (object p2) (object p3) (object p4) (object p5) (object p6)
      (three e p1 h1.0) (three e p2 h2.0) (three e p3 h3.0) (three e p4 h4.0) (three e p5 h5.0) (three e p6 h5.1.0)
      (plane e p1 h1.0) (plane e p2 h2.0) (plane e p3 h3.0) (plane e p4 h4.0) (plane e p5 h5.0) (plane e p6 h5.1.0))
