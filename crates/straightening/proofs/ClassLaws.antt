-- The rows over given points: each row list with these points is among those that are listed, and nothing else.
use Rattle.std.proofs.Common.{◌≡◌, ◌≢◌, ℕ, zero, suc, ◌+◌, ◌<◌, ◌≤◌, ◌==◌, true, false, List, [], ◌∷◌, map}
use Rattle.std.proofs.Common.{length, refl, sym, ap, subst, ◌∙◌, arith, eq-eqb, ne_eqb, length-append, nat_cmp, nat_lt, inl, inr}
use Rattle.std.proofs.lemmas.Bool.{ltb-true, ltb-false}
use Rattle.std.proofs.lemmas.Bool.Decides.{eqb_tells}
use Rattle.std.specs.Prelude.{Contains}
use Rattle.std.specs.Cmp.{nat_cmp_total}
use Rattle.std.specs.List.{AllByRecursion}
use Rattle.std.proofs.lemmas.List.Elements.{Contains-append_left, Contains-append_right}
use Rattle.coordinate_model.specs.Sequences.{splits}
use Rattle.coordinate_model.specs.Words.{ordered}
use Rattle.coordinate_model.specs.Key.{points}
use Rattle.coordinate_model.specs.Syzygy.{sorted}
use Rattle.coordinate_model.proofs.Counts.{many-append, one_if}
use Rattle.coordinate_model.proofs.Exponents.{ascending_ordered}
use Rattle.coordinate_model.proofs.Increasing.{IsIncreasing, IsRising}
use Rattle.coordinate_model.proofs.Keys.{times_in, same_items}
use Rattle.coordinate_model.proofs.Orders.{count_ordered}
use Rattle.coordinate_model.proofs.Sorting.{length-ordered}
use Rattle.coordinate_model.proofs.Splits.{IsSplit, splits-are, all_map, all_append, all_both, all_so}
use Rattle.coordinate_model.proofs.StdSort.{ascending_rising}
use Rattle.straightening.specs.Bounds.{row_lists}
use Rattle.straightening.proofs.Members.{From, contains_here, contains_none, contains_cases, contains_map, of_map}
use Rattle.straightening.proofs.Members.{contains_flat_map, of_flat_map, holds_of_member}

-- ---- how often a point comes

one_same : (i x : ℕ) → i ≡ x → one_if (i == x) ≡ 1
one_same i x e = ap one_if (eq-eqb i x e)

one_other : (i x : ℕ) → i ≢ x → one_if (i == x) ≡ 0
one_other i x e = ap one_if (ne_eqb i x e)

none_below : (i p : ℕ) (xs : List ℕ) → i < p → AllByRecursion (λ q. p ≤ q) xs → times_in i xs ≡ 0
none_below i p [] l h = refl
none_below i p (x ∷ xs) l h =
    let le : p ≤ x = h.0 in
    let here : one_if (i == x) ≡ 0 = one_other i x (omega arith) in
    let rest : times_in i xs ≡ 0 = none_below i p xs l h.1 in
    omega arith

-- sorted points rise, and have each point as often
pub sorted_rises : (ps : List ℕ) → IsRising (sorted ps)
sorted_rises ps = ascending_rising (ordered nat_cmp ps) (ascending_ordered nat_cmp_total ps)

pub times_sorted : (i : ℕ) (ps : List ℕ) → times_in i (sorted ps) ≡ times_in i ps
times_sorted i ps = count_ordered nat_cmp_total (λ x. i == x) ps

-- lists with the same points have the same length
pub same_length : (xs ys : List ℕ) → ((i : ℕ) → times_in i xs ≡ times_in i ys) → length xs ≡ length ys
same_length xs ys h =
    sym (length-ordered xs)
    ∙ ap length (same_items (sorted xs) (sorted ys) (sorted_rises xs) (sorted_rises ys)
    (λ i. times_sorted i xs ∙ h i ∙ sym (times_sorted i ys)))
    ∙ length-ordered ys

-- ---- one row

-- a way to choose the row from the points
record IsChosen (row ps : List ℕ) : Type 0 where
  others : List ℕ
  inside : Contains (splits (length row) ps) (row, others)
  rising : IsRising others
  times : (i : ℕ) → times_in i ps ≡ times_in i row + times_in i others

with_first : (x k : ℕ) (ps c o : List ℕ) → Contains (splits k ps) (c, o)
    → Contains (splits (suc k) (x ∷ ps)) (x ∷ c, o)
with_first x k ps c o h =
    Contains-append_left (map (λ (s : List ℕ × List ℕ). (x ∷ s.0, s.1)) (splits k ps)) _ _
    (contains_map (λ (s : List ℕ × List ℕ). (x ∷ s.0, s.1)) (splits k ps) (c, o) h)

without_first : (x k : ℕ) (ps c o : List ℕ) → Contains (splits (suc k) ps) (c, o)
    → Contains (splits (suc k) (x ∷ ps)) (c, x ∷ o)
without_first x k ps c o h =
    Contains-append_right (map (λ (s : List ℕ × List ℕ). (x ∷ s.0, s.1)) (splits k ps)) _ _
    (contains_map (λ (s : List ℕ × List ℕ). (s.0, x ∷ s.1)) (splits (suc k) ps) (c, o) h)

-- a point that comes among points is no less than what is below all of them
at_least : (x y : ℕ) (ps : List ℕ) → AllByRecursion (λ q. x ≤ q) ps → 1 ≤ times_in y ps → x ≤ y
at_least x y ps h m = elim (nat_lt y x) as (λ b. nat_lt y x ≡ b → x ≤ y) [
  | false ↦ λ e. ltb-false y x e
  | true ↦ λ e. let z : times_in y ps ≡ 0 = none_below y x ps (ltb-true y x e) h in absurd (omega arith)
] refl

all_at_least : (x : ℕ) (ps qs : List ℕ) → AllByRecursion (λ q. x ≤ q) ps → ((i : ℕ) → times_in i qs ≤ times_in i ps)
    → AllByRecursion (λ q. x ≤ q) qs
all_at_least x ps [] h l = tt
all_at_least x ps (q ∷ qs) h l = (
  (let here : one_if (q == q) ≡ 1 = one_same q q refl in
      let much : one_if (q == q) + times_in q qs ≤ times_in q ps = l q in
      at_least x q ps h (omega arith)),
  all_at_least x ps qs h (λ i. let m : one_if (i == q) + times_in i qs ≤ times_in i ps = l i in omega arith),
)

module _ (x y : ℕ) (row ps : List ℕ) (h : IsIncreasing (y ∷ row)) (r : IsRising (x ∷ ps))
    (l : (i : ℕ) → times_in i (y ∷ row) ≤ times_in i (x ∷ ps)) where
  -- where the least point is the first of the row
  fits_behind : y ≡ x → (i : ℕ) → times_in i row ≤ times_in i ps
  fits_behind e i =
      let m : one_if (i == y) + times_in i row ≤ one_if (i == x) + times_in i ps = l i in
      let s : one_if (i == y) ≡ one_if (i == x) = ap (λ z. one_if (i == z)) e in
      omega arith

  with_least : y ≡ x → IsChosen row ps → IsChosen (y ∷ row) (x ∷ ps)
  with_least e c = record {
    others = c.others;
    inside =
        subst (λ (z : ℕ). Contains (splits (suc (length row)) (x ∷ ps)) (z ∷ row, c.others)) (sym e)
        (with_first x (length row) ps row c.others c.inside);
    rising = c.rising;
    times =
        λ i. let m : times_in i ps ≡ times_in i row + times_in i c.others = c.times i in
        let s : one_if (i == y) ≡ one_if (i == x) = ap (λ z. one_if (i == z)) e in
        omega arith;
  }

  -- and where it is not
  less : y ≢ x → x < y
  less e =
      let m : one_if (y == y) + times_in y row ≤ one_if (y == x) + times_in y ps = l y in
      let a : one_if (y == y) ≡ 1 = one_same y y refl in
      let b : one_if (y == x) ≡ 0 = one_other y x e in
      let le : x ≤ y = at_least x y ps r.0 (omega arith) in
      omega (arith, e)

  fits_later : y ≢ x → (i : ℕ) → times_in i (y ∷ row) ≤ times_in i ps
  fits_later e i =
      let m : times_in i (y ∷ row) ≤ one_if (i == x) + times_in i ps = l i in
      elim (eqb_tells i x) [
        | inl s ↦
            let z : times_in i (y ∷ row) ≡ 0 =
            none_below i y (y ∷ row) (let k : x < y = less e in let j : i ≡ x = s.1 in omega arith)
            (omega arith, all_so (λ q. y < q) (λ q. y ≤ q) (λ q m. omega arith) row h.0) in
            omega arith
        | inr s ↦ let z : one_if (i == x) ≡ 0 = ap one_if s.0 in omega arith
      ]

  without_least : IsChosen (y ∷ row) ps → IsChosen (y ∷ row) (x ∷ ps)
  without_least c = record {
    others = x ∷ c.others;
    inside = without_first x (length row) ps (y ∷ row) c.others c.inside;
    rising = (
      all_at_least x ps c.others r.0
          (λ i. let m : times_in i ps ≡ times_in i (y ∷ row) + times_in i c.others = c.times i in omega arith),
      c.rising,
    );
    times =
        λ i. let m : times_in i ps ≡ times_in i (y ∷ row) + times_in i c.others = c.times i in
        omega arith;
  }

chosen : (row ps : List ℕ) → IsIncreasing row → IsRising ps → ((i : ℕ) → times_in i row ≤ times_in i ps)
    → IsChosen row ps
chosen [] ps h r l = record { others = ps; inside = contains_here ([], ps) []; rising = r; times = λ i. omega arith }
chosen (y ∷ row) [] h r l =
    let here : one_if (y == y) ≡ 1 = one_same y y refl in
    let m : one_if (y == y) + times_in y row ≤ 0 = l y in
    absurd (omega arith)
chosen (y ∷ row) (x ∷ ps) h r l = elim (eqb_tells y x) [
  | inl e ↦ with_least x y row ps h r l e.1 (chosen row ps h.1 r.1 (fits_behind x y row ps h r l e.1))
  | inr e ↦ without_least x y row ps h r l (chosen (y ∷ row) ps h r.1 (fits_later x y row ps h r l e.1))
]

-- each part of a split
record IsPart (k : ℕ) (ps : List ℕ) (s : List ℕ × List ℕ) : Type 0 where
  chosen : length s.0 ≡ k
  others : length s.1 + k ≡ length ps
  first : IsRising s.0
  second : IsRising s.1
  times : (i : ℕ) → times_in i ps ≡ times_in i s.0 + times_in i s.1

parts : (k : ℕ) (ps : List ℕ) → IsRising ps → AllByRecursion (IsPart k ps) (splits k ps)
parts zero ps h =
    (record { chosen = refl; others = omega arith; first = tt; second = h; times = λ i. omega arith }, tt)
parts (suc k) [] h = tt
parts (suc k) (x ∷ ps) h =
    all_append (IsPart (suc k) (x ∷ ps)) _ _
    (all_map (λ s. IsPart k ps s × IsSplit (λ q. x ≤ q) k (length ps) s) (IsPart (suc k) (x ∷ ps)) (λ s. (x ∷ s.0, s.1))
    (λ s h. record {
      chosen = ap suc h.0.chosen;
      others = let e : length s.1 + k ≡ length ps = h.0.others in omega arith;
      first = (h.1.first, h.0.first);
      second = h.0.second;
      times =
          λ i. let e : times_in i ps ≡ times_in i s.0 + times_in i s.1 = h.0.times i in omega arith;
    }) (splits k ps)
    (all_both _ _ (splits k ps) (parts k ps h.1) (splits-are (λ q. x ≤ q) k ps h.0)))
    (all_map (λ s. IsPart (suc k) ps s × IsSplit (λ q. x ≤ q) (suc k) (length ps) s) (IsPart (suc k) (x ∷ ps))
    (λ s. (s.0, x ∷ s.1))
    (λ s h. record {
      chosen = h.0.chosen;
      others = let e : length s.1 + suc k ≡ length ps = h.0.others in omega arith;
      first = h.0.first;
      second = (h.1.second, h.0.second);
      times =
          λ i. let e : times_in i ps ≡ times_in i s.0 + times_in i s.1 = h.0.times i in omega arith;
    }) (splits (suc k) ps)
    (all_both _ _ (splits (suc k) ps) (parts (suc k) ps h.1) (splits-are (λ q. x ≤ q) (suc k) ps h.0)))

-- ---- all rows

times_points : (i : ℕ) (r : List ℕ) (rows : List (List ℕ))
    → times_in i (points (r ∷ rows)) ≡ times_in i r + times_in i (points rows)
times_points i r rows = many-append (λ p. i == p) r (points rows)

abbrev HasLength : ℕ → List ℕ → Type 0
HasLength d r = length r ≡ d

length_points : (r : List ℕ) (rows : List (List ℕ)) → length (points (r ∷ rows)) ≡ length r + length (points rows)
length_points r rows = length-append r (points rows)

-- lists of rows of d points with as many points have as many rows
pub same_rows : (d : ℕ) (xs ys : List (List ℕ)) → 1 ≤ d → AllByRecursion (HasLength d) xs
    → AllByRecursion (HasLength d) ys → length (points xs) ≡ length (points ys) → length xs ≡ length ys
same_rows d [] [] l h k e = refl
same_rows d [] (y ∷ ys) l h k e =
    let a : length (points (y ∷ ys)) ≡ length y + length (points ys) = length_points y ys in
    let b : length y ≡ d = k.0 in
    let c : 0 ≡ length (points (y ∷ ys)) = e in
    absurd (omega arith)
same_rows d (x ∷ xs) [] l h k e =
    let a : length (points (x ∷ xs)) ≡ length x + length (points xs) = length_points x xs in
    let b : length x ≡ d = h.0 in
    let c : length (points (x ∷ xs)) ≡ 0 = e in
    absurd (omega arith)
same_rows d (x ∷ xs) (y ∷ ys) l h k e =
    ap suc (same_rows d xs ys l h.1 k.1
    (let a : length (points (x ∷ xs)) ≡ length x + length (points xs) = length_points x xs in
    let b : length (points (y ∷ ys)) ≡ length y + length (points ys) = length_points y ys in
    let f : length x ≡ d = h.0 in
    let g : length y ≡ d = k.0 in
    omega arith))

abbrev IsIncreasingRow : ℕ → List ℕ → Type 0
IsIncreasingRow d r = (length r ≡ d) × IsIncreasing r

-- each list of increasing rows with the points is listed
pub listed : (d : ℕ) (ps : List ℕ) (rows : List (List ℕ)) → AllByRecursion (IsIncreasingRow d) rows → IsRising ps
    → ((i : ℕ) → times_in i (points rows) ≡ times_in i ps) → Contains (row_lists d (length rows) ps) rows
listed d ps [] h r e = contains_here [] []
listed d ps (row ∷ rows) h r e =
    let c : IsChosen row ps =
    chosen row ps h.0.1 r
    (λ i. let a : times_in i (points (row ∷ rows)) ≡ times_in i row + times_in i (points rows) = times_points i row rows in
    let b : times_in i (points (row ∷ rows)) ≡ times_in i ps = e i in omega arith) in
    contains_flat_map (λ (s : List ℕ × List ℕ). map (λ rs. s.0 ∷ rs) (row_lists d (length rows) s.1)) (splits d ps)
    (row, c.others) (row ∷ rows)
    (subst (λ (k : ℕ). Contains (splits k ps) (row, c.others)) h.0.0 c.inside)
    (contains_map (λ rs. row ∷ rs) (row_lists d (length rows) c.others) rows
    (listed d c.others rows h.1 c.rising
    (λ i. let a : times_in i (points (row ∷ rows)) ≡ times_in i row + times_in i (points rows) = times_points i row rows in
    let b : times_in i (points (row ∷ rows)) ≡ times_in i ps = e i in
    let m : times_in i ps ≡ times_in i row + times_in i c.others = c.times i in
    omega arith)))

-- and what is listed has rising rows of d points, and the points
pub record IsListed (d : ℕ) (ps : List ℕ) (rows : List (List ℕ)) : Type 0 where
  pub each : AllByRecursion (λ r. HasLength d r × IsRising r) rows
  pub times : (i : ℕ) → times_in i (points rows) ≡ times_in i ps

pub of_listed : (d : ℕ) (ps : List ℕ) (like rows : List (List ℕ)) → AllByRecursion (HasLength d) like
    → length ps ≡ length (points like) → IsRising ps → Contains (row_lists d (length like) ps) rows
    → IsListed d ps rows
of_listed d (p ∷ ps) [] rows h e r c = absurd (omega arith)
of_listed d [] [] rows h e r c = elim (contains_cases [] rows [] c) [
  | inl s ↦ subst (IsListed d []) s (record { each = tt; times = λ i. refl })
  | inr b ↦ absurd (contains_none rows b)
]
of_listed d ps (row ∷ like) rows h e r c =
    let f : From (λ (s : List ℕ × List ℕ) z. Contains (map (λ rs. s.0 ∷ rs) (row_lists d (length like) s.1)) z)
    (splits d ps) rows =
    of_flat_map (λ (s : List ℕ × List ℕ). map (λ rs. s.0 ∷ rs) (row_lists d (length like) s.1)) (splits d ps) rows c in
    let p : IsPart d ps f.value = holds_of_member (IsPart d ps) (splits d ps) f.value (parts d ps r) f.inside in
    let g : From (λ rs z. f.value.0 ∷ rs ≡ z) (row_lists d (length like) f.value.1) rows =
    of_map (λ rs. f.value.0 ∷ rs) (row_lists d (length like) f.value.1) rows f.image in
    let rest : IsListed d f.value.1 g.value =
    of_listed d f.value.1 like g.value h.1
    (let a : length (points (row ∷ like)) ≡ length row + length (points like) = length_points row like in
    let b : length f.value.1 + d ≡ length ps = p.others in
    let l : length row ≡ d = h.0 in
    omega arith) p.second g.inside in
    subst (IsListed d ps) g.image
    (record {
      each = ((p.chosen, p.first), rest.each);
      times =
          λ i. let a : times_in i (points (f.value.0 ∷ g.value)) ≡ times_in i f.value.0 + times_in i (points g.value)
          = times_points i f.value.0 g.value in
          let b : times_in i (points g.value) ≡ times_in i f.value.1 = rest.times i in
          let m : times_in i ps ≡ times_in i f.value.0 + times_in i f.value.1 = p.times i in
          omega arith;
    })
