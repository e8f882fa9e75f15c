-- What a program makes within the limit is what it makes in unbounded integers.
use Rattle.std.proofs.Common.{◌≡◌, refl, ap, ap₂, ◌∙◌, subst, ℕ, zero, suc, ◌+◌, ◌-◌, List, [], ◌∷◌, ◌++◌, map}
use Rattle.std.proofs.Common.{get_or}
use Rattle.std.specs.Prelude.{ℤ, Option, Some, None, fold}
use mathlib.Core.Path.{fun_ext}
use Rattle.coordinate_model.specs.Ring.{Integers}
use Rattle.coordinate_model.specs.Sequences.{subsets}
use Rattle.coordinate_model.specs.Brackets.{Coords, of_point}
use Rattle.coordinate_model.proofs.IntegerRing.{integer_ring}
use Rattle.coordinate_model.specs.Limited.{Limited}
use Rattle.coordinate_model.proofs.InOrderLaws.{join-in_order, meet-in_order, conic-in_order}
use Rattle.coordinate_model.proofs.LimitedLaws.{Shows, ShowCoords, join-shows, meet-shows, on-shows, conic-shows}
use Rattle.cayley_terms.specs.declared.instr.Instr.{Instr}
use Rattle.cayley_terms.specs.declared.instr.Instr.TheVariants.{Free, Join, Meet, On, Conic}
use Rattle.cayley_terms.specs.Figures.{Figure, no_figure}
use Rattle.cayley_terms.specs.Instrs.{made_behind, one_more, figure_at, instr_figure, figures}
use Rattle.placement.specs.Figures.{coordinates_of, instr_in_order, figures_in_order, Placement, WithinLimit}

-- ---- the order of computing

module _ (points : List (List ℤ)) (params : List ℤ) (d : ℕ) where
  abbrev P : Type 0
  P = Figure Integers

  -- an instruction makes the same in order
  instr-same : (before : List P) (i : Instr)
      → instr_in_order (Placement points params) d before i ≡ instr_figure (Placement points params) d before i
  instr-same before (Free i) = refl
  instr-same before (Join a b) =
      let x : P = figure_at (Placement points params) before a in
      let y : P = figure_at (Placement points params) before b in
      ap (λ (c : Coords Integers). let f : P = record { step = x.step + y.step; coordinates = c } in f)
      (fun_ext (join-in_order Integers integer_ring x.step x.coordinates y.coordinates))
  instr-same before (Meet a b) =
      let x : P = figure_at (Placement points params) before a in
      let y : P = figure_at (Placement points params) before b in
      ap (λ (c : Coords Integers). let f : P = record { step = x.step + y.step - d; coordinates = c } in f)
      (fun_ext (meet-in_order Integers integer_ring d x.step y.step x.coordinates y.coordinates))
  instr-same before (On a b s t) = refl
  instr-same before (Conic p1 p2 p3 p4 p5 p6) =
      let at : ℕ → Coords Integers = λ n. (figure_at (Placement points params) before n).coordinates in
      ap (λ (z : ℤ). let f : P = record { step = 0; coordinates = λ K. z } in f)
      (conic-in_order Integers integer_ring (at p1) (at p2) (at p3) (at p4) (at p5) (at p6))

  -- and so do all
  figures-same : (instrs : List Instr)
      → figures_in_order (Placement points params) d instrs ≡ figures (Placement points params) d instrs
  figures-same instrs =
      ap (λ (f : List P → Instr → P). made_behind f [] instrs) (fun_ext (λ before. fun_ext (instr-same before)))

  -- ---- the limit

  -- the object within the limit is that of integers
  pub record ShowsFigure (x : Figure Limited) (y : P) : Type 0 where
    pub step : x.step ≡ y.step
    pub coordinates : ShowCoords x.coordinates y.coordinates

  abbrev pub ShowFigures : List (Figure Limited) → List P → Type 0
  ShowFigures [] [] = Unit {0}
  ShowFigures [] (y ∷ ys) = ⊥
  ShowFigures (x ∷ xs) [] = ⊥
  ShowFigures (x ∷ xs) (y ∷ ys) = ShowsFigure x y × ShowFigures xs ys

  pub at : (xs : List (Figure Limited)) (ys : List P) (n : ℕ) → ShowFigures xs ys
      → ShowsFigure (get_or xs n (no_figure Limited)) (get_or ys n (no_figure Integers))
  at [] [] n e = record { step = refl; coordinates = λ K. refl }
  at [] (y ∷ ys) n e = absurd e
  at (x ∷ xs) [] n e = absurd e
  at (x ∷ xs) (y ∷ ys) zero e = e.0
  at (x ∷ xs) (y ∷ ys) (suc n) e = at xs ys n e.1

  push : (xs : List (Figure Limited)) (ys : List P) (x : Figure Limited) (y : P) → ShowFigures xs ys → ShowsFigure x y
      → ShowFigures (xs ++ x ∷ []) (ys ++ y ∷ [])
  push [] [] x y e f = (f, tt)
  push [] (z ∷ ys) x y e f = absurd e
  push (z ∷ xs) [] x y e f = absurd e
  push (w ∷ xs) (z ∷ ys) x y e f = (e.0, push xs ys x y e.1 f)

  point-shows : (i : ℕ)
      → ShowCoords (of_point Limited ((WithinLimit points params).free i))
      (of_point Integers ((Placement points params).free i))
  point-shows i [] = refl
  point-shows i (j ∷ js) = refl

  instr-shows : (xs : List (Figure Limited)) (ys : List P) (i : Instr) → ShowFigures xs ys
      → ShowsFigure (instr_in_order (WithinLimit points params) d xs i)
      (instr_in_order (Placement points params) d ys i)
  instr-shows xs ys (Free i) e = record { step = refl; coordinates = point-shows i }
  instr-shows xs ys (Join a b) e =
      let p = at xs ys a e in
      let q = at xs ys b e in
      record {
        step = ap₂ ◌+◌ p.step q.step;
        coordinates = λ K. rw p.step (join-shows _ _ _ _ p.coordinates q.coordinates _ K);
      }
  instr-shows xs ys (Meet a b) e =
      let p = at xs ys a e in
      let q = at xs ys b e in
      record {
        step = ap₂ (λ m n. m + n - d) p.step q.step;
        coordinates = λ K. rw p.step (rw q.step (meet-shows _ _ _ _ p.coordinates q.coordinates d _ _ K));
      }
  instr-shows xs ys (On a b s t) e =
      let p = at xs ys a e in
      let q = at xs ys b e in
      record {
        step = refl;
        coordinates = on-shows _ _ _ _ p.coordinates q.coordinates _ _ _ _ refl refl;
      }
  instr-shows xs ys (Conic p1 p2 p3 p4 p5 p6) e =
      record {
        step = refl;
        coordinates = λ K. conic-shows _ _ _ _ _ _ _ _ _ _ _ _ (at xs ys p1 e).coordinates (at xs ys p2 e).coordinates
            (at xs ys p3 e).coordinates (at xs ys p4 e).coordinates (at xs ys p5 e).coordinates
            (at xs ys p6 e).coordinates;
      }

  behind-shows : (xs : List (Figure Limited)) (ys : List P) (instrs : List Instr) → ShowFigures xs ys
      → ShowFigures (fold (one_more (instr_in_order (WithinLimit points params) d)) xs instrs)
      (fold (one_more (instr_in_order (Placement points params) d)) ys instrs)
  behind-shows xs ys [] e = e
  behind-shows xs ys (i ∷ instrs) e =
      behind-shows (xs ++ instr_in_order (WithinLimit points params) d xs i ∷ [])
      (ys ++ instr_in_order (Placement points params) d ys i ∷ []) instrs
      (push xs ys (instr_in_order (WithinLimit points params) d xs i)
      (instr_in_order (Placement points params) d ys i) e
      (instr-shows xs ys i e))

  pub figures-show : (instrs : List Instr)
      → ShowFigures (figures_in_order (WithinLimit points params) d instrs) (figures (Placement points params) d instrs)
  unfolding made_behind
  figures-show instrs =
      subst (ShowFigures (figures_in_order (WithinLimit points params) d instrs)) (figures-same instrs)
      (behind-shows [] [] instrs tt)

  -- ---- lists of coordinates

  coordinate-is : (z : ℤ) (x : Option ℤ) (y : ℤ) → Some z ≡ x → Shows x y → z ≡ y
  coordinate-is z None y e f = absurd cc
  coordinate-is z (Some x) y e f = let same : z ≡ x = cc in same ∙ f

  some_all : (zs : List ℤ) (A : Coords Limited) (B : Coords Integers) (Ks : List (List ℕ)) → ShowCoords A B
      → map (λ z. Some z) zs ≡ map A Ks → zs ≡ map B Ks
  some_all [] A B [] s e = refl
  some_all [] A B (K ∷ Ks) s e = absurd cc
  some_all (z ∷ zs) A B [] s e = absurd cc
  some_all (z ∷ zs) A B (K ∷ Ks) s e =
      let first : Some z ≡ A K = cc in
      let others : map (λ z. Some z) zs ≡ map A Ks = cc in
      ap₂ (λ (x : ℤ) (xs : List ℤ). x ∷ xs) (coordinate-is z (A K) (B K) first (s K)) (some_all zs A B Ks s others)

  coordinates-are : (zs : List ℤ) (x : Figure Limited) (y : P) → ShowsFigure x y
      → map (λ z. Some z) zs ≡ coordinates_of Limited d x → zs ≡ coordinates_of Integers d y
  coordinates-are zs x y s e =
      some_all zs x.coordinates y.coordinates (subsets d x.step) s.coordinates e
      ∙ ap (λ k. map y.coordinates (subsets d k)) s.step

  -- numbers within the limit are the coordinates in integers
  pub objects-are : (objects : List (List ℤ)) (xs : List (Figure Limited)) (ys : List P) → ShowFigures xs ys
      → map (λ zs. map (λ z. Some z) zs) objects ≡ map (coordinates_of Limited d) xs
      → objects ≡ map (coordinates_of Integers d) ys
  objects-are [] [] [] s e = refl
  objects-are [] [] (y ∷ ys) s e = absurd s
  objects-are [] (x ∷ xs) ys s e = absurd cc
  objects-are (zs ∷ objects) [] ys s e = absurd cc
  objects-are (zs ∷ objects) (x ∷ xs) [] s e = absurd s
  objects-are (zs ∷ objects) (x ∷ xs) (y ∷ ys) s e =
      let first : map (λ z. Some z) zs ≡ coordinates_of Limited d x = cc in
      let others : map (λ zs. map (λ z. Some z) zs) objects ≡ map (coordinates_of Limited d) xs = cc in
      ap₂ (λ (o : List ℤ) (os : List (List ℤ)). o ∷ os) (coordinates-are zs x y s.0 first)
      (objects-are objects xs ys s.1 others)
