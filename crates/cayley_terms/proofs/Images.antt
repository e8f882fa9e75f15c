-- A map between rings that keeps the operations keeps what a construction means.
use Rattle.std.proofs.Common.{◌≡◌, ℕ, suc, Bool, true, false, cond, List, [], ◌∷◌, ◌++◌, map, fold, ◌==◌, refl, ap, ap₂, ◌∙◌}
use Rattle.construction_reader.specs.Said.{Object, Recipe, Claim, Sentence, Account, sentences_of}
use Rattle.construction_reader.specs.Grammar.{params_of}
use Rattle.construction_reader.specs.Words.{◌is◌}
use Rattle.coordinate_model.specs.Ring.{Ops, IsHom, Integers}
use Rattle.coordinate_model.specs.Sequences.{columns}
use Rattle.coordinate_model.specs.Brackets.{Point, Coords, of_point}
use Rattle.coordinate_model.specs.Polynomial.{coordinate, parameter, Polynomials}
use Rattle.coordinate_model.proofs.Hom.{map-append, join-hom, meet-hom, on-hom, hom_keeps}
use Rattle.coordinate_model.proofs.IntegerRing.{integer_ring}
use Rattle.coordinate_model.proofs.PolynomialRing.{polynomial_ring, value_in-operations, value_in-variable}
use Rattle.cayley_terms.specs.Named.{named, place_of}
use Rattle.cayley_terms.specs.Figures.{Figure, no_figure, point, joined, met, mixed, pascal, from_left, conic}
use Rattle.cayley_terms.specs.Meaning.{Frame, Variables, Scene, empty_scene, object_figure, pascal_figure, recipe_figure}
use Rattle.cayley_terms.specs.Meaning.{conic_figure, claim_figure, with_point, with_definition, scene_behind, scene_of}
use Rattle.cayley_terms.specs.Meaning.{definitions, conclusion}
use Rattle.cayley_terms.specs.Values.{At, ConclusionAtPlacement, ConclusionPutIn}

module _ (A B : Ops) {to : A.carrier → B.carrier} (h : IsHom A B to) where
  -- the image of an object
  abbrev pub image : Figure A → Figure B
  image a = record { step = a.step; coordinates = λ K. to (a.coordinates K) }

  abbrev of_step : ℕ → Coords B → Figure B
  of_step s X = record { step = s; coordinates = X }

  by_coordinates : (s : ℕ) (X Y : Coords B) → ((K : List ℕ) → X K ≡ Y K) → of_step s X ≡ of_step s Y
  by_coordinates s X Y e = λ j. record { step = s; coordinates = λ K. e K j }

  image_none : image (no_figure A) ≡ no_figure B
  image_none = by_coordinates 0 _ _ (λ K. h.to_zero)

  image_point : (p : Point A) (q : Point B) → ((j : ℕ) → to (p j) ≡ q j) → image (point A p) ≡ point B q
  image_point p q e = by_coordinates 1 _ _ each
    where
      each : (K : List ℕ) → to (of_point A p K) ≡ of_point B q K
      each [] = h.to_zero
      each (j ∷ js) = e j

  image_joined : (a b : Figure A) → image (joined A a b) ≡ joined B (image a) (image b)
  image_joined a b = by_coordinates _ _ _ (join-hom A B h a.step (λ I. refl) (λ I. refl))

  image_met : (d : ℕ) (a b : Figure A) → image (met A d a b) ≡ met B d (image a) (image b)
  image_met d a b = by_coordinates _ _ _ (meet-hom A B h d a.step b.step (λ I. refl) (λ I. refl))

  image_mixed : (s t : A.carrier) (u v : B.carrier) → to s ≡ u → to t ≡ v → (a b : Figure A)
      → image (mixed A s t a b) ≡ mixed B u v (image a) (image b)
  image_mixed s t u v e f a b = by_coordinates 1 _ _ (on-hom A B h e f (λ I. refl) (λ I. refl))

  image_conic : (p1 p2 p3 p4 p5 p6 : Figure A)
      → image (conic A p1 p2 p3 p4 p5 p6)
      ≡ conic B (image p1) (image p2) (image p3) (image p4) (image p5) (image p6)
  image_conic p1 p2 p3 p4 p5 p6 =
      by_coordinates 0 _ _ (λ K. (hom_keeps A B h).six_points p1.coordinates p2.coordinates p3.coordinates
      p4.coordinates p5.coordinates p6.coordinates)

  joined_of : {a b : Figure A} {x y : Figure B} → image a ≡ x → image b ≡ y → image (joined A a b) ≡ joined B x y
  joined_of {a} {b} e f = image_joined a b ∙ ap₂ (joined B) e f

  met_of : (d : ℕ) {a b : Figure A} {x y : Figure B} → image a ≡ x → image b ≡ y
      → image (met A d a b) ≡ met B d x y
  met_of d {a} {b} e f = image_met d a b ∙ ap₂ (met B d) e f

  image_pascal : (d : ℕ) (a b c d' e q : Figure A) → image (pascal A d a b c d' e q)
      ≡ pascal B d (image a) (image b) (image c) (image d') (image e) (image q)
  image_pascal d a b c d' e q =
      let l = image_joined a q in
      let x = met_of d (image_joined a b) (image_joined d' e) in
      let y = met_of d l (image_joined c d') in
      let z = met_of d (image_joined b c) (joined_of x y) in
      met_of d l (joined_of refl z)

  -- what is made from the left
  image_fold : (f : Figure A → Figure A → Figure A) (g : Figure B → Figure B → Figure B)
      → ((a b : Figure A) → image (f a b) ≡ g (image a) (image b)) → (a : Figure A) (others : List (Figure A))
      → image (fold f a others) ≡ fold g (image a) (map image others)
  image_fold f g e a [] = refl
  image_fold f g e a (b ∷ others) =
      image_fold f g e (f a b) others ∙ ap (λ x. fold g x (map image others)) (e a b)

  image_left : (f : Figure A → Figure A → Figure A) (g : Figure B → Figure B → Figure B)
      → ((a b : Figure A) → image (f a b) ≡ g (image a) (image b)) → (all : List (Figure A))
      → image (from_left A f all) ≡ from_left B g (map image all)
  image_left f g e [] = image_none
  image_left f g e (a ∷ others) = image_fold f g e a others

-- two frames, and a map that keeps the operations, the free points and the parameters
module _ (F G : Frame) {to : F.ring.carrier → G.ring.carrier} (h : IsHom F.ring G.ring to)
    (free : (i j : ℕ) → to (F.free i j) ≡ G.free i j) (param : (k : ℕ) → to (F.param k) ≡ G.param k) where
  abbrev by : Figure F.ring → Figure G.ring
  by = image F.ring G.ring h

  abbrev images : List (List ℕ × Figure F.ring) → List (List ℕ × Figure G.ring)
  images objects = map (λ e. (e.0, by e.1)) objects

  named_by : (objects : List (List ℕ × Figure F.ring)) (name : List ℕ)
      → by (named (no_figure F.ring) objects name) ≡ named (no_figure G.ring) (images objects) name
  named_by [] name = image_none F.ring G.ring h
  named_by (e ∷ objects) name = by_case (name is e.0) (named_by objects name)
    where
      by_case : (b : Bool) → by (named (no_figure F.ring) objects name)
          ≡ named (no_figure G.ring) (images objects) name
          → by (cond b e.1 (named (no_figure F.ring) objects name))
          ≡ cond b (by e.1) (named (no_figure G.ring) (images objects) name)
      by_case true r = refl
      by_case false r = r

  object_by : (d : ℕ) (objects : List (List ℕ × Figure F.ring)) (o : Object)
      → by (object_figure F d objects o) ≡ object_figure G d (images objects) o
  unfolding object_figure
  object_by d objects (Object.Named name) = named_by objects name
  object_by d objects (Object.Join a b) =
      joined_of F.ring G.ring h (object_by d objects a) (object_by d objects b)
  object_by d objects (Object.Meet a b) = met_of F.ring G.ring h d (object_by d objects a) (object_by d objects b)

  all_by : (d : ℕ) (objects : List (List ℕ × Figure F.ring)) (os : List Object)
      → map by (map (object_figure F d objects) os) ≡ map (object_figure G d (images objects)) os
  all_by d objects [] = refl
  all_by d objects (o ∷ os) = ap₂ ◌∷◌ (object_by d objects o) (all_by d objects os)

  pascal_by : (d : ℕ) (five : List (Figure F.ring)) (q : Figure F.ring)
      → by (pascal_figure F d five q) ≡ pascal_figure G d (map by five) (by q)
  pascal_by d [] q = image_none F.ring G.ring h
  pascal_by d (a ∷ []) q = image_none F.ring G.ring h
  pascal_by d (a ∷ b ∷ []) q = image_none F.ring G.ring h
  pascal_by d (a ∷ b ∷ c ∷ []) q = image_none F.ring G.ring h
  pascal_by d (a ∷ b ∷ c ∷ d' ∷ []) q = image_none F.ring G.ring h
  pascal_by d (a ∷ b ∷ c ∷ d' ∷ e ∷ []) q = image_pascal F.ring G.ring h d a b c d' e q
  pascal_by d (a ∷ b ∷ c ∷ d' ∷ e ∷ f ∷ others) q = image_none F.ring G.ring h

  conic_by : (six : List (Figure F.ring)) → by (conic_figure F six) ≡ conic_figure G (map by six)
  conic_by [] = image_none F.ring G.ring h
  conic_by (a ∷ []) = image_none F.ring G.ring h
  conic_by (a ∷ b ∷ []) = image_none F.ring G.ring h
  conic_by (a ∷ b ∷ c ∷ []) = image_none F.ring G.ring h
  conic_by (a ∷ b ∷ c ∷ d ∷ []) = image_none F.ring G.ring h
  conic_by (a ∷ b ∷ c ∷ d ∷ e ∷ []) = image_none F.ring G.ring h
  conic_by (a ∷ b ∷ c ∷ d ∷ e ∷ f ∷ []) = image_conic F.ring G.ring h a b c d e f
  conic_by (a ∷ b ∷ c ∷ d ∷ e ∷ f ∷ g ∷ others) = image_none F.ring G.ring h

  recipe_by : (d : ℕ) (params : List (List ℕ)) (objects : List (List ℕ × Figure F.ring)) (r : Recipe)
      → by (recipe_figure F d params objects r) ≡ recipe_figure G d params (images objects) r
  recipe_by d params objects (Recipe.Join a b) = object_by d objects (Object.Join a b)
  recipe_by d params objects (Recipe.Meet a b) = object_by d objects (Object.Meet a b)
  recipe_by d params objects (Recipe.On a b s t) =
      image_mixed F.ring G.ring h _ _ _ _ (param (place_of s params)) (param (place_of t params))
      (object_figure F d objects a) (object_figure F d objects b)
      ∙ ap₂ (mixed G.ring (G.param (place_of s params)) (G.param (place_of t params))) (object_by d objects a)
      (object_by d objects b)
  recipe_by d params objects (Recipe.Pascal five through) =
      pascal_by d (map (object_figure F d objects) five) (object_figure F d objects through)
      ∙ ap₂ (pascal_figure G d) (all_by d objects five) (object_by d objects through)

  left_by : (d : ℕ) (objects : List (List ℕ × Figure F.ring)) (args : List Object)
      → by (from_left F.ring (joined F.ring) (map (object_figure F d objects) args))
      ≡ from_left G.ring (joined G.ring) (map (object_figure G d (images objects)) args)
  left_by d objects args =
      image_left F.ring G.ring h (joined F.ring) (joined G.ring) (image_joined F.ring G.ring h)
      (map (object_figure F d objects) args)
      ∙ ap (from_left G.ring (joined G.ring)) (all_by d objects args)

  claim_by : (d : ℕ) (objects : List (List ℕ × Figure F.ring)) (c : Claim)
      → by (claim_figure F d objects c) ≡ claim_figure G d (images objects) c
  claim_by d objects (Claim.Collinear args) = left_by d objects args
  claim_by d objects (Claim.Concurrent args) =
      image_left F.ring G.ring h (met F.ring d) (met G.ring d) (image_met F.ring G.ring h d)
      (map (object_figure F d objects) args)
      ∙ ap (from_left G.ring (met G.ring d)) (all_by d objects args)
  claim_by d objects (Claim.Coplanar args) = left_by d objects args
  claim_by d objects (Claim.Meeting args) = left_by d objects args
  claim_by d objects (Claim.Incident args) = left_by d objects args
  claim_by d objects (Claim.Conic args) =
      conic_by (map (object_figure F d objects) args) ∙ ap (conic_figure G) (all_by d objects args)

  -- ---- texts
  abbrev scene_image : Scene F → Scene G
  scene_image s =
      record {
        objects = images s.objects;
        points = s.points;
        defined = map by s.defined;
        concluded = by s.concluded;
      }

  one_more : (objects : List (List ℕ × Figure F.ring)) (name : List ℕ) (a : Figure F.ring) (x : Figure G.ring)
      → by a ≡ x → images (objects ++ (name, a) ∷ []) ≡ images objects ++ (name, x) ∷ []
  one_more objects name a x e =
      map-append (λ e. (e.0, by e.1)) objects ((name, a) ∷ []) ∙ ap (λ y. images objects ++ (name, y) ∷ []) e

  with_point_by : (s : Scene F) (name : List ℕ)
      → scene_image (with_point F s name) ≡ with_point G (scene_image s) name
  with_point_by s name =
      let p = one_more s.objects name (point F.ring (F.free s.points)) (point G.ring (G.free s.points))
      (image_point F.ring G.ring h (F.free s.points) (G.free s.points) (free s.points)) in
      λ j. record { objects = p j; points = suc s.points; defined = map by s.defined; concluded = by s.concluded }

  points_by : (names : List (List ℕ)) (s : Scene F)
      → scene_image (fold (with_point F) s names) ≡ fold (with_point G) (scene_image s) names
  points_by [] s = refl
  points_by (name ∷ names) s =
      points_by names (with_point F s name) ∙ ap (λ t. fold (with_point G) t names) (with_point_by s name)

  with_definition_by : (name : List ℕ) (a : Figure F.ring) (x : Figure G.ring) → by a ≡ x → (s : Scene F)
      → scene_image (with_definition F name a s) ≡ with_definition G name x (scene_image s)
  with_definition_by name a x e s =
      let p = one_more s.objects name a x e in
      let q = map-append by s.defined (a ∷ []) ∙ ap (λ y. map by s.defined ++ y ∷ []) e in
      λ j. record { objects = p j; points = s.points; defined = q j; concluded = by s.concluded }

  behind_by : (d : ℕ) (params : List (List ℕ)) (s : Scene F) (t : Sentence)
      → scene_image (scene_behind F d params s t) ≡ scene_behind G d params (scene_image s) t
  behind_by d params s (Sentence.Free names) = points_by names s
  behind_by d params s (Sentence.Define kind name recipe) =
      with_definition_by name (recipe_figure F d params s.objects recipe)
      (recipe_figure G d params (images s.objects) recipe) (recipe_by d params s.objects recipe) s
  behind_by d params s (Sentence.Conclude claim) =
      let p = claim_by d s.objects claim in
      λ j. record { objects = images s.objects; points = s.points; defined = map by s.defined; concluded = p j }

  all_behind : (d : ℕ) (params : List (List ℕ)) (ts : List Sentence) (s : Scene F)
      → scene_image (fold (scene_behind F d params) s ts) ≡ fold (scene_behind G d params) (scene_image s) ts
  all_behind d params [] s = refl
  all_behind d params (t ∷ ts) s =
      all_behind d params ts (scene_behind F d params s t)
      ∙ ap (λ u. fold (scene_behind G d params) u ts) (behind_by d params s t)

  empty_by : scene_image (empty_scene F) ≡ empty_scene G
  empty_by =
      let p = image_none F.ring G.ring h in λ j. record { objects = []; points = 0; defined = []; concluded = p j }

  scene_by : (c : Account) → scene_image (scene_of F c) ≡ scene_of G c
  unfolding scene_of
  scene_by c =
      let sentences = sentences_of c.rows in
      all_behind c.rank (params_of [] sentences) sentences (empty_scene F)
      ∙ ap (λ s. fold (scene_behind G c.rank (params_of [] sentences)) s sentences) empty_by

  pub conclusion-hom : (c : Account) → to (conclusion F c) ≡ conclusion G c
  conclusion-hom c =
      ap (λ (s : Scene G). s.concluded.coordinates (cond (s.concluded.step == 0) [] (columns c.rank))) (scene_by c)

  pub definitions-hom : (c : Account) → map by (definitions F c) ≡ definitions G c
  definitions-hom c = ap (λ (s : Scene G). s.defined) (scene_by c)

pub conclusion_at_placement : ConclusionAtPlacement
conclusion_at_placement at c =
    conclusion-hom Variables (At Integers at) (value_in-operations Integers integer_ring at)
    (λ i j. value_in-variable Integers integer_ring at (coordinate i j))
    (λ k. value_in-variable Integers integer_ring at (parameter k)) c

pub conclusion_put_in : ConclusionPutIn
conclusion_put_in at c =
    conclusion-hom Variables (At Polynomials at) (value_in-operations Polynomials polynomial_ring at)
    (λ i j. value_in-variable Polynomials polynomial_ring at (coordinate i j))
    (λ k. value_in-variable Polynomials polynomial_ring at (parameter k)) c
