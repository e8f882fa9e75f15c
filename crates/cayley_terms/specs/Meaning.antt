-- What a construction means: the objects that it defines, and the polynomial that its conclusion says to be zero.
use Rattle.std.specs.Prelude.{ℕ, suc, List, [], ◌∷◌, ◌++◌, map, fold}
use Rattle.construction_reader.specs.Said.{Object, Recipe, Claim, Sentence, Account, sentences_of}
use Rattle.construction_reader.specs.Grammar.{params_of}
use Rattle.coordinate_model.specs.Ring.{Ops}
use Rattle.coordinate_model.specs.Brackets.{Point}
use Rattle.coordinate_model.specs.Polynomial.{Polynomials, Polynomial, free_point, monomial, parameter}
use Rattle.cayley_terms.specs.Named.{named, place_of}
use Rattle.cayley_terms.specs.Figures.{Figure, no_figure, point, joined, met, mixed, pascal, from_left, conic, scalar}

-- a ring, with the coordinates of the free points and with the parameters, by their numbers from 0 on
pub record Frame : Type 1 where
  pub ring : Ops
  pub free : ℕ → Point ring
  pub param : ℕ → ring.carrier

-- the coordinates of the free points and the parameters as variables
abbrev pub Variables : Frame
Variables = record { ring = Polynomials; free = free_point; param = λ k. monomial (parameter k ∷ []) }

module _ (F : Frame) where
  -- what a text has given up to a place: the objects with their names, how many of them are free points, the objects of
  -- the definitions in order, and what was concluded of
  pub record Scene : Type 0 where
    pub objects : List (List ℕ × Figure F.ring)
    pub points : ℕ
    pub defined : List (Figure F.ring)
    pub concluded : Figure F.ring

  -- at the head of a text
  abbrev pub empty_scene : Scene
  empty_scene = record { objects = []; points = 0; defined = []; concluded = no_figure F.ring }

  -- an object, in rank d, where these objects have names
  unfoldable pub object_figure : ℕ → List (List ℕ × Figure F.ring) → Object → Figure F.ring
  object_figure d objects (Object.Named name) = named (no_figure F.ring) objects name
  object_figure d objects (Object.Join a b) =
      joined F.ring (object_figure d objects a) (object_figure d objects b)
  object_figure d objects (Object.Meet a b) =
      met F.ring d (object_figure d objects a) (object_figure d objects b)

  -- what five points and one more on the line make by Pascal's theorem
  abbrev pub pascal_figure : ℕ → List (Figure F.ring) → Figure F.ring → Figure F.ring
  pascal_figure d (a ∷ b ∷ c ∷ d' ∷ e ∷ []) q = pascal F.ring d a b c d' e q
  pascal_figure d five q = no_figure F.ring

  -- what a recipe makes, where the parameters have these names
  abbrev pub recipe_figure : ℕ → List (List ℕ) → List (List ℕ × Figure F.ring) → Recipe → Figure F.ring
  recipe_figure d params objects (Recipe.Join a b) = object_figure d objects (Object.Join a b)
  recipe_figure d params objects (Recipe.Meet a b) = object_figure d objects (Object.Meet a b)
  recipe_figure d params objects (Recipe.On a b s t) =
      mixed F.ring (F.param (place_of s params)) (F.param (place_of t params)) (object_figure d objects a)
      (object_figure d objects b)
  recipe_figure d params objects (Recipe.Pascal five through) =
      pascal_figure d (map (object_figure d objects) five) (object_figure d objects through)

  -- six points by the six-point polynomial
  abbrev pub conic_figure : List (Figure F.ring) → Figure F.ring
  conic_figure (p1 ∷ p2 ∷ p3 ∷ p4 ∷ p5 ∷ p6 ∷ []) = conic F.ring p1 p2 p3 p4 p5 p6
  conic_figure others = no_figure F.ring

  -- what a claim says to be zero: the join from the left of points that are on a line or a plane, of two lines that
  -- meet and of a point on a hyperplane; the meet from the left of hyperplanes through a point; the six-point
  -- polynomial
  abbrev pub claim_figure : ℕ → List (List ℕ × Figure F.ring) → Claim → Figure F.ring
  claim_figure d objects (Claim.Collinear args) =
      from_left F.ring (joined F.ring) (map (object_figure d objects) args)
  claim_figure d objects (Claim.Concurrent args) =
      from_left F.ring (met F.ring d) (map (object_figure d objects) args)
  claim_figure d objects (Claim.Coplanar args) =
      from_left F.ring (joined F.ring) (map (object_figure d objects) args)
  claim_figure d objects (Claim.Meeting args) =
      from_left F.ring (joined F.ring) (map (object_figure d objects) args)
  claim_figure d objects (Claim.Incident args) =
      from_left F.ring (joined F.ring) (map (object_figure d objects) args)
  claim_figure d objects (Claim.Conic args) = conic_figure (map (object_figure d objects) args)

  -- with one more free point of this name: they are numbered in the order of the text
  abbrev pub with_point : Scene → List ℕ → Scene
  with_point scene name = record scene {
    objects = scene.objects ++ (name, point F.ring (F.free scene.points)) ∷ [];
    points = suc scene.points;
  }

  -- with one more definition, of this name
  abbrev pub with_definition : List ℕ → Figure F.ring → Scene → Scene
  with_definition name figure scene = record scene {
    objects = scene.objects ++ (name, figure) ∷ [];
    defined = scene.defined ++ figure ∷ [];
  }

  -- what a text has given behind a sentence, in rank d, where the parameters have these names
  abbrev pub scene_behind : ℕ → List (List ℕ) → Scene → Sentence → Scene
  scene_behind d params scene (Sentence.Free names) = fold with_point scene names
  scene_behind d params scene (Sentence.Define kind name recipe) =
      with_definition name (recipe_figure d params scene.objects recipe) scene
  scene_behind d params scene (Sentence.Conclude claim) =
      record scene { concluded = claim_figure d scene.objects claim }

  -- what a whole text gives: its parameters have their numbers in the order of first use
  unfoldable pub scene_of : Account → Scene
  scene_of c =
      let sentences = sentences_of c.rows in
      fold (scene_behind c.rank (params_of [] sentences)) empty_scene sentences

  -- the objects that the definitions define, in order
  abbrev pub definitions : Account → List (Figure F.ring)
  definitions c = (scene_of c).defined

  -- what the conclusion says to be zero: the one coordinate of a join, a meet, or the six-point polynomial
  abbrev pub conclusion : Account → F.ring.carrier
  conclusion c = scalar F.ring c.rank (scene_of c).concluded

-- the conclusion polynomial
abbrev pub conclusion_polynomial : Account → Polynomial
conclusion_polynomial c = conclusion Variables c
