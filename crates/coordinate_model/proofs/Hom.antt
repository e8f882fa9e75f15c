-- A map that keeps the operations of a ring keeps all that is defined by them.
use Rattle.std.proofs.Common.{◌≡◌, refl, sym, ap, ap₂, ◌∙◌, ℕ, zero, suc, ◌+◌, ◌-◌, Bool, true, false, cond, List, []}
use Rattle.std.proofs.Common.{◌∷◌, ◌++◌, map, length, ◌<◌, arith}
use Rattle.std.proofs.lemmas.List.{length-map}
use Rattle.std.specs.Prelude.{slice_get, ℤ, pos, negsuc}
use Rattle.std.specs.List.{AllByRecursion, cons_option}
use lib.ListN.{length-append}
use Rattle.coordinate_model.specs.Ring.{Ops, IsHom, of_nat, of_int}
use Rattle.coordinate_model.specs.Sequences.{columns, is_odd, permutations, range, splits, at_places, subsets}
use Rattle.coordinate_model.specs.Sequences.{without, meets_in}
use Rattle.coordinate_model.specs.Brackets.{Point, Coords, sum_over, signed, product, bracket, syzygy, of_point, join}
use Rattle.coordinate_model.specs.Brackets.{join_points, extensor, meet, shuffle, on, three_term, six_point}
use Rattle.coordinate_model.specs.Brackets.{join_bracket}
use Rattle.coordinate_model.specs.Words.{product_of}
use Rattle.coordinate_model.specs.Polynomial.{Monomial}
use Rattle.coordinate_model.specs.Evaluation.{monomial_in, value_in}
use Rattle.coordinate_model.specs.HomLaws.{coords_by, KeepsJoinBrackets, KeepsValues, Keeps}
use Rattle.coordinate_model.specs.Sums.{Terms, sum_value}
use Rattle.coordinate_model.proofs.Splits.{IsSplit, splits-are, range-below, length-range_from, length-at_places}

-- the map at each entry, and at each entry at the places
pub map-append : {X Y : Type 0} (f : X → Y) (xs ys : List X) → map f (xs ++ ys) ≡ map f xs ++ map f ys
map-append f [] ys = refl
map-append {X} {Y} f (x ∷ xs) ys = ap {B = List Y} (λ r. f x ∷ r) (map-append f xs ys)

map-first : {X Y : Type 0} (f : X → Y) (xs : List X) (i : ℕ) (rest : List X) (rest' : List Y) → map f rest ≡ rest'
    → map f (cons_option (slice_get xs i) rest) ≡ cons_option (slice_get (map f xs) i) rest'
map-first f [] i r s e = e
map-first {X} {Y} f (x ∷ xs) zero r s e = ap {B = List Y} (λ r. f x ∷ r) e
map-first f (x ∷ xs) (suc i) r s e = map-first f xs i r s e

pub map-at_places : {X Y : Type 0} (f : X → Y) (xs : List X) (is : List ℕ)
    → map f (at_places xs is) ≡ at_places (map f xs) is
map-at_places f xs [] = refl
map-at_places f xs (i ∷ is) = map-first f xs i (at_places xs is) (at_places (map f xs) is) (map-at_places f xs is)

module _ (A B : Ops) {to : A.carrier → B.carrier} (h : IsHom A B to) where
  open h use {to_zero, to_one, to_add, to_mul, to_neg}

  -- the map at each coordinate of a point
  abbrev pub to_point : Point A → Point B
  to_point p = λ j. to (p j)

  pub sum_over-hom : {X : Type 0} (f : X → A.carrier) (g : X → B.carrier) → ((x : X) → to (f x) ≡ g x) → (xs : List X)
      → to (sum_over A f xs) ≡ sum_over B g xs
  sum_over-hom f g e [] = to_zero
  sum_over-hom f g e (x ∷ xs) = to_add (f x) (sum_over A f xs) ∙ ap₂ B.◌⊕◌ (e x) (sum_over-hom f g e xs)

  of_nat-hom : (n : ℕ) → to (of_nat A n) ≡ of_nat B n
  of_nat-hom zero = to_zero
  of_nat-hom (suc n) = to_add A.𝟙 (of_nat A n) ∙ ap₂ B.◌⊕◌ to_one (of_nat-hom n)

  pub of_int-hom : (c : ℤ) → to (of_int A c) ≡ of_int B c
  of_int-hom (pos n) = of_nat-hom n
  of_int-hom (negsuc n) = to_neg (of_nat A (suc n)) ∙ ap B.neg (of_nat-hom (suc n))

  -- sums of integers times keys whose values agree
  pub sum_value-hom : {K : Type 0} (f : K → A.carrier) (g : K → B.carrier) (ts : Terms K)
      → AllByRecursion (λ t. to (f t.0) ≡ g t.0) ts → to (sum_value A f ts) ≡ sum_value B g ts
  sum_value-hom f g [] e = to_zero
  sum_value-hom f g (t ∷ ts) e =
      to_add _ _
      ∙ ap₂ B.◌⊕◌ (to_mul _ _ ∙ ap₂ B.◌⊗◌ (of_int-hom t.1) e.0) (sum_value-hom f g ts e.1)

  neg_if-hom : (b : Bool) {x : A.carrier} {y : B.carrier} → to x ≡ y → to (cond b (A.neg x) x) ≡ cond b (B.neg y) y
  neg_if-hom true {x} e = to_neg x ∙ ap B.neg e
  neg_if-hom false e = e

  pub signed-hom : (w : List ℕ) {x : A.carrier} {y : B.carrier} → to x ≡ y → to (signed A w x) ≡ signed B w y
  signed-hom w e = neg_if-hom (is_odd w) e

  pub mul-hom : {a b : A.carrier} {x y : B.carrier} → to a ≡ x → to b ≡ y → to (A.◌⊗◌ a b) ≡ B.◌⊗◌ x y
  mul-hom {a} {b} e f = to_mul a b ∙ ap₂ B.◌⊗◌ e f

  product-hom : (ps : List (Point A)) (w : List ℕ) → to (product A ps w) ≡ product B (map to_point ps) w
  product-hom [] w = to_one
  product-hom (p ∷ ps) [] = to_one
  product-hom (p ∷ ps) (j ∷ w) = mul-hom refl (product-hom ps w)

  pub bracket-hom : (ps : List (Point A)) → to (bracket A ps) ≡ bracket B (map to_point ps)
  unfolding bracket
  bracket-hom ps =
      sum_over-hom _ _ (λ w. signed-hom w (product-hom ps w)) (permutations (columns (length ps)))
      ∙ ap (λ n. sum_over B (λ w. signed B w (product B (map to_point ps) w)) (permutations (columns n)))
      (sym (length-map ps to_point))

  sum_over-hom_in : {X : Type 0} (f : X → A.carrier) (g : X → B.carrier) (xs : List X)
      → AllByRecursion (λ x. to (f x) ≡ g x) xs
      → to (sum_over A f xs) ≡ sum_over B g xs
  sum_over-hom_in f g [] e = to_zero
  sum_over-hom_in f g (x ∷ xs) e = to_add (f x) (sum_over A f xs) ∙ ap₂ B.◌⊕◌ e.0 (sum_over-hom_in f g xs e.1)

  -- brackets a and b of points of two kinds: f takes the one kind to the other, and keeps the brackets of d points
  module _ {P Q : Type 0} (f : P → Q) (a : List P → A.carrier) (b : List Q → B.carrier) (d : ℕ)
      (e : (ps : List P) → length ps ≡ d → to (a ps) ≡ b (map f ps)) where
    term : List P → List P → List P → List ℕ × List ℕ → A.carrier
    term α β γ t = signed A (t.0 ++ t.1) (A.◌⊗◌ (a (α ++ at_places β t.1)) (a (at_places β t.0 ++ γ)))

    term' : List Q → List Q → List Q → List ℕ × List ℕ → B.carrier
    term' α β γ t = signed B (t.0 ++ t.1) (B.◌⊗◌ (b (α ++ at_places β t.1)) (b (at_places β t.0 ++ γ)))

    term-hom : (α β γ : List P) → length β ≡ d + 1 → length α + length γ + 1 ≡ d → (t : List ℕ × List ℕ)
        → IsSplit (λ i. i < length β) (length α + 1) (length (range (length β))) t
        → to (term α β γ t) ≡ term' (map f α) (map f β) (map f γ) t
    unfolding term term'
    term-hom α β γ sb so t i =
        let l0 : length (at_places β t.0) ≡ length t.0 = length-at_places β t.0 i.first in
        let l1 : length (at_places β t.1) ≡ length t.1 = length-at_places β t.1 i.second in
        let n : length (range (length β)) ≡ length β = length-range_from zero (length β) in
        let c : length t.0 ≡ length α + 1 = i.chosen in
        let r : length t.1 + (length α + 1) ≡ length (range (length β)) = i.all in
        let m0 : length (α ++ at_places β t.1) ≡ length α + length (at_places β t.1) = length-append α
        (at_places β t.1) in
        let m1 : length (at_places β t.0 ++ γ) ≡ length (at_places β t.0) + length γ = length-append
        (at_places β t.0) γ in
        let first = e (α ++ at_places β t.1) (omega arith)
        ∙ ap b (map-append f α (at_places β t.1) ∙ ap (λ q. map f α ++ q) (map-at_places f β t.1)) in
        let second = e (at_places β t.0 ++ γ) (omega arith)
        ∙ ap b (map-append f (at_places β t.0) γ ∙ ap (λ q. q ++ map f γ) (map-at_places f β t.0)) in
        signed-hom (t.0 ++ t.1) (mul-hom first second)

    all_terms : (α β γ : List P) → length β ≡ d + 1 → length α + length γ + 1 ≡ d → (ts : List (List ℕ × List ℕ))
        → AllByRecursion (IsSplit (λ i. i < length β) (length α + 1) (length (range (length β)))) ts
        → AllByRecursion (λ t. to (term α β γ t) ≡ term' (map f α) (map f β) (map f γ) t) ts
    all_terms α β γ sb so [] h = tt
    all_terms α β γ sb so (t ∷ ts) h = (term-hom α β γ sb so t h.0, all_terms α β γ sb so ts h.1)

    -- the van der Waerden sums of the two kinds
    pub syzygy-hom : (α β γ : List P) → length β ≡ d + 1 → length α + length γ + 1 ≡ d
        → to (syzygy A a α β γ) ≡ syzygy B b (map f α) (map f β) (map f γ)
    unfolding syzygy term term'
    syzygy-hom α β γ sb so =
        let ts = splits (length α + 1) (range (length β)) in
        sum_over-hom_in (term α β γ) (term' (map f α) (map f β) (map f γ)) ts
        (all_terms α β γ sb so ts (splits-are (λ i. i < length β) (length α + 1) (range (length β))
        (range-below (length β))))
        ∙ ap₂ (λ k n. sum_over B (term' (map f α) (map f β) (map f γ)) (splits (k + 1) (range n)))
        (sym (length-map α f))
        (sym (length-map β f))

  -- the map takes the coordinates of X to those of Y
  abbrev pub AgreeOn : Coords A → Coords B → Type 0
  AgreeOn X Y = (K : List ℕ) → to (X K) ≡ Y K

  of_point-hom : (p : Point A) → AgreeOn (of_point A p) (of_point B (to_point p))
  of_point-hom p [] = to_zero
  of_point-hom p (j ∷ js) = refl

  pub join-hom : (a : ℕ) {X Y : Coords A} {X' Y' : Coords B} → AgreeOn X X' → AgreeOn Y Y'
      → AgreeOn (join A a X Y) (join B a X' Y')
  unfolding join
  join-hom a e f K = sum_over-hom _ _ (λ s. signed-hom (s.0 ++ s.1) (mul-hom (e s.0) (f s.1))) (splits a K)

  join_points-hom : (a : ℕ) {X : Coords A} {X' : Coords B} (ps : List (Point A)) → AgreeOn X X'
      → AgreeOn (join_points A a X ps) (join_points B a X' (map to_point ps))
  unfolding join_points
  join_points-hom a [] e = e
  join_points-hom a (p ∷ ps) e = join_points-hom (suc a) ps (join-hom a e (of_point-hom p))

  pub extensor-hom : (ps : List (Point A)) → AgreeOn (extensor A ps) (extensor B (map to_point ps))
  unfolding extensor
  extensor-hom [] K = to_one
  extensor-hom (p ∷ ps) K = join_points-hom 1 ps (of_point-hom p) K

  split_term-hom : (us vs : List (Point A)) (K : List ℕ) (t : List ℕ × List ℕ)
      → to (signed A (t.0 ++ t.1) (A.◌⊗◌ (bracket A (at_places us t.0 ++ vs)) (extensor A (at_places us t.1) K)))
      ≡ signed B (t.0 ++ t.1) (B.◌⊗◌ (bracket B (at_places (map to_point us) t.0 ++ map to_point vs))
      (extensor B (at_places (map to_point us) t.1) K))
  split_term-hom us vs K t =
      let points = map-append to_point (at_places us t.0) vs
      ∙ ap (λ r. r ++ map to_point vs) (map-at_places to_point us t.0) in
      let first = bracket-hom (at_places us t.0 ++ vs) ∙ ap (bracket B) points in
      let second = extensor-hom (at_places us t.1) K ∙ ap (λ ps. extensor B ps K) (map-at_places to_point us t.1) in
      signed-hom (t.0 ++ t.1) (mul-hom first second)

  pub shuffle-hom : (d : ℕ) (us vs : List (Point A))
      → AgreeOn (shuffle A d us vs) (shuffle B d (map to_point us) (map to_point vs))
  unfolding shuffle
  shuffle-hom d us vs K =
      sum_over-hom _ _ (split_term-hom us vs K) (splits (d - length vs) (range (length us)))
      ∙ ap₂
      (λ k n. sum_over B
      (λ t. signed B (t.0 ++ t.1) (B.◌⊗◌ (bracket B (at_places (map to_point us) t.0 ++ map to_point vs))
      (extensor B (at_places (map to_point us) t.1) K)))
      (splits (d - k) (range n)))
      (sym (length-map vs to_point))
      (sym (length-map us to_point))

  if-hom : (b : Bool) {x : A.carrier} {y : B.carrier} → to x ≡ y → to (cond b x A.𝟘) ≡ cond b y B.𝟘
  if-hom true e = e
  if-hom false e = to_zero

  pub meet-hom : (d a b : ℕ) {X Y : Coords A} {X' Y' : Coords B} → AgreeOn X X' → AgreeOn Y Y'
      → AgreeOn (meet A d a b X Y) (meet B d a b X' Y')
  unfolding meet
  meet-hom d a b e f K =
      sum_over-hom _ _
      (λ I. sum_over-hom _ _
      (λ J. if-hom (meets_in d K I J) (signed-hom (without I K ++ K)
      (signed-hom (without I K ++ J) (mul-hom (e I) (f J)))))
      (subsets d b))
      (subsets d a)

  pub on-hom : {s t : A.carrier} {s' t' : B.carrier} {X Y : Coords A} {X' Y' : Coords B} → to s ≡ s' → to t ≡ t'
      → AgreeOn X X' → AgreeOn Y Y' → AgreeOn (on A s t X Y) (on B s' t' X' Y')
  unfolding on
  on-hom {s} {t} {X = X} {Y = Y} p q e f K =
      to_add (A.◌⊗◌ s (X K)) (A.◌⊗◌ t (Y K)) ∙ ap₂ B.◌⊕◌ (mul-hom p (e K)) (mul-hom q (f K))

  -- brackets a and b of points of two kinds: f takes the one kind to the other, and keeps the brackets with S and S'
  pub three_term-hom : {P Q : Type 0} (f : P → Q) (a : List P → A.carrier) (b : List Q → B.carrier) (S : List P)
      (S' : List Q) → ((p q : P) → to (a (S ++ p ∷ q ∷ [])) ≡ b (S' ++ f p ∷ f q ∷ [])) → (p q r s : P)
      → to (three_term A a S p q r s) ≡ three_term B b S' (f p) (f q) (f r) (f s)
  unfolding three_term
  three_term-hom f a b S S' e p q r s =
      to_add _ _
      ∙ ap₂ B.◌⊕◌ (to_add _ _
      ∙ ap₂ B.◌⊕◌ (mul-hom (e p q) (e r s)) (to_neg _ ∙ ap B.neg (mul-hom (e p r) (e q s))))
      (mul-hom (e p s) (e q r))

  -- brackets a and b of points of two kinds: f takes the one kind to the other, and keeps the brackets of three points
  pub six_point-hom : {P Q : Type 0} (f : P → Q) (a : List P → A.carrier) (b : List Q → B.carrier)
      → ((p q r : P) → to (a (p ∷ q ∷ r ∷ [])) ≡ b (f p ∷ f q ∷ f r ∷ [])) → (p1 p2 p3 p4 p5 p6 : P)
      → to (six_point A a p1 p2 p3 p4 p5 p6) ≡ six_point B b (f p1) (f p2) (f p3) (f p4) (f p5) (f p6)
  unfolding six_point
  six_point-hom f a b e p1 p2 p3 p4 p5 p6 =
      to_add _ _
      ∙ ap₂ B.◌⊕◌ (mul-hom (mul-hom (mul-hom (e p1 p2 p3) (e p1 p4 p5)) (e p2 p4 p6)) (e p3 p5 p6))
      (to_neg _ ∙ ap B.neg (mul-hom (mul-hom (mul-hom (e p1 p2 p4) (e p1 p3 p5)) (e p2 p3 p6)) (e p4 p5 p6)))

  -- the bracket of objects, and the six-point polynomial of their brackets
  pub join_bracket-hom : KeepsJoinBrackets A B to
  join_bracket-hom [] = to_zero
  join_bracket-hom (X ∷ []) = to_zero
  join_bracket-hom (X ∷ Y ∷ []) = to_zero
  join_bracket-hom (X ∷ Y ∷ Z ∷ []) = join-hom 2 (join-hom 1 (λ I. refl) (λ I. refl)) (λ I. refl) (columns 3)
  join_bracket-hom (X ∷ Y ∷ Z ∷ W ∷ Xs) = to_zero

  product_of-hom : {X : Type 0} (g : X → A.carrier) (xs : List X)
      → to (product_of A g xs) ≡ product_of B (λ x. to (g x)) xs
  product_of-hom g [] = to_one
  product_of-hom g (x ∷ xs) = mul-hom refl (product_of-hom g xs)

  -- values of polynomials
  pub value_in-hom : KeepsValues A B to
  unfolding value_in
  value_in-hom at p = sum_value-hom (monomial_in A at) (monomial_in B (λ v. to (at v))) p.terms (each p.terms)
    where
      each : (ts : Terms Monomial)
          → AllByRecursion (λ t. to (monomial_in A at t.0) ≡ monomial_in B (λ v. to (at v)) t.0) ts
      each [] = tt
      each (t ∷ ts) = (product_of-hom at t.0.letters, each ts)

  -- all that the contracts cite
  pub hom_keeps : Keeps A B to
  hom_keeps = record {
    brackets = bracket-hom;
    extensors = extensor-hom;
    joins = λ a X Y. join-hom a (λ I. refl) (λ I. refl);
    meets = λ d a b X Y. meet-hom d a b (λ I. refl) (λ I. refl);
    combinations = λ s t X Y. on-hom refl refl (λ I. refl) (λ I. refl);
    join_brackets = join_bracket-hom;
    six_points =
        six_point-hom (coords_by A B to) (join_bracket A) (join_bracket B)
        (λ X Y Z. join_bracket-hom (X ∷ Y ∷ Z ∷ []));
    values = value_in-hom;
  }
