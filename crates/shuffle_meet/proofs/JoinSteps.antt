-- What the join adds for two entries.
use Rattle.std.specs.Prelude.{◌≡◌, ℕ, ◌+◌, ◌==◌, Bool, true, false, cond, ℤ, pos, negsuc, List, [], ◌∷◌, ◌++◌, length, IsTrue}
use Rattle.std.specs.Prelude.{Option, Some, None, Result, Ok}
use mir.Syntax.{w8}
use mir.Val.{to_z, of_z}
use Rattle.std.proofs.Common.{refl, sym, ap, subst, ◌∙◌, arith, eq-eqb, eqb-true, length-append}
use Rattle.coordinate_model.specs.Sequences.{is_odd, repeats, sign_of}
use Rattle.coordinate_model.specs.Syzygy.{sorted}
use Rattle.coordinate_model.specs.BracketPolynomial.{BracketPolynomial}
use Rattle.coordinate_model.specs.Starts.{Product, Entry, join_product}
use Rattle.coordinate_model.proofs.StdSort.{increasing-repeats}
use Rattle.bracket_terms.specs.declared.extensor.Extensor.{Extensor}
use Rattle.bracket_terms.specs.Joins.{points_of, share_point, IsSignedUnion}
use Rattle.bracket_terms.proofs.ExtensorLaws.{repeats-append, length-points_of}
use Rattle.bracket_poly.specs.declared.error.PolyError.{PolyError}
use Rattle.bracket_terms.specs.Signed.{signed_row}
use Rattle.shuffle_meet.specs.Adding.{AddsProducts}
use Rattle.shuffle_meet.proofs.Added.{Polys, none_added, all_added}

-- other words for the same products
pub adds_same : {X : Type 0} (old new : Polys) (ps qs : List Product) (r : Result X PolyError) → ps ≡ qs
    → AddsProducts old ps r new → AddsProducts old qs r new
adds_same old new ps qs r e h = subst (λ (rs : List Product). AddsProducts old rs r new) e h

pub adds_nothing : {X : Type 0} (old : Polys) (ps : List Product) (x : X) → ps ≡ [] → AddsProducts {X = X} old ps (Ok x) old
adds_nothing old ps x e = adds_same old old [] ps (Ok x) (sym e) (all_added old old [] x (none_added old))

-- the parts of a row with its sign
pub record IsRowOf (points : List ℕ) (p : List ℕ × ℤ) : Type 0 where
  pub once : repeats points ≡ false
  pub row : p.0 ≡ sorted points
  pub sign : p.1 ≡ sign_of points

pub row_of : (points : List ℕ) (p : List ℕ × ℤ) → Some p ≡ signed_row points → IsRowOf points p
row_of points p e = step (repeats points) refl e
  where
    step : (b : Bool) → repeats points ≡ b → Some p ≡ cond b None (Some (sorted points, sign_of points))
        → IsRowOf points p
    step true h q = cc
    step false h q =
        let same : p ≡ (sorted points, sign_of points) = cc in
        record { once = h; row = ap (λ (x : List ℕ × ℤ). x.0) same; sign = ap (λ (x : List ℕ × ℤ). x.1) same }

pub no_row : (points : List ℕ) → None ≡ signed_row points → repeats points ≡ true
no_row points e = step (repeats points) refl e
  where
    step : (b : Bool) → repeats points ≡ b
        → ◌≡◌ {A = Option (List ℕ × ℤ)} None (cond b None (Some (sorted points, sign_of points)))
        → repeats points ≡ true
    step true h q = h
    step false h q = cc

-- a sign of a sequence that is passed to a call
pub sign_byte : (z : ℤ) (ps : List ℕ) → z ≡ sign_of ps → to_z w8 (of_z w8 z) ≡ sign_of ps
sign_byte z ps e =
    ap (λ y. to_z w8 (of_z w8 y)) e
    ∙ elim (is_odd ps) as (λ b. to_z w8 (of_z w8 (cond b (negsuc 0) (pos 1))) ≡ cond b (negsuc 0) (pos 1)) [
      | true ↦ refl
      | false ↦ refl
    ]

-- the product of these parts
abbrev pub product_by : (x : List ℕ) (f h : BracketPolynomial) (row : Option (List ℕ)) (s : ℤ) → Product
product_by x f h row s = record { extensor = x; left = f; right = h; row = row; sign = s }

pub same_product : (f h : BracketPolynomial) (x y : List ℕ) (r q : Option (List ℕ)) (s t : ℤ) → x ≡ y → r ≡ q → s ≡ t
    → product_by x f h r s ≡ product_by y f h q t
same_product f h x y r q s t a b c = λ j. product_by (a j) f h (b j) (c j)

module _ (d : ℕ) (e f : Entry) where
  abbrev ps : List ℕ
  ps = e.0 ++ f.0

  abbrev full_product : Product
  full_product = product_by [] e.1 f.1 (Some (sorted ps)) (sign_of ps)

  abbrev part_product : Product
  part_product = product_by (sorted ps) e.1 f.1 None (sign_of ps)

  pub join_none : repeats ps ≡ true → join_product d e f ≡ []
  join_none h =
      ap (λ b. cond b [] (cond (length ps == d) (full_product ∷ []) (part_product ∷ []))) h

  join_some : repeats ps ≡ false
      → join_product d e f ≡ cond (length ps == d) (full_product ∷ []) (part_product ∷ [])
  join_some h =
      ap (λ b. cond b [] (cond (length ps == d) (full_product ∷ []) (part_product ∷ []))) h

  join_full : repeats ps ≡ false → length ps ≡ d → join_product d e f ≡ full_product ∷ []
  join_full h n =
      join_some h ∙ ap (λ b. cond b (full_product ∷ []) (part_product ∷ [])) (eq-eqb (length ps) d n)

  join_part : repeats ps ≡ false → (length ps ≡ d → ⊥) → join_product d e f ≡ part_product ∷ []
  join_part h n = join_some h ∙ step (length ps == d) refl
    where
      step : (b : Bool) → (length ps == d) ≡ b → cond b (full_product ∷ []) (part_product ∷ []) ≡ part_product ∷ []
      step true q = absurd (n (eqb-true (length ps) d q))
      step false q = refl

  -- d points
  pub adds_full : {X : Type 0} (old new : Polys) (x : List ℕ) (p : List ℕ × ℤ) (r : Result X PolyError) → length ps ≡ d
      → Some p ≡ signed_row ps → x ≡ []
      → AddsProducts old (product_by x e.1 f.1 (Some p.0) (to_z w8 (of_z w8 p.1)) ∷ []) r new
      → AddsProducts old (join_product d e f) r new
  adds_full old new x p r n q z h =
      let is : IsRowOf ps p = row_of ps p q in
      adds_same old new _ (join_product d e f) r
      (ap (λ (t : Product). t ∷ []) (same_product e.1 f.1 x [] (Some p.0) (Some (sorted ps)) _ (sign_of ps) z (ap Some is.row)
      (sign_byte p.1 ps is.sign))
      ∙ sym (join_full is.once n))
      h

  -- fewer points
  pub adds_part : {X : Type 0} (old new : Polys) (u : Extensor) (s : ℤ) (r : Result X PolyError) → (length ps ≡ d → ⊥)
      → repeats ps ≡ false → IsSignedUnion ps u s
      → AddsProducts old (product_by (points_of u) e.1 f.1 None (to_z w8 (of_z w8 s)) ∷ []) r new
      → AddsProducts old (join_product d e f) r new
  adds_part old new u s r n once is h =
      adds_same old new _ (join_product d e f) r
      (ap (λ (t : Product). t ∷ [])
      (same_product e.1 f.1 (points_of u) (sorted ps) None None _ (sign_of ps) is.ascending refl
      (sign_byte s ps is.by_order))
      ∙ sym (join_part once n))
      h

-- ---- the points of two extensors

module _ (a b : Extensor) where
  pub length-both : length (points_of a ++ points_of b) ≡ a.size + b.size
  length-both =
      let m : length (points_of a) ≡ a.size = length-points_of a.size a.points a.formed in
      let n : length (points_of b) ≡ b.size = length-points_of b.size b.points b.formed in
      omega (arith, length-append (points_of a) (points_of b))

  shared : repeats (points_of a ++ points_of b) ≡ share_point (points_of a) (points_of b)
  shared =
      repeats-append (points_of a) (points_of b) (increasing-repeats (points_of a) a.formed.increasing)
      (increasing-repeats (points_of b) b.formed.increasing)

  pub common_point : IsTrue (share_point (points_of a) (points_of b)) → repeats (points_of a ++ points_of b) ≡ true
  common_point h = shared ∙ h

  pub no_common_point : (IsTrue (share_point (points_of a) (points_of b)) → ⊥)
      → repeats (points_of a ++ points_of b) ≡ false
  no_common_point h = shared ∙ step (share_point (points_of a) (points_of b)) refl
    where
      step : (c : Bool) → share_point (points_of a) (points_of b) ≡ c → c ≡ false
      step true q = absurd (h q)
      step false q = refl
