-- What the meet adds for two entries at one split.
use Rattle.std.specs.Prelude.{◌≡◌, ℕ, zero, suc, ◌+◌, ◌-◌, ◌<◌, ◌≤◌, ◌==◌, Bool, true, false, cond, ℤ, pos, negsuc, ◌*ℤ◌, List, [], ◌∷◌, ◌++◌, length}
use Rattle.std.specs.Prelude.{Some, None, Result, Ok, FitsSigned, slice_get, flat_map}
use Rattle.std.specs.List.{AllByRecursion}
use mir.Syntax.{w8}
use mir.Val.{to_z, of_z}
use Rattle.std.proofs.Common.{refl, sym, ap, ap₂, subst, ◌∙◌, arith, eqb-true, inl, inr, lit<, get_or}
use Rattle.std.proofs.lemmas.Int.{fits_signed_from_abs}
use Rattle.coordinate_model.specs.Sequences.{range, splits, at_places, is_odd, repeats, sign_of}
use Rattle.coordinate_model.specs.Syzygy.{sorted}
use Rattle.coordinate_model.specs.Starts.{Product, Entry, meet_product}
use Rattle.coordinate_model.proofs.Splits.{IsSplit, splits-are, range-below, length-range_from, length-at_places}
use Rattle.bracket_terms.specs.declared.extensor.Extensor.{Extensor}
use Rattle.bracket_terms.specs.Joins.{points_of}
use Rattle.bracket_terms.proofs.ExtensorLaws.{length-points_of}
use Rattle.bracket_poly.specs.declared.error.PolyError.{PolyError}
use Rattle.bracket_poly.specs.Products.{IsSign}
use Rattle.bracket_poly.specs.Values.{entry_of, extensor_size}
use Rattle.bracket_poly.specs.Kept.{TrackedOf}
use Rattle.bracket_terms.specs.Signed.{signed_row}
use Rattle.shuffle_meet.specs.Adding.{AddsProducts}
use Rattle.shuffle_meet.specs.Objects.{meets_with}
use Rattle.shuffle_meet.proofs.Added.{Polys}
use Rattle.shuffle_meet.proofs.Items.{holds_at}
use Rattle.shuffle_meet.proofs.JoinSteps.{adds_same, adds_nothing, IsRowOf, row_of, no_row, sign_byte, product_by, same_product}

-- ---- signs

-- the product of two signs, as it is computed and passed to a call
abbrev pub passed_product : ℤ → ℤ → ℤ
passed_product s t = to_z w8 (of_z w8 s) *ℤ to_z w8 (of_z w8 t)

product_is : (s t : ℤ) (us vs : List ℕ) → s ≡ sign_of us → t ≡ sign_of vs → passed_product s t ≡ sign_of us *ℤ sign_of vs
product_is s t us vs e f = ap₂ ◌*ℤ◌ (sign_byte s us e) (sign_byte t vs f)

fits_product : (us vs : List ℕ) → FitsSigned w8 (sign_of us *ℤ sign_of vs)
fits_product us vs = step (is_odd us) (is_odd vs)
  where
    step : (b c : Bool) → FitsSigned w8 (cond b (negsuc 0) (pos 1) *ℤ cond c (negsuc 0) (pos 1))
    step true true = fits_signed_from_abs w8 (pos 1) (lit< tt)
    step true false = fits_signed_from_abs w8 (negsuc 0) (lit< tt)
    step false true = fits_signed_from_abs w8 (negsuc 0) (lit< tt)
    step false false = fits_signed_from_abs w8 (pos 1) (lit< tt)

is_sign : (us vs : List ℕ) → IsSign (to_z w8 (of_z w8 (sign_of us *ℤ sign_of vs)))
is_sign us vs = step (is_odd us) (is_odd vs)
  where
    step : (b c : Bool) → IsSign (to_z w8 (of_z w8 (cond b (negsuc 0) (pos 1) *ℤ cond c (negsuc 0) (pos 1))))
    step true true = inl refl
    step true false = inr refl
    step false true = inr refl
    step false false = inl refl

byte_product : (us vs : List ℕ) → to_z w8 (of_z w8 (sign_of us *ℤ sign_of vs)) ≡ sign_of us *ℤ sign_of vs
byte_product us vs = step (is_odd us) (is_odd vs)
  where
    step : (b c : Bool) → to_z w8 (of_z w8 (cond b (negsuc 0) (pos 1) *ℤ cond c (negsuc 0) (pos 1)))
        ≡ cond b (negsuc 0) (pos 1) *ℤ cond c (negsuc 0) (pos 1)
    step true true = refl
    step true false = refl
    step false true = refl
    step false false = refl

module _ (s : ℤ) (us points : List ℕ) (p : List ℕ × ℤ) (e : s ≡ sign_of us) (q : Some p ≡ signed_row points) where
  row_sign : p.1 ≡ sign_of points
  row_sign = (row_of points p q).sign

  pub signs_fit : FitsSigned w8 (passed_product s p.1)
  signs_fit = subst (FitsSigned w8) (sym (product_is s p.1 us points e row_sign)) (fits_product us points)

  pub signs_are : IsSign (to_z w8 (of_z w8 (passed_product s p.1)))
  signs_are =
      subst (λ (z : ℤ). IsSign (to_z w8 (of_z w8 z))) (sym (product_is s p.1 us points e row_sign)) (is_sign us points)

-- ---- the product

module _ (e f : Entry) (t : List ℕ × List ℕ) where
  abbrev qs : List ℕ
  qs = at_places e.0 t.0 ++ f.0

  abbrev split_product : Product
  split_product = product_by (at_places e.0 t.1) e.1 f.1 (Some (sorted qs)) (sign_of (t.0 ++ t.1) *ℤ sign_of qs)

  meet_none : repeats qs ≡ true → meet_product e f t ≡ []
  meet_none h = ap (λ b. cond b [] (split_product ∷ [])) h

  meet_some : repeats qs ≡ false → meet_product e f t ≡ split_product ∷ []
  meet_some h = ap (λ b. cond b [] (split_product ∷ [])) h

  pub adds_zero : {X : Type 0} (old : Polys) (chosen : List ℕ) (x : X) → chosen ≡ at_places e.0 t.0
      → None ≡ signed_row (chosen ++ f.0) → AddsProducts {X = X} old (meet_product e f t) (Ok x) old
  adds_zero old chosen x c q =
      adds_nothing old (meet_product e f t) x (meet_none (ap (λ us. repeats (us ++ f.0)) (sym c) ∙ no_row (chosen ++ f.0) q))

  pub adds_split : {X : Type 0} (old new : Polys) (x chosen : List ℕ) (s : ℤ) (p : List ℕ × ℤ) (r : Result X PolyError)
      → x ≡ at_places e.0 t.1 → chosen ≡ at_places e.0 t.0 → s ≡ sign_of (t.0 ++ t.1) → Some p ≡ signed_row (chosen ++ f.0)
      → AddsProducts old (product_by x e.1 f.1 (Some p.0) (to_z w8 (of_z w8 (passed_product s p.1))) ∷ []) r new
      → AddsProducts old (meet_product e f t) r new
  adds_split old new x chosen s p r a c n q h =
      let same : chosen ++ f.0 ≡ qs = ap (λ us. us ++ f.0) c in
      let is : IsRowOf qs p = subst (λ (us : List ℕ). IsRowOf us p) same (row_of (chosen ++ f.0) p q) in
      adds_same old new _ (meet_product e f t) r
      (ap (λ (u : Product). u ∷ [])
      (same_product e.1 f.1 x (at_places e.0 t.1) (Some p.0) (Some (sorted qs)) _ (sign_of (t.0 ++ t.1) *ℤ sign_of qs) a
      (ap Some is.row)
      (ap (λ z. to_z w8 (of_z w8 z)) (product_is s p.1 (t.0 ++ t.1) qs n is.sign) ∙ byte_product (t.0 ++ t.1) qs))
      ∙ sym (meet_some is.once))
      h

-- ---- sizes

-- a value of a step below the rank has extensors of as many points
pub size_below : (d step : ℕ) → step < d → extensor_size d step ≡ step
size_below d step h = size (step == d) refl
  where
    size : (b : Bool) → (step == d) ≡ b → cond b 0 step ≡ step
    size true q = absurd (let e : step ≡ d = eqb-true step d q in omega arith)
    size false q = refl

-- the size of an extensor with these points
pub size_of : (x : Extensor) (ps : List ℕ) (n : ℕ) → points_of x ≡ ps → length ps ≡ n → x.size ≡ n
size_of x ps n e h = sym (length-points_of x.size x.points x.formed) ∙ ap length e ∙ h

-- ---- splits

-- an entry of a list that is found at a place
pub entry_at : {A : Type 0} (xs : List A) (i : ℕ) (x : A) → slice_get xs i ≡ Some x → x ≡ get_or xs i x
entry_at [] i x e = cc
entry_at (y ∷ xs) zero x e = cc
entry_at (y ∷ xs) (suc i) x e = entry_at xs i x e

-- the sizes of the parts of an extensor at a split of its places
pub record HasParts (d s step : ℕ) (points : List ℕ) (t : List ℕ × List ℕ) : Type 0 where
  pub chosen : length (at_places points t.0) + s ≡ d
  pub rest : length (at_places points t.1) ≡ step

pub parts_at : (d s step i : ℕ) (a : Extensor) (t : List ℕ × List ℕ) → s ≤ d → a.size + s ≡ d + step
    → i < length (splits (d - s) (range a.size)) → slice_get (splits (d - s) (range a.size)) i ≡ Some t
    → HasParts d s step (points_of a) t
parts_at d s step i a t few sizes h e =
    let long : length (points_of a) ≡ a.size = length-points_of a.size a.points a.formed in
    let places : length (range a.size) ≡ a.size = length-range_from 0 a.size in
    let split : IsSplit (λ p. p < a.size) (d - s) (length (range a.size)) t =
    holds_at (IsSplit (λ p. p < a.size) (d - s) (length (range a.size))) (splits (d - s) (range a.size)) i t
    (splits-are (λ p. p < a.size) (d - s) (range a.size) (range-below a.size)) h
    (entry_at (splits (d - s) (range a.size)) i t e) in
    let within : (ps : List ℕ) → AllByRecursion (λ p. p < a.size) ps → AllByRecursion (λ p. p < length (points_of a)) ps =
    λ ps k. subst (λ (n : ℕ). AllByRecursion (λ p. p < n) ps) (sym long) k in
    let first : length (at_places (points_of a) t.0) ≡ length t.0 =
    length-at_places (points_of a) t.0 (within t.0 split.first) in
    let second : length (at_places (points_of a) t.1) ≡ length t.1 =
    length-at_places (points_of a) t.1 (within t.1 split.second) in
    let count : length t.0 ≡ d - s = split.chosen in
    let all : length t.1 + (d - s) ≡ length (range a.size) = split.all in
    record { chosen = omega arith; rest = omega arith }

-- ---- entries of the code

-- the products of two entries, by the sizes of their extensors
pub by_sizes : (d : ℕ) (left right : Extensor × TrackedOf d)
    → flat_map (meet_product (entry_of left) (entry_of right)) (splits (d - right.0.size) (range left.0.size))
    ≡ meets_with d (entry_of left) (entry_of right)
by_sizes d left right =
    ap₂ (λ m n. flat_map (meet_product (entry_of left) (entry_of right)) (splits (d - m) (range n)))
    (sym (length-points_of right.0.size right.0.points right.0.formed))
    (sym (length-points_of left.0.size left.0.points left.0.formed))
