-- The extensors that products reach and their polynomials, with one product more.
use Rattle.std.specs.Prelude.{◌≡◌, ℕ, Bool, true, false, cond, List, [], ◌∷◌, ◌++◌, map, flat_map, Option, Some, None, unwrap_or}
use Rattle.std.specs.BTreeMap.{insert_entry, is_at}
use Rattle.std.specs.Map.{lookup}
use Rattle.std.specs.Ordering.{is_eq, eq_by_cmp, match_ordering, ordering_reverse}
use Rattle.std.specs.Cmp.{tied_itself}
use Rattle.std.specs.Cmp.Lexicographic.{nat_list_cmp_total}
use Rattle.std.specs.declared.cmp.Ordering.{Ordering}
use Rattle.std.specs.declared.cmp.Ordering.TheVariants.{Less, Equal, Greater}
use Rattle.std.proofs.Common.{refl, sym, ap, ap₂, subst, ◌∙◌, append-nil}
use Rattle.std.proofs.lemmas.List.Elements.{filter-append}
use Rattle.std.proofs.lemmas.List.Concat.{flat_map-append}
use Rattle.coordinate_model.specs.Sums.{Terms}
use Rattle.coordinate_model.specs.Key.{Key, row_cmp}
use Rattle.coordinate_model.specs.Starts.{Product, terms_of, put_extensor, reached, products_at}
use Rattle.coordinate_model.proofs.Grouping.{Ascend, IsBelow, ascend-reached}
use Rattle.coordinate_model.proofs.KeySumLaws.{row_same}
use Rattle.bracket_poly.specs.Tracked.{Tracked, nothing, plus_term, plus_terms}
use Rattle.shuffle_meet.specs.Stops.{tracked_at, tracked_starts}

-- ---- extensors that are put in their places

greater : (x y : List ℕ) → row_cmp x y ≡ Less → row_cmp y x ≡ Greater
greater x y e = nat_list_cmp_total.antisymm y x ∙ ap ordering_reverse e

lesser : (x y : List ℕ) → row_cmp x y ≡ Greater → row_cmp y x ≡ Less
lesser x y e = nat_list_cmp_total.antisymm y x ∙ ap ordering_reverse e

abbrev put_by : List ℕ → List ℕ → List (List ℕ) → Ordering → List (List ℕ)
put_by x y ys r = elim r [ Less ↦ x ∷ y ∷ ys | Equal ↦ y ∷ ys | Greater ↦ y ∷ put_extensor x ys ]

put_less : (x y : List ℕ) (ys : List (List ℕ)) → row_cmp x y ≡ Less → put_extensor x (y ∷ ys) ≡ x ∷ y ∷ ys
put_less x y ys e = ap (put_by x y ys) e

put_equal : (x y : List ℕ) (ys : List (List ℕ)) → row_cmp x y ≡ Equal → put_extensor x (y ∷ ys) ≡ y ∷ ys
put_equal x y ys e = ap (put_by x y ys) e

put_greater : (x y : List ℕ) (ys : List (List ℕ)) → row_cmp x y ≡ Greater
    → put_extensor x (y ∷ ys) ≡ y ∷ put_extensor x ys
put_greater x y ys e = ap (put_by x y ys) e

-- where x stands before the list and y in front of it too
put_two : (x y : List ℕ) (zs : List (List ℕ)) → put_extensor x zs ≡ x ∷ zs → put_extensor y zs ≡ y ∷ zs
    → put_extensor x (y ∷ zs) ≡ put_extensor y (x ∷ zs)
put_two x y zs p q = step (row_cmp x y) refl
  where
    step : (r : Ordering) → row_cmp x y ≡ r → put_extensor x (y ∷ zs) ≡ put_extensor y (x ∷ zs)
    step Less e = put_less x y zs e ∙ sym (put_greater y x zs (greater x y e) ∙ ap (λ t. x ∷ t) q)
    step Equal e = let same : x ≡ y = row_same x y e in λ j. put_extensor (same j) (sym same j ∷ zs)
    step Greater e = put_greater x y zs e ∙ ap (λ t. y ∷ t) p ∙ sym (put_less y x zs (lesser x y e))

-- two extensors are put in their places in either order
pub put-comm : (x y : List ℕ) (zs : List (List ℕ))
    → put_extensor x (put_extensor y zs) ≡ put_extensor y (put_extensor x zs)
put-comm x y [] = put_two x y [] refl refl
put-comm x y (z ∷ zs) = step (row_cmp x z) (row_cmp y z) refl refl (put-comm x y zs)
  where
    step : (r s : Ordering) → row_cmp x z ≡ r → row_cmp y z ≡ s
        → put_extensor x (put_extensor y zs) ≡ put_extensor y (put_extensor x zs)
        → put_extensor x (put_extensor y (z ∷ zs)) ≡ put_extensor y (put_extensor x (z ∷ zs))
    step Less Less e f ih =
        ap (put_extensor x) (put_less y z zs f) ∙ put_two x y (z ∷ zs) (put_less x z zs e) (put_less y z zs f)
        ∙ sym (ap (put_extensor y) (put_less x z zs e))
    step Less Equal e f ih =
        let later : row_cmp y x ≡ Greater = ap (λ w. row_cmp w x) (row_same y z f) ∙ greater x z e in
        ap (put_extensor x) (put_equal y z zs f) ∙ put_less x z zs e
        ∙ sym (ap (put_extensor y) (put_less x z zs e) ∙ put_greater y x (z ∷ zs) later
        ∙ ap (λ t. x ∷ t) (put_equal y z zs f))
    step Less Greater e f ih =
        let later : row_cmp y x ≡ Greater = greater x y (nat_list_cmp_total.trans x z y e (lesser y z f)) in
        ap (put_extensor x) (put_greater y z zs f) ∙ put_less x z (put_extensor y zs) e
        ∙ sym (ap (put_extensor y) (put_less x z zs e) ∙ put_greater y x (z ∷ zs) later
        ∙ ap (λ t. x ∷ t) (put_greater y z zs f))
    step Equal Less e f ih =
        let later : row_cmp x y ≡ Greater = ap (λ w. row_cmp w y) (row_same x z e) ∙ greater y z f in
        ap (put_extensor x) (put_less y z zs f) ∙ put_greater x y (z ∷ zs) later
        ∙ ap (λ t. y ∷ t) (put_equal x z zs e)
        ∙ sym (ap (put_extensor y) (put_equal x z zs e) ∙ put_less y z zs f)
    step Equal Equal e f ih =
        ap (put_extensor x) (put_equal y z zs f) ∙ put_equal x z zs e
        ∙ sym (ap (put_extensor y) (put_equal x z zs e) ∙ put_equal y z zs f)
    step Equal Greater e f ih =
        ap (put_extensor x) (put_greater y z zs f) ∙ put_equal x z (put_extensor y zs) e
        ∙ sym (ap (put_extensor y) (put_equal x z zs e) ∙ put_greater y z zs f)
    step Greater Less e f ih =
        let later : row_cmp x y ≡ Greater = greater y x (nat_list_cmp_total.trans y z x f (lesser x z e)) in
        ap (put_extensor x) (put_less y z zs f) ∙ put_greater x y (z ∷ zs) later
        ∙ ap (λ t. y ∷ t) (put_greater x z zs e)
        ∙ sym (ap (put_extensor y) (put_greater x z zs e) ∙ put_less y z (put_extensor x zs) f)
    step Greater Equal e f ih =
        ap (put_extensor x) (put_equal y z zs f) ∙ put_greater x z zs e
        ∙ sym (ap (put_extensor y) (put_greater x z zs e) ∙ put_equal y z (put_extensor x zs) f)
    step Greater Greater e f ih =
        ap (put_extensor x) (put_greater y z zs f) ∙ put_greater x z (put_extensor y zs) e
        ∙ ap (λ t. z ∷ t) ih
        ∙ sym (ap (put_extensor y) (put_greater x z zs e) ∙ put_greater y z (put_extensor x zs) f)

-- ---- one product more

pub reached_more : (ps : List Product) (p : Product) → reached (ps ++ p ∷ []) ≡ put_extensor p.extensor (reached ps)
reached_more [] p = refl
reached_more (q ∷ ps) p = ap (put_extensor q.extensor) (reached_more ps p) ∙ put-comm q.extensor p.extensor (reached ps)

pub plus_terms-append : (f : Tracked) (ts us : Terms Key) → plus_terms f (ts ++ us) ≡ plus_terms (plus_terms f ts) us
plus_terms-append f [] us = refl
plus_terms-append f (t ∷ ts) us = plus_terms-append (plus_term f t) ts us

-- a product is added to its own extensor, and to no other
tracked_same : (ps : List Product) (p : Product)
    → tracked_at p.extensor (ps ++ p ∷ []) ≡ plus_terms (tracked_at p.extensor ps) (terms_of p)
tracked_same ps p =
    ap (λ qs. plus_terms nothing (flat_map terms_of qs))
    (filter-append (λ q. eq_by_cmp row_cmp p.extensor q.extensor) ps (p ∷ [])
    ∙ ap (λ b. products_at p.extensor ps ++ cond b (p ∷ []) []) (ap is_eq (tied_itself nat_list_cmp_total p.extensor)))
    ∙ ap (plus_terms nothing)
    (flat_map-append terms_of (products_at p.extensor ps) (p ∷ [])
    ∙ ap (λ ts. flat_map terms_of (products_at p.extensor ps) ++ ts) (append-nil (terms_of p)))
    ∙ plus_terms-append nothing (flat_map terms_of (products_at p.extensor ps)) (terms_of p)

tracked_other : (x : List ℕ) (ps : List Product) (p : Product) → eq_by_cmp row_cmp x p.extensor ≡ false
    → tracked_at x (ps ++ p ∷ []) ≡ tracked_at x ps
tracked_other x ps p e =
    ap (λ qs. plus_terms nothing (flat_map terms_of qs))
    (filter-append (λ q. eq_by_cmp row_cmp x q.extensor) ps (p ∷ [])
    ∙ ap (λ b. products_at x ps ++ cond b (p ∷ []) []) e ∙ append-nil (products_at x ps))

-- ---- lists of extensors with what stands at each

module _ {V : Type 0} (at after : List ℕ → V) (x : List ℕ) (v : V) (same : after x ≡ v)
    (other : (y : List ℕ) → eq_by_cmp row_cmp y x ≡ false → after y ≡ at y) where
  abbrev listed : (List ℕ → V) → List (List ℕ) → List (List ℕ × V)
  listed f xs = map (λ y. (y, f y)) xs

  unlike : (y : List ℕ) → row_cmp x y ≡ Less → eq_by_cmp row_cmp y x ≡ false
  unlike y e = ap is_eq (greater x y e)

  unlike_greater : (y : List ℕ) → row_cmp x y ≡ Greater → eq_by_cmp row_cmp y x ≡ false
  unlike_greater y e = ap is_eq (lesser x y e)

  above : (ys : List (List ℕ)) → IsBelow x ys → listed at ys ≡ listed after ys
  above [] h = refl
  above (y ∷ ys) h = ap₂ (λ e es. (y, e) ∷ es) (sym (other y (unlike y h.0))) (above ys h.1)

  below_rest : (y : List ℕ) (ys : List (List ℕ)) → row_cmp x y ≡ Less → IsBelow y ys → IsBelow x ys
  below_rest y [] e h = tt
  below_rest y (z ∷ zs) e h = (nat_list_cmp_total.trans x y z e h.0, below_rest y zs e h.1)

  -- the value put in at x
  pub insert_listed : (xs : List (List ℕ)) → Ascend xs
      → insert_entry row_cmp (listed at xs) x v ≡ listed after (put_extensor x xs)
  insert_listed [] h = ap (λ w. (x, w) ∷ []) (sym same)
  insert_listed (y ∷ ys) h = step (row_cmp x y) refl (insert_listed ys h.1)
    where
      step : (r : Ordering) → row_cmp x y ≡ r
          → insert_entry row_cmp (listed at ys) x v ≡ listed after (put_extensor x ys)
          → match_ordering r ((x, v) ∷ listed at (y ∷ ys)) ((y, v) ∷ listed at ys)
          ((y, at y) ∷ insert_entry row_cmp (listed at ys) x v)
          ≡ listed after (put_by x y ys r)
      step Less e ih =
          ap₂ (λ w es. (x, w) ∷ es) (sym same) (above (y ∷ ys) (e, below_rest y ys e h.0))
      step Equal e ih =
          let equal : x ≡ y = row_same x y e in
          let here : v ≡ after y = sym same ∙ ap after equal in
          let rest : IsBelow x ys = subst (λ (z : List ℕ). IsBelow z ys) (sym equal) h.0 in
          ap₂ (λ w es. (y, w) ∷ es) here (above ys rest)
      step Greater e ih = ap₂ (λ w es. (y, w) ∷ es) (sym (other y (unlike_greater y e))) ih

-- what a search by the extensor finds
abbrev found : {V : Type 0} → (List ℕ → V) → List ℕ → List (List ℕ) → Option V
found at x xs = lookup (is_at (row_cmp x)) (map (λ y. (y, at y)) xs)

-- what stands at x, where anything does
found_or : {V : Type 0} (at : List ℕ → V) (x : List ℕ) (default : V) (xs : List (List ℕ))
    → (found at x xs ≡ None → at x ≡ default) → unwrap_or (found at x xs) default ≡ at x
found_or at x default [] h = sym (h refl)
found_or {V} at x default (y ∷ ys) h = step (row_cmp x y) refl h (found_or at x default ys)
  where
    step : (r : Ordering) → row_cmp x y ≡ r
        → (cond (is_eq r) (Some (at y)) (found at x ys) ≡ None → at x ≡ default)
        → ((found at x ys ≡ None → at x ≡ default) → unwrap_or (found at x ys) default ≡ at x)
        → unwrap_or (cond (is_eq r) (Some (at y)) (found at x ys)) default ≡ at x
    step Less e i ih = ih i
    step Equal e i ih = ap at (sym (row_same x y e))
    step Greater e i ih = ih i

-- a search that finds nothing
nothing_found : {V : Type 0} (b : Bool) (v : V) (o : Option V) → cond b (Some v) o ≡ None → (b ≡ false) × (o ≡ None)
nothing_found true v o h = cc
nothing_found false v o h = (refl, h)

nothing_first : {V : Type 0} (b : Bool) (v : V) (o : Option V) → b ≡ false → o ≡ None → cond b (Some v) o ≡ None
nothing_first b v o e h = ap (λ c. cond c (Some v) o) e ∙ h

-- an extensor that is not found has not been put in its place
not_put : {V : Type 0} (at : List ℕ → V) (x y : List ℕ) (xs : List (List ℕ)) → found at x (put_extensor y xs) ≡ None
    → (eq_by_cmp row_cmp x y ≡ false) × (found at x xs ≡ None)
not_put at x y [] h = nothing_found (is_eq (row_cmp x y)) (at y) None h
not_put at x y (z ∷ zs) h = step (row_cmp y z) refl h (not_put at x y zs)
  where
    step : (r : Ordering) → row_cmp y z ≡ r → found at x (put_by y z zs r) ≡ None
        → (found at x (put_extensor y zs) ≡ None → (eq_by_cmp row_cmp x y ≡ false) × (found at x zs ≡ None))
        → (eq_by_cmp row_cmp x y ≡ false) × (found at x (z ∷ zs) ≡ None)
    step Less e i ih = nothing_found (is_eq (row_cmp x y)) (at y) (found at x (z ∷ zs)) i
    step Equal e i ih =
        let first : is_eq (row_cmp x z) ≡ false = (nothing_found (is_eq (row_cmp x z)) (at z) (found at x zs) i).0 in
        (ap (λ w. is_eq (row_cmp x w)) (row_same y z e) ∙ first, i)
    step Greater e i ih =
        let parts : (is_eq (row_cmp x z) ≡ false) × (found at x (put_extensor y zs) ≡ None) =
        nothing_found (is_eq (row_cmp x z)) (at z) (found at x (put_extensor y zs)) i in
        let others : (eq_by_cmp row_cmp x y ≡ false) × (found at x zs ≡ None) = ih parts.1 in
        (others.0, nothing_first (is_eq (row_cmp x z)) (at z) (found at x zs) parts.0 others.1)

-- and is not reached
none_reached : {V : Type 0} (at : List ℕ → V) (x : List ℕ) (ps : List Product) → found at x (reached ps) ≡ None
    → products_at x ps ≡ []
none_reached at x [] h = refl
none_reached at x (p ∷ ps) h =
    let parts : (eq_by_cmp row_cmp x p.extensor ≡ false) × (found at x (reached ps) ≡ None) =
    not_put at x p.extensor (reached ps) h in
    ap (λ b. cond b (p ∷ products_at x ps) (products_at x ps)) parts.0 ∙ none_reached at x ps parts.1

-- ---- the starts

-- what is found at an extensor is its polynomial
pub found_start : (x : List ℕ) (ps : List Product)
    → unwrap_or (lookup (is_at (row_cmp x)) (tracked_starts ps)) nothing ≡ tracked_at x ps
found_start x ps =
    found_or (λ y. tracked_at y ps) x nothing (reached ps)
    (λ h. ap (λ qs. plus_terms nothing (flat_map terms_of qs)) (none_reached (λ y. tracked_at y ps) x ps h))

-- one product more
pub more_starts : (ps : List Product) (p : Product)
    → insert_entry row_cmp (tracked_starts ps) p.extensor (plus_terms (tracked_at p.extensor ps) (terms_of p))
    ≡ tracked_starts (ps ++ p ∷ [])
more_starts ps p =
    insert_listed (λ y. tracked_at y ps) (λ y. tracked_at y (ps ++ p ∷ [])) p.extensor
    (plus_terms (tracked_at p.extensor ps) (terms_of p)) (tracked_same ps p) (λ y e. tracked_other y ps p e) (reached ps)
    (ascend-reached ps)
    ∙ ap (λ xs. map (λ y. (y, tracked_at y (ps ++ p ∷ []))) xs) (sym (reached_more ps p))
