-- Entries of the code by the points of their extensors: what a map of extensors does to them.
use Rattle.std.specs.Prelude.{◌≡◌, ℕ, ◌-◌, Bool, true, false, cond, List, [], ◌∷◌, ◌++◌, map, length, replicate}
use Rattle.std.specs.Prelude.{Some, option_map}
use Rattle.std.specs.BTreeMap.{insert_entry, is_at}
use Rattle.std.specs.Map.{lookup, remove_entry}
use Rattle.std.specs.List.{AllByRecursion}
use Rattle.std.specs.Ordering.{is_eq, match_ordering, nat_cmp, ordering_then}
use Rattle.std.specs.Cmp.{tied_itself, nat_cmp_total}
use Rattle.std.specs.Cmp.Lexicographic.{slice_cmp, nat_list_cmp_total}
use Rattle.std.specs.declared.cmp.Ordering.{Ordering}
use Rattle.std.specs.declared.cmp.Ordering.TheVariants.{Less, Equal, Greater}
use Rattle.std.proofs.Common.{refl, sym, ap, ap₂, subst, ◌∙◌, arith, take-append-drop}
use Rattle.coordinate_model.specs.Key.{row_cmp}
use Rattle.coordinate_model.proofs.Grouping.{Ascend, IsBelow}
use Rattle.coordinate_model.proofs.KeySumLaws.{row_same}
use Rattle.bracket_terms.specs.declared.extensor.Extensor.{Extensor}
use Rattle.bracket_terms.specs.contracts.extensor.ExtensorOrd.TheImpl as derived
use Rattle.bracket_terms.specs.Joins.{points_of}
use Rattle.bracket_terms.proofs.ExtensorLaws.{length-points_of}
use Rattle.bracket_poly.specs.Kept.{TrackedOf}
use Rattle.shuffle_meet.specs.Seen.{seen}

-- ---- extensors of one size

-- the order that is derived
abbrev pub extensor_cmp : Extensor → Extensor → Ordering
extensor_cmp = derived.cmp-value.it

parts_of_cmp : (a b : Extensor) → extensor_cmp a b ≡ ordering_then (nat_cmp a.size b.size) (slice_cmp nat_cmp a.points b.points)
parts_of_cmp a b = refl

-- lists of one length that go on alike
cmp_front : (xs ys zs : List ℕ) → length xs ≡ length ys → slice_cmp nat_cmp (xs ++ zs) (ys ++ zs) ≡ slice_cmp nat_cmp xs ys
cmp_front [] [] zs h = tied_itself nat_list_cmp_total zs
cmp_front [] (y ∷ ys) zs h = absurd (omega arith)
cmp_front (x ∷ xs) [] zs h = absurd (omega arith)
cmp_front (x ∷ xs) (y ∷ ys) zs h = ap (ordering_then (nat_cmp x y)) (cmp_front xs ys zs (omega arith))

-- extensors of one size are in the order of their points
pub cmp_points : (a b : Extensor) → a.size ≡ b.size → extensor_cmp a b ≡ row_cmp (points_of a) (points_of b)
cmp_points a b e =
    parts_of_cmp a b
    ∙ ap (λ r. ordering_then r (slice_cmp nat_cmp a.points b.points))
    (ap (λ n. nat_cmp n b.size) e ∙ tied_itself nat_cmp_total b.size)
    ∙ ap₂ (slice_cmp nat_cmp) (whole a) (whole b ∙ ap (λ n. points_of b ++ replicate (4 - n) 0) (sym e))
    ∙ cmp_front (points_of a) (points_of b) (replicate (4 - a.size) 0)
    (length-points_of a.size a.points a.formed ∙ e ∙ sym (length-points_of b.size b.points b.formed))
  where
    whole : (a : Extensor) → a.points ≡ points_of a ++ replicate (4 - a.size) 0
    whole a = sym (take-append-drop a.size a.points) ∙ ap (λ zs. points_of a ++ zs) a.formed.unused

-- ---- maps of extensors of one size

abbrev pub Entries : ℕ → Type 0
Entries d = List (Extensor × TrackedOf d)

abbrev pub HaveSize : {d : ℕ} → ℕ → Entries d → Type 0
HaveSize n es = AllByRecursion (λ e. e.0.size ≡ n) es

same_order : (n : ℕ) (k e : Extensor) → k.size ≡ n → e.size ≡ n
    → extensor_cmp k e ≡ row_cmp (points_of k) (points_of e)
same_order n k e size h = cmp_points k e (size ∙ sym h)

module _ {d : ℕ} (n : ℕ) (k : Extensor) (size : k.size ≡ n) where
  pub seen_insert : (es : Entries d) (w : TrackedOf d) → HaveSize n es
      → seen (insert_entry extensor_cmp es k w) ≡ insert_entry row_cmp (seen es) (points_of k) w.tracked
  seen_insert [] w h = refl
  seen_insert (e ∷ es) w h =
      step (extensor_cmp k e.0) (seen_insert es w h.1)
      ∙ ap (λ r. match_ordering r ((points_of k, w.tracked) ∷ seen (e ∷ es)) ((points_of e.0, w.tracked) ∷ seen es)
      ((points_of e.0, e.1.tracked) ∷ insert_entry row_cmp (seen es) (points_of k) w.tracked)) (same_order n k e.0 size h.0)
    where
      step : (r : Ordering)
          → seen (insert_entry extensor_cmp es k w) ≡ insert_entry row_cmp (seen es) (points_of k) w.tracked
          → seen (match_ordering r ((k, w) ∷ e ∷ es) ((e.0, w) ∷ es) (e ∷ insert_entry extensor_cmp es k w))
          ≡ match_ordering r ((points_of k, w.tracked) ∷ seen (e ∷ es)) ((points_of e.0, w.tracked) ∷ seen es)
          ((points_of e.0, e.1.tracked) ∷ insert_entry row_cmp (seen es) (points_of k) w.tracked)
      step Less ih = refl
      step Equal ih = refl
      step Greater ih = ap (λ fs. (points_of e.0, e.1.tracked) ∷ fs) ih

  pub seen_remove : (es : Entries d) → HaveSize n es
      → seen (remove_entry (is_at (extensor_cmp k)) es) ≡ remove_entry (is_at (row_cmp (points_of k))) (seen es)
  seen_remove [] h = refl
  seen_remove (e ∷ es) h =
      step (is_eq (extensor_cmp k e.0)) (seen_remove es h.1)
      ∙ ap (λ r. cond (is_eq r) (seen es)
      ((points_of e.0, e.1.tracked) ∷ remove_entry (is_at (row_cmp (points_of k))) (seen es))) (same_order n k e.0 size h.0)
    where
      step : (b : Bool)
          → seen (remove_entry (is_at (extensor_cmp k)) es) ≡ remove_entry (is_at (row_cmp (points_of k))) (seen es)
          → seen (cond b es (e ∷ remove_entry (is_at (extensor_cmp k)) es))
          ≡ cond b (seen es) ((points_of e.0, e.1.tracked) ∷ remove_entry (is_at (row_cmp (points_of k))) (seen es))
      step true ih = refl
      step false ih = ap (λ fs. (points_of e.0, e.1.tracked) ∷ fs) ih

  pub seen_lookup : (es : Entries d) → HaveSize n es
      → option_map (λ w. w.tracked) (lookup (is_at (extensor_cmp k)) es) ≡ lookup (is_at (row_cmp (points_of k))) (seen es)
  seen_lookup [] h = refl
  seen_lookup (e ∷ es) h =
      step (is_eq (extensor_cmp k e.0)) (seen_lookup es h.1)
      ∙ ap (λ r. cond (is_eq r) (Some e.1.tracked) (lookup (is_at (row_cmp (points_of k))) (seen es))) (same_order n k e.0 size h.0)
    where
      step : (b : Bool)
          → option_map (λ w. w.tracked) (lookup (is_at (extensor_cmp k)) es) ≡ lookup (is_at (row_cmp (points_of k))) (seen es)
          → option_map (λ w. w.tracked) (cond b (Some e.1) (lookup (is_at (extensor_cmp k)) es))
          ≡ cond b (Some e.1.tracked) (lookup (is_at (row_cmp (points_of k))) (seen es))
      step true ih = refl
      step false ih = ih

  pub sizes_insert : (es : Entries d) (w : TrackedOf d) → HaveSize n es → HaveSize n (insert_entry extensor_cmp es k w)
  sizes_insert [] w h = (size, tt)
  sizes_insert (e ∷ es) w h = step (extensor_cmp k e.0) (sizes_insert es w h.1)
    where
      step : (r : Ordering) → HaveSize n (insert_entry extensor_cmp es k w)
          → HaveSize n (match_ordering r ((k, w) ∷ e ∷ es) ((e.0, w) ∷ es) (e ∷ insert_entry extensor_cmp es k w))
      step Less ih = (size, h)
      step Equal ih = h
      step Greater ih = (h.0, ih)

  pub sizes_remove : (es : Entries d) → HaveSize n es → HaveSize n (remove_entry (is_at (extensor_cmp k)) es)
  sizes_remove [] h = tt
  sizes_remove (e ∷ es) h = step (is_eq (extensor_cmp k e.0)) (sizes_remove es h.1)
    where
      step : (b : Bool) → HaveSize n (remove_entry (is_at (extensor_cmp k)) es)
          → HaveSize n (cond b es (e ∷ remove_entry (is_at (extensor_cmp k)) es))
      step true ih = h.1
      step false ih = (h.0, ih)

-- ---- taken out and put back

module _ {V : Type 0} (x : List ℕ) (v : V) where
  remove_below : (es : List (List ℕ × V)) → IsBelow x (map (λ e. e.0) es) → remove_entry (is_at (row_cmp x)) es ≡ es
  remove_below [] h = refl
  remove_below (e ∷ es) h =
      ap (λ r. cond (is_eq r) es (e ∷ remove_entry (is_at (row_cmp x)) es)) h.0 ∙ ap (λ fs. e ∷ fs) (remove_below es h.1)

  insert_below : (es : List (List ℕ × V)) → IsBelow x (map (λ e. e.0) es) → insert_entry row_cmp es x v ≡ (x, v) ∷ es
  insert_below [] h = refl
  insert_below (e ∷ es) h =
      ap (λ r. match_ordering r ((x, v) ∷ e ∷ es) ((e.0, v) ∷ es) (e ∷ insert_entry row_cmp es x v)) h.0

  below_next : (y : List ℕ) (ys : List (List ℕ)) → row_cmp x y ≡ Less → IsBelow y ys → IsBelow x ys
  below_next y [] e h = tt
  below_next y (z ∷ zs) e h = (nat_list_cmp_total.trans x y z e h.0, below_next y zs e h.1)

  -- an entry that is put where the one before was taken out
  pub insert_removed : (es : List (List ℕ × V)) → Ascend (map (λ e. e.0) es)
      → insert_entry row_cmp (remove_entry (is_at (row_cmp x)) es) x v ≡ insert_entry row_cmp es x v
  insert_removed [] h = refl
  insert_removed (e ∷ es) h = step (row_cmp x e.0) refl (insert_removed es h.1)
    where
      others : List (List ℕ × V)
      others = remove_entry (is_at (row_cmp x)) es

      step : (r : Ordering) → row_cmp x e.0 ≡ r → insert_entry row_cmp others x v ≡ insert_entry row_cmp es x v
          → insert_entry row_cmp (cond (is_eq r) es (e ∷ others)) x v
          ≡ match_ordering r ((x, v) ∷ e ∷ es) ((e.0, v) ∷ es) (e ∷ insert_entry row_cmp es x v)
      step Less q ih =
          ap (λ r. match_ordering r ((x, v) ∷ e ∷ others) ((e.0, v) ∷ others)
          (e ∷ insert_entry row_cmp others x v)) q
          ∙ ap (λ fs. (x, v) ∷ e ∷ fs) (remove_below es (below_next e.0 (map (λ e. e.0) es) q h.0))
      step Equal q ih =
          let same : x ≡ e.0 = row_same x e.0 q in
          insert_below es (subst (λ (y : List ℕ). IsBelow y (map (λ e. e.0) es)) (sym same) h.0)
          ∙ ap (λ y. (y, v) ∷ es) same
      step Greater q ih =
          ap (λ r. match_ordering r ((x, v) ∷ e ∷ others) ((e.0, v) ∷ others)
          (e ∷ insert_entry row_cmp others x v)) q
          ∙ ap (λ fs. e ∷ fs) ih
