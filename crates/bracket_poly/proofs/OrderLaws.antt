-- Ascending lists of keys that are merged.
use Rattle.std.specs.Prelude.{◌≡◌, Bool, true, false, ◌||◌, List, [], ◌∷◌}
use Rattle.std.specs.List.{AllByRecursion}
use Rattle.std.specs.List.Sorted.{IsStrictlySortedBy}
use Rattle.std.specs.Cmp.{alike_right}
use Rattle.std.specs.Ordering.{is_eq, match_ordering, ordering_reverse}
use Rattle.std.specs.Set.{merge_step}
use Rattle.std.specs.BTreeSet.{insert_key}
use Rattle.std.specs.declared.cmp.Ordering.{Ordering}
use Rattle.std.specs.declared.cmp.Ordering.TheVariants.{Less, Equal, Greater}
use Rattle.std.proofs.Common.{refl, sym, ap, ◌∙◌}
use Rattle.coordinate_model.specs.Key.{Key, key_cmp}
use Rattle.coordinate_model.proofs.KeyProducts.{key_total}
use Rattle.bracket_poly.specs.Arena.{HasAll}
use Rattle.bracket_poly.specs.Orders.{merged}
use Rattle.bracket_poly.specs.Tracked.{has_met}
use Rattle.bracket_poly.proofs.ArenaLaws.{same}
use Rattle.bracket_poly.proofs.ArenaOrder.{or_step, or_right, put_keeps, put_there}

pub merged_alone : (xs : List Key) → merged xs [] ≡ xs
merged_alone [] = refl
merged_alone (x ∷ xs) = refl

by_rank : (P : List Key → Type 0) (r : Ordering) (xs ys zs : List Key) → (r ≡ Less → P xs) → (r ≡ Equal → P ys)
    → (r ≡ Greater → P zs) → P (match_ordering r xs ys zs)
by_rank P Less xs ys zs a b c = a refl
by_rank P Equal xs ys zs a b c = b refl
by_rank P Greater xs ys zs a b c = c refl

-- ---- they ascend
abbrev Below : Key → List Key → Type 0
Below x ys = AllByRecursion (λ y. key_cmp x y ≡ Less) ys

all_map : (P Q : Key → Type 0) → ((z : Key) → P z → Q z) → (xs : List Key) → AllByRecursion P xs → AllByRecursion Q xs
all_map P Q f [] a = tt
all_map P Q f (x ∷ xs) a = (f x a.0, all_map P Q f xs a.1)

all_at : (P : Key → Type 0) (x : Key) (xs : List Key) (on : List Key → List Key) → P x → AllByRecursion P xs
    → ((ys : List Key) → AllByRecursion P ys → AllByRecursion P (on ys)) → (ys : List Key) → AllByRecursion P ys
    → AllByRecursion P (merge_step key_cmp true x xs on ys)
all_at P x xs on p a h [] b = (p, a)
all_at P x xs on p a h (y ∷ ys) b = by_rank (AllByRecursion P) (key_cmp x y) _ _ _
    (λ _. (p, h (y ∷ ys) b)) (λ _. (p, h ys b.1)) (λ _. (b.0, all_at P x xs on p a h ys b.1))

all_merged : (P : Key → Type 0) (xs ys : List Key) → AllByRecursion P xs → AllByRecursion P ys → AllByRecursion P (merged xs ys)
all_merged P [] ys a b = b
all_merged P (x ∷ xs) ys a b = all_at P x xs (merged xs) a.0 a.1 (λ zs. all_merged P xs zs a.1) ys b

below_all : (x y : Key) (ys : List Key) → key_cmp x y ≡ Less → Below y ys → Below x (y ∷ ys)
below_all x y ys h a = (h, all_map (λ z. key_cmp y z ≡ Less) (λ z. key_cmp x z ≡ Less) (λ z l. key_total.trans x y z h l) ys a)

level_all : (x y : Key) (ys : List Key) → key_cmp x y ≡ Equal → Below y ys → Below x ys
level_all x y ys h a = all_map (λ z. key_cmp y z ≡ Less) (λ z. key_cmp x z ≡ Less) (λ z l. key_total.congr x y z h ∙ l) ys a

turned : (x y : Key) → key_cmp x y ≡ Greater → key_cmp y x ≡ Less
turned x y h = key_total.antisymm y x ∙ ap ordering_reverse h

ascends_at : (x : Key) (xs : List Key) → IsStrictlySortedBy key_cmp (x ∷ xs)
    → ((ys : List Key) → IsStrictlySortedBy key_cmp ys → IsStrictlySortedBy key_cmp (merged xs ys))
    → (ys : List Key) → IsStrictlySortedBy key_cmp ys → IsStrictlySortedBy key_cmp (merged (x ∷ xs) ys)
unfolding IsStrictlySortedBy
ascends_at x xs s h [] t = s
ascends_at x xs s h (y ∷ ys) t = by_rank (IsStrictlySortedBy key_cmp) (key_cmp x y) _ _ _
    (λ r. (all_merged (λ z. key_cmp x z ≡ Less) xs (y ∷ ys) s.0 (below_all x y ys r t.0), h (y ∷ ys) t))
    (λ r. (all_merged (λ z. key_cmp x z ≡ Less) xs ys s.0 (level_all x y ys r t.0), h ys t.1))
    (λ r. (all_merged (λ z. key_cmp y z ≡ Less) (x ∷ xs) ys (below_all y x xs (turned x y r) s.0) t.0, ascends_at x xs s h ys t.1))

pub merged_ascends : (xs ys : List Key) → IsStrictlySortedBy key_cmp xs → IsStrictlySortedBy key_cmp ys
    → IsStrictlySortedBy key_cmp (merged xs ys)
unfolding IsStrictlySortedBy
merged_ascends [] ys s t = t
merged_ascends (x ∷ xs) ys s t = ascends_at x xs s (λ zs. merged_ascends xs zs s.1) ys t

-- ---- they have the keys of both
or_none : (a : Bool) → a ≡ (a || false)
or_none true = refl
or_none false = refl

or_assoc : (a b c : Bool) → (a || (b || c)) ≡ ((a || b) || c)
or_assoc true b c = refl
or_assoc false b c = refl

or_once : (t a b : Bool) → (t || (a || b)) ≡ ((t || a) || (t || b))
or_once true a b = refl
or_once false a b = refl

or_swap : (a b c : Bool) → (a || (b || c)) ≡ (b || (a || c))
or_swap true true c = refl
or_swap true false c = refl
or_swap false b c = refl

module _ (q : Key) where
  has_at : (x : Key) (xs : List Key) → ((ys : List Key) → has_met (merged xs ys) q ≡ (has_met xs q || has_met ys q))
      → (ys : List Key) → has_met (merged (x ∷ xs) ys) q ≡ (has_met (x ∷ xs) q || has_met ys q)
  has_at x xs h [] = or_none (has_met (x ∷ xs) q)
  has_at x xs h (y ∷ ys) = by_rank (λ l. has_met l q ≡ (has_met (x ∷ xs) q || has_met (y ∷ ys) q)) (key_cmp x y) _ _ _
      (λ r. ap (λ b. same q x || b) (h (y ∷ ys)) ∙ or_assoc (same q x) (has_met xs q) (has_met (y ∷ ys) q))
      (λ r. ap (λ b. same q x || b) (h ys) ∙ or_once (same q x) (has_met xs q) (has_met ys q)
      ∙ ap (λ t. has_met (x ∷ xs) q || (t || has_met ys q)) (ap is_eq (alike_right key_total x y q r)))
      (λ r. ap (λ b. same q y || b) (has_at x xs h ys) ∙ or_swap (same q y) (has_met (x ∷ xs) q) (has_met ys q))

  has_merged : (xs ys : List Key) → has_met (merged xs ys) q ≡ (has_met xs q || has_met ys q)
  has_merged [] ys = refl
  has_merged (x ∷ xs) ys = has_at x xs (has_merged xs) ys

-- ---- a key that is put into the second list
pub put_among : (xs ys more : List Key) (k : Key) → more ≡ insert_key key_cmp ys k → HasAll (merged xs more) (merged xs ys)
put_among xs ys more k e q h =
    has_merged q xs more
    ∙ or_step (has_met xs q) (has_met ys q) (has_met more q) (sym (has_merged q xs ys) ∙ h)
    (λ m. ap (λ zs. has_met zs q) e ∙ put_keeps ys k q m)

pub put_merged : (xs ys more : List Key) (k : Key) → more ≡ insert_key key_cmp ys k → has_met (merged xs more) k ≡ true
put_merged xs ys more k e =
    has_merged k xs more ∙ or_right (has_met xs k) (has_met more k) (ap (λ zs. has_met zs k) e ∙ put_there ys k)
