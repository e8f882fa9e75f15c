-- What adding a term to collected ones does at the place of its key.
use Rattle.std.proofs.Common.{◌≡◌, ◌≢◌, ℕ, zero, suc, ◌<◌, ◌≤◌, List, [], ◌∷◌, ◌++◌, take, drop, map}
use Rattle.std.proofs.Common.{length, get_or, set, refl, sym, ap, subst, ◌∙◌, arith, Ordering, Less, Equal, Greater}
use Rattle.std.proofs.Common.{inl, inr, length-drop}
use Rattle.std.specs.Prelude.{ℤ, pos, negsuc, ◌+ℤ◌}
use Rattle.std.specs.List.{AllByRecursion, insert, remove}
use Rattle.coordinate_model.specs.Sums.{Terms, keep, add_term}
use Rattle.coordinate_model.specs.Key.{Key, key_cmp}
use Rattle.syzygies.specs.SplitTerms.{IsSign}
use Rattle.syzygies.specs.Collected.{StandsAt, AddsAt}

-- ---- lists of which f gives the terms

module _ {X Y : Type 0} (f : X → Y) where
  -- from the entry x at the place i on
  pub from_entry : (xs : List X) (i : ℕ) (x : X) → i < length xs → x ≡ get_or xs i x
      → drop i (map f xs) ≡ f x ∷ map f (drop (suc i) xs)
  from_entry [] i x h e = absurd (omega arith)
  from_entry (y ∷ ys) zero x h e = ap (λ z. f z ∷ map f ys) (sym e)
  from_entry (y ∷ ys) (suc i) x h e = from_entry ys i x (omega arith) e

  pub entry_is : (xs : List X) (i : ℕ) (x : X) (t : Y) (rest : List Y) → i < length xs → x ≡ get_or xs i x
      → drop i (map f xs) ≡ t ∷ rest → (t ≡ f x) × (rest ≡ map f (drop (suc i) xs))
  entry_is xs i x t rest h e d = let same = sym d ∙ from_entry xs i x h e in (cc same, cc same)

  pub all_more : (P : Y → Type 0) (xs : List X) (i : ℕ) (x : X) → i < length xs → x ≡ get_or xs i x
      → AllByRecursion P (take i (map f xs)) → P (f x) → AllByRecursion P (take (suc i) (map f xs))
  all_more P [] i x h e all p = absurd (omega arith)
  all_more P (y ∷ ys) zero x h e all p = (subst (λ (z : X). P (f z)) e p, tt)
  all_more P (y ∷ ys) (suc i) x h e all p = (all.0, all_more P ys i x (omega arith) e all.1 p)

  pub entry_all : (P : Y → Type 0) (xs : List X) (i : ℕ) (x : X) → i < length xs → x ≡ get_or xs i x
      → AllByRecursion P (map f xs) → P (f x)
  entry_all P [] i x h e all = absurd (omega arith)
  entry_all P (y ∷ ys) zero x h e all = subst (λ (z : X). P (f z)) (sym e) all.0
  entry_all P (y ∷ ys) (suc i) x h e all = entry_all P ys i x (omega arith) e all.1

  pub map-insert : (xs : List X) (i : ℕ) (x : X) → map f (insert xs i x) ≡ take i (map f xs) ++ f x ∷ drop i (map f xs)
  map-insert xs zero x = refl
  map-insert [] (suc i) x = refl
  map-insert (y ∷ ys) (suc i) x = ap (λ w. f y ∷ w) (map-insert ys i x)

  pub map-remove : (xs : List X) (i : ℕ) → map f (remove xs i) ≡ take i (map f xs) ++ map f (drop (suc i) xs)
  map-remove [] zero = refl
  map-remove [] (suc i) = refl
  map-remove (y ∷ ys) zero = refl
  map-remove (y ∷ ys) (suc i) = ap (λ w. f y ∷ w) (map-remove ys i)

  pub map-replace : (xs : List X) (i : ℕ) (x : X) → i < length xs
      → map f (set xs i x) ≡ take i (map f xs) ++ f x ∷ map f (drop (suc i) xs)
  map-replace [] i x h = absurd (omega arith)
  map-replace (y ∷ ys) zero x h = refl
  map-replace (y ∷ ys) (suc i) x h = ap (λ w. f y ∷ w) (map-replace ys i x (omega arith))

-- ---- one term more

pub keep-zero : (k : Key) (c : ℤ) (rest : Terms Key) → c ≡ pos 0 → keep k c rest ≡ rest
keep-zero k c rest e = ap (λ z. keep k z rest) e

pub keep-nonzero : (k : Key) (c : ℤ) (rest : Terms Key) → c ≢ pos 0 → keep k c rest ≡ (k, c) ∷ rest
keep-nonzero k (pos zero) rest n = absurd (n refl)
keep-nonzero k (pos (suc m)) rest n = refl
keep-nonzero k (negsuc m) rest n = refl

-- keys in front that are less stay there
skip : (k : Key) (c : ℤ) (ts : Terms Key) (i : ℕ) → AllByRecursion (λ t. key_cmp k t.0 ≡ Greater) (take i ts)
    → i ≤ length ts → add_term key_cmp k c ts ≡ take i ts ++ add_term key_cmp k c (drop i ts)
skip k c ts zero all h = refl
skip k c [] (suc i) all h = absurd (omega arith)
skip k c (t ∷ ts) (suc i) all h =
    ap
    (λ r. elim r as (λ _. Terms Key) [
      | Less ↦ keep k c (t ∷ ts)
      | Equal ↦ keep t.0 (t.1 +ℤ c) ts
      | Greater ↦ t ∷ add_term key_cmp k c ts
    ])
    all.0
    ∙ ap (λ w. t ∷ w) (skip k c ts i all.1 (omega arith))

here : (k : Key) (c : ℤ) (t : Key × ℤ) (ts : Terms Key) (r : Ordering) → key_cmp k t.0 ≡ r
    → add_term key_cmp k c (t ∷ ts)
    ≡ elim r as (λ _. Terms Key) [
      | Less ↦ keep k c (t ∷ ts)
      | Equal ↦ keep t.0 (t.1 +ℤ c) ts
      | Greater ↦ t ∷ add_term key_cmp k c ts
    ]
here k c t ts r e =
    ap
    (λ r. elim r as (λ _. Terms Key) [
      | Less ↦ keep k c (t ∷ ts)
      | Equal ↦ keep t.0 (t.1 +ℤ c) ts
      | Greater ↦ t ∷ add_term key_cmp k c ts
    ])
    e

-- where the key is there already
pub added_there : (k : Key) (c : ℤ) (old new : Terms Key) (i : ℕ) → StandsAt Equal k old i → i < length old
    → AddsAt i c old new → new ≡ add_term key_cmp k c old
added_there k c old new i s h a = by (drop i old) refl
  where
    by : (rest : Terms Key) → drop i old ≡ rest → new ≡ add_term key_cmp k c old
    by [] e = absurd (omega (arith, length-drop i old, ap length e))
    by (t ∷ rest) e =
        a t rest e ∙ ap (λ w. take i old ++ w) (sym (here k c t rest Equal (s.next t rest e)))
        ∙ sym (skip k c old i s.after s.within ∙ ap (λ w. take i old ++ add_term key_cmp k c w) e)

-- where it is new
pub added_new : (k : Key) (c : ℤ) (old new : Terms Key) (i : ℕ) → StandsAt Less k old i → c ≢ pos 0
    → new ≡ take i old ++ (k, c) ∷ drop i old → new ≡ add_term key_cmp k c old
added_new k c old new i s n e =
    e ∙ ap (λ w. take i old ++ w) (sym (at_once (drop i old) refl)) ∙ sym (skip k c old i s.after s.within)
  where
    at_once : (rest : Terms Key) → drop i old ≡ rest → add_term key_cmp k c rest ≡ (k, c) ∷ rest
    at_once [] d = keep-nonzero k c [] n
    at_once (t ∷ rest) d = here k c t rest Less (s.next t rest d) ∙ keep-nonzero k c (t ∷ rest) n

pub sign-nonzero : (c : ℤ) → IsSign c → c ≢ pos 0
sign-nonzero c (inl e) z = absurd cc
sign-nonzero c (inr e) z = absurd cc
