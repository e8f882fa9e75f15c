-- Queues as the lists of their keys.
use Rattle.std.specs.Prelude.{◌≡◌, ℕ, true, ◌-◌, Some, List, slice_get, length, All}
use Rattle.std.specs.BTreeMap.{is_at}
use Rattle.std.specs.BTreeSet.{insert_key}
use Rattle.std.specs.Set.{remove_key}
use Rattle.std.specs.List.Sorted.{IsStrictlySortedBy}
use Rattle.coordinate_model.specs.Key.{Key, key_cmp}
use Rattle.coordinate_model.specs.BracketPolynomial.{BracketPolynomial, AllKeys}
use Rattle.tableau_order.specs.Standard.{IsStandard}
use Rattle.bracket_poly.specs.Tracked.{has_met}

-- the tableau of the key is not standard
abbrev pub IsNonstandard : ℕ → Key → Type 0
IsNonstandard d k = IsStandard d k.rows → ⊥

-- the keys of a queue strictly ascend, and none is standard
pub record AreQueued (d : ℕ) (keys : List Key) : Type 0 where
  pub ascending : IsStrictlySortedBy key_cmp keys
  pub nonstandard : All (IsNonstandard d) keys

-- the keys with one at its place, unless it is there
abbrev pub with_key : List Key → Key → List Key
with_key keys key = insert_key key_cmp keys key

-- the keys without one
abbrev pub without_key : List Key → Key → List Key
without_key keys key = remove_key (is_at (key_cmp key)) keys

-- the key is the last
abbrev pub IsLast : List Key → Key → Type 0
IsLast keys key = slice_get keys (length keys - 1) ≡ Some key

-- each term whose key is not standard has its key in the queue
abbrev pub Covers : ℕ → List Key → BracketPolynomial → Type 0
Covers d keys f = AllKeys (λ k. IsNonstandard d k → has_met keys k ≡ true) f

-- the new queue has the keys of the old one, and this key too unless it is standard
pub record TakesIn (d : ℕ) (old new : List Key) (key : Key) : Type 0 where
  pub kept : (k : Key) → has_met old k ≡ true → has_met new k ≡ true
  pub taken : IsNonstandard d key → has_met new key ≡ true
