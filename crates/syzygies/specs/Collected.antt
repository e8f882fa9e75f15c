-- Terms that are collected: each key once, keys ascending, and no integer zero.
use Rattle.std.specs.Prelude.{◌≡◌, ℕ, ◌≤◌, ℤ, pos, ◌≤ℤ◌, ◌+ℤ◌, List, ◌∷◌, ◌++◌, take, drop, length, neg_ℤ}
use Rattle.std.specs.Prelude.{Result, MatchResult}
use Rattle.std.specs.List.{AllByRecursion}
use Rattle.std.specs.declared.cmp.Ordering.{Ordering}
use Rattle.std.specs.declared.cmp.Ordering.TheVariants.{Less, Equal, Greater}
use Rattle.coordinate_model.specs.Sums.{Terms, keep, add_term}
use Rattle.coordinate_model.specs.Key.{Key, key_cmp}
use Rattle.syzygies.specs.Terms.{pair_of, terms_of}
use Rattle.syzygies.specs.declared.pair.PairTerm.{PairTerm}

-- the integer of the term is at most n in absolute value
abbrev pub IsUpTo : ℕ → Key × ℤ → Type 0
IsUpTo n t = (neg_ℤ (pos n) ≤ℤ t.1) × (t.1 ≤ℤ pos n)

-- the integer of the term is far from the ends of eight bits
abbrev pub IsSmall : Key × ℤ → Type 0
IsSmall = IsUpTo 100

-- the key is greater than those in front of the place i, and compares by r with the one there, if there is one
pub record StandsAt (r : Ordering) (k : Key) (ts : Terms Key) (i : ℕ) : Type 0 where
  pub within : i ≤ length ts
  pub after : AllByRecursion (λ t. key_cmp k t.0 ≡ Greater) (take i ts)
  pub next : (t : Key × ℤ) (rest : Terms Key) → drop i ts ≡ t ∷ rest → key_cmp k t.0 ≡ r

-- the place where the key stands, or else the place for it
abbrev pub FindsPlace : Key → Terms Key → Result ℕ ℕ → Type 0
FindsPlace k ts found = MatchResult found (StandsAt Equal k ts) (StandsAt Less k ts)

-- the new terms are the old ones with c added to the integer at the place i, without that term where this gives 0
abbrev pub AddsAt : ℕ → ℤ → Terms Key → Terms Key → Type 0
AddsAt i c old new =
    (t : Key × ℤ) (rest : Terms Key) → drop i old ≡ t ∷ rest → new ≡ take i old ++ keep t.0 (t.1 +ℤ c) rest

-- the new terms are the old ones with the term added
abbrev pub Adds : {d : ℕ} → PairTerm d → List (PairTerm d) → List (PairTerm d) → Type 0
Adds term old new = terms_of new ≡ add_term key_cmp (pair_of term) term.sign_count (terms_of old)
