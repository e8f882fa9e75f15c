-- The terms of a collected syzygy, as the code has them.
use Rattle.std.specs.Prelude.{ℕ, ℤ, List, [], ◌∷◌, map}
use Rattle.coordinate_model.specs.Sums.{Terms}
use Rattle.coordinate_model.specs.Key.{Key, rows_key}
use Rattle.syzygies.specs.declared.pair.PairTerm.{PairTerm}

-- the product of two rows as a key
abbrev pub pair_of : {d : ℕ} → PairTerm d → Key
pair_of p = rows_key (p.low ∷ p.high ∷ [])

-- the key with its integer
abbrev pub term_of : {d : ℕ} → PairTerm d → Key × ℤ
term_of p = (pair_of p, p.sign_count)

-- these terms in order
abbrev pub terms_of : {d : ℕ} → List (PairTerm d) → Terms Key
terms_of pairs = map term_of pairs
