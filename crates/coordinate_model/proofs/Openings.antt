-- What the shut words stand for: each equation opens one word, so that other crates open none themselves.
use Rattle.std.proofs.Common.{flat_map, ◌≡◌, ℕ, ◌-◌, ◌+◌, true, false, cond, List, [], ◌∷◌, ◌++◌, map, length, refl, ap}
use Rattle.coordinate_model.specs.Sequences.{repeats, range, splits, at_places}
use Rattle.coordinate_model.specs.Brackets.{sum_over, signed, syzygy, extensor}
use Rattle.coordinate_model.specs.Sums.{sum_of, single, plus, times, products, sum_value}
use Rattle.coordinate_model.specs.Polynomial.{Polynomials, monomial_of, monomial, free_point}
use Rattle.coordinate_model.specs.Key.{Key, key_cmp, key_times, rows_key, powers, brackets, diagonal, key_value}
use Rattle.coordinate_model.specs.Key.{key_lead}
use Rattle.coordinate_model.specs.BracketPolynomial.{KeySums, BracketPolynomial, add, mul, value}
use Rattle.coordinate_model.specs.Syzygy.{sorted, sorted_bracket, syz, Use, use_term, multiple}
use Rattle.coordinate_model.specs.Value.{Value, coordinates, meet_value, times_value, join_values, meet_values}

-- ---- keys and bracket polynomials

pub key_value-is : (k : Key)
    → key_value k ≡ Polynomials.◌⊗◌ (monomial (powers 0 k.exponents)) (brackets k.rows)
unfolding key_value
key_value-is k = refl

pub key_lead-is : (k : Key) → key_lead k ≡ monomial_of (powers 0 k.exponents ++ diagonal k.rows)
unfolding key_lead
key_lead-is k = refl

pub value-is : (f : BracketPolynomial) → value f ≡ sum_value Polynomials key_value f.terms
unfolding value
value-is f = refl

pub add-is : (f g : BracketPolynomial) → add f g ≡ sum_of key_cmp (f.terms ++ g.terms)
unfolding plus
add-is f g = refl

pub mul-is : (f g : BracketPolynomial) → mul f g ≡ sum_of key_cmp (products key_times f.terms g.terms)
unfolding times
mul-is f g = refl

-- ---- sorted brackets, syzygies and uses

pub sorted_bracket-repeats : (ps : List ℕ) → repeats ps ≡ true → sorted_bracket ps ≡ KeySums.𝟘
unfolding sorted_bracket
sorted_bracket-repeats ps e =
    ap (λ b. cond b KeySums.𝟘 (signed KeySums ps (single key_cmp (rows_key (sorted ps ∷ []))))) e

pub sorted_bracket-row : (ps : List ℕ) → repeats ps ≡ false
    → sorted_bracket ps ≡ signed KeySums ps (single key_cmp (rows_key (sorted ps ∷ [])))
unfolding sorted_bracket
sorted_bracket-row ps e =
    ap (λ b. cond b KeySums.𝟘 (signed KeySums ps (single key_cmp (rows_key (sorted ps ∷ []))))) e

-- the term of a split of the places of β into the chosen ones and the others
abbrev pub syz_term : (α β γ : List ℕ) → List ℕ × List ℕ → BracketPolynomial
syz_term α β γ t =
    signed KeySums (t.0 ++ t.1)
    (mul (sorted_bracket (α ++ at_places β t.1)) (sorted_bracket (at_places β t.0 ++ γ)))

pub syz-is : (α β γ : List ℕ)
    → syz α β γ ≡ sum_over KeySums (syz_term α β γ) (splits (length α + 1) (range (length β)))
unfolding syz syzygy
syz-is α β γ = refl

pub multiple-is : (u : Use) → multiple u ≡ mul (use_term u) (syz u.alpha u.beta u.gamma)
unfolding multiple
multiple-is u = refl

-- ---- values

pub coordinates-is : (entries : Value) (K : List ℕ) → coordinates entries K
    ≡ sum_over Polynomials (λ e. Polynomials.◌⊗◌ (value e.1) (extensor Polynomials (map free_point e.0) K)) entries
unfolding coordinates
coordinates-is entries K = refl

pub join_values-is : (A B : Value) → join_values A B ≡ flat_map (λ e. map (λ f. (e.0 ++ f.0, mul e.1 f.1)) B) A
unfolding join_values
join_values-is A B = refl

pub meet_values-is : (d : ℕ) (A B : Value) → meet_values d A B
    ≡ flat_map (λ e. flat_map (λ f. times_value (mul e.1 f.1) (meet_value d e.0 f.0)) B) A
unfolding meet_values
meet_values-is d A B = refl

pub meet_value-is : (d : ℕ) (us vs : List ℕ) → meet_value d us vs
    ≡ map
    (λ t. (at_places us t.1, signed KeySums (t.0 ++ t.1) (sorted_bracket (at_places us t.0 ++ vs))))
    (splits (d - length vs) (range (length us)))
unfolding meet_value
meet_value-is d us vs = refl
