-- Terms with a sign.
use Rattle.std.specs.Prelude.{◌≡◌, ◌≢◌, ℤ, pos, negsuc, zero, suc, Bool, true, false, T, [], ◌∷◌, flat_map}
use Rattle.std.proofs.Common.{refl, sym, ap, subst, ◌∙◌}
use Rattle.std.proofs.lemmas.Int.{to_z-of_z}
use mir.Syntax.{w128}
use mir.Val.{SFits, to_z, of_z}
use Rattle.coordinate_model.specs.Sums.{Terms, is_zero}
use Rattle.coordinate_model.specs.Key.{Key}
use Rattle.bracket_poly.specs.Products.{signed_by, signed_terms}
use Rattle.bracket_poly.specs.Tracked.{fits}

-- a term with its sign
abbrev pub signed_term : Bool → Key × ℤ → Terms Key
signed_term negative t = (t.0, signed_by negative t.1) ∷ []

pub each_signed : (negative : Bool) (ts : Terms Key) → flat_map (signed_term negative) ts ≡ signed_terms negative ts
each_signed negative [] = refl
each_signed negative (t ∷ ts) = ap (λ us. (t.0, signed_by negative t.1) ∷ us) (each_signed negative ts)

pub not_negated : (ts : Terms Key) → signed_terms false ts ≡ ts
not_negated [] = refl
not_negated (t ∷ ts) = ap (λ us. t ∷ us) (not_negated ts)

-- a sign keeps the limit, and that a term is none with 0
fits_too : (negative : Bool) (c : ℤ) → T (fits c) → T (fits (signed_by negative c))
fits_too true (pos zero) h = h
fits_too true (pos (suc n)) h = h
fits_too true (negsuc n) h = h
fits_too false c h = h

nonzero_too : (negative : Bool) (c : ℤ) → is_zero c ≡ false → signed_by negative c ≢ pos 0
nonzero_too true (pos zero) h e = cc
nonzero_too true (pos (suc n)) h e = cc
nonzero_too true (negsuc n) h e = cc
nonzero_too false (pos zero) h e = cc
nonzero_too false (pos (suc n)) h e = cc
nonzero_too false (negsuc n) h e = cc

pub can_be_added : (negative : Bool) (c z : ℤ) → T (fits c) → is_zero c ≡ false → z ≡ signed_by negative c
    → (z ≢ pos 0) × T (fits z)
can_be_added negative c z h k e =
    subst (λ (y : ℤ). (y ≢ pos 0) × T (fits y)) (sym e) (nonzero_too negative c k, fits_too negative c h)

-- a sign and an integer that were passed
pub signed_passed : (negative : Bool) (c z : ℤ) → SFits w128 c → SFits w128 z → z ≡ signed_by negative (to_z w128 (of_z w128 c))
    → to_z w128 (of_z w128 z) ≡ signed_by negative c
signed_passed negative c z h k e = to_z-of_z w128 z k ∙ e ∙ ap (signed_by negative) (to_z-of_z w128 c h)
