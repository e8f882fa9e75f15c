use Rattle.std.proofs.Common.{◌≡◌, ℕ, ◌+◌, ◌≤◌, ◌<◌, ◌/◌, ◌^◌, Bool, true, false, cond, List, [], ◌∷◌, ◌++◌, length, bit_and}
use Rattle.std.proofs.Common.{get_or, drop, drop-cons, refl, sym, ap, ◌∙◌, append_assoc, append-nil, arith, add-one}
use Rattle.std.proofs.Common.{eq-eqb, ne_eqb}
use Rattle.std.proofs.lemmas.Nat.Bits.{shr_and_one}
use Rattle.std.proofs.lemmas.List.{drop_all}
use Rattle.split_tables.specs.Masks.{has_place}
use Rattle.split_tables.proofs.MaskLaws.{picked_from, picked-is}
use Rattle.syzygies.proofs.points.picked.Goals as goal
use Rattle.syzygies.proofs.points.picked.Goals.{then-mask-place-eq1, else-mask-place-eq1}

step : (test : ℕ → Bool) (xs : List ℕ) (i : ℕ) → i < length xs → picked_from test i (drop i xs)
    ≡ cond (test i) (get_or xs i 0 ∷ picked_from test (i + 1) (drop (i + 1) xs)) (picked_from test (i + 1) (drop (i + 1) xs))
step test xs i h = rw (add-one, drop-cons xs i 0) refl

with_one : (test : ℕ → Bool) (xs : List ℕ) (i : ℕ) (got more whole : List ℕ) → i < length xs → test i ≡ true
    → more ≡ got ++ get_or xs i 0 ∷ [] → got ++ picked_from test i (drop i xs) ≡ whole
    → more ++ picked_from test (i + 1) (drop (i + 1) xs) ≡ whole
with_one test xs i got more whole h t m w =
    let rest : List ℕ = picked_from test (i + 1) (drop (i + 1) xs) in
    ap (λ v. v ++ rest) m ∙ append_assoc got (get_or xs i 0 ∷ []) rest
    ∙ ap (λ v. got ++ v) (sym (step test xs i h ∙ ap (λ b. cond b (get_or xs i 0 ∷ rest) rest) t)) ∙ w

without_it : (test : ℕ → Bool) (xs : List ℕ) (i : ℕ) (got more whole : List ℕ) → i < length xs → test i ≡ false
    → more ≡ got → got ++ picked_from test i (drop i xs) ≡ whole
    → more ++ picked_from test (i + 1) (drop (i + 1) xs) ≡ whole
without_it test xs i got more whole h t m w =
    let rest : List ℕ = picked_from test (i + 1) (drop (i + 1) xs) in
    ap (λ v. v ++ rest) m
    ∙ ap (λ v. got ++ v) (sym (step test xs i h ∙ ap (λ b. cond b (get_or xs i 0 ∷ rest) rest) t)) ∙ w

whole : (test : ℕ → Bool) (xs got : List ℕ) (i : ℕ) (all : List ℕ) → length xs ≤ i → got ++ picked_from test i (drop i xs) ≡ all
    → got ≡ all
whole test xs got i all h w =
    sym (append-nil got) ∙ ap (λ v. got ++ picked_from test i v) (sym (drop_all i xs h)) ∙ w

is_there : (mask i : ℕ) → bit_and (mask / 2 ^ i) 1 ≡ 1 → has_place mask i ≡ true
is_there mask i e = eq-eqb _ _ (sym (shr_and_one mask i) ∙ e)

is_not_there : (mask i : ℕ) → (bit_and (mask / 2 ^ i) 1 ≡ 1 → ⊥) → has_place mask i ≡ false
is_not_there mask i n = ne_eqb _ _ (λ e. n (shr_and_one mask i ∙ e))

pub loop-place-preserved : goal.loop-place-preserved
loop-place-preserved c =
    let mask : ℕ = c.args.mask in
    let beta : List ℕ = c.args.beta.now in
    let i : ℕ = c.loop-place.place in
    elim c.if-mask-place-eq1.branch [
      | then-mask-place-eq1 w ↦ record {
        few = omega (arith, w.push.ensures.len, ap (λ v. length v.items) w.picked-is);
        points = with_one (has_place mask) beta i c.loop-place.picked.items c.if-mask-place-eq1.picked.items _
            c.loop-place-test.true (is_there mask i w.if-mask-place-eq1.true)
            (ap (λ v. v.items) w.picked-is ∙ w.push.ensures.items) c.loop-place.invariant.points;
      }
      | else-mask-place-eq1 w ↦ record {
        few = omega (arith, ap (λ v. length v.items) w.picked-is);
        points = without_it (has_place mask) beta i c.loop-place.picked.items c.if-mask-place-eq1.picked.items _
            c.loop-place-test.true (is_not_there mask i w.if-mask-place-eq1.false)
            (ap (λ v. v.items) w.picked-is) c.loop-place.invariant.points;
      }
    ]

pub returns : goal.returns
returns c =
    whole (has_place c.args.mask) c.args.beta.now c.loop-place.picked.items c.loop-place.place _ (omega arith)
    c.loop-place.invariant.points
    ∙ sym (picked-is c.args.beta.now c.args.mask (omega arith))
