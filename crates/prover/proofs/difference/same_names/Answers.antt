use Rattle.std.proofs.Common.{◌≡◌, ◌-◌, ◌<◌, ◌≤◌, ◌==◌, ◌&&◌, ℕ, Bool, true, false, not, true≢false, List, [], ◌∷◌}
use Rattle.std.proofs.Common.{length, get_or, drop, take}
use Rattle.std.proofs.Common.{refl, sym, ap, ◌∙◌, drop-cons, arith}
use Rattle.std.specs.Bool.{Decides}
use Rattle.std.specs.Cmp.Lexicographic.{pointwise}
use Rattle.std.specs.Str.{bytes_eq}
use Rattle.std.proofs.lemmas.Bool.Decides.{Decides-eqb}
use Rattle.std.proofs.lemmas.List.{at_drop_all}
use Rattle.std.proofs.lemmas.Slice.Eq.{bytes_eq-Decides, slice_eq-Decides}
use Rattle.prover.proofs.WordLists.{behind, take_all}
use Rattle.prover.proofs.difference.same_names.Goals as goal

abbrev Names : Type 0
Names = List (List ℕ)

first_is : (xs : Names) (x : List ℕ) → 1 ≤ length xs → x ≡ get_or xs 0 x → xs ≡ x ∷ behind xs
first_is [] x some is = absurd (omega arith)
first_is (y ∷ xs) x some is =
    let count : length (y ∷ xs) - 1 ≡ length xs = omega arith in
    let rest : behind (y ∷ xs) ≡ xs = ap (λ (n : ℕ). take n xs) count ∙ take_all xs in
    ap (λ (z : List ℕ). z ∷ xs) (sym is) ∙ ap (λ (zs : Names). x ∷ zs) (sym rest)

none_left : (xs : Names) → length xs < 1 → xs ≡ []
none_left [] few = refl
none_left (x ∷ xs) few = absurd (omega arith)

untrue : (b : Bool) → true ≡ not b → b ≡ false
untrue true e = absurd (true≢false e)
untrue false e = refl

not_so : (b : Bool) → (b ≡ true → ⊥) → b ≡ false
not_so true none = absurd (none refl)
not_so false none = refl

-- no names are the same as no others alone
empty_is : (us : Names) → pointwise bytes_eq [] us ≡ (length us == 0)
empty_is [] = refl
empty_is (y ∷ us) =
    sym (not_so (length (y ∷ us) == 0) (λ e.
    let none : length (y ∷ us) ≡ 0 = (Decides-eqb (length (y ∷ us)) 0).0 e in omega arith))

-- it is decided by the names that are left
decides : (xs ys zs us : Names) (r : Bool) → pointwise bytes_eq zs us ≡ pointwise bytes_eq xs ys
    → pointwise bytes_eq zs us ≡ r → Decides r (xs ≡ ys)
decides xs ys zs us r whole left = slice_eq-Decides bytes_eq-Decides xs ys r (sym left ∙ whole)

no_other : (zs us rest : Names) (x : List ℕ) → zs ≡ x ∷ rest → us ≡ [] → pointwise bytes_eq zs us ≡ false
no_other zs us rest x e f = ap (λ (z : Names). pointwise bytes_eq z us) e ∙ ap (λ (u : Names). pointwise bytes_eq (x ∷ rest) u) f

other_name : (zs us rest more : Names) (x y : List ℕ) → zs ≡ x ∷ rest → us ≡ y ∷ more → true ≡ not (bytes_eq x y)
    → pointwise bytes_eq zs us ≡ false
other_name zs us rest more x y e f differ =
    ap (λ (z : Names). pointwise bytes_eq z us) e ∙ ap (λ (u : Names). pointwise bytes_eq (x ∷ rest) u) f
    ∙ ap (λ (b : Bool). b && pointwise bytes_eq rest more) (untrue (bytes_eq x y) differ)

pub returns-in_default : goal.returns-in_default
returns-in_default c =
    let i = c.loop-name.name-index in
    let first = c.args.first.now in
    decides first c.args.second.now (drop i first) c.loop-name.others.now false c.loop-name.invariant
    (no_other (drop i first) c.loop-name.others.now _ _ (drop-cons first i c.name-item.result c.loop-name-test.true)
    (none_left c.loop-name.others.now c.in_default.len_below))

pub returns-then-ne : goal.returns-then-ne
returns-then-ne c =
    let i = c.loop-name.name-index in
    let first = c.args.first.now in
    let name = get_or first i c.name-item.result in
    let other = c.other-item.result in
    let differ : true ≡ not (bytes_eq name other) =
    sym c.if-ne.true ∙ c.ne.ensures ∙ ap (λ (x : List ℕ). not (bytes_eq x c.bytes-in-loop-name.result.now)) (c.bytes.ensures ∙ c.name-item.is)
    ∙ ap (λ (x : List ℕ). not (bytes_eq name x)) c.bytes-in-loop-name.ensures in
    decides first c.args.second.now (drop i first) c.loop-name.others.now false c.loop-name.invariant
    (other_name (drop i first) c.loop-name.others.now _ _ name other
    (drop-cons first i c.name-item.result c.loop-name-test.true)
    (first_is c.loop-name.others.now other c.in-len1-up.len_at_least c.other-item.is) differ)

pub returns : goal.returns
returns c =
    let i = c.loop-name.name-index in
    let first = c.args.first.now in
    let others = c.loop-name.others.now in
    decides first c.args.second.now (drop i first) others c.is_empty.result c.loop-name.invariant
    (at_drop_all (λ (xs : Names). pointwise bytes_eq xs others) first i c.loop-name-test.false ∙ empty_is others
    ∙ sym c.is_empty.ensures)
