use Rattle.std.proofs.Common.{◌≡◌, ◌<◌, ◌≤◌, ◌+◌, ℕ, List, length, get_or, set, take, sym, ap, ◌∙◌, arith, add-one}
use Rattle.std.proofs.lemmas.List.{take_all}
use Rattle.std.specs.List.{AllByRecursion}
use Rattle.coordinate_model.specs.Key.{add_exponents}
use Rattle.bracket_terms.proofs.ExponentLaws.{all_at, add_exponents-nothing, add_exponents-step}
use Rattle.bracket_terms.proofs.ExponentLaws.{get_or-add_exponents, get_or-add_exponents-take, length-add_exponents}
use Rattle.bracket_terms.proofs.params.Params.times.Goals as goal

pub loop-i-init : goal.loop-i-init
loop-i-init c = sym (add_exponents-nothing c.self.inside.exponents)

pub overflow_add-exponents : goal.overflow_add-exponents
overflow_add-exponents c =
    let e : List ℕ = c.self.inside.exponents in
    let f : List ℕ = c.other.inside.exponents in
    let i : ℕ = c.loop-i.i in
    let mine : i < length e = omega (arith, c.self.told, c.loop-i-test.true) in
    let theirs : i < length f = omega (arith, c.other.told, c.loop-i-test.true) in
    let so_far : get_or c.loop-i.exponents i 0 ≡ get_or e i 0 =
    ap (λ xs. get_or xs i 0) c.loop-i.invariant ∙ get_or-add_exponents-take e f i mine theirs in
    let sum : get_or (add_exponents e f) i 0 ≡ get_or e i 0 + get_or f i 0 =
    get_or-add_exponents e f i mine theirs in
    let whole : i < length (add_exponents e f) =
    omega (arith, length-add_exponents e f (c.self.told ∙ sym c.other.told)) in
    let small : AllByRecursion (λ x. x ≤ 65535) (add_exponents e f) = rw (c.self.view_is, c.other.view_is) c.requires in
    let bound : get_or (add_exponents e f) i 0 ≤ 65535 = all_at (λ x. x ≤ 65535) (add_exponents e f) small i whole in
    omega arith

pub loop-i-preserved : goal.loop-i-preserved
loop-i-preserved c =
    let e : List ℕ = c.self.inside.exponents in
    let f : List ℕ = c.other.inside.exponents in
    let i : ℕ = c.loop-i.i in
    let mine : i < length e = omega (arith, c.self.told, c.loop-i-test.true) in
    let theirs : i < length f = omega (arith, c.other.told, c.loop-i-test.true) in
    let so_far : get_or c.loop-i.exponents i 0 ≡ get_or e i 0 =
    ap (λ xs. get_or xs i 0) c.loop-i.invariant ∙ get_or-add_exponents-take e f i mine theirs in
    rw add-one (ap (λ x. set c.loop-i.exponents i (x + get_or f i 0)) so_far
    ∙ ap (λ xs. set xs i (get_or e i 0 + get_or f i 0)) c.loop-i.invariant ∙ add_exponents-step e f i mine theirs)

whole : (e f : List ℕ) (n : ℕ) → length f ≡ 64 → 64 ≤ n → add_exponents e (take n f) ≡ add_exponents e f
whole e f n h k = ap (add_exponents e) (take_all n f (omega arith))

pub returns-clause-sums : goal.returns-clause-sums
returns-clause-sums c =
    c.of.ensures ∙ c.loop-i.invariant
    ∙ whole c.self.inside.exponents c.other.inside.exponents c.loop-i.i c.other.told c.loop-i-test.false
    ∙ ap (λ e. add_exponents e c.other.inside.exponents) c.self.view_is
    ∙ ap (add_exponents c.args.self.now) c.other.view_is

counted : (e f xs : List ℕ) (n : ℕ) → xs ≡ add_exponents e (take n f) → length e ≡ 64 → length f ≡ 64 → 64 ≤ n
    → length xs ≡ 64
counted e f xs n is h k l = ap length (is ∙ whole e f n k l) ∙ length-add_exponents e f (h ∙ sym k) ∙ h

pub returns-clause-count : goal.returns-clause-count
returns-clause-count c =
    ap length c.of.ensures ∙ counted c.self.inside.exponents c.other.inside.exponents c.loop-i.exponents c.loop-i.i c.loop-i.invariant
    c.self.told c.other.told c.loop-i-test.false
