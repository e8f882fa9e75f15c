use Rattle.std.proofs.Common.{rules, ap, subst, ◌∙◌, ◌≡◌, ◌++◌, ◌∷◌, ℤ}
use Rattle.std.specs.Prelude.{T}
use Rattle.std.specs.BTreeMap.{insert_entry}
use Rattle.std.specs.FinMap.{is_sorted}
use mir.Syntax.{w128}
use mir.Val.{SFits, to_z, of_z}
use Rattle.std.proofs.lemmas.Int.{to_z-of_z}
use Rattle.coordinate_model.specs.Sums.{Terms}
use Rattle.coordinate_model.specs.Key.{Key, key_cmp}
use Rattle.bracket_poly.proofs.Copies.{insert_last, next_copy}
use Rattle.bracket_poly.proofs.copying.copied_terms.Goals as goal

pub loop-key-preserved : goal.loop-key-preserved
loop-key-preserved g c =
    let all : Terms Key = c.args.terms.now.entries in
    let done : Terms Key = c.loop-key.copy.entries in
    let next : Terms Key = c.next.new.self in
    let key : Key = c.in-Some.key.now in
    let number : ℤ = c.in-Some.c.now in
    let fits : SFits w128 number = search rules in
    let split : all ≡ done ++ (key, number) ∷ next = c.loop-key.invariant ∙ ap (λ ks. done ++ ks) c.in-Some.ensures.steps in
    let up : T (is_sorted key_cmp (done ++ (key, number) ∷ next)) = subst (λ (ts : Terms Key). T (is_sorted key_cmp ts)) split c.requires.ascending in
    next_copy all done ((key, number) ∷ next) next c.insert.new.self.entries (key, number) split (λ j. (key, number) ∷ next)
    (c.in_ok-insert.ensures.entries ∙ ap (λ k. insert_entry key_cmp done k (to_z w128 (of_z w128 number))) c.in_ok-copy.ensures
    ∙ ap (λ z. insert_entry key_cmp done key z) (to_z-of_z w128 _ fits) ∙ insert_last done next key number up)
