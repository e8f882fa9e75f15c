use Rattle.std.proofs.Common.{ap, subst, ◌∙◌, ◌≡◌, ◌++◌, ◌∷◌, List}
use Rattle.std.specs.List.{IsDistinct}
use Rattle.std.specs.Ordering.{eq_by_cmp}
use Rattle.indexmap.specs.IndexSet.{insert_key}
use Rattle.coordinate_model.specs.Key.{Key, key_cmp}
use Rattle.bracket_poly.proofs.Copies.{insert_new, next_copy}
use Rattle.bracket_poly.proofs.copying.copied_keys.Goals as goal

pub loop-key-preserved : goal.loop-key-preserved
loop-key-preserved g c =
    let all : List Key = c.args.keys.now.keys in
    let done : List Key = c.loop-key.copy.keys in
    let next : List Key = c.next.new.self in
    let key : Key = c.in-Some.key.now in
    let split : all ≡ done ++ key ∷ next = c.loop-key.invariant ∙ ap (λ ks. done ++ ks) c.in-Some.ensures.steps in
    let once : IsDistinct (eq_by_cmp key_cmp) (done ++ key ∷ next) = subst (λ (ks : List Key). IsDistinct (eq_by_cmp key_cmp) ks) split c.requires.once in
    next_copy all done (key ∷ next) next c.insert.new.self.keys key split (λ j. key ∷ next)
    (c.in_ok-insert.ensures.keys ∙ ap (λ k. insert_key (eq_by_cmp key_cmp) done k) c.in_ok-copy.ensures ∙ insert_new done next key once)
