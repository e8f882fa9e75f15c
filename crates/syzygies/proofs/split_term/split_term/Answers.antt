use Rattle.std.proofs.Common.{rules, ◌≡◌, ℕ, ◌+◌, List, ◌++◌, length, ap, ◌∙◌, sym}
use Rattle.coordinate_model.specs.Sequences.{repeats}
use Rattle.split_tables.specs.Masks.{places_of}
use Rattle.syzygies.proofs.SplitTermLaws.{split_sizes, zero_first, zero_second, one_term_of}
use Rattle.syzygies.proofs.split_term.split_term.Goals as goal

pub signed_row-requires : goal.signed_row-requires
signed_row-requires g c =
    let count : length c.args.alpha.now + length c.deref.result.now ≡ g.row.D =
    ap (λ (w : List ℕ). length c.args.alpha.now + length w) (c.deref.ensures.0 ∙ c.picked-rest.ensures)
    ∙ (split_sizes g.row.D c.args.alpha.now c.args.beta.now c.args.gamma.now c.args.split c.requires.sizes
    c.requires.split).0 in
    search rules

pub signed_row-requires-2 : goal.signed_row-requires-2
signed_row-requires-2 g c =
    let count : length c.deref-2.result.now + length c.args.gamma.now ≡ g.row.D =
    ap (λ (w : List ℕ). length w + length c.args.gamma.now) (c.deref-2.ensures.0 ∙ c.picked-chosen.ensures)
    ∙ (split_sizes g.row.D c.args.alpha.now c.args.beta.now c.args.gamma.now c.args.split c.requires.sizes
    c.requires.split).1 in
    search rules

pub returns-in_default-clause-zero : goal.returns-in_default-clause-zero
returns-in_default-clause-zero g c =
    zero_first c.args.alpha.now c.args.beta.now c.args.gamma.now
    (places_of c.args.split.chosen, places_of c.args.split.rest)
    (ap (λ (w : List ℕ). repeats (c.args.alpha.now ++ w)) (sym (c.deref.ensures.0 ∙ c.picked-rest.ensures))
    ∙ c.in_default.ensures.none)

pub returns-in_default-signed_row-clause-zero : goal.returns-in_default-signed_row-clause-zero
returns-in_default-signed_row-clause-zero g c =
    zero_second c.args.alpha.now c.args.beta.now c.args.gamma.now
    (places_of c.args.split.chosen, places_of c.args.split.rest)
    (ap (λ (w : List ℕ). repeats (w ++ c.args.gamma.now)) (sym (c.deref-2.ensures.0 ∙ c.picked-chosen.ensures))
    ∙ c.in_default-signed_row.ensures.none)

pub returns-clause-term : goal.returns-clause-term
returns-clause-term g c =
    let term =
    one_term_of c.args.alpha.now c.args.beta.now c.args.gamma.now
    (places_of c.args.split.chosen, places_of c.args.split.rest)
    (c.args.alpha.now ++ c.deref.result.now) (c.deref-2.result.now ++ c.args.gamma.now) _ _ c.in_order-low.result.0
    c.in_order-low.result.1 _ _ c.args.split.sign c.times.result c.times-sign_count.result
    (ap (λ (w : List ℕ). c.args.alpha.now ++ w) (c.deref.ensures.0 ∙ c.picked-rest.ensures))
    (ap (λ (w : List ℕ). w ++ c.args.gamma.now) (c.deref-2.ensures.0 ∙ c.picked-chosen.ensures))
    c.in-Some.ensures.some c.in-Some-signed_row.ensures.some c.requires.split.1.sign c.in_order-low.ensures.rows
    c.times.ensures.product c.times-sign_count.ensures.product c.times.ensures.sign c.times-sign_count.ensures.sign in
    record { is = term.0; one = term.1 }
