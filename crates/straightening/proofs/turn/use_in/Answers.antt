use Rattle.std.proofs.Common.{rules, ◌≢◌, ℤ, pos, T, sym, ap, subst, ◌∙◌}
use mir.Syntax.{w128}
use mir.Val.{SFits, of_z}
use Rattle.std.proofs.lemmas.Int.{to_z-of_z}
use Rattle.bracket_poly.specs.Arena.{key_of}
use Rattle.bracket_poly.specs.Tracked.{fits}
use Rattle.coordinate_model.specs.Key.{Key}
use Rattle.straightening.specs.Turns.{use_at}
use Rattle.straightening.proofs.NextUses.{IsTerm, term_of, use_found}
use Rattle.straightening.proofs.turn.use_in.Goals as goal

pub use_at-requires : goal.use_at-requires
use_at-requires g c =
    let number : SFits w128 c.coefficient-c.result = search rules in
    let key : Key = key_of c.args.params.now c.args.rows.now in
    let t : IsTerm g.row.D (key, c.coefficient-c.result) =
    term_of g.row.D c.args.poly.now.tracked key c.coefficient-c.result c.args.poly.now.formed c.requires.degree
    c.coefficient-c.ensures (λ e. c.if-c-eq0.false (ap (λ (z : ℤ). of_z w128 z) e)) in (
      search rules,
      (
        search rules,
        (
          c.args.poly.now.formed.rank,
          (
            t.key,
            (
              t.degrees,
              (
                subst (λ (z : ℤ). z ≢ pos 0) (sym (to_z-of_z w128 _ number)) t.not_zero,
                (subst (λ (z : ℤ). T (fits z)) (sym (to_z-of_z w128 _ number)) t.small, c.in-Some.ensures.first),
              ),
            ),
          ),
        ),
      ),
    )

pub returns-in_ok-use_at-in-Some : goal.returns-in_ok-use_at-in-Some
returns-in_ok-use_at-in-Some g c =
    let number : SFits w128 c.coefficient-c.result = search rules in
    let key : Key = key_of c.args.params.now c.args.rows.now in
    let t : IsTerm g.row.D (key, c.coefficient-c.result) =
    term_of g.row.D c.args.poly.now.tracked key c.coefficient-c.result c.args.poly.now.formed c.requires.degree
    c.coefficient-c.ensures (λ e. c.if-c-eq0.false (ap (λ (z : ℤ). of_z w128 z) e)) in
    use_found g.row.D c.args.poly.now.tracked key c.coefficient-c.result _ c.in-Some.place.row c.in-Some.place.column t.key
    c.coefficient-c.ensures t.not_zero c.in-Some.ensures.first
    (c.in_ok-use_at-in-Some.ensures
    ∙ ap (λ (z : ℤ). use_at (key, z) (c.in-Some.place.row, c.in-Some.place.column)) (to_z-of_z w128 _ number))
