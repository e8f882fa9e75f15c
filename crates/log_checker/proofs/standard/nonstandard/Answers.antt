use Rattle.std.proofs.Common.{◌≡◌, List, ℕ, refl, sym, ap, subst, ◌∙◌}
use Rattle.std.proofs.lemmas.Bool.{false≢true}
use Rattle.coordinate_model.specs.BracketPolynomial.{BracketPolynomial}
use Rattle.std.specs.Prelude.{IsSorted}
use Rattle.coordinate_model.specs.Key.{Key, row_cmp, HasRisingColumns}
use Rattle.log_checker.specs.Differences.{IsLeastNonstandard}
use Rattle.log_checker.proofs.LeastKeys.{standard_left, standard_goes_on, standard_ends, nonstandard_here}
use Rattle.log_checker.proofs.standard.nonstandard.Goals as goal

pub returns-then-not-is_standard : goal.returns-then-not-is_standard
returns-then-not-is_standard g c =
    let f : BracketPolynomial = c.args.poly.now.tracked.sum in
    let rows : c.rows.result.now ≡ c.in-Some.key.now.rows =
    c.rows.ensures.rows ∙ ap (λ (k : Key). k.rows) c.key.view_is in
    subst (λ k. IsLeastNonstandard g.row.D f k) (sym c.in_ok-copy.ensures)
    (nonstandard_here g.row.D f c.in-Some.key.now _ c.next.new.self
    (standard_left g.row.D f.terms c.loop-key.key-iterator _ c.loop-key.invariant c.in-Some.ensures.steps)
    (λ h. absurd (false≢true (c.if-not-is_standard.ensures.1
    (record {
      ascending =
          subst (λ (rs : List (List ℕ)). IsSorted row_cmp rs) (sym c.rows.ensures.rows) c.rows.ensures.formed.ascending;
      columns = subst (λ (rs : List (List ℕ)). HasRisingColumns g.row.D rs) (sym rows) h;
    })))))

pub loop-key-preserved : goal.loop-key-preserved
loop-key-preserved g c =
    let f : BracketPolynomial = c.args.poly.now.tracked.sum in
    let rows : c.rows.result.now ≡ c.in-Some.key.now.rows =
    c.rows.ensures.rows ∙ ap (λ (k : Key). k.rows) c.key.view_is in
    standard_goes_on g.row.D f.terms c.next.new.self (c.in-Some.key.now, _)
    (standard_left g.row.D f.terms c.loop-key.key-iterator _ c.loop-key.invariant c.in-Some.ensures.steps)
    (subst (λ (rs : List (List ℕ)). HasRisingColumns g.row.D rs) rows (c.if-not-is_standard.ensures.0 refl).columns)

pub returns : goal.returns
returns g c =
    let f : BracketPolynomial = c.args.poly.now.tracked.sum in
    standard_ends g.row.D f c.args.poly.now.formed.keys
    (standard_left g.row.D f.terms c.loop-key.key-iterator _ c.loop-key.invariant c.in-None.ensures.steps.0)
