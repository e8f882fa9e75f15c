use Rattle.std.proofs.Common.{◌≡◌, ◌++◌, ℕ, List, [], true≢false, sym, subst, ◌∙◌, arith}
use Rattle.std.proofs.lemmas.List.{nil_from_length}
use Rattle.std.proofs.lemmas.Slice.Eq.{bytes_eq-Decides}
use Rattle.proof_text.specs.Cut.{line_feed}
use Rattle.prover.specs.Cuts.{IsOther, IsCut}
use Rattle.prover.proofs.CutLaws.{first_known, cut_here, cut_nothing, some_before}
use Rattle.prover.proofs.cut.from_separator.Goals as goal

pub loop-separator-init : goal.loop-separator-init
loop-separator-init c = λ back is. is

pub returns-then-eq : goal.returns-then-eq
returns-then-eq c =
    let line = c.first_line.result.0.now in
    let rest = c.loop-separator.rest.now in
    let behind = c.first_line.result.2.now in
    let closed = c.first_line.result.1 in
    let known = first_known rest line behind closed c.first_line.ensures.lines in
    let same : line ≡ c.args.separator.now =
    (bytes_eq-Decides line c.args.separator.now).0 (sym c.eq.ensures ∙ c.if-eq.true) in
    c.loop-separator.invariant rest
    ([], cut_here c.args.separator.now rest line behind closed same c.first_line.ensures.whole known.1)

pub loop-separator-preserved : goal.loop-separator-preserved
loop-separator-preserved c =
    let line = c.first_line.result.0.now in
    let rest = c.loop-separator.rest.now in
    let behind = c.first_line.result.2.now in
    let closed = c.first_line.result.1 in
    let known = first_known rest line behind closed c.first_line.ensures.lines in
    let other : IsOther c.args.separator.now line =
    record {
      no_feed = known.0;
      other = λ e. true≢false (sym ((bytes_eq-Decides line c.args.separator.now).1 e) ∙ sym c.eq.ensures ∙ c.if-eq.false);
    } in
    λ back is. c.loop-separator.invariant back (
      line ++ (line_feed closed ++ is.0),
      subst (λ (r : List ℕ). IsCut c.args.separator.now r (line ++ (line_feed closed ++ is.0)) back)
          (sym c.first_line.ensures.whole)
          (some_before c.args.separator.now line behind is.0 back closed other known.1 is.1),
    )

pub returns : goal.returns
returns c =
    let none : c.loop-separator.rest.now ≡ [] = nil_from_length _ (grind arith) in
    c.loop-separator.invariant c.loop-separator.rest.now
    ([], subst (λ (r : List ℕ). IsCut c.args.separator.now r [] r) (sym none) (cut_nothing c.args.separator.now c.requires))
