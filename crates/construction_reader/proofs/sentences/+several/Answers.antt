use Rattle.std.proofs.Common.{◌≡◌, ◌++◌, ◌∷◌, [], inl, inr, arith}
use Rattle.std.proofs.lemmas.Result.{err_from_is_err_and}
use Rattle.std.proofs.lemmas.List.{map_push}
use Rattle.construction_reader.specs.Said.{object, objects}
use Rattle.construction_reader.proofs.SeveralSteps.{goes_on, ends, is_over}
use Rattle.construction_reader.proofs.sentences.+several.Goals as goal
use Rattle.construction_reader.proofs.sentences.+several.Goals.{then-most-eq0-via-then-most-eq0, then-most-eq0-via-else-most-eq0+then-is_empty}

pub returns-then-most-eq0 : goal.returns-then-most-eq0
returns-then-most-eq0 t c =
    elim c.then-most-eq0.branch [
      | then-most-eq0-via-then-most-eq0 w ↦ is_over _ _ _ (inl (omega arith))
      | then-most-eq0-via-else-most-eq0+then-is_empty w ↦ is_over _ _ _ (inr (grind arith))
    ]

pub returns-in_err-arg : goal.returns-in_err-arg
returns-in_err-arg t c =
    let p = err_from_is_err_and c.from_residual.result c.from_residual.ensures.1 in
    rw (p.1, p.2) (ends c.in_err-arg.field-0.0 (objects c.args.args.now.items) c.args.most c.args.tokens.now
    (grind arith) (grind arith) c.in_err-arg.ensures)

pub returns : goal.returns
returns t c =
    let n = c.in_ok-arg.arg in
    let e : objects c.push.new.self.items ≡ objects c.args.args.now.items ++ object n ∷ [] =
    rw c.in_ok-push.ensures.items (map_push _ c.args.args.now.items n) in
    rw (
      goes_on (objects c.args.args.now.items) c.args.most c.args.tokens.now (object n) c.in_ok-arg.rest.now
          (grind arith) (grind arith) c.in_ok-arg.ensures,
      ← e,
    ) c.several.ensures
