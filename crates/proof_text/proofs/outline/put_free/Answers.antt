use Rattle.std.proofs.Common.{ap, codes, [], ◌∷◌}
use Rattle.proof_text.specs.Lines.{spaced}
use Rattle.proof_text.proofs.Writing.{same_lines}
use Rattle.proof_text.proofs.outline.put_free.Goals as goal

pub returns : goal.returns
returns g c = same_lines _ _ _ _ _ _ _ (ap (λ ns. spaced (codes "free" ∷ ns) ∷ []) c.items.ensures) c.put_names.ensures
