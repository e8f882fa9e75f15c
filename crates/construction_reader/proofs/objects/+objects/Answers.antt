use Rattle.std.proofs.Common.{◌≡◌, ◌-◌, take, drop, length, sym, ◌∙◌, arith, length-drop}
use Rattle.std.proofs.lemmas.List.{take_all}
use Rattle.construction_reader.proofs.ObjectSteps.{object_at-opens}
use Rattle.construction_reader.proofs.objects.+objects.Goals as goal

pub object-returns-in-len1-up : goal.object-returns-in-len1-up
object-returns-in-len1-up t c =
    let tokens = c.args.tokens.now in
    let rest : take (length tokens - 1) (drop 1 tokens) ≡ drop 1 tokens =
    take_all _ _ (omega (arith, length-drop 1 tokens)) in
    rw (
      object_at-opens c.args.room tokens c.first-item.result (omega arith) (omega arith) c.first-item.is
          (sym c.is.ensures ∙ c.if-is.true),
      ← rest,
    ) c.pair.ensures
