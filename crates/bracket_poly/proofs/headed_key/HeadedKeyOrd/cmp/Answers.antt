use Rattle.std.proofs.Common.{sym, ap, ◌∙◌}
use Rattle.coordinate_model.specs.Key.{key_cmp}
use Rattle.bracket_poly.proofs.HeadLaws.{key_less, key_greater}
use Rattle.bracket_poly.proofs.headed_key.HeadedKeyOrd.cmp.Goals as goal

pub returns-then-self-other : goal.returns-then-self-other
returns-then-self-other g c =
    sym (key_less _ c.self.inside.key c.other.inside.key _ _ c.self.invariant c.other.invariant c.if-self-other.true)
    ∙ ap (λ k. key_cmp k c.other.inside.key) c.self.view_is ∙ ap (λ l. key_cmp c.args.self.now l) c.other.view_is

pub returns-then-self-other-2 : goal.returns-then-self-other-2
returns-then-self-other-2 g c =
    sym (key_greater _ c.self.inside.key c.other.inside.key _ _ c.self.invariant c.other.invariant c.if-self-other-2.true)
    ∙ ap (λ k. key_cmp k c.other.inside.key) c.self.view_is ∙ ap (λ l. key_cmp c.args.self.now l) c.other.view_is
