use Rattle.std.proofs.Common.{ap, ◌∙◌}
use Rattle.std.specs.BTreeSet.{insert_key}
use Rattle.coordinate_model.specs.Key.{key_cmp}
use Rattle.bracket_poly.specs.Tracked.{has_met}
use Rattle.bracket_poly.proofs.OrderLaws.{put_among, put_merged}
use Rattle.bracket_poly.proofs.key_order.KeyOrder+D.insert.Goals as goal

pub returns-clause-there : goal.returns-clause-there
returns-clause-there g c =
    put_merged c.self.inside.long.items c.self.inside.recent.keys c.insert.new.self.keys c.args.key
    (c.in_ok-insert.ensures.keys ∙ ap (insert_key key_cmp c.self.inside.recent.keys) c.of.ensures)

pub returns-clause-others : goal.returns-clause-others
returns-clause-others g c = λ q h.
    put_among c.self.inside.long.items c.self.inside.recent.keys c.insert.new.self.keys c.args.key
    (c.in_ok-insert.ensures.keys ∙ ap (insert_key key_cmp c.self.inside.recent.keys) c.of.ensures) q
    (ap (λ ks. has_met ks q) (c.self.view_is ∙ c.settle.ensures) ∙ h)
