use Rattle.std.proofs.Common.{◌∙◌, refl}
use Rattle.log_checker.proofs.Ended.{free_formed}
use Rattle.log_checker.proofs.values.free_value.Goals as goal

pub invariant_of-result : goal.invariant_of-result
invariant_of-result g c = record {
  formed =
      free_formed g.row.D c.args.point c.new-entries.result.items c.of.result _ _ c.new-entries.ensures.items
      (c.of.ensures ∙ c.in_ok-push.ensures.items) c.requires refl c.in_ok-one.ensures;
}
