use Rattle.std.proofs.Common.{sym, ◌∙◌, ap}
use Rattle.step_types.specs.Known.{found}
use Rattle.step_types.proofs.TableLaws.{found-listed, found-within}
use Rattle.step_types.proofs.table.Table.get.Goals as goal

pub returns-clause-value : goal.returns-clause-value
returns-clause-value c =
    c.copied.ensures ∙ c.get.ensures.value
    ∙ sym (found-listed c.args.name.now c.self.inside.objects.entries)
    ∙ ap (found c.args.name.now) c.self.view_is

pub returns-clause-within : goal.returns-clause-within
returns-clause-within c =
    rw (c.copied.ensures ∙ c.get.ensures.value ∙ sym (found-listed c.args.name.now c.self.inside.objects.entries))
    (found-within c.args.name.now _ c.self.invariant)
