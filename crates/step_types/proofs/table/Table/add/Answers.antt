use Rattle.std.proofs.Common.{◌≡◌, ◌++◌, ◌∷◌, [], None, ◌∙◌, ap}
use Rattle.step_types.specs.Known.{found}
use Rattle.step_types.specs.Listed.{listed}
use Rattle.step_types.proofs.TableLaws.{listed-insert, AreWithin-push}
use Rattle.step_types.proofs.table.Table.add.Goals as goal

listed_now : (c : goal.In_ok-insert)
    → listed c.insert.new.self ≡ listed c.self.inside.objects ++ (c.args.name.now, c.args.measure) ∷ []
listed_now c =
    let key = c.in_ok-key.key in
    let bytes : key.items ≡ c.args.name.now = c.in_ok-key.ensures.items in
    let none : found key.items (listed c.self.inside.objects) ≡ None =
    ap (λ name. found name (listed c.self.inside.objects)) bytes ∙ ap (found c.args.name.now) c.self.view_is
    ∙ c.requires.new_name in
    rw c.in_ok-insert.ensures.entries (listed-insert c.self.inside.objects key c.args.measure none)
    ∙ ap (λ name. listed c.self.inside.objects ++ (name, c.args.measure) ∷ []) bytes

pub invariant_of-self-2 : goal.invariant_of-self-2
invariant_of-self-2 c = rw (listed_now c) (AreWithin-push _ _ c.self.invariant c.requires.within)

pub returns : goal.returns
returns c = listed_now c ∙ ap (λ made. made ++ (c.args.name.now, c.args.measure) ∷ []) c.self.view_is
