use Rattle.std.proofs.Common.{◌≡◌, ◌++◌, ◌∷◌, [], false, ◌∙◌, ap}
use Rattle.cayley_terms.specs.Named.{has_name}
use Rattle.cayley_terms.specs.Listed.{listed}
use Rattle.cayley_terms.proofs.Names.{listed-insert}
use Rattle.cayley_terms.proofs.numbers.Numbers.add.Goals as goal

listed_now : (c : goal.In_ok-insert)
    → listed c.insert.new.self ≡ listed c.self.inside.map ++ (c.args.name.now, c.args.number) ∷ []
listed_now c =
    let key = c.in_ok-key.key in
    let bytes : key.items ≡ c.args.name.now = c.in_ok-key.ensures.items in
    let new : has_name key.items (listed c.self.inside.map) ≡ false =
    ap (λ name. has_name name (listed c.self.inside.map)) bytes ∙ ap (has_name c.args.name.now) c.self.view_is
    ∙ c.requires in
    rw c.in_ok-insert.ensures.entries (listed-insert c.self.inside.map key c.args.number new)
    ∙ ap (λ name. listed c.self.inside.map ++ (name, c.args.number) ∷ []) bytes

pub returns : goal.returns
returns c = listed_now c ∙ ap (λ made. made ++ (c.args.name.now, c.args.number) ∷ []) c.self.view_is
