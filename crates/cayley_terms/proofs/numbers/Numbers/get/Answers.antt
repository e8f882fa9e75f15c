use Rattle.std.proofs.Common.{ℕ, List, Option, sym, ◌∙◌, ap}
use Rattle.std.specs.Prelude.{unwrap_or}
use Rattle.cayley_terms.specs.Named.{named}
use Rattle.cayley_terms.proofs.Names.{named-listed}
use Rattle.cayley_terms.proofs.numbers.Numbers.get.Goals as goal

pub returns : goal.returns
returns c =
    c.unwrap_or.ensures ∙ ap (λ (o : Option ℕ). unwrap_or o 0) (c.copied.ensures ∙ c.get.ensures.value)
    ∙ sym (named-listed c.args.name.now c.self.inside.map.entries)
    ∙ ap (λ (entries : List (List ℕ × ℕ)). named 0 entries c.args.name.now) c.self.view_is
