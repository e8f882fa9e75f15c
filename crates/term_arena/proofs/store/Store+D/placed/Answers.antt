use Rattle.std.proofs.Common.{rules, sym, ap, ◌∙◌}
use Rattle.std.specs.Prelude.{unwrap_or}
use Rattle.std.proofs.lemmas.Option.{slice_get_within}
use Rattle.term_arena.proofs.store.Store+D.placed.Goals as goal

pub view-requires : goal.view-requires
view-requires g c =
    (search rules, (search rules, slice_get_within c.args.self.now c.in-Some.id.0 c.args.rows.now c.in-Some.ensures.there))

pub returns-in-Some : goal.returns-in-Some
returns-in-Some g c = ap (λ o. unwrap_or o c.args.rows.now) (sym c.view.ensures ∙ c.in-Some.ensures.there)
