use Rattle.std.proofs.Common.{ℕ, sym, ◌∙◌, ap, subst}
use Rattle.construction_reader.specs.Said.{recipe}
use Rattle.cayley_terms.specs.declared.instr.Instr.{Instr}
use Rattle.cayley_terms.specs.Named.{has_name}
use Rattle.cayley_terms.specs.Straight.{Lowered, recipe_lowered, ended}
use Rattle.cayley_terms.specs.Room.{Fits}
use Rattle.cayley_terms.proofs.StatementSteps.{ended_room, recipe_room, ended_new}
use Rattle.cayley_terms.proofs.lowering.Lowering.define.Goals as goal

pub recipe-requires-clause-room : goal.recipe-requires-clause-room
recipe-requires-clause-room c =
    recipe_room c.args.line c.args.name.now (recipe_lowered c.args.params.now c.args.line (recipe c.args.expr.now) c.args.self.now)
    c.requires.room

room_behind : (c : goal.After-push) → Fits (ended c.args.line c.args.name.now (c.recipe.new.self, c.in_ok-instr.instr))
room_behind c =
    subst (λ (last : Lowered × Instr). Fits (ended c.args.line c.args.name.now last))
    (sym (c.in_ok-instr.ensures {u = tt})) c.requires.room

pub push-requires : goal.push-requires
push-requires c =
    rw (ap (λ (s : Lowered). s.definitions) c.push.view_is)
    (ended_room c.args.line c.args.name.now (c.recipe.new.self, c.in_ok-instr.instr) (room_behind c))

pub add-requires : goal.add-requires
add-requires c =
    ap (λ name. has_name name c.self.inside.numbers) c.bytes.ensures
    ∙ ap (λ (s : Lowered). has_name c.args.name.now s.numbers)
    (c.self.view_is ∙ ap (λ (r : Lowered × ℕ). r.0) (c.in_ok-number.ensures {u = tt}))
    ∙ ended_new c.args.line c.args.name.now (c.recipe.new.self, c.in_ok-instr.instr)
    (subst (λ (last : Lowered × Instr). Fits (ended c.args.line c.args.name.now last))
    (sym (c.in_ok-instr.ensures {u = tt})) c.requires.room)
