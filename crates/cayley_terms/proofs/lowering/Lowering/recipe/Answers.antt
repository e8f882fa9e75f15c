use Rattle.std.proofs.Common.{ℕ, List, length, sym, ◌∙◌, ap, subst}
use Rattle.construction_reader.specs.Said.{object, objects, recipe}
use Rattle.cayley_terms.specs.declared.instr.Instr.TheVariants as instr
use Rattle.cayley_terms.specs.declared.instr.Instr.{Instr}
use Rattle.cayley_terms.specs.Straight.{Lowered, pascal_lowered}
use Rattle.cayley_terms.specs.Room.{Fits}
use Rattle.cayley_terms.proofs.StatementSteps.{join_recipe-is, meet_recipe-is, on_params, on_recipe-is, recipe_first, recipe_second, recipe_done}
use Rattle.cayley_terms.proofs.PascalSteps.{five_room, sixth_room, behind_six, five_of, pascal_done}
use Rattle.cayley_terms.proofs.lowering.Lowering.recipe.Goals as goal

pub object-requires : goal.object-requires
object-requires c =
    recipe_first instr.Join c.args.line _ (object c.in-Join.b) c.args.self.now _
    (join_recipe-is c.args.params.now c.args.line _ _ _ c.args.self.now (ap recipe c.in-Join.is)) c.requires.room

pub object-requires-in-Join : goal.object-requires-in-Join
object-requires-in-Join c =
    recipe_second instr.Join c.args.line _ _ c.args.self.now _
    (join_recipe-is c.args.params.now c.args.line _ _ _ c.args.self.now (ap recipe c.in-Join.is))
    (c.object.new.self, c.in_ok-first-in-Join.first) (c.in_ok-first-in-Join.ensures {u = tt}) c.requires.room

pub returns-in_ok-second-in-Join : goal.returns-in_ok-second-in-Join
returns-in_ok-second-in-Join c =
    recipe_done instr.Join c.args.line (object c.in-Join.a) (object c.in-Join.b) c.args.self.now _
    (join_recipe-is c.args.params.now c.args.line _ _ _ c.args.self.now (ap recipe c.in-Join.is))
    (c.object.new.self, c.in_ok-first-in-Join.first) (c.object-in-Join.new.self, c.in_ok-second-in-Join.second)
    (c.in_ok-first-in-Join.ensures {u = tt}) (c.in_ok-second-in-Join.ensures {u = tt})

pub object-requires-in-Meet : goal.object-requires-in-Meet
object-requires-in-Meet c =
    recipe_first instr.Meet c.args.line _ (object c.in-Meet.b) c.args.self.now _
    (meet_recipe-is c.args.params.now c.args.line _ _ _ c.args.self.now (ap recipe c.in-Meet.is)) c.requires.room

pub object-requires-in-Meet-2 : goal.object-requires-in-Meet-2
object-requires-in-Meet-2 c =
    recipe_second instr.Meet c.args.line _ _ c.args.self.now _
    (meet_recipe-is c.args.params.now c.args.line _ _ _ c.args.self.now (ap recipe c.in-Meet.is))
    (c.object-in-Meet.new.self, c.in_ok-first-in-Meet.first) (c.in_ok-first-in-Meet.ensures {u = tt}) c.requires.room

pub returns-in_ok-second-in-Meet : goal.returns-in_ok-second-in-Meet
returns-in_ok-second-in-Meet c =
    recipe_done instr.Meet c.args.line (object c.in-Meet.a) (object c.in-Meet.b) c.args.self.now _
    (meet_recipe-is c.args.params.now c.args.line _ _ _ c.args.self.now (ap recipe c.in-Meet.is))
    (c.object-in-Meet.new.self, c.in_ok-first-in-Meet.first) (c.object-in-Meet-2.new.self, c.in_ok-second-in-Meet.second)
    (c.in_ok-first-in-Meet.ensures {u = tt}) (c.in_ok-second-in-Meet.ensures {u = tt})

pub object-requires-in-On : goal.object-requires-in-On
object-requires-in-On c =
    recipe_first (on_params c.args.params.now c.in-On.s c.in-On.t) c.args.line _ (object c.in-On.b) c.args.self.now _
    (on_recipe-is c.args.params.now c.args.line _ _ _ c.args.self.now c.in-On.s c.in-On.t (ap recipe c.in-On.is)) c.requires.room

pub object-requires-in-On-2 : goal.object-requires-in-On-2
object-requires-in-On-2 c =
    recipe_second (on_params c.args.params.now c.in-On.s c.in-On.t) c.args.line _ _ c.args.self.now _
    (on_recipe-is c.args.params.now c.args.line _ _ _ c.args.self.now c.in-On.s c.in-On.t (ap recipe c.in-On.is))
    (c.object-in-On.new.self, c.in_ok-a-in-On.a) (c.in_ok-a-in-On.ensures {u = tt}) c.requires.room

pub returns-in_ok-b-in-On : goal.returns-in_ok-b-in-On
returns-in_ok-b-in-On c =
    rw (c.place-s.ensures, c.place-t.ensures)
    (recipe_done (on_params c.args.params.now c.in-On.s c.in-On.t) c.args.line (object c.in-On.a) (object c.in-On.b)
    c.args.self.now _
    (on_recipe-is c.args.params.now c.args.line _ _ _ c.args.self.now c.in-On.s c.in-On.t (ap recipe c.in-On.is))
    (c.object-in-On.new.self, c.in_ok-a-in-On.a) (c.object-in-On-2.new.self, c.in_ok-b-in-On.b)
    (c.in_ok-a-in-On.ensures {u = tt}) (c.in_ok-b-in-On.ensures {u = tt}))

pub objects-requires : goal.objects-requires
objects-requires c =
    rw c.items.ensures (five_room c.args.params.now c.args.line _ (objects c.in-Pascal.five) (object c.in-Pascal.through) c.args.self.now
    (ap recipe c.in-Pascal.is) c.requires.room)

pub object-requires-in-Pascal : goal.object-requires-in-Pascal
object-requires-in-Pascal c =
    sixth_room c.args.params.now c.args.line _ (objects c.in-Pascal.five) (object c.in-Pascal.through) c.args.self.now
    (ap recipe c.in-Pascal.is)
    (c.objects.new.self, c.in_ok-five-in-Pascal.five.items)
    (rw c.items.ensures at (c.in_ok-five-in-Pascal.ensures {u = tt})) c.requires.room

pub pascal-requires-clause-five : goal.pascal-requires-clause-five
pascal-requires-clause-five c =
    ap length c.deref.ensures.value
    ∙ five_of c.args.params.now c.args.line _ (objects c.in-Pascal.five) (object c.in-Pascal.through) c.args.self.now
    (ap recipe c.in-Pascal.is)
    (c.objects.new.self, c.in_ok-five-in-Pascal.five.items)
    (rw c.items.ensures at (c.in_ok-five-in-Pascal.ensures {u = tt})) c.requires.formed

pub pascal-requires-clause-room : goal.pascal-requires-clause-room
pascal-requires-clause-room c =
    rw c.deref.ensures.value
    (subst (λ (r : Lowered × Instr). Fits r.0)
    (behind_six c.args.params.now c.args.line _ (objects c.in-Pascal.five) (object c.in-Pascal.through) c.args.self.now
    (ap recipe c.in-Pascal.is)
    (c.objects.new.self, c.in_ok-five-in-Pascal.five.items)
    (rw c.items.ensures at (c.in_ok-five-in-Pascal.ensures {u = tt}))
    (c.object-in-Pascal.new.self, c.in_ok-q-in-Pascal.q) (c.in_ok-q-in-Pascal.ensures {u = tt})) c.requires.room)

pub returns-in_ok-q-in-Pascal : goal.returns-in_ok-q-in-Pascal
returns-in_ok-q-in-Pascal c =
    pascal_done c.pascal.result c.pascal.new.self _ _ c.pascal.ensures
    (ap (λ (ns : List ℕ). pascal_lowered c.args.line ns c.in_ok-q-in-Pascal.q c.object-in-Pascal.new.self) c.deref.ensures.value
    ∙ sym
    (behind_six c.args.params.now c.args.line _ (objects c.in-Pascal.five) (object c.in-Pascal.through) c.args.self.now
    (ap recipe c.in-Pascal.is)
    (c.objects.new.self, c.in_ok-five-in-Pascal.five.items)
    (rw c.items.ensures at (c.in_ok-five-in-Pascal.ensures {u = tt}))
    (c.object-in-Pascal.new.self, c.in_ok-q-in-Pascal.q) (c.in_ok-q-in-Pascal.ensures {u = tt})))
