use Rattle.std.proofs.Common.{inl, inr, arith, ◌∙◌, ap}
use Rattle.construction_reader.specs.Said.{object}
use Rattle.cayley_terms.specs.declared.instr.Instr.TheVariants as instr
use Rattle.cayley_terms.specs.Named.{named}
use Rattle.cayley_terms.specs.Straight.{Lowered}
use Rattle.cayley_terms.proofs.ObjectSteps.{parts, parts_below, first_fits, second_fits, join_room, meet_room, join_done, meet_done, name_done, pushed_done, pushed_room}
use Rattle.cayley_terms.proofs.lowering.Lowering.+object.Goals as goal

pub object-requires : goal.object-requires
object-requires t c =
    let a = object c.in-Join.a.value in
    let b = object c.in-Join.b.value in
    let line = c.args.line in
    let s = c.args.self.now in
    let fewer = parts_below (object c.args.arg.now) a b (inl (ap object c.in-Join.is)) in
    let same = ap (λ x. parts (object x)) c.deref.ensures in (
      omega (arith, c.decreases, fewer.0, same),
      rw (c.deref.ensures)
          (first_fits instr.Join line a b s (join_room line _ a b s (ap object c.in-Join.is) c.requires)),
    )

pub object-requires-in-Join : goal.object-requires-in-Join
object-requires-in-Join t c =
    let a = object c.in-Join.a.value in
    let b = object c.in-Join.b.value in
    let line = c.args.line in
    let s = c.args.self.now in
    let fewer = parts_below (object c.args.arg.now) a b (inl (ap object c.in-Join.is)) in
    let same = ap (λ x. parts (object x)) c.deref-in-Join.ensures in (
      omega (arith, c.decreases, fewer.1, same),
      rw (c.deref-in-Join.ensures)
          (second_fits instr.Join line a b s (c.object.new.self, c.in_ok-first-in-Join.first)
          (rw c.deref.ensures at (c.in_ok-first-in-Join.ensures {u = tt}))
          (join_room line _ a b s (ap object c.in-Join.is) c.requires)),
    )

pub push-requires : goal.push-requires
push-requires t c =
    let a = object c.in-Join.a.value in
    let b = object c.in-Join.b.value in
    let line = c.args.line in
    let s = c.args.self.now in
    pushed_room
    (join_done c.args.line _ a b s (c.object.new.self, c.in_ok-first-in-Join.first)
    (c.object-in-Join.new.self, c.in_ok-second-in-Join.second) (ap object c.in-Join.is)
    (rw c.deref.ensures at (c.in_ok-first-in-Join.ensures {u = tt}))
    (rw c.deref-in-Join.ensures at (c.in_ok-second-in-Join.ensures {u = tt})))
    c.requires

pub object-requires-in-Meet : goal.object-requires-in-Meet
object-requires-in-Meet t c =
    let a = object c.in-Meet.a.value in
    let b = object c.in-Meet.b.value in
    let line = c.args.line in
    let s = c.args.self.now in
    let fewer = parts_below (object c.args.arg.now) a b (inr (ap object c.in-Meet.is)) in
    let same = ap (λ x. parts (object x)) c.deref-in-Meet.ensures in (
      omega (arith, c.decreases, fewer.0, same),
      rw (c.deref-in-Meet.ensures)
          (first_fits instr.Meet line a b s (meet_room line _ a b s (ap object c.in-Meet.is) c.requires)),
    )

pub object-requires-in-Meet-2 : goal.object-requires-in-Meet-2
object-requires-in-Meet-2 t c =
    let a = object c.in-Meet.a.value in
    let b = object c.in-Meet.b.value in
    let line = c.args.line in
    let s = c.args.self.now in
    let fewer = parts_below (object c.args.arg.now) a b (inr (ap object c.in-Meet.is)) in
    let same = ap (λ x. parts (object x)) c.deref-in-Meet-2.ensures in (
      omega (arith, c.decreases, fewer.1, same),
      rw (c.deref-in-Meet-2.ensures)
          (second_fits instr.Meet line a b s (c.object-in-Meet.new.self, c.in_ok-first-in-Meet.first)
          (rw c.deref-in-Meet.ensures at (c.in_ok-first-in-Meet.ensures {u = tt}))
          (meet_room line _ a b s (ap object c.in-Meet.is) c.requires)),
    )

pub push-requires-in-Meet : goal.push-requires-in-Meet
push-requires-in-Meet t c =
    let a = object c.in-Meet.a.value in
    let b = object c.in-Meet.b.value in
    let line = c.args.line in
    let s = c.args.self.now in
    pushed_room
    (meet_done c.args.line _ a b s (c.object-in-Meet.new.self, c.in_ok-first-in-Meet.first)
    (c.object-in-Meet-2.new.self, c.in_ok-second-in-Meet.second) (ap object c.in-Meet.is)
    (rw c.deref-in-Meet.ensures at (c.in_ok-first-in-Meet.ensures {u = tt}))
    (rw c.deref-in-Meet-2.ensures at (c.in_ok-second-in-Meet.ensures {u = tt})))
    c.requires

pub returns-in-Named : goal.returns-in-Named
returns-in-Named t c =
    name_done c.args.line _ c.in-Named.name _ c.args.self.now (ap object c.in-Named.is)
    (c.get.ensures ∙ ap (named 0 c.self.inside.numbers) c.bytes.ensures
    ∙ ap (λ (s : Lowered). named 0 s.numbers c.in-Named.name) c.self.view_is)

pub returns-in_ok-second-in-Join : goal.returns-in_ok-second-in-Join
returns-in_ok-second-in-Join t c =
    let a = object c.in-Join.a.value in
    let b = object c.in-Join.b.value in
    pushed_done c.push.result c.push.new.self _ _ c.push.ensures
    (join_done c.args.line _ a b c.args.self.now (c.object.new.self, c.in_ok-first-in-Join.first)
    (c.object-in-Join.new.self, c.in_ok-second-in-Join.second) (ap object c.in-Join.is)
    (rw c.deref.ensures at (c.in_ok-first-in-Join.ensures {u = tt}))
    (rw c.deref-in-Join.ensures at (c.in_ok-second-in-Join.ensures {u = tt})))

pub returns-in_ok-second-in-Meet : goal.returns-in_ok-second-in-Meet
returns-in_ok-second-in-Meet t c =
    let a = object c.in-Meet.a.value in
    let b = object c.in-Meet.b.value in
    pushed_done c.push-in-Meet.result c.push-in-Meet.new.self _ _ c.push-in-Meet.ensures
    (meet_done c.args.line _ a b c.args.self.now (c.object-in-Meet.new.self, c.in_ok-first-in-Meet.first)
    (c.object-in-Meet-2.new.self, c.in_ok-second-in-Meet.second) (ap object c.in-Meet.is)
    (rw c.deref-in-Meet.ensures at (c.in_ok-first-in-Meet.ensures {u = tt}))
    (rw c.deref-in-Meet-2.ensures at (c.in_ok-second-in-Meet.ensures {u = tt})))
