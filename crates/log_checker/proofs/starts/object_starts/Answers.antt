use Rattle.std.proofs.Common.{rules}
use Rattle.bracket_poly.specs.declared.value.Value.{Value}
use Rattle.log_checker.specs.Ready.{IsJoin, IsMeet, IsMixed}
use Rattle.conic_points.specs.Points.{values_of}
use Rattle.log_checker.specs.Seen.{steps_in}
use Rattle.log_checker.proofs.Operands.{are_joined, are_met, pair_fits}
use Rattle.log_checker.proofs.Operands.{makes_join, makes_meet, makes_mixed, are_mixed, first_fits, second_fits}
use Rattle.log_checker.proofs.starts.object_starts.Goals as goal

pub join-object-requires : goal.join-object-requires
join-object-requires g c =
    let a = c.in-Join.a in
    let b = c.in-Join.b in
    let x : Value g.row.D = c.index-values-a.result in
    let y : Value g.row.D = c.index-values-b.result in
    let made : IsJoin g.row.D (steps_in c.args.values.now) a b c.args.step =
    makes_join g.row.D (steps_in c.args.values.now) (values_of c.args.values.now) c.args.instr a b c.args.step
    c.requires.ready
    c.in-Join.is in (
      search rules,
      (
        c.requires.rank,
        (
          are_joined c.args.values.now a b x y c.index-values-a.is c.index-values-b.is c.args.step made,
          pair_fits c.args.values.now a b x y c.index-values-a.is c.index-values-b.is made.pair
              c.requires.ready.small,
        ),
      ),
    )

pub meet-object-requires : goal.meet-object-requires
meet-object-requires g c =
    let a = c.in-Meet.a in
    let b = c.in-Meet.b in
    let x : Value g.row.D = c.index-values-a-in-Meet.result in
    let y : Value g.row.D = c.index-values-b-in-Meet.result in
    let made : IsMeet g.row.D (steps_in c.args.values.now) a b c.args.step =
    makes_meet g.row.D (steps_in c.args.values.now) (values_of c.args.values.now) c.args.instr a b c.args.step
    c.requires.ready
    c.in-Meet.is in (
      search rules,
      (
        c.requires.rank,
        (
          are_met c.args.values.now a b x y c.index-values-a-in-Meet.is c.index-values-b-in-Meet.is c.args.step made,
          pair_fits c.args.values.now a b x y c.index-values-a-in-Meet.is c.index-values-b-in-Meet.is made.pair
              c.requires.ready.small,
        ),
      ),
    )

pub on-object-requires : goal.on-object-requires
on-object-requires g c =
    let a = c.in-On.a in
    let b = c.in-On.b in
    let s = c.in-On.s in
    let t = c.in-On.t in
    let x : Value g.row.D = c.index-values-a-in-On.result in
    let y : Value g.row.D = c.index-values-b-in-On.result in
    let made : IsMixed g.row.D (steps_in c.args.values.now) a b s t c.args.step =
    makes_mixed g.row.D (steps_in c.args.values.now) (values_of c.args.values.now) c.args.instr a b s t c.args.step
    c.requires.ready c.in-On.is in
    let small = c.requires.ready.small in (
      search rules,
      (
        c.requires.rank,
        (
          are_mixed c.args.values.now a b x y c.index-values-a-in-On.is c.index-values-b-in-On.is s t c.args.step made,
          (
            made.first_parameter,
            (
              made.second_parameter,
              (
                first_fits c.args.values.now a b x y c.index-values-a-in-On.is c.index-values-b-in-On.is s made.pair
                    small,
                second_fits c.args.values.now a b x y c.index-values-a-in-On.is c.index-values-b-in-On.is t made.pair
                    small,
              ),
            ),
          ),
        ),
      ),
    )
