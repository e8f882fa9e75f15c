use Rattle.std.proofs.Common.{◌≡◌, ◌++◌, ◌∷◌, [], ◌∙◌, ap}
use Rattle.step_types.proofs.NewNames.{here, behind, one_more}
use Rattle.step_types.proofs.progress.add_points.Goals as goal

pub add-requires-clause-new_name : goal.add-requires-clause-new_name
add-requires-clause-new_name c =
    rw c.bytes.ensures
    (here _ c.args.names.now c.loop-name.name-index _ c.loop-name-test.true c.name-item.is c.loop-name.invariant.new)

pub loop-name-preserved : goal.loop-name-preserved
loop-name-preserved c =
    let made = c.loop-name.made in
    let names = c.args.names.now in
    let i = c.loop-name.name-index in
    let name = c.name-item.result in
    let added : c.add.new.self ≡ made ++ (name, c.args.m) ∷ [] =
    c.in_ok-add.ensures ∙ ap (λ n. made ++ (n, c.args.m) ∷ []) c.bytes.ensures in
    record {
      same =
          added
          ∙ one_more made c.args.made.now names i name c.args.m c.loop-name-test.true c.name-item.is
          c.loop-name.invariant.same;
      new = rw added (behind made names i name c.args.m c.loop-name-test.true c.name-item.is c.loop-name.invariant.new);
    }
