use Rattle.std.proofs.Common.{◌∙◌, sym}
use Rattle.shuffle_meet.proofs.Sifting.{takes_entry, leaves_entry, all_sifted, kept_value}
use Rattle.shuffle_meet.proofs.starts.Starts.finish.Goals as goal

pub loop-extensor-init : goal.loop-extensor-init
loop-extensor-init g c =
    record { split = sym c.into_iter-extensor-iterator.ensures.into_iter_gives.0; kept = c.new-entries.ensures.items }

pub loop-extensor-preserved-in-Continue-1 : goal.loop-extensor-preserved-in-Continue-1
loop-extensor-preserved-in-Continue-1 g c =
    takes_entry c.args.self.polys.entries c.loop-extensor.yielded c.loop-extensor.extensor-iterator c.next.new.self
    c.loop-extensor.entries.items (c.in-Some.extensor, c.in-Some.sum) c.len.result c.loop-extensor.invariant
    c.in-Some.ensures.steps c.len.ensures c.push.new.self.items c.if-len-gt0.true c.in_ok-push.ensures.items

pub loop-extensor-preserved : goal.loop-extensor-preserved
loop-extensor-preserved g c =
    leaves_entry c.args.self.polys.entries c.loop-extensor.yielded c.loop-extensor.extensor-iterator c.next.new.self
    c.loop-extensor.entries.items (c.in-Some.extensor, c.in-Some.sum) c.len.result c.loop-extensor.invariant
    c.in-Some.ensures.steps c.len.ensures c.if-len-gt0.false

pub invariant_of-result : goal.invariant_of-result
invariant_of-result g c =
    record {
      formed =
          kept_value g.row.D c.args.self.step c.args.self.polys.entries c.of.result c.args.self.of_step
          c.into_iter-extensor-iterator.ensures.into_iter_gives.5
          (c.of.ensures
          ∙ all_sifted c.args.self.polys.entries c.loop-extensor.yielded c.loop-extensor.extensor-iterator
          c.loop-extensor.entries.items c.loop-extensor.invariant c.in-None.ensures.steps.0);
    }

pub returns-clause-entries : goal.returns-clause-entries
returns-clause-entries g c =
    c.of.ensures
    ∙ all_sifted c.args.self.polys.entries c.loop-extensor.yielded c.loop-extensor.extensor-iterator
    c.loop-extensor.entries.items c.loop-extensor.invariant c.in-None.ensures.steps.0
