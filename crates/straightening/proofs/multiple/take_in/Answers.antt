use Rattle.std.proofs.Common.{◌≡◌, true, List, sym, subst}
use Rattle.bracket_poly.specs.Arena.{key_of}
use Rattle.bracket_poly.specs.Tracked.{has_met}
use Rattle.coordinate_model.specs.Key.{Key}
use Rattle.bracket_poly.proofs.ArenaOrder.{put_keeps, put_there}
use Rattle.straightening.proofs.multiple.take_in.Goals as goal

pub returns : goal.returns
returns g c =
    let key : Key = key_of c.args.params.now c.args.rows.now in
    record {
      kept =
          λ q h. subst (λ (ks : List Key). has_met ks q ≡ true) (sym c.in_ok-put.ensures.list)
          (put_keeps c.args.queue.now key q h);
      taken =
          λ n. subst (λ (ks : List Key). has_met ks key ≡ true) (sym c.in_ok-put.ensures.list)
          (put_there c.args.queue.now key);
    }
