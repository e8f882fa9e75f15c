use Rattle.std.proofs.Common.{◌≡◌, ◌≤◌, ◌++◌, drop}
use Rattle.arrayvec.specs.ArrayVec.{array_vec_len}
use Rattle.split_tables.specs.Masks.{has_place}
use Rattle.split_tables.proofs.MaskLaws.{picked_from}
use Rattle.syzygies.proofs.points.picked.Given as goal

abbrev pub invariant-loop-place : goal.invariant-loop-place
invariant-loop-place l = record {
  few : array_vec_len l.picked ≤ l.place;
  points : l.picked.items ++ picked_from (has_place l.mask) l.place (drop l.place l.beta)
      ≡ picked_from (has_place l.mask) 0 l.beta;
}
