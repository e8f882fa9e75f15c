use Rattle.std.proofs.Common.{◌≡◌, [], map, ap, sym, ◌∙◌, refl}
use Rattle.std.specs.List.{flat_map}
use Rattle.construction_reader.specs.Said.{row, sentences_of}
use Rattle.construction_reader.specs.Grammar.{params_of}
use Rattle.step_types.specs.Known.{nothing}
use Rattle.step_types.specs.Seen.{known}
use Rattle.step_types.specs.Checks.{free_in, objects_in}
use Rattle.step_types.proofs.GoodLaws.{params_at_end}
use Rattle.step_types.proofs.checks.check.Goals as goal

pub of-requires-3 : goal.of-requires-3
of-requires-3 c =
    let progress = c.in_ok-progress.progress in
    let rows = map row c.args.c.statements in
    let free : c.of.result ≡ flat_map free_in (sentences_of rows) =
    c.of.ensures ∙ c.in_ok-free.ensures
    ∙ ap (λ items. flat_map free_in (sentences_of (map row items))) c.items.ensures in
    let params : c.of-2.result ≡ params_of [] (sentences_of rows) =
    c.of-2.ensures ∙ params_at_end c.args.c.rank nothing (known progress) rows c.in_ok-progress.ensures in
    record {
      good = (known progress, c.in_ok-progress.ensures);
      named = rw (free, params) refl;
      objects = ap objects_in (sym c.in_ok-progress.ensures);
    }
