-- Tests of all members, one after the other.
use Rattle.std.proofs.lemmas.List.Folds.{list_all-map, list_all-append}

pub ruleset mapped = (list_all-map)

pub ruleset appended = (list_all-append)
