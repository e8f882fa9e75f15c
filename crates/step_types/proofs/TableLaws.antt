-- The map of the objects, as the list of its entries.
use Rattle.std.proofs.Common.{◌≡◌, ℕ, List, [], ◌∷◌, ◌++◌, Some, None, true, false, cond, map, sym, ap, ◌∙◌, refl, nat_eq}
use Rattle.std.proofs.lemmas.List.{map_push}
use Rattle.std.specs.Global.{Vec}
use Rattle.std.specs.Prelude.{IfSome}
use Rattle.std.specs.Map.{lookup}
use Rattle.std.specs.Cmp.Lexicographic.{pointwise}
use Rattle.indexmap.specs.IndexMap.{IndexMap, insert_entry}
use Rattle.indexmap.proofs.CallerLemmas.{insert_entry-new}
use Rattle.step_types.specs.declared.measure.Measure.{Measure}
use Rattle.step_types.specs.Known.{found, IsWithin, AreWithin}
use Rattle.step_types.specs.Listed.{entry_of, listed}

-- looking a name up in the list is looking its bytes up in the map
pub found-listed : (name : List ℕ) (entries : List (Vec ℕ × Measure))
    → found name (map entry_of entries) ≡ lookup (λ key. pointwise nat_eq name key.items) entries
found-listed name [] = refl
found-listed name (entry ∷ entries) =
    ap (λ others. cond (pointwise nat_eq name entry.0.items) (Some entry.1) others) (found-listed name entries)

-- a new name goes last
pub listed-insert : {S : Type 0} (objects : IndexMap (Vec ℕ) Measure S) (key : Vec ℕ) (m : Measure)
    → found key.items (listed objects) ≡ None
    → map entry_of (insert_entry (λ a b. pointwise nat_eq a.items b.items) objects.entries key m)
    ≡ listed objects ++ (key.items, m) ∷ []
listed-insert objects key m none =
    ap (map entry_of) (insert_entry-new (λ a b. pointwise nat_eq a.items b.items) objects key m
    (sym (found-listed key.items objects.entries) ∙ none))
    ∙ map_push entry_of objects.entries (key, m)

-- the objects stay within the limits with one more that is
pub AreWithin-push : (made : List (List ℕ × Measure)) (entry : List ℕ × Measure) → AreWithin made → IsWithin entry.1
    → AreWithin (made ++ entry ∷ [])
AreWithin-push [] entry each here = (here, tt)
AreWithin-push (first ∷ made) entry each here = (each.0, AreWithin-push made entry each.1 here)

-- what is found among objects within the limits is within them
pub found-within : (name : List ℕ) (made : List (List ℕ × Measure)) → AreWithin made → IfSome (found name made) IsWithin
found-within name [] each = tt
found-within name (entry ∷ made) each =
    elim (pointwise nat_eq name entry.0) as (λ b. IfSome (cond b (Some entry.1) (found name made)) IsWithin) [
      | true ↦ each.0
      | false ↦ found-within name made each.1
    ]
