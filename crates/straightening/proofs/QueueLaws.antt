-- Queues with one key more or less.
use Rattle.std.specs.Prelude.{◌≡◌, ◌↔◌, ℕ, ◌+◌, ◌-◌, ◌<◌, Bool, true, cond, List, [], ◌∷◌, ◌++◌, All, length, slice_get}
use Rattle.std.specs.Prelude.{Option, Some, None, IsSome, IfSome, unwrap_or}
use Rattle.std.specs.List.{AllByRecursion}
use Rattle.std.specs.Cmp.{eq_by_cmp_equiv, Equal-is}
use Rattle.std.specs.Ordering.{eq_by_cmp, is_eq, ordering_reverse}
use Rattle.std.specs.declared.cmp.Ordering.TheVariants.{Less}
use Rattle.std.specs.List.Sorted.{IsStrictlySortedBy}
use Rattle.std.specs.BTreeSet.{insert_key}
use Rattle.std.specs.Set.{remove_key}
use Rattle.std.proofs.Common.{refl, sym, ap, subst, ◌∙◌, arith}
use Rattle.std.proofs.lemmas.Map.Views.{All-insert_key, All-remove_key}
use lib.ListN.{length-append}
use Rattle.coordinate_model.specs.Key.{Key, key_cmp}
use Rattle.coordinate_model.proofs.KeyProducts.{key_same, key_total}
use Rattle.coordinate_model.proofs.Splits.{all_items}
use Rattle.straightening.specs.Queues.{AreQueued, IsLast, IsNonstandard, without_key}

pub queued_put : (d : ℕ) (old new : List Key) (k l : Key) → l ≡ k → AreQueued d old → IsNonstandard d k
    → IsStrictlySortedBy key_cmp new → new ≡ insert_key key_cmp old l → AreQueued d new
queued_put d old new k l same h n up e = record {
  ascending = up;
  nonstandard = subst (λ (ks : List Key). All (IsNonstandard d) ks) (sym (e ∙ ap (insert_key key_cmp old) same))
      (All-insert_key key_cmp k (IsNonstandard d) old h.nonstandard n);
}

pub queued_without : (d : ℕ) (old new : List Key) (test : Key → Bool) → AreQueued d old → IsStrictlySortedBy key_cmp new
    → new ≡ remove_key test old → AreQueued d new
queued_without d old new test h up e = record {
  ascending = up;
  nonstandard = subst (λ (ks : List Key). All (IsNonstandard d) ks) (sym e) (All-remove_key test (IsNonstandard d) old h.nonstandard);
}

-- ---- the last key

-- keys that compare as equal are the same
pub same_keys : (k l : Key) → eq_by_cmp key_cmp k l ≡ true → k ≡ l
same_keys k l e = key_same k l ((Equal-is (key_cmp k l)).0 e)

at_seam : (keys : List Key) (k : Key) → slice_get (keys ++ k ∷ []) (length keys) ≡ Some k
at_seam [] k = refl
at_seam (x ∷ xs) k = at_seam xs k

-- the key behind the others is the last
last_is : (keys : List Key) (k l : Key) → IsLast (keys ++ k ∷ []) l → k ≡ l
last_is keys k l e =
    let a : length (keys ++ k ∷ []) ≡ length keys + 1 = length-append keys (k ∷ []) in
    let b : length (keys ++ k ∷ []) - 1 ≡ length keys = omega arith in
    ap (λ o. unwrap_or o k) (sym (at_seam keys k) ∙ ap (slice_get (keys ++ k ∷ [])) (sym b) ∙ e)

-- and without it they are left
without_last : (keys : List Key) (k : Key) → AllByRecursion (λ q. key_cmp q k ≡ Less) keys
    → without_key (keys ++ k ∷ []) k ≡ keys
without_last [] k h = ap (λ b. cond b [] (k ∷ [])) ((eq_by_cmp_equiv key_total).refl k)
without_last (x ∷ xs) k h =
    ap (λ b. cond b (xs ++ k ∷ []) (x ∷ without_key (xs ++ k ∷ []) k))
    (ap is_eq (key_total.antisymm k x ∙ ap ordering_reverse h.0))
    ∙ ap (λ ks. x ∷ ks) (without_last xs k h.1)

pub last_out : (old new : List Key) (l : Key) (out : Option Key) → IsLast old l → (IsSome out ↔ (0 < length old))
    → IfSome out (λ k. old ≡ new ++ k ∷ []) → IfSome out (λ k. All (λ q. key_cmp q k ≡ Less) new)
    → new ≡ without_key old l
last_out [] new l None last some split below = cc
last_out (x ∷ xs) new l None last some split below = let e : IsSome {T = Key} None = some.1 (omega arith) in cc
last_out old new l (Some k) last some split below =
    let same : k ≡ l = last_is new k l (subst (λ (ks : List Key). IsLast ks l) split last) in
    sym
    (ap (λ ks. without_key ks l) split ∙ ap (λ (q : Key). without_key (new ++ k ∷ []) q) (sym same)
    ∙ without_last new k (all_items (λ q. key_cmp q k ≡ Less) new below))
