-- The smallest and the largest, as std's `reduce` finds them.
use Rattle.std.specs.Prelude.{ℕ, min, max, List, [], ◌∷◌, ◌≡◌, refl, length, map}
use Rattle.std.specs.List.{fold, reduce, range_with_len}
use Rattle.std.specs.Option.{unwrap_or}
use Rattle.std.proofs.Common.{sym, ◌∙◌}
use Rattle.std.proofs.lemmas.List.FromFn.{fill_by_all}
use Rattle.rules.specs.Lists.{at}
use Rattle.rules.specs.Evaluation.{least, most}
use Rattle.rules.proofs.Facts.Operating.{least_more, most_more}

-- a list is read by its places
by_place : (l : List ℕ) → map (at l) (range_with_len 0 (length l)) ≡ l
by_place l = sym (fill_by_all (at l) l (length l) 0 refl (λ k h. refl))

least_fold : (a : ℕ) (l : List ℕ) → fold min a l ≡ least (a ∷ l)
least_fold a [] = refl
least_fold a (b ∷ l) = least_fold (min a b) l ∙ sym (least_more a b l)

most_fold : (a : ℕ) (l : List ℕ) → fold max a l ≡ most (a ∷ l)
most_fold a [] = refl
most_fold a (b ∷ l) = most_fold (max a b) l ∙ sym (most_more a b l)

least_reduced : (l : List ℕ) → unwrap_or (reduce min l) 0 ≡ least l
least_reduced [] = refl
least_reduced (a ∷ l) = least_fold a l

most_reduced : (l : List ℕ) → unwrap_or (reduce max l) 0 ≡ most l
most_reduced [] = refl
most_reduced (a ∷ l) = most_fold a l

pub least_by_place : (l : List ℕ) → unwrap_or (reduce min (map (at l) (range_with_len 0 (length l)))) 0 ≡ least l
least_by_place l = rw (by_place l) (least_reduced l)

pub most_by_place : (l : List ℕ) → unwrap_or (reduce max (map (at l) (range_with_len 0 (length l)))) 0 ≡ most l
most_by_place l = rw (by_place l) (most_reduced l)
