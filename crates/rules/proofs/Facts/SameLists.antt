-- Equal lists as a loop finds them, entry by entry; and a test of every number below k.
use Rattle.std.specs.Prelude.{ℕ, ◌+◌, ◌≤◌, ◌<◌, Bool, true, false, ◌&&◌, List, [], ◌∷◌, map, ◌≡◌, refl, length, get_or, drop, eqb}
use Rattle.std.proofs.Common.{arith, sym, ◌∙◌, drop_of_length-le}
use Rattle.std.proofs.lemmas.List.{length-map}
use borrow.Author.Tests.{eq-eqb, ne_eqb}
use Rattle.rules.specs.Lists.{all, same_list, at, range}
use Rattle.rules.proofs.Facts.Member.{map_at, ∈-range, range-∈}
use Rattle.rules.proofs.Facts.Stores.{eqb_iff}
use Rattle.rules.proofs.Facts.Counts.{drop_more}
use Rattle.rules.proofs.Facts.Tests.{∈-all, all-∈}

module _ (a b : List ℕ) (i : ℕ) (h : i < length a) (g : i < length b) where
  pub same_list_more : get_or a i 0 ≡ get_or b i 0 → same_list (drop i a) (drop i b) ≡ same_list (drop (i + 1) a) (drop (i + 1) b)
  unfolding same_list
  same_list_more e = rw (drop_more a i h, drop_more b i g, eq-eqb (get_or a i 0) (get_or b i 0) e)

  pub same_list-not : ¬ (get_or a i 0 ≡ get_or b i 0) → same_list (drop i a) (drop i b) ≡ false
  unfolding same_list
  same_list-not n = rw (drop_more a i h, drop_more b i g, ne_eqb (get_or a i 0) (get_or b i 0) n)

pub same_list_end : (a b : List ℕ) (i : ℕ) → length a ≤ i → length b ≤ i → same_list (drop i a) (drop i b) ≡ true
unfolding same_list
same_list_end a b i h g = rw (drop_of_length-le a h, drop_of_length-le b g)

-- other counts
pub same_list_apart : (a b : List ℕ) → ¬ (length a ≡ length b) → same_list a b ≡ false
unfolding same_list
same_list_apart [] [] n = absurd (n refl)
same_list_apart [] (y ∷ b) n = refl
same_list_apart (x ∷ a) [] n = refl
same_list_apart (x ∷ a) (y ∷ b) n = go (eqb x y) (same_list_apart a b (λ e. n (omega arith)))
  where
    go : (p : Bool) {q : Bool} → q ≡ false → p && q ≡ false
    go true e = e
    go false e = refl

pub same_list_sym : (a b : List ℕ) → same_list a b ≡ same_list b a
unfolding same_list
same_list_sym [] [] = refl
same_list_sym [] (y ∷ b) = refl
same_list_sym (x ∷ a) [] = refl
same_list_sym (x ∷ a) (y ∷ b) = rw (eqb_iff x y y x sym sym, same_list_sym a b)

-- a list against another that is taken through a table
module _ (table l k : List ℕ) where
  abbrev taken : List ℕ
  taken = map (at table) l

  abbrev pub through_from : ℕ → Bool
  through_from i = same_list (drop i k) (drop i taken)

  pub through_apart : ¬ (length l ≡ length k) → same_list k taken ≡ false
  through_apart n = same_list_apart k taken (λ e. n (omega (arith, length-map l (at table))))

  pub through_end : (i : ℕ) → length l ≡ length k → length k ≤ i → through_from i ≡ true
  through_end i e h = same_list_end k taken i h (omega (arith, length-map l (at table)))

  module _ (i : ℕ) (h : i < length l) (g : i < length k) where
    pub through_more : at table (at l i) ≡ at k i → through_from i ≡ through_from (i + 1)
    through_more e = same_list_more k taken i g (omega (arith, length-map l (at table))) (sym e ∙ sym (map_at (at table) l i h))

    pub through_not : ¬ (at table (at l i) ≡ at k i) → through_from i ≡ false
    through_not n = same_list-not k taken i g (omega (arith, length-map l (at table))) (λ e. n (sym (map_at (at table) l i h) ∙ sym e))

-- every number below k
pub all-below : (p : ℕ → Bool) (k : ℕ) → ((i : ℕ) → i < k → p i ≡ true) → all p (range k) ≡ true
all-below p k h = ∈-all p (range k) (λ i m. h i (∈-range k i m))

pub not-all : (p : ℕ → Bool) (k i : ℕ) → i < k → p i ≡ false → all p (range k) ≡ false
not-all p k i h e = go (all p (range k)) refl
  where
    go : (b : Bool) → all p (range k) ≡ b → b ≡ false
    go true q = sym (all-∈ p q (range-∈ k i h)) ∙ e
    go false q = refl
