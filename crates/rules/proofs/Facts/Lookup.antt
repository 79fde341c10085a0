-- Offsets that are tested, and the part that is handed back of a layer.
use Rattle.std.specs.Prelude.{ℕ, zero, suc, ◌+◌, ◌-◌, ◌≤◌, ◌<◌, Bool, true, false, ◌&&◌, List, [], ◌∷◌, ◌≡◌, refl, length, get_or, eqb, leb, ltb}
use Rattle.std.proofs.Common.{sym, ◌∙◌, arith}
use Rattle.std.specs.Bool.{MatchBool}
use Rattle.std.specs.List.Sorted.{IsNonDecreasing}
use borrow.Author.Tests.{eqb-true, ne_eqb, eq-eqb, le-leb, leb-true}
use Rattle.rules.specs.Analysis.{sound, layer_part, rising, orders}
use Rattle.rules.specs.Promises.{LayerAt, OffsetsSound}
use Rattle.rules.proofs.Facts.Tests.{both}
use Rattle.rules.specs.Lists.{seg}
use Rattle.rules.proofs.Facts.Layers.{layer_found, orders_in}
use Rattle.rules.proofs.Facts.Counts.{drop_more}
use borrow.Author.Tests.{lt-leb}
use Rattle.std.proofs.Common.{length-drop}
use Rattle.std.specs.Prelude.{drop}
use Rattle.std.proofs.Common.{ap}

-- a test of a list that never falls, one number more each time
module _ (l : List ℕ) (i : ℕ) (h : i + 1 < length l) where
  two_more : drop i l ≡ get_or l i 0 ∷ get_or l (i + 1) 0 ∷ drop (i + 1 + 1) l
  two_more = drop_more l i (omega arith) ∙ ap (λ (r : List ℕ). get_or l i 0 ∷ r) (drop_more l (i + 1) h)

  pub rising_more : get_or l i 0 ≤ get_or l (i + 1) 0 → rising (drop i l) ≡ rising (drop (i + 1) l)
  unfolding rising
  rising_more b = rw (two_more, drop_more l (i + 1) h, le-leb (get_or l i 0) (get_or l (i + 1) 0) b)

  pub rising-not : get_or l (i + 1) 0 < get_or l i 0 → rising (drop i l) ≡ false
  unfolding rising
  rising-not b = rw (two_more, lt-leb (get_or l i 0) (get_or l (i + 1) 0) b)

pub rising_end : (l : List ℕ) (i : ℕ) → length l ≤ i + 1 → rising (drop i l) ≡ true
unfolding rising
rising_end l i h = short (drop i l) (simp length-drop (omega arith))
  where
    short : (k : List ℕ) → length k ≤ 1 → rising k ≡ true
    short [] b = refl
    short (a ∷ []) b = refl
    short (a ∷ c ∷ k) b = absurd (omega arith)

-- a list that never falls is ordered at any two places
rising-at : (l : List ℕ) (i j : ℕ) → rising l ≡ true → i ≤ j → j < length l → get_or l i 0 ≤ get_or l j 0
unfolding rising
rising-at [] i j r h b = absurd (omega arith)
rising-at (a ∷ []) zero zero r h b = omega arith
rising-at (a ∷ []) (suc i) zero r h b = elim h [ ]
rising-at (a ∷ []) i (suc j) r h b = absurd (omega arith)
rising-at (a ∷ c ∷ l) zero zero r h b = omega arith
rising-at (a ∷ c ∷ l) (suc i) zero r h b = absurd (omega arith)
rising-at (a ∷ c ∷ l) zero (suc j) r h b = let p = both (leb a c) (rising (c ∷ l)) r in omega (arith, leb-true a c p.0, rising-at (c ∷ l) 0 j p.1 (omega arith) (omega arith))
rising-at (a ∷ c ∷ l) (suc i) (suc j) r h b = let p = both (leb a c) (rising (c ∷ l)) r in rising-at (c ∷ l) i j p.1 (omega arith) (omega arith)

-- and a list is if each number is at most the next
rising_all : (l : List ℕ) → IsNonDecreasing l → rising l ≡ true
unfolding rising
rising_all [] h = refl
rising_all (a ∷ []) h = refl
rising_all (a ∷ b ∷ l) h = rw (le-leb a b (h 0 1 0 (omega arith) (omega arith))) (rising_all (b ∷ l) (λ i j d p q. h (suc i) (suc j) d (omega arith) (omega arith)))

-- what the library's test of a sorted list tells
pub rising_sorted : (l : List ℕ) (r : Bool) → MatchBool r (IsNonDecreasing l) ((k : ℕ) × (k + 1 < length l) × ((d : ℕ) → get_or l (k + 1) d < get_or l k d)) → r ≡ rising l
rising_sorted l true h = sym (rising_all l h)
rising_sorted l false h = go (rising l) refl
  where
    go : (b : Bool) → rising l ≡ b → false ≡ b
    go false e = refl
    go true e = absurd (omega (arith, rising-at l h.0 (h.0 + 1) e (omega arith) h.1, h.2 0))

-- sound offsets give a part of the operations
pub record Sound (ops offsets : List ℕ) : Type 0 where
  pub long : length offsets ≡ length ops + 1
  pub first : get_or offsets 0 0 ≡ 0
  pub rises : rising offsets ≡ true
  pub last : get_or offsets (length ops) 0 ≡ length ops

pub sound_facts : (ops offsets : List ℕ) → sound ops offsets ≡ true → Sound ops offsets
unfolding sound
sound_facts ops offsets e =
    let l = eqb (length offsets) (length ops + 1) in
    let f = eqb (get_or offsets 0 0) 0 in
    let t = eqb (get_or offsets (length ops) 0) (length ops) in
    let p = both (l && f && rising offsets) t e in
    let q = both (l && f) (rising offsets) p.0 in
    let r = both l f q.0 in
    record { long = eqb-true _ _ r.0; first = eqb-true _ _ r.1; rises = q.1; last = eqb-true _ _ p.1 }

module _ {ops offsets : List ℕ} (s : Sound ops offsets) (i : ℕ) (h : i < length ops) where
  pub part-starts : get_or offsets i 0 ≤ get_or offsets (i + 1) 0
  part-starts = rising-at offsets i (i + 1) s.rises (omega arith) (omega (arith, s.long))

  pub part-ends : get_or offsets (i + 1) 0 ≤ length ops
  part-ends = omega (arith, rising-at offsets (i + 1) (length ops) s.rises (omega arith) (omega (arith, s.long)), s.last)

-- The promise of `layer_at`: the part is found, or empty.
pub layer_answered : (ops offsets : List ℕ) (i : ℕ) (r : List ℕ) → r ≡ layer_part ops offsets i → LayerAt ops offsets i r
layer_answered ops offsets i r e =
    record {
      answer = e;
      layer = λ d a p q. e ∙ rw (p, q) (layer_found (orders d) (orders_in a) i);
    }

pub layer_there : (ops offsets : List ℕ) (i : ℕ) → (sound ops offsets && ltb i (length ops)) ≡ true → LayerAt ops offsets i (seg (get_or offsets i 0) (get_or offsets (i + 1) 0 - get_or offsets i 0) ops)
unfolding layer_part
layer_there ops offsets i e = layer_answered ops offsets i _ (rw e)

pub layer_none : (ops offsets : List ℕ) (i : ℕ) → (sound ops offsets && ltb i (length ops)) ≡ false → LayerAt ops offsets i []
unfolding layer_part
layer_none ops offsets i e = layer_answered ops offsets i _ (rw e)

-- `offsets_sound`: the wrong number of offsets, or else the three other tests
pub sound-not : (ops offsets : List ℕ) → ¬ (length offsets ≡ length ops + 1) → OffsetsSound ops offsets false
unfolding sound
sound-not ops offsets n = record { answer = rw (ne_eqb (length offsets) (length ops + 1) n) }

pub sound_tested : (ops offsets : List ℕ) (r : Bool) → length offsets ≡ length ops + 1 → r ≡ rising offsets
    → OffsetsSound ops offsets (eqb (get_or offsets 0 0) 0 && r && eqb (get_or offsets (length ops) 0) (length ops))
unfolding sound
sound_tested ops offsets r e q = record { answer = rw (eq-eqb (length offsets) (length ops + 1) e, q) }
