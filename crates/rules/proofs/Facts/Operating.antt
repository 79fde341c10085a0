-- The operation table: what each label stands for, and what its loops compute.
use Rattle.std.specs.Prelude.{ℕ, zero, suc, ◌+◌, ◌-◌, ◌≤◌, ◌<◌, min, max, Bool, true, ◌&&◌, List, [], ◌∷◌, ◌≡◌, refl, length, get_or, drop, replicate, eqb, leb}
use Rattle.std.proofs.Common.{zero-le, arith, ap, eqb-true, eq-eqb, ne_eqb, leb-true, le-leb}
use Rattle.std.proofs.Math.Decide.{ℕ_discrete}
use Rattle.std.proofs.lemmas.List.{length-replicate}
use Rattle.std.proofs.Math.ListN.{get_or-eq_default}
use Rattle.std.proofs.lemmas.Bool.{lt-leb}
use Rattle.rules.specs.Lists.{at}
use Rattle.rules.specs.Evaluation.{Operation, copy, add, difference, smallest, largest, middle, choose, first_smallest, operation, place_of, most, unknown, least, constant, suits, singles, shift, outcome}
use Rattle.rules.proofs.Facts.Tests.{both, not_both}
use Rattle.rules.proofs.Facts.Counts.{drop_more}
use Rattle.rules.specs.Inner.Operating.{Suited}

-- the ranges, and the gaps between them
pub operation_shift : (label : ℕ) → 16 ≤ label → label < 32 → operation label ≡ shift (label - 16)
unfolding operation
operation_shift label h k = rw (le-leb 16 label h, le-leb label 31 (omega arith))

pub operation_constant : (label : ℕ) → 256 ≤ label → label < 512 → operation label ≡ constant (label - 256)
unfolding operation
operation_constant label h k = rw (le-leb 16 label (omega arith), lt-leb label 31 (omega arith), le-leb 256 label h, le-leb label 511 (omega arith))

pub shift_small : (label k : ℕ) → label < 32 → label - k < 32
shift_small label k h = omega arith

beyond : (label : ℕ) → 8 ≤ label → get_or singles label unknown ≡ unknown
beyond label h = get_or-eq_default singles unknown {n = label} h

next_up : (k label : ℕ) → k ≤ label → ¬ (label ≡ k) → suc k ≤ label
next_up k label h n = omega arith

-- none of the single codes
pub no_single : (label : ℕ) → ¬ (label ≡ 0) → ¬ (label ≡ 1) → ¬ (label ≡ 2) → ¬ (label ≡ 3) → ¬ (label ≡ 4) → ¬ (label ≡ 5) → ¬ (label ≡ 6) → ¬ (label ≡ 7) → 8 ≤ label
no_single label a b c d e f g h = next_up 7 label (next_up 6 label (next_up 5 label (next_up 4 label (next_up 3 label (next_up 2 label (next_up 1 label (next_up 0 label zero-le a) b) c) d) e) f) g) h

pub unknown_low : (label : ℕ) → 8 ≤ label → label < 16 → operation label ≡ unknown
unfolding operation
unknown_low label h k = rw (lt-leb 16 label k, lt-leb 256 label (omega arith)) (beyond label h)

pub unknown_middle : (label : ℕ) → 32 ≤ label → label < 256 → operation label ≡ unknown
unfolding operation
unknown_middle label h k = rw (le-leb 16 label (omega arith), lt-leb label 31 (omega arith), lt-leb 256 label k) (beyond label (omega arith))

pub unknown_high : (label : ℕ) → 512 ≤ label → operation label ≡ unknown
unfolding operation
unknown_high label h = rw (le-leb 16 label (omega arith), lt-leb label 31 (omega arith), le-leb 256 label (omega arith), lt-leb label 511 (omega arith)) (beyond label (omega arith))

-- the smallest and the largest, where the first two are put together
pub least_more : (a b : ℕ) (l : List ℕ) → least (a ∷ b ∷ l) ≡ least (min a b ∷ l)
least_more a b [] = refl
least_more a b (c ∷ l) = omega arith

pub most_more : (a b : ℕ) (l : List ℕ) → most (a ∷ b ∷ l) ≡ most (max a b ∷ l)
most_more a b [] = refl
most_more a b (c ∷ l) = omega arith

-- one turn of a loop that keeps the smallest, the largest so far; and its end
module _ (l : List ℕ) (i : ℕ) where
  pub least_next : (a : ℕ) → i < length l → least (a ∷ drop i l) ≡ least (min a (get_or l i 0) ∷ drop (i + 1) l)
  least_next a h = rw (drop_more l i h) (least_more a (get_or l i 0) (drop (i + 1) l))

  pub most_next : (a : ℕ) → i < length l → most (a ∷ drop i l) ≡ most (max a (get_or l i 0) ∷ drop (i + 1) l)
  most_next a h = rw (drop_more l i h) (most_more a (get_or l i 0) (drop (i + 1) l))

-- a list begins with its entry 0
pub from_first : (l : List ℕ) → 1 ≤ length l → l ≡ get_or l 0 0 ∷ drop 1 l
from_first [] h = absurd (omega arith)
from_first (a ∷ l) h = refl

-- the smallest is below all, and stands somewhere
least_le : (l : List ℕ) (k : ℕ) → k < length l → least l ≤ get_or l k 0
least_le [] k h = absurd (omega arith)
least_le (a ∷ []) zero h = omega arith
least_le (a ∷ []) (suc k) h = absurd (omega arith)
least_le (a ∷ b ∷ l) zero h = omega arith
least_le (a ∷ b ∷ l) (suc k) h = omega (arith, least_le (b ∷ l) k (omega arith))

-- a number that is below all is below the smallest
least_ge : (a : ℕ) (l : List ℕ) → 0 < length l → ((k : ℕ) → k < length l → a ≤ get_or l k 0) → a ≤ least l
least_ge a [] h f = absurd (omega arith)
least_ge a (b ∷ []) h f = f 0 (omega arith)
least_ge a (b ∷ c ∷ l) h f = omega (arith, f 0 (omega arith), least_ge a (c ∷ l) (omega arith) (λ k q. f (suc k) (omega arith)))

least_is : (l : List ℕ) (b : ℕ) → b < length l → ((k : ℕ) → k < length l → get_or l b 0 ≤ get_or l k 0) → least l ≡ get_or l b 0
least_is l b h f = omega (arith, least_le l b h, least_ge (get_or l b 0) l (omega arith) f)

-- the place of an entry that stands nowhere before
pub place_of-first : (l : List ℕ) (b : ℕ) → b < length l → ((k : ℕ) → k < b → ¬ (get_or l k 0 ≡ get_or l b 0)) → place_of (get_or l b 0) l ≡ b
unfolding place_of
place_of-first [] b h f = absurd (omega arith)
place_of-first (a ∷ l) zero h f = rw (eq-eqb a a refl)
place_of-first (a ∷ l) (suc b) h f = rw (ne_eqb a (get_or l b 0) (f 0 (omega arith))) (ap suc (place_of-first l b (omega arith) (λ k q. f (suc k) (omega arith))))

-- b is the place of the first smallest of the first i entries: smaller than all before it, and not larger than any
pub record Firsts (l : List ℕ) (b i : ℕ) : Type 0 where
  pub inside : b < i
  pub before : (k : ℕ) → k < b → get_or l b 0 < get_or l k 0
  pub all : (k : ℕ) → k < i → get_or l b 0 ≤ get_or l k 0

pub firsts_begin : (l : List ℕ) → Firsts l 0 1
firsts_begin l = record { inside = omega arith; before = λ k h. absurd (omega arith); all = λ k h. let e : k ≡ 0 = omega arith in rw e (omega arith) }

-- the next entry is smaller, and it is not
module _ (l : List ℕ) (b i b' : ℕ) (p : Firsts l b i) where
  pub firsts_found : get_or l i 0 < get_or l b 0 → b' ≡ i → Firsts l b' (i + 1)
  firsts_found h e = rw e (record { inside = omega arith; before = λ k q. omega (arith, p.all k q); all = λ k q. go k q (ℕ_discrete k i) })
    where
      go : (k : ℕ) → k < i + 1 → Dec (k ≡ i) → get_or l i 0 ≤ get_or l k 0
      go k q (yes e) = rw e (omega arith)
      go k q (no n) = omega (arith, p.all k (omega arith))

  pub firsts_kept : get_or l b 0 ≤ get_or l i 0 → b' ≡ b → Firsts l b' (i + 1)
  firsts_kept h e = rw e (record { inside = omega (arith, p.inside); before = p.before; all = λ k q. go k q (ℕ_discrete k i) })
    where
      go : (k : ℕ) → k < i + 1 → Dec (k ≡ i) → get_or l b 0 ≤ get_or l k 0
      go k q (yes e) = rw e h
      go k q (no n) = p.all k (omega arith)

pub firsts_end : (l : List ℕ) (b : ℕ) → Firsts l b (length l) → place_of (least l) l ≡ b
firsts_end l b p = rw (least_is l b p.inside p.all) (place_of-first l b p.inside (λ k q e. omega (arith, p.before k q)))

-- one output, as the second half of a test says
one_of : (a : Bool) (outs : ℕ) → a && eqb outs 1 ≡ true → outs ≡ 1
one_of a outs e = eqb-true outs 1 (both a (eqb outs 1) e).1

some_in : (k ins : ℕ) (b : Bool) → eqb ins k && b ≡ true → k ≤ ins
some_in k ins b e = omega (arith, eqb-true ins k (both (eqb ins k) b e).0)

-- every output of an operation is the same number
pub same_outputs : (o : Operation) (ins : List ℕ) (outs : ℕ) → suits o (length ins) outs ≡ true → outcome o ins outs ≡ replicate outs (at (outcome o ins 1) 0)
same_outputs copy ins outs e = refl
same_outputs add ins outs e = rw (one_of (eqb (length ins) 2) outs e)
same_outputs difference ins outs e = rw (one_of (eqb (length ins) 2) outs e)
same_outputs smallest ins outs e = rw (one_of (leb 1 (length ins)) outs e)
same_outputs largest ins outs e = rw (one_of (leb 1 (length ins)) outs e)
same_outputs middle ins outs e = rw (one_of (eqb (length ins) 2) outs e)
same_outputs choose ins outs e = rw (one_of (eqb (length ins) 3) outs e)
same_outputs first_smallest ins outs e = rw (one_of (leb 1 (length ins)) outs e)
same_outputs (shift k) ins outs e = rw (one_of (eqb (length ins) 1) outs e)
same_outputs (constant k) ins outs e = rw (one_of (eqb (length ins) 0) outs e)
same_outputs unknown ins outs e = not_both e

-- so there are as many as there should be
pub outputs_length : (o : Operation) (ins : List ℕ) (outs : ℕ) → suits o (length ins) outs ≡ true → length (outcome o ins outs) ≡ outs
outputs_length o ins outs e = rw (same_outputs o ins outs e) (length-replicate outs (at (outcome o ins 1) 0))

-- the fewest inputs of an operation
abbrev pub fewest : Operation → ℕ
fewest copy = 1
fewest add = 2
fewest difference = 2
fewest smallest = 1
fewest largest = 1
fewest middle = 2
fewest choose = 3
fewest first_smallest = 1
fewest (shift k) = 1
fewest (constant k) = 0
fewest unknown = 0

pub enough_inputs : (o : Operation) (ins : ℕ) → Suited o ins → fewest o ≤ ins
enough_inputs copy ins s = some_in 1 ins (leb 1 s.0) s.1
enough_inputs add ins s = some_in 2 ins (eqb s.0 1) s.1
enough_inputs difference ins s = some_in 2 ins (eqb s.0 1) s.1
enough_inputs smallest ins s = leb-true 1 ins (both (leb 1 ins) (eqb s.0 1) s.1).0
enough_inputs largest ins s = leb-true 1 ins (both (leb 1 ins) (eqb s.0 1) s.1).0
enough_inputs middle ins s = some_in 2 ins (eqb s.0 1) s.1
enough_inputs choose ins s = some_in 3 ins (eqb s.0 1) s.1
enough_inputs first_smallest ins s = leb-true 1 ins (both (leb 1 ins) (eqb s.0 1) s.1).0
enough_inputs (shift k) ins s = some_in 1 ins (eqb s.0 1) s.1
enough_inputs (constant k) ins s = omega arith
enough_inputs unknown ins s = omega arith
