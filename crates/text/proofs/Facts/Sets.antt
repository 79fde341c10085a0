-- Stores one behind the other: `sets l i xs` is l with xs stored from place i on.
use Rattle.std.specs.Prelude.{ℕ, zero, suc, ◌+◌, ◌-◌, ◌≤◌, List, [], ◌∷◌, ◌++◌, ◌≡◌, refl, length, take, drop, set}
use Rattle.std.proofs.Common.{append-nil, sym, ap, ◌∙◌, arith, length-drop, drop_of_length-le, take_all}
use Rattle.std.proofs.lemmas.List.{take-append-drop, drop-set-lt}
use Rattle.std.proofs.lemmas.List.Edits.{sets, sets-eq}
use Rattle.std.proofs.Math.Seq.{take-set-lt}

pub sets_append : (xs ys l : List ℕ) (i : ℕ) → sets l i (xs ++ ys) ≡ sets (sets l i xs) (i + length xs) ys
sets_append [] ys l i = let z : i + 0 ≡ i = omega arith in rw z
sets_append (a ∷ xs) ys l i =
    let z : i + suc (length xs) ≡ suc i + length xs = omega arith in
    rw z (sets_append xs ys (set l i a) (suc i))

sets_cons : (b : ℕ) (l vs : List ℕ) (i : ℕ) → sets (b ∷ l) (suc i) vs ≡ b ∷ sets l i vs
sets_cons b l [] i = refl
sets_cons b l (v ∷ vs) i = sets_cons b (set l i v) vs (suc i)

-- what is stored in a part that begins at i is stored from i on
part_sets : (i : ℕ) (l vs : List ℕ) → i ≤ length l → take i l ++ sets (drop i l) 0 vs ≡ sets l i vs
part_sets zero l vs h = refl
part_sets (suc i) [] vs h = absurd (omega arith)
part_sets (suc i) (b ∷ l) vs h = ap (λ (r : List ℕ). b ∷ r) (part_sets i l vs (omega arith)) ∙ sym (sets_cons b l vs i)

-- the same, of `&mut l[i..]` as it comes back from a call
pub part-back : (i : ℕ) (l last vs : List ℕ) → i ≤ length l → last ≡ sets (take (length l - i) (drop i l)) 0 vs → take i l ++ (last ++ drop (length l - i) (drop i l)) ≡ sets l i vs
part-back i l last vs h e =
    let short : length (drop i l) ≤ length l - i = simp length-drop (omega arith) in
    rw (e, take_all (length l - i) (drop i l) short, drop_of_length-le (drop i l) short, append-nil) (part_sets i l vs h)

-- a list stored over another of its length
pub sets_all : (l vs : List ℕ) → length vs ≡ length l → sets l 0 vs ≡ vs
sets_all l vs e = sets-eq vs l 0 (omega arith) ∙ rw (drop_of_length-le l {i = 0 + length vs} (omega arith)) (append-nil vs)

-- what is stored in a front of n is stored in the whole
pub front_sets : (n i : ℕ) (l vs : List ℕ) → i + length vs ≤ n → sets (take n l) i vs ++ drop n l ≡ sets l i vs
front_sets n i l [] h = take-append-drop n l
front_sets n i l (v ∷ vs) h =
    rw (← take-set-lt n l i v (omega arith), ← drop-set-lt n l i v (omega arith))
    (front_sets n (suc i) (set l i v) vs (omega arith))
