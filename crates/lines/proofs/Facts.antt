-- Laws of a line's length: by the place of the first LF; and where the line ends.
use Rattle.std.specs.Prelude.{ℕ, ◌+◌, ◌-◌, ◌≤◌, ◌<◌, Bool, true, false, cond, not, List, [], ◌∷◌, ◌≡◌, refl, length, take, drop, eqb, min, Some, None}
use Rattle.std.specs.List.{position, position_or_len}
use Rattle.std.proofs.Common.{arith, ltb, ltb-true, ltb-false, length-drop, take_all, drop_of_length-le}
use Rattle.lines.specs.Line.{line_length}
use Rattle.std.specs.Prelude.{get_or}
use Rattle.std.proofs.Common.{add-one}
use Rattle.std.proofs.Math.Seq.{drop-cons}
use borrow.Author.Tests.{eq-eqb, ne_eqb}

abbrev pub is_lf : ℕ → Bool
is_lf b = eqb b 10

-- one step at `drop i`
module _ (l : List ℕ) (i : ℕ) where
  pub line_stop : i < length l → get_or l i 0 ≡ 10 → line_length (drop i l) ≡ 1
  unfolding line_length
  line_stop h e = rw (drop-cons l i 0 h, eq-eqb (get_or l i 0) 10 e)

  pub line_more : i < length l → ¬ (get_or l i 0 ≡ 10) → line_length (drop i l) ≡ 1 + line_length (drop (i + 1) l)
  unfolding line_length
  line_more h n = rw (add-one, drop-cons l i 0 h, ne_eqb (get_or l i 0) 10 n)

  pub line-none : length l ≤ i → line_length (drop i l) ≡ 0
  unfolding line_length
  line-none h = rw (drop_of_length-le l h)

-- the LF is the line's last byte; without one, the line is all
line_is : (l : List ℕ) → line_length l ≡ min (position_or_len is_lf l + 1) (length l)
unfolding line_length
line_is [] = omega arith
line_is (b ∷ l) = go (eqb b 10) (line_is l)
  where
    p : ℕ
    p = position_or_len is_lf l

    go : (e : Bool) → line_length l ≡ min (p + 1) (length l) → cond e 1 (1 + line_length l) ≡ min (cond (not e) (1 + p) 0 + 1) (length (b ∷ l))
    go true e = omega arith
    go false e = omega arith

pub line_stops : (l : List ℕ) (n : ℕ) → position is_lf l ≡ Some n → line_length l ≡ n + 1
line_stops l n e = go (ltb (position_or_len is_lf l) (length l)) refl e
  where
    p : ℕ
    p = position_or_len is_lf l

    go : (b : Bool) → ltb p (length l) ≡ b → cond b (Some p) None ≡ Some n → line_length l ≡ n + 1
    go true t q = let s : p ≡ n = cc in omega (arith, line_is l, ltb-true _ _ t)
    go false t q = cc

pub line_whole : (l : List ℕ) → position is_lf l ≡ None → line_length l ≡ length l
line_whole l e = go (ltb (position_or_len is_lf l) (length l)) refl e
  where
    p : ℕ
    p = position_or_len is_lf l

    go : (b : Bool) → ltb p (length l) ≡ b → cond b (Some p) None ≡ None → line_length l ≡ length l
    go true t q = cc
    go false t q = omega (arith, line_is l, ltb-false _ _ t)

-- a list from a place on, or from its end
pub from_min : (l : List ℕ) (at m : ℕ) → m ≡ min at (length l) → take (length l - m) (drop m l) ≡ drop at l
from_min l at m e = grind (arith, take_all, length-drop, drop_of_length-le)

-- a line is not empty, and no longer than what it is the first line of
pub line-some : (l : List ℕ) → 0 < length l → 0 < line_length l
unfolding line_length
line-some [] h = h
line-some (b ∷ l) h = go (eqb b 10)
  where
    go : (e : Bool) → 0 < cond e 1 (1 + line_length l)
    go true = omega arith
    go false = omega arith

pub line_fits : (l : List ℕ) → line_length l ≤ length l
unfolding line_length
line_fits [] = omega arith
line_fits (b ∷ l) = go (eqb b 10) (line_fits l)
  where
    go : (e : Bool) → line_length l ≤ length l → cond e 1 (1 + line_length l) ≤ length (b ∷ l)
    go true f = omega arith
    go false f = omega arith

-- for who calls `line_end` within the input: it goes on, and stays within
pub line-within : (l : List ℕ) (at r : ℕ) → at < length l → r ≡ at + line_length (drop at l) → (at < r) × (r ≤ length l)
line-within l at r h e =
    let long = length-drop at l in
    let some = line-some (drop at l) (omega arith) in
    let fits = line_fits (drop at l) in
    (omega arith, omega arith)
