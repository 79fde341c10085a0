-- Laws of a text's words: one step of each rule at `drop i`, as a loop over the bytes goes; when a word is a number.
use Rattle.std.specs.Prelude.{ℕ, ◌+◌, ◌-◌, ◌*◌, ◌^◌, ◌≤◌, ◌<◌, Bool, true, false, cond, List, [], ◌∷◌, ◌≡◌, refl, get_or, take, drop, leb}
use Rattle.std.proofs.Common.{ap, add-one, drop_of_length-le, lit<}
use Rattle.std.proofs.Math.Nat.{pow-succ', pow-le-pow_right}
use native.Mathlib.Omega.{arith}
use Rattle.std.proofs.Math.ListN.{length}
use borrow.Author.Tests.{le-leb, lt-leb, leb-true}
use Rattle.rules.specs.Text.{separator, digit, blanks, word, all_digits, worth, is_number}
use Rattle.rules.proofs.Facts.Tests.{both}
use Rattle.rules.proofs.Facts.Counts.{drop_more}
use Rattle.std.specs.Prelude.{Ok, Err, Some, None}
use Rattle.rules.specs.Text.{number_at, word_as}
use Rattle.rules.specs.declared.Refusal.TheVariants.{BadText}
use borrow.Author.Tests.{eq-eqb, ne_eqb}

module _ (l : List ℕ) (i : ℕ) (h : i < length l) where
  pub blanks_more : separator (get_or l i 0) ≡ true → blanks (drop i l) ≡ 1 + blanks (drop (i + 1) l)
  unfolding blanks
  blanks_more s = rw (drop_more l i h, s)

  pub blanks_stop : separator (get_or l i 0) ≡ false → blanks (drop i l) ≡ 0
  unfolding blanks
  blanks_stop s = rw (drop_more l i h, s)

  pub word_more : separator (get_or l i 0) ≡ false → length (word (drop i l)) ≡ 1 + length (word (drop (i + 1) l))
  unfolding word
  word_more s = rw (drop_more l i h, s) (omega arith)

  pub word_stop : separator (get_or l i 0) ≡ true → length (word (drop i l)) ≡ 0
  unfolding word
  word_stop s = rw (drop_more l i h, s)

  pub digits_more : digit (get_or l i 0) ≡ true → all_digits (drop i l) ≡ all_digits (drop (i + 1) l)
  unfolding all_digits
  digits_more s = rw (drop_more l i h, s)

  pub digits_stop : digit (get_or l i 0) ≡ false → all_digits (drop i l) ≡ false
  unfolding all_digits
  digits_stop s = rw (drop_more l i h, s)

  pub worth_more : (n : ℕ) → worth n (drop i l) ≡ worth (10 * n + (get_or l i 0 - 48)) (drop (i + 1) l)
  unfolding worth
  worth_more n = rw (drop_more l i h)

-- and at the end
module _ (l : List ℕ) (i : ℕ) (h : length l ≤ i) where
  pub blanks_end : blanks (drop i l) ≡ 0
  unfolding blanks
  blanks_end = rw (drop_of_length-le l h)

  pub word_end : length (word (drop i l)) ≡ 0
  unfolding word
  word_end = rw (drop_of_length-le l h)

  pub digits_end : all_digits (drop i l) ≡ true
  unfolding all_digits
  digits_end = rw (drop_of_length-le l h)

  pub worth_end : (n : ℕ) → worth n (drop i l) ≡ n
  unfolding worth
  worth_end n = rw (drop_of_length-le l h)

-- a word is the front of its text
pub word_front : (l : List ℕ) → take (length (word l)) l ≡ word l
unfolding word
word_front [] = refl
word_front (b ∷ l) = go (separator b) (word_front l)
  where
    go : (s : Bool) → take (length (word l)) l ≡ word l → take (length (cond s [] (b ∷ word l))) (b ∷ l) ≡ cond s [] (b ∷ word l)
    go true e = refl
    go false e = ap (λ (r : List ℕ). b ∷ r) e

pub word_le : (l : List ℕ) → length (word l) ≤ length l
unfolding word
word_le [] = omega arith
word_le (b ∷ l) = go (separator b) (word_le l)
  where
    go : (s : Bool) → length (word l) ≤ length l → length (cond s [] (b ∷ word l)) ≤ length (b ∷ l)
    go true e = omega arith
    go false e = omega arith

-- When a word is a number.
pub digit_fits : (b : ℕ) → digit b ≡ true → (48 ≤ b) × (b ≤ 57)
digit_fits b e = let p = both (leb 48 b) (leb b 57) e in (leb-true 48 b p.0, leb-true b 57 p.1)

-- one digit more, and as many as a number may have
pub grows : (n d i : ℕ) → n < 10 ^ i → d < 10 → 10 * n + d < 10 ^ (i + 1)
grows n d i h k = rw (add-one, pow-succ') (omega arith)

pub ten_digits : (i : ℕ) → i ≤ 10 → 10 ^ i ≤ 10000000000
ten_digits i h = pow-le-pow_right {n = 10} (lit< tt) h

-- when a word is a number
module _ (w : List ℕ) (h : length w ≤ 10) where
  pub undigited : all_digits w ≡ false → is_number w ≡ false
  undigited d = rw (le-leb (length w) 10 h, d)

  pub over_word : all_digits w ≡ true → 4294967295 < worth 0 w → is_number w ≡ false
  over_word d b = rw (le-leb (length w) 10 h, d, lt-leb (worth 0 w) 4294967295 b)

  pub within_word : all_digits w ≡ true → worth 0 w ≤ 4294967295 → is_number w ≡ true
  within_word d b = rw (le-leb (length w) 10 h, d, le-leb (worth 0 w) 4294967295 b)

-- a word as a number, refused or read
module _ (w : List ℕ) (end : ℕ) where
  pub too_long : 10 < length w → Err BadText ≡ word_as w end
  too_long h = rw (lt-leb (length w) 10 h)

  module _ (h : length w ≤ 10) where
    pub no_digits : all_digits w ≡ false → Err BadText ≡ word_as w end
    no_digits d = rw (le-leb (length w) 10 h, d)

    pub too_large : all_digits w ≡ true → (n : ℕ) → worth 0 w ≡ n → 4294967295 < n → Err BadText ≡ word_as w end
    too_large d n e b = rw (le-leb (length w) 10 h, d, lt-leb (worth 0 w) 4294967295 (omega arith))

    pub fine_word : all_digits w ≡ true → (n : ℕ) → worth 0 w ≡ n → n ≤ 4294967295 → Ok (Some (n, end)) ≡ word_as w end
    fine_word d n e b = rw (le-leb (length w) 10 h, d, le-leb (worth 0 w) 4294967295 (omega arith), e)

-- The number at a place; s and e: where its word begins and ends.
module _ (t : List ℕ) (at s e : ℕ) (begins : s ≡ at + blanks (drop at t)) (ends : e ≡ s + length (word (drop s t))) where
  pub nothing_left : e ≡ s → Ok None ≡ number_at t at
  unfolding number_at
  nothing_left q = rw (← begins, eq-eqb (length (word (drop s t))) 0 (omega arith))

  pub word_is : (e ≡ s → ⊥) → word_as (take (e - s) (drop s t)) e ≡ number_at t at
  unfolding number_at
  word_is n =
      let len : e - s ≡ length (word (drop s t)) = omega arith in
      rw (len, word_front (drop s t), ← begins, ne_eqb (length (word (drop s t))) 0 (λ q. n (omega arith)), ← ends)
