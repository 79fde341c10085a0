-- A number that is written is read again: what ties the two halves of the text together.
use Rattle.std.specs.Prelude.{ℕ, zero, suc, ◌+◌, ◌-◌, ◌*◌, ◌/◌, ◌%◌, ◌^◌, ◌<◌, Bool, true, false, cond, List, [], ◌∷◌, ◌++◌, ◌≡◌, refl, Ok, Some, length, ltb}
use Rattle.std.proofs.Common.{ap, ◌∙◌, mod-lt, div-add-mod', arith, length-append, lit<, ne_eqb, le-leb, lt-ltb, ltb-true}
use Rattle.rules.specs.Text.{separator, digit, blanks, word, all_digits, worth, number_at}
use Rattle.rules.specs.Program.{spelled, decimal}
use Rattle.rules.proofs.Facts.Tests.{both}
use Rattle.rules.proofs.Facts.TextWords.{digit_fits, within_word}
use Rattle.rules.proofs.Facts.Writing.{tenth, decimal-length}

no_separator : (b : ℕ) → digit b ≡ true → separator b ≡ false
no_separator b d =
    let f = digit_fits b d in
    rw (ne_eqb b 32 (λ e. omega (arith, f)), ne_eqb b 9 (λ e. omega (arith, f)), ne_eqb b 10 (λ e. omega (arith, f)), ne_eqb b 13 (λ e. omega (arith, f)))

-- digits before a separator are a word, with no separator before it
word_digits : (ds : List ℕ) (b : ℕ) (rest : List ℕ) → all_digits ds ≡ true → separator b ≡ true → word (ds ++ b ∷ rest) ≡ ds
unfolding word all_digits
word_digits [] b rest d s = rw s
word_digits (a ∷ ds) b rest d s =
    let p = both (digit a) (all_digits ds) d in
    rw (no_separator a p.0) (ap (λ (l : List ℕ). a ∷ l) (word_digits ds b rest p.1 s))

no_blanks : (ds rest : List ℕ) → 0 < length ds → all_digits ds ≡ true → blanks (ds ++ rest) ≡ 0
unfolding blanks all_digits
no_blanks [] rest h d = absurd (omega arith)
no_blanks (a ∷ ds) rest h d = rw (no_separator a (both (digit a) (all_digits ds) d).0)

digits_append : (xs ys : List ℕ) → all_digits xs ≡ true → all_digits ys ≡ true → all_digits (xs ++ ys) ≡ true
unfolding all_digits
digits_append [] ys x y = y
digits_append (a ∷ xs) ys x y = let p = both (digit a) (all_digits xs) x in rw p.0 (digits_append xs ys p.1 y)

worth-append : (xs ys : List ℕ) (m : ℕ) → worth m (xs ++ ys) ≡ worth (worth m xs) ys
unfolding worth
worth-append [] ys m = refl
worth-append (a ∷ xs) ys m = worth-append xs ys (10 * m + (a - 48))

one-digit : (d : ℕ) → d < 10 → all_digits ((48 + d) ∷ []) ≡ true
unfolding all_digits
one-digit d h = rw (le-leb 48 (48 + d) (omega arith), le-leb (48 + d) 57 (omega arith))

-- one digit or more, which stand for n
pub record Spelt (n : ℕ) (ds : List ℕ) : Type 0 where
  pub some : 0 < length ds
  pub digits : all_digits ds ≡ true
  pub is : worth 0 ds ≡ n

spelt_small : (n : ℕ) → n < 10 → Spelt n ((48 + n) ∷ [])
unfolding worth
spelt_small n h = record { some = omega arith; digits = one-digit n h; is = omega arith }

spelt_more : (n : ℕ) (ds : List ℕ) → Spelt (n / 10) ds → Spelt n (ds ++ ((48 + n % 10) ∷ []))
unfolding worth
spelt_more n ds s =
    let m = mod-lt n {m = 10} (lit< tt) in
    record {
      some = simp length-append (omega arith);
      digits = digits_append ds ((48 + n % 10) ∷ []) s.digits (one-digit (n % 10) m);
      is = worth-append ds ((48 + n % 10) ∷ []) 0 ∙ rw s.is (omega (arith, div-add-mod' n 10));
    }

spelt : (k n : ℕ) → n < 10 ^ suc k → Spelt n (spelled (suc k) n)
unfolding spelled
spelt zero n h = rw (lt-ltb n 10 (omega arith)) (spelt_small n (omega arith))
spelt (suc k) n h = go (ltb n 10) refl (spelt k (n / 10) (tenth k n h))
  where
    go : (b : Bool) → ltb n 10 ≡ b → Spelt (n / 10) (spelled (suc k) (n / 10)) → Spelt n (cond b ((48 + n) ∷ []) (spelled (suc k) (n / 10) ++ ((48 + n % 10) ∷ [])))
    go true e s = spelt_small n (ltb-true n 10 e)
    go false e s = spelt_more n (spelled (suc k) (n / 10)) s

pub decimal_spelt : (n : ℕ) → n < 2 ^ 32 → Spelt n (decimal n)
unfolding decimal
decimal_spelt n h = spelt 9 n (omega arith)

-- A NUMBER THAT IS WRITTEN, WITH A SEPARATOR BEHIND IT, IS READ AS THAT NUMBER
pub number_again : (n b : ℕ) (rest : List ℕ) → n < 2 ^ 32 → separator b ≡ true → number_at (decimal n ++ b ∷ rest) 0 ≡ Ok (Some (n, length (decimal n)))
unfolding number_at
number_again n b rest h s =
    let d = decimal_spelt n h in
    let z : 0 + length (decimal n) ≡ length (decimal n) = omega arith in
    rw (no_blanks (decimal n) (b ∷ rest) d.some d.digits, word_digits (decimal n) b rest d.digits s, ne_eqb (length (decimal n)) 0 (λ e. omega (arith, d.some)), z, within_word (decimal n) (decimal-length n) d.digits (omega (arith, d.is)), d.is)
