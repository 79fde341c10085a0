-- Words and what stands before them, as the reader finds them: by the first byte of a kind.
use Rattle.std.specs.Prelude.{ℕ, ◌+◌, ◌-◌, ◌≤◌, ◌<◌, Bool, true, false, cond, not, List, [], ◌∷◌, ◌≡◌, refl, Option, Result, Ok, Err, OkIff, Some, None, length, take, drop, min}
use Rattle.std.specs.List.{position, position_or_len}
use Rattle.std.specs.Option.{unwrap_or}
use Rattle.std.proofs.lemmas.List.Sums.{prefix_len-le-length}
use Rattle.std.proofs.Common.{◌∙◌, arith, length-drop, take_all, drop_of_length-le, drop-drop, eq-eqb, ne_eqb, ltb, ltb-false}
use Rattle.std.proofs.lemmas.List.Recursion.{is_position_or_len}
use Rattle.std.specs.Result.{result_or}
use Rattle.rules.specs.Text.{separator, blanks, word, all_digits, worth, is_number, Number, word_as, number_at}
use Rattle.rules.specs.declared.Refusal.{Refusal}
use Rattle.rules.specs.declared.Refusal.TheVariants.{BadText}
use Rattle.rules.proofs.Facts.TextWords.{within_word, over_word, word_front}
use Rattle.text.specs.Reading.{value_of}

pub blanks_place : (l : List ℕ) → blanks l ≡ position_or_len (λ b. not (separator b)) l
unfolding blanks
blanks_place l = is_position_or_len blanks (λ b. not (separator b)) refl more l
  where
    more : (b : ℕ) (r : List ℕ) → blanks (b ∷ r) ≡ cond (not (separator b)) 0 (1 + blanks r)
    more b r = go (separator b)
      where
        go : (s : Bool) → cond s (1 + blanks r) 0 ≡ cond (not s) 0 (1 + blanks r)
        go true = refl
        go false = refl

pub word_place : (l : List ℕ) → length (word l) ≡ position_or_len separator l
unfolding word
word_place l = is_position_or_len (λ r. length (word r)) separator refl more l
  where
    more : (b : ℕ) (r : List ℕ) → length (word (b ∷ r)) ≡ cond (separator b) 0 (1 + length (word r))
    more b r = go (separator b)
      where
        go : (s : Bool) → length (cond s [] (b ∷ word r)) ≡ cond s 0 (1 + length (word r))
        go true = refl
        go false = omega arith

-- the place that `position` found, or the end
pub place_or_end : (p : ℕ → Bool) (l : List ℕ) (o : Option ℕ) → o ≡ position p l → unwrap_or o (length l) ≡ position_or_len p l
place_or_end p l o e = rw e (go (ltb (position_or_len p l) (length l)) refl)
  where
    go : (b : Bool) → ltb (position_or_len p l) (length l) ≡ b → unwrap_or (cond b (Some (position_or_len p l)) None) (length l) ≡ position_or_len p l
    go true t = refl
    go false t = omega (arith, prefix_len-le-length (λ x. not (p x)) l, ltb-false _ _ t)

-- a word of one to ten digits, as a number that fits 32 bits or not
pub value_is : {E : Type 0} (w : List ℕ) (n : ℕ) (r : Result ℕ E) → length w ≤ 10 → all_digits w ≡ true → worth 0 w ≡ n → OkIff r (n < 4294967296) n → result_or r (Err BadText) ≡ value_of w
value_is w n (Ok m) h d e f = rw (within_word w h d (omega (arith, f.0)), f.1, e)
value_is w n (Err x) h d e f = rw (over_word w h d (omega (arith, e, f)))

-- a list from a place on, or from its end
pub from_min : (l : List ℕ) (at m : ℕ) → m ≡ min at (length l) → take (length l - m) (drop m l) ≡ drop at l
from_min l at m e = grind (arith, take_all, length-drop, drop_of_length-le)

from_in : (l : List ℕ) (i : ℕ) → take (length l - i) (drop i l) ≡ drop i l
from_in l i = take_all (length l - i) (drop i l) (simp length-drop (omega arith))

pub blanks_le : (l : List ℕ) → blanks l ≤ length l
blanks_le l = omega (arith, blanks_place l, prefix_len-le-length (λ b. not (not (separator b))) l)

-- a word that is a number, or is none
pub word_fine : (w : List ℕ) (n e : ℕ) → value_of w ≡ Ok n → word_as w e ≡ Ok (Some (n, e))
word_fine w n e q = go (is_number w) q
  where
    go : (b : Bool) → cond b (Ok (worth 0 w)) (Err BadText) ≡ Ok n → cond {A = Number} b (Ok (Some (worth 0 w, e))) (Err BadText) ≡ Ok (Some (n, e))
    go true h = let z : worth 0 w ≡ n = cc in rw z
    go false h = cc

pub word_bad : (w : List ℕ) (why : Refusal) (e : ℕ) → value_of w ≡ Err why → word_as w e ≡ Err why
word_bad w why e q = go (is_number w) q
  where
    go : (b : Bool) → cond b (Ok (worth 0 w)) (Err BadText) ≡ Err why → cond {A = Number} b (Ok (Some (worth 0 w, e))) (Err BadText) ≡ Err why
    go true h = cc
    go false h = cc

-- The number at a place: the text from there on, what stands behind its separators, and the word that is first there.
module _ (t : List ℕ) (at m start len : ℕ) where
  abbrev pub rest : List ℕ
  rest = take (length t - m) (drop m t)

  abbrev pub behind : List ℕ
  behind = take (length rest - start) (drop start rest)

  module _ (first : m ≡ min at (length t)) (begins : start ≡ blanks rest) (long : len ≡ length (word behind)) where
    begin : start ≡ blanks (drop at t)
    begin = rw (from_min t at m first) at begins

    behind_is : behind ≡ drop (at + start) t
    behind_is = from_in rest start ∙ rw (from_min t at m first) (drop-drop start at t)

    pub none_here : len ≡ 0 → number_at t at ≡ Ok None
    unfolding number_at
    none_here q = rw (← begin, ← behind_is, eq-eqb (length (word behind)) 0 (omega arith))

    pub word_here : ¬ (len ≡ 0) → number_at t at ≡ word_as (take len behind) (at + start + len)
    unfolding number_at
    word_here n = rw (← begin, ← behind_is, ne_eqb (length (word behind)) 0 (λ q. n (omega arith)), long, word_front behind)
