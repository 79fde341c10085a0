-- No entry twice: each number is counted at most once. And the counts of a list in lent words, looked at and cleared again.
use Rattle.std.specs.Prelude.{ℕ, zero, suc, ◌+◌, ◌≤◌, ◌<◌, Bool, true, false, not, List, [], ◌∷◌, ◌≡◌, refl, length, get_or, replicate, T, eqb}
use Rattle.std.proofs.Common.{arith, append-nil, sym, ◌∙◌, drop_of_length-le, T_not, eqb-true}
use Rattle.std.proofs.Math.Decide.{dec_lt}
use Rattle.std.proofs.lemmas.List.{length-replicate}
use Rattle.std.proofs.Math.Dec.{not_T}
use Rattle.rules.specs.Lists.{◌∈◌, all_below}
use Rattle.rules.specs.Inner.Words.{count, filled, bit}
use Rattle.rules.proofs.Facts.Decide.{distinct, injective_iff}
use Rattle.rules.specs.Maps.{Injective}
use Rattle.rules.proofs.Facts.Bools.{and_i, and_e}
use Rattle.rules.specs.Lists.{has}
use Rattle.rules.proofs.Facts.Stores.{bit_same}
use Rattle.rules.proofs.Facts.Counts.{∈-count, count-∈, count_above}
use Rattle.rules.proofs.Facts.Member.{has_e, get_or-∈, has_i, ∈-get_or}
use Rattle.rules.specs.Inner.Loops.{Counted}
use Rattle.rules.proofs.Facts.Tests.{all_below-∈, not_both, ∈-all_below}
use Rattle.rules.specs.Inner.Decides.{Decides}

distinct_once : (l : List ℕ) → T (distinct l) → (v : ℕ) → count v l ≤ 1
unfolding distinct count
distinct_once [] t v = omega arith
distinct_once (a ∷ l) t v = let p = and_e (not (has l a)) (distinct l) t in go (distinct_once l p.1 v) (T_not (has l a) p.0) (eqb a v) refl
  where
    none : ¬ (v ∈ l) → Dec (0 < count v l) → count v l ≡ 0
    none n (yes h) = absurd (n (count-∈ v l h))
    none n (no h) = omega arith

    go : count v l ≤ 1 → ¬ T (has l a) → (b : Bool) → eqb a v ≡ b → bit b + count v l ≤ 1
    go ih n true e = omega (arith, none (λ m. n (rw (eqb-true a v e) (has_i m))) (dec_lt 0 (count v l)))
    go ih n false e = omega arith

once_distinct : (l : List ℕ) → ((v : ℕ) → count v l ≤ 1) → T (distinct l)
unfolding distinct count
once_distinct [] h = tt
once_distinct (a ∷ l) h =
    and_i (not (has l a)) (distinct l) (not_T (has l a) (λ t. omega (arith, h a, bit_same a, ∈-count (has_e l a t)))) (once_distinct l (λ v. omega (arith, h v)))

-- each number once
pub injective_once : (l : List ℕ) → Injective l → (v : ℕ) → count v l ≤ 1
injective_once l h = distinct_once l ((injective_iff l).1 h)

pub once_injective : (l : List ℕ) → ((v : ℕ) → count v l ≤ 1) → Injective l
once_injective l h = (injective_iff l).0 (once_distinct l h)

-- a part that is filled whole
pub filled-all : (n a : ℕ) (l : List ℕ) → length l ≤ n → filled n a l ≡ replicate n a
filled-all n a l h = rw (drop_of_length-le l {i = n} h) (append-nil (replicate n a))

zeros_at : (n v : ℕ) → ◌≡◌ {A = ℕ} (get_or (replicate n 0) v 0) 0
zeros_at zero v = refl
zeros_at (suc n) zero = refl
zeros_at (suc n) (suc v) = zeros_at n v

-- cleared whole
module _ (l z : List ℕ) (e : z ≡ filled (length l) 0 l) where
  pub cleared_length : length z ≡ length l
  cleared_length = rw (e, filled-all (length l) 0 l (omega arith)) (length-replicate (length l) 0)

  pub cleared_at : (v : ℕ) → get_or z v 0 ≡ 0
  cleared_at v = rw (e, filled-all (length l) 0 l (omega arith)) (zeros_at (length l) v)

-- t holds the counts of the entries of l
module _ (l t : List ℕ) (low : (u : ℕ) → u ∈ l → u < length t) (counts : (v : ℕ) → get_or t v 0 ≡ count v l) where
  pub few_injective : all_below t 2 ≡ true → Injective l
  few_injective e = once_injective l (λ v. each v (dec_lt v (length t)))
    where
      each : (v : ℕ) → Dec (v < length t) → count v l ≤ 1
      each v (yes h) = omega (arith, counts v, all_below-∈ e (get_or-∈ t v h))
      each v (no h) = omega (arith, count_above l (length t) v low (omega arith))

  pub many_not : all_below t 2 ≡ false → ¬ Injective l
  many_not e h = not_both (sym e ∙ ∈-all_below t 2 (λ u m. let p = ∈-get_or m in omega (arith, p.there, counts p.place, injective_once l h p.place)))

-- cleared, counted, looked at, cleared
pub injective_decided : (l seen zeros counted last : List ℕ) (r : Bool) → ((u : ℕ) → u ∈ l → u < length seen) → zeros ≡ filled (length seen) 0 seen → Counted l zeros counted
    → r ≡ all_below counted 2 → last ≡ filled (length seen) 0 counted → Decides (Injective l) (length seen) last r
injective_decided l seen zeros counted last r low z c q e =
    record {
      yes = λ t. few_injective l counted below each (sym q ∙ t);
      no = λ t. many_not l counted below each (sym q ∙ t);
      clear = e ∙ filled-all (length seen) 0 counted (omega (arith, long));
    }
  where
    long : length counted ≡ length seen
    long = c.long ∙ cleared_length seen zeros z

    below : (u : ℕ) → u ∈ l → u < length counted
    below u m = omega (arith, low u m, long)

    each : (v : ℕ) → get_or counted v 0 ≡ count v l
    each v = omega (arith, c.each v, cleared_at seen zeros z v)
