-- One number more of a section: what is still to be read decides.
use Rattle.std.specs.Prelude.{ℕ, zero, suc, ◌+◌, ◌-◌, ◌≤◌, ◌<◌, List, ◌≡◌, Result, Ok, Err, Some, None, length, get_or, set}
use Rattle.std.proofs.Common.{sym, ap, add-one}
use Rattle.std.proofs.lemmas.Grind.{common_steps}
use native.Mathlib.Omega.{arith}
use Rattle.std.proofs.lemmas.List.Edits.{sets}
use Rattle.rules.specs.Text.{Number, number_at, onward, Numbers, all_read, fault, ahead, numbers_at}
use Rattle.rules.specs.declared.Refusal.{Refusal}
use Rattle.rules.specs.declared.Refusal.TheVariants.{BadText}
use Rattle.text.specs.Reading.{kept, next_of, end_of, Stored}
use Rattle.text.specs.Reading.{section_answer, ReadNumbers}
use Rattle.std.specs.Prelude.{refl, []}
use Rattle.std.proofs.Common.{◌∙◌}

-- a section's answer where i numbers have been read
abbrev pub answer_from : ℕ → Numbers → Result (ℕ × ℕ) Refusal
answer_from i (all_read ns end) = Ok (i + length ns, end)
answer_from i (fault ns why) = Err why

-- what a read leaves, from i on
pub record Left : Type 0 where
  pub answer : Result (ℕ × ℕ) Refusal
  pub out : List ℕ

abbrev pub finish : List ℕ → ℕ → Numbers → Left
finish out i g = record { answer = answer_from i g; out = sets out i (kept g) }

finish_ahead : (out : List ℕ) (i n : ℕ) (g : Numbers) → finish out i (ahead n g) ≡ finish (set out i n) (i + 1) g
finish_ahead out i n (all_read ns end) =
    let q : i + suc (length ns) ≡ suc i + length ns = omega arith in
    rw (add-one, q)
finish_ahead out i n (fault ns why) = rw add-one

-- the next number, where one stands
pub next_ok : (v : Number) (n e : ℕ) → next_of v ≡ Ok (n, e) → v ≡ Ok (Some (n, e))
next_ok (Ok (Some v)) n e q = let z : v ≡ (n, e) = cc in rw z
next_ok (Ok None) n e q = cc
next_ok (Err why) n e q = cc

-- i of the numbers have been read, and the text goes on at p
module _ (t : List ℕ) (count i p : ℕ) (out : List ℕ) where
  module _ (h : i < count) where
    one_left : count - i ≡ suc (count - (i + 1))
    one_left = omega arith

    pub finish_more : (n e : ℕ) → next_of (number_at t p) ≡ Ok (n, e) → finish out i (numbers_at (count - i) t p) ≡ finish (set out i n) (i + 1) (numbers_at (count - (i + 1)) t e)
    unfolding numbers_at
    finish_more n e q = rw (one_left, next_ok (number_at t p) n e q) (finish_ahead out i n (numbers_at (count - (i + 1)) t e))

    pub finish_fault : (why : Refusal) → next_of (number_at t p) ≡ Err why → finish out i (numbers_at (count - i) t p) ≡ record { answer = Err why; out = out }
    unfolding numbers_at
    finish_fault why q = rw one_left (go (number_at t p) q)
      where
        go : (v : Number) → next_of v ≡ Err why → finish out i (onward v (numbers_at (count - (i + 1)) t)) ≡ record { answer = Err why; out = out }
        go (Ok (Some v)) h = cc
        go (Ok None) h = let z : BadText ≡ why = cc in rw z
        go (Err said) h = let z : said ≡ why = cc in rw z

    pub finish_nothing : number_at t p ≡ Ok None → finish out i (numbers_at (count - i) t p) ≡ record { answer = Err BadText; out = out }
    finish_nothing q = finish_fault BadText (ap next_of q)

    pub finish_bad : number_at t p ≡ Err BadText → finish out i (numbers_at (count - i) t p) ≡ record { answer = Err BadText; out = out }
    finish_bad q = finish_fault BadText (ap next_of q)

  pub finish_end : i ≡ count → finish out i (numbers_at (count - i) t p) ≡ record { answer = Ok (count, p); out = out }
  unfolding numbers_at
  finish_end h =
      let q : count - i ≡ 0 = omega arith in
      let z : i + 0 ≡ count = omega arith in
      rw (q, z)

-- where nothing was written through a reference that was lent
pub same_again : (out : List ℕ) (i : ℕ) → i < length out → set out i (get_or out i 0) ≡ out
same_again out i h = grind (arith, common_steps)

-- the place alone, without the count
abbrev pub place_of : Result (ℕ × ℕ) Refusal → Result ℕ Refusal
place_of (Ok (n, end)) = Ok end
place_of (Err why) = Err why

place_zero : (g : Numbers) → place_of (answer_from 0 g) ≡ end_of g
place_zero (all_read ns end) = refl
place_zero (fault ns why) = refl

-- what is left at the end is what the contract says
pub read_end : (g : Numbers) (out out' : List ℕ) (r : Result (ℕ × ℕ) Refusal) → finish out 0 g ≡ record { answer = r; out = out' } → place_of r ≡ end_of g
read_end g out out' r e = sym (ap (λ (x : Left). place_of x.answer) e) ∙ place_zero g

pub read_stored : (g : Numbers) (out out' : List ℕ) (r : Result (ℕ × ℕ) Refusal) → finish out 0 g ≡ record { answer = r; out = out' } → Stored g out out'
read_stored g out out' r e = sym (ap (λ (x : Left). x.out) e)

answer_zero : (g : Numbers) → answer_from 0 g ≡ section_answer g
answer_zero (all_read ns end) = let z : 0 + length ns ≡ length ns = omega arith in rw z
answer_zero (fault ns why) = refl

pub read_is : (g : Numbers) (out out' : List ℕ) (r : Result (ℕ × ℕ) Refusal) → finish out 0 g ≡ record { answer = r; out = out' } → ReadNumbers g out out' r
read_is g out out' r e = record { answer = sym (ap (λ (x : Left). x.answer) e) ∙ answer_zero g; stored = read_stored g out out' r e }

-- a fault at the count
pub refused_is : (g : Numbers) (out : List ℕ) (why : Refusal) → g ≡ fault [] why → ReadNumbers g out out (Err why)
refused_is g out why q = record { answer = rw q; stored = rw q }

-- of k numbers no more than k are read
pub kept_short : (k : ℕ) (t : List ℕ) (at : ℕ) → length (kept (numbers_at k t at)) ≤ k
unfolding numbers_at
kept_short zero t at = omega arith
kept_short (suc k) t at = go (number_at t at) (λ p. kept_short k t p)
  where
    one : (m : ℕ) (g : Numbers) → length (kept g) ≤ k → length (kept (ahead m g)) ≤ suc k
    one m (all_read ns end) h = omega arith
    one m (fault ns why) h = omega arith

    go : (v : Number) → ((p : ℕ) → length (kept (numbers_at k t p)) ≤ k) → length (kept (onward v (numbers_at k t))) ≤ suc k
    go (Ok (Some (m, p))) ih = one m (numbers_at k t p) (ih p)
    go (Ok None) ih = omega arith
    go (Err why) ih = omega arith
