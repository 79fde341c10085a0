-- Laws that every call's proof uses: which of a list of refusals is given, and what a refusal leaves in the lent memory.
use Rattle.std.specs.Prelude.{ℕ, zero, suc, ◌≤◌, ◌<◌, Bool, List, [], ◌∷◌, ◌++◌, ◌⊎◌, ◌≡◌}
use Rattle.std.proofs.Common.{arith, inl, inr, ap, ◌∙◌, le-leb, ne_eqb}
use Rattle.std.proofs.Math.Bool.{true, false}
use Rattle.std.proofs.Math.Path.{refl, sym}
use Rattle.std.proofs.lemmas.Bool.{lt-leb}
use Rattle.rules.specs.Lists.{has}
use Rattle.rules.specs.Drawing.{Drawing, Boundary, node_count}
use Rattle.rules.specs.Refusals.{number, refusal_of, first_of, unless, short_room, within, lengths_fit, values_below, bad_lengths, bad_value, early, left_over, written, bad_boundary, boundary_below}
use Rattle.rules.specs.Calls.{drawing_refusal}
use Rattle.rules.specs.Inner.Checks.{lists_refusal, boundary_lists_refusal}
use Rattle.rules.specs.declared.Refusal.{Refusal}
use Rattle.rules.specs.declared.Refusal.TheVariants.{OverLimit, BadLengths, BadValue, BadEntry, TypeMismatchW, TypeMismatchX, NotNaturalW, NotNaturalX, NotNaturalS, NotNaturalT, ShortRoom, BadBoundary, Unplaced, WrongOperation, BadText}
use Rattle.std.specs.Prelude.{Result, Ok, Err}
use Rattle.std.specs.Result.{IsErrAnd}
use Rattle.std.proofs.lemmas.Result.{err_from_is_err_and}

-- a refusal has a number
pub number-some : (why : Refusal) → ¬ (number why ≡ 0)
number-some OverLimit e = omega arith
number-some BadLengths e = omega arith
number-some BadValue e = omega arith
number-some BadEntry e = omega arith
number-some TypeMismatchW e = omega arith
number-some TypeMismatchX e = omega arith
number-some NotNaturalW e = omega arith
number-some NotNaturalX e = omega arith
number-some NotNaturalS e = omega arith
number-some NotNaturalT e = omega arith
number-some ShortRoom e = omega arith
number-some BadBoundary e = omega arith
number-some Unplaced e = omega arith
number-some WrongOperation e = omega arith
number-some BadText e = omega arith

-- what a callee's answer tells, at each arm
pub faulty_number : {A : Type 0} {k : ℕ} (r : Result A Refusal) (why : Refusal) → refusal_of r ≡ k → r ≡ Err why → number why ≡ k
faulty_number r why e q = sym (ap refusal_of q) ∙ e

-- what `?` hands on
pub handed : {A : Type 0} {r : Result A Refusal} {why : Refusal} → IsErrAnd r (λ y. y ≡ why) → r ≡ Err why
handed {r = r} {why} h = let p = err_from_is_err_and r h in p.1 ∙ ap Err p.2

pub fine_none : {A : Type 0} {k : ℕ} {x : A} (r : Result A Refusal) → refusal_of r ≡ k → r ≡ Ok x → k ≡ 0
fine_none r e q = sym e ∙ ap refusal_of q

-- the first of two lists, one behind the other
pub first-append : (l rest : List ℕ) (k : ℕ) → k ≡ first_of l → ¬ (k ≡ 0) → first_of (l ++ rest) ≡ k
first-append [] rest k e n = absurd (n e)
first-append (zero ∷ l) rest k e n = first-append l rest k e n
first-append (suc a ∷ l) rest k e n = sym e

pub first_behind : (l rest : List ℕ) → first_of l ≡ 0 → first_of (l ++ rest) ≡ first_of rest
first_behind [] rest e = refl
first_behind (zero ∷ l) rest e = first_behind l rest e
first_behind (suc a ∷ l) rest e = absurd (omega arith)

pub front_none : (l rest : List ℕ) → first_of (l ++ rest) ≡ 0 → first_of l ≡ 0
front_none [] rest e = refl
front_none (zero ∷ l) rest e = front_none l rest e
front_none (suc a ∷ l) rest e = absurd (omega arith)

-- a test that holds gives none, one that does not gives its number
pub holds : (b : Bool) (k : ℕ) → b ≡ true → unless b k ≡ 0
holds b k e = rw e

pub enough : (need room : ℕ) → need ≤ room → short_room need room ≡ 0
enough need room h = rw (le-leb need room h)

pub short : (need room : ℕ) → room < need → short_room need room ≡ 11
short need room h = rw (lt-leb need room h)

-- Early: none, or one of those that leave the workspace untouched
abbrev pub Early : ℕ → Type 0
Early k = (k ≡ 0) ⊎ (has early k ≡ true)

pub early-unless : (b : Bool) (k : ℕ) → has early k ≡ true → Early (unless b k)
early-unless true k e = inl refl
early-unless false k e = inr e

pub early-first : (a : ℕ) (l : List ℕ) → Early a → Early (first_of l) → Early (first_of (a ∷ l))
early-first zero l p q = q
early-first (suc a) l p q = p

pub early-left : (k words : ℕ) (ws : List ℕ) → Early k → ¬ (k ≡ 0) → ws ≡ left_over k words ws
early-left k words ws (inl e) n = absurd (n e)
early-left k words ws (inr e) n = rw e

-- a refusal keeps an output
pub refused_keeps : (k : ℕ) (new out : List ℕ) → ¬ (k ≡ 0) → out ≡ written k new out
refused_keeps k new out n = rw (ne_eqb k 0 n)

-- 1, 2 and 3 come early
pub drawing-early : (d : Drawing) → Early (drawing_refusal d)
unfolding drawing_refusal
drawing-early d =
    early-first (unless (within d) 1) (bad_lengths d ∷ bad_value d ∷ []) (early-unless (within d) 1 refl)
    (early-first (bad_lengths d) (bad_value d ∷ []) (early-unless (lengths_fit d) 2 refl) (early-first (bad_value d) [] (early-unless (values_below d) 3 refl) (inl refl)))

-- 12 behind 2 and 3
module _ (d : Drawing) (b : Boundary) where
  pub bound_faulty : (why : Refusal) → number why ≡ lists_refusal d → number why ≡ boundary_lists_refusal d b
  unfolding lists_refusal boundary_lists_refusal
  bound_faulty why e = sym (first-append (bad_lengths d ∷ bad_value d ∷ []) (bad_boundary d b ∷ []) (number why) e (number-some why))

  pub bound_tested : (r : Bool) → lists_refusal d ≡ 0 → r ≡ boundary_below (node_count d) b → unless r 12 ≡ boundary_lists_refusal d b
  unfolding lists_refusal boundary_lists_refusal
  bound_tested r e q = sym (first_behind (bad_lengths d ∷ bad_value d ∷ []) (bad_boundary d b ∷ []) e ∙ rw (← q) (alone r))
    where
      alone : (r : Bool) → first_of (unless r 12 ∷ []) ≡ unless r 12
      alone true = refl
      alone false = refl
