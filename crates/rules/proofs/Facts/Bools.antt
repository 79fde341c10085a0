-- Tests joined by or and and.
use Rattle.std.specs.Prelude.{Bool, true, false, ◌||◌, ◌&&◌, ◌≡◌, refl, ◌⊎◌, T}
use Rattle.std.proofs.Common.{inl, inr}

-- has computes membership
pub is_true : (b : Bool) → T b → b ≡ true
is_true true t = refl
is_true false t = absurd t

pub is_false : (b : Bool) → ¬ T b → b ≡ false
is_false true n = absurd (n tt)
is_false false n = refl

-- T of a disjunction and of a conjunction
pub or_cases : (a b : Bool) → T (a || b) → T a ⊎ T b
or_cases true b t = inl tt
or_cases false b t = inr t

pub or_l : (a b : Bool) → T a → T (a || b)
or_l true b t = tt
or_l false b t = elim t [ ]

pub or_r : (a b : Bool) → T b → T (a || b)
or_r true b t = tt
or_r false b t = t

pub and_i : (a b : Bool) → T a → T b → T (a && b)
and_i true b s t = t
and_i false b s t = elim s [ ]

pub and_e : (a b : Bool) → T (a && b) → T a × T b
and_e true b t = (tt, t)
and_e false b t = elim t [ ]
