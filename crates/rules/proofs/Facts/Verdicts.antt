-- A verdict at a call's returns: refused, or decided in the front of its workspace.
use Rattle.std.specs.Prelude.{ℕ, Bool, List, ◌++◌, ◌≡◌, drop}
use Rattle.std.proofs.Common.{arith, sym}
use Rattle.rules.specs.declared.Refusal.{Refusal}
use Rattle.rules.specs.Refusals.{number}
use Rattle.rules.specs.Inner.Decides.{Decides, Answers}
use Rattle.rules.proofs.Facts.Refusing.{Early, early-left, number-some}
use Rattle.std.specs.Prelude.{Ok, Err}
use Rattle.std.specs.Prelude.{true, false, refl, Result}
use Rattle.rules.specs.Refusals.{refusal_of}

-- yes or no is no refusal, and the other way round
pub given : (r : Bool) → refusal_of (Ok r) ≡ 0
given r = refl

pub yes_is : (r : Bool) → ◌≡◌ {A = Result Bool Refusal} (Ok r) (Ok true) → r ≡ true
yes_is r q = cc

pub no_is : (r : Bool) → ◌≡◌ {A = Result Bool Refusal} (Ok r) (Ok false) → r ≡ false
no_is r q = cc

module _ (P : Type 0) (refused words : ℕ) (ws : List ℕ) where
  pub answers_refused : (why : Refusal) → number why ≡ refused → Early refused → Answers P refused words ws ws (Err why)
  answers_refused why e early =
      record {
        refusal = e;
        yes = λ q. absurd (let z : ◌≡◌ {A = ℕ} 0 1 = cc in omega arith);
        no = λ q. absurd (let z : ◌≡◌ {A = ℕ} 0 1 = cc in omega arith);
        workspace = early-left (number why) words ws (rw e early) (number-some why);
      }

  pub answers_decided : (l : List ℕ) (r : Bool) → refused ≡ 0 → Decides P words l r → Answers P refused words ws (l ++ drop words ws) (Ok r)
  answers_decided l r e p =
      record {
        refusal = sym e;
        yes = λ q. p.yes cc;
        no = λ q. p.no cc;
        workspace = rw p.clear;
      }
